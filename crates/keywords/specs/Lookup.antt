-- The tables of spellings as the code holds them, and what their lookups answer.
use Rattle.std.specs.Prelude.{ℕ, List, cond, drop, eqb}
use Rattle.lists.specs.Lists.{flat}
use Rattle.text.specs.Words.{word_of}
use Rattle.text.specs.Rest.{end_of}
use Rattle.spellings.specs.Lookup.{kind_by, line}
use Rattle.keywords.specs.declared.Keyword.{Keyword}
use Rattle.statements.specs.declared.Statement.{Statement}
use Rattle.statements.specs.declared.Statement.TheVariants.{Unknown}
use Rattle.keywords.specs.Keywords.{letter_of, keywords, statement_of}
use Rattle.keywords.specs.declared.Argument.{Argument}
use Rattle.keywords.specs.declared.Argument.TheVariants.{Other}
use Rattle.keywords.specs.Arguments.{sign_of, arguments, argument_of}

-- the kind that a letter of the code's table stands for
unfoldable pub of_letter : ℕ → Statement
of_letter = kind_by letter_of Unknown keywords

-- the code's table
unfoldable pub table_of_keywords : List ℕ
table_of_keywords = flat (line letter_of) keywords

-- the statement of the word at a place and where the word ends; an unknown word's end is not looked for, and its place stands for it
unfoldable pub keyword_at : List ℕ → ℕ → Keyword
keyword_at s at =
    record {
      statement = statement_of (word_of (drop at s));
      end = cond (eqb (letter_of (statement_of (word_of (drop at s)))) 32) at (end_of s at);
    }

-- the kind that a letter of the code's table stands for
unfoldable pub of_sign : ℕ → Argument
of_sign = kind_by sign_of Other arguments

-- the code's table
unfoldable pub table_of_arguments : List ℕ
table_of_arguments = flat (line sign_of) arguments

-- the argument that the word at a place is
unfoldable pub argument_at : List ℕ → ℕ → Argument
argument_at s at = argument_of (word_of (drop at s))
