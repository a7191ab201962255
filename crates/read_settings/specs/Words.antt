-- What the code finds of a settings line's words: where the first two stand and how many there are; or the run of its names.
use Rattle.std.specs.Prelude.{ℕ, ◌≤◌, ◌≡◌, List, [], ◌∷◌, Bool, true, false, cond, length, Option as Answer, Some, None}
use Rattle.std.proofs.Math.Option.{Option, none, some}
use Rattle.lists.specs.Lists.{all}
use Rattle.text.specs.Words.{Word}
use Rattle.text.specs.declared.Parsed.{Parsed}
use Rattle.text.specs.Rest.{Rest, word_at}
use Rattle.digits.specs.Said.{Said, says, wrong}
use Rattle.digits.specs.Degree.{name_of}
use Rattle.model.specs.Layout.{run_of}
use Rattle.tables.specs.declared.NameRun.{NameRun}
use Rattle.statements.specs.declared.rules.Count.{Count}
use Rattle.statements.specs.Rules.{counted_by}
use Rattle.read_settings.specs.declared.words.Line.{Line}
use Rattle.read_settings.specs.declared.words.NamesRead.{NamesRead}

-- what the line gives where no byte of it is refused, and what else
abbrev pub on_fine : {A : Type 0} → Option ℕ → A → A → A
on_fine none a r = a
on_fine (some p) a r = r

abbrev pub said_or : {A C : Type 0} → Said A → (A → C) → C → C
said_or (says a) f c = f a
said_or (wrong n) f c = c

-- ---- words by their places in the text s
abbrev pub BeginsAt : List ℕ → ℕ → ℕ → List Word → Type 0
BeginsAt s first second [] = Unit {0}
BeginsAt s first second (w ∷ []) = w ≡ word_at s first
BeginsAt s first second (w ∷ v ∷ ws) = (w ≡ word_at s first) × (v ≡ word_at s second)

pub record LineAt (s : List ℕ) (x : Rest) (first second count behind : ℕ) : Type 0 where
  pub begins : BeginsAt s first second x.words
  pub counted : count ≡ length x.words
  pub fine : x.bad ≡ none
  pub next : x.next ≡ behind
  pub first-in : first ≤ length s
  pub second-in : second ≤ length s

abbrev pub SettingLineIs : List ℕ → Rest → Answer Line → Type 0
SettingLineIs s x (Some l) = LineAt s x l.first l.second l.count l.next
SettingLineIs s x None = x.bad ≡ none → ⊥

-- with as many words as are allowed
abbrev pub CountedLineIs : Count → List ℕ → Rest → Answer Line → Type 0
CountedLineIs c s x (Some l) = LineAt s x l.first l.second l.count l.next × (true ≡ counted_by c l.count)
CountedLineIs c s x None = x.bad ≡ none → counted_by c (length x.words) ≡ false

-- ---- names: "from the first name to the last"
abbrev pub is_name : Word → Bool
is_name w = said_or (name_of w.bytes) (λ b. true) false

abbrev pub run-read : NameRun → ℕ → ℕ → Answer NamesRead
run-read r n q = Some (record { run = r; count = n; next = q })

abbrev pub names_read : Rest → Answer NamesRead
names_read x = cond (all is_name x.words) (on_fine x.bad (run-read (run_of x.words) (length x.words) x.next) None) None

-- as many as are allowed
abbrev pub names_counted : Count → Answer NamesRead → Answer (Parsed NameRun)
names_counted c None = None
names_counted c (Some r) = cond (counted_by c r.count) (Some (record { value = r.run; next = r.next })) None
