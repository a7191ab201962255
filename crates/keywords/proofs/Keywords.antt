-- The table's bytes are the rows': both are computed.
use Prim.Native.Nat.{ℕ}
use mathlib.Core.Path.{◌≡◌, refl, ◌∙◌}
use mathlib.Core.List.{List}
use mathlib.Core.Bool.{true}
use lib.ListN.{drop}
use Rattle.text.specs.Words.{word_of}
use Rattle.text.specs.Rest.{end_of}
use Rattle.spellings.specs.Rows.{row_of, kind_at, found_by}
use Rattle.spellings.specs.Lookup.{lettered_in}
use Rattle.keywords.specs.Keywords.{letter_of, keywords, statement_of, keyword_of}
use Rattle.keywords.specs.Lookup.{of_letter, table_of_keywords, keyword_at}
use Rattle.spellings.specs.declared.Found.{Found}
use Rattle.statements.specs.declared.VertexKind.TheVariants.{Geometric, Texture, Normal, Parametric}
use Rattle.statements.specs.declared.Shape.TheVariants.{Point, Line, Face}
use Rattle.statements.specs.declared.Free.TheVariants.{Curve, Curve2, Surface}
use Rattle.statements.specs.declared.Carried.TheVariants.{Vertex, Element, Body, Parameters, Trim, Hole, End, BodyType, Degree, Group, Smoothing, Material, PassedOver}
use Rattle.statements.specs.declared.Carried as carried
use Rattle.statements.specs.declared.Statement.{Statement}
use Rattle.statements.specs.declared.Statement.TheVariants.{Carried, Refused, Unknown}
use Rattle.spellings.proofs.Rows.{Laid, marked, found-end}
use Rattle.keywords.proofs.KeywordTable.{all-distinct}

all-marked : marked letter_of keywords ≡ true
unfolding keywords
all-marked = refl

-- a kind is told by its letter
told : (k : Statement) → of_letter (letter_of k) ≡ k
unfolding keywords of_letter
told (Carried (Vertex Geometric)) = refl
told (Carried (Vertex Texture)) = refl
told (Carried (Vertex Normal)) = refl
told (Carried (Vertex Parametric)) = refl
told (Carried BodyType) = refl
told (Carried Degree) = refl
told (Carried (Element Point)) = refl
told (Carried (Element Line)) = refl
told (Carried (Element Face)) = refl
told (Carried (Body Curve)) = refl
told (Carried (Body Curve2)) = refl
told (Carried (Body Surface)) = refl
told (Carried Parameters) = refl
told (Carried Trim) = refl
told (Carried Hole) = refl
told (Carried End) = refl
told (Carried Group) = refl
told (Carried Smoothing) = refl
told (Carried Material) = refl
told (Carried PassedOver) = refl
told Refused = refl
told Unknown = refl

pub laid : Laid letter_of of_letter Unknown keywords table_of_keywords 44
unfolding keywords table_of_keywords
laid = record { many = refl; walked = λ w. refl; no_word = refl; ahead = refl; words = refl; letters = refl; told = told; apart = all-distinct }

pub keyword-is : (s : List ℕ) (at : ℕ) (f : Found) (k : Statement) → f ≡ found_by keywords (word_of (drop at s)) at → k ≡ kind_at Unknown keywords f.row → record { statement = k; end = f.end } ≡ keyword_at s at
unfolding keyword_at statement_of
keyword-is s at f k g l =
    rw (l, g, found-end letter_of Unknown keywords (row_of keywords (word_of (drop at s))) at (end_of s at) refl all-marked) refl

rows-lettered : (k : carried.Carried) → lettered_in 44 table_of_keywords (letter_of (Carried k)) ≡ keyword_of k
unfolding keywords table_of_keywords keyword_of
rows-lettered k = refl

-- the row that is found by a kind's letter has its spelling
pub keyword-row :
    (t : List ℕ) (from letter : ℕ) (k : carried.Carried) → t ≡ table_of_keywords → word_of (drop from t) ≡ lettered_in 44 t letter → letter ≡ letter_of (Carried k) → word_of (drop from t) ≡ keyword_of k
keyword-row t from letter k e w l = w ∙ rw (e, l) (rows-lettered k)
