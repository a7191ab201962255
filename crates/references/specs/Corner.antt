-- Must be believed: a promise reaches every definition of this file.
-- 01: "Corner patterns: p and curv are v; l is v or v/vt; f and surf are v, v/vt, v//vn or v/vt/vn. All corners of a line share one pattern; one that
-- the statement lacks is 6." "A corner is v, vt, vn (0 for none)". "in a word 6 first".
use Rattle.std.specs.Prelude.{ℕ, List, [], ◌∷◌, Bool, cond, ◌&&◌, not, leb, eqb}
-- which parts a statement's corners may have besides v
pub use Rattle.statements.specs.declared.rules.Parts.{Parts}
-- "v, vt, vn (0 for none)"
pub use Rattle.tables.specs.declared.Corner.{Corner}
use Rattle.digits.specs.Said.{Said, says, wrong, must}
use Rattle.references.specs.Reference.{is_reference, refer}

-- how many of each kind there are so far
pub record Counts : Type 0 where
  pub v : ℕ
  pub vt : ℕ
  pub vn : ℕ

abbrev pub onto : ℕ → List (List ℕ) → List (List ℕ)
onto b [] = (b ∷ []) ∷ []
onto b (p ∷ ps) = (b ∷ p) ∷ ps

-- the parts of a word between its slashes: one more than it has slashes
abbrev pub split : List ℕ → List (List ℕ)
split [] = [] ∷ []
split (b ∷ bs) = cond (eqb b 47) ([] ∷ split bs) (onto b (split bs))

-- the whole form comes before any reference
abbrev pub formed : Bool → Bool → Corner → Said Corner
formed form there corner = must form 6 (must there 8 (says corner))

-- v, v/vt, v//vn, v/vt/vn
abbrev pub patterned : Counts → Parts → List (List ℕ) → Said Corner
patterned c k [] = wrong 6
patterned c k (a ∷ []) =
    formed (is_reference a) (leb 1 (refer c.v a)) (record { v = refer c.v a; vt = 0; vn = 0 })
patterned c k (a ∷ b ∷ []) =
    formed (is_reference a && (k.vt && is_reference b)) (leb 1 (refer c.v a) && leb 1 (refer c.vt b))
    (record { v = refer c.v a; vt = refer c.vt b; vn = 0 })
patterned c k (a ∷ [] ∷ d ∷ []) =
    formed (is_reference a && (k.vn && is_reference d)) (leb 1 (refer c.v a) && leb 1 (refer c.vn d))
    (record { v = refer c.v a; vt = 0; vn = refer c.vn d })
patterned c k (a ∷ (x ∷ b) ∷ d ∷ []) =
    formed (is_reference a && ((k.vt && is_reference (x ∷ b)) && (k.vn && is_reference d)))
    (leb 1 (refer c.v a) && (leb 1 (refer c.vt (x ∷ b)) && leb 1 (refer c.vn d)))
    (record { v = refer c.v a; vt = refer c.vt (x ∷ b); vn = refer c.vn d })
patterned c k (a ∷ b ∷ d ∷ e ∷ ps) = wrong 6

unfoldable pub corner_of : Counts → Parts → List ℕ → Said Corner
corner_of c k w = patterned c k (split w)

-- one pattern: the same parts are there
abbrev pub agree : Bool → Bool → Bool
agree a b = cond a b (not b)

abbrev pub alike : Corner → Corner → Bool
alike x y = agree (eqb x.vt 0) (eqb y.vt 0) && agree (eqb x.vn 0) (eqb y.vn 0)
