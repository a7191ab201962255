-- The table of elements, its names apart: what is used of it as the elements give it, and each number of a record read from it.
use Prim.Native.Nat.{ℕ, zero, suc, ◌+◌, ◌*◌, ◌≤◌, ◌<◌}
use mathlib.Core.Path.{◌≡◌, refl, ap, ap₂, ◌∙◌}
use mathlib.Core.List.{List, [], ◌∷◌, ◌++◌}
use lib.ListN.{length, get_or, take, drop, length-take, length-drop, get_or-append}
use lib.Seq.{get_or-take, get_or-drop, get_or-append-add}
use native.Mathlib.Omega.{arith}
use Rattle.text.specs.Written.{bytes_of}
use Rattle.tables.specs.Tables.{Tables}
use Rattle.tables.specs.Records.{element_width, corner_width, number_at, element_in}
use Rattle.model.specs.Model.{Element}
use Rattle.model.specs.Room.{of_kind}
use Rattle.model.specs.Layout.{listed, kind_number, body_number, element_rows}
use Rattle.model.proofs.Placed.{ElementsStand}
use Rattle.tidy_form.specs.Agree.{words_at, unnamed, names_shown}

-- ---- the table of elements, its names apart
abbrev pub fives : ℕ → ℕ → List Element → List ℕ
fives c b [] = []
fives c b (e ∷ es) =
    kind_number e.kind ∷ c ∷ length e.corners ∷ body_number e.kind b ∷ e.names.smoothing
    ∷ fives (c + corner_width * length e.corners) (b + of_kind (λ x. 1) e.kind) es

pub unnamed-is : (c b : ℕ) (es : List Element) (z : List ℕ) → unnamed (length es) (element_rows c b es ++ z) ≡ fives c b es
unnamed-is c b [] z = refl
unnamed-is c b (e ∷ es) z =
    ap (λ (r : List ℕ). kind_number e.kind ∷ c ∷ length e.corners ∷ body_number e.kind b ∷ e.names.smoothing ∷ r)
    (unnamed-is (c + corner_width * length e.corners) (b + of_kind (λ x. 1) e.kind) es z)

-- the names of elements, as words
abbrev pub names_of : List Element → List (List (List ℕ))
names_of [] = []
names_of (e ∷ es) = bytes_of e.names.group ∷ bytes_of (listed e.names.material) ∷ names_of es

pub names_in : (t : List ℕ) (c b : ℕ) (es : List Element) (z : List ℕ) → ElementsStand t es → names_shown t (length es) (element_rows c b es ++ z) ≡ names_of es
names_in t c b [] z h = refl
names_in t c b (e ∷ es) z h =
    ap₂ (λ (x y : List (List ℕ)). x ∷ y ∷ names_shown t (length es) (element_rows (c + corner_width * length e.corners) (b + of_kind (λ x. 1) e.kind) es ++ z)) (ap bytes_of h.0.group) (ap bytes_of h.0.material)
    ∙ ap (λ (r : List (List (List ℕ))). bytes_of e.names.group ∷ bytes_of (listed e.names.material) ∷ r) (names_in t (c + corner_width * length e.corners) (b + of_kind (λ x. 1) e.kind) es z h.1)

-- ---- the same tables with another table of elements
abbrev pub with_element_table : List ℕ → Tables → Tables
with_element_table l t = record { vertices = t.vertices; elements = record { corners = t.elements.corners; elements = l }; bodies = t.bodies }

-- ---- read by index
next-record : (l : List ℕ) (i k : ℕ) → number_at element_width (drop element_width l) i k ≡ number_at element_width l (suc i) k
next-record l i k =
    get_or-drop element_width l (element_width * i + k) 0 ∙ ap (λ (n : ℕ). get_or l n 0) (let e : element_width + (element_width * i + k) ≡ element_width * suc i + k = omega arith in e)

pub unnamed-at : (n : ℕ) (l : List ℕ) → element_width * n ≤ length l → (i k : ℕ) → i < n → k < 5 → get_or (unnamed n l) (5 * i + k) 0 ≡ number_at element_width l i k
unnamed-at zero l h i k a b = absurd (omega arith)
unnamed-at (suc n) l h zero k a b =
    let t = length-take 5 l in
    let c : length (take 5 l) ≡ 5 = omega arith in
    ap (λ (j : ℕ). get_or (unnamed (suc n) l) j 0) (let e : 5 * 0 + k ≡ k = omega arith in e)
    ∙ get_or-append (take 5 l) (unnamed n (drop element_width l)) 0 k (omega arith) ∙ get_or-take 5 l k 0 b
    ∙ ap (λ (j : ℕ). get_or l j 0) (let e : k ≡ element_width * 0 + k = omega arith in e)
unnamed-at (suc n) l h (suc i) k a b =
    let t = length-take 5 l in
    let d = length-drop element_width l in
    let c : 5 * suc i + k ≡ length (take 5 l) + (5 * i + k) = omega arith in
    ap (λ (j : ℕ). get_or (unnamed (suc n) l) j 0) c ∙ get_or-append-add (take 5 l) (unnamed n (drop element_width l)) (5 * i + k) 0
    ∙ unnamed-at n (drop element_width l) (omega arith) i k (omega arith) b ∙ next-record l i k

pub group_at : (s : List ℕ) (n : ℕ) (l : List ℕ) (i : ℕ) → i < n → get_or (names_shown s n l) (2 * i) [] ≡ words_at s (element_in l i).group
group_at s zero l i a = absurd (omega arith)
group_at s (suc n) l zero a = refl
group_at s (suc n) l (suc i) a =
    ap (λ (j : ℕ). get_or (names_shown s (suc n) l) j []) (let e : 2 * suc i ≡ suc (suc (2 * i)) = omega arith in e)
    ∙ group_at s n (drop element_width l) i (omega arith) ∙ ap₂ (λ (p q : ℕ). words_at s (record { place = p; length = q })) (next-record l i 5) (next-record l i 6)

pub material-at : (s : List ℕ) (n : ℕ) (l : List ℕ) (i : ℕ) → i < n → get_or (names_shown s n l) (2 * i + 1) [] ≡ words_at s (element_in l i).material
material-at s zero l i a = absurd (omega arith)
material-at s (suc n) l zero a = refl
material-at s (suc n) l (suc i) a =
    ap (λ (j : ℕ). get_or (names_shown s (suc n) l) j []) (let e : 2 * suc i + 1 ≡ suc (suc (2 * i + 1)) = omega arith in e)
    ∙ material-at s n (drop element_width l) i (omega arith) ∙ ap₂ (λ (p q : ℕ). words_at s (record { place = p; length = q })) (next-record l i 7) (next-record l i 8)
