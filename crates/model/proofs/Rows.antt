-- Rows that depend on how many stand before them: what is laid out after some elements or bodies is what is laid out after their counts.
use Prim.Native.Nat.{ℕ, ◌+◌, ◌*◌}
use mathlib.Core.Path.{◌≡◌, refl, sym, ap, ap₂, ◌∙◌}
use mathlib.Core.List.{List, [], ◌∷◌, ◌++◌, append_assoc}
use mathlib.Core.Bool.{Bool, true, false}
use native.Mathlib.Omega.{arith}
use lib.Dec.{eqb}
use lib.ListN.{length, length-append}
use Rattle.lists.specs.Lists.{flat}
use Rattle.tables.specs.Records.{corner_width, element_width, body_width, range_width, loop_width, span_width}
use Rattle.tables.proofs.Flat.{flat_append, length-flat}
use Rattle.references.specs.Corner.{Corner}
use Rattle.model.specs.Model.{Kind, plain, free, Body, Part, Loop, Element}
use Rattle.model.specs.Room.{summed, of_kind, part_count}
use Rattle.model.specs.Layout.{corner_row, corner_rows, element_row, element_rows, flag, body_row, body_rows, body_of_kind, bodies_of, range_row, parameter_row, part_row, part_rows, loop_row, span_row, loop_rows, span_rows, beginning}

-- ---- sums
pub summed-append : {A : Type 0} (f : A → ℕ) (xs ys : List A) → summed f (xs ++ ys) ≡ summed f xs + summed f ys
summed-append f [] ys = omega arith
summed-append f (x ∷ xs) ys = let i = summed-append f xs ys in omega arith

-- ---- lengths of what is laid out
pub corners-length : (cs : List Corner) → length (flat corner_row cs) ≡ corner_width * length cs
corners-length = length-flat corner_row corner_width (λ c. refl)

pub corner_rows-length : (es : List Element) → length (flat corner_rows es) ≡ corner_width * summed (λ e. length e.corners) es
corner_rows-length [] = refl
corner_rows-length (e ∷ es) =
    let i = corner_rows-length es in
    let j = corners-length e.corners in
    length-append (corner_rows e) (flat corner_rows es) ∙ (let k : length (corner_rows e) + length (flat corner_rows es) ≡ corner_width * (length e.corners + summed (λ e. length e.corners) es) = omega arith in k)

pub element_rows-length : (c b : ℕ) (es : List Element) → length (element_rows c b es) ≡ element_width * length es
element_rows-length c b [] = refl
element_rows-length c b (e ∷ es) = let i = element_rows-length (c + corner_width * length e.corners) (b + of_kind (λ x. 1) e.kind) es in omega arith

pub body_rows-length : (p l : ℕ) (bs : List Body) → length (body_rows p l bs) ≡ body_width * length bs
body_rows-length p l [] = refl
body_rows-length p l (b ∷ bs) = let i = body_rows-length (p + (length b.us + length b.vs)) (l + part_count b) bs in omega arith

pub range_rows-length : (bs : List Body) → length (flat range_row bs) ≡ range_width * length bs
range_rows-length = length-flat range_row range_width (λ b. refl)

pub parameter_rows-length : (bs : List Body) → length (flat parameter_row bs) ≡ summed (λ b. length b.us + length b.vs) bs
parameter_rows-length [] = refl
parameter_rows-length (b ∷ bs) =
    let i = parameter_rows-length bs in
    let j = length-append b.us b.vs in
    length-append (parameter_row b) (flat parameter_row bs) ∙ (let k : length (parameter_row b) + length (flat parameter_row bs) ≡ length b.us + length b.vs + summed (λ b. length b.us + length b.vs) bs = omega arith in k)

pub part_rows-length : (n : ℕ) (ps : List Part) → length (part_rows n ps) ≡ loop_width * length ps
part_rows-length n [] = refl
part_rows-length n (p ∷ ps) = let i = length-flat (part_row 0) loop_width (λ p. refl) ps in omega arith

pub spans-length : (ps : List Part) → length (flat span_row ps) ≡ span_width * length ps
spans-length = length-flat span_row span_width (λ p. refl)

pub loops-length : (ls : List Loop) → length (flat loop_row ls) ≡ loop_width * summed (λ l. length l.parts) ls
loops-length [] = refl
loops-length (l ∷ ls) =
    let i = loops-length ls in
    let j = part_rows-length (beginning l.hole) l.parts in
    length-append (loop_row l) (flat loop_row ls) ∙ (let k : length (loop_row l) + length (flat loop_row ls) ≡ loop_width * (length l.parts + summed (λ l. length l.parts) ls) = omega arith in k)

pub loop_spans-length : (ls : List Loop) → length (flat (λ l. flat span_row l.parts) ls) ≡ span_width * summed (λ l. length l.parts) ls
loop_spans-length [] = refl
loop_spans-length (l ∷ ls) =
    let i = loop_spans-length ls in
    let j = spans-length l.parts in
    length-append (flat span_row l.parts) (flat (λ l. flat span_row l.parts) ls)
    ∙ (let k : length (flat span_row l.parts) + length (flat (λ l. flat span_row l.parts) ls) ≡ span_width * (length l.parts + summed (λ l. length l.parts) ls) = omega arith in k)

pub loop_rows-length : (bs : List Body) → length (flat loop_rows bs) ≡ loop_width * summed part_count bs
loop_rows-length [] = refl
loop_rows-length (b ∷ bs) =
    let i = loop_rows-length bs in
    let j = loops-length b.loops in
    length-append (loop_rows b) (flat loop_rows bs) ∙ (let k : length (loop_rows b) + length (flat loop_rows bs) ≡ loop_width * (part_count b + summed part_count bs) = omega arith in k)

pub span_rows-length : (bs : List Body) → length (flat span_rows bs) ≡ span_width * summed part_count bs
span_rows-length [] = refl
span_rows-length (b ∷ bs) =
    let i = span_rows-length bs in
    let j = loop_spans-length b.loops in
    length-append (span_rows b) (flat span_rows bs) ∙ (let k : length (span_rows b) + length (flat span_rows bs) ≡ span_width * (part_count b + summed part_count bs) = omega arith in k)

-- ---- one more at the end
pub element_rows-append : (c b : ℕ) (es fs : List Element) →
    element_rows c b (es ++ fs) ≡ element_rows c b es ++ element_rows (c + corner_width * summed (λ e. length e.corners) es) (b + summed (λ e. of_kind (λ x. 1) e.kind) es) fs
element_rows-append c b [] fs = ap₂ (λ (i j : ℕ). element_rows i j fs) (let e : c ≡ c + corner_width * 0 = omega arith in e) (let e : b ≡ b + 0 = omega arith in e)
element_rows-append c b (e ∷ es) fs =
    let k : ℕ = summed (λ e. length e.corners) es in
    let m : ℕ = summed (λ e. of_kind (λ x. 1) e.kind) es in
    let n : ℕ = of_kind (λ x. 1) e.kind in
    ap (λ (l : List ℕ). element_row c b e ++ l) (element_rows-append (c + corner_width * length e.corners) (b + n) es fs)
    ∙ sym (append_assoc (element_row c b e) (element_rows (c + corner_width * length e.corners) (b + n) es) _)
    ∙ ap₂ (λ (i j : ℕ). (element_row c b e ++ element_rows (c + corner_width * length e.corners) (b + n) es) ++ element_rows i j fs)
    (let q : c + corner_width * length e.corners + corner_width * k ≡ c + corner_width * (length e.corners + k) = omega arith in q)
    (let q : b + n + m ≡ b + (n + m) = omega arith in q)

pub body_rows-append : (p l : ℕ) (bs cs : List Body) →
    body_rows p l (bs ++ cs) ≡ body_rows p l bs ++ body_rows (p + summed (λ b. length b.us + length b.vs) bs) (l + summed part_count bs) cs
body_rows-append p l [] cs = ap₂ (λ (i j : ℕ). body_rows i j cs) (let e : p ≡ p + 0 = omega arith in e) (let e : l ≡ l + 0 = omega arith in e)
body_rows-append p l (b ∷ bs) cs =
    let k : ℕ = summed (λ b. length b.us + length b.vs) bs in
    let m : ℕ = summed part_count bs in
    let n : ℕ = length b.us + length b.vs in
    ap (λ (r : List ℕ). body_row p l b ++ r) (body_rows-append (p + n) (l + part_count b) bs cs)
    ∙ sym (append_assoc (body_row p l b) (body_rows (p + n) (l + part_count b) bs) _)
    ∙ ap₂ (λ (i j : ℕ). (body_row p l b ++ body_rows (p + n) (l + part_count b) bs) ++ body_rows i j cs)
    (let q : p + n + k ≡ p + (n + k) = omega arith in q)
    (let q : l + part_count b + m ≡ l + (part_count b + m) = omega arith in q)

-- ---- the bodies of elements, counted in the elements
pub bodies-append : (es fs : List Element) → bodies_of (es ++ fs) ≡ bodies_of es ++ bodies_of fs
bodies-append es fs = flat_append (λ e. body_of_kind e.kind) es fs

body-sum : (f : Body → ℕ) (k : Kind) → summed f (body_of_kind k) ≡ of_kind f k
body-sum f (plain k) = refl
body-sum f (free b) = omega arith

pub bodies-summed : (f : Body → ℕ) (es : List Element) → summed f (bodies_of es) ≡ summed (λ e. of_kind f e.kind) es
bodies-summed f [] = refl
bodies-summed f (e ∷ es) =
    let i = bodies-summed f es in
    let j = body-sum f e.kind in
    summed-append f (body_of_kind e.kind) (bodies_of es) ∙ (let k : summed f (body_of_kind e.kind) + summed f (bodies_of es) ≡ of_kind f e.kind + summed (λ e. of_kind f e.kind) es = omega arith in k)

pub length-summed : {A : Type 0} (xs : List A) → length xs ≡ summed (λ a. 1) xs
length-summed [] = refl
length-summed (x ∷ xs) = let i = length-summed xs in omega arith

pub bodies-length : (es : List Element) → length (bodies_of es) ≡ summed (λ e. of_kind (λ b. 1) e.kind) es
bodies-length es = length-summed (bodies_of es) ∙ bodies-summed (λ b. 1) es

-- ---- a number told back
pub flag-back : (b : Bool) → eqb (flag b) 1 ≡ b
flag-back true = refl
flag-back false = refl
