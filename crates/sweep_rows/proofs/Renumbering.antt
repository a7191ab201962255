-- Corners renumbered in place: one element's, then all of them, where the elements' corners follow on.
use Prim.Native.Nat.{ℕ, zero, suc, ◌+◌, ◌*◌, ◌≤◌, ◌<◌}
use mathlib.Core.Path.{◌≡◌, refl, sym, ap, ap₂, ◌∙◌}
use mathlib.Core.List.{List}
use mathlib.Core.Bool.{Bool, true, cond}
use native.Mathlib.Decide.{dec_le}
use native.Mathlib.Numerals.{add-one}
use native.Mathlib.Omega.{arith}
use borrow.Author.Tests.{le-leb}
use lib.Dec.{leb}
use lib.ListN.{length, length-append}
use lib.Seq.{sets, length-sets}
use Rattle.lists.proofs.Laws.{sets-append}
use Rattle.tables.specs.Records.{element_in, corner_in, corner_place, corners_end}
use Rattle.tables.specs.declared.Used.{Used}
use Rattle.tables.specs.declared.Corner.{Corner}
use Rattle.tables.specs.declared.CornerRun.{CornerRun}
use Rattle.sweep_marks.specs.Counting.{flat_below}
use Rattle.tables.specs.Rows.{corner_numbers}
use Rattle.sweep_marks.specs.Marks.{corner_by, marked_run, runs_by, corners_upto}
use Rattle.sweep_marks.proofs.FlatBelow.{flat_below-same, flat_below-length}
use Rattle.sweep_rows.proofs.Stored.{get_d-sets-past}

-- a corner that stands past the stores is as it was
corner-past : (l : List ℕ) (i : ℕ) (vs : List ℕ) (at : ℕ) → i + length vs ≤ at → corner_in (sets l i vs) at ≡ corner_in l at
corner-past l i vs at h =
    let a = get_d-sets-past l i vs at 0 h in
    let b = get_d-sets-past l i vs (at + 1) 0 (omega arith) in
    let c = get_d-sets-past l i vs (at + 2) 0 (omega arith) in
    rw (a, b, c)

module _ (used : Used) (numbers : List ℕ) where
  length_run : (l : List ℕ) (kind : ℕ) (run : CornerRun) (n : ℕ) → length (marked_run used numbers l kind run n) ≡ 3 * n
  unfolding marked_run
  length_run l kind run n = flat_below-length _ 3 n (λ j h. refl)

  -- ---- an element: j of its corners
  pub record Renumbered (l m : List ℕ) (kind : ℕ) (run : CornerRun) (j : ℕ) : Type 0 where
    pub within : j ≤ run.count
    pub long : length m ≡ length l
    pub stored : m ≡ sets l run.first (marked_run used numbers l kind run j)

  pub renumbered-none : (l : List ℕ) (kind : ℕ) (run : CornerRun) → Renumbered l l kind run 0
  unfolding marked_run
  renumbered-none l kind run = record { within = omega arith; long = refl; stored = refl }

  module _ {l m : List ℕ} {kind : ℕ} {run : CornerRun} {j : ℕ} (c : Renumbered l m kind run j) (lent : corners_end run ≤ length l) where
    pub renumbered-more : {old new : Corner} {room : Bool} {m' : List ℕ} → j < run.count → old ≡ corner_in m (corner_place run j) → new ≡ corner_by used numbers kind old →
        room ≡ leb (corner_place run j + 3) (length m) → m' ≡ cond room (sets m (corner_place run j) (corner_numbers new)) m → Renumbered l m' kind run (j + 1)
    unfolding marked_run
    renumbered-more {old} {new} {room} {m'} h a b found stored =
        let stores : List ℕ = marked_run used numbers l kind run j in
        let many : length stores ≡ 3 * j = length_run l kind run j in
        let here : old ≡ corner_in l (corner_place run j) =
        a ∙ ap (λ (x : List ℕ). corner_in x (corner_place run j)) c.stored ∙ corner-past l run.first stores (corner_place run j) (omega arith) in
        let fits : room ≡ true = found ∙ le-leb (corner_place run j + 3) (length m) (let e = c.long in omega arith) in
        let next : m' ≡ sets l run.first (marked_run used numbers l kind run (suc j)) =
        stored
        ∙ ap (λ (r : Bool). cond r (sets m (corner_place run j) (corner_numbers new)) m) fits
        ∙ ap₂ (λ (x : List ℕ) (k : Corner). sets x (corner_place run j) (corner_numbers k)) c.stored (b ∙ ap (corner_by used numbers kind) here)
        ∙ ap (λ (k : ℕ). sets (sets l run.first stores) (run.first + k) (corner_numbers (corner_by used numbers kind (corner_in l (corner_place run j))))) (sym many)
        ∙ sym (sets-append l run.first stores (corner_numbers (corner_by used numbers kind (corner_in l (corner_place run j))))) in
        record { within = omega arith; long = ap length next ∙ length-sets l run.first (marked_run used numbers l kind run (suc j)); stored = rw add-one next }

  -- ---- all elements
  module _ (elements : List ℕ) where
    pub length_runs : (l : List ℕ) (n : ℕ) → length (runs_by used numbers elements l n) ≡ corners_upto elements n
    unfolding runs_by
    length_runs l zero = refl
    length_runs l (suc n) =
        let e = element_in elements n in
        let a = length_runs l n in
        let b = length_run l e.kind e.corners e.corners.count in
        length-append (runs_by used numbers elements l n) (marked_run used numbers l e.kind e.corners e.corners.count) ∙ (let z : length (runs_by used numbers elements l n) + length (marked_run used numbers l e.kind e.corners e.corners.count) ≡ corners_upto elements n + 3 * e.corners.count = omega arith in z)

    pub upto-more : (i n : ℕ) → i < n → corners_upto elements i + 3 * (element_in elements i).corners.count ≤ corners_upto elements n
    upto-more i zero h = absurd (omega arith)
    upto-more i (suc n) h = go (dec_le (suc i) n) (upto-more i n)
      where
        go : Dec (suc i ≤ n) → (i < n → corners_upto elements i + 3 * (element_in elements i).corners.count ≤ corners_upto elements n) →
            corners_upto elements i + 3 * (element_in elements i).corners.count ≤ corners_upto elements n + 3 * (element_in elements n).corners.count
        go (yes k) r = let q = r k in omega arith
        go (no k) r = let e : i ≡ n = omega arith in rw e (omega arith)

    pub record RunsRenumbered (l m : List ℕ) (n i : ℕ) : Type 0 where
      pub within : i ≤ n
      pub long : length m ≡ length l
      pub stored : m ≡ sets l 0 (runs_by used numbers elements l i)

    pub runs_none : (l : List ℕ) (n : ℕ) → RunsRenumbered l l n 0
    unfolding runs_by
    runs_none l n = record { within = omega arith; long = refl; stored = refl }

    module _ {l m : List ℕ} {n i : ℕ} (c : RunsRenumbered l m n i) where
      module _ (h : i < n) (follows : (element_in elements i).corners.first ≡ corners_upto elements i) where
        pub run_fits : corners_upto elements n ≤ length l → (element_in elements i).corners.first + 3 * (element_in elements i).corners.count ≤ length m
        run_fits lent = let e = c.long in let q = upto-more i n h in omega arith

        -- the element's corners have not been written yet
        run-same : let e = element_in elements i in marked_run used numbers m e.kind e.corners e.corners.count ≡ marked_run used numbers l e.kind e.corners e.corners.count
        unfolding marked_run
        run-same =
            let e = element_in elements i in
            let runs : List ℕ = runs_by used numbers elements l i in
            let many = length_runs l i in
            flat_below-same _ _ e.corners.count (λ j k.
            ap (λ (x : Corner). corner_numbers (corner_by used numbers e.kind x))
            (ap (λ (x : List ℕ). corner_in x (corner_place e.corners j)) c.stored ∙ corner-past l 0 runs (corner_place e.corners j) (omega arith)))

        pub runs-more : {m' : List ℕ} → (let e = element_in elements i in m' ≡ sets m e.corners.first (marked_run used numbers m e.kind e.corners e.corners.count)) → RunsRenumbered l m' n (i + 1)
        unfolding runs_by
        runs-more {m'} stored =
            let e = element_in elements i in
            let runs : List ℕ = runs_by used numbers elements l i in
            let run : List ℕ = marked_run used numbers l e.kind e.corners e.corners.count in
            let next : m' ≡ sets l 0 (runs_by used numbers elements l (suc i)) =
            stored
            ∙ ap₂ (λ (x : List ℕ) (k : List ℕ). sets x e.corners.first k) c.stored run-same
            ∙ ap (λ (k : ℕ). sets (sets l 0 runs) k run) (let many = length_runs l i in let z : e.corners.first ≡ 0 + length runs = omega arith in z)
            ∙ sym (sets-append l 0 runs run) in
            record { within = omega arith; long = ap length next ∙ length-sets l 0 (runs_by used numbers elements l (suc i)); stored = rw add-one next }

pub corner-of : {c : Corner} {v vt vn : ℕ} → v ≡ c.v → vt ≡ c.vt → vn ≡ c.vn → record { v = v; vt = vt; vn = vn } ≡ c
corner-of a b d = rw (a, b, d)
