-- A body that passed is stored: its parameters one after the other, its record, and its range as it is settled.
use Prim.Native.Nat.{ℕ, ◌+◌, ◌*◌, ◌-◌, ◌≤◌, ◌<◌}
use native.Mathlib.Nat.{add-zero}
use native.Mathlib.Omega.{arith}
use mathlib.Core.Path.{◌≡◌, refl, sym, ap, ◌∙◌}
use mathlib.Core.List.{List, [], ◌∷◌, ◌++◌}
use mathlib.Core.Bool.{Bool, true, false, cond}
use mathlib.Core.Logic.{⊎_elim}
use borrow.Author.Tests.{ne_eqb, eqb-true, eqb-false, le-leb}
use lib.ListN.{length, get_or, take}
use lib.Seq.{sets, take-length, length-sets}
use lib.Dec.{eqb, leb}
use lib.IntN.{ℤ, pos}
use Rattle.lists.proofs.Tests.{test}
use Rattle.std.specs.Prelude.{Result}
use Rattle.refusals.specs.declared.Reason.{Reason}
use Rattle.tables.specs.Records.{body_in}
use Rattle.tables.specs.declared.Used.{Used}
use Rattle.tables.specs.declared.Body as Record
use Rattle.model.specs.Model.{Body}
use Rattle.read_state.specs.declared.Form.{Form}
use Rattle.read_state.specs.declared.Open.{Open}
use Rattle.read_bodies.specs.Numbers.{numbers_at}
use Rattle.tables.specs.Rows.{body_numbers, range_numbers}
use Rattle.read_bodies.specs.Closing.{parm_of, body_for, closing_refusal, Passed, BodyCheckIs, stored_body, Stored, NotStored}
use Rattle.read_bodies.specs.declared.closing.Checked.{Checked}
use Rattle.read_bodies.proofs.Closings.{parm-none, parm-some, settled-rest}

-- ---- the parameters of a direction
pub parm-take : (s : List ℕ) (at : ℕ) {n : ℕ} → n ≡ length (parm_of s at) → take n (numbers_at s at) ≡ parm_of s at
parm-take s at {n} h =
    ⊎_elim
    (λ (e : eqb at 0 ≡ true).
    let p = parm-none s at (eqb-true at 0 e) in
    let z : n ≡ 0 = h ∙ ap length p in
    ap (λ (k : ℕ). take k (numbers_at s at)) z ∙ sym p)
    (λ (e : eqb at 0 ≡ false).
    let p = parm-some s at (eqb-false at 0 e) in
    ap (λ (k : ℕ). take k (numbers_at s at)) (h ∙ ap length p) ∙ take-length (numbers_at s at) ∙ sym p)
    (test (eqb at 0))

-- ---- a record among those whose room was asked for
pub record-put :
    {A : Type 0} (w b : ℕ) (l : List A) (vs : List A) {m : List A} {r : Bool} → 1 ≤ b → w * b ≤ length l →
    r ≡ leb (w * (b - 1) + w) (length l) → m ≡ cond r (sets l (w * (b - 1)) vs) l → m ≡ sets l (w * (b - 1)) vs
record-put w b l vs {m} {r} h k e f =
    let d : b ≡ (b - 1) + 1 = omega arith in
    let g : w * b ≡ w * ((b - 1) + 1) = ap (λ (n : ℕ). w * n) d in
    f ∙ ap (λ (t : Bool). cond t (sets l (w * (b - 1)) vs) l) (e ∙ le-leb (w * (b - 1) + w) (length l) (omega arith))

pub row4 : {a b c d a₂ b₂ c₂ d₂ : ℤ} → a ≡ a₂ → b ≡ b₂ → c ≡ c₂ → d ≡ d₂ → ◌≡◌ {A = List ℤ} (a ∷ b ∷ c ∷ d ∷ []) (a₂ ∷ b₂ ∷ c₂ ∷ d₂ ∷ [])
row4 p q r s = cc

-- ---- `close_body`
-- the range of the open body, as it stands
pub range-of : (bodies : List ℕ) (ranges : List ℤ) (i : ℕ) {b : Record.Body} → b ≡ body_in bodies ranges i
    → (b.start_u ≡ get_or ranges (4 * i) (pos 0)) × (b.end_u ≡ get_or ranges (4 * i + 1) (pos 0)) × (b.start_v ≡ get_or ranges (4 * i + 2) (pos 0)) × (b.end_v ≡ get_or ranges (4 * i + 3) (pos 0))
range-of bodies ranges i e = (
  ap (λ (b : Record.Body). b.start_u) e ∙ ap (λ (n : ℕ). get_or ranges n (pos 0)) (add-zero (4 * i)),
  ap (λ (b : Record.Body). b.end_u) e,
  ap (λ (b : Record.Body). b.start_v) e,
  ap (λ (b : Record.Body). b.end_v) e,
)

pub judged-to :
    (f : Form) (kind : ℕ) (us vs : List ℤ) {a b c d a₂ b₂ c₂ d₂ : ℤ} (k : ℕ) (r : Result Checked Reason) → a₂ ≡ a → b₂ ≡ b → c₂ ≡ c → d₂ ≡ d →
    BodyCheckIs (body_for f kind us vs a₂ b₂ c₂ d₂) k r → BodyCheckIs (body_for f kind us vs a b c d) k r
judged-to f kind us vs k r p q x y j = rw (p, q, x, y) at j

module _ (f : Form) (o : Open) (used : Used) (b : Body) (l : List ℕ) (r p : List ℤ) {x : List ℤ} where
  pub not-kept : {n : ℕ} → (closing_refusal b o.controls ≡ n) × (0 < n) → length x ≡ length p → NotStored o used b l l r r p x n
  not-kept {n} h same =
      let e = h.0 in
      let g = h.1 in
      let z : eqb n 0 ≡ false = ne_eqb n 0 (λ i. absurd (omega arith)) in
      record {
        number = sym (ap (λ (m : ℕ). cond (eqb m 0) 14 m) e ∙ ap (λ (t : Bool). cond t 14 n) z);
        short = λ i. absurd (omega arith);
        same = refl;
        same-ranges = refl;
        same-parameters = same;
      }

  module _ {u v : ℕ} {s e : ℤ} (w : Passed b o.controls u v s e) (k : x ≡ sets p used.parameters (b.us ++ b.vs)) where
    same_length : length x ≡ length p
    same_length = ap length k ∙ length-sets p used.parameters (b.us ++ b.vs)

    pub no-parameters : length x < used.parameters + u + v → NotStored o used b l l r r p x 14
    no-parameters h =
        let z = same_length in
        let hu = w.count-u in
        let hv = w.count-v in
        record {
          number = sym (ap (λ (m : ℕ). cond (eqb m 0) 14 m) w.none-wrong);
          short = λ i. omega arith;
          same = refl;
          same-ranges = refl;
          same-parameters = z;
        }

    pub kept :
        used.parameters + u + v ≤ length x → {m : List ℕ} {q : List ℤ} {s₂ e₂ c d : ℤ} → m ≡ sets l (9 * (used.bodies - 1)) (body_numbers (stored_body f o used u v s₂ e₂ c d)) →
        q ≡ sets r (4 * (used.bodies - 1)) (range_numbers (stored_body f o used u v s₂ e₂ c d)) → s₂ ≡ s → e₂ ≡ e → c ≡ b.start-v → d ≡ b.end-v →
        Stored f o used b l m r q p x u v
    kept h {m} {q} a₁ a₂ i₁ i₂ i₃ i₄ =
        let z = same_length in
        let hu = w.count-u in
        let hv = w.count-v in
        let rest = settled-rest b.free b in
        record {
          none-wrong = w.none-wrong;
          count-u = hu;
          count-v = hv;
          room = omega arith;
          parameters = k;
          body = a₁;
          range = a₂ ∙ ap (sets r (4 * (used.bodies - 1))) (row4 (i₁ ∙ w.starts) (i₂ ∙ w.ends) (i₃ ∙ sym rest.0) (i₄ ∙ sym rest.1));
        }
