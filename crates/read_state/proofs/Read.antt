-- What a word was read as, where the reason of a refusal is not asked: by the two kinds of answer.
use Prim.Native.Nat.{ℕ}
use mathlib.Core.Path.{◌≡◌, ap, ◌∙◌}
use mathlib.Core.List.{List}
use native.Mathlib.Omega.{arith}
use Rattle.std.specs.Prelude.{Some, None, Result, Ok, Err}
use Rattle.std.specs.Result.{result_ok}
use Rattle.refusals.specs.declared.Reason.{Reason}
use Rattle.refusals.specs.Reasons.{reason_number}
use Rattle.text.specs.declared.Parsed.{Parsed}
use Rattle.digits.specs.Said.{Said, says, wrong}
use Rattle.digits.specs.Answers.{said, said_name, ends_at}
use Rattle.digits.proofs.Saids.{ended-says, ended-wrong}

module _ {A : Type 0} (x : Said A) (e : ℕ) where
  pub read-says : (r : Result (Parsed A) Reason) {v : Parsed A} → said r ≡ ends_at x e → Some v ≡ result_ok r → (x ≡ says v.value) × (v.next ≡ e)
  read-says (Ok p) {v} g h =
      let k : v ≡ p = cc in
      ended-says x v.value e v.next (ap (λ (w : Parsed A). says (w.value, w.next)) k ∙ g)
  read-says (Err n) g h = absurd (let z : ◌≡◌ {A = ℕ} 0 1 = cc in omega arith)

  pub read-wrong : (r : Result (Parsed A) Reason) → said r ≡ ends_at x e → None ≡ result_ok r → (n : ℕ) × (x ≡ wrong n)
  read-wrong (Ok p) g h = absurd (let z : ◌≡◌ {A = ℕ} 0 1 = cc in omega arith)
  read-wrong (Err n) g h = (reason_number n, ended-wrong x (reason_number n) e g)

-- a name's bytes are those of its word w
module _ (w : List ℕ) (x : Said (List ℕ)) (e : ℕ) where
  pub name-says : (r : Result ℕ Reason) {z : ℕ} → said_name w r ≡ ends_at x e → Some z ≡ result_ok r → (x ≡ says w) × (z ≡ e)
  name-says (Ok p) {z} g h =
      let k : z ≡ p = cc in
      ended-says x w e z (ap (λ (i : ℕ). says (w, i)) k ∙ g)
  name-says (Err n) g h = absurd (let z : ◌≡◌ {A = ℕ} 0 1 = cc in omega arith)

  pub name-wrong : (r : Result ℕ Reason) → said_name w r ≡ ends_at x e → None ≡ result_ok r → (n : ℕ) × (x ≡ wrong n)
  name-wrong (Ok p) g h = absurd (let z : ◌≡◌ {A = ℕ} 0 1 = cc in omega arith)
  name-wrong (Err n) g h = (reason_number n, ended-wrong x (reason_number n) e g)
