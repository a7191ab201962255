-- What an answer with an end says of the word: by the two kinds of answer.
use Prim.Native.Nat.{ℕ}
use mathlib.Core.Path.{◌≡◌, refl, sym, ap}
use mathlib.Core.Bool.{Bool, true, false}
use native.Mathlib.Omega.{arith}
use Rattle.digits.specs.Said.{Said, says, wrong, must}
use Rattle.digits.specs.Answers.{ends_at}

module _ {A : Type 0} where
  pub says-ends : (x : Said A) (a : A) (e b : ℕ) → x ≡ says a → b ≡ e → says (a, b) ≡ ends_at x e
  says-ends x a e b h k = rw (h, k) refl

  pub unsaid : (x : Said A) (n e : ℕ) → x ≡ wrong n → wrong n ≡ ends_at x e
  unsaid x n e h = rw h refl

  pub ended-says : (x : Said A) (a : A) (e b : ℕ) → says (a, b) ≡ ends_at x e → (x ≡ says a) × (b ≡ e)
  ended-says (says c) a e b h = let p : ◌≡◌ {A = A × ℕ} (a, b) (c, e) = cc in (ap says (sym (ap (λ (q : A × ℕ). q.0) p)), ap (λ (q : A × ℕ). q.1) p)
  ended-says (wrong n) a e b h = absurd (let z : ◌≡◌ {A = ℕ} 0 1 = cc in omega arith)

  pub ended-wrong : (x : Said A) (n e : ℕ) → wrong n ≡ ends_at x e → x ≡ wrong n
  ended-wrong (says c) n e h = absurd (let z : ◌≡◌ {A = ℕ} 0 1 = cc in omega arith)
  ended-wrong (wrong m) n e h = let z : m ≡ n = cc in ap wrong z

  pub must-says : (t : Bool) (n : ℕ) (x : Said A) (a : A) → must t n x ≡ says a → (t ≡ true) × (x ≡ says a)
  must-says true n x a h = (refl, h)
  must-says false n x a h = absurd (let z : ◌≡◌ {A = ℕ} 0 1 = cc in omega arith)

  pub must-both : (t u : Bool) (n m : ℕ) (a b : A) → must t n (must u m (says a)) ≡ says b → (t ≡ true) × (u ≡ true) × (a ≡ b)
  must-both t u n m a b h =
      let p = must-says t n (must u m (says a)) b h in
      let q = must-says u m (says a) b p.1 in
      (p.0, q.0, (let y = q.1 in cc))

  pub must-wrong : (t : Bool) (n : ℕ) (a : A) (m : ℕ) → must t n (says a) ≡ wrong m → t ≡ false
  must-wrong true n a m h = absurd (let z : ◌≡◌ {A = ℕ} 0 1 = cc in omega arith)
  must-wrong false n a m h = refl
