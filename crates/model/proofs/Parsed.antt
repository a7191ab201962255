-- What is parsed taken apart: by the first rule that could refuse it.
use Prim.Native.Nat.{ℕ}
use mathlib.Core.Path.{◌≡◌, refl, ap}
use mathlib.Core.Bool.{Bool, true, false}
use mathlib.Core.Option.{Option, none, some}
use native.Mathlib.Omega.{arith}
use Rattle.digits.specs.Said.{Said, says, wrong}
use Rattle.model.specs.Parse.{Parsed, fine, fault, then, must, unless, placed}

module _ {A : Type 0} where
  pub fine-fault : {B : Type 0} {a : A} {n p : ℕ} → fault n p ≡ fine a → B
  fine-fault h = absurd (let z : ◌≡◌ {A = ℕ} 0 1 = cc in omega arith)

  pub fine-is : {a b : A} → fine a ≡ fine b → a ≡ b
  fine-is h = cc

  pub must-fine : (t : Bool) (n p : ℕ) (r : Parsed A) (a : A) → must t n p r ≡ fine a → (t ≡ true) × (r ≡ fine a)
  must-fine true n p r a h = (refl, h)
  must-fine false n p r a h = fine-fault h

  pub unless-fine : (o : Option ℕ) (n : ℕ) (r : Parsed A) (a : A) → unless o n r ≡ fine a → (o ≡ none) × (r ≡ fine a)
  unless-fine none n r a h = (refl, h)
  unless-fine (some p) n r a h = fine-fault h

  pub then-fine : {C : Type 0} (r : Parsed C) (k : C → Parsed A) (a : A) → then r k ≡ fine a → (c : C) × (r ≡ fine c) × (k c ≡ fine a)
  then-fine (fine c) k a h = (c, refl, h)
  then-fine (fault n p) k a h = fine-fault h

  pub placed-fine : (s : Said A) (p : ℕ) (a : A) → placed s p ≡ fine a → s ≡ says a
  placed-fine (says b) p a h = let z : b ≡ a = fine-is h in ap says z
  placed-fine (wrong n) p a h = fine-fault h
