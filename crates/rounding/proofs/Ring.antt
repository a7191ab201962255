-- Identities of commutative rings over ℤ, decided by computing: `ring (a ∷ b ∷ []) (λ a b. a ⊗ b ≐ b ⊗ a) tt` proves that a *ℤ b ≡ b *ℤ a.
use mathlib.Core.Path.{◌≡◌, refl, sym, ◌∙◌, ap, ap₂}
use mathlib.Core.Bool.{Bool, true, false, ◌&&◌}
use mathlib.Core.List.{List, [], ◌∷◌}
use Prim.Native.Nat.{ℕ, zero, suc}
use lib.Dec.{T, eqb, eqb→eq}
use lib.ListN.{length, get_or}
use lib.IntN.{ℤ, pos, negsuc, neg_ℤ, ◌+ℤ◌, ◌-ℤ◌, ◌*ℤ◌, +ℤ_idl, +ℤ_idr, zero-*ℤ, *ℤ-zero, *ℤ_comm, neg_ℤ-+ℤ, *ℤ-one, one}
use Rattle.rounding.proofs.IntLaws.{add-*ℤ, *ℤ-add, *ℤ-assoc, *ℤ-left, neg-*ℤ, +ℤ-mid, sub-eq}

infixl 6 ◌⊕◌
infixl 6 ◌⊝◌
infixl 7 ◌⊗◌
pub data Exp : Type 0 where
  X : ℕ → Exp
  K : ℤ → Exp
  ◌⊕◌ : Exp → Exp → Exp
  ◌⊝◌ : Exp → Exp → Exp
  ◌⊗◌ : Exp → Exp → Exp
  ⊖ : Exp → Exp

abbrev pub ⟦◌⟧ : Exp → List ℤ → ℤ
⟦◌⟧ (X i) ρ = get_or ρ i (pos 0)
⟦◌⟧ (K z) ρ = z
⟦◌⟧ (a ⊕ b) ρ = ⟦◌⟧ a ρ +ℤ ⟦◌⟧ b ρ
⟦◌⟧ (a ⊝ b) ρ = ⟦◌⟧ a ρ -ℤ ⟦◌⟧ b ρ
⟦◌⟧ (a ⊗ b) ρ = ⟦◌⟧ a ρ *ℤ ⟦◌⟧ b ρ
⟦◌⟧ (⊖ a) ρ = neg_ℤ (⟦◌⟧ a ρ)

-- ---- polynomials: of no variable a number, of one more a list of coefficients, the constant's first
abbrev pub Poly : ℕ → Type 0
Poly zero = ℤ
Poly (suc n) = List (Poly n)

abbrev pub add_l : {A : Type 0} → (A → A → A) → List A → List A → List A
add_l f [] ys = ys
add_l f (x ∷ xs) [] = x ∷ xs
add_l f (x ∷ xs) (y ∷ ys) = f x y ∷ add_l f xs ys

abbrev pub map_l : {A : Type 0} → (A → A) → List A → List A
map_l f [] = []
map_l f (x ∷ xs) = f x ∷ map_l f xs

abbrev pub mul_l : {A : Type 0} → A → (A → A → A) → (A → A → A) → List A → List A → List A
mul_l z f g [] ys = []
mul_l z f g (x ∷ xs) ys = add_l f (map_l (g x) ys) (z ∷ mul_l z f g xs ys)

abbrev pub con : (n : ℕ) → ℤ → Poly n
con zero z = z
con (suc n) z = con n z ∷ []

abbrev pub add : (n : ℕ) → Poly n → Poly n → Poly n
add zero p q = p +ℤ q
add (suc n) p q = add_l (add n) p q

abbrev pub mul : (n : ℕ) → Poly n → Poly n → Poly n
mul zero p q = p *ℤ q
mul (suc n) p q = mul_l (con n (pos 0)) (add n) (mul n) p q

abbrev pub neg : (n : ℕ) → Poly n → Poly n
neg zero p = neg_ℤ p
neg (suc n) p = map_l (neg n) p

abbrev pub var : (n i : ℕ) → Poly n
var zero i = pos 0
var (suc n) zero = con n (pos 0) ∷ con n (pos 1) ∷ []
var (suc n) (suc i) = var n i ∷ []

abbrev pub norm : (n : ℕ) → Exp → Poly n
norm n (X i) = var n i
norm n (K z) = con n z
norm n (a ⊕ b) = add n (norm n a) (norm n b)
norm n (a ⊝ b) = add n (norm n a) (neg n (norm n b))
norm n (a ⊗ b) = mul n (norm n a) (norm n b)
norm n (⊖ a) = neg n (norm n a)

abbrev pub zeroℤ : ℤ → Bool
zeroℤ (pos n) = eqb n 0
zeroℤ (negsuc n) = false

abbrev pub all_l : {A : Type 0} → (A → Bool) → List A → Bool
all_l f [] = true
all_l f (x ∷ xs) = f x && all_l f xs

abbrev pub is_zero : (n : ℕ) → Poly n → Bool
is_zero zero p = zeroℤ p
is_zero (suc n) p = all_l (is_zero n) p

-- ---- what a polynomial stands for
abbrev ev_l : {A : Type 0} → (A → ℤ) → ℤ → List A → ℤ
ev_l f x [] = pos 0
ev_l f x (c ∷ cs) = f c +ℤ x *ℤ ev_l f x cs

abbrev ev : (ρ : List ℤ) → Poly (length ρ) → ℤ
ev [] p = p
ev (x ∷ ρ) p = ev_l (ev ρ) x p

ev_l-add : {A : Type 0} (h : A → ℤ) (x : ℤ) (f : A → A → A) → ((a b : A) → h (f a b) ≡ h a +ℤ h b)
    → (p q : List A) → ev_l h x (add_l f p q) ≡ ev_l h x p +ℤ ev_l h x q
ev_l-add h x f k [] q = sym (+ℤ_idl (ev_l h x q))
ev_l-add h x f k (a ∷ p) [] = sym (+ℤ_idr (ev_l h x (a ∷ p)))
ev_l-add h x f k (a ∷ p) (b ∷ q) =
    ap₂ ◌+ℤ◌ (k a b) (ap (λ t. x *ℤ t) (ev_l-add h x f k p q) ∙ *ℤ-add x (ev_l h x p) (ev_l h x q))
    ∙ +ℤ-mid (h a) (h b) (x *ℤ ev_l h x p) (x *ℤ ev_l h x q)

ev_l-scale : {A : Type 0} (h : A → ℤ) (x : ℤ) (g : A → A) (s : ℤ) → ((b : A) → h (g b) ≡ s *ℤ h b)
    → (q : List A) → ev_l h x (map_l g q) ≡ s *ℤ ev_l h x q
ev_l-scale h x g s k [] = sym (*ℤ-zero s)
ev_l-scale h x g s k (b ∷ q) =
    ap₂ ◌+ℤ◌ (k b) (ap (λ t. x *ℤ t) (ev_l-scale h x g s k q) ∙ *ℤ-left x s (ev_l h x q))
    ∙ sym (*ℤ-add s (h b) (x *ℤ ev_l h x q))

ev_l-mul : {A : Type 0} (h : A → ℤ) (x : ℤ) (z : A) (f g : A → A → A) → h z ≡ pos 0 → ((a b : A) → h (f a b) ≡ h a +ℤ h b)
    → ((a b : A) → h (g a b) ≡ h a *ℤ h b) → (p q : List A) → ev_l h x (mul_l z f g p q) ≡ ev_l h x p *ℤ ev_l h x q
ev_l-mul h x z f g e k l [] q = sym (zero-*ℤ (ev_l h x q))
ev_l-mul h x z f g e k l (a ∷ p) q =
    ev_l-add h x f k (map_l (g a) q) (z ∷ mul_l z f g p q)
    ∙ ap₂ ◌+ℤ◌ (ev_l-scale h x (g a) (h a) (l a) q)
    (ap₂ ◌+ℤ◌ e (ap (λ t. x *ℤ t) (ev_l-mul h x z f g e k l p q) ∙ sym (*ℤ-assoc x (ev_l h x p) (ev_l h x q))) ∙ +ℤ_idl (x *ℤ ev_l h x p *ℤ ev_l h x q))
    ∙ sym (add-*ℤ (h a) (x *ℤ ev_l h x p) (ev_l h x q))

ev_l-neg : {A : Type 0} (h : A → ℤ) (x : ℤ) (g : A → A) → ((b : A) → h (g b) ≡ neg_ℤ (h b))
    → (q : List A) → ev_l h x (map_l g q) ≡ neg_ℤ (ev_l h x q)
ev_l-neg h x g k [] = refl
ev_l-neg h x g k (b ∷ q) =
    ap₂ ◌+ℤ◌ (k b) (ap (λ t. x *ℤ t) (ev_l-neg h x g k q) ∙ *ℤ_comm x (neg_ℤ (ev_l h x q)) ∙ neg-*ℤ (ev_l h x q) x ∙ ap neg_ℤ (*ℤ_comm (ev_l h x q) x))
    ∙ sym (neg_ℤ-+ℤ (h b) (x *ℤ ev_l h x q))

one-coef : (x c : ℤ) → c +ℤ x *ℤ pos 0 ≡ c
one-coef x c = ap (λ t. c +ℤ t) (*ℤ-zero x) ∙ +ℤ_idr c

ev-con : (ρ : List ℤ) (z : ℤ) → ev ρ (con (length ρ) z) ≡ z
ev-con [] z = refl
ev-con (x ∷ ρ) z = one-coef x (ev ρ (con (length ρ) z)) ∙ ev-con ρ z

ev-add : (ρ : List ℤ) (p q : Poly (length ρ)) → ev ρ (add (length ρ) p q) ≡ ev ρ p +ℤ ev ρ q
ev-add [] p q = refl
ev-add (x ∷ ρ) p q = ev_l-add (ev ρ) x (add (length ρ)) (ev-add ρ) p q

ev-mul : (ρ : List ℤ) (p q : Poly (length ρ)) → ev ρ (mul (length ρ) p q) ≡ ev ρ p *ℤ ev ρ q
ev-mul [] p q = refl
ev-mul (x ∷ ρ) p q = ev_l-mul (ev ρ) x (con (length ρ) (pos 0)) (add (length ρ)) (mul (length ρ)) (ev-con ρ (pos 0)) (ev-add ρ) (ev-mul ρ) p q

ev-neg : (ρ : List ℤ) (p : Poly (length ρ)) → ev ρ (neg (length ρ) p) ≡ neg_ℤ (ev ρ p)
ev-neg [] p = refl
ev-neg (x ∷ ρ) p = ev_l-neg (ev ρ) x (neg (length ρ)) (ev-neg ρ) p

times-one : (x : ℤ) → x *ℤ pos 1 ≡ x
unfolding one
times-one x = *ℤ-one x

ev-var : (ρ : List ℤ) (i : ℕ) → ev ρ (var (length ρ) i) ≡ get_or ρ i (pos 0)
ev-var [] i = refl
ev-var (x ∷ ρ) zero =
    ap₂ (λ a b. a +ℤ x *ℤ (b +ℤ x *ℤ pos 0)) (ev-con ρ (pos 0)) (ev-con ρ (pos 1))
    ∙ +ℤ_idl (x *ℤ (pos 1 +ℤ x *ℤ pos 0)) ∙ ap (λ t. x *ℤ t) (one-coef x (pos 1)) ∙ times-one x
ev-var (x ∷ ρ) (suc i) = one-coef x (ev ρ (var (length ρ) i)) ∙ ev-var ρ i

sound : (ρ : List ℤ) (e : Exp) → ev ρ (norm (length ρ) e) ≡ ⟦◌⟧ e ρ
sound ρ (X i) = ev-var ρ i
sound ρ (K z) = ev-con ρ z
sound ρ (a ⊕ b) = ev-add ρ (norm (length ρ) a) (norm (length ρ) b) ∙ ap₂ ◌+ℤ◌ (sound ρ a) (sound ρ b)
sound ρ (a ⊝ b) = ev-add ρ (norm (length ρ) a) (neg (length ρ) (norm (length ρ) b)) ∙ ap₂ ◌+ℤ◌ (sound ρ a) (ev-neg ρ (norm (length ρ) b) ∙ ap neg_ℤ (sound ρ b))
sound ρ (a ⊗ b) = ev-mul ρ (norm (length ρ) a) (norm (length ρ) b) ∙ ap₂ ◌*ℤ◌ (sound ρ a) (sound ρ b)
sound ρ (⊖ a) = ev-neg ρ (norm (length ρ) a) ∙ ap neg_ℤ (sound ρ a)

both : (a b : Bool) → T (a && b) → T a × T b
both true true t = (tt, tt)
both true false t = absurd t
both false b t = absurd t

zeroℤ-ok : (z : ℤ) → T (zeroℤ z) → z ≡ pos 0
zeroℤ-ok (pos n) t = ap pos (eqb→eq n 0 t)
zeroℤ-ok (negsuc n) t = absurd t

all_l-ok : {A : Type 0} (h : A → ℤ) (x : ℤ) (f : A → Bool) → ((a : A) → T (f a) → h a ≡ pos 0) → (p : List A) → T (all_l f p) → ev_l h x p ≡ pos 0
all_l-ok h x f k [] t = refl
all_l-ok h x f k (a ∷ p) t =
    ap₂ (λ u v. u +ℤ x *ℤ v) (k a (both (f a) (all_l f p) t).0) (all_l-ok h x f k p (both (f a) (all_l f p) t).1) ∙ one-coef x (pos 0)

is_zero-ok : (ρ : List ℤ) (p : Poly (length ρ)) → T (is_zero (length ρ) p) → ev ρ p ≡ pos 0
is_zero-ok [] p t = zeroℤ-ok p t
is_zero-ok (x ∷ ρ) p t = all_l-ok (ev ρ) x (is_zero (length ρ)) (is_zero-ok ρ) p t

pub ring' : (ρ : List ℤ) (e₁ e₂ : Exp) → T (is_zero (length ρ) (norm (length ρ) (e₁ ⊝ e₂))) → ⟦◌⟧ e₁ ρ ≡ ⟦◌⟧ e₂ ρ
ring' ρ e₁ e₂ t = sub-eq (⟦◌⟧ e₁ ρ) (⟦◌⟧ e₂ ρ) (sym (sound ρ (e₁ ⊝ e₂)) ∙ is_zero-ok ρ (norm (length ρ) (e₁ ⊝ e₂)) t)

-- ---- the same with the variables' names
infix 5 ◌≐◌
pub data Eqn : Type 0 where
  ◌≐◌ : Exp → Exp → Eqn

abbrev pub In : ℕ → Type 0
In zero = Eqn
In (suc n) = Exp → In n

abbrev pub at : (n i : ℕ) → In n → Eqn
at zero i f = f
at (suc n) i f = at n (suc i) (f (X i))

abbrev pub Same : Eqn → List ℤ → Type 0
Same (a ≐ b) ρ = ⟦◌⟧ a ρ ≡ ⟦◌⟧ b ρ

abbrev pub check : ℕ → Eqn → Bool
check n (a ≐ b) = is_zero n (norm n (a ⊝ b))

proved : (ρ : List ℤ) (q : Eqn) → T (check (length ρ) q) → Same q ρ
proved ρ (a ≐ b) t = ring' ρ a b t

pub ring : (ρ : List ℤ) (f : In (length ρ)) → T (check (length ρ) (at (length ρ) 0 f)) → Same (at (length ρ) 0 f) ρ
ring ρ f t = proved ρ (at (length ρ) 0 f) t
