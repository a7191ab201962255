-- Laws of ℤ that the library lacks, each by steps of one from 0: the product distributes and is associative; the size of a product, a sum and a negation.
use mathlib.Core.Path.{◌≡◌, refl, sym, ◌∙◌, ap, ap₂}
use mathlib.Core.Bool.{Bool, true, false, not, cond}
use Prim.Native.Nat.{ℕ, zero, suc, ◌+◌, ◌*◌, ◌-◌, ◌<◌, ◌≤◌}
use native.Mathlib.Nat.{le_refl}
use native.Mathlib.Omega.{arith}
use lib.Dec.{T, ltb, ltb→lt}
use lib.IntN.{ℤ, pos, negsuc, suc_ℤ, pred_ℤ, neg_ℤ, ◌+ℤ◌, ◌-ℤ◌, ◌*ℤ◌, nat_abs, sub_ℕ, suc_ℤ-+ℤ, pred_ℤ-+ℤ, +ℤ_idl, +ℤ_idr, +ℤ_assoc, +ℤ_comm, +ℤ_invl, +ℤ_invr, zero-*ℤ, suc_ℤ-*ℤ, pred_ℤ-*ℤ, *ℤ_comm, neg_ℤ-neg_ℤ}

pub +ℤ-swap : (a b c : ℤ) → a +ℤ b +ℤ c ≡ a +ℤ c +ℤ b
+ℤ-swap a b c = +ℤ_assoc a b c ∙ ap (λ x. a +ℤ x) (+ℤ_comm b c) ∙ sym (+ℤ_assoc a c b)

pub +ℤ-mid : (a b c d : ℤ) → (a +ℤ b) +ℤ (c +ℤ d) ≡ (a +ℤ c) +ℤ (b +ℤ d)
+ℤ-mid a b c d = sym (+ℤ_assoc (a +ℤ b) c d) ∙ ap (λ x. x +ℤ d) (+ℤ-swap a b c) ∙ +ℤ_assoc (a +ℤ c) b d

step-suc : (k l m : ℤ) → (k +ℤ l) *ℤ m ≡ k *ℤ m +ℤ l *ℤ m → (suc_ℤ k +ℤ l) *ℤ m ≡ suc_ℤ k *ℤ m +ℤ l *ℤ m
step-suc k l m h =
    ap (λ x. x *ℤ m) (suc_ℤ-+ℤ k l) ∙ suc_ℤ-*ℤ (k +ℤ l) m ∙ ap (λ x. x +ℤ m) h ∙ +ℤ-swap (k *ℤ m) (l *ℤ m) m
    ∙ ap (λ x. x +ℤ l *ℤ m) (sym (suc_ℤ-*ℤ k m))

step-pred : (k l m : ℤ) → (k +ℤ l) *ℤ m ≡ k *ℤ m +ℤ l *ℤ m → (pred_ℤ k +ℤ l) *ℤ m ≡ pred_ℤ k *ℤ m +ℤ l *ℤ m
step-pred k l m h =
    ap (λ x. x *ℤ m) (pred_ℤ-+ℤ k l) ∙ pred_ℤ-*ℤ (k +ℤ l) m ∙ ap (λ x. x -ℤ m) h ∙ +ℤ-swap (k *ℤ m) (l *ℤ m) (neg_ℤ m)
    ∙ ap (λ x. x +ℤ l *ℤ m) (sym (pred_ℤ-*ℤ k m))

add-zero* : (l m : ℤ) → (pos zero +ℤ l) *ℤ m ≡ pos zero *ℤ m +ℤ l *ℤ m
add-zero* l m = ap (λ x. x *ℤ m) (+ℤ_idl l) ∙ sym (+ℤ_idl (l *ℤ m)) ∙ ap (λ x. x +ℤ l *ℤ m) (sym (zero-*ℤ m))

pub add-*ℤ : (k l m : ℤ) → (k +ℤ l) *ℤ m ≡ k *ℤ m +ℤ l *ℤ m
add-*ℤ (pos zero) l m = add-zero* l m
add-*ℤ (pos (suc n)) l m = step-suc (pos n) l m (add-*ℤ (pos n) l m)
add-*ℤ (negsuc zero) l m = step-pred (pos zero) l m (add-zero* l m)
add-*ℤ (negsuc (suc n)) l m = step-pred (negsuc n) l m (add-*ℤ (negsuc n) l m)

pub *ℤ-add : (m k l : ℤ) → m *ℤ (k +ℤ l) ≡ m *ℤ k +ℤ m *ℤ l
*ℤ-add m k l = *ℤ_comm m (k +ℤ l) ∙ add-*ℤ k l m ∙ ap₂ ◌+ℤ◌ (*ℤ_comm k m) (*ℤ_comm l m)

-- what added to k gives 0 is its negation
pub neg_unique : (a k : ℤ) → a +ℤ k ≡ pos zero → a ≡ neg_ℤ k
neg_unique a k h = sym (+ℤ_idr a) ∙ ap (λ x. a +ℤ x) (sym (+ℤ_invr k)) ∙ sym (+ℤ_assoc a k (neg_ℤ k)) ∙ ap (λ x. x +ℤ neg_ℤ k) h ∙ +ℤ_idl (neg_ℤ k)

pub neg-*ℤ : (k m : ℤ) → neg_ℤ k *ℤ m ≡ neg_ℤ (k *ℤ m)
neg-*ℤ k m = neg_unique (neg_ℤ k *ℤ m) (k *ℤ m) (sym (add-*ℤ (neg_ℤ k) k m) ∙ ap (λ x. x *ℤ m) (+ℤ_invl k) ∙ zero-*ℤ m)

assoc-suc : (k l m : ℤ) → (k *ℤ l) *ℤ m ≡ k *ℤ (l *ℤ m) → (suc_ℤ k *ℤ l) *ℤ m ≡ suc_ℤ k *ℤ (l *ℤ m)
assoc-suc k l m h = ap (λ x. x *ℤ m) (suc_ℤ-*ℤ k l) ∙ add-*ℤ (k *ℤ l) l m ∙ ap (λ x. x +ℤ l *ℤ m) h ∙ sym (suc_ℤ-*ℤ k (l *ℤ m))

assoc-pos : (n : ℕ) (l m : ℤ) → (pos n *ℤ l) *ℤ m ≡ pos n *ℤ (l *ℤ m)
assoc-pos zero l m = ap (λ x. x *ℤ m) (zero-*ℤ l) ∙ zero-*ℤ m ∙ sym (zero-*ℤ (l *ℤ m))
assoc-pos (suc n) l m = assoc-suc (pos n) l m (assoc-pos n l m)

pub *ℤ-assoc : (k l m : ℤ) → (k *ℤ l) *ℤ m ≡ k *ℤ (l *ℤ m)
*ℤ-assoc (pos n) l m = assoc-pos n l m
*ℤ-assoc (negsuc n) l m =
    ap (λ x. x *ℤ m) (neg-*ℤ (pos (suc n)) l) ∙ neg-*ℤ (pos (suc n) *ℤ l) m ∙ ap neg_ℤ (assoc-pos (suc n) l m) ∙ sym (neg-*ℤ (pos (suc n)) (l *ℤ m))

pub *ℤ-left : (a b c : ℤ) → a *ℤ (b *ℤ c) ≡ b *ℤ (a *ℤ c)
*ℤ-left a b c = sym (*ℤ-assoc a b c) ∙ ap (λ x. x *ℤ c) (*ℤ_comm a b) ∙ *ℤ-assoc b a c

pub sub-eq : (a b : ℤ) → a -ℤ b ≡ pos zero → a ≡ b
sub-eq a b h = neg_unique a (neg_ℤ b) h ∙ neg_ℤ-neg_ℤ b

-- ---- the absolute value

pub abs_neg : (z : ℤ) → nat_abs (neg_ℤ z) ≡ nat_abs z
abs_neg (pos zero) = refl
abs_neg (pos (suc n)) = refl
abs_neg (negsuc n) = refl

pub abs-* : (a b : ℤ) → nat_abs (a *ℤ b) ≡ nat_abs a * nat_abs b
abs-* (pos a) (pos b) = refl
abs-* (pos a) (negsuc b) = abs_neg (pos (a * suc b))
abs-* (negsuc a) (pos b) = abs_neg (pos (suc a * b))
abs-* (negsuc a) (negsuc b) = refl

-- what holds of both arms holds of a choice
pub cond_ind : (c : Bool) (x y : ℤ) (P : ℤ → Type 0) → (T c → P x) → (T (not c) → P y) → P (cond c x y)
cond_ind true x y P f g = f tt
cond_ind false x y P f g = g tt

abs-sub : (a b : ℕ) → nat_abs (sub_ℕ a b) ≤ a + b
abs-sub a b = cond_ind (ltb a b) (negsuc (b - suc a)) (pos (a - b)) (λ z. nat_abs z ≤ a + b)
    (λ t. low (ltb→lt a b t)) (λ t. omega arith)
  where
    low : a < b → suc (b - suc a) ≤ a + b
    low h = omega arith

pub abs-+ : (a b : ℤ) → nat_abs (a +ℤ b) ≤ nat_abs a + nat_abs b
abs-+ (pos a) (pos b) = le_refl (a + b)
abs-+ (pos a) (negsuc b) = abs-sub a (suc b)
abs-+ (negsuc a) (pos b) = swapped (abs-sub b (suc a))
  where
    swapped : {x : ℕ} → x ≤ b + suc a → x ≤ suc a + b
    swapped h = omega arith
abs-+ (negsuc a) (negsuc b) = omega arith
