-- The ways out of `normal_at`, `texture_at` and `corner_at`: each is a pattern of the parts that are left, or none.
use Prim.Native.Nat.{ℕ, ◌+◌, ◌≤◌}
use mathlib.Core.Path.{◌≡◌, refl, sym, ap, ap₂, ◌∙◌}
use mathlib.Core.List.{List, [], ◌∷◌}
use mathlib.Core.Bool.{Bool, true, false, ◌&&◌}
use mathlib.Core.Logic.{⊎_elim}
use lib.ListN.{length, drop}
use lib.Dec.{leb, eqb}
use borrow.Author.Tests.{le-leb, ne_eqb, eq-eqb, eqb-true}
use native.Mathlib.Omega.{arith}
use Rattle.lists.proofs.Tests.{and_first, and_second, test, never}
use Rattle.text.specs.Bytes.{is_word}
use Rattle.text.specs.Words.{word_of}
use Rattle.text.specs.Rest.{end_of}
use Rattle.digits.specs.Said.{Said, says, wrong, must}
use Rattle.digits.specs.Answers.{ends_at}
use Rattle.digits.specs.Digits.{is_whole}
use Rattle.references.specs.Reference.{is_reference, refer}
use Rattle.references.specs.Corner.{Corner, Counts, Parts, split, formed, patterned, corner_of}
use Rattle.digits.specs.Straight.{first, is_empty}
use Rattle.references.specs.Straight.{piece, places, PartRead, second, third}
use Rattle.digits.proofs.Fronts.{starts-word, starts_none, next-at, byte-in, byte_word}
use Rattle.references.proofs.Corners.{others, split-word, slashed, done, other, no_part}

and-true : (a : Bool) → (a && true) ≡ a
and-true true = refl
and-true false = refl

and_assoc : (a b c : Bool) → ((a && b) && c) ≡ (a && (b && c))
and_assoc true b c = refl
and_assoc false b c = refl

-- ---- the third part
module _ (normal : Bool) (nvn : ℕ) (there : Bool) (v vt : ℕ) where
  third-none : (d : List ℕ) (ps : List (List ℕ)) → (normal && is_reference d) ≡ false → third normal nvn there v vt (d ∷ ps) ≡ wrong 6
  third-none d [] h = rw h refl
  third-none d (e ∷ ps) h = refl

  third-one : (d : List ℕ) → normal ≡ true → is_reference d ≡ true → third normal nvn there v vt (d ∷ []) ≡ must (there && leb 1 (refer nvn d)) 8 (says (record { v = v; vt = vt; vn = refer nvn d }))
  third-one d h k = rw (h, k) refl

  module _ (s : List ℕ) (at : ℕ) where
    abbrev Says : Said (Corner × ℕ) → Type 0
    Says r = r ≡ ends_at (third normal nvn there v vt (split (word_of (drop at s)))) (end_of s at)

    none : (normal && is_reference (piece (drop at s))) ≡ false → Says (wrong 6)
    none h = sym (ap (λ (x : Said Corner). ends_at x (end_of s at)) (ap (third normal nvn there v vt) (split-word (drop at s)) ∙ third-none (piece (drop at s)) (others (drop at s)) h))

    pub normal-none : normal ≡ false → Says (wrong 6)
    normal-none h = none (and_first (is_reference (piece (drop at s))) h)

    pub normal-bad : (leb 1 (length (places (drop at s))) && leb (length (places (drop at s))) 10) ≡ false → Says (wrong 6)
    normal-bad h = none (and_second normal (no_part s at h))

    module _ {number end : ℕ} (p : PartRead nvn s at number end) where
      pub normal-not : false ≡ is_empty (word_of (drop end s)) → Says (wrong 6)
      normal-not o =
          ⊎_elim
          (λ (t : eqb (first (drop end s)) 47 ≡ true).
          let q = slashed p (eqb-true (first (drop end s)) 47 t) in
          sym (ap (λ (x : List (List ℕ)). ends_at (third normal nvn there v vt x) (end_of s at)) (q.parts ∙ ap (λ (x : List (List ℕ)). piece (drop at s) ∷ x) (split-word (drop (end + 1) s)))))
          (λ (t : eqb (first (drop end s)) 47 ≡ false).
          none (and_second normal (other p (starts-word (drop end s) o) (λ h. never (sym t ∙ eq-eqb (first (drop end s)) 47 h)))))
          (test (eqb (first (drop end s)) 47))

      module _ (h : normal ≡ true) (o : true ≡ is_empty (word_of (drop end s))) where
        found : third normal nvn there v vt (split (word_of (drop at s))) ≡ must (there && leb 1 number) 8 (says (record { v = v; vt = vt; vn = number }))
        found =
            let q = done p (starts_none (drop end s) o) in
            ap (third normal nvn there v vt) q.parts
            ∙ third-one (piece (drop at s)) h q.form
            ∙ ap (λ (n : ℕ). must (there && leb 1 n) 8 (says (record { v = v; vt = vt; vn = n }))) q.is

        pub normal-missing : number ≡ 0 → Says (wrong 8)
        normal-missing z =
            let e : (there && leb 1 number) ≡ false = rw z (and_second there refl) in
            sym (ap (λ (x : Said Corner). ends_at x (end_of s at)) (found ∙ ap (λ (x : Bool). must x 8 (says (record { v = v; vt = vt; vn = number }))) e))

        pub normal-of : (number ≡ 0 → ⊥) → (r : Said (Corner × ℕ)) → r ≡ ends_at (must there 8 (says (record { v = v; vt = vt; vn = number }))) end → Says r
        normal-of z r q =
            let e : (there && leb 1 number) ≡ there = rw (le-leb 1 number (omega arith)) (and-true there) in
            q
            ∙ ap₂ ends_at
            (sym (found ∙ ap (λ (x : Bool). must x 8 (says (record { v = v; vt = vt; vn = number }))) e))
            (done p (starts_none (drop end s) o)).ends

-- ---- from the second part on
module _ (nvt nvn : ℕ) (texture normal : Bool) (v : ℕ) where
  second_none : (b : List ℕ) (ps : List (List ℕ)) → (b ≡ [] → ps ≡ []) → (texture && is_reference b) ≡ false → second nvt nvn texture normal v (b ∷ ps) ≡ wrong 6
  second_none b [] f h = rw h refl
  second_none [] (d ∷ ps) f h = absurd (let q : d ∷ ps ≡ [] = f refl in let z : ◌≡◌ {A = ℕ} 0 1 = cc in omega arith)
  second_none (x ∷ b) (d ∷ ps) f h = rw h refl

  second-third : (b d : List ℕ) (ps : List (List ℕ)) → texture ≡ true → is_reference b ≡ true
      → second nvt nvn texture normal v (b ∷ d ∷ ps) ≡ third normal nvn (leb 1 v && leb 1 (refer nvt b)) v (refer nvt b) (d ∷ ps)
  second-third [] d ps h k = never (nothing ∙ k)
    where
      nothing : false ≡ is_reference []
      nothing = unfold is_reference is_whole in refl
  second-third (x ∷ b) d ps h k = rw (h, k) refl

  module _ (s : List ℕ) (at : ℕ) where
    abbrev SaysSecond : Said (Corner × ℕ) → Type 0
    SaysSecond r = r ≡ ends_at (second nvt nvn texture normal v (split (word_of (drop at s)))) (end_of s at)

    lone : (first (drop at s) ≡ 47 → ⊥) → (l : List ℕ) → l ≡ drop at s → piece l ≡ [] → others l ≡ []
    lone n l e h = rw h (rw (ne_eqb (first l) 47 (λ q. n (ap first (sym e) ∙ q))) refl)

    gone : (first (drop at s) ≡ 47 → ⊥) → (texture && is_reference (piece (drop at s))) ≡ false → SaysSecond (wrong 6)
    gone n h =
        sym (ap (λ (x : Said Corner). ends_at x (end_of s at))
        (ap (second nvt nvn texture normal v) (split-word (drop at s)) ∙ second_none (piece (drop at s)) (others (drop at s)) (lone n (drop at s) refl) h))

    pub texture-slash : {b : ℕ} → b ≡ first (drop at s) → b ≡ 47 → (r : Said (Corner × ℕ)) (there : Bool) → there ≡ leb 1 v
        → r ≡ ends_at (third normal nvn there v 0 (split (word_of (drop (at + 1) s)))) (end_of s (at + 1)) → SaysSecond r
    texture-slash e h r there j q =
        let f : first (drop at s) ≡ 47 = sym e ∙ h in
        let w : word_of (drop at s) ≡ 47 ∷ word_of (drop (at + 1) s) = byte_word (drop at s) 47 f refl refl ∙ ap (λ (l : List ℕ). 47 ∷ word_of l) (sym (next-at s at)) in
        let z = ap length w in
        let n : end_of s (at + 1) ≡ end_of s at = omega arith in
        let y = split-word (drop (at + 1) s) in
        let d : List ℕ = drop (at + 1) s in
        q
        ∙ ap₂ ends_at
        (ap₂ (λ (t : Bool) (x : List (List ℕ)). third normal nvn t v 0 x) j y
        ∙ sym (ap (λ (x : List ℕ). second nvt nvn texture normal v (split x)) w ∙ ap (λ (x : List (List ℕ)). second nvt nvn texture normal v ([] ∷ x)) y))
        n

    pub texture-in : {b : ℕ} → b ≡ first (drop at s) → b ≡ 47 → at + 1 ≤ length s
    texture-in e h = let i = byte-in s at (ap (λ (n : ℕ). eqb n 10) (sym e ∙ h)) in omega arith

    module _ {b : ℕ} (e : b ≡ first (drop at s)) (n : b ≡ 47 → ⊥) where
      not-slash : first (drop at s) ≡ 47 → ⊥
      not-slash h = n (e ∙ h)

      pub texture-none : texture ≡ false → SaysSecond (wrong 6)
      texture-none h = gone not-slash (and_first (is_reference (piece (drop at s))) h)

      pub texture-bad : (leb 1 (length (places (drop at s))) && leb (length (places (drop at s))) 10) ≡ false → SaysSecond (wrong 6)
      texture-bad h = gone not-slash (and_second texture (no_part s at h))

      module _ {number end : ℕ} (p : PartRead nvt s at number end) {c : ℕ} (f : c ≡ first (drop end s)) where
        pub texture-not : (c ≡ 47 → ⊥) → is_word c ≡ true → SaysSecond (wrong 6)
        texture-not g w = gone not-slash (and_second texture (other p (ap is_word (sym f) ∙ w) (λ h. g (f ∙ h))))

        pub texture-on : c ≡ 47 → end + 1 ≤ length s
        texture-on g = (slashed p (sym f ∙ g)).fits

        module _ (h : texture ≡ true) where
          pub texture-normal : c ≡ 47 → (r : Said (Corner × ℕ)) (there : Bool) → there ≡ (leb 1 v && leb 1 number)
              → r ≡ ends_at (third normal nvn there v number (split (word_of (drop (end + 1) s)))) (end_of s (end + 1)) → SaysSecond r
          texture-normal g r there j q =
              let z = slashed p (sym f ∙ g) in
              let y = split-word (drop (end + 1) s) in
              q
              ∙ ap₂ ends_at
              (ap₂ (λ (t : Bool) (x : List (List ℕ)). third normal nvn t v number x) j y
              ∙ ap (λ (m : ℕ). third normal nvn (leb 1 v && leb 1 m) v m (piece (drop (end + 1) s) ∷ others (drop (end + 1) s))) (sym z.is)
              ∙ sym (ap (second nvt nvn texture normal v) (z.parts ∙ ap (λ (x : List (List ℕ)). piece (drop at s) ∷ x) y)
              ∙ second-third (piece (drop at s)) (piece (drop (end + 1) s)) (others (drop (end + 1) s)) h z.form))
              z.ends

          pub texture-end : is_word c ≡ false → (r : Said (Corner × ℕ)) (there : Bool) → there ≡ (leb 1 v && leb 1 number)
              → r ≡ ends_at (must there 8 (says (record { v = v; vt = number; vn = 0 }))) end → SaysSecond r
          texture-end w r there j q =
              let z = done p (ap is_word (sym f) ∙ w) in
              q
              ∙ ap₂ ends_at
              (ap (λ (t : Bool). must t 8 (says (record { v = v; vt = number; vn = 0 }))) j
              ∙ ap (λ (m : ℕ). must (leb 1 v && leb 1 m) 8 (says (record { v = v; vt = m; vn = 0 }))) (sym z.is)
              ∙ sym (ap (second nvt nvn texture normal v) z.parts ∙ rw (h, z.form) refl))
              z.ends

-- ---- the whole corner
module _ (c : Counts) (k : Parts) where
  first-none : (a : List ℕ) (ps : List (List ℕ)) → is_reference a ≡ false → patterned c k (a ∷ ps) ≡ wrong 6
  first-none a [] h = rw h refl
  first-none a (b ∷ []) h = rw h refl
  first-none a ([] ∷ d ∷ []) h = rw h refl
  first-none a ((x ∷ b) ∷ d ∷ []) h = rw h refl
  first-none a (b ∷ d ∷ e ∷ ps) h = refl

  first-second : (a b : List ℕ) (ps : List (List ℕ)) → is_reference a ≡ true → patterned c k (a ∷ b ∷ ps) ≡ second c.vt c.vn k.vt k.vn (refer c.v a) (b ∷ ps)
  first-second a b [] h = rw h refl
  first-second a [] (d ∷ []) h = rw h refl
  first-second a (x ∷ b) (d ∷ []) h =
      ⊎_elim
      (λ (t : (k.vt && is_reference (x ∷ b)) ≡ true).
      rw (h, t) (ap (λ (y : Bool). formed (k.vn && is_reference d) y (record { v = refer c.v a; vt = refer c.vt (x ∷ b); vn = refer c.vn d })) (sym (and_assoc (leb 1 (refer c.v a)) (leb 1 (refer c.vt (x ∷ b))) (leb 1 (refer c.vn d))))))
      (λ (t : (k.vt && is_reference (x ∷ b)) ≡ false). rw (h, t) refl)
      (test (k.vt && is_reference (x ∷ b)))
  first-second a [] (d ∷ e ∷ ps) h = refl
  first-second a (x ∷ b) (d ∷ e ∷ ps) h =
      ⊎_elim
      (λ (t : (k.vt && is_reference (x ∷ b)) ≡ true). rw t refl)
      (λ (t : (k.vt && is_reference (x ∷ b)) ≡ false). rw t refl)
      (test (k.vt && is_reference (x ∷ b)))

  module _ (s : List ℕ) (at : ℕ) where
    abbrev SaysCorner : Said (Corner × ℕ) → Type 0
    SaysCorner r = r ≡ ends_at (corner_of c k (word_of (drop at s))) (end_of s at)

    lost : is_reference (piece (drop at s)) ≡ false → SaysCorner (wrong 6)
    unfolding corner_of
    lost h =
        sym (ap (λ (x : Said Corner). ends_at x (end_of s at)) (ap (patterned c k) (split-word (drop at s)) ∙ first-none (piece (drop at s)) (others (drop at s)) h))

    pub corner-bad : (leb 1 (length (places (drop at s))) && leb (length (places (drop at s))) 10) ≡ false → SaysCorner (wrong 6)
    corner-bad h = lost (no_part s at h)

    module _ {number end : ℕ} (p : PartRead c.v s at number end) {b : ℕ} (f : b ≡ first (drop end s)) where
      pub corner-not : (b ≡ 47 → ⊥) → is_word b ≡ true → SaysCorner (wrong 6)
      corner-not g w = lost (other p (ap is_word (sym f) ∙ w) (λ h. g (f ∙ h)))

      pub corner-in : b ≡ 47 → end + 1 ≤ length s
      corner-in g = (slashed p (sym f ∙ g)).fits

      pub corner-slash : b ≡ 47 → (r : Said (Corner × ℕ))
          → r ≡ ends_at (second c.vt c.vn k.vt k.vn number (split (word_of (drop (end + 1) s)))) (end_of s (end + 1)) → SaysCorner r
      unfolding corner_of
      corner-slash g r q =
          let z = slashed p (sym f ∙ g) in
          let y = split-word (drop (end + 1) s) in
          q
          ∙ ap₂ ends_at
          (ap₂ (λ (m : ℕ) (x : List (List ℕ)). second c.vt c.vn k.vt k.vn m x) (sym z.is) y
          ∙ sym (ap (patterned c k) (z.parts ∙ ap (λ (x : List (List ℕ)). piece (drop at s) ∷ x) y)
          ∙ first-second (piece (drop at s)) (piece (drop (end + 1) s)) (others (drop (end + 1) s)) z.form))
          z.ends

      pub corner-end : is_word b ≡ false → (r : Said (Corner × ℕ)) (there : Bool) → there ≡ leb 1 number → r ≡ ends_at (must there 8 (says (record { v = number; vt = 0; vn = 0 }))) end → SaysCorner r
      unfolding corner_of
      corner-end w r there j q =
          let z = done p (ap is_word (sym f) ∙ w) in
          q
          ∙ ap₂ ends_at
          (ap (λ (t : Bool). must t 8 (says (record { v = number; vt = 0; vn = 0 }))) j
          ∙ ap (λ (m : ℕ). must (leb 1 m) 8 (says (record { v = m; vt = 0; vn = 0 }))) (sym z.is)
          ∙ sym (ap (patterned c k) z.parts ∙ rw z.form refl))
          z.ends
