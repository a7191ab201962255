-- A turn of `scan_line`, on lists: what is left of the line comes, with the count, to what all of it comes to.
use Prim.Native.Nat.{ℕ, ◌+◌, ◌≤◌, ◌<◌}
use mathlib.Core.Path.{◌≡◌, refl, sym, ap, ◌∙◌}
use mathlib.Core.List.{List}
use mathlib.Core.Option.{Option, none, some}
use lib.ListN.{length}
use native.Mathlib.Omega.{arith}
use Rattle.text.specs.Rest.{Rest, rest_at, end_of, WordMet, EndMet, BadMet, AfterBlanksIs, scanned, scan_of}
use Rattle.text.specs.declared.AfterBlanks.{AfterBlanks}
use Rattle.text.specs.declared.AfterBlanks.TheVariants.{End, Bad}
use Rattle.text.proofs.Found.{end-found, bad-found}
use Rattle.std.specs.Prelude.{Result, Ok, Err}
use Rattle.text.specs.declared.Parsed.{Parsed}

pub record Scanning (s : List ℕ) (at i count : ℕ) : Type 0 where
  pub to : i ≤ length s
  pub small : count ≤ i
  pub bad-is : (rest_at s i).bad ≡ (rest_at s at).bad
  pub next-is : (rest_at s i).next ≡ (rest_at s at).next
  pub count-is : count + length (rest_at s i).words ≡ length (rest_at s at).words

abbrev pub counted : ℕ → ℕ → Result (Parsed ℕ) ℕ
counted n q = Ok (record { value = n; next = q })

good : (r : Rest) (n q : ℕ) → r.bad ≡ none → length r.words ≡ n → r.next ≡ q → counted n q ≡ scan_of r
good r n q a b c = rw (a, b, c) refl

fault : (r : Rest) (p : ℕ) → r.bad ≡ some p → Err p ≡ scan_of r
fault r p a = rw a refl

module _ (s : List ℕ) (at i count : ℕ) (w : Scanning s at i count) where
  pub scan-turn : {p e : ℕ} → WordMet s i p → e ≡ end_of s p → (Scanning s at e (count + 1)) × (i < e)
  scan-turn {p} {e} m d =
      let k : rest_at s i ≡ _ = m.rest in
      let f : rest_at s (end_of s p) ≡ rest_at s e = ap (rest_at s) (sym d) in
      let x = m.from in
      let y = m.more in
      let z = m.to in
      let u = w.small in
      let v = ap (λ (r : Rest). length r.words) k in
      let t = ap (λ (r : Rest). length r.words) f in
      let n = w.count-is in (
        record {
          to = omega arith;
          small = omega arith;
          bad-is = ap (λ (r : Rest). r.bad) (sym f) ∙ sym (ap (λ (r : Rest). r.bad) k) ∙ w.bad-is;
          next-is = ap (λ (r : Rest). r.next) (sym f) ∙ sym (ap (λ (r : Rest). r.next) k) ∙ w.next-is;
          count-is = omega arith;
        },
        omega arith,
      )

  module _ (r : AfterBlanks) (m : AfterBlanksIs s i r) where
    pub scan-end : {q : ℕ} → r ≡ End q → counted count q ≡ scan_of (rest_at s at)
    scan-end {q} e =
        let j : EndMet s i q = end-found s i r m e in
        let k = j.rest in
        let n = w.count-is in
        let v = ap (λ (r : Rest). length r.words) k in
        good (rest_at s at) count q
        (sym w.bad-is ∙ ap (λ (r : Rest). r.bad) k)
        (omega arith)
        (sym w.next-is ∙ ap (λ (r : Rest). r.next) k)

    pub scan-bad : {p : ℕ} → r ≡ Bad p → Err p ≡ scan_of (rest_at s at)
    scan-bad {p} e =
        let j : BadMet s i p = bad-found s i r m e in
        fault (rest_at s at) p (sym w.bad-is ∙ j.bad-at)

-- ---- the answers of `scan_line`, read back
good-is : (b : Option ℕ) (n q c x : ℕ) → counted n q ≡ scanned b c x → (b ≡ none) × (c ≡ n) × (x ≡ q)
good-is none n q c x e =
    let f : record { value = n; next = q } ≡ record { value = c; next = x } = cc in
    (refl, sym (ap (λ (p : Parsed ℕ). p.value) f), sym (ap (λ (p : Parsed ℕ). p.next) f))
good-is (some p) n q c x e = absurd (let z : ◌≡◌ {A = ℕ} 0 1 = cc in omega arith)

fault-is : (b : Option ℕ) (p c x : ℕ) → Err p ≡ scanned b c x → b ≡ some p
fault-is none p c x e = absurd (let z : ◌≡◌ {A = ℕ} 0 1 = cc in omega arith)
fault-is (some q) p c x e = cc

pub scan_good : (r : Rest) (n q : ℕ) → counted n q ≡ scan_of r → (r.bad ≡ none) × (length r.words ≡ n) × (r.next ≡ q)
scan_good r n q e = good-is r.bad n q (length r.words) r.next e

pub scan-fault : (r : Rest) (p : ℕ) → Err p ≡ scan_of r → r.bad ≡ some p
scan-fault r p e = fault-is r.bad p (length r.words) r.next e
