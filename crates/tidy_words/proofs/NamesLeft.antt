-- The names of a part, emitted from word to word: what is left of them comes to all that was asked for.
use Prim.Native.Nat.{ℕ, ◌+◌, ◌≤◌, ◌<◌, min}
use mathlib.Core.Path.{◌≡◌, refl, sym, ap, ◌∙◌}
use mathlib.Core.List.{List, [], ◌∷◌}
use native.Mathlib.Omega.{arith}
use lib.ListN.{length, drop}
use lib.Seq.{sets}
use Rattle.text.specs.Words.{word_of}
use Rattle.text.specs.Rest.{rest_at, end_of, WordMet}
use Rattle.tables.specs.Asking.{part_of}
use Rattle.tables.specs.declared.NameRun.{NameRun}
use Rattle.tidy_form.specs.Agree.{words_at}
use Rattle.tidy_words.specs.Emitting.{Emitted}
use Rattle.tidy_words.specs.Naming.{part_names}
use Rattle.tidy_words.specs.Emitting.{spaced}
use Rattle.tidy_words.proofs.Emissions.{emitted_then, Left, left-turn, left-ends}
use Rattle.tidy_words.proofs.Naming.{names_from, names-all, names-word, names-none, part-names}

-- a place too far counts as the first that is
emitted-capped : {at to r : ℕ} {w l m : List ℕ} → to ≡ min (at + 0) 16777217 → Emitted to w l m r → Emitted at w l m r
emitted-capped {at} {to} {r} {w} {l} {m} e h =
    record {
      ends = omega (arith, h.ends);
      same = h.same;
      stored = λ (a : at + length w ≤ length l) (b : at + length w ≤ 16777216).
          let q : to ≡ at = omega arith in
          h.stored (omega arith) (omega arith) ∙ ap (λ (p : ℕ). sets l p w) q;
    }

-- of the names of s, asked for from `at` on into l, those from i on are left, from `to` on into m
pub record NamesLeft (s : List ℕ) (at : ℕ) (l m : List ℕ) (i to : ℕ) : Type 0 where
  pub within : i ≤ length s
  pub left : Left at (spaced (part_names s)) l to (spaced (names_from s i)) m

pub names-start : (s : List ℕ) (at : ℕ) (l : List ℕ) (to : ℕ) → to ≡ min (at + 0) 16777217 → NamesLeft s at l l 0 to
names-start s at l to e =
    let z : spaced (names_from s 0) ≡ spaced (part_names s) = ap spaced (names-all s) in
    record {
      within = omega arith;
      left = record { most = omega arith; same = refl; onward = λ n r h. emitted-capped e (rw z at h) };
    }

module _ {s : List ℕ} {at : ℕ} {l m : List ℕ} {i to : ℕ} (c : NamesLeft s at l m i to) where
  pub names-done : (rest_at s i).words ≡ [] → Emitted at (spaced (part_names s)) l m to
  names-done n = left-ends c.left (ap spaced (names-none s i n))

  pub names-turn : {p : ℕ} → WordMet s i p → {m₁ m₂ : List ℕ} {first e to' : ℕ} → Emitted to (32 ∷ []) m m₁ first → e ≡ end_of s p → Emitted first (word_of (drop p s)) m₁ m₂ to'
      → NamesLeft s at l m₂ e to' × (i < e)
  names-turn {p} w {m₁} {m₂} {first} {e} {to'} a d b =
      let k : spaced (names_from s i) ≡ spaced (word_of (drop p s) ∷ names_from s e) = ap spaced (names-word s i w) ∙ ap (λ (q : ℕ). spaced (word_of (drop p s) ∷ names_from s q)) (sym d) in
      (record { within = omega (arith, w.to); left = left-turn {v = 32 ∷ word_of (drop p s)} c.left k (emitted_then a b) }, omega (arith, w.from, w.more))

pub names-emitted : (s : List ℕ) (run : NameRun) (at : ℕ) {r : ℕ} {k l m : List ℕ} → k ≡ part_of s run → Emitted at (spaced (part_names k)) l m r
    → Emitted at (spaced (words_at s run)) l m r
names-emitted s run at {r} {k} {l} {m} p h = rw (ap spaced (ap part_names p ∙ part-names s run)) at h
