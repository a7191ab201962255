-- The names of a line, one after the other: the run from the first to the last, how many there are, and each a name.
use Prim.Native.Nat.{ℕ, suc, ◌+◌, ◌-◌, ◌≤◌, ◌<◌}
use mathlib.Core.Path.{◌≡◌, refl, sym, ap, ◌∙◌}
use mathlib.Core.List.{List, [], ◌∷◌}
use mathlib.Core.Bool.{true, false, cond}
use mathlib.Core.Option.{none, some}
use lib.ListN.{length, drop}
use native.Mathlib.Omega.{arith}
use Rattle.lists.specs.Lists.{all}
use Rattle.std.specs.Prelude.{Option as Answer, None}
use Rattle.text.specs.declared.Parsed.{Parsed}
use Rattle.text.specs.Words.{Word, word_of}
use Rattle.text.specs.Rest.{Rest, rest_at, push, word_at, end_of, WordMet}
use Rattle.digits.specs.Said.{says, wrong}
use Rattle.digits.specs.Degree.{name_of}
use Rattle.tables.specs.declared.NameRun.{NameRun}
use Rattle.statements.specs.declared.Carried.{Carried}
use Rattle.statements.specs.Rules.{rules_of}
use Rattle.statements.specs.declared.rules.Rules.{Rules}
use Rattle.model.specs.Layout.{last_end}
use Rattle.read_state.specs.declared.Names.{Names}
use Rattle.read_settings.specs.declared.words.NamesRead.{NamesRead}
use Rattle.read_settings.specs.Words.{on_fine, is_name, run-read, names_read, names_counted}
use Rattle.read_settings.specs.Steps.{renamed, named_by}

-- a run that begins at `at`, from its word w on, which is its n-th
abbrev pub run_from : ℕ → ℕ → Word → Rest → Answer NamesRead
run_from at n w x =
    cond (all is_name (w ∷ x.words)) (on_fine x.bad (run-read (record { place = at; length = last_end w x.words - at }) (n + length x.words) x.next) None) None

pub record Running (s : List ℕ) (at place n : ℕ) : Type 0 where
  pub from : at ≤ place
  pub more : place < end_of s place
  pub to : end_of s place ≤ length s
  pub few : n ≤ place + 1
  pub rest : run_from at n (word_at s place) (rest_at s (end_of s place)) ≡ names_read (push (word_at s at) (rest_at s (end_of s at)))

-- at the first name
pub run-starts : (w : Word) (x : Rest) → run_from w.place 1 w x ≡ names_read (push w x)
run-starts w x = let c : 1 + length x.words ≡ suc (length x.words) = omega arith in rw c refl

named : (w : Word) → name_of w.bytes ≡ says w.bytes → is_name w ≡ true
named w h = rw h refl

unnamed : (w : Word) {n : ℕ} → name_of w.bytes ≡ wrong n → is_name w ≡ false
unnamed w h = rw h refl

run-next : (at n : ℕ) (w v : Word) (x : Rest) → is_name w ≡ true → run_from at n w (push v x) ≡ run_from at (n + 1) v x
run-next at n w v x h =
    let c : n + suc (length x.words) ≡ (n + 1) + length x.words = omega arith in
    rw (h, c) refl

run-last : (at n : ℕ) (w : Word) (q l : ℕ) → is_name w ≡ true → l ≡ (w.place + length w.bytes) - at
    → run-read (record { place = at; length = l }) n q ≡ run_from at n w (record { words = []; bad = none; next = q })
run-last at n w q l h k = let c : n + 0 ≡ n = omega arith in rw (h, k, c) refl

run-no : (at n : ℕ) (w : Word) (x : Rest) → is_name w ≡ false → None ≡ run_from at n w x
run-no at n w x h = rw h refl

run-spoilt : (at n : ℕ) (w : Word) (x : Rest) {p : ℕ} → is_name w ≡ true → x.words ≡ [] → x.bad ≡ some p → None ≡ run_from at n w x
run-spoilt at n w x h e k = rw (h, e, k) refl

module _ (s : List ℕ) (at place n : ℕ) (k : Running s at place n) where
  pub run-turn : (e : ℕ) {p : ℕ} → e ≡ end_of s place → name_of (word_of (drop place s)) ≡ says (word_of (drop place s)) → WordMet s e p → (Running s at p (n + 1)) × (place < p)
  run-turn e {p} d h m =
      let a = k.from in
      let b = k.more in
      let c = k.few in
      let x = m.from in
      let r : rest_at s (end_of s place) ≡ push (word_at s p) (rest_at s (end_of s p)) = ap (rest_at s) (sym d) ∙ m.rest in (
        record {
          from = omega arith;
          more = m.more;
          to = m.to;
          few = omega arith;
          rest =
              sym (run-next at n (word_at s place) (word_at s p) (rest_at s (end_of s p)) (named (word_at s place) h))
              ∙ sym (ap (run_from at n (word_at s place)) r)
              ∙ k.rest;
        },
        omega arith,
      )

  pub run_end : (e : ℕ) {q : ℕ} → e ≡ end_of s place → name_of (word_of (drop place s)) ≡ says (word_of (drop place s)) → rest_at s e ≡ record { words = []; bad = none; next = q }
      → run-read (record { place = at; length = e - at }) n q ≡ names_read (push (word_at s at) (rest_at s (end_of s at)))
  run_end e {q} d h m =
      let r : rest_at s (end_of s place) ≡ record { words = []; bad = none; next = q } = ap (rest_at s) (sym d) ∙ m in
      run-last at n (word_at s place) q (e - at) (named (word_at s place) h) (ap (λ (y : ℕ). y - at) d) ∙ sym (ap (run_from at n (word_at s place)) r) ∙ k.rest

  pub run-bad : (e : ℕ) {p : ℕ} → e ≡ end_of s place → name_of (word_of (drop place s)) ≡ says (word_of (drop place s)) → (rest_at s e).words ≡ [] → (rest_at s e).bad ≡ some p
      → None ≡ names_read (push (word_at s at) (rest_at s (end_of s at)))
  run-bad e d h w b =
      run-spoilt at n (word_at s place) (rest_at s e) (named (word_at s place) h) w b
      ∙ ap (λ (y : ℕ). run_from at n (word_at s place) (rest_at s y)) d
      ∙ k.rest

  pub run-unnamed : {m : ℕ} → name_of (word_of (drop place s)) ≡ wrong m → None ≡ names_read (push (word_at s at) (rest_at s (end_of s at)))
  run-unnamed h = run-no at n (word_at s place) (rest_at s (end_of s place)) (unnamed (word_at s place) h) ∙ k.rest

pub run-empty : (x : Rest) {p : ℕ} → x.words ≡ [] → x.bad ≡ some p → None ≡ names_read x
run-empty x e k = rw (e, k) refl

-- ---- the names held against the statement's row, which r is
module _ (k : Carried) (f : NameRun → Names) (y : Answer NamesRead) {r : Rules} (e : r ≡ rules_of k) where
  pub named-is : (o : Answer (Parsed NameRun)) → o ≡ names_counted r.count y → renamed f o ≡ named_by k f y
  named-is o h = ap (renamed f) (h ∙ ap (λ (x : Rules). names_counted x.count y) e)
