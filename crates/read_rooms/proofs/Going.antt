-- The loop over lines: what was counted and what is left come to the rooms of the whole text, which are few, so no sum wraps.
use Prim.Native.Nat.{ℕ, ◌+◌, ◌*◌, ◌-◌, ◌≤◌, ◌<◌}
use mathlib.Core.Path.{◌≡◌, refl, sym, ap, ap₂, ◌∙◌}
use mathlib.Core.List.{List}
use mathlib.Core.Option.{Option, none, some}
use native.Mathlib.Omega.{arith}
use borrow.Author.Tests.{le-leb, lt-leb}
use lib.ListN.{length}
use Rattle.text.specs.Lines.{Line as JoinedLine}
use Rattle.text.specs.Words.{Word, word_of}
use Rattle.text.specs.Rest.{Rest, rest_at, word_at, end_of, push, WordMet, EndMet, BadMet, scan_of, lines_at}
use Rattle.std.specs.Prelude.{Option as Answer, None, Ok, Err}
use Rattle.text.specs.declared.Parsed.{Parsed}
use Rattle.text.proofs.LineByLine.{lines_start, lines-on, lines_end, line-words, line-bad, next-ahead, next-to}
use Rattle.text.proofs.Scans.{scan_good, scan-fault}
use Rattle.keywords.specs.Lookup.{keyword_at}
use Rattle.keywords.specs.declared.Keyword.{Keyword}
use Rattle.read_rooms.specs.declared.Rooms.{Rooms}
use Rattle.read_rooms.specs.Rooms.{no_room, both, room_for, room_of_words, up_to, rooms_of_lines, rooms_of_text}
use Rattle.read_rooms.specs.Line.{counted, counted_if, counted_of}
use Rattle.read_rooms.specs.Claims.{total, word_count}
use Rattle.read_rooms.proofs.Sums.{both-none, none_both, both-both, total-both}
use Rattle.read_rooms.proofs.Words.{few_words}
use Rattle.read_rooms.proofs.Few.{few-for-its-words}

-- ---- one line
counted-eq : (r : Rest) (x : Rooms) (q : ℕ) → r.bad ≡ none → x ≡ room_of_words r.words → q ≡ r.next → counted x q ≡ counted_of r
counted-eq r x q a b c = rw (a, b, c) refl

stopped-eq : (r : Rest) (p : ℕ) → r.bad ≡ some p → None ≡ counted_of r
stopped-eq r p a = rw a refl

module _ (s : List ℕ) (at : ℕ) where
  pub line-none : {q : ℕ} {r : Rooms} → EndMet s at q → r ≡ no_room → counted r q ≡ counted_of (rest_at s at)
  line-none {q} m e = rw e (ap counted_of (sym m.rest))

  pub line-bad-first : {p : ℕ} → BadMet s at p → None ≡ counted_of (rest_at s at)
  line-bad-first m = stopped-eq (rest_at s at) _ m.bad-at

  module _ {p : ℕ} (m : WordMet s at p) (k : Keyword) (kw : k ≡ keyword_at s p) (e : ℕ) (d : e ≡ end_of s p) where
    after : rest_at s at ≡ push (word_at s p) (rest_at s e)
    after = m.rest ∙ ap (λ (i : ℕ). push (word_at s p) (rest_at s i)) (sym d)

    statement-is : k.statement ≡ Rattle.keywords.specs.Keywords.statement_of (word_of (lib.ListN.drop p s))
    unfolding keyword_at
    statement-is = ap (λ (k : Keyword). k.statement) kw

    pub line-counted : (n q : ℕ) (r : Rooms) → Ok (record { value = n; next = q }) ≡ scan_of (rest_at s e) → r ≡ room_for k.statement n → counted r q ≡ counted_of (rest_at s at)
    line-counted n q r g f =
        let x = scan_good (rest_at s e) n q g in
        counted-eq (push (word_at s p) (rest_at s e)) r q x.0 (f ∙ ap₂ room_for statement-is (sym x.1)) (sym x.2) ∙ ap counted_of (sym after)

    pub line-stopped : (q : ℕ) → Err q ≡ scan_of (rest_at s e) → None ≡ counted_of (rest_at s at)
    line-stopped q g = stopped-eq (push (word_at s p) (rest_at s e)) q (scan-fault (rest_at s e) q g) ∙ ap counted_of (sym after)

-- ---- its answer read back
counted_is : (b : Option ℕ) (r : Rooms) (n : ℕ) (x : Rooms) (q : ℕ) → counted x q ≡ counted_if b r n → (b ≡ none) × (x ≡ r) × (q ≡ n)
counted_is none r n x q e =
    let p : record { value = x; next = q } ≡ record { value = r; next = n } = cc in
    (refl, ap (λ (a : Parsed Rooms). a.value) p, ap (λ (a : Parsed Rooms). a.next) p)
counted_is (some p) r n x q e = absurd (let z : ◌≡◌ {A = ℕ} 0 1 = cc in omega arith)

stopped-is : (b : Option ℕ) (r : Rooms) (n : ℕ) → None ≡ counted_if b r n → (p : ℕ) × (b ≡ some p)
stopped-is none r n e = absurd (let z : ◌≡◌ {A = ℕ} 0 1 = cc in omega arith)
stopped-is (some p) r n e = (p, refl)

-- ---- between lines
pub record Going (s : List ℕ) (r : Rooms) (at : ℕ) : Type 0 where
  pub to : at ≤ length s
  pub same : rooms_of_text s ≡ both r (rooms_of_lines (lines_at s at))

pub going_start : (s : List ℕ) (r : Rooms) → length s ≤ 16777216 → r ≡ no_room → Going s r 0
unfolding rooms_of_text
going_start s r h e =
    record { to = omega arith; same = rw (le-leb (length s) 16777216 h, e) (ap rooms_of_lines (lines_start s) ∙ sym (none_both (rooms_of_lines (lines_at s 0)))) }

pub rooms-long : (s : List ℕ) (r : Rooms) → 16777216 < length s → r ≡ no_room → r ≡ rooms_of_text s
unfolding rooms_of_text
rooms-long s r h e = rw (lt-leb (length s) 16777216 h) e

module _ (s : List ℕ) (short : length s ≤ 16777216) (r : Rooms) (at : ℕ) (go : Going s r at) where
  module _ (h : at < length s) (a : Answer (Parsed Rooms)) (is : a ≡ counted_of (rest_at s at)) where
    first : rooms_of_lines (lines_at s at) ≡ up_to (rest_at s at).bad (both (room_of_words (rest_at s at).words) (rooms_of_lines (lines_at s (rest_at s at).next)))
    first =
        ap rooms_of_lines (lines-on s at h)
        ∙ ap₂ (λ (b : Option ℕ) (ws : List Word). up_to b (both (room_of_words ws) (rooms_of_lines (lines_at s (rest_at s at).next)))) (line-bad s at) (line-words s at)

    module _ (x : Rooms) (q : ℕ) (e : a ≡ counted x q) where
      read : ((rest_at s at).bad ≡ none) × (x ≡ room_of_words (rest_at s at).words) × (q ≡ (rest_at s at).next)
      read = counted_is (rest_at s at).bad (room_of_words (rest_at s at).words) (rest_at s at).next x q (sym e ∙ is)

      onward : rooms_of_text s ≡ both r (both x (rooms_of_lines (lines_at s q)))
      onward =
          go.same ∙ ap (both r) (first ∙ ap (λ (b : Option ℕ). up_to b (both (room_of_words (rest_at s at).words) (rooms_of_lines (lines_at s (rest_at s at).next)))) read.0
          ∙ ap₂ (λ (y : Rooms) (n : ℕ). both y (rooms_of_lines (lines_at s n))) (sym read.1) (sym read.2))

      pub going-fits : total r + total x ≤ 1000000000
      going-fits =
          let a = few-for-its-words s in
          let b = few_words s in
          let c : total (rooms_of_text s) ≡ total r + total (both x (rooms_of_lines (lines_at s q))) = ap total onward ∙ total-both r (both x (rooms_of_lines (lines_at s q))) in
          let d : total (both x (rooms_of_lines (lines_at s q))) ≡ total x + total (rooms_of_lines (lines_at s q)) = total-both x (rooms_of_lines (lines_at s q)) in
          plain (total (rooms_of_text s)) (word_count s) (length s) (total r) (total x) (total (both x (rooms_of_lines (lines_at s q)))) (total (rooms_of_lines (lines_at s q))) a b short c d
        where
          plain : (t w n r x y z : ℕ) → t ≤ 22 * w → 2 * w ≤ n + 1 → n ≤ 16777216 → t ≡ r + y → y ≡ x + z → r + x ≤ 1000000000
          plain t w n r x y z a b c d e = omega arith

      pub going_on : (y : Rooms) → y ≡ both r x → Going s y q × (length s - q < length s - at)
      going_on y f =
          let a = next-ahead s at h in
          let b = next-to s at (let g : at ≤ length s = omega arith in g) in
          let k : q ≡ (rest_at s at).next = read.2 in (
            record { to = (let g : q ≤ length s = (let z = b.1 in omega arith) in g); same = onward ∙ both-both r x (rooms_of_lines (lines_at s q)) ∙ ap (λ (z : Rooms). both z (rooms_of_lines (lines_at s q))) (sym f) },
            (let z : length s - q < length s - at = (let z = b.1 in omega arith) in z),
          )

    pub going-stops : a ≡ None → r ≡ rooms_of_text s
    going-stops e =
        let x = stopped-is (rest_at s at).bad (room_of_words (rest_at s at).words) (rest_at s at).next (sym e ∙ is) in
        sym (go.same ∙ ap (both r) (first ∙ ap (λ (b : Option ℕ). up_to b (both (room_of_words (rest_at s at).words) (rooms_of_lines (lines_at s (rest_at s at).next)))) x.1) ∙ both-none r)

  pub going-ends : length s ≤ at → r ≡ rooms_of_text s
  going-ends h = sym (go.same ∙ ap (λ (ls : List JoinedLine). both r (rooms_of_lines ls)) (lines_end s at h) ∙ both-none r)
