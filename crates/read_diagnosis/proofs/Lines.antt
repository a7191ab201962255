-- The theorem of `diagnose`: by the statement, its row of the rules against the parser's words.
use Prim.Native.Nat.{ℕ, ◌+◌, ◌-◌, ◌≤◌, ◌<◌}
use mathlib.Core.Path.{◌≡◌, refl, sym, ap, ◌∙◌}
use mathlib.Core.List.{List, [], ◌∷◌}
use mathlib.Core.Bool.{Bool, true, false, cond}
use mathlib.Core.Option.{Option, none}
use lib.ListN.{length, drop}
use lib.Dec.{ltb}
use lib.IntN.{ℤ}
use native.Mathlib.Omega.{arith}
use borrow.Author.Tests.{le-ltb, lt-ltb}
use Rattle.std.specs.Prelude.{Ok, Err}
use Rattle.text.specs.Words.{Word, word_of}
use Rattle.text.specs.Rest.{rest_at, word_at, end_of, scan_of}
use Rattle.text.proofs.Scans.{scan_good, scan-fault}
use Rattle.references.specs.Corner.{Corner}
use Rattle.keywords.specs.Keywords.{statement_of}
use Rattle.statements.specs.declared.Statement.{Statement}
use Rattle.statements.specs.declared.Statement.TheVariants.{Carried, Refused as Unrecorded, Unknown}
use Rattle.statements.specs.Rules.{allowed_by, counted_by, rules_of}
use Rattle.model.specs.Model as model
use Rattle.model.specs.Model.{point, line, face, Free, curve, curve2, surface}
use Rattle.model.specs.Statements as statements
use Rattle.model.specs.Parse as parse
use Rattle.model.specs.Parse.{fine, then, must, unless, Keyword, a-vertex, an-element, a-body, parm, trim, hole, ends, cstype, deg, g, s, usemtl, over, values_of, Value, corners_of, unlike}
use Rattle.model.specs.Read.{carried_in}
use Rattle.read_state.specs.State.{form_in, OpenIs, StateIs}
use Rattle.read_state.specs.declared.Open.{Open}
use Rattle.read_state.specs.declared.State.{State}
use Rattle.read_state.specs.declared.Form.{Form}
use Rattle.read_word_checks.specs.declared.tests.Test.TheVariants.{Wide}
use Rattle.read_word_checks.specs.declared.tests.Tests.TheVariants.{All}
use Rattle.read_word_checks.specs.Faults.{Refusal, Refused, Nothing, seen_by, fault_in, pattern_fault, in_force_by, owed, or_else, body_fault, curve2_fault, held_fault}
use Rattle.read_diagnosis.specs.Lines.{words_fault, line_fault, fault_for, statement_fault}
use Rattle.read_diagnosis.specs.Diagnosis.{diagnosis_of, checked_before, parse_before, fault_before, GivenIn}
use Rattle.read_diagnosis.proofs.Values.{diagnosis_at, skip-values, pattern-walk, bare-unlike, narrow_walk}
use Rattle.read_diagnosis.proofs.Parses.{must-diagnosis, then-diagnosis, unless-diagnosis, last-diagnosis, words-diagnosis, open-kind, curve-force, curve2-force, surface-force, given-same}

module _ (text : List ℕ) (t : List ℤ) (key : ℕ) (x : model.State) (c : Open) (open_is : OpenIs text x.open-body c) (given-in : GivenIn x.model.vertices.vp t) (ws : List Word) where
  -- the row of k comes to the parser's words of k
  line-diagnosis : (k : Keyword)
      → ((xs : List Value) → values_of (parse.seen_in x) (parse.form_of k (length ws)) 0 ws ≡ fine xs → held_fault (parse.seen_in x) t (form_in x.form) key (rules_of k).held ws ≡ diagnosis_of (checked_before k x key ws xs))
      → line_fault (parse.seen_in x) t (form_in x.form) c.kind key k (length ws) ws ≡ diagnosis_of (parse_before k x key ws)
  unfolding parse_before line_fault
  line-diagnosis k h =
      let n = parse.seen_in x in
      let held = held_fault n t (form_in x.form) key (rules_of k).held ws in
      let words = words_fault n t (form_in x.form) key (rules_of k).forms (rules_of k).held (length ws) ws in
      ap (λ (o : Option Free). owed (allowed_by (rules_of k).standing o (parse.says_v ws)) 10 key (owed (counted_by (rules_of k).count (length ws)) 5 key words)) (open-kind text x.open-body c open_is)
      ∙ must-diagnosis (parse.allowed k x.open-body ws) 10 key _
      (must-diagnosis (parse.counted k (length ws)) 5 key _
      (ap (λ (y : Refusal). or_else y held) (words-diagnosis n t (rules_of k).forms (length ws) 0 ws)
      ∙ then-diagnosis (values_of n (parse.form_of k (length ws)) 0 ws) (λ xs. checked_before k x key ws xs) held h))

  -- 9 and 11 of curv and surf
  body-diagnosis : (k : Free) (b : Bool) (r : ℕ) (xs : List Value) (y : statements.Statement) → in_force_by b (form_in x.form) ≡ parse.in_force k x.form x.form.basis
      → values_of (parse.seen_in x) (λ i. cond (ltb i r) parse.a-number (parse.a-corner (record { vt = b; vn = b }))) 0 ws ≡ fine xs
      → body_fault (parse.seen_in x) t (form_in x.form) key b (drop r ws)
      ≡ diagnosis_of (unless (unlike (drop r ws) (corners_of xs)) 9 (must (parse.in_force k x.form x.form.basis) 11 key (fine y)))
  body-diagnosis k b r xs y h e =
      let f : ℕ → parse.WordForm = λ i. cond (ltb i r) parse.a-number (parse.a-corner (record { vt = b; vn = b })) in
      let low : (i : ℕ) → 0 ≤ i → i < r + 0 → f i ≡ parse.a-number = λ i p q. let l : i < r = omega arith in rw (lt-ltb i r l) refl in
      let high : (i : ℕ) → r + 0 ≤ i → f i ≡ parse.a-corner (record { vt = b; vn = b }) = λ i p. let l : r ≤ i = omega arith in rw (le-ltb i r l) refl in
      let k' = skip-values (parse.seen_in x) r 0 f ws xs low e in
      ap (λ (z : Refusal). or_else z (owed (in_force_by b (form_in x.form)) 11 key Nothing))
      (pattern-walk (parse.seen_in x) t b b f (r + 0) (drop r ws) k'.values high k'.is
      ∙ ap (λ (cs : List Corner). diagnosis_at 9 (unlike (drop r ws) cs)) (sym k'.corners))
      ∙ unless-diagnosis (unlike (drop r ws) (corners_of xs)) 9 _
      (ap (λ (z : Bool). owed z 11 key Nothing) h ∙ must-diagnosis (parse.in_force k x.form x.form.basis) 11 key _ refl)

  -- 11 and 12 of curv2
  curve2-diagnosis : (xs : List Value) (y : statements.Statement) → values_of (parse.seen_in x) (λ i. cond (ltb i 0) parse.a-number parse.a-control) 0 ws ≡ fine xs
      → curve2_fault (parse.seen_in x) t (form_in x.form) key ws
      ≡ diagnosis_of (unless (unlike ws (corners_of xs)) 9 (must (parse.in_force curve2 x.form x.form.basis) 11 key (unless (parse.narrow x.model.vertices.vp ws (corners_of xs)) 12 (fine y))))
  curve2-diagnosis xs y e =
      let f : ℕ → parse.WordForm = λ i. cond (ltb i 0) parse.a-number parse.a-control in
      let h : (k : ℕ) → f k ≡ parse.a-control = λ k. let l : 0 ≤ k = omega arith in rw (le-ltb k 0 l) refl in
      ap (λ (z : Bool). owed z 11 key (fault_in (parse.seen_in x) t (All Wide) 0 0 ws)) (curve2-force x.form x.form.basis refl)
      ∙ must-diagnosis (parse.in_force curve2 x.form x.form.basis) 11 key _
      (narrow_walk (parse.seen_in x) f h t x.model.vertices.vp (given-same t x.model.vertices.vp (length x.model.vertices.vp) refl given-in) 0 0 ws xs e
      ∙ last-diagnosis (parse.narrow x.model.vertices.vp ws (corners_of xs)) 12 y)
      ∙ sym (ap (λ (o : Option ℕ). diagnosis_of (unless o 9 (must (parse.in_force curve2 x.form x.form.basis) 11 key (unless (parse.narrow x.model.vertices.vp ws (corners_of xs)) 12 (fine y))))) (bare-unlike (parse.seen_in x) f h 0 ws xs e))

  element-diagnosis : (a b : Bool) (xs : List Value) (y : statements.Statement) → values_of (parse.seen_in x) (λ i. parse.a-corner (record { vt = a; vn = b })) 0 ws ≡ fine xs
      → pattern_fault (parse.seen_in x) t a b ws ≡ diagnosis_of (unless (unlike ws (corners_of xs)) 9 (fine y))
  element-diagnosis a b xs y e =
      pattern-walk (parse.seen_in x) t a b (λ i. parse.a-corner (record { vt = a; vn = b })) 0 ws xs (λ k l. refl) e ∙ last-diagnosis (unlike ws (corners_of xs)) 9 y

  carried-diagnosis : (k : Keyword) → line_fault (parse.seen_in x) t (form_in x.form) c.kind key k (length ws) ws ≡ diagnosis_of (parse_before k x key ws)
  carried-diagnosis (a-vertex k) = line-diagnosis (a-vertex k) (λ xs e. refl)
  carried-diagnosis (an-element point) = line-diagnosis (an-element point) (λ xs e. element-diagnosis false false xs _ e)
  carried-diagnosis (an-element line) = line-diagnosis (an-element line) (λ xs e. element-diagnosis true false xs _ e)
  carried-diagnosis (an-element face) = line-diagnosis (an-element face) (λ xs e. element-diagnosis true true xs _ e)
  carried-diagnosis (a-body curve) = line-diagnosis (a-body curve) (λ xs e. body-diagnosis curve false 2 xs _ (curve-force x.form x.form.basis refl) e)
  carried-diagnosis (a-body curve2) = line-diagnosis (a-body curve2) (λ xs e. curve2-diagnosis xs _ e)
  carried-diagnosis (a-body surface) = line-diagnosis (a-body surface) (λ xs e. body-diagnosis surface true 4 xs _ (surface-force x.form x.form.basis refl) e)
  carried-diagnosis parm = line-diagnosis parm (λ xs e. refl)
  carried-diagnosis trim = line-diagnosis trim (λ xs e. refl)
  carried-diagnosis hole = line-diagnosis hole (λ xs e. refl)
  carried-diagnosis ends = line-diagnosis ends (λ xs e. refl)
  carried-diagnosis cstype = line-diagnosis cstype (λ xs e. refl)
  carried-diagnosis deg = line-diagnosis deg (λ xs e. refl)
  carried-diagnosis g = line-diagnosis g (λ xs e. refl)
  carried-diagnosis s = line-diagnosis s (λ xs e. refl)
  carried-diagnosis usemtl = line-diagnosis usemtl (λ xs e. refl)
  carried-diagnosis over = line-diagnosis over (λ xs e. refl)

  pub statement-diagnosis : (k : Statement) → fault_for (parse.seen_in x) t (form_in x.form) c.kind key k (length ws) ws ≡ diagnosis_of (then (carried_in k key) (λ kw. parse_before kw x key ws))
  statement-diagnosis (Carried k) = carried-diagnosis k
  statement-diagnosis Unrecorded = refl
  statement-diagnosis Unknown = refl

-- ---- the whole line
module _ (text : List ℕ) (at : ℕ) where
  module _ {count next : ℕ} (k : Ok (record { value = count; next = next }) ≡ scan_of (rest_at text at)) where
    good : ((rest_at text at).bad ≡ none) × (length (rest_at text at).words ≡ count) × ((rest_at text at).next ≡ next)
    good = scan_good (rest_at text at) count next k

    pub some_word : {w : Word} {ws : List Word} → (rest_at text at).words ≡ w ∷ ws → 1 ≤ count
    some_word {w} {ws} e = let n = good.1 in let l = ap length e in omega arith

    pub diagnosis-none : (x : model.State) → (rest_at text at).words ≡ [] → Nothing ≡ diagnosis_of (unless (rest_at text at).bad 2 (fault_before x (rest_at text at).words))
    unfolding fault_before
    diagnosis-none x e = rw (good.0, e) refl

    pub diagnosis-line : (c : State) (t : List ℤ) (p : ℕ) {q : Refusal} (x : model.State) → StateIs text x c → GivenIn x.model.vertices.vp t
        → (rest_at text at).words ≡ word_at text p ∷ (rest_at text (end_of text p)).words
        → q ≡ statement_fault (seen_by (record { counts = record { v = c.used.v; vt = c.used.vt; vn = c.used.vn }; vp = c.used.vp; curves = c.curves })) t c.form c.open.kind text p (count - 1)
        → q ≡ diagnosis_of (unless (rest_at text at).bad 2 (fault_before x (rest_at text at).words))
    unfolding fault_before statement_fault
    diagnosis-line c t p {q} x i d e j =
        let ws = (rest_at text (end_of text p)).words in
        let k = statement_of (word_of (drop p text)) in
        let l = ap length e in
        let n = good.1 in
        let m : count - 1 ≡ length ws = omega arith in
        let seen : seen_by (record { counts = record { v = c.used.v; vt = c.used.vt; vn = c.used.vn }; vp = c.used.vp; curves = c.curves }) ≡ parse.seen_in x = rw (i.used, i.curves) refl in
        let y : q ≡ fault_for (parse.seen_in x) t (form_in x.form) c.open.kind p k (length ws) ws =
        j
        ∙ ap (λ (z : ℕ). fault_for (seen_by (record { counts = record { v = c.used.v; vt = c.used.vt; vn = c.used.vn }; vp = c.used.vp; curves = c.curves })) t c.form c.open.kind p k z ws) m
        ∙ ap (λ (z : parse.Seen). fault_for z t c.form c.open.kind p k (length ws) ws) seen
        ∙ ap (λ (z : Form). fault_for (parse.seen_in x) t z c.open.kind p k (length ws) ws) i.form in
        rw (good.0, e) (y ∙ statement-diagnosis text t p x c.open i.open-body d ws k)

  pub diagnosis-bad : {p : ℕ} (x : model.State) → Err p ≡ scan_of (rest_at text at) → Refused 2 p ≡ diagnosis_of (unless (rest_at text at).bad 2 (fault_before x (rest_at text at).words))
  diagnosis-bad {p} x k = rw (scan-fault (rest_at text at) p k) refl
