-- The steps of a line and of its statement put together: what each answer says of the definition in its order.
use Prim.Native.Nat.{ℕ}
use mathlib.Core.Path.{◌≡◌, sym, ap, ◌∙◌}
use mathlib.Core.List.{List}
use mathlib.Core.Bool.{Bool, true, false}
use lib.IntN.{ℤ}
use Rattle.text.specs.Words.{Word}
use Rattle.text.specs.Rest.{rest_at, end_of}
use Rattle.keywords.specs.Lookup.{keyword_at}
use Rattle.keywords.specs.declared.Keyword.{Keyword}
use Rattle.statements.specs.declared.Carried as carried
use Rattle.statements.specs.declared.Statement.{Statement}
use Rattle.statements.specs.declared.Statement.TheVariants.{Carried, Refused as Unrecorded, Unknown}
use Rattle.statements.specs.declared.rules.Rules.{Rules}
use Rattle.statements.specs.Rules.{allowed_by, counted_by, rules_of}
use Rattle.statements.specs.Numbered.{free_numbered}
use Rattle.model.specs.Parse as parse
use Rattle.read_state.specs.declared.Form.{Form}
use Rattle.read_word_checks.specs.Faults.{Refusal, Refused, owed}
use Rattle.read_diagnosis.specs.Lines.{words_fault, line_by, line_fault, fault_for, statement_fault}
use Rattle.read_word_checks.proofs.Steps.{owed-is, owed-not}

-- ---- a line
module _ (n : parse.Seen) (t : List ℤ) (f : Form) (kind key : ℕ) (k : carried.Carried) (m : ℕ) (ws : List Word) (r : Rules) (e : r ≡ rules_of k) {v : Bool} (d : v ≡ parse.says_v ws) where
  by-rules : {q : Refusal} → q ≡ line_by n t f kind key r m ws → q ≡ line_fault n t f kind key k m ws
  unfolding line_fault
  by-rules h = h ∙ ap (λ (y : Rules). line_by n t f kind key y m ws) e

  pub line-goes : {a c : Bool} {q : Refusal} → a ≡ allowed_by r.standing (free_numbered kind) v → a ≡ true → c ≡ counted_by r.count m → c ≡ true → q ≡ words_fault n t f key r.forms r.held m ws → q ≡ line_fault n t f kind key k m ws
  line-goes i j c y h =
      by-rules
      (owed-is _ 10 key (sym (ap (allowed_by r.standing (free_numbered kind)) d) ∙ sym i ∙ j) (owed-is _ 5 key (sym c ∙ y) h))

  pub line-count : {a c : Bool} → a ≡ allowed_by r.standing (free_numbered kind) v → a ≡ true → c ≡ counted_by r.count m → c ≡ false → Refused 5 key ≡ line_fault n t f kind key k m ws
  line-count i j c y =
      by-rules
      (owed-is _ 10 key (sym (ap (allowed_by r.standing (free_numbered kind)) d) ∙ sym i ∙ j)
      (owed-not (counted_by r.count m) 5 key (words_fault n t f key r.forms r.held m ws) (sym c ∙ y)))

  pub line-out : {a : Bool} → a ≡ allowed_by r.standing (free_numbered kind) v → a ≡ false → Refused 10 key ≡ line_fault n t f kind key k m ws
  line-out i j =
      by-rules
      (owed-not (allowed_by r.standing (free_numbered kind) (parse.says_v ws)) 10 key (owed (counted_by r.count m) 5 key (words_fault n t f key r.forms r.held m ws)) (sym (ap (allowed_by r.standing (free_numbered kind)) d) ∙ sym i ∙ j))

-- ---- a statement
module _ (n : parse.Seen) (t : List ℤ) (f : Form) (kind : ℕ) (s : List ℕ) (key m : ℕ) (w : Keyword) (h : w ≡ keyword_at s key) where
  is-for : {x : Statement} → w.statement ≡ x → statement_fault n t f kind s key m ≡ fault_for n t f kind key x m (rest_at s (end_of s key)).words
  unfolding keyword_at statement_fault
  is-for i = ap (λ (y : Statement). fault_for n t f kind key y m (rest_at s (end_of s key)).words) (sym (ap (λ (y : Keyword). y.statement) h) ∙ i)

  pub statement-known : {k : carried.Carried} {e : ℕ} {q : Refusal} → w.statement ≡ Carried k → e ≡ end_of s key → q ≡ line_fault n t f kind key k m (rest_at s e).words → q ≡ statement_fault n t f kind s key m
  statement-known {k} i d j = j ∙ ap (λ (y : ℕ). line_fault n t f kind key k m (rest_at s y).words) d ∙ sym (is-for i)

  pub statement-refused : w.statement ≡ Unrecorded → Refused 4 key ≡ statement_fault n t f kind s key m
  statement-refused i = sym (is-for i)

  pub statement-unknown : w.statement ≡ Unknown → Refused 3 key ≡ statement_fault n t f kind s key m
  statement-unknown i = sym (is-for i)
