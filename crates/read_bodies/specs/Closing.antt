-- 01, "Bodies": what `end` holds a body against, from the numbers that the code has of it.
use Rattle.std.specs.Prelude.{ℕ, ◌+◌, ◌*◌, ◌-◌, ◌≤◌, ◌<◌, ◌≡◌, List, [], ◌++◌, Bool, true, false, cond, ◌&&◌, not, length, get_or, eqb, ℤ, pos, Result, Ok, Err}
use Rattle.std.proofs.lemmas.List.Edits.{sets}
use Rattle.refusals.specs.declared.Reason.{Reason}
use Rattle.refusals.specs.Reasons.{reason_number}
use Rattle.tables.specs.Bodies.{curve_count, surface_count, basis_of}
use Rattle.parameter_order.specs.declared.Order.{Order}
use Rattle.parameter_order.specs.Stepping.{holds_in}
use Rattle.tables.specs.Records.{curve2_kind, surface_kind}
use Rattle.tables.specs.Rows.{body_numbers, range_numbers}
use Rattle.tables.specs.declared.Used.{Used}
use Rattle.tables.specs.declared.Body as Record
use Rattle.model.specs.Model.{Body}
use Rattle.model.specs.Statements.{settled}
use Rattle.model.specs.Parse.{complete, counts_agree, range_within}
use Rattle.model.specs.Layout.{first_part}
use Rattle.read_state.specs.declared.Form.{Form}
use Rattle.read_state.specs.declared.Open.{Open}
use Rattle.statements.specs.Numbered.{free_of}
use Rattle.read_bodies.specs.Numbers.{numbers_at}
use Rattle.read_bodies.specs.declared.closing.Checked.{Checked}
use Rattle.read_bodies.specs.declared.closing.Closed.{Closed}

-- the numbers of the last parm of a direction; none where its place is 0
unfoldable pub parm_of : List ℕ → ℕ → List ℤ
parm_of s at = cond (eqb at 0) [] (numbers_at s at)

-- ---- 11 and 12, from the counts
abbrev pub complete_of : ℕ → ℕ → ℕ → Bool
complete_of kind u v = not (eqb u 0) && cond (eqb kind surface_kind) (not (eqb v 0)) true

abbrev pub agree_of : ℕ → Form → ℕ → ℕ → ℕ → Bool
agree_of kind f u v k =
    cond (eqb kind surface_kind)
    (surface_count (basis_of f.basis) f.degree_u u f.degree_v v k)
    (curve_count (basis_of f.basis) f.degree_u u k)

-- 13 along u, on a surface along v too: from what the parameters of each came to
abbrev pub held_of : ℕ → Order → Order → ℤ → ℤ → ℤ → ℤ → Bool
held_of kind along-u along-v a b c d = holds_in along-u a b && cond (eqb kind surface_kind) (holds_in along-v c d) true

-- ---- the body that the numbers stand for, its loops aside
abbrev pub body_for : Form → ℕ → List ℤ → List ℤ → ℤ → ℤ → ℤ → ℤ → Body
body_for f kind us vs a b c d =
    record {
      free = free_of kind;
      basis = basis_of f.basis;
      rational = eqb f.rational 1;
      degree-u = f.degree_u;
      degree-v = f.degree_v;
      start-u = a;
      end-u = b;
      start-v = c;
      end-v = d;
      us = us;
      vs = vs;
      loops = [];
    }

-- 11, 12, 13 in their order; 0 for none
abbrev pub closing_refusal : Body → ℕ → ℕ
closing_refusal b k = cond (complete b.free b) (cond (counts_agree b.free b k) (cond (range_within b.free b) 0 13) 12) 11

pub record Passed (b : Body) (k u v : ℕ) (start end : ℤ) : Type 0 where
  pub none-wrong : closing_refusal b k ≡ 0
  pub count-u : u ≡ length b.us
  pub count-v : v ≡ length b.vs
  pub small-u : u ≤ 16777216
  pub small-v : v ≤ 16777216
  pub starts : start ≡ (settled b.free b).start-u
  pub ends : end ≡ (settled b.free b).end-u

-- with the ends of the range along u: a curv2's are the widest
pub record Settled (kind : ℕ) (along-u along-v : Order) (a b c d start end : ℤ) : Type 0 where
  pub start_is : start ≡ cond (eqb kind curve2_kind) along-u.low a
  pub end_is : end ≡ cond (eqb kind curve2_kind) along-u.high b
  pub held : held_of kind along-u along-v start end c d ≡ true

abbrev pub SettledIs : ℕ → ℕ → ℕ → Order → Order → ℤ → ℤ → ℤ → ℤ → Result Checked Reason → Type 0
SettledIs kind u v along-u along-v a b c d (Err r) =
    (reason_number r ≡ 13) × (held_of kind along-u along-v (cond (eqb kind curve2_kind) along-u.low a) (cond (eqb kind curve2_kind) along-u.high b) c d ≡ false)
SettledIs kind u v along-u along-v a b c d (Ok w) = (w.u ≡ u) × (w.v ≡ v) × Settled kind along-u along-v a b c d w.start w.end

-- the table p of parameters, and x after it: the parameters zs are stored where nothing is wrong
abbrev pub StoredIs : List ℤ → List ℤ → ℕ → List ℤ → Result Checked Reason → Type 0
StoredIs p x first zs (Err r) = length x ≡ length p
StoredIs p x first zs (Ok w) = x ≡ sets p first zs

abbrev pub BodyCheckIs : Body → ℕ → Result Checked Reason → Type 0
BodyCheckIs b k (Err r) = (closing_refusal b k ≡ reason_number r) × (0 < reason_number r)
BodyCheckIs b k (Ok w) = Passed b k w.u w.v w.start w.end

-- ---- the tables of bodies l, of ranges r and of parameters p at the body's end; m, q, o after it
abbrev pub stored_body : Form → Open → Used → ℕ → ℕ → ℤ → ℤ → ℤ → ℤ → Record.Body
stored_body f o used u v start-u end-u start-v end-v =
    record {
      basis = f.basis;
      rational = f.rational;
      degree_u = f.degree_u;
      degree_v = f.degree_v;
      first_parameter = used.parameters;
      count_u = u;
      count_v = v;
      first_loop = first_part (used.loops - o.parts) o.parts;
      loops = o.parts;
      start_u = start-u;
      end_u = end-u;
      start_v = start-v;
      end_v = end-v;
    }

-- with the range of the body b
abbrev pub stored_body_of : Form → Open → Used → ℕ → ℕ → Body → Record.Body
stored_body_of f o used u v b = stored_body f o used u v b.start-u b.end-u b.start-v b.end-v

-- what the range's record holds for it so far
abbrev pub open_body_in : Form → Open → Used → List ℕ → List ℕ → List ℤ → Body
open_body_in f o used s t r =
    let at = 4 * (used.bodies - 1) in
    body_for f o.kind (parm_of s o.u_at) (parm_of t o.v_at) (get_or r at (pos 0)) (get_or r (at + 1) (pos 0)) (get_or r (at + 2) (pos 0)) (get_or r (at + 3) (pos 0))

pub record Stored (f : Form) (o : Open) (used : Used) (b : Body) (l m : List ℕ) (r q p x : List ℤ) (u v : ℕ) : Type 0 where
  pub none-wrong : closing_refusal b o.controls ≡ 0
  pub count-u : u ≡ length b.us
  pub count-v : v ≡ length b.vs
  pub room : used.parameters + (length b.us + length b.vs) ≤ length p
  pub parameters : x ≡ sets p used.parameters (b.us ++ b.vs)
  pub body : m ≡ sets l (9 * (used.bodies - 1)) (body_numbers (stored_body_of f o used u v (settled b.free b)))
  pub range : q ≡ sets r (4 * (used.bodies - 1)) (range_numbers (stored_body_of f o used u v (settled b.free b)))

-- 14 where nothing else is wrong and the parameters pass the lent entries
pub record NotStored (o : Open) (used : Used) (b : Body) (l m : List ℕ) (r q p x : List ℤ) (n : ℕ) : Type 0 where
  pub number : n ≡ cond (eqb (closing_refusal b o.controls) 0) 14 (closing_refusal b o.controls)
  pub short : closing_refusal b o.controls ≡ 0 → length p < used.parameters + (length b.us + length b.vs)
  pub same : length m ≡ length l
  pub same-ranges : length q ≡ length r
  pub same-parameters : length x ≡ length p

abbrev pub ClosedIs : Form → Open → Used → Body → List ℕ → List ℕ → List ℤ → List ℤ → List ℤ → List ℤ → Result Closed Reason → Type 0
ClosedIs f o used b l m r q p x (Ok w) = Stored f o used b l m r q p x w.u w.v
ClosedIs f o used b l m r q p x (Err n) = NotStored o used b l m r q p x (reason_number n)
