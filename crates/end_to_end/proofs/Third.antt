-- Demand 3 of the tables that read_into fills: they obey the rules, and what they give is the file's own.
use Prim.Native.Nat.{ℕ, ◌-◌, ◌≤◌}
use mathlib.Core.Path.{◌≡◌, sym, ap, ◌∙◌, subst}
use mathlib.Core.Bool.{Bool, true, false}
use mathlib.Core.List.{List}
use native.Mathlib.Omega.{arith}
use lib.ListN.{take}
use Rattle.end_to_end.specs.EntryPoints.{as_read}
use Rattle.tables.specs.Tables.{Tables}
use Rattle.tables.specs.declared.Used.{Used}
use Rattle.model.specs.Model.{Model}
use Rattle.model.specs.Room.{Rooms}
use Rattle.model.specs.Read.{read, read_of}
use Rattle.model.specs.Layout.{tables_of, used_of}
use Rattle.reader.specs.Reading.{rooms_of, read_into}
use Rattle.record_rules.specs.Rules.{obeys, curves_before}
use Rattle.std.specs.Prelude.{Some}
use Rattle.refusals.specs.declared.Reason.TheVariants.{BrokenRecord}
use Rattle.sampler.specs.Answers.{refusal_of}
use Rattle.sampler.specs.Demand3.{sampling, Plain, Obeying}
use Rattle.sampler.proofs.OnSurfaces.{elements-sampled}
use Rattle.tidier.specs.Tidying.{tidy_into, as_written}
use Rattle.tidy_form.specs.declared.Weights.{Weights}
use Rattle.tidy_form.specs.Printed.{tidy_text}
use Rattle.sampled_files.specs.Joined.{SampledAlike}
use Rattle.sampled_files.proofs.Never15.{used-elements, obeyed, sampling-never-15}
use Rattle.sampled_files.proofs.Accepted.{accepted-curves, accepted-runs, accepted-surfaces}
use Rattle.sampled_files.proofs.Tidied.{tidied-samples-alike}
use Rattle.end_to_end.specs.Demand3.{PointsIn, PointsOf, Demand3}
use Rattle.end_to_end.proofs.Inside.{Accepted, accepted, tidied-file}
use Rattle.end_to_end.proofs.Samples.{curve-not-15, surface-not-15, run-not-15}
use Rattle.end_to_end.proofs.Second.{its-answer, its-tables, read_back}

-- what holds of the counts and the tables of a file holds of the answer and the tables that reading it leaves
pub shown : (P : Used → Tables → Type 0) (s : List ℕ) (S : Tables) (u : Used) (m : Model) → (read_into s S).answer ≡ as_read u → read_of (rooms_of S) s ≡ read m
    → P (used_of m) (tables_of (rooms_of S) m) → P u (read_into s S).tables
shown P s S u m h e q =
    let f : as_read (used_of m) ≡ as_read u = sym (its-answer s S m e) ∙ h in
    let g : used_of m ≡ u = cc in
    subst (λ (w : Used). P w (read_into s S).tables) g (subst (P (used_of m)) (sym (its-tables s S m e)) q)

module _ (s : List ℕ) (S : Tables) (u : Used) (h : (read_into s S).answer ≡ as_read u) where
  abbrev file : Accepted s S u
  file = accepted s S u h

  abbrev t : Tables
  t = (read_into s S).tables

  its-obeyed : (number : ℕ) → 1 ≤ number → number ≤ u.elements → obeys u t (curves_before t (number - 1)) (number - 1) ≡ true
  its-obeyed number a =
      shown (λ (w : Used) (x : Tables). number ≤ w.elements → obeys w x (curves_before x (number - 1)) (number - 1) ≡ true) s S u file.model h file.is_read
      (λ b. obeyed (rooms_of S) s file.model file.is_read number a (let e = used-elements file.model in omega arith))

  pub never-15 : (asked : Bool) (number : ℕ) → refusal_of asked u t number ≡ Some BrokenRecord → ⊥
  never-15 asked number =
      shown (λ (w : Used) (x : Tables). refusal_of asked w x number ≡ Some BrokenRecord → ⊥) s S u file.model h file.is_read
      (sampling-never-15 (rooms_of S) s file.model file.is_read asked number)

  pub its-obeying : (number : ℕ) → Plain u t number → Obeying u t number
  its-obeying number c = (c, its-obeyed number c.some c.in_use)

filled : (s : List ℕ) (S : Tables) (u : Used) → (read_into s S).answer ≡ as_read u → PointsIn sampling u (read_into s S).tables
filled s S u h =
    let t = (read_into s S).tables in
    record {
      given = λ number c. elements-sampled u t number (its-obeying s S u h number c);
      curves-15 = λ number p. curve-not-15 u t number (never-15 s S u h false number) p;
      runs-15 = λ number steps at points. run-not-15 u t number (never-15 s S u h false number) steps at points;
      surfaces-15 = λ number p q. surface-not-15 u t number (never-15 s S u h true number) p q;
    }

own : (s : List ℕ) (S : Tables) (u : Used) (m : Model) → (read_into s S).answer ≡ as_read u → read_of (rooms_of S) s ≡ read m → PointsOf sampling u (read_into s S).tables m
own s S u m h e =
    shown (λ (w : Used) (x : Tables). PointsOf sampling w x m) s S u m h e
    (record {
      curves = λ number b o c k p f g. accepted-curves (rooms_of S) s m e number b o c k p f g;
      runs = λ number b o c k steps at points f g l. accepted-runs (rooms_of S) s m e number b o c k steps at points f g l;
      surfaces = λ number b o c k p q f g d i. accepted-surfaces (rooms_of S) s m e number b o c k p q f g d i;
    })

sampled : (u w x y : Used) (S S' T T' : Tables) → u ≡ w → x ≡ y → S ≡ S' → T ≡ T' → SampledAlike sampling u S x T → SampledAlike sampling w S' y T'
sampled u w x y S S' T T' e f g h a = rw (← e, ← f, ← g, ← h) a

alike : (c : Weights) (s : List ℕ) (S : Tables) (a : List ℕ) (n : ℕ) (u : Used) → (tidy_into c s S a).answer ≡ as_written n u
    → (T : Tables) → rooms_of T ≡ rooms_of S → SampledAlike sampling u (tidy_into c s S a).tables u (read_into (take n (tidy_into c s S a).out) T).tables
alike c s S a n u h T e =
    let f = tidied-file c s S a n u h in
    let m = f.model in
    let b = tidied-samples-alike c (rooms_of S) s m f.is_read f.rest.short in
    let k = b.0 in
    let again : read_of (rooms_of T) (tidy_text c m) ≡ read k = ap (λ (R : Rooms). read_of R (tidy_text c m)) e ∙ b.1 in
    let filled : tables_of (rooms_of S) k ≡ (read_into (tidy_text c m) T).tables = sym (its-tables (tidy_text c m) T k again ∙ ap (λ (R : Rooms). tables_of R k) e) in
    let text : tidy_text c m ≡ take n (tidy_into c s S a).out = sym f.rest.text in
    let counts : used_of k ≡ u = counted (take n (tidy_into c s S a).out) T u k (subst (λ (w : List ℕ). read_of (rooms_of T) w ≡ read k) text again) (read_back c s S a n u h T e).answer in
    sampled (used_of m) u (used_of k) u (tables_of (rooms_of S) m) (tidy_into c s S a).tables (tables_of (rooms_of S) k) (read_into (take n (tidy_into c s S a).out) T).tables
    f.rest.counts counts (sym f.tables) (filled ∙ ap (λ (w : List ℕ). (read_into w T).tables) text) b.2
  where
    counted : (w : List ℕ) (T : Tables) (u : Used) (k : Model) → read_of (rooms_of T) w ≡ read k → (read_into w T).answer ≡ as_read u → used_of k ≡ u
    counted w T u k g h = let f : as_read (used_of k) ≡ as_read u = sym (its-answer w T k g) ∙ h in cc

pub third : Demand3 read_into tidy_into sampling
third =
    record {
      obeying = elements-sampled;
      filled = filled;
      own = own;
      alike = alike;
    }
