-- The demands are kept: they hold of the definitions, and what is equal to a definition at every text and request is the definition.
use Prim.Native.Nat.{ℕ}
use mathlib.Core.Path.{◌≡◌, sym, fun_ext, subst₃}
use mathlib.Core.List.{List}
use lib.IntN.{ℤ}
use Rattle.tables.specs.Tables.{Tables}
use Rattle.tables.specs.declared.Used.{Used}
use Rattle.reader.specs.Reading.{read_into}
use Rattle.tidy_form.specs.declared.Weights.{Weights}
use Rattle.tidier.specs.Tidying.{tidy_into}
use Rattle.sampler.specs.Answers.{point_on_curve, point_on_surface, run_into}
use Rattle.sampler.specs.Demand3.{sampling}
use Rattle.end_to_end.specs.EntryPoints.{Reader, Tidier, Sampler}
use Rattle.end_to_end.specs.Kept.{Promised, Demands, Kept}
use Rattle.end_to_end.proofs.First.{first}
use Rattle.end_to_end.proofs.Second.{second}
use Rattle.end_to_end.proofs.Third.{third}

module _ {reads : Reader} {tidies : Tidier} {samples : Sampler} (h : Promised reads tidies samples) where
  read_at : (s : List ℕ) (S : Tables) → reads s S ≡ read_into s S
  read_at s S = h.read s S

  tidy-at : (c : Weights) (s : List ℕ) (S : Tables) (a : List ℕ) → tidies c s S a ≡ tidy_into c s S a
  tidy-at c s S a = h.tidy c s S a

  curve-at : (u : Used) (t : Tables) (number : ℕ) (p : ℤ) → samples.curve u t number p ≡ point_on_curve u t number p
  curve-at u t number p = h.curve u t number p

  surface-at : (u : Used) (t : Tables) (number : ℕ) (p q : ℤ) → samples.surface u t number p q ≡ point_on_surface u t number p q
  surface-at u t number p q = h.surface u t number p q

  run_at : (u : Used) (t : Tables) (number steps at : ℕ) (points : List ℤ) → samples.run u t number steps at points ≡ run_into u t number steps at points
  run_at u t number steps at points = h.run u t number steps at points

  the-reader : reads ≡ read_into
  the-reader = fun_ext (λ s. fun_ext (λ S. read_at s S))

  the-tidier : tidies ≡ tidy_into
  the-tidier = fun_ext (λ c. fun_ext (λ s. fun_ext (λ S. fun_ext (λ a. tidy-at c s S a))))

  the-curves : samples.curve ≡ point_on_curve
  the-curves = fun_ext (λ u. fun_ext (λ t. fun_ext (λ number. fun_ext (λ p. curve-at u t number p))))

  the-surfaces : samples.surface ≡ point_on_surface
  the-surfaces = fun_ext (λ u. fun_ext (λ t. fun_ext (λ number. fun_ext (λ p. fun_ext (λ q. surface-at u t number p q)))))

  the-runs : samples.run ≡ run_into
  the-runs = fun_ext (λ u. fun_ext (λ t. fun_ext (λ number. fun_ext (λ steps. fun_ext (λ at. fun_ext (λ points. run_at u t number steps at points))))))

  the-sampler : samples ≡ sampling
  the-sampler = λ i. record { curve = the-curves i; surface = the-surfaces i; run = the-runs i }

pub kept : Kept
kept reads tidies samples h =
    subst₃ (λ (x : Reader) (y : Tidier) (z : Sampler). Demands x y z) (sym (the-reader h)) (sym (the-tidier h)) (sym (the-sampler h))
    (record { first = first; second = second; third = third })
