-- Demand 2 as the tables show it. From reading the tidy text back, same tidy texts, and tables that agree where models do.
use Prim.Native.Nat.{ℕ, ◌≤◌}
use mathlib.Core.Path.{◌≡◌}
use mathlib.Core.List.{List}
use lib.ListN.{length}
use Rattle.model.specs.Model.{Model}
use Rattle.model.specs.Room.{Rooms}
use Rattle.model.specs.Read.{read, read_of}
use Rattle.model.specs.Layout.{tables_of, used_of}
use Rattle.tidy_form.specs.declared.Weights.{Weights}
use Rattle.tidy_form.specs.Printed.{tidy_text}
use Rattle.tidy_form.specs.Agree.{TablesAgree}
use Rattle.tidy_form.proofs.TidyRead.{tidy-read}
use Rattle.tidy_form.proofs.SameTidy.{same-tidy}
use Rattle.tidy_form.proofs.TablesAgree.{agree-tables, tables_agree}

-- "reading that form gives the same tables, apart from where names stand and the blanks between them"
pub tidy-tables : (c : Weights) (R : Rooms) (t : List ℕ) (m : Model) → read_of R t ≡ read m → length (tidy_text c m) ≤ 16777216
    → (k : Model) × (read_of R (tidy_text c m) ≡ read k) × TablesAgree (tidy_text c m) (tables_of R k) (used_of k) t (tables_of R m) (used_of m)
tidy-tables c R t m h l =
    let a = tidy-read c R t m h l in
    (a.0, a.1, agree-tables R R (tidy_text c m) t a.0 m a.1 h a.2)

-- "Two accepted files that can be tidied get the same tidy text exactly when their tables agree in that sense.": within one choice of weights
pub same-tidy-tables : (c : Weights) (R S : Rooms) (t u : List ℕ) (m n : Model) → read_of R t ≡ read m → read_of S u ≡ read n
    → length (tidy_text c m) ≤ 16777216 → length (tidy_text c n) ≤ 16777216
    → (tidy_text c m ≡ tidy_text c n → TablesAgree t (tables_of R m) (used_of m) u (tables_of S n) (used_of n))
    × (TablesAgree t (tables_of R m) (used_of m) u (tables_of S n) (used_of n) → tidy_text c m ≡ tidy_text c n)
same-tidy-tables c R S t u m n h k l j =
    let s = same-tidy c R S t u m n h k l j in
    (λ e. agree-tables R S t u m n h k (s.0 e), λ a. s.1 (tables_agree R S t u m n h k a))
