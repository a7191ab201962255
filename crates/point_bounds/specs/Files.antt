-- Must be believed: a promise reaches every definition of this file.
-- Q-8 from a text on: the tables are those that reading fills, and no table stands between the file and its points.
use Rattle.end_to_end.specs.EntryPoints.{as_read, Reader}
use Rattle.std.specs.Prelude.{ℕ, ◌≡◌, List}
use Rattle.tables.specs.Tables.{Tables}
use Rattle.tables.specs.declared.Used.{Used}
use Rattle.sampler.specs.Demand3.{Sampler, Plain}
use Rattle.point_bounds.specs.Outline.{ElementInside}

-- of every curve and surface that is read
abbrev pub FilesInside : Reader → Sampler → Type 0
FilesInside reads samples =
    (s : List ℕ) (S : Tables) (u : Used) → (reads s S).answer ≡ as_read u → (number : ℕ) → Plain u (reads s S).tables number → ElementInside samples u (reads s S).tables number
