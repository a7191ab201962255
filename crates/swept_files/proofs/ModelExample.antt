-- A face and a curv2 of a model: v 1, vn 1 and vp 1 are named by no corner. The swept model, computed.
use Prim.Native.Nat.{ℕ}
use mathlib.Core.Path.{◌≡◌, refl}
use mathlib.Core.Bool.{false}
use mathlib.Core.List.{List, [], ◌∷◌}
use lib.IntN.{ℤ, pos}
use Rattle.references.specs.Corner.{Corner}
use Rattle.tables.specs.Bodies.{bezier}
use Rattle.model.specs.Model.{face, curve2, Body, plain, free, Model, start}
use Rattle.swept_files.specs.Files.{named_in, swept_model}

abbrev v : ℕ → List ℤ
v n = pos n ∷ pos 0 ∷ pos 0 ∷ pos 1000000 ∷ []

abbrev vn : ℕ → List ℤ
vn n = pos n ∷ pos 0 ∷ pos 0 ∷ []

abbrev vp : ℕ → List ℤ
vp n = pos 2 ∷ pos n ∷ pos 0 ∷ pos 1000000 ∷ []

abbrev corner : ℕ → ℕ → Corner
corner n k = record { v = n; vt = 0; vn = k }

abbrev segment : Body
segment =
    record {
      free = curve2;
      basis = bezier;
      rational = false;
      degree-u = 1;
      degree-v = 0;
      start-u = pos 0;
      end-u = pos 1;
      start-v = pos 0;
      end-v = pos 0;
      us = pos 0 ∷ pos 1 ∷ [];
      vs = [];
      loops = [];
    }

-- with these v, vn and vp, a face of these corners and a segment of these controls
abbrev model : (vs vns vps : List (List ℤ)) (corners controls : List Corner) → Model
model vs vns vps corners controls =
    record {
      vertices = record { v = vs; vt = []; vn = vns; vp = vps };
      elements = record { kind = plain face; corners = corners; names = start.names } ∷ record { kind = free segment; corners = controls; names = start.names } ∷ [];
    }

swept-is : swept_model (model (v 1 ∷ v 2 ∷ v 3 ∷ v 4 ∷ []) (vn 1 ∷ vn 2 ∷ []) (vp 1 ∷ vp 2 ∷ vp 3 ∷ []) (corner 4 2 ∷ corner 2 2 ∷ corner 3 2 ∷ []) (corner 3 0 ∷ corner 2 0 ∷ []))
    ≡ model (v 2 ∷ v 3 ∷ v 4 ∷ []) (vn 2 ∷ []) (vp 2 ∷ vp 3 ∷ []) (corner 3 1 ∷ corner 1 1 ∷ corner 2 1 ∷ []) (corner 2 0 ∷ corner 1 0 ∷ [])
unfolding swept_model named_in
swept-is = refl
