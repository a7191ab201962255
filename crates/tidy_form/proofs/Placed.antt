-- What reading keeps of a model, and that the layout's tables give such a model back: rows of fixed widths, loops of one part or more, names that stand in the text.
use Prim.Native.Nat.{ℕ, suc, ◌*◌, ◌<◌}
use mathlib.Core.Path.{◌≡◌, refl, sym, ap, ◌∙◌, subst}
use mathlib.Core.List.{List, [], ◌∷◌}
use mathlib.Core.Bool.{Bool, true, false}
use mathlib.Core.Option.{Option, none}
use lib.ListN.{length, length-map}
use lib.Dec.{ltb}
use lib.IntN.{ℤ}
use native.Mathlib.Omega.{arith}
use borrow.Author.Tests.{ltb-true}
use Rattle.lists.specs.Lists.{flat}
use Rattle.lists.proofs.Tests.{and_left}
use Rattle.text.specs.Words.{Word}
use Rattle.references.specs.Corner.{Corner}
use Rattle.model.specs.Model.{VertexKind, geometric, texture, normal, parametric, Vertices, Free, curve, curve2, surface, Part, Loop, Kind, plain, free, Element, Model, start}
use Rattle.model.specs.Parse.{number, counted, vertex_record}
use Rattle.model.proofs.Pieces.{counted_vertex}
use Rattle.model.specs.Room.{Rooms}
use Rattle.model.specs.Read.{read, read_of}
use Rattle.model.proofs.Placed.{Wide, Parted, PartedKind, PartedAll, Placed}
use Rattle.tidy_form.specs.declared.Weights.TheVariants as weights
use Rattle.tidy_form.specs.Printed.{coordinates}
use Rattle.tidy_form.proofs.Values.{loop_key, part_values}
use Rattle.tidy_form.proofs.Coordinates.{completed-length}
use Rattle.tidy_form.proofs.Good.{GoodVertices, GoodLoops, LoopsIn, GoodKind, plus, GoodElements}
use Rattle.tidy_form.proofs.Reading.{read-came}
use Rattle.tidy_form.proofs.Named.{read-stands}

-- ---- rows of fixed widths, loops of one part or more
pub record-length : (k : VertexKind) (z : List ℤ) → counted_vertex k (length z) ≡ true → length (vertex_record k z) ≡ length (vertex_record k [])
record-length geometric z c = completed-length geometric z c
record-length texture z c = completed-length texture z c
record-length normal z c = completed-length normal z c
record-length parametric z c = ap suc (completed-length parametric z c)

pub vertices-wide : (k : VertexKind) (zs : List (List ℤ)) → GoodVertices k zs → Wide (length (vertex_record k [])) zs
vertices-wide k [] g = tt
vertices-wide k (z ∷ zs) g =
    let f = g.0 start.model.vertices 0 in
    let c : counted_vertex k (length (coordinates weights.Always k z)) ≡ true = ap (counted_vertex k) (sym (length-map (coordinates weights.Always k z) number)) ∙ f.many weights.Always in
    (ap length (sym (f.whole weights.Always)) ∙ record-length k (coordinates weights.Always k z) c, vertices-wide k zs g.1)

three : (ps : List Part) → length (flat part_values ps) ≡ 3 * length ps
three [] = refl
three (p ∷ ps) = let i = three ps in omega arith

some-parts : (h : Bool) (n : ℕ) → counted (loop_key h) n ≡ true → 0 < n
some-parts true n c = ltb-true 0 n (and_left (ltb 0 n) _ c)
some-parts false n c = ltb-true 0 n (and_left (ltb 0 n) _ c)

pub loops-parted : (x : Vertices) (n : ℕ) (ls : List Loop) → GoodLoops x n ls → Parted ls
loops-parted x n [] g = tt
loops-parted x n (l ∷ ls) g =
    let a = some-parts l.hole (length (flat part_values l.parts)) (g.0.many weights.Always) in
    let b = three l.parts in
    (omega arith, loops-parted x n ls g.1)

parted-in : (x : Vertices) (n : ℕ) (k : Free) (ls : List Loop) → LoopsIn x n k ls → Parted ls
parted-in x n curve ls g = subst Parted (sym g) tt
parted-in x n curve2 ls g = subst Parted (sym g) tt
parted-in x n surface ls g = loops-parted x n ls g

kind-parted : (x : Vertices) (n : ℕ) (k : Kind) (cs : List Corner) → GoodKind x n k cs → PartedKind k
kind-parted x n (plain k) cs g = tt
kind-parted x n (free b) cs g = parted-in x n b.free b.loops g.loops

elements-parted : (x : Vertices) (n : ℕ) (a : Option Word) (es : List Element) (l : Option Word) → GoodElements x n a es l → PartedAll es
elements-parted x n a [] l g = tt
elements-parted x n a (e ∷ es) l g = (kind-parted x n e.kind e.corners g.0, elements-parted x (plus e.kind n) e.names.material es l g.3)

-- ---- what reading keeps of a model
pub record Kept (m : Model) : Type 0 where
  pub v : GoodVertices geometric m.vertices.v
  pub vt : GoodVertices texture m.vertices.vt
  pub vn : GoodVertices normal m.vertices.vn
  pub vp : GoodVertices parametric m.vertices.vp
  pub last : Option Word
  pub elements : GoodElements m.vertices 0 none m.elements last

pub kept : (R : Rooms) (s : List ℕ) (m : Model) → read_of R s ≡ read m → Kept m
kept R s m h =
    let c = read-came R s m h in
    let g = c.good in
    let e = c.model in
    record {
      v = subst (λ (k : Model). GoodVertices geometric k.vertices.v) e g.v;
      vt = subst (λ (k : Model). GoodVertices texture k.vertices.vt) e g.vt;
      vn = subst (λ (k : Model). GoodVertices normal k.vertices.vn) e g.vn;
      vp = subst (λ (k : Model). GoodVertices parametric k.vertices.vp) e g.vp;
      last = c.state.names.material;
      elements = subst (λ (k : Model). GoodElements m.vertices 0 none k.elements c.state.names.material) e g.elements;
    }

pub read-placed : (R : Rooms) (t : List ℕ) (m : Model) → read_of R t ≡ read m → Placed t m
read-placed R t m h =
    let k = kept R t m h in
    let x = m.vertices in
    record {
      rows = (vertices-wide geometric x.v k.v, vertices-wide texture x.vt k.vt, vertices-wide normal x.vn k.vn, vertices-wide parametric x.vp k.vp);
      loops = elements-parted x 0 none m.elements k.last k.elements;
      names = read-stands t R m h;
    }
