-- Must be believed: a promise reaches every definition of this file.
-- Q-6, refusal 15 of whole tables: "15 if any record (names aside) breaks a rule or passes the used or lent entries, or the corner, parameter or loop runs
-- don't follow on to the last used entry as reading lays them".
use Rattle.std.specs.Prelude.{ℕ, zero, suc, ◌+◌, Bool, true, cond, ◌&&◌, leb, eqb}
use Rattle.tables.specs.VertexTables.{vertex_lengths, vertex_within}
use Rattle.tables.specs.ElementTables.{element_lengths, element_within}
use Rattle.tables.specs.BodyTables.{body_lengths, body_within}
use Rattle.tables.specs.UsedRooms.{used_vertices, used_elements, used_bodies}
use Rattle.tables.specs.Tables.{Tables}
use Rattle.tables.specs.Records.{v_width, vt_width, vn_width, element_at, body_at, corners_length, face_kind}
use Rattle.tables.specs.declared.Used.{Used}
use Rattle.tables.specs.declared.Element.{Element}
use Rattle.tables.specs.declared.Body.{Body}
use Rattle.record_rules.specs.Numbers.{all_below}
use Rattle.record_rules.specs.Vertices.{vertex_obeys, parameter_vertex_obeys}
use Rattle.record_rules.specs.Rules.{obeys, curves_before}
use Rattle.table_rules.specs.declared.ends.Ends as declared

-- all used entries are lent: here, and not for sampling, a used count past its slice is a fault by itself
unfoldable pub lent_all : Used → Tables → Bool
lent_all used t =
    vertex_within (used_vertices used) (vertex_lengths t.vertices)
    && element_within (used_elements used) (element_lengths t.elements)
    && body_within (used_bodies used) (body_lengths t.bodies)

-- every v, vt, vn and vp, named or not
unfoldable pub vertices_obey : Used → Tables → Bool
vertices_obey used t =
    all_below used.v (λ k. vertex_obeys v_width t.vertices.v used.v (suc k))
    && all_below used.vt (λ k. vertex_obeys vt_width t.vertices.vt used.vt (suc k))
    && all_below used.vn (λ k. vertex_obeys vn_width t.vertices.vn used.vn (suc k))
    && all_below used.vp (λ k. parameter_vertex_obeys t.vertices.vp used.vp (suc k))

-- every element, with its corners and its body
unfoldable pub elements_obey : Used → Tables → Bool
elements_obey used t = all_below used.elements (λ i. obeys used t (curves_before t i) i)

-- ---- runs that follow on

-- where the runs of the elements so far end: numbers of corners, bodies, parameters, loop parts
abbrev pub Ends : Type 0
Ends = declared.Ends

abbrev pub no_ends : Ends
no_ends = record { corners = 0; bodies = 0; parameters = 0; parts = 0 }

-- p, l and f have no body
abbrev pub is_plain : Element → Bool
is_plain e = leb e.kind face_kind

-- the ends after one element more, of which b is the body where it has one
abbrev pub ends_after : Ends → Element → Body → Ends
ends_after n e b =
    record {
      corners = n.corners + corners_length e.corners;
      bodies = cond (is_plain e) n.bodies (suc n.bodies);
      parameters = cond (is_plain e) n.parameters (n.parameters + (b.count_u + b.count_v));
      parts = cond (is_plain e) n.parts (n.parts + b.loops);
    }

-- the ends after the first i elements; bodies are taken in the order of their records
abbrev pub ends_before : Tables → ℕ → Ends
ends_before t zero = no_ends
ends_before t (suc i) = ends_after (ends_before t i) (element_at t i) (body_at t (ends_before t i).bodies)

-- a body's runs begin at those ends; a body without loop parts has no run of them
abbrev pub body_follows : Ends → Body → Bool
body_follows n b = eqb b.first_parameter n.parameters && cond (eqb b.loops 0) true (eqb b.first_loop n.parts)

-- an element's corners begin at those ends, and its body is the next one
abbrev pub element_follows : Ends → Element → Body → Bool
element_follows n e b =
    eqb e.corners.first n.corners && cond (is_plain e) true (eqb e.body (suc n.bodies) && body_follows n b)

abbrev pub follows_at : Tables → ℕ → Bool
follows_at t i = element_follows (ends_before t i) (element_at t i) (body_at t (ends_before t i).bodies)

-- "to the last used entry"
abbrev pub ends_used : Used → Ends → Bool
ends_used used n =
    eqb n.corners used.corners && eqb n.bodies used.bodies && eqb n.parameters used.parameters && eqb n.parts used.loops

unfoldable pub runs_follow : Used → Tables → Bool
runs_follow used t = all_below used.elements (follows_at t) && ends_used used (ends_before t used.elements)

-- nothing that 15 names is wrong
unfoldable pub whole_obeys : Used → Tables → Bool
whole_obeys used t = lent_all used t && vertices_obey used t && elements_obey used t && runs_follow used t
