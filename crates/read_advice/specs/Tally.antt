-- Must be believed: a promise reaches every definition of this file.
-- What the lines before the one that holds a place come to: how many there are of each kind that a word may refer to, and which body is open since where.
use Rattle.std.specs.Prelude.{ℕ, ◌+◌, List, [], ◌∷◌, cond, length, leb, ltb, eqb}
use Rattle.std.proofs.Math.Option.{Option, none, some}
use Rattle.text.specs.Lines.{Line as JoinedLine, lines_of}
use Rattle.text.specs.Words.{Word, words_of, bad_of}
use Rattle.keywords.specs.Keywords.{statement_of}
use Rattle.tables.specs.Records.{curve2_kind}
use Rattle.statements.specs.declared.VertexKind.{VertexKind}
use Rattle.statements.specs.declared.VertexKind.TheVariants.{Geometric, Texture, Normal, Parametric}
use Rattle.statements.specs.declared.Carried.{Carried}
use Rattle.statements.specs.declared.Carried.TheVariants.{Vertex, Element, Body, Parameters, Trim, Hole, End, BodyType, Degree, Group, Smoothing, Material, PassedOver}
use Rattle.model.specs.Layout.{free_number}
use Rattle.keyword_rules.specs.Asked.{carried_of}
use Rattle.read_advice.specs.declared.lines_before.Tally.{Tally}

abbrev pub start_tally : Tally
start_tally = record { v = 0; vt = 0; vn = 0; vp = 0; curves = 0; kind = 0; «opened» = 0 }

-- ---- a line: "k means the k-th of its kind so far"
abbrev pub with_counts : Tally → ℕ → ℕ → ℕ → ℕ → Tally
with_counts t v vt vn vp =
    record { v = t.v + v; vt = t.vt + vt; vn = t.vn + vn; vp = t.vp + vp; curves = t.curves; kind = t.kind; «opened» = t.«opened» }

abbrev pub after_vertex : VertexKind → Tally → Tally
after_vertex Geometric t = with_counts t 1 0 0 0
after_vertex Texture t = with_counts t 0 1 0 0
after_vertex Normal t = with_counts t 0 0 1 0
after_vertex Parametric t = with_counts t 0 0 0 1

-- "Between curv, curv2 or surf and end": the body of an element of that kind, whose keyword stands at key
abbrev pub opening : Tally → ℕ → ℕ → Tally
opening t kind key =
    record { v = t.v; vt = t.vt; vn = t.vn; vp = t.vp; curves = t.curves; kind = kind; «opened» = key }

-- a curv2 may be named from its end on
abbrev pub after_end : Tally → Tally
after_end t =
    record { v = t.v; vt = t.vt; vn = t.vn; vp = t.vp; curves = cond (eqb t.kind curve2_kind) (t.curves + 1) t.curves; kind = 0; «opened» = 0 }

-- after a line of that statement, its keyword at key
abbrev pub after_line : Carried → ℕ → Tally → Tally
after_line (Vertex k) key t = after_vertex k t
after_line (Element k) key t = t
after_line (Body k) key t = opening t (free_number k) key
after_line Parameters key t = t
after_line Trim key t = t
after_line Hole key t = t
after_line End key t = after_end t
after_line BodyType key t = t
after_line Degree key t = t
after_line Group key t = t
after_line Smoothing key t = t
after_line Material key t = t
after_line PassedOver key t = t

abbrev pub after_words : List Word → Tally → Tally
after_words [] t = t
after_words (w ∷ ws) t = after_line (carried_of (statement_of w.bytes)) w.place t

-- ---- the lines up to the one that holds the place p, and to the first with a byte that is not allowed
abbrev pub tally_up_to : Option ℕ → Tally → Tally → Tally
tally_up_to none t r = r
tally_up_to (some b) t r = t

-- where the first of the lines starts; the text's end where there is none
abbrev pub start_of : ℕ → List JoinedLine → ℕ
start_of end [] = end
start_of end (l ∷ ls) = l.place

abbrev pub tally_from : ℕ → ℕ → List JoinedLine → Tally → Tally
tally_from p end [] t = t
tally_from p end (l ∷ ls) t =
    tally_up_to (bad_of l) t (cond (ltb p (start_of end ls)) t (tally_from p end ls (after_words (words_of l) t)))

-- of a text that is too long nothing is told
unfoldable pub tally_of : List ℕ → ℕ → Tally
tally_of s p = cond (leb (length s) 16777216) (tally_from p (length s) (lines_of s) start_tally) start_tally
