-- A statement that a line says Takes no more than the line's room. By the keyword.
use Prim.Native.Nat.{ℕ, ◌*◌, ◌-◌, ◌/◌, ◌≤◌}
use mathlib.Core.Path.{◌≡◌, refl, sym, ap, subst}
use mathlib.Core.List.{List, [], ◌∷◌}
use mathlib.Core.Bool.{true}
use mathlib.Core.Option.{Option, none, some}
use native.Mathlib.Omega.{arith}
use borrow.Author.Tests.{lt-ltb}
use lib.ListN.{length, drop}
use lib.Dec.{ltb}
use Rattle.text.specs.Words.{Word}
use Rattle.statements.specs.declared.Statement as keywords
use Rattle.statements.specs.declared.Statement.TheVariants.{Carried, Refused, Unknown}
use Rattle.model.specs.Model.{geometric, texture, normal, parametric, Shape, Free, curve, curve2, surface, Body, Open, State}
use Rattle.model.specs.Statements.{Statement, element}
use Rattle.model.specs.Parse.{fine, Keyword, a-vertex, an-element, a-body, parm, trim, hole, ends, cstype, deg, g, s, usemtl, over, allowed, counted, range_words, form_of, values_of, Value, numbers_of, corners_of, wholes_of, parts_of, unlike, in_force, narrow_in, complete, counts_agree, range_within, opened_body, material_of, names_of, checked, seen_in, parse}
use Rattle.model.proofs.Pieces.{finished}
use Rattle.model.specs.Read.{carried_in}
use Rattle.model.proofs.Parsed.{fine-fault, fine-is, must-fine, unless-fine, then-fine}
use Rattle.model.proofs.Values.{values_length, corners-few, parts-length}
use Rattle.read_rooms.specs.declared.Rooms.{Rooms}
use Rattle.read_rooms.specs.Rooms.{no_room, element_room, body_room, carried_room, room_for}
use Rattle.read_rooms.proofs.Values.{corners-after, numbers_after, thirds}
use Rattle.read_rooms.proofs.Held.{BodyTakes, Takes}

module _ (x : State) (key : ℕ) (ws : List Word) where
  -- the values that its words are
  record Said (k : Keyword) (t : Statement) : Type 0 where
    pub values : List Value
    pub are : values_of (seen_in x) (form_of k (length ws)) 0 ws ≡ fine values
    pub is : checked k x key ws values ≡ fine t

  said : (k : Keyword) (t : Statement) → parse k x key ws ≡ fine t → Said k t
  unfolding parse
  said k t h =
      let a = must-fine (allowed k x.open-body ws) 10 key _ t h in
      let b = must-fine (counted k (length ws)) 5 key _ t a.1 in
      let c = then-fine (values_of (seen_in x) (form_of k (length ws)) 0 ws) _ t b.1 in
      record { values = c.0; are = c.1; is = c.2 }

  to : {t u : Statement} (r : Rooms) → fine u ≡ fine t → Takes u r → Takes t r
  to r e w = subst (λ (v : Statement). Takes v r) (fine-is e) w

  -- ---- p, l, f
  plain-takes : (k : Shape) (t : Statement) → parse (an-element k) x key ws ≡ fine t → Takes t (element_room 0 (length ws))
  plain-takes k t h =
      let d = said (an-element k) t h in
      let cs = corners_of d.values in
      let e = unless-fine (unlike ws (corners_of d.values)) 9 (fine (element k (corners_of d.values))) t d.is in
      let a = corners-few d.values in
      let b = values_length (seen_in x) (form_of (an-element k) (length ws)) 0 ws d.values d.are in
      to (element_room 0 (length ws)) e.1 (record { elements = omega arith; corners = omega arith })

  -- ---- curv, curv2, surf
  no-parameters : (k : Free) (b : Body) (z : List lib.IntN.ℤ) (n : ℕ) → b ≡ opened_body k x.form z → BodyTakes b (element_room 1 n)
  no-parameters curve b z n e = record { bodies = omega arith; ranges = omega arith; no-us = ap (λ (y : Body). y.us) e; no-vs = ap (λ (y : Body). y.vs) e; no-loops = ap (λ (y : Body). y.loops) e }
  no-parameters curve2 b z n e = record { bodies = omega arith; ranges = omega arith; no-us = ap (λ (y : Body). y.us) e; no-vs = ap (λ (y : Body). y.vs) e; no-loops = ap (λ (y : Body). y.loops) e }
  no-parameters surface b z n e = record { bodies = omega arith; ranges = omega arith; no-us = ap (λ (y : Body). y.us) e; no-vs = ap (λ (y : Body). y.vs) e; no-loops = ap (λ (y : Body). y.loops) e }

  body-takes : (k : Free) (t : Statement) → parse (a-body k) x key ws ≡ fine t → Takes t (element_room 1 (length ws - range_words k))
  body-takes k t h =
      let d = said (a-body k) t h in
      let vs : List Word = drop (range_words k) ws in
      let a = unless-fine (unlike (drop (range_words k) ws) (corners_of d.values)) 9 _ t d.is in
      let b = must-fine (in_force k x.form x.form.basis) 11 key _ t a.1 in
      let c = unless-fine (narrow_in k x.model.vertices (drop (range_words k) ws) (corners_of d.values)) 12 _ t b.1 in
      let r = corners-after (seen_in x) (form_of (a-body k) (length ws)) (range_words k) 0 ws d.values (λ i l. let e : ltb i (range_words k) ≡ true = lt-ltb i (range_words k) (omega arith) in rw e refl) d.are in
      to (element_room 1 (length ws - range_words k)) c.1
      (record { elements = omega arith; corners = omega arith }, no-parameters k (opened_body k x.form (numbers_of d.values)) (numbers_of d.values) (length ws - range_words k) refl)

  -- ---- parm, trim, hole
  numbers-first : (vs : List Word) (xs : List Value) → values_of (seen_in x) (form_of parm (length ws)) 0 vs ≡ fine xs → length (numbers_of xs) ≤ length vs - 1
  numbers-first [] xs h = let z : [] ≡ xs = fine-is h in let e : length (numbers_of xs) ≡ 0 = ap (λ (l : List Value). length (numbers_of l)) (sym z) in omega arith
  numbers-first (v ∷ vs) xs h = let a = numbers_after (seen_in x) (form_of parm (length ws)) v vs xs refl h in omega arith

  parm-takes : (t : Statement) → parse parm x key ws ≡ fine t → Takes t (body_room (length ws - 1) 0)
  parm-takes t h =
      let d = said parm t h in
      to (body_room (length ws - 1) 0) d.is (numbers-first ws d.values d.are)

  parts-few : (xs : List Value) → values_of (seen_in x) (form_of trim (length ws)) 0 ws ≡ fine xs → 2 * length (parts_of (numbers_of xs) (wholes_of xs)) ≤ 2 * (length ws / 3)
  parts-few xs h =
      let a = thirds (seen_in x) 0 ws xs h in
      let b = parts-length (numbers_of xs) (wholes_of xs) in
      omega arith

  trim-takes : (t : Statement) → parse trim x key ws ≡ fine t → Takes t (body_room 0 (length ws / 3))
  trim-takes t h = let d = said trim t h in to (body_room 0 (length ws / 3)) d.is (parts-few d.values d.are, parts-few d.values d.are)

  hole-takes : (t : Statement) → parse hole x key ws ≡ fine t → Takes t (body_room 0 (length ws / 3))
  hole-takes t h = let d = said hole t h in to (body_room 0 (length ws / 3)) d.is (parts-few d.values d.are, parts-few d.values d.are)

  -- ---- end
  end-takes : (o : Option Open) (t : Statement) → finished o key ≡ fine t → Takes t no_room
  end-takes none t h = fine-fault h
  end-takes (some o) t h =
      let a = must-fine (complete o.body.free o.body) 11 key _ t h in
      let b = must-fine (counts_agree o.body.free o.body (length o.controls)) 12 key _ t a.1 in
      let c = must-fine (range_within o.body.free o.body) 13 key _ t b.1 in
      to no_room c.1 tt

  material-takes : (ns : List Word) (t : Statement) → fine (material_of ns) ≡ fine t → Takes t no_room
  material-takes [] t h = to no_room h tt
  material-takes (n ∷ ns) t h = to no_room h tt

  -- ---- all
  carried-takes : (k : Keyword) (t : Statement) → parse k x key ws ≡ fine t → Takes t (carried_room k (length ws))
  carried-takes (a-vertex geometric) t h = to (carried_room (a-vertex geometric) (length ws)) (said (a-vertex geometric) t h).is (omega arith)
  carried-takes (a-vertex texture) t h = to (carried_room (a-vertex texture) (length ws)) (said (a-vertex texture) t h).is (omega arith)
  carried-takes (a-vertex normal) t h = to (carried_room (a-vertex normal) (length ws)) (said (a-vertex normal) t h).is (omega arith)
  carried-takes (a-vertex parametric) t h = to (carried_room (a-vertex parametric) (length ws)) (said (a-vertex parametric) t h).is (omega arith)
  carried-takes (an-element k) t h = plain-takes k t h
  carried-takes (a-body k) t h = body-takes k t h
  carried-takes parm t h = parm-takes t h
  carried-takes trim t h = trim-takes t h
  carried-takes hole t h = hole-takes t h
  carried-takes ends t h = end-takes x.open-body t (said ends t h).is
  carried-takes cstype t h = to no_room (said cstype t h).is tt
  carried-takes deg t h = to no_room (said deg t h).is tt
  carried-takes g t h = to no_room (said g t h).is tt
  carried-takes s t h = to no_room (said s t h).is tt
  carried-takes usemtl t h = let d = said usemtl t h in material-takes (names_of d.values) t d.is
  carried-takes over t h = to no_room (said over t h).is tt

  pub line-takes : (k : keywords.Statement) (l : Keyword) (t : Statement) → carried_in k key ≡ fine l → parse l x key ws ≡ fine t → Takes t (room_for k (length ws))
  line-takes (Carried k) l t e h = carried-takes k t (rw (← fine-is e) at h)
  line-takes Refused l t e h = fine-fault e
  line-takes Unknown l t e h = fine-fault e
