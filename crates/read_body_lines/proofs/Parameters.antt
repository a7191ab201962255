-- A parm line: the body that has no end yet keeps where its numbers stand, and no table changes.
use Prim.Native.Nat.{ℕ, ◌+◌, ◌-◌}
use mathlib.Core.Path.{◌≡◌, refl, sym, ◌∙◌, subst}
use mathlib.Core.List.{List}
use mathlib.Core.Bool.{Bool, true, false}
use mathlib.Core.Option.{some}
use lib.IntN.{ℤ}
use Rattle.text.specs.Words.{Word}
use Rattle.text.specs.Rest.{rest_at, push}
use Rattle.tables.specs.Tables.{Tables}
use Rattle.keywords.specs.Keywords.{statement_of}
use Rattle.model.specs.Model as model
use Rattle.model.specs.Model.{ParmDirection, along-u, along-v, Model, Open}
use Rattle.model.specs.Statements.{Statement, parameters, apply}
use Rattle.model.specs.Parse.{fine, parm, is_surface}
use Rattle.model.specs.Room.{Rooms, fits}
use Rattle.model.specs.Read.{carried_in}
use Rattle.read_state.specs.declared.State.{State}
use Rattle.read_state.specs.State.{StateIs, ParmAt}
use Rattle.read_state.specs.Bounds.{Bounded}
use Rattle.read_state.specs.Changed.{state}
use Rattle.read_state.proofs.Images.{parameters-image}
use Rattle.read_bodies.specs.Numbers.{numbers_at}
use Rattle.read_bodies.specs.Parm.{parm_direction, ParmTaken}
use Rattle.read_bodies.proofs.Says.{parm-says}
use Rattle.read_body_lines.specs.OpenBody.{keeping}
use Rattle.read_vertex_lines.specs.Holding.{Opened, Holds, NextLine}
use Rattle.read_vertex_lines.proofs.Steps.{line-fine, line-bounded, next-is}

module _ (R : Rooms) (s : List ℕ) (p at : ℕ) (m : Model) (n : model.Names) (f : model.Form) (o : Open) (c : State) (t : Tables) where
  abbrev x : model.State
  x = state m n f (some o)

  state-after : (v : Bool) (i : ℕ) (zs : List ℤ) → ParmAt s i zs → StateIs s x c → StateIs s (apply (parameters (parm_direction v) zs) x) (keeping v i c)
  state-after false i zs k h = record { used = h.used; curves = h.curves; names = h.names; form = h.form; open-body = record { kind = h.open-body.kind; controls = h.open-body.controls; parts = h.open-body.parts; u = k; v = h.open-body.v } }
  state-after true i zs k h = record { used = h.used; curves = h.curves; names = h.names; form = h.form; open-body = record { kind = h.open-body.kind; controls = h.open-body.controls; parts = h.open-body.parts; u = h.open-body.u; v = k } }

  room_after : (d : ParmDirection) (zs : List ℤ) → fits R (apply (parameters d zs) x) ≡ fits R x
  unfolding fits
  room_after along-u zs = refl
  room_after along-v zs = refl

  open_after : (d : ParmDirection) (zs : List ℤ) → Opened f o → Rattle.read_vertex_lines.specs.Holding.HoldsOpened f (apply (parameters d zs) x).open-body
  open_after along-u zs b = record { numbers = b.numbers; basis-is = b.basis-is; rational-is = b.rational-is; degree-u-is = b.degree-u-is; degree-v-is = b.degree-v-is; start-u-is = b.start-u-is; end-u-is = b.end-u-is; start-v-is = b.start-v-is; end-v-is = b.end-v-is }
  open_after along-v zs b = record { numbers = b.numbers; basis-is = b.basis-is; rational-is = b.rational-is; degree-u-is = b.degree-u-is; degree-v-is = b.degree-v-is; start-u-is = b.start-u-is; end-u-is = b.end-u-is; start-v-is = b.start-v-is; end-v-is = b.end-v-is }

  wide-after : (d : ParmDirection) (zs : List ℤ) → (apply (parameters d zs) x).model ≡ m
  wide-after along-u zs = refl
  wide-after along-v zs = refl

  form-after : (d : ParmDirection) (zs : List ℤ) → (apply (parameters d zs) x).form ≡ f
  form-after along-u zs = refl
  form-after along-v zs = refl

  pub parm-next : {read : ℕ} (h : Holds R s x c t read) (w : Word) → rest_at s p ≡ push w (rest_at s at) → carried_in (statement_of w.bytes) w.place ≡ fine parm
      → (v : Bool) (i q : ℕ) → ParmTaken (is_surface o.body.free) s at v i q → NextLine R s p read x (keeping v i c) t q × (q ≡ (rest_at s p).next)
  parm-next {read} h w begins keyword v i q k =
      let zs : List ℤ = numbers_at s i in
      let y : Statement = parameters (parm_direction v) zs in
      let parsed = parm-says x o refl w.place (rest_at s at) k.line in
      let room : fits R (apply y x) ≡ true = room_after (parm_direction v) zs ∙ h.room in (
        record {
          after = apply y x;
          said = line-fine R s p at x w parm begins keyword y k.line.good parsed room;
          holds = record {
            state = state-after v i zs k.kept h.state;
            image = h.image ∙ sym (parameters-image R m n f (parm_direction v) zs o);
            wide = subst (λ (z : Model). Rattle.read_state.specs.Changed.Wide z.vertices) (sym (wide-after (parm_direction v) zs)) h.wide;
            room = room;
            bounded = subst (λ (j : ℕ). Bounded (read + (j - p)) (apply y x)) (sym k.next) (line-bounded R s p at x w parm begins keyword y parsed h.bounded);
            body = subst (λ (g : model.Form). Rattle.read_vertex_lines.specs.Holding.HoldsOpened g (apply y x).open-body) (sym (form-after (parm_direction v) zs)) (open_after (parm_direction v) zs h.body);
          };
        },
        k.next ∙ sym (next-is R s p at x w parm begins keyword),
      )
