-- The parser without what `end` finds in its body, against the parser: the same but for `end`, and there the same refusals before it.
use Prim.Native.Nat.{ℕ}
use mathlib.Core.Path.{◌≡◌, refl, sym}
use mathlib.Core.List.{List}
use mathlib.Core.Bool.{Bool, true, false}
use lib.ListN.{length}
use native.Mathlib.Omega.{arith}
use Rattle.text.specs.Words.{Word}
use Rattle.model.specs.Model as model
use Rattle.model.specs.Statements.{Statement, end}
use Rattle.model.specs.Parse.{Parsed, fine, fault, then, must, Keyword, a-vertex, an-element, a-body, parm, trim, hole, ends, cstype, deg, g, s, usemtl, over, allowed, counted, form_of, values_of, Value, seen_in, parse}
use Rattle.model.proofs.Pieces.{finished}
use Rattle.read_diagnosis.specs.Diagnosis.{parse_before}

never : {A : Type 0} {t : Statement} {n p : ℕ} → ◌≡◌ {A = Parsed Statement} (fine t) (fault n p) → A
never e = absurd (let z : ◌≡◌ {A = ℕ} 0 1 = cc in omega arith)

end-fault : (a b : Bool) (v : Parsed (List Value)) (y : Parsed Statement) (key n p : ℕ) → must a 10 key (must b 5 key (then v (λ xs. fine end))) ≡ fault n p → must a 10 key (must b 5 key (then v (λ xs. y))) ≡ fault n p
end-fault true true (fine xs) y key n p e = never e
end-fault true true (fault m q) y key n p e = e
end-fault true false v y key n p e = e
end-fault false b v y key n p e = e

end-fine : (a b : Bool) (v : Parsed (List Value)) (y : Parsed Statement) (key : ℕ) (t : Statement) → must a 10 key (must b 5 key (then v (λ xs. fine end))) ≡ fine t → must a 10 key (must b 5 key (then v (λ xs. y))) ≡ y
end-fine true true (fine xs) y key t e = refl
end-fine true true (fault m q) y key t e = never (sym e)
end-fine true false v y key t e = never (sym e)
end-fine false b v y key t e = never (sym e)

module _ (x : model.State) (key : ℕ) (ws : List Word) where
  -- a refusal that `diagnose` finds is the parser's, whatever the statement
  pub before-fault : (k : Keyword) (n p : ℕ) → parse_before k x key ws ≡ fault n p → parse k x key ws ≡ fault n p
  unfolding parse parse_before
  before-fault (a-vertex k) n p e = e
  before-fault (an-element k) n p e = e
  before-fault (a-body k) n p e = e
  before-fault parm n p e = e
  before-fault trim n p e = e
  before-fault hole n p e = e
  before-fault ends n p e =
      end-fault (allowed ends x.open-body ws) (counted ends (length ws)) (values_of (seen_in x) (form_of ends (length ws)) 0 ws) (finished x.open-body key) key n p e
  before-fault cstype n p e = e
  before-fault deg n p e = e
  before-fault g n p e = e
  before-fault s n p e = e
  before-fault usemtl n p e = e
  before-fault over n p e = e

  -- where it finds none at `end`, the body decides
  pub before-end : (t : Statement) → parse_before ends x key ws ≡ fine t → parse ends x key ws ≡ finished x.open-body key
  unfolding parse parse_before
  before-end t e =
      end-fine (allowed ends x.open-body ws) (counted ends (length ws)) (values_of (seen_in x) (form_of ends (length ws)) 0 ws) (finished x.open-body key) key t e
