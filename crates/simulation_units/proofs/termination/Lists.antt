-- The last pieces of others, and bounds of functions from those of the functions that they call.
use Rattle.std.proofs.Common.{◌≡◌, ◌≤◌, ◌⊎◌, inl, inr, ℕ, zero, suc, ◌+◌, ◌==◌, Bool, true, false, cond, List, [], ◌∷◌, Some, refl, arith, sym, subst}
use Rattle.lower_templates.specs.Worklist.Pieces.{PieceView, Do, DoIfUsed, End, Mark, Call, TemplateView}
use Rattle.semantics.specs.TemplateMachine.TemplateExits.{behind_mark}
use Rattle.simulation_units.specs.Termination.BoundedTemplates.{AreLast, GoOn, IsBounded, HasBound}

pub itself : (ps : List PieceView) → AreLast ps ps
itself [] = refl
itself (p ∷ ps) = inl refl

some_same : (x y : List PieceView) → Some x ≡ Some y → x ≡ y
some_same x y e = cc

some_left : (p : PieceView) (ps : List PieceView) → p ∷ ps ≡ [] → ⊥
some_left p ps e = cc

same_rest : (p q : PieceView) (ps qs : List PieceView) → p ∷ ps ≡ q ∷ qs → qs ≡ ps
same_rest p q ps qs e = cc

-- what stands behind a label are the last pieces
pub last_behind : (l : ℕ) (ps rest : List PieceView) → behind_mark l ps ≡ Some rest → AreLast rest ps
last_behind l [] rest found = cc
last_behind l (Do s ∷ ps) rest found = inr (last_behind l ps rest found)
last_behind l (DoIfUsed s ∷ ps) rest found = inr (last_behind l ps rest found)
last_behind l (End s exits ∷ ps) rest found = inr (last_behind l ps rest found)
last_behind l (Call c ∷ ps) rest found = inr (last_behind l ps rest found)
last_behind l (Mark m ∷ ps) rest found = inr (by (l == m) (last_behind l ps rest) found)
  where
    by : (b : Bool) → (behind_mark l ps ≡ Some rest → AreLast rest ps) → cond b (Some ps) (behind_mark l ps) ≡ Some rest → AreLast rest ps
    by true later e = subst (λ xs. AreLast xs ps) (some_same ps rest e) (itself ps)
    by false later e = later e

-- one piece fewer
pub last_next : (p : PieceView) (ps whole : List PieceView) → AreLast (p ∷ ps) whole → AreLast ps whole
last_next p ps [] last = absurd (some_left p ps last)
last_next p ps (q ∷ qs) (inl is) = inr (subst (λ xs. AreLast xs qs) (same_rest p q ps qs is) (itself qs))
last_next p ps (q ∷ qs) (inr last) = inr (last_next p ps qs last)

-- of two lists of last pieces one is among the last ones of the other
pub compared : (p : PieceView) (ps rest whole : List PieceView) → AreLast (p ∷ ps) whole → AreLast rest whole → AreLast rest ps ⊎ AreLast (p ∷ ps) rest
compared p ps rest [] last other = absurd (some_left p ps last)
compared p ps rest (q ∷ qs) last (inl is) = inr (subst (λ xs. AreLast (p ∷ ps) xs) (sym is) last)
compared p ps rest (q ∷ qs) (inl is) (inr other) = inl (subst (λ xs. AreLast rest xs) (same_rest p q ps qs is) other)
compared p ps rest (q ∷ qs) (inr last) (inr other) = compared p ps rest qs last other

-- ---- bounds

module _ (of : ℕ → TemplateView) where
  -- a depth for all functions that pieces call
  record HaveBound (whole ps : List PieceView) : Type 0 where
    depth : ℕ
    are : (n : ℕ) → depth ≤ n → GoOn (IsBounded of n) whole ps

  first_of : (a b n : ℕ) → a + b ≤ n → a ≤ n
  first_of a b n le = omega (arith, le)

  second_of : (a b n : ℕ) → a + b ≤ n → b ≤ n
  second_of a b n le = omega (arith, le)

  have_bound : (whole ps : List PieceView) → GoOn (HasBound of) whole ps → HaveBound whole ps
  have_bound whole [] go = record { depth = 0; are = λ n le. tt }
  have_bound whole (Do s ∷ ps) go = let x = have_bound whole ps go in record { depth = x.depth; are = λ n le. x.are n le }
  have_bound whole (DoIfUsed s ∷ ps) go = let x = have_bound whole ps go in record { depth = x.depth; are = λ n le. x.are n le }
  have_bound whole (Mark l ∷ ps) go = let x = have_bound whole ps go in record { depth = x.depth; are = λ n le. x.are n le }
  have_bound whole (End s exits ∷ ps) (lead, go) = let x = have_bound whole ps go in record { depth = x.depth; are = λ n le. (lead, x.are n le) }
  have_bound whole (Call c ∷ ps) (called, go) =
      let x = have_bound whole ps go in
      record { depth = called.0 + x.depth; are = λ n le. (called.1 n (first_of called.0 x.depth n le), x.are n (second_of called.0 x.depth n le)) }

  pub has_bound : (g : ℕ) → GoOn (HasBound of) (of g).pieces (of g).pieces → HasBound of g
  has_bound g go = let x = have_bound (of g).pieces (of g).pieces go in (suc x.depth, by x)
    where
      by : (x : HaveBound (of g).pieces (of g).pieces) (n : ℕ) → suc x.depth ≤ n → IsBounded of n g
      by x zero le = omega (arith, le)
      by x (suc n) le = x.are n (omega (arith, le))
