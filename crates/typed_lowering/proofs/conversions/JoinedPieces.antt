-- Typed pieces from more knowledge, to less, and one after the other.
use Rattle.std.proofs.Common.{◌≡◌, ℕ, Bool, true, false, List, [], ◌∷◌, ◌++◌, Some, None, refl, subst}
use Rattle.c_layout.specs.CheckedUnits.{FunctionView, UnitView}
use Rattle.lower_templates.specs.Worklist.Acts.{Act}
use Rattle.lower_templates.specs.Worklist.Pieces.{NameView, PieceView, Do, DoIfUsed, End, Mark, Call}
use Rattle.typed_programs.specs.Types.TypedPrograms.{IsKept}
use Rattle.typed_programs.specs.Types.TypedStates.{Temporaries}
use Rattle.typed_lowering.specs.Conversions.TypedPieces.{State, Leads, IsWeaker, IsDone, DoneIf, IsTypedPiece, AreTypedPieces}
use Rattle.typed_lowering.proofs.conversions.KeptKnowledge.{kept_same, kept_trans}

-- ---- states

pub weaker_same : (s : State) → IsWeaker s s
weaker_same None = refl
weaker_same (Some k) = kept_same k

-- what is led to is led to from what is stronger
pub leads_further : (s r : State) (k : Temporaries) → IsWeaker s r → Leads r k → Leads s k
leads_further None r k weaker leads = tt
leads_further (Some a) (Some b) k weaker leads = kept_trans a b k weaker leads
leads_further (Some a) None k weaker leads = absurd (no weaker)
  where
    no : Some a ≡ None → ⊥
    no e = cc

pub leads_on : (s : State) (k m : Temporaries) → Leads s k → IsKept k m → Leads s m
leads_on None k m leads kept = tt
leads_on (Some a) k m leads kept = kept_trans a k m leads kept

pub weaker_trans : (s r q : State) → IsWeaker s r → IsWeaker r q → IsWeaker s q
weaker_trans s r (Some k) first second = leads_further s r k first second
weaker_trans s r None first second = subst (λ r. IsWeaker s r) second first

module _ (u : UnitView) (f : FunctionView) (used : Bool) (names : List NameView) (labels : ℕ → Temporaries) where
  abbrev Typed : State → List PieceView → State → Type 0
  Typed = AreTypedPieces u f used names labels

  done_stronger : (s r : State) (a : Act) (after : Temporaries) → IsWeaker s r → IsDone u f used names labels r a after → IsDone u f used names labels s a after
  done_stronger s r a after weaker d = record { before = d.before; leads = leads_further s r d.before weaker d.leads; acts = d.acts }

  done_if_stronger : (b : Bool) (s r q : State) (a : Act) → IsWeaker s r → DoneIf u f used names labels b r a q → DoneIf u f used names labels b s a q
  done_if_stronger true s r None a weaker d = d
  done_if_stronger true s r (Some k) a weaker d = done_stronger s r a k weaker d
  done_if_stronger false s r q a weaker d = weaker_trans s r q weaker d

  pub piece_stronger : (s r q : State) (p : PieceView) → IsWeaker s r → IsTypedPiece u f used names labels r p q → IsTypedPiece u f used names labels s p q
  piece_stronger s r None (Do x) weaker d = d
  piece_stronger s r (Some k) (Do x) weaker d = done_stronger s r x.does k weaker d
  piece_stronger s r q (DoIfUsed x) weaker d = done_if_stronger used s r q x.does weaker d
  piece_stronger s r None (End x exits) weaker d = record { behind = d.behind; done = done_stronger s r x.does d.behind weaker d.done; leads = d.leads }
  piece_stronger s r (Some k) (End x exits) weaker d = d
  piece_stronger s r None (Mark l) weaker d = d
  piece_stronger s r (Some k) (Mark l) weaker d = (leads_further s r (labels l) weaker d.0, d.1)
  piece_stronger s r None (Call c) weaker d = d
  piece_stronger s r (Some k) (Call c) weaker d = record { callee = d.callee; stands = d.stands; before = d.before; leads = leads_further s r d.before weaker d.leads; arguments = d.arguments; behind = d.behind }

  -- from a stronger state
  pub pieces_stronger : (s r q : State) (ps : List PieceView) → IsWeaker s r → Typed r ps q → Typed s ps q
  pieces_stronger s r q [] weaker typed = weaker_trans s r q weaker typed
  pieces_stronger s r q (p ∷ ps) weaker (m, one, rest) = (m, piece_stronger s r m p weaker one, rest)

  -- one after the other
  pub pieces_joined : (s m q : State) (ps qs : List PieceView) → Typed s ps m → Typed m qs q → Typed s (ps ++ qs) q
  pieces_joined s m q [] qs first second = pieces_stronger s m q qs first second
  pieces_joined s m q (p ∷ ps) qs (k, one, rest) second = (k, one, pieces_joined k m q ps qs rest second)

  -- to a weaker one
  pub pieces_weaker : (s q r : State) (ps : List PieceView) → Typed s ps q → IsWeaker q r → Typed s ps r
  pieces_weaker s q r [] typed weaker = weaker_trans s q r typed weaker
  pieces_weaker s q r (p ∷ ps) (m, one, rest) weaker = (m, one, pieces_weaker m q r ps rest weaker)

  -- nothing comes to pieces behind the end of a block, so they may be taken from any knowledge
  pub pieces_entered : (k : Temporaries) (q : State) (ps : List PieceView) → Typed (Some k) ps q → Typed None ps q
  pieces_entered k q ps typed = pieces_stronger None (Some k) q ps tt typed
