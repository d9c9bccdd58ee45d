-- A function that pieces do not call has no call among them.
use Rattle.std.proofs.Common.{◌≡◌, ℕ, zero, suc, List, [], ◌∷◌, Some, None, slice_get, sym, subst}
use Rattle.lower_templates.specs.Worklist.Pieces.{PieceView, Do, DoIfUsed, End, Mark, Call}
use Rattle.lower_templates.specs.declared.worklist.template_pieces.OwnCall.{OwnCall}
use Rattle.simulation_terms.specs.SimulationRelation.Simulates.{CallsThere}
use Rattle.worked_examples.specs.OneLoop.NoCalls.{NotCalled}

same_call : (a b : OwnCall) → Some (Call a) ≡ Some (Call b) → a ≡ b
same_call a b e = cc

not_there : (g : ℕ) (ps : List PieceView) → NotCalled g ps → (at : ℕ) (call : OwnCall) → slice_get ps at ≡ Some (Call call) → call.function ≡ g → ⊥
not_there g [] none at call e is = absurd (nothing e)
  where
    nothing : None ≡ Some (Call call) → ⊥
    nothing e = cc
not_there g (Call other ∷ ps) none zero call e is = none.0 (subst (λ c. c.function ≡ g) (sym (same_call other call e)) is)
not_there g (Do step ∷ ps) none zero call e is = absurd (cc)
not_there g (DoIfUsed step ∷ ps) none zero call e is = absurd (cc)
not_there g (End step exits ∷ ps) none zero call e is = absurd (cc)
not_there g (Mark l ∷ ps) none zero call e is = absurd (cc)
not_there g (Call other ∷ ps) none (suc at) call e is = not_there g ps none.1 at call e is
not_there g (Do step ∷ ps) none (suc at) call e is = not_there g ps none at call e is
not_there g (DoIfUsed step ∷ ps) none (suc at) call e is = not_there g ps none at call e is
not_there g (End step exits ∷ ps) none (suc at) call e is = not_there g ps none at call e is
not_there g (Mark l ∷ ps) none (suc at) call e is = not_there g ps none at call e is

pub not_called : (g : ℕ) (ps : List PieceView) → NotCalled g ps → CallsThere ps g → ⊥
not_called g ps none there = not_there g ps none there.at there.call there.there there.is
