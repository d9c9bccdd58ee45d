-- Pieces that do not call a function.
use Rattle.std.specs.Prelude.{◌≡◌, ℕ, List, [], ◌∷◌}
use Rattle.lower_templates.specs.Worklist.Pieces.{PieceView, Call}

abbrev pub NotCalled : ℕ → List PieceView → Type 0
NotCalled g [] = Unit {0}
NotCalled g (Call call ∷ ps) = (call.function ≡ g → ⊥) × NotCalled g ps
NotCalled g (other ∷ ps) = NotCalled g ps
