-- Worked rows: a loop of one block, unrolled.
use Rattle.std.specs.Prelude.{◌≡◌, refl, ℕ, Bool, true, false, [], ◌∷◌}
use Rattle.lower_templates.specs.Worklist.Pieces.{Always}
use Rattle.lower_templates.specs.Views.ProgramViews.{BlockView, EdgeView}
use Rattle.loop_unrolling.specs.Turns.{edges_below, blocks_below}
use Rattle.loop_unrolling.specs.declared.turn_splits.Turns.{Turns}

abbrev edge_of : ℕ → ℕ → EdgeView
edge_of a b = record { from = a; to = b; taken = Always }

abbrev once : Turns
once = record { copies = 3; last = 2; blocks = 2; edges = 2 }

-- block 0 leads to itself and to block 1
turned : edges_below once (edge_of 0 0 ∷ edge_of 0 1 ∷ []) 3 ≡ edge_of 0 2 ∷ edge_of 0 1 ∷ edge_of 2 4 ∷ edge_of 2 3 ∷ edge_of 4 4 ∷ edge_of 4 5 ∷ []
turned = refl

abbrev head : ℕ → Bool → BlockView
head first is = record { steps = []; first_edge = first; edges = 2; is_head = is }

-- only the last copy has a head
headed : blocks_below once (head 0 true ∷ []) 3 ≡ head 0 false ∷ head 2 false ∷ head 4 true ∷ []
headed = refl
