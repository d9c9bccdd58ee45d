-- A map whose rows are written holds its rows.
use Rattle.std.proofs.Common.{◌≡◌, ◌∙◌, List, Option, slice_get, ap}
use Rattle.fixpoint.specs.Pool.Pool.{Pool}
use Rattle.fixpoint.specs.declared.pool.row_name.Row.{Row}
use Rattle.fixpoint.specs.Solver.RowMap.{IsHeld}

pub held_same : {C : Type 0} (p q : Pool C) (slots : List (Option Row)) → q.taken ≡ p.taken → IsHeld p slots → IsHeld q slots
held_same p q slots e h = record { taken = λ b i at. ap (λ ts. slice_get ts i) e ∙ h.taken b i at; apart = h.apart }
