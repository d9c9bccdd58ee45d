-- A map from blocks to rows, put at every copy of the blocks.
use Rattle.std.specs.Prelude.{ℕ, List, Option}
use Rattle.loop_unrolling.specs.Turns.{copies, all_copies}

abbrev pub copied_map : {C : Type 0} → ℕ → List (Option (List C)) → List (Option (List C))
copied_map turns rows = all_copies (λ k. rows) (copies turns)
