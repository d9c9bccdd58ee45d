-- Turns, one by one.
use Rattle.std.proofs.Common.{◌≡◌, ℕ, ◌+◌, add-one}
use Rattle.store_cells.specs.Walks.{turns}

pub turns_next : {S : Type 0} (f : ℕ → S → S) (at : ℕ) (s : S) → turns f (at + 1) s ≡ f at (turns f at s)
turns_next f at s = rw (add-one at)
