-- Objects are counted one after another.
use Rattle.std.proofs.Common.{◌≡◌, ℕ, suc, ◌+◌, List, ap, arith}
use Rattle.c_layout.specs.StructViews.{StructView}
use Rattle.c_layout.specs.CheckedUnits.{FunctionView}
use Rattle.lower_objects.specs.Counts.BaseCounts.{Tally, with_slot, with_slots}

pub next_slot : (structs : List StructView) (f : FunctionView) (n : ℕ) (t : Tally) → with_slots structs f (n + 1) t ≡ with_slot structs f n (with_slots structs f n t)
next_slot structs f n t = let e : n + 1 ≡ suc n = omega arith in ap (λ k. with_slots structs f k t) e
