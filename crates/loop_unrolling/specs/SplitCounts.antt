-- What a split program has, and when it is refused for its size.
use Rattle.std.specs.Prelude.{◌≡◌, ℕ, ◌+◌, ◌*◌, List, [], ◌∷◌, length, Option, Some}
use Rattle.cc_base.specs.declared.limit_table.Count.TheVariants.{Blocks, Instructions, Pool}
use Rattle.cc_base.specs.declared.limit_table.Limits.{Limits}
use Rattle.cc_base.specs.declared.refusals.Refusal.{Refusal}
use Rattle.cc_base.specs.declared.refusals.Stop.{Stop}
use Rattle.cc_base.specs.declared.refusals.Stop.TheVariants as stop
use Rattle.lower_objects.specs.Counts.Extents.{capped}
use Rattle.lower_tables.specs.Counts.FirstOver.{over, or_else, pool}
use Rattle.lower_templates.specs.Views.ProgramViews.{BlockView, FlowView}
use Rattle.loop_unrolling.specs.Turns.{copies}
use Rattle.loop_unrolling.specs.declared.split_counts.SplitCounts.{SplitCounts}

-- from a count on
abbrev pub instructions_from : ℕ → List BlockView → ℕ
instructions_from n [] = n
instructions_from n (b ∷ bs) = instructions_from (capped (n + length b.steps)) bs

abbrev pub instruction_count : List BlockView → ℕ
instruction_count bs = instructions_from 0 bs

abbrev pub block_count : ℕ → FlowView → ℕ
block_count turns f = capped (copies turns * length f.blocks)

abbrev pub split_counts : ℕ → FlowView → SplitCounts
split_counts turns f = record { blocks = block_count turns f; instructions = capped (copies turns * instruction_count f.blocks); pool = pool (block_count turns f) f.width }

-- the refusal for the first count that passes its limit: blocks, instructions, pool
abbrev pub first_over : Limits → SplitCounts → Option Refusal
first_over limits c = or_else (over limits Blocks c.blocks) (or_else (over limits Instructions c.instructions) (over limits Pool c.pool))

-- why a program is not split: a count that passes its limit, at the name of the entry; want of memory is free
abbrev pub Splits : Limits → ℕ → FlowView → Stop → Type 0
Splits limits turns f (stop.Refused why) = (why.place ≡ f.entry) × (first_over limits (split_counts turns f) ≡ Some why.refusal)
Splits limits turns f stop.NotHeld = ⊥
Splits limits turns f stop.ReadFault = ⊥
Splits limits turns f stop.Memory = Unit {0}
