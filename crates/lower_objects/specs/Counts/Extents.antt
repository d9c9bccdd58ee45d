-- How much pieces add to a program.
use Rattle.std.specs.Prelude.{ℕ, ◌+◌, ◌^◌, Bool, true, false, cond, min}
use Rattle.lower_objects.specs.declared.counts.function_counts.BlockExtent.{BlockExtent}
use Rattle.lower_objects.specs.declared.counts.function_counts.FunctionCounts.{FunctionCounts}

-- a count, or 10^18 where it is greater
abbrev pub capped : ℕ → ℕ
capped n = min n (10 ^ 18)

-- an instruction that does not end its block
abbrev pub with_instruction : BlockExtent → BlockExtent
with_instruction at = record { blocks = at.blocks; instructions = capped (at.instructions + 1); is_empty = false }

-- one that does
abbrev pub with_end : BlockExtent → BlockExtent
with_end at = record { blocks = capped (at.blocks + 1); instructions = capped (at.instructions + 1); is_empty = true }

-- a label: where the current block has instructions, a jump ends it
abbrev pub with_mark : BlockExtent → BlockExtent
with_mark at = cond at.is_empty at (with_end at)

-- a call adds what the function adds to a block that is as the current one
abbrev pub added_by : FunctionCounts → Bool → BlockExtent
added_by counts is_empty = cond is_empty counts.from_empty counts.from_begun

abbrev pub with_call : BlockExtent → FunctionCounts → Bool → BlockExtent
with_call at counts used = record {
  blocks = capped (at.blocks + (added_by counts at.is_empty).blocks);
  instructions = capped (at.instructions + capped ((added_by counts at.is_empty).instructions + cond used counts.if_used 0));
  is_empty = (added_by counts at.is_empty).is_empty;
}
