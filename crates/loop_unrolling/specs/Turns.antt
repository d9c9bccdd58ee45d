-- A program whose loops are unrolled to a bound: so many copies of each block, ordered by copy and then
-- by block; an edge that goes back leads to the next copy, and in the last copy stays there.
use Rattle.std.specs.Prelude.{ℕ, zero, suc, ◌+◌, ◌*◌, Bool, false, cond, nat_lt, ◌==◌, List, [], ◌++◌, length, map}
use Rattle.lower_templates.specs.Views.ProgramViews.{BlockView, EdgeView, FlowView}
use Rattle.loop_unrolling.specs.declared.turn_splits.Turns.{Turns}

abbrev pub copies : ℕ → ℕ
copies turns = turns + 2

abbrev pub last_copy : ℕ → ℕ
last_copy turns = turns + 1

abbrev pub turns_of : FlowView → ℕ → Turns
turns_of f turns = record { copies = copies turns; last = last_copy turns; blocks = length f.blocks; edges = length f.edges }

-- the number of a block in a copy
abbrev pub number_in : ℕ → ℕ → ℕ → ℕ
number_in blocks copy block = copy * blocks + block

-- the copy to which an edge of a copy leads
abbrev pub copy_behind : ℕ → ℕ → ℕ → ℕ → ℕ
copy_behind last copy from to = cond (nat_lt from to) copy (cond (nat_lt copy last) (copy + 1) last)

abbrev pub edge_copy : ℕ → ℕ → ℕ → EdgeView → EdgeView
edge_copy blocks last copy e = record { from = number_in blocks copy e.from; to = number_in blocks (copy_behind last copy e.from e.to) e.to; taken = e.taken }

-- a block in a copy whose edges begin at a number; only the last copy has heads
abbrev pub block_copy : ℕ → Bool → BlockView → BlockView
block_copy first is_last b = record { steps = b.steps; first_edge = first + b.first_edge; edges = b.edges; is_head = cond is_last b.is_head false }

-- what the copies below a number have, one after the other
abbrev pub all_copies : {V : Type 0} → (ℕ → List V) → ℕ → List V
all_copies of zero = []
all_copies of (suc n) = all_copies of n ++ of n

-- the blocks of the copies below a number
abbrev pub blocks_below : Turns → List BlockView → ℕ → List BlockView
blocks_below t bs n = all_copies (λ k. map (block_copy (k * t.edges) (k == t.last)) bs) n

abbrev pub edges_below : Turns → List EdgeView → ℕ → List EdgeView
edges_below t es n = all_copies (λ k. map (edge_copy t.blocks t.last k) es) n

-- a program with so many turns of its loops unrolled
abbrev pub split : ℕ → FlowView → FlowView
split turns f = record f { blocks = blocks_below (turns_of f turns) f.blocks (copies turns); edges = edges_below (turns_of f turns) f.edges (copies turns) }
