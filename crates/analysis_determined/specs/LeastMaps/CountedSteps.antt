-- How many edges an analysis follows, in the counts of the program.
use Rattle.std.specs.Prelude.{ℕ, ◌+◌, ◌*◌, cond, List, [], ◌∷◌, length}
use Rattle.cc_base.specs.InductiveMap.{heads_below}
use Rattle.c_layout.specs.declared.shapes.BaseInfo.{BaseInfo}
use Rattle.cfg.specs.WellFormed.{all_cells}
use Rattle.cfg.specs.declared.programs.Flow.{Flow}
use Rattle.transfer_system.specs.System.FlowMachines.{is_head_at}

-- the first zeros of bases
abbrev pub all_zeros : List BaseInfo → ℕ
all_zeros [] = 0
all_zeros (b ∷ bs) = length b.shape.zeros + all_zeros bs

-- the bases with an allocation state
abbrev pub all_states : List BaseInfo → ℕ
all_states [] = 0
all_states (b ∷ bs) = cond b.shape.heap 1 0 + all_states bs

-- how often cells, first zeros and allocation states can grow at one block, with so many numbers to which bounds are rounded
-- and so many bases
abbrev pub counted_growths : ℕ → ℕ → ℕ → ℕ → ℕ → ℕ
counted_growths cells zeros states numbers bases = cells * (8 * numbers + bases + 16) + (zeros * (2 * numbers + 2) + states * (2 * numbers + 4))

-- how often an edge is followed, with a list of so many numbers; temporaries count as cells
abbrev pub visits : Flow → ℕ → ℕ
visits flow numbers = heads_below (is_head_at flow.blocks.items) (length flow.blocks.items) * (counted_growths (all_cells flow.bases.items + flow.temps) (all_zeros flow.bases.items) (all_states flow.bases.items) numbers (length flow.bases.items) + 1) + 2
