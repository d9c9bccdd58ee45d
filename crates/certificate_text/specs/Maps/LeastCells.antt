-- Cells that are the least of their kind, and have no line.
use Rattle.std.specs.Prelude.{Bool, true, false, not, ◌&&◌}
use Rattle.interval_domain.specs.declared.intervals.intervals.Interval.{Interval}
use Rattle.interval_domain.specs.declared.intervals.intervals.Interval.TheVariants.{Bottom, Of}
use Rattle.pointer_domain.specs.declared.pointer_sets.Pointers.{Pointers}
use Rattle.pointer_domain.specs.BaseSets.{bases_empty}
use Rattle.value_domain.specs.declared.values.values.Value as values
use Rattle.value_domain.specs.Values.LabelSets.{is_unlabelled}
use Rattle.value_domain.specs.declared.values.alloc_states.AllocState.{AllocState}
use Rattle.value_domain.specs.declared.values.row_cells.Cell.{Cell}
use Rattle.value_domain.specs.declared.values.row_cells.Cell.TheVariants.{Nothing, Value, First, State, Mixed}

abbrev pub is_none : Interval → Bool
is_none Bottom = true
is_none (Of span) = false

-- neither into a base nor null nor ended
unfoldable pub is_no_pointer : Pointers Interval → Bool
is_no_pointer p = bases_empty p.bases && (not p.null && not p.ended)

-- no number, no pointer, not indeterminate, no label
unfoldable pub is_no_value : values.Value Interval → Bool
is_no_value v = is_none v.num && (is_no_pointer v.pointer && (not v.indeterminate && is_unlabelled v.labels))

-- no size, neither live nor freed
unfoldable pub is_no_state : AllocState Interval → Bool
is_no_state s = is_none s.size && (not s.live && not s.freed)

abbrev pub is_least : Cell Interval → Bool
is_least Nothing = true
is_least (Value v) = is_no_value v
is_least (First f) = is_none f.at
is_least (State s) = is_no_state s
is_least Mixed = true
