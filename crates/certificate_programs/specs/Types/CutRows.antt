-- Rows cut to the types of what they hold.
use Rattle.std.specs.Prelude.{ℕ, List, length}
use Rattle.cfg.specs.declared.programs.Flow.{Flow}
use Rattle.value_domain.specs.declared.values.row_cells.Cell.{Cell}
use Rattle.interval_domain.specs.declared.intervals.intervals.Interval.{Interval}
use Rattle.certificate_programs.specs.Types.CutCells.{cut_all}
use Rattle.certificate_programs.specs.Types.RowKinds.{row_kinds}

-- the row of a block in which each value is cut to the types of what holds it, and all else stays; `all` has the
-- types of temporaries at the starts of blocks
abbrev pub cut_row : Flow → List ℕ → ℕ → List (Cell Interval) → List (Cell Interval)
cut_row flow all block row = cut_all (row_kinds flow all block (length row)) row
