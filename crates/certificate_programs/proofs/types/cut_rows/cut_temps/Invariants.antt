use Rattle.std.proofs.Common.{◌≡◌, ◌-◌, map, length}
use Rattle.std.specs.List.{range_with_len}
use Rattle.certificate_programs.specs.Types.CutCells.{cut_all}
use Rattle.certificate_programs.specs.Types.RowKinds.{temp_kinds}
use Rattle.certificate_programs.proofs.types.cut_rows.cut_temps.Given as goal

abbrev pub invariant-loop-temp : goal.invariant-loop-temp
invariant-loop-temp l = l.row ≡ cut_all (map (temp_kinds l.temps l.all l.block (length l.initial.row - l.temps)) (range_with_len 0 l.temp)) l.initial.row
