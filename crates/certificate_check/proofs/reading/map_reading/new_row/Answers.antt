use Rattle.std.proofs.Common.{◌≡◌, length, ap, arith}
use Rattle.interval_domain.specs.declared.intervals.intervals.Interval.{Interval}
use Rattle.value_domain.specs.declared.values.row_cells.Cell.{Cell}
use Rattle.fixpoint.specs.Pool.Pool.{Pool}
use Rattle.certificate_check.proofs.reading.FillLaws.{written_same_but}
use Rattle.certificate_check.proofs.reading.map_reading.new_row.Goals as goal

pub returns-clause-same_but : goal.returns-clause-same_but
returns-clause-same_but c =
    let width : c.take_row-row.new.pool.width ≡ c.args.pool.now.width = ap (λ (p : Pool (Cell Interval)). p.width) c.take_row-row.ensures.taken in
    let len : length c.copy_from_slice.new.self ≡ c.args.pool.now.width = omega (arith, c.copy_from_slice.auto.self, c.row_mut.ensures.len, width) in
    (written_same_but c.args.pool.now c.take_row-row.new.pool c.take_row-row.result.index c.copy_from_slice.new.self c.take_row-row.ensures.taken c.requires.whole c.take_row-row.ensures.free len).0
