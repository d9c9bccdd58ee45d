use Rattle.std.proofs.Common.{None, sym, subst}
use Rattle.fixpoint.specs.Solver.RowMap.{SlotChanged}
use Rattle.fixpoint.proofs.solver.SlotLaws.{slot-new}
use Rattle.certificate_check.proofs.reading.map_reading.store.Goals as goal

pub returns-clause-changed : goal.returns-clause-changed
returns-clause-changed c =
    subst (λ s. SlotChanged c.args.pool.now None c.new_row-row.new.pool s) (sym c.set_slot.ensures)
    (slot-new c.args.pool.now c.new_row-row.new.pool c.new_row-row.result c.requires.whole c.new_row-row.ensures.free c.new_row-row.ensures.same_but)
