use Rattle.std.proofs.Common.{subst, sym}
use Rattle.fixpoint.specs.Solver.RowMap.{SlotChanged}
use Rattle.fixpoint.proofs.solver.SlotLaws.{slot-new}
use Rattle.fixpoint.proofs.solver.arrival.arrive_at.Goals as goal

pub returns-in-None-clause-changed : goal.returns-in-None-clause-changed
returns-in-None-clause-changed g c =
    subst (λ slot. SlotChanged c.args.pool.now slot c.new_row-row.new.pool c.set_row.new.slot) (sym c.in-None.is)
    (subst (SlotChanged c.args.pool.now _ c.new_row-row.new.pool) (sym c.set_row.ensures)
    (slot-new c.args.pool.now c.new_row-row.new.pool c.new_row-row.result c.requires.whole c.new_row-row.ensures.free c.new_row-row.ensures.same_but))
