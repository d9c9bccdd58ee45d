use Rattle.std.proofs.Common.{true, ap, ◌∙◌}
use Rattle.cc_base.specs.Rows.{row_rounded_if}
use Rattle.fixpoint.specs.declared.pool.row_name.Row.{Row}
use Rattle.fixpoint.specs.Pool.Pool.{with_taken}
use Rattle.fixpoint.specs.Pool.PoolLaws.{SameBut-trans}
use Rattle.fixpoint.proofs.solver.SlotLaws.{copy-new}
use Rattle.fixpoint.proofs.solver.arrival.new_row.Goals as goal

pub returns-clause-same_but : goal.returns-clause-same_but
returns-clause-same_but g c =
    let copied = copy-new c.args.pool.now c.take_row-row.new.pool c.copy.new.self c.mark.new.self.index c.take_row-row.result.index c.args.spare.now.index
    c.take_row-row.ensures.taken (ap (λ (r : Row). r.index) c.mark.ensures) c.take_row-row.ensures.free c.requires.whole c.requires.spare c.copy.ensures in
    SameBut-trans (with_taken c.args.pool.now c.mark.new.self.index) c.copy.new.self c.round_if.new.pool c.mark.new.self.index copied.0 c.round_if.ensures.same_but

pub returns-clause-row : goal.returns-clause-row
returns-clause-row g c =
    let copied = copy-new c.args.pool.now c.take_row-row.new.pool c.copy.new.self c.mark.new.self.index c.take_row-row.result.index c.args.spare.now.index
    c.take_row-row.ensures.taken (ap (λ (r : Row). r.index) c.mark.ensures) c.take_row-row.ensures.free c.requires.whole c.requires.spare c.copy.ensures in
    c.round_if.ensures.row ∙ ap (row_rounded_if g.C.Lattice.lattice c.args.list.now c.args.rounding) copied.1
