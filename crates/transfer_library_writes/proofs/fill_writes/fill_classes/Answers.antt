use Rattle.std.proofs.Common.{◌≡◌, ◌∙◌, ap, arith, subst}
use Rattle.store_cells.specs.Walks.{turns}
use Rattle.transfer_library_writes.specs.FillWrites.{fill_class}
use Rattle.transfer_library_writes.proofs.fill_writes.fill_classes.Goals as goal

pub returns-clause-row : goal.returns-clause-row
returns-clause-row g c =
    let e : c.loop-number.number ≡ 5 = omega arith in
    subst (λ k. c.loop-number.row ≡ turns (fill_class g.I.Lattice.lattice g.I.IntDomain.numbers c.args.model.now c.args.base.now c.args.write c.args.cleared) k c.fill_stray.new.row) e c.loop-number.invariant ∙ ap (turns (fill_class g.I.Lattice.lattice g.I.IntDomain.numbers c.args.model.now c.args.base.now c.args.write c.args.cleared) 5) c.fill_stray.ensures.row
