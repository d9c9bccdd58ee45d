use Rattle.std.proofs.Common.{◌≡◌, ◌∙◌, ap, arith, subst}
use Rattle.store_cells.specs.Walks.{turns}
use Rattle.transfer_library_writes.specs.TextWrites.{write_class, write_class_cells}
use Rattle.transfer_library_writes.proofs.text_writes.write_class_cells.Goals as goal

pub returns-clause-row : goal.returns-clause-row
unfolding write_class_cells
returns-clause-row g c =
    let e : c.loop-number.number ≡ 5 = omega arith in
    subst (λ k. c.loop-number.row ≡ turns (write_class g.I.Lattice.lattice g.I.IntDomain.numbers c.args.model.now c.args.base.now c.args.write) k c.write_stray.new.row) e c.loop-number.invariant ∙ ap (turns (write_class g.I.Lattice.lattice g.I.IntDomain.numbers c.args.model.now c.args.base.now c.args.write) 5) c.write_stray.ensures.row
