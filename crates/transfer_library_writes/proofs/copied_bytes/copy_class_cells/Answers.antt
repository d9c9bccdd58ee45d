use Rattle.std.proofs.Common.{◌≡◌, ◌∙◌, ap, arith, subst}
use Rattle.c_layout.specs.declared.leaf_lists.Class.TheVariants.{Char}
use Rattle.store.specs.LeafSelection.{has_stray}
use Rattle.store_cells.specs.Walks.{turns}
use Rattle.transfer_library_writes.specs.CopyWrites.{copy_class_of, copy_class_cells}
use Rattle.transfer_library_writes.proofs.copied_bytes.copy_class_cells.Goals as goal

pub returns-clause-row : goal.returns-clause-row
unfolding copy_class_cells
returns-clause-row g c =
    let e : c.loop-number.number ≡ 6 = omega arith in
    subst (λ k. c.loop-number.row ≡ turns (copy_class_of g.I.Lattice.lattice g.I.IntDomain.numbers c.args.model.now c.args.base.now c.args.write c.has_stray-stray.result) k c.args.row.now) e c.loop-number.invariant
    ∙ ap (λ s. turns (copy_class_of g.I.Lattice.lattice g.I.IntDomain.numbers c.args.model.now c.args.base.now c.args.write s) 6 c.args.row.now) c.has_stray-stray.ensures
    ∙ ap (λ cells. turns (copy_class_of g.I.Lattice.lattice g.I.IntDomain.numbers c.args.model.now c.args.base.now c.args.write (has_stray cells Char c.args.write.window)) 6 c.args.row.now) c.as_slice.ensures
