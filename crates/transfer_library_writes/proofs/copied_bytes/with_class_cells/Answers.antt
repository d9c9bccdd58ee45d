use Rattle.std.proofs.Common.{◌≡◌, ◌∙◌, ap, arith, subst}
use Rattle.c_layout.specs.declared.leaf_lists.Class.TheVariants.{Char}
use Rattle.store.specs.LeafSelection.{has_stray}
use Rattle.store_cells.specs.Walks.{turns}
use Rattle.transfer_library_writes.specs.CopyWrites.{as_numbers, with_class, with_class_cells}
use Rattle.transfer_library_writes.proofs.copied_bytes.with_class_cells.Goals as goal

pub returns : goal.returns
unfolding with_class_cells
returns g c =
    let e : c.loop-number.number ≡ 6 = omega arith in
    ap as_numbers
    (subst (λ k. c.loop-number.found ≡ turns (with_class g.I.Lattice.lattice g.I.IntDomain.numbers c.args.base.now c.args.row.now c.has_stray-stray.result) k c.args.start) e c.loop-number.invariant
    ∙ ap (λ s. turns (with_class g.I.Lattice.lattice g.I.IntDomain.numbers c.args.base.now c.args.row.now s) 6 c.args.start) c.has_stray-stray.ensures
    ∙ ap (λ cells. turns (with_class g.I.Lattice.lattice g.I.IntDomain.numbers c.args.base.now c.args.row.now (has_stray cells Char c.args.window)) 6 c.args.start) c.as_slice.ensures)
