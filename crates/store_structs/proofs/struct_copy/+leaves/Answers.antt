use Rattle.std.proofs.Common.{◌≡◌, arith, ◌-◌, ◌+◌, ◌∙◌, sym, ap, Some}
use Rattle.store_cells.specs.RowPositions.{capped}
use Rattle.store_structs.specs.StructCopies.{route_view, copy_step, copy_leaves}
use Rattle.store_structs.proofs.Batches.{batch}
use Rattle.store_structs.proofs.struct_copy.+leaves.Goals as goal

pub copy_leaves-returns-in-None-clause-row : goal.copy_leaves-returns-in-None-clause-row
copy_leaves-returns-in-None-clause-row g t c =
    let r = route_view c.args.route in
    let rest = copy_leaves g.I.Lattice.lattice g.I.IntDomain.numbers r (c.args.count - 1) (capped (c.args.first + 1)) c.args.row.now in
    ap (λ leaf. copy_step g.I.Lattice.lattice g.I.IntDomain.numbers r c.args.row.now leaf rest) c.in-None.ensures
    ∙ sym (batch g.I.Lattice.lattice g.I.IntDomain.numbers r c.args.count c.args.first c.args.row.now (omega arith))

pub copy_leaves-returns-in-Some-clause-row : goal.copy_leaves-returns-in-Some-clause-row
copy_leaves-returns-in-Some-clause-row g t c =
    let r = route_view c.args.route in
    let rest = copy_leaves g.I.Lattice.lattice g.I.IntDomain.numbers r (c.args.count - 1) (capped (c.args.first + 1)) c.args.row.now in
    let turn : _ ≡ copy_step g.I.Lattice.lattice g.I.IntDomain.numbers r c.args.row.now (Some c.in-Some.leaf) rest = rw (← c.saturating_add.ensures) c.copy_leaf.ensures.row in
    turn
    ∙ ap (λ leaf. copy_step g.I.Lattice.lattice g.I.IntDomain.numbers r c.args.row.now leaf rest) c.in-Some.ensures
    ∙ sym (batch g.I.Lattice.lattice g.I.IntDomain.numbers r c.args.count c.args.first c.args.row.now (omega arith))
