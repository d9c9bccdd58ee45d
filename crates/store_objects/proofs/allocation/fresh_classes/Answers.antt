use Rattle.std.proofs.Common.{◌≡◌, arith, subst}
use Rattle.store_cells.specs.Walks.{turns}
use Rattle.store_objects.specs.Allocations.{fresh_class, fresh_classes}
use Rattle.store_objects.proofs.allocation.fresh_classes.Goals as goal

pub returns-clause-row : goal.returns-clause-row
unfolding fresh_classes
returns-clause-row g c =
    let e : c.loop-class.class ≡ 6 = omega arith in
    subst (λ k. c.loop-class.row ≡ turns (fresh_class g.I.Lattice.lattice g.I.IntDomain.numbers c.args.model.now c.args.bases.now c.args.new.now c.args.fresh) k c.args.row.now) e c.loop-class.invariant
