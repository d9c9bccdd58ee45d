use Rattle.std.proofs.Common.{◌≡◌, ◌*◌, ◌<◌, ◌≤◌, ◌^◌, true, false, length, Some, slice_get, subst, sym, length-set, vec_capacity}
use Rattle.fixpoint.specs.Pool.Pool.{IsTaken}
use Rattle.fixpoint.specs.Pool.PoolLaws.{stored_given, kept_mark}
use Rattle.fixpoint.proofs.pool.pool.RowPool.give.Goals as goal

pub invariant_of-self : goal.invariant_of-self
invariant_of-self g c =
    let t : slice_get c.self.inside.taken.items c.args.row.index ≡ Some true = subst (λ p. IsTaken p c.args.row.index) (sym c.self.view_is) c.requires in
    let same = sym (length-set c.self.inside.taken.items c.args.row.index false) in (
      c.self.invariant.0,
      stored_given c.self.inside.taken.items c.args.row.index c.self.inside.stored c.self.invariant.1 t,
      subst (λ n. n * c.self.inside.width ≤ vec_capacity c.self.inside.cells) same c.self.invariant.2,
      subst (λ n. n < 2 ^ 32) same c.self.invariant.3,
    )

pub returns-clause-others : goal.returns-clause-others
returns-clause-others g c = λ s ne t.
    kept_mark c.self.inside.taken.items c.args.row.index s false ne (subst (λ p. IsTaken p s) (sym c.self.view_is) t)
