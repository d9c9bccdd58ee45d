use Rattle.std.proofs.Common.{◌≡◌, ◌+◌, ◌*◌, ◌-◌, ◌++◌, ◌<◌, ◌≤◌, ◌^◌, max, true, false, length, take, drop, replicate, Some, slice_get, slice_set, subst, sym, ap, arith, ◌∙◌, length-set, vec_capacity}
use Rattle.fixpoint.specs.Pool.Pool.{Pool, IsTaken, IsWhole, row_of, with_taken}
use Rattle.fixpoint.specs.Pool.PoolLaws.{row_end, stored_taken, stored_cells, length-with_taken, IsWhole-taken, row_of-taken, more_marks, set_mark}
use Rattle.fixpoint.proofs.pool.pool.RowPool.take.Goals as goal

pub returns-in_err-index-clause-whole : goal.returns-in_err-index-clause-whole
returns-in_err-index-clause-whole g c =
    subst (λ p. IsWhole p) c.self.view_is
    (λ r t. row_end c.self.inside.taken.items r c.self.inside.width c.self.inside.stored (length c.self.inside.cells.items) c.self.invariant.1 t c.self.invariant.0)

pub invariant_of-self : goal.invariant_of-self
invariant_of-self g c =
    let p : Pool g.row.V.Denot = record { width = c.self.inside.width; taken = c.self.inside.taken.items; cells = c.self.inside.cells.items; fill = c.self.inside.fill } in
    let before : IsWhole p = λ r t. row_end c.self.inside.taken.items r c.self.inside.width c.self.inside.stored (length c.self.inside.cells.items) c.self.invariant.1 t c.self.invariant.0 in
    let cells : c.fill_up.new.cells.items ≡ (with_taken p c.in_ok-index.index).cells =
    c.fill_up.ensures.cells ∙ ap (λ n. c.self.inside.cells.items ++ replicate (n - length c.self.inside.cells.items) c.self.inside.fill) c.end_of.ensures in
    let most : max c.self.inside.stored (c.in_ok-index.index + 1) ≡ c.max-self-inside.result = sym c.max-self-inside.ensures in
    let same = sym (length-set c.self.inside.taken.items c.in_ok-index.index true) in
    let room : length c.self.inside.taken.items * c.self.inside.width ≤ vec_capacity c.fill_up.new.cells = omega (arith, c.self.invariant.2, c.fill_up.ensures.room) in (
      ap length cells
          ∙ length-with_taken p c.in_ok-index.index
          ∙ stored_cells c.self.inside.stored c.in_ok-index.index c.self.inside.width (length c.self.inside.cells.items) c.self.invariant.0
          ∙ ap (λ n. n * c.self.inside.width) most,
      subst (λ n. drop n (slice_set c.self.inside.taken.items c.in_ok-index.index true) ≡ replicate (length (slice_set c.self.inside.taken.items c.in_ok-index.index true) - n) false) most
          (stored_taken c.self.inside.taken.items c.in_ok-index.index c.self.inside.stored c.self.invariant.1),
      subst (λ n. n * c.self.inside.width ≤ vec_capacity c.fill_up.new.cells) same room,
      subst (λ n. n < 2 ^ 32) same c.self.invariant.3,
    )

pub returns-clause-in_use : goal.returns-clause-in_use
returns-clause-in_use g c =
    set_mark c.self.inside.taken.items c.in_ok-index.index
    (subst (λ marks. slice_get marks c.in_ok-index.index ≡ Some false) c.as_slice.ensures.value c.in_ok-index.ensures.free)

pub returns-clause-others : goal.returns-clause-others
returns-clause-others g c = λ s t.
    more_marks c.self.inside.taken.items c.in_ok-index.index s (subst (λ q. IsTaken q s) (sym c.self.view_is) t)

pub returns-clause-kept : goal.returns-clause-kept
returns-clause-kept g c = λ s t.
    let p : Pool g.row.V.Denot = record { width = c.self.inside.width; taken = c.self.inside.taken.items; cells = c.self.inside.cells.items; fill = c.self.inside.fill } in
    let before : IsWhole p = λ r t. row_end c.self.inside.taken.items r c.self.inside.width c.self.inside.stored (length c.self.inside.cells.items) c.self.invariant.1 t c.self.invariant.0 in
    let cells : c.fill_up.new.cells.items ≡ (with_taken p c.in_ok-index.index).cells =
    c.fill_up.ensures.cells ∙ ap (λ n. c.self.inside.cells.items ++ replicate (n - length c.self.inside.cells.items) c.self.inside.fill) c.end_of.ensures in
    let here : IsTaken p s = subst (λ q. IsTaken q s) (sym c.self.view_is) t in
    ap (λ cs. take c.self.inside.width (drop (s * c.self.inside.width) cs)) cells
    ∙ row_of-taken p c.in_ok-index.index s before here
    ∙ ap (λ q. row_of q s) c.self.view_is

pub returns-clause-whole : goal.returns-clause-whole
returns-clause-whole g c = λ r t.
    let p : Pool g.row.V.Denot = record { width = c.self.inside.width; taken = c.self.inside.taken.items; cells = c.self.inside.cells.items; fill = c.self.inside.fill } in
    let before : IsWhole p = λ r t. row_end c.self.inside.taken.items r c.self.inside.width c.self.inside.stored (length c.self.inside.cells.items) c.self.invariant.1 t c.self.invariant.0 in
    let cells : c.fill_up.new.cells.items ≡ (with_taken p c.in_ok-index.index).cells =
    c.fill_up.ensures.cells ∙ ap (λ n. c.self.inside.cells.items ++ replicate (n - length c.self.inside.cells.items) c.self.inside.fill) c.end_of.ensures in
    let end : r * c.self.inside.width + c.self.inside.width ≤ length (with_taken p c.in_ok-index.index).cells = IsWhole-taken p c.in_ok-index.index before r t in
    subst (λ cs. r * c.self.inside.width + c.self.inside.width ≤ length cs) (sym cells) end
