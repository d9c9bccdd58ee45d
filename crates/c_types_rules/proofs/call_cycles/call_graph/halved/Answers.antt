use Rattle.std.proofs.Common.{◌≡◌, sym, subst, take_all, true, arith}
use Rattle.std.proofs.lemmas.Option.{slice_get-get_or}
use Rattle.c_types_rules.specs.CallCycles.CallCycles.{is_cyclic}
use Rattle.c_types_rules.proofs.call_cycles.Cycles.{none_before, some_calls, found_at}
use Rattle.c_types_rules.proofs.call_cycles.call_graph.halved.Goals as goal

pub loop-high-init : goal.loop-high-init
loop-high-init c = record {
  apart = some_calls c.args.calls.now c.requires;
  within = omega arith;
  before = none_before c.args.calls.now;
  reached = subst (λ l. is_cyclic l ≡ true) (sym (take_all _ c.args.calls.now (omega arith))) c.requires;
}

pub returns : goal.returns
returns c =
    found_at c.args.calls.now c.loop-high.low c.loop-high.high _ c.loop-high.invariant.before c.loop-high.invariant.reached c.loop-high.invariant.apart (omega (arith, c.loop-high-test.false)) (slice_get-get_or c.args.calls.now c.loop-high.low _ (omega (arith, c.loop-high.invariant.apart, c.loop-high.invariant.within)))
