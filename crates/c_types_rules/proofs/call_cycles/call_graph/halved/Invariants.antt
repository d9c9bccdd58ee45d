use Rattle.std.proofs.Common.{◌≡◌, ◌<◌, ◌≤◌, ◌-◌, take, length, true, false}
use Rattle.c_types_rules.specs.CallCycles.CallCycles.{is_cyclic}
use Rattle.c_types_rules.proofs.call_cycles.call_graph.halved.Given as goal

abbrev pub invariant-loop-high : goal.invariant-loop-high
invariant-loop-high l = record {
  apart : l.low < l.high;
  within : l.high ≤ length l.calls;
  before : is_cyclic (take l.low l.calls) ≡ false;
  reached : is_cyclic (take l.high l.calls) ≡ true;
}

abbrev pub decreases-loop-high : goal.decreases-loop-high
decreases-loop-high l = l.high - l.low
