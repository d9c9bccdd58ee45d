use Rattle.std.proofs.Common.{◌≡◌, drop}
use Rattle.c_types_rules.specs.CallCycles.Certificates.{are_held}
use Rattle.c_types_rules.proofs.call_cycles.certificates.are_held.Given as goal

abbrev pub invariant-loop-function : goal.invariant-loop-function
invariant-loop-function l = are_held l.calls l.callers l.function (drop l.function l.callers) ≡ are_held l.calls l.callers 0 l.callers
