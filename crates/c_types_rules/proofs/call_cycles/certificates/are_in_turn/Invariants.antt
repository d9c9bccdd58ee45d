use Rattle.std.proofs.Common.{◌≡◌, drop}
use Rattle.c_types_rules.specs.CallCycles.Certificates.{are_in_turn}
use Rattle.c_types_rules.proofs.call_cycles.certificates.are_in_turn.Given as goal

abbrev pub invariant-loop-call : goal.invariant-loop-call
invariant-loop-call l = are_in_turn l.turns (drop l.call-index l.calls) ≡ are_in_turn l.turns l.calls
