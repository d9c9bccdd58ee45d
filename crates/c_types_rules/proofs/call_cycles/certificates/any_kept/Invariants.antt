use Rattle.std.proofs.Common.{◌≡◌, drop}
use Rattle.c_types_rules.specs.CallCycles.Certificates.{any_kept}
use Rattle.c_types_rules.proofs.call_cycles.certificates.any_kept.Given as goal

abbrev pub invariant-loop-kept : goal.invariant-loop-kept
invariant-loop-kept l = any_kept (drop l.kept-index l.callers) ≡ any_kept l.callers
