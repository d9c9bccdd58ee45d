use Rattle.std.proofs.Common.{◌≡◌, ◌++◌, map, take}
use Rattle.cc_base.specs.declared.diagnostics.Rule.{Rule}
use Rattle.memory_model.specs.Effects.Worlds.{Violation}
use Rattle.interp.specs.Runs.Following.{violation_of}
use Rattle.interp.proofs.runs.runs.note.Given as goal

abbrev pub invariant-loop-rule : goal.invariant-loop-rule
invariant-loop-rule l = map violation_of l.found.items ≡ map violation_of l.initial.found.items ++ map (λ (r : Rule). let v : Violation = record { at = l.place; rule = r } in v) (take l.rule-index l.w.violated.items)
