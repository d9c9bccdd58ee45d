-- The order of sets of rules.
use Rattle.std.specs.Prelude.{◌≡◌, true}
use Rattle.cc_base.specs.declared.diagnostics.Rule.{Rule}
use Rattle.transfer_checks.specs.declared.violation_sets.Violations.{Violations}
use Rattle.transfer_checks.specs.ViolationSets.{violates}

-- the second set has each rule of the first
abbrev pub ViolationsBelow : Violations → Violations → Type 0
ViolationsBelow s t = (rule : Rule) → violates s rule ≡ true → violates t rule ≡ true
