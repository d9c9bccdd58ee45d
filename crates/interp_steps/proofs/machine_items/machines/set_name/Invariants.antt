use Rattle.std.proofs.Common.{◌≡◌, ◌+◌, ◌-◌, vec_len}
use Rattle.interp_steps.specs.MachineItems.MachineViews.{names_view}
use Rattle.interp_steps.proofs.machine_items.machines.set_name.Given as goal

abbrev pub invariant-loop-names : goal.invariant-loop-names
invariant-loop-names l = names_view l.names.items ≡ names_view l.initial.names.items

abbrev pub decreases-loop-names : goal.decreases-loop-names
decreases-loop-names l = (l.at + 1) - vec_len l.names
