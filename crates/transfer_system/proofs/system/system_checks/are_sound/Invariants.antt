use Rattle.std.proofs.Common.{◌≡◌, drop}
use Rattle.std.specs.List.{list_all}
use Rattle.transfer_system.specs.System.SystemChecks.{is_sound_edge}
use Rattle.transfer_system.proofs.system.system_checks.are_sound.Given as goal

abbrev pub invariant-loop-at : goal.invariant-loop-at
invariant-loop-at l = list_all (is_sound_edge l.blocks) (drop l.at l.edges) ≡ list_all (is_sound_edge l.blocks) l.edges
