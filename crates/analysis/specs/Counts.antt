-- The blocks of a system are few.
use Rattle.std.proofs.Common.{◌≡◌, ◌<◌, ◌^◌, true, length, ltb}
use Rattle.std.proofs.lemmas.Bool.{ltb-true}
use Rattle.cc_base.specs.RowLaws.{and_left, and_right}
use Rattle.cfg.specs.declared.programs.Flow.{Flow}
use Rattle.transfer_system.specs.System.SystemChecks.{is_system, is_few}

pub few_blocks : (flow : Flow) → is_system flow ≡ true → length flow.blocks.items < 2 ^ 31
few_blocks flow h =
    let rest = and_right (ltb 0 (length flow.blocks.items)) _ h in
    ltb-true _ _ (and_left (is_few (length flow.blocks.items)) _ rest)
