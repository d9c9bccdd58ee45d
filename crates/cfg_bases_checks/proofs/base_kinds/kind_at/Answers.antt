use Rattle.std.proofs.Common.{◌≡◌, Some, None, sym, arith}
use Rattle.std.specs.List.{slice_get}
use Rattle.std.proofs.lemmas.Grind.{common_steps}
use Rattle.std.proofs.lemmas.Option.{gets}
use Rattle.cfg_bases_checks.proofs.KindReads.{kind_there, no_kind}
use Rattle.cfg_bases_checks.proofs.base_kinds.kind_at.Goals as goal

pub returns-in-Some : goal.returns-in-Some
returns-in-Some c =
    let there : slice_get c.args.bases.now c.args.base ≡ Some c.in-Some.info.now = grind (arith, common_steps, gets) in
    sym (kind_there c.args.bases.now c.args.base c.in-Some.info.now there)

pub returns-in-None : goal.returns-in-None
returns-in-None c =
    let none : slice_get c.args.bases.now c.args.base ≡ None = grind (arith, common_steps, gets) in
    sym (no_kind c.args.bases.now c.args.base none)
