use Rattle.std.proofs.Common.{◌<◌, length, ap, ◌∙◌, arith}
use Rattle.std.proofs.lemmas.Grind.{common_steps}
use Rattle.memory_model.specs.Effects.NumberedTables.{set_at}
use Rattle.interp_steps.specs.MachineItems.MachineViews.{names_view}
use Rattle.interp_steps.proofs.machine_items.Names.{names_more, names_set}
use Rattle.interp_steps.proofs.machine_items.machines.set_name.Goals as goal

pub loop-names-preserved : goal.loop-names-preserved
loop-names-preserved c = ap names_view c.in-Ok.ensures.items ∙ names_more c.loop-names.names.items ∙ c.loop-names.invariant

pub returns-clause-named : goal.returns-clause-named
returns-clause-named c =
    let within : c.args.local < length c.loop-names.names.items = grind (arith, common_steps) in
    names_set c.loop-names.names.items c.args.local c.args.inst within
    ∙ ap (λ names. set_at names c.args.local c.args.inst) c.loop-names.invariant
