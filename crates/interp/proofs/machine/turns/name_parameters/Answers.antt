use Rattle.std.proofs.Common.{◌≡◌, Some, ap, ◌∙◌, arith}
use Rattle.std.proofs.lemmas.Grind.{common_steps}
use Rattle.c_layout.specs.CheckedUnits.{unit_view}
use Rattle.std.proofs.lemmas.List.{length-map}
use Rattle.memory_model.specs.Effects.NumberedTables.{set_at}
use Rattle.memory_model.specs.Effects.UnitStarts.{parameter_instance}
use Rattle.interp_steps.specs.MachineItems.MachineViews.{names_view, parameters_named}
use Rattle.interp.proofs.machine.ParameterNames.{none_named, named_more}
use Rattle.interp.proofs.machine.turns.name_parameters.Goals as goal

pub loop-k-init : goal.loop-k-init
loop-k-init c = ap names_view c.requires ∙ none_named (unit_view c.args.unit.now)

pub loop-k-preserved : goal.loop-k-preserved
loop-k-preserved c =
    let u = unit_view c.args.unit.now in
    let names = names_view c.loop-k.names.items in
    let here : c.in-Ok.local ≡ c.loop-k.k = grind (arith, common_steps) in
    let inst : c.in-Ok-try_from.inst ≡ parameter_instance u c.loop-k.k = grind (arith, common_steps, length-map) in
    named_more u c.loop-k.k c.loop-k.names.items c.set_name.new.names.items c.loop-k.invariant
    (c.in_ok-set_name.ensures.named
    ∙ ap (λ n. set_at names n (Some c.in-Ok-try_from.inst)) here
    ∙ ap (λ i. set_at names c.loop-k.k (Some i)) inst)

pub returns : goal.returns
returns c =
    let end : c.loop-k.k ≡ c.args.count = omega arith in
    c.loop-k.invariant ∙ ap (parameters_named (unit_view c.args.unit.now)) end
