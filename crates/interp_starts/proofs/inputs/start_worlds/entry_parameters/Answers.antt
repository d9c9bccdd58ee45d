use Rattle.std.proofs.Common.{◌≡◌, map, take, slice_get, Some, None, sym, ap, ◌∙◌, arith}
use Rattle.std.specs.Option.{option_map}
use Rattle.std.specs.List.{take-map}
use Rattle.std.proofs.lemmas.Grind.{common_steps}
use Rattle.std.proofs.lemmas.List.{take_min}
use Rattle.std.proofs.lemmas.Option.{gets, slice_get-map}
use Rattle.c_layout.specs.CheckedUnits.{local_view, function_view}
use Rattle.memory_model.specs.Effects.UnitStarts.{parameters_of}
use Rattle.interp_starts.proofs.inputs.start_worlds.entry_parameters.Goals as goal

pub returns-in-Some : goal.returns-in-Some
returns-in-Some c =
    let f = c.in-Some.function.now in
    let functions = c.args.unit.now.functions.items in
    let there : slice_get functions c.args.unit.now.entry ≡ Some f = grind (arith, common_steps, gets) in
    ap (λ k. map local_view (take k c.as_slice-locals.result.now)) c.min-count.ensures
    ∙ ap (map local_view) (take_min f.parameters c.as_slice-locals.result.now)
    ∙ ap (λ ls. map local_view (take f.parameters ls)) c.as_slice-locals.ensures.value
    ∙ sym (take-map local_view f.parameters f.locals.items)
    ∙ sym (ap parameters_of (slice_get-map function_view functions c.args.unit.now.entry ∙ ap (option_map function_view) there))

pub returns-in-None : goal.returns-in-None
returns-in-None c =
    let functions = c.args.unit.now.functions.items in
    let none : slice_get functions c.args.unit.now.entry ≡ None = grind (arith, common_steps, gets) in
    sym (ap parameters_of (slice_get-map function_view functions c.args.unit.now.entry ∙ ap (option_map function_view) none))
