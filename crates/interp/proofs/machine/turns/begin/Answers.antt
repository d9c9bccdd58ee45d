use Rattle.std.proofs.Common.{◌≡◌, [], length, slice_get, Some, None, refl, sym, ap, ◌∙◌}
use Rattle.std.specs.Option.{option_map}
use Rattle.std.proofs.lemmas.Option.{slice_get-map, slice_get_read, slice_get_past}
use Rattle.std.proofs.lemmas.List.{length-map}
use Rattle.c_layout.specs.CheckedUnits.{unit_view, function_view, local_view}
use Rattle.memory_model.specs.Effects.UnitStarts.{entry_parameters}
use Rattle.interp_accesses.specs.WorldViews.{world_view}
use Rattle.semantics.specs.SourceMachine.SourceRuns.{body_of}
use Rattle.semantics.specs.SourceMachine.SourceStates.{function_at}
use Rattle.interp_stack.specs.StackViews.{StackView, standing}
use Rattle.interp_stack.proofs.Stacks.{standing_none}
use Rattle.interp.proofs.machine.Begun.{begun, body_alone}
use Rattle.interp.proofs.machine.ParameterNames.{parameters_are}
use Rattle.interp.proofs.machine.turns.begin.Goals as goal

pub returns-in-Ok : goal.returns-in-Ok
returns-in-Ok c =
    let u = unit_view c.args.unit.now in
    let f = function_view c.in-Some.function.now in
    let functions = c.deref.result.now in
    let entry = c.args.unit.now.entry in
    let got = c.in-Some.ensures.lookup in
    let there : slice_get functions entry ≡ Some c.in-Some.function.now = slice_get_read functions (length functions) entry c.in-Some.function.now refl got.3.0 got.1 in
    let found : function_at u u.entry ≡ Some f =
    slice_get-map function_view c.args.unit.now.functions.items entry
    ∙ ap (λ fs. option_map function_view (slice_get fs entry)) (sym c.deref.ensures.value)
    ∙ ap (option_map function_view) there in
    let below = (standing u c.at_rest-m.result.control.items).items in
    let none : below ≡ [] = ap (λ is. (standing u is).items) c.at_rest-m.ensures.control ∙ ap (λ (s : StackView). s.items) (standing_none u) in
    let m = record c.at_rest-m.result { names = c.name_parameters.new.names; control = c.push_body.new.control } in
    begun u (world_view c.args.world) m c.at_rest-m.ensures.function
    (c.in_ok-name_parameters.ensures ∙ parameters_are u (entry_parameters u) (length c.entry_parameters.result.now) (sym (length-map c.entry_parameters.result.now local_view) ∙ ap length c.entry_parameters.ensures))
    (body_alone (function_at u u.entry) f (standing u c.push_body.new.control.items).items below found none (c.in-Ok.ensures u))
    c.at_rest-m.ensures.values
    c.at_rest-m.ensures.frames
    (ap world_view c.at_rest-m.ensures.world)

pub returns : goal.returns
returns c =
    let u = unit_view c.args.unit.now in
    let functions = c.deref.result.now in
    let entry = c.args.unit.now.entry in
    let lost : function_at u u.entry ≡ None =
    slice_get-map function_view c.args.unit.now.functions.items entry
    ∙ ap (λ fs. option_map function_view (slice_get fs entry)) (sym c.deref.ensures.value)
    ∙ ap (option_map function_view) (slice_get_past functions entry c.in-None.ensures.lookup.3) in
    let none : (standing u c.at_rest-m.result.control.items).items ≡ [] = ap (λ is. (standing u is).items) c.at_rest-m.ensures.control ∙ ap (λ (s : StackView). s.items) (standing_none u) in
    let m = record c.at_rest-m.result { names = c.name_parameters.new.names } in
    begun u (world_view c.args.world) m c.at_rest-m.ensures.function
    (c.in_ok-name_parameters.ensures ∙ parameters_are u (entry_parameters u) (length c.entry_parameters.result.now) (sym (length-map c.entry_parameters.result.now local_view) ∙ ap length c.entry_parameters.ensures))
    (none ∙ sym (ap body_of lost))
    c.at_rest-m.ensures.values
    c.at_rest-m.ensures.frames
    (ap world_view c.at_rest-m.ensures.world)
