use Rattle.std.proofs.Common.{◌≡◌, ◌∷◌, [], ◌∙◌, map, length, sym, ap, arith}
use Rattle.std.proofs.lemmas.Result.{err_from_is_err_and}
use Rattle.std.specs.Vec.Iter.{into_iter_items}
use Rattle.c_layout.specs.Types.{view}
use Rattle.c_layout.specs.CheckedTrees.{term_tree}
use Rattle.c_types_scopes.specs.Known.{known}
use Rattle.c_types_operands.specs.Operands.{operand_view}
use Rattle.c_types_primary.specs.Lists.{behind}
use Rattle.c_types_primary.specs.Calls as spec
use Rattle.c_types_primary.specs.Calls.{terms_view}
use Rattle.c_types_primary.proofs.Arguments.{none_left, converted_turn, converted_stops, converted_apart, converted_all}
use Rattle.c_types_primary.proofs.calls.each_converted.Goals as goal

pub returns-in_err-converted_argument-in-Some-split_first : goal.returns-in_err-converted_argument-in-Some-split_first
returns-in_err-converted_argument-in-Some-split_first c =
    let p = err_from_is_err_and c.from_residual.result c.from_residual.ensures.1 in
    rw (p.1, p.2) (converted_stops (known c.args.cx.now) c.args.place (into_iter_items c.loop-argument.argument-iterator) (into_iter_items c.next.new.self) c.in-Some.argument c.loop-argument.rest.now c.in-Some-split_first.more.now c.in-Some-split_first.parameter.now c.loop-argument.made.items _
    c.loop-argument.invariant.0 c.in-Some.ensures.steps.0 c.in-Some-split_first.ensures.cases.0
    terms_view c.in_err-converted_argument-in-Some-split_first.field-0.0 c.in_err-converted_argument-in-Some-split_first.ensures)

pub loop-argument-preserved : goal.loop-argument-preserved
loop-argument-preserved c = (
  converted_turn (known c.args.cx.now) c.args.place (into_iter_items c.loop-argument.argument-iterator) (into_iter_items c.next.new.self) c.in-Some.argument c.loop-argument.rest.now c.in-Some-split_first.more.now c.in-Some-split_first.parameter.now c.loop-argument.made.items _
      c.loop-argument.invariant.0 c.in-Some.ensures.steps.0 c.in-Some-split_first.ensures.cases.0
      c.push.new.self.items c.in_ok-converted_argument-in-Some-split_first.field-0 c.in_ok-push-in-Some-split_first.ensures.items c.in_ok-converted_argument-in-Some-split_first.ensures,
  (let was = c.loop-argument.invariant.1 in
      let gone = c.in-Some.ensures.steps.1 in
      let short = ap length c.in-Some.ensures.steps.0 in
      omega arith),
)

pub returns-in-None-split_first : goal.returns-in-None-split_first
returns-in-None-split_first c =
    let empty : c.loop-argument.rest.now ≡ [] = none_left c.loop-argument.rest.now c.in-None-split_first.ensures.cases in
    let steps : into_iter_items c.loop-argument.argument-iterator ≡ c.in-Some.argument ∷ into_iter_items c.next.new.self = c.in-Some.ensures.steps.0 in
    let now : behind (terms_view c.loop-argument.made) (spec.each_converted (known c.args.cx.now) c.args.place (operand_view c.in-Some.argument ∷ map operand_view (into_iter_items c.next.new.self)) []) ≡ spec.each_converted (known c.args.cx.now) c.args.place (map operand_view c.args.arguments.items) (map view c.args.parameters.now) =
    sym (ap (λ l. behind (terms_view c.loop-argument.made) (spec.each_converted (known c.args.cx.now) c.args.place (map operand_view l) (map view c.loop-argument.rest.now))) steps
    ∙ ap (λ l. behind (terms_view c.loop-argument.made) (spec.each_converted (known c.args.cx.now) c.args.place (operand_view c.in-Some.argument ∷ map operand_view (into_iter_items c.next.new.self)) (map view l))) empty)
    ∙ c.loop-argument.invariant.0 in
    rw c.type_fault.ensures (converted_apart (known c.args.cx.now) c.args.place (terms_view c.loop-argument.made) (operand_view c.in-Some.argument) (map operand_view (into_iter_items c.next.new.self)) _ now)

pub returns : goal.returns
returns c =
    let empty : into_iter_items c.loop-argument.argument-iterator ≡ [] = none_left _ (sym c.loop-argument.invariant.1 ∙ c.in-None.ensures.steps.0) in
    converted_all (known c.args.cx.now) c.args.place (terms_view c.loop-argument.made) (map view c.loop-argument.rest.now) _
    (sym (ap (λ l. behind (terms_view c.loop-argument.made) (spec.each_converted (known c.args.cx.now) c.args.place (map operand_view l) (map view c.loop-argument.rest.now))) empty) ∙ c.loop-argument.invariant.0)
