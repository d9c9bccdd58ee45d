use Rattle.std.proofs.Common.{◌≡◌, ◌∷◌, [], ◌∙◌, map, length, sym, ap, arith}
use Rattle.std.proofs.lemmas.Result.{err_from_is_err_and}
use Rattle.std.specs.Vec.Iter.{into_iter_items}
use Rattle.c_layout.specs.CheckedTrees.{term_tree}
use Rattle.c_types_scopes.specs.Known.{known}
use Rattle.c_types_operands.specs.Operands.{operand_view}
use Rattle.c_types_primary.specs.Lists.{behind}
use Rattle.c_types_primary.specs.Calls as spec
use Rattle.c_types_primary.specs.Calls.{terms_view}
use Rattle.c_types_primary.proofs.Arguments.{none_left, formatted_turn, formatted_stops, formatted_apart, formatted_all}
use Rattle.c_types_primary.proofs.calls.each_formatted.Goals as goal

pub returns-in_err-formatted-in-Some-split_first : goal.returns-in_err-formatted-in-Some-split_first
returns-in_err-formatted-in-Some-split_first c =
    let p = err_from_is_err_and c.from_residual.result c.from_residual.ensures.1 in
    rw (p.1, p.2) (formatted_stops (known c.args.cx.now) c.args.place (into_iter_items c.loop-argument.argument-iterator) (into_iter_items c.next.new.self) c.in-Some.argument c.loop-argument.rest.now c.in-Some-split_first.more.now c.in-Some-split_first.next.now c.loop-argument.made.items _
    c.loop-argument.invariant.0 c.in-Some.ensures.steps.0 c.in-Some-split_first.ensures.cases.0
    terms_view c.in_err-formatted-in-Some-split_first.field-0.0 c.in_err-formatted-in-Some-split_first.ensures)

pub loop-argument-preserved : goal.loop-argument-preserved
loop-argument-preserved c = (
  formatted_turn (known c.args.cx.now) c.args.place (into_iter_items c.loop-argument.argument-iterator) (into_iter_items c.next.new.self) c.in-Some.argument c.loop-argument.rest.now c.in-Some-split_first.more.now c.in-Some-split_first.next.now c.loop-argument.made.items _
      c.loop-argument.invariant.0 c.in-Some.ensures.steps.0 c.in-Some-split_first.ensures.cases.0
      c.push.new.self.items c.in_ok-formatted-in-Some-split_first.field-0 c.in_ok-push-in-Some-split_first.ensures.items c.in_ok-formatted-in-Some-split_first.ensures,
  (let was = c.loop-argument.invariant.1 in
      let gone = c.in-Some.ensures.steps.1 in
      let short = ap length c.in-Some.ensures.steps.0 in
      omega arith),
)

pub returns-in-None-split_first : goal.returns-in-None-split_first
returns-in-None-split_first c =
    let empty : c.loop-argument.rest.now ≡ [] = none_left c.loop-argument.rest.now c.in-None-split_first.ensures.cases in
    let steps : into_iter_items c.loop-argument.argument-iterator ≡ c.in-Some.argument ∷ into_iter_items c.next.new.self = c.in-Some.ensures.steps.0 in
    let now : behind (terms_view c.loop-argument.made) (spec.each_formatted (known c.args.cx.now) c.args.place [] (operand_view c.in-Some.argument ∷ map operand_view (into_iter_items c.next.new.self))) ≡ behind (terms_view c.args.first) (spec.each_formatted (known c.args.cx.now) c.args.place c.args.wanted.now (map operand_view c.args.arguments.items)) =
    sym (ap (λ l. behind (terms_view c.loop-argument.made) (spec.each_formatted (known c.args.cx.now) c.args.place c.loop-argument.rest.now (map operand_view l))) steps
    ∙ ap (λ l. behind (terms_view c.loop-argument.made) (spec.each_formatted (known c.args.cx.now) c.args.place l (operand_view c.in-Some.argument ∷ map operand_view (into_iter_items c.next.new.self)))) empty)
    ∙ c.loop-argument.invariant.0 in
    rw c.format_fault.ensures (formatted_apart (known c.args.cx.now) c.args.place (terms_view c.loop-argument.made) (operand_view c.in-Some.argument) (map operand_view (into_iter_items c.next.new.self)) _ now)

pub returns : goal.returns
returns c =
    let empty : into_iter_items c.loop-argument.argument-iterator ≡ [] = none_left _ (sym c.loop-argument.invariant.1 ∙ c.in-None.ensures.steps.0) in
    formatted_all (known c.args.cx.now) c.args.place (terms_view c.loop-argument.made) c.loop-argument.rest.now _
    (sym (ap (λ l. behind (terms_view c.loop-argument.made) (spec.each_formatted (known c.args.cx.now) c.args.place c.loop-argument.rest.now (map operand_view l))) empty) ∙ c.loop-argument.invariant.0)
