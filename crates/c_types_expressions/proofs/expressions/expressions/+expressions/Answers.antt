use Rattle.std.proofs.Common.{map, option_map, Bor}
use Rattle.c_layout.specs.declared.syntax_tree.expressions.Expr.{Expr}
use Rattle.c_layout.specs.SyntaxTrees.{tree_of, trees}
use Rattle.c_types_scopes.specs.States.{State, state}
use Rattle.c_types_operands.specs.Operands.{operand_view}
use Rattle.c_types_expressions.proofs.expressions.Steps.{entered, operand_sized, call_ruled}
use Rattle.c_types_expressions.proofs.expressions.expressions.+expressions.Goals as goal

pub sized-returns : goal.sized-returns
sized-returns t c =
    let s : State = state c.args.cx.now in
    operand_sized operand_view s (record s { unevaluated = c.saturating_add-cx.result }) (state c.typed.new.cx) c.args.place (tree_of c.args.e.now) (operand_view c.in_ok-operand.operand) c.size_of_operand.result
    (entered s c.saturating_add-cx.result c.saturating_add-cx.ensures) c.in_ok-operand.ensures c.size_of_operand.ensures

pub called-returns : goal.called-returns
called-returns t c =
    call_ruled operand_view (state c.args.cx.now) (state c.noted_callee.new.cx) (state c.arguments.new.cx) c.args.place c.args.name.now (trees (map tree_of c.args.expressions.now)) c.in_ok-callee.callee (map operand_view c.in_ok-arguments.arguments.items) (option_map (λ (e : Bor Expr). tree_of e.now) c.first_argument-first.result) c.call.result
    c.in_ok-callee.ensures c.in_ok-arguments.ensures c.first_argument-first.ensures c.call.ensures
