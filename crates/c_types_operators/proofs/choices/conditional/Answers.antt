use Rattle.std.proofs.Common.{◌≡◌, ◌∙◌, ap, subst}
use Rattle.c_layout.specs.Types.{view}
use Rattle.c_types_scopes.specs.Answers.{Gives}
use Rattle.c_types_scopes.specs.Known.{known}
use Rattle.c_types_operands.specs.Operands.{operand_view, value_view, value_of}
use Rattle.c_types_operators.specs.Choices as spec
use Rattle.c_types_operators.proofs.choices.conditional.Goals as goal

pub returns : goal.returns
returns c = subst (λ v. Gives operand_view (spec.conditional_with (known c.args.cx.now) c.args.place v (operand_view c.args.first) (operand_view c.args.second)) c.conditional_with.result) c.in_ok-condition.ensures c.conditional_with.ensures
