use Rattle.std.proofs.Common.{◌≡◌, ◌∙◌, ap, subst}
use Rattle.c_layout.specs.Types.{view}
use Rattle.c_types_scopes.specs.Answers.{Gives}
use Rattle.c_types_scopes.specs.Known.{known}
use Rattle.c_types_operands.specs.Operands.{operand_view, value_view, value_of}
use Rattle.c_types_operators.specs.Choices as spec
use Rattle.c_types_operators.proofs.choices.conditional_with.Goals as goal

pub returns : goal.returns
returns c =
    subst (λ x. Gives operand_view (spec.choice_of (known c.args.cx.now) c.args.place x) c.choice_of.result)
    (c.choice_from.ensures ∙ (ap (λ v. spec.choice_from (value_view c.args.condition) v (value_view c.in_ok-second.second)) c.in_ok-first.ensures ∙ ap (λ v. spec.choice_from (value_view c.args.condition) (value_of (operand_view c.args.first)) v) c.in_ok-second.ensures))
    c.choice_of.ensures
