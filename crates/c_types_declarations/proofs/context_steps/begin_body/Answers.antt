use Rattle.std.proofs.Common.{ap}
use Rattle.std.proofs.lemmas.Result.{IfOk-weaker}
use Rattle.c_types_scopes.specs.States.{state}
use Rattle.c_types_declarations.specs.ContextSteps.{with_types}
use Rattle.c_types_declarations.proofs.context_steps.begin_body.Goals as goal

pub returns-clause-after : goal.returns-clause-after
returns-clause-after c = IfOk-weaker c.begin_body.result _ _ (λ b h. ap (with_types (state c.args.cx.now)) h) c.begin_body.ensures.after
