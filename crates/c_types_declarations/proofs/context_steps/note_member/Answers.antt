use Rattle.std.proofs.Common.{ap}
use Rattle.std.proofs.lemmas.Result.{IfOk-weaker}
use Rattle.c_types_scopes.specs.States.{state}
use Rattle.c_types_declarations.specs.ContextSteps.{with_types}
use Rattle.c_types_declarations.proofs.context_steps.note_member.Goals as goal

pub returns : goal.returns
returns c = IfOk-weaker c.note_member.result _ _ (λ u h. ap (with_types (state c.args.cx.now)) h) c.note_member.ensures
