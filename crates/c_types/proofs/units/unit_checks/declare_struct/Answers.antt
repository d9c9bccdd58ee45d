use Rattle.std.proofs.Common.{ap}
use Rattle.std.proofs.lemmas.Result.{IfOk-weaker}
use Rattle.c_types_scopes.specs.States.{state}
use Rattle.c_types_declarations.specs.ContextSteps.{with_types}
use Rattle.c_types.proofs.units.unit_checks.declare_struct.Goals as goal

pub returns-clause-after : goal.returns-clause-after
returns-clause-after c = IfOk-weaker c.declare.result _ _ (λ n h. ap (with_types (state c.args.cx.now)) h) c.declare.ensures.after
