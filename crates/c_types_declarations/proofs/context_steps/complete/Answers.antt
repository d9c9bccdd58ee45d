use Rattle.std.proofs.Common.{ap}
use Rattle.c_types_scopes.specs.States.{state}
use Rattle.c_types_declarations.specs.ContextSteps.{with_types}
use Rattle.c_types_declarations.proofs.context_steps.complete.Goals as goal

pub returns : goal.returns
returns c = ap (with_types (state c.args.cx.now)) c.complete.ensures
