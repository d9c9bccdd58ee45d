-- A library call as its plan sees it.
use Rattle.std.specs.Prelude.{ℕ, Option, List}
use Rattle.cfg.specs.declared.programs.Flow.{Flow}
use Rattle.transfer_library_plans.specs.declared.call_arguments.Call as code

-- the program, the temporaries of the arguments, and the size of the type to whose pointer an
-- allocation is converted at once
pub record Call : Type 0 where
  pub flow : Flow
  pub arguments : List ℕ
  pub wanted : Option ℕ

abbrev pub call_view : code.Call → Call
call_view c = record { flow = c.flow.now; arguments = c.arguments.now; wanted = c.wanted }
