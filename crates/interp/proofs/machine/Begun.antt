-- The machine before its first turn.
use Rattle.std.proofs.Common.{◌≡◌, List, [], ◌++◌, map, reverse, Option, Some, sym, ap, ◌∙◌}
use Rattle.std.proofs.lemmas.List.{append-nil}
use Rattle.c_layout.specs.CheckedUnits.{UnitView, FunctionView}
use Rattle.memory_model.specs.Effects.UnitStarts.{entry_parameters}
use Rattle.memory_model.specs.Effects.Worlds.{World}
use Rattle.interp_accesses.specs.WorldViews.{world_view}
use Rattle.semantics.specs.SourceMachine.Items.{Item}
use Rattle.semantics.specs.SourceMachine.SourceRuns.{name_parameters, body_of, first_state}
use Rattle.semantics.specs.SourceMachine.SourceStates.{function_at}
use Rattle.semantics.specs.SourceMachine.StatementItems.{body}
use Rattle.interp_stack.specs.StackViews.{standing}
use Rattle.interp_steps.specs.Operations.Pending.{pending}
use Rattle.interp_steps.specs.MachineItems.MachineViews.{names_view, frame_view, state_view}
use Rattle.interp_steps.specs.declared.machine_items.machines.Machine.{Machine}
use Rattle.interp_steps.proofs.machine_items.MovedStates.{with_parts}

pub begun : (u : UnitView) (w : World) (m : Machine) → m.function ≡ u.entry → names_view m.names.items ≡ name_parameters u 0 (entry_parameters u) → (standing u m.control.items).items ≡ body_of (function_at u u.entry) → m.values.items ≡ [] → m.frames.items ≡ [] → world_view m.world ≡ w → state_view u m ≡ first_state u w
begun u w m function names control values frames world = with_parts u m (first_state u w) function names control (ap pending values) (ap (λ fs. reverse (map (frame_view u) fs)) frames) world

-- the body of a function on an empty list
pub body_alone : (o : Option FunctionView) (f : FunctionView) (items below : List Item) → o ≡ Some f → below ≡ [] → items ≡ body f ++ below → items ≡ body_of o
body_alone o f items below e none is = is ∙ ap (λ more. body f ++ more) none ∙ append-nil (body f) ∙ ap body_of (sym e)
