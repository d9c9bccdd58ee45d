-- Steps of a control-flow program: each is one instruction.
use Rattle.std.specs.Prelude.{ℕ, zero, suc, pos, false, List, [], ◌∷◌, ◌++◌, map, Option, Some, None, slice_get}
use Rattle.cc_base.specs.declared.diagnostics.Place.{Place}
use Rattle.cc_base.specs.declared.diagnostics.Rule.{Rule}
use Rattle.memory_model.specs.Memory.Labels.{no_labels}
use Rattle.memory_model.specs.Memory.Scalars.{Scalar, integer}
use Rattle.memory_model.specs.Effects.Worlds.{Ended, Stuck, Reply, goes, stops, behind, unviolated, Violation}
use Rattle.memory_model.specs.Effects.Operands.{with_number}
use Rattle.memory_model.specs.Effects.LibraryCalls.{fgets}
use Rattle.lower_templates.specs.Worklist.Acts as act
use Rattle.lower_templates.specs.Worklist.Acts.{Act, Step}
use Rattle.lower_templates.specs.Views.ProgramViews.{BlockView, FlowView}
use Rattle.semantics.specs.CfgMachine.FlowStates.{ProgramState, with_temp, with_temps, put_if, FlowRun, running, stopped}
use Rattle.semantics.specs.CfgMachine.FlowActs.{perform}
use Rattle.semantics.specs.CfgMachine.FlowEdges.{edge_taken, edges_of, along}

abbrev pub no_block : BlockView
no_block = record { steps = []; first_edge = 0; edges = 0; is_head = false }

abbrev pub block_or : Option BlockView → BlockView
block_or None = no_block
block_or (Some b) = b

abbrev pub block_of : FlowView → ℕ → BlockView
block_of f n = block_or (slice_get f.blocks n)

-- ---- one instruction

abbrev pub on_edge : FlowView → ProgramState → Scalar → Reply ProgramState
on_edge f s v = along f s (edge_taken v (edges_of f (block_of f s.block)))

abbrev pub switching : FlowView → ProgramState → Scalar → Reply ProgramState
switching f s v = with_number v s.world (λ n labels w. on_edge f s v)

abbrev pub reading_line : FlowView → Option ℕ → ProgramState → List Scalar → Reply ProgramState
reading_line f to s arguments = behind (fgets f.model arguments s.world) (λ v w. on_edge f (put_if s to v w) v)

-- the last instruction of a block leads to one of its edges
abbrev pub act_step : FlowView → Act → ProgramState → Reply ProgramState
act_step f act.Jump s = on_edge f s (integer (pos 0) no_labels)
act_step f (act.Branch from kind) s = with_temp s from (on_edge f s)
act_step f (act.Switch from kind) s = with_temp s from (switching f s)
act_step f (act.ReadLine to text count stream) s = with_temps s (text ∷ (count ∷ (stream ∷ []))) (reading_line f to s)
act_step f act.Stop s = stops Ended s.world
act_step f other s = perform f other s

-- a step begins with no violation of its own
abbrev pub begun : ProgramState → ProgramState
begun s = record s { world = unviolated s.world }

-- ---- runs

abbrev pub violations_at : Place → List Rule → List Violation
violations_at at rules = map (λ r. record { at = at; rule = r }) rules

abbrev pub run_by : List Violation → Place → Reply ProgramState → FlowRun
run_by found at (goes s w) = running (record s { world = w }) (found ++ violations_at at w.violated)
run_by found at (stops why w) = stopped why w (found ++ violations_at at w.violated)

abbrev pub instruction_step : FlowView → List Violation → ProgramState → Option Step → FlowRun
instruction_step f found s None = stopped Stuck s.world found
instruction_step f found s (Some i) = run_by found i.at (act_step f i.does (begun s))

-- one step; a run that has stopped stays as it is
abbrev pub flow_step : FlowView → FlowRun → FlowRun
flow_step f (running s found) = instruction_step f found s (slice_get (block_of f s.block).steps s.at)
flow_step f (stopped why w found) = stopped why w found

-- so many steps
abbrev pub flow_steps : FlowView → ℕ → FlowRun → FlowRun
flow_steps f zero r = r
flow_steps f (suc n) r = flow_step f (flow_steps f n r)
