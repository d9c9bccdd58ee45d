-- A program whose run goes back once and then divides by 0: with one turn unrolled it is such as the law on plain loops supposes,
-- with none it is not.
use Rattle.std.specs.Prelude.{◌≡◌, ℕ, true, List, [], ◌∷◌}
use Rattle.cc_base.specs.declared.diagnostics.Place.{Place}
use Rattle.cc_base.specs.declared.diagnostics.Rule.TheVariants as rule
use Rattle.cc_base.specs.declared.int_types.IntType.{IntType}
use Rattle.c_layout.specs.Models.{lp64}
use Rattle.c_layout.specs.Types.{Int}
use Rattle.c_layout.specs.CheckedUnits.{FunctionView, UnitView}
use Rattle.cfg.specs.declared.programs.Flow.{Flow}
use Rattle.lower_templates.specs.Views.ProgramViews.{flow_view}
use Rattle.semantics.specs.CfgMachine.FlowStates.{found_in}
use Rattle.semantics.specs.CfgMachine.FlowSteps.{flow_steps}
use Rattle.semantics.specs.CfgMachine.FlowStarts.{flow_begin}
use Rattle.memory_model.specs.Effects.Worlds.{Violation}
use Rattle.transfer_system.specs.System.FlowMachines.{is_head_at}
use Rattle.unit_exact.specs.Unrolled.UnrolledLoops.{TakesTurns, IsSingleUpTo}

abbrev pub at : ℕ → Place
at column = record { file = 0; line = 1; col = column }

abbrev pub int : IntType
int = record { bytes = 4; signed = true; rank = 3 }

-- of the unit the runs of a program take only that it has no objects and that its entry takes no numbers
abbrev pub main : FunctionView
main = record { name = []; at = at 1; returns = Int int; parameters = 0; locals = []; scope = []; body = []; labels = 0 }

abbrev pub unit : UnitView
unit = record { functions = main ∷ []; constants = []; objects = []; structs = []; literals = []; entry = 0; model = lp64 }

abbrev pub division : Violation
division = record { at = at 7; rule = rule.Diverr }

pub record IsLoopedOnce (flow : Flow) : Type 0 where
  pub head : is_head_at flow.blocks.items 1 ≡ true
  pub single : IsSingleUpTo 1 flow unit
  pub too_few : TakesTurns 0 flow unit → ⊥
  pub found : found_in (flow_steps (flow_view flow) 7 (flow_begin unit (flow_view flow) [])) ≡ division ∷ []
