-- `int main(void){int z=0;return 1/z;}`: its run stores 0, loads it and divides by it.
use Rattle.std.specs.Prelude.{◌≡◌, ℕ, pos, true, List, [], ◌∷◌, Some, None, slice_get}
use Rattle.cc_base.specs.declared.diagnostics.Place.{Place}
use Rattle.cc_base.specs.declared.diagnostics.Rule.TheVariants as rule
use Rattle.cc_base.specs.declared.int_types.IntType.{IntType}
use Rattle.c_layout.specs.Models.{lp64}
use Rattle.c_layout.specs.Types.{Int}
use Rattle.c_layout.specs.CheckedTrees as tree
use Rattle.c_layout.specs.CheckedTrees.{TermTree, Typed, LvalueTree, Designates, FormTree}
use Rattle.c_layout.specs.CheckedUnits.{FunctionView, UnitView}
use Rattle.c_layout.specs.declared.checked_tree.checked_terms.ObjectRef.TheVariants.{Local}
use Rattle.c_layout.specs.declared.syntax_tree.expressions.BinaryOp.TheVariants.{Divide}
use Rattle.cfg.specs.declared.machine_instructions.Operation.TheVariants as op
use Rattle.cfg.specs.declared.machine_instructions.Scalar.{Scalar}
use Rattle.cfg.specs.declared.machine_instructions.Scalar.TheVariants as scalar
use Rattle.cfg.specs.declared.programs.Flow.{Flow}
use Rattle.lower_templates.specs.Views.ProgramViews.{flow_view}
use Rattle.semantics.specs.CfgMachine.FlowStates.{ProgramState, running}
use Rattle.semantics.specs.CfgMachine.FlowSteps.{flow_steps}
use Rattle.semantics.specs.CfgMachine.FlowStarts.{flow_begin}
use Rattle.typed_lowering.specs.PlainUnits.{is_plain_unit}
use Rattle.diagnose.specs.Diagnostics.AdmittedRules.{instructions_of}
use Rattle.memory_model.specs.Memory.Bytes.{into}
use Rattle.memory_model.specs.Memory.Scalars.{pointer}
use Rattle.memory_model.specs.Effects.Worlds.{Violation}
use Rattle.semantics.specs.SourceMachine.SourceRuns.{Run, found_in}
use Rattle.simulation_units.specs.Units.UnitRuns.{Agree}
use Rattle.typed_lowering.specs.SingleRuns.{HasTypedAccesses}

abbrev pub at : ℕ → Place
at column = record { file = 0; line = 1; col = column }

abbrev pub int : IntType
int = record { bytes = 4; signed = true; rank = 3 }

abbrev pub int_scalar : Scalar
int_scalar = scalar.Int int

-- ---- the unit

abbrev pub term : ℕ → FormTree → TermTree
term column form = Typed (at column) (Int int) 0 None form

abbrev pub number : ℕ → ℕ → TermTree
number column n = Typed (at column) (Int int) 0 (Some (pos n)) (tree.Number (pos n))

abbrev pub z : LvalueTree
z = Designates (at 33) (Int int) 0 (tree.Object (Local 0))

abbrev pub main : FunctionView
main = record {
  name = [];
  at = at 5;
  returns = Int int;
  parameters = 0;
  locals = record { name = []; at = at 20; ctype = Int int } ∷ [];
  scope = 0 ∷ [];
  body = tree.Start (at 20) 0 (number 22 0) ∷ (tree.Return (at 24) (Some (term 32 (tree.Integer Divide (number 31 1) (term 33 (tree.Load z))))) ∷ []);
  labels = 0;
}

abbrev pub unit : UnitView
unit = record { functions = main ∷ []; constants = []; objects = []; structs = []; literals = []; entry = 0; model = lp64 }

abbrev pub division : Violation
division = record { at = at 32; rule = rule.Diverr }

-- ---- its program

-- behind so many steps the run loads through a pointer to the first byte of the first instance
pub record Loads (flow : Flow) (count : ℕ) : Type 0 where
  pub standing : ProgramState
  pub found : List Violation
  pub is : flow_steps (flow_view flow) count (flow_begin unit (flow_view flow) []) ≡ running standing found
  pub load : slice_get (instructions_of flow standing.block) standing.at ≡ Some (record { place = at 33; operation = op.Load 1 1 int_scalar })
  pub through : standing.temps 1 ≡ Some (pointer (into 0 0 0 4))

-- all that is supposed of a plain unit, though its run accesses memory, and divides by 0 as that of the program does
pub record IsPlainDivision (flow : Flow) : Type 0 where
  pub look : is_plain_unit unit ≡ true
  pub accesses : HasTypedAccesses flow unit
  pub loads : Loads flow 6
  pub found : found_in (Run unit [] 40) ≡ division ∷ []
  pub alike : Agree (Run unit [] 40) (flow_steps (flow_view flow) 8 (flow_begin unit (flow_view flow) []))
