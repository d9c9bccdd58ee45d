-- When a map from blocks to rows covers each run of a program.
use Rattle.std.specs.Prelude.{◌≡◌, ℕ, ℤ, true, List, [], ◌∷◌, length, take, Option, Some, slice_get}
use Rattle.std.specs.List.{Contains}
use Rattle.cc_base.specs.InductiveMap.{row_at}
use Rattle.cc_base.specs.Lattices.{LatticeOf}
use Rattle.cc_base.specs.IntegerDomains.{IntegersOf}
use Rattle.cc_base.specs.declared.diagnostics.Place.{Place}
use Rattle.cc_base.specs.declared.diagnostics.Rule.{Rule}
use Rattle.cc_base.specs.declared.limit_table.Limits.{Limits}
use Rattle.c_layout.specs.CheckedUnits.{UnitView}
use Rattle.cfg.specs.WellFormed.{is_well_formed}
use Rattle.cfg.specs.declared.flow_edges.Edge.{Edge}
use Rattle.cfg.specs.declared.machine_instructions.Instruction.{Instruction}
use Rattle.cfg.specs.declared.programs.Flow.{Flow}
use Rattle.value_domain.specs.declared.values.row_cells.Cell.{Cell}
use Rattle.transfer_system.specs.Edges.{edge}
use Rattle.row_bounds.specs.AdmittedRules.{instructions_of, row_behind, map_pairs}
use Rattle.memory_model.specs.Effects.Worlds.{Violation}
use Rattle.lower_templates.specs.Views.ProgramViews.{flow_view}
use Rattle.semantics.specs.CfgMachine.FlowStates.{ProgramState, running}
use Rattle.semantics.specs.CfgMachine.FlowSteps.{flow_steps}
use Rattle.semantics.specs.CfgMachine.FlowStarts.{flow_begin}
use Rattle.store_sound.specs.Concretization.Coverage.{state_of, EachRunIsCovered}
use Rattle.store_sound.specs.Concretization.RowMeaning.{InGamma}
use Rattle.store_sound.specs.Concretization.ValueMeaning.{Naming}
use Rattle.transfer_sound.specs.Values.OperandTypes.{HasOperands}
use Rattle.transfer_sound.specs.Values.SoundSteps.{InGammaAfter}
use Rattle.transfer_sound.specs.Induction.SoundEnds.{StepsGoOnSoundly, EndsGoOnSoundly}

module _ {I : Type 0} (l : LatticeOf I) (n : IntegersOf I) (flow : Flow) where
  -- the row behind instructions in order
  abbrev pub rows_behind : Option (List (Cell I)) → List Instruction → Option (List (Cell I))
  rows_behind row [] = row
  rows_behind row (i ∷ is) = rows_behind (row_behind l n flow i row) is

  -- the row before an instruction of a block
  abbrev pub row_before : List (Option (List (Cell I))) → ℕ → ℕ → Option (List (Cell I))
  row_before rows block at = rows_behind (row_at rows block) (take at (instructions_of flow block))

  -- the map admits the rule at the place
  abbrev pub Admits : List (Option (List (Cell I))) → Place → Rule → Type 0
  Admits rows place rule = Contains (map_pairs l n flow rows) (record { place = place; rule = rule })

-- in each run operands are such as their instructions suppose
abbrev pub HasTypedRuns : Flow → UnitView → Type 0
HasTypedRuns flow u = (draws : List ℤ) (steps : ℕ) (s : ProgramState) (found : List Violation) (i : Instruction) → flow_steps (flow_view flow) steps (flow_begin u (flow_view flow) draws) ≡ running s found → slice_get (instructions_of flow s.block) s.at ≡ Some i → HasOperands i.operation s.temps

module _ {I : Type 0} (l : LatticeOf I) (n : IntegersOf I) (gamma : I → ℤ → Type 0) (flow : Flow) where
  -- the row of the entry stands for the state in which a run begins
  abbrev pub Begins : UnitView → List (Option (List (Cell I))) → Type 0
  Begins u rows = (draws : List ℤ) (s : ProgramState) → flow_begin u (flow_view flow) draws ≡ running s [] → InGammaAfter l n gamma flow (row_at rows 0) s

  -- where the row that comes along an edge stands for a state, so does the row of the block that the edge enters
  abbrev pub Carries : List (Option (List (Cell I))) → Type 0
  Carries rows = (number : ℕ) (e : Edge) (row : List (Cell I)) (s : ProgramState) → slice_get flow.edges.items number ≡ Some e → row_before l n flow rows e.from (length (instructions_of flow e.from)) ≡ Some row → InGammaAfter l n gamma flow (edge l n flow row number) s → InGammaAfter l n gamma flow (row_at rows e.to) s

  -- where each instruction is sound, each run is covered by a map that begins with it and carries it on
  abbrev pub IsCoveredByLaws : Type 0
  IsCoveredByLaws = (limits : Limits) → is_well_formed limits flow ≡ true → StepsGoOnSoundly l n gamma flow → EndsGoOnSoundly l n gamma flow limits
      → (u : UnitView) (rows : List (Option (List (Cell I)))) → Begins u rows → Carries rows → HasTypedRuns flow u → EachRunIsCovered l n gamma flow (row_before l n flow rows) (Admits l n flow rows) u

  -- where the row before an instruction stands for a state, the operands there are such as the instruction supposes
  abbrev pub TypesOperands : List (Option (List (Cell I))) → Type 0
  TypesOperands rows = (naming : Naming) (row : List (Cell I)) (s : ProgramState) (i : Instruction) → slice_get (instructions_of flow s.block) s.at ≡ Some i → row_before l n flow rows s.block s.at ≡ Some row → InGamma l n gamma flow naming row (state_of s) → HasOperands i.operation s.temps

  -- where such a map begins with a run and carries it on, it covers the run, whose operands are of their types
  abbrev pub IsTypedByRows : Type 0
  IsTypedByRows = (limits : Limits) → is_well_formed limits flow ≡ true → StepsGoOnSoundly l n gamma flow → EndsGoOnSoundly l n gamma flow limits
      → (u : UnitView) (rows : List (Option (List (Cell I)))) → Begins u rows → Carries rows → TypesOperands rows → EachRunIsCovered l n gamma flow (row_before l n flow rows) (Admits l n flow rows) u × HasTypedRuns flow u
