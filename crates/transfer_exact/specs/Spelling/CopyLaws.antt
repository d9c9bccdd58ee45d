-- The laws of rows that tell the state: copies of structs, texts that are spelled, and the row of the entry.
use Rattle.std.specs.Prelude.{◌≡◌, ℤ, true, List, [], Some, length}
use Rattle.cc_base.specs.Lattices.{LatticeOf}
use Rattle.cc_base.specs.IntegerDomains.{IntegersOf}
use Rattle.cc_base.specs.declared.limit_table.Limits.{Limits}
use Rattle.c_layout.specs.CheckedUnits.{UnitView}
use Rattle.cfg.specs.WellFormed.{is_well_formed}
use Rattle.cfg.specs.declared.machine_instructions.Operation.{Operation}
use Rattle.cfg.specs.declared.programs.Flow.{Flow}
use Rattle.value_domain.specs.declared.values.row_cells.Cell.{Cell}
use Rattle.transfer_edges.specs.StartRows.{start_row}
use Rattle.lower_templates.specs.Views.ProgramViews.{flow_view}
use Rattle.semantics.specs.CfgMachine.FlowStates.{ProgramState, running}
use Rattle.semantics.specs.CfgMachine.FlowStarts.{flow_begin}
use Rattle.store_sound.specs.Concretization.Coverage.{state_of}
use Rattle.store_sound.specs.Programs.Premises.{HasPremises}
use Rattle.struct_copies_sound.specs.Structs.StructTables.{HasStructs}
use Rattle.struct_copies_sound.specs.SpellSteps.{SpellsCharacters}
use Rattle.entry_sound.specs.Starts.StartedRows.{HasBeginnings}
use Rattle.transfer_exact.specs.Values.SingleRows.{IsPlainProgram, ExactState}
use Rattle.transfer_exact.specs.Accesses.StoreLaws.{AreExactAt}
use Rattle.transfer_exact.specs.Accesses.TypedAccesses.{HasObjects}
use Rattle.transfer_exact.specs.Spelling.TypedCopies.{IsTypedCopy}

abbrev pub IsSpelled : Flow → Operation → ProgramState → Type 0
IsSpelled flow o s = SpellsCharacters flow o

module _ {I : Type 0} (l : LatticeOf I) (n : IntegersOf I) (gamma : I → ℤ → Type 0) (flow : Flow) where
  abbrev pub SpellsAreExact : Type 0
  SpellsAreExact = AreExactAt l n gamma flow (IsSpelled flow)

  abbrev pub CopiesAreExact : Type 0
  CopiesAreExact = HasStructs flow → AreExactAt l n gamma flow (IsTypedCopy flow)

  -- where the entry has no parameter, the row of the entry tells the state in which a run begins
  abbrev pub StartIsExact : Type 0
  StartIsExact = (limits : Limits) → is_well_formed limits flow ≡ true → HasPremises flow → HasObjects flow → IsPlainProgram flow → flow.parameters.items ≡ [] → (u : UnitView) → u.model ≡ flow.model → HasBeginnings u flow
      → (row after : List (Cell I)) → length row ≡ flow.width → start_row l n flow row ≡ Some after → (draws : List ℤ) (s : ProgramState) → flow_begin u (flow_view flow) draws ≡ running s [] → ExactState l n flow after (state_of s)
