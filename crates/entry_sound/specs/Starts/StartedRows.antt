-- The row of the entry and the state in which a run begins.
use Rattle.std.specs.Prelude.{◌≡◌, ◌⊎◌, ℕ, ℤ, true, Option, Some, List, [], length, map, slice_get}
use Rattle.cc_base.specs.Lattices.{LatticeOf}
use Rattle.cc_base.specs.IntegerDomains.{IntegersOf}
use Rattle.cc_base.specs.declared.limit_table.Limits.{Limits}
use Rattle.c_layout.specs.CheckedUnits.{UnitView, static_store_view}
use Rattle.c_layout.specs.declared.shapes.BaseInfo.{BaseInfo}
use Rattle.cfg.specs.WellFormed.{is_well_formed}
use Rattle.cfg.specs.declared.programs.Flow.{Flow}
use Rattle.cfg.specs.declared.programs.InitialObject.{InitialObject}
use Rattle.cfg.specs.declared.programs.InitialValue.{InitialValue}
use Rattle.cfg.specs.declared.programs.InitialValue.TheVariants as initial
use Rattle.cfg.specs.declared.programs.ParameterInput.{ParameterInput}
use Rattle.value_domain.specs.declared.values.row_cells.Cell.{Cell}
use Rattle.transfer_system.specs.StartRows.{start_row}
use Rattle.memory_model.specs.Memory.Labels.{no_labels}
use Rattle.memory_model.specs.Memory.Bytes.{number}
use Rattle.memory_model.specs.Memory.Instances.{Memory, bytes_at}
use Rattle.memory_model.specs.Effects.NumberedTables.{empty_table}
use Rattle.memory_model.specs.Effects.ObjectEffects.{all_of}
use Rattle.memory_model.specs.Effects.UnitStarts.{all_stored}
use Rattle.lower_templates.specs.Views.ProgramViews.{flow_view}
use Rattle.semantics.specs.CfgMachine.FlowStates.{ProgramState, running}
use Rattle.semantics.specs.CfgMachine.FlowStarts.{flow_begin}
use Rattle.store_sound.specs.Concretization.RowMeaning.{InGamma}
use Rattle.store_sound.specs.Concretization.SoundMemory.{IsMemoryOf, AreEntered}
use Rattle.store_sound.specs.Concretization.ValueMeaning.{Naming}
use Rattle.store_sound.specs.Programs.Premises.{HasPremises}
use Rattle.library_sound.specs.SoundSteps.{AreShort, InGammaAfter}
use Rattle.entry_sound.specs.Starts.Literals.{IsLiteralObject}
use Rattle.entry_sound.specs.Starts.Parameters.{IsParameterObject}
use Rattle.entry_sound.specs.Cells.StaticObjects.{AreStoresOf, IsStaticObject}

module _ (u : UnitView) (flow : Flow) (naming : Naming) (memory : Memory) (entered : ℕ → Option ℕ) where
  -- an instance has the bytes of an initializer over zeros, or those of a literal
  abbrev pub HasStart : ℕ → ℕ → BaseInfo → InitialValue → Type 0
  HasStart b i info (initial.Stores stores) = IsStaticObject flow entered b i info × (AreStoresOf u flow naming memory b info stores.items × (bytes_at memory i ≡ all_stored u (map static_store_view stores.items) (all_of (number 0 no_labels) (bytes_at memory i))))
  HasStart b i info (initial.Literal text) = IsLiteralObject flow naming memory b i info text

  -- an object that is there before the run begins, with a base of its size, and an instance with its first bytes
  pub record IsBegun (b : ℕ) (o : InitialObject) : Type 0 where
    pub info : BaseInfo
    pub instance : ℕ
    pub among : slice_get flow.bases.items b ≡ Some info
    pub size : info.size ≡ o.size
    pub starts : HasStart b instance info o.value

  pub record IsTaken (p : ParameterInput) : Type 0 where
    pub info : BaseInfo
    pub instance : ℕ
    pub object : IsParameterObject flow naming memory p.base instance info p.kind

  pub record HasObject (b : ℕ) : Type 0 where
    pub at : ℕ
    pub object : InitialObject
    pub among : slice_get flow.initial.items at ≡ Some object
    pub base : object.base ≡ Some b

  pub record HasParameter (b : ℕ) : Type 0 where
    pub at : ℕ
    pub parameter : ParameterInput
    pub among : slice_get flow.parameters.items at ≡ Some parameter
    pub base : parameter.base ≡ b

  -- memory is sound, and what has a base in it are the initial objects and the parameters of the entry, each with a
  -- base of its own
  pub record IsBeginning : Type 0 where
    pub sane : IsMemoryOf flow.model flow.bases.items naming memory
    pub lives : AreEntered flow.bases.items naming memory entered
    pub short : AreShort flow.model memory
    pub objects : (k b : ℕ) (o : InitialObject) → slice_get flow.initial.items k ≡ Some o → o.base ≡ Some b → IsBegun b o
    pub own_objects : (j k b : ℕ) (o p : InitialObject) → slice_get flow.initial.items j ≡ Some o → slice_get flow.initial.items k ≡ Some p → o.base ≡ Some b → p.base ≡ Some b → j ≡ k
    pub parameters : (k : ℕ) (p : ParameterInput) → slice_get flow.parameters.items k ≡ Some p → IsTaken p
    pub own_parameters : (j k : ℕ) (o p : ParameterInput) → slice_get flow.parameters.items j ≡ Some o → slice_get flow.parameters.items k ≡ Some p → o.base ≡ p.base → j ≡ k
    pub all : (i b : ℕ) → naming i ≡ Some b → HasObject b ⊎ HasParameter b

-- by some names a run's first state has such a memory
pub record IsStartOf (u : UnitView) (flow : Flow) (s : ProgramState) : Type 0 where
  pub naming : Naming
  pub beginning : IsBeginning u flow naming s.world.memory s.bases

abbrev pub HasBeginnings : UnitView → Flow → Type 0
HasBeginnings u flow = (draws : List ℤ) (s : ProgramState) → flow_begin u (flow_view flow) draws ≡ running s [] → IsStartOf u flow s

module _ {I : Type 0} (l : LatticeOf I) (n : IntegersOf I) (gamma : I → ℤ → Type 0) (flow : Flow) where
  -- the row of the entry stands for the state in which a run begins
  abbrev pub StartRowsStand : Type 0
  StartRowsStand = (limits : Limits) → is_well_formed limits flow ≡ true → HasPremises flow → (u : UnitView) → u.model ≡ flow.model
      → (naming : Naming) (memory : Memory) (entered : ℕ → Option ℕ) → IsBeginning u flow naming memory entered
      → (row after : List (Cell I)) → length row ≡ flow.width → start_row l n flow row ≡ Some after → InGamma l n gamma flow naming after (record { memory = memory; temps = empty_table; entered = entered })

  -- where each run of the unit begins with such a memory, the row of the entry stands for the state in which it begins
  abbrev pub RunsBeginInStartRows : Type 0
  RunsBeginInStartRows = (limits : Limits) → is_well_formed limits flow ≡ true → HasPremises flow → (u : UnitView) → u.model ≡ flow.model → HasBeginnings u flow
      → (row after : List (Cell I)) → length row ≡ flow.width → start_row l n flow row ≡ Some after → (draws : List ℤ) (s : ProgramState) → flow_begin u (flow_view flow) draws ≡ running s [] → InGammaAfter l n gamma flow (Some after) s
