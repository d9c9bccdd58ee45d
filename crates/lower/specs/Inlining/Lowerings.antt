-- The control-flow program of a unit, from the templates and counts of its functions.
use Rattle.std.specs.Prelude.{◌≡◌, ℕ, zero, suc, ◌+◌, false, List, [], ◌∷◌, ◌++◌, slice_get, Option, Some, None}
use Rattle.cc_base.specs.declared.diagnostics.Place.{Place}
use Rattle.cc_base.specs.declared.limit_table.Count.TheVariants.{Pool}
use Rattle.cc_base.specs.declared.int_types.IntType.{IntType}
use Rattle.cc_base.specs.declared.limit_table.Limits.{Limits}
use Rattle.cc_base.specs.declared.refusals.Fault.{Fault}
use Rattle.cc_base.specs.declared.refusals.Refusal.{Refusal}
use Rattle.cc_base.specs.declared.refusals.Stop.{Stop}
use Rattle.cc_base.specs.declared.refusals.Stop.TheVariants as stop
use Rattle.c_layout.specs.Types.{Ty, Int, Pointer, Array, Struct, Void}
use Rattle.c_layout.specs.CheckedUnits.{FunctionView, UnitView}
use Rattle.cfg.specs.declared.programs.ParameterInput.{ParameterInput}
use Rattle.lower_templates.specs.Worklist.Pieces.{TemplateView}
use Rattle.lower_functions.specs.Functions.Functions.{local_type}
use Rattle.lower_tables.specs.declared.counts.count_limits.UnitCounts.{UnitCounts}
use Rattle.lower_tables.specs.Counts.FirstOver.{over, or_else, first_over, unit_counts, pool}
use Rattle.lower_tables.specs.Counts.Preparations.{IsPrepared}
use Rattle.lower_objects.specs.Counts.SharedObjects.{shared_bases}
use Rattle.lower_objects.specs.declared.counts.function_counts.FunctionCounts.{FunctionCounts}
use Rattle.lower_templates.specs.Views.ProgramViews.{FlowView}
use Rattle.lower_tables.specs.Bases.InitialBytes.{initial_objects}
use Rattle.lower.specs.Inlining.Inlinings.{ProgramView, program, unfinished}

-- the type of an entry's parameter, which is an integer
abbrev pub input_type : Ty → IntType
input_type (Int k) = k
input_type (Pointer t) = record { bytes = 0; signed = false; rank = 0 }
input_type (Array t n) = record { bytes = 0; signed = false; rank = 0 }
input_type (Struct i) = record { bytes = 0; signed = false; rank = 0 }
input_type Void = record { bytes = 0; signed = false; rank = 0 }

abbrev pub input : FunctionView → ℕ → ParameterInput
input f n = record { base = n; kind = input_type (local_type f n) }

-- the entry's parameters, whose bases are the first ones
abbrev pub inputs : FunctionView → ℕ → List ParameterInput
inputs f zero = []
inputs f (suc n) = inputs f n ++ input f n ∷ []

-- a row has the values of all bases and then the temporaries
abbrev pub lowered : UnitView → FunctionView → ProgramView → ℕ → FlowView
lowered u f p temps = record {
  blocks = p.blocks;
  edges = p.edges;
  bases = p.bases.bases;
  temps = temps;
  initial = initial_objects u p.bases;
  parameters = inputs f f.parameters;
  entry = f.at;
  structs = u.structs;
  width = p.bases.width + temps;
  model = u.model;
}

-- the refusal of a unit whose entry stands there: the first count that passes its limit, and the pool last
abbrev pub refusal_of : UnitView → Limits → List (Option TemplateView) → Place → UnitCounts → Option Refusal
refusal_of u limits templates at counts = or_else (first_over limits counts) (over limits Pool (pool counts.blocks ((program u templates at).bases.width + counts.temps)))

-- the counts of a unit, from those of its entry and the bases that functions share
pub record AreUnitCounts (u : UnitView) (templates : List (Option TemplateView)) (table : List (Option FunctionCounts)) (counts : UnitCounts) : Type 0 where
  pub entry : FunctionCounts
  pub is_counted : slice_get table u.entry ≡ Some (Some entry)
  pub are_counts : counts ≡ unit_counts entry (shared_bases u templates)

-- the entry of a unit, the settled templates of the functions that it reaches, and the counts of the unit
pub record IsCounted (u : UnitView) (entry : FunctionView) (templates : List (Option TemplateView)) (counts : UnitCounts) : Type 0 where
  pub table : List (Option FunctionCounts)
  pub is_entry : slice_get u.functions u.entry ≡ Some entry
  pub is_prepared : IsPrepared u templates table
  pub are_counts : AreUnitCounts u templates table counts

-- a program is the entry's, with every call put in at its place and every copy finished; no count of the
-- unit passes its limit
pub record IsLowering (u : UnitView) (limits : Limits) (f : FlowView) : Type 0 where
  pub entry : FunctionView
  pub templates : List (Option TemplateView)
  pub counts : UnitCounts
  pub is_counted : IsCounted u entry templates counts
  pub fits : refusal_of u limits templates entry.at counts ≡ None
  pub ends : unfinished u templates entry.at ≡ []
  pub opens : f ≡ lowered u entry (program u templates entry.at) counts.temps

-- a unit is refused at the name of its entry for the first of its counts that passes its limit; where the
-- pool is looked at, every copy is finished
pub record IsRefusal (u : UnitView) (limits : Limits) (f : Fault) : Type 0 where
  pub entry : FunctionView
  pub templates : List (Option TemplateView)
  pub counts : UnitCounts
  pub is_counted : IsCounted u entry templates counts
  pub place : f.place ≡ entry.at
  pub passes : refusal_of u limits templates entry.at counts ≡ Some f.refusal
  pub ends : first_over limits counts ≡ None → unfinished u templates entry.at ≡ []

-- the answers besides a program: a refusal, and want of memory
abbrev pub Refuses : UnitView → Limits → Stop → Type 0
Refuses u limits (stop.Refused f) = IsRefusal u limits f
Refuses u limits stop.NotHeld = ⊥
Refuses u limits stop.ReadFault = ⊥
Refuses u limits stop.Memory = Unit {0}
