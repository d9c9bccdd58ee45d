-- The start of a run of a unit's control-flow program.
use Rattle.std.specs.Prelude.{ℕ, suc, ℤ, List, [], ◌∷◌, Option, Some, None}
use Rattle.c_layout.specs.CheckedUnits.{UnitView}
use Rattle.cfg.specs.declared.programs.ParameterInput.{ParameterInput}
use Rattle.memory_model.specs.Effects.NumberedTables.{put_at, empty_table}
use Rattle.memory_model.specs.Effects.Worlds.{World, Reply, goes, stops}
use Rattle.memory_model.specs.Effects.UnitStarts.{base_instance, parameter_instance, start_world}
use Rattle.lower_templates.specs.Views.ProgramViews.{InitialView, FlowView}
use Rattle.semantics.specs.CfgMachine.FlowStates.{ProgramState, FlowRun, running, stopped}

abbrev pub Names : Type 0
Names = ℕ → Option ℕ

abbrev pub name_object : UnitView → InitialView → Option ℕ → Names → Names
name_object u o None names = names
name_object u o (Some b) names = put_at names b (base_instance u o.object)

-- the bases of static objects and literals name their instances
abbrev pub name_objects : UnitView → List InitialView → Names → Names
name_objects u [] names = names
name_objects u (o ∷ os) names = name_objects u os (name_object u o o.base names)

-- the bases of the entry's parameters, from one on, name theirs
abbrev pub name_parameters : UnitView → ℕ → List ParameterInput → Names → Names
name_parameters u n [] names = names
name_parameters u n (p ∷ ps) names = name_parameters u (suc n) ps (put_at names p.base (parameter_instance u n))

abbrev pub start_names : UnitView → FlowView → Names
start_names u f = name_parameters u 0 f.parameters (name_objects u f.initial empty_table)

-- at the start of the first block; no temporary has anything
abbrev pub first_standing : UnitView → FlowView → World → ProgramState
first_standing u f w = record { block = 0; at = 0; temps = empty_table; bases = start_names u f; world = w }

abbrev pub begun_by : UnitView → FlowView → Reply (Unit {0}) → FlowRun
begun_by u f (goes _ w) = running (first_standing u f w) []
begun_by u f (stops why w) = stopped why w []

-- a run under some numbers of the outside, before its first step; its world is that in which the unit begins
abbrev pub flow_begin : UnitView → FlowView → List ℤ → FlowRun
flow_begin u f draws = begun_by u f (start_world u draws)
