-- Checked units, and the programs that they are lowered to.
use Rattle.std.specs.Prelude.{◌≡◌, ℕ, ℤ, true, List, Ok}
use Rattle.cc_base.specs.declared.limit_table.Limits.{Limits}
use Rattle.c_layout.specs.CheckedUnits.{UnitView}
use Rattle.c_layout.specs.DeclarationTrees.{ExternalTree}
use Rattle.c_layout.specs.StructViews.{structs_view}
use Rattle.c_layout.specs.declared.data_model.Model.{Model}
use Rattle.c_types_theorems.specs.UnitChecks.{check}
use Rattle.analysis_preconditions.specs.StructNesting.OrderedStructs.{are_ordered}
use Rattle.cfg.specs.declared.programs.Flow.{Flow}
use Rattle.lower_templates.specs.Views.ProgramViews.{flow_view}
use Rattle.lower.specs.Inlining.Lowerings.{IsLowering}
use Rattle.lower_preconditions.specs.Objects.PlainObjects.{has_plain_objects}
use Rattle.transfer_system.specs.System.RegularPrograms.{is_regular}
use Rattle.entry_sound.specs.Tables.UnitStarts.{StartsAs}

-- the unit that a tree is under a data model and a name of an entry, whose program it is, and whose objects are
-- plain, as `lower` says
pub record IsUnitOf (u : UnitView) (flow : Flow) : Type 0 where
  pub model : Model
  pub name : List ℕ
  pub tree : List ExternalTree
  pub limits : Limits
  pub checked : check model name tree ≡ Ok u
  pub lowered : IsLowering u limits (flow_view flow)
  pub plain : has_plain_objects u ≡ true

-- its program begins with what is in its tables
abbrev pub CheckedUnitsBegin : Type 0
CheckedUnitsBegin = (u : UnitView) (flow : Flow) (list : List ℤ) → is_regular flow list ≡ true → are_ordered (structs_view flow.structs) ≡ true → IsUnitOf u flow → StartsAs u flow
