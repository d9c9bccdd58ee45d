-- The leaves of a structure in an object.
use Rattle.std.specs.Prelude.{◌≡◌, ℕ, Some, slice_get}
use Rattle.c_layout.specs.StructViews.{StructView}
use Rattle.c_layout.specs.Types.{Ty, Struct}
use Rattle.c_layout.specs.declared.shapes.BaseInfo.{BaseInfo}
use Rattle.cfg.specs.declared.programs.Flow.{Flow}
use Rattle.run_exact.specs.TypedCopies.{IsAtStruct}
use Rattle.typed_programs.specs.Types.StandingTypes.{AreLaidOut, Stands}
use Rattle.typed_programs.specs.Types.TypedPrograms.{structs_of, IsObjectOf}

-- where a structure stands in the type of an object, its leaves are those of the object there
abbrev pub StructuresHaveLeaves : Type 0
StructuresHaveLeaves = (flow : Flow) (outer : Ty) (base : BaseInfo) (index offset : ℕ) (view : StructView) → AreLaidOut flow.model (structs_of flow) → IsObjectOf flow outer base → slice_get (structs_of flow) index ≡ Some view
    → Stands (structs_of flow) flow.model.pointer outer (Struct index) offset → IsAtStruct flow index view base offset
