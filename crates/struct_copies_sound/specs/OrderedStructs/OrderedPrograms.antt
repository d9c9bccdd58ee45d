-- What is said of programs whose structs stand in no circle.
use Rattle.std.specs.Prelude.{◌≡◌, ℕ, true, Some, List, slice_get}
use Rattle.cc_base.specs.declared.limit_table.Limits.{Limits}
use Rattle.c_layout.specs.Models.{is_model}
use Rattle.c_layout.specs.StructViews.{StructView, structs_view}
use Rattle.c_layout.specs.declared.data_model.Model.{Model}
use Rattle.cfg.specs.StructCounts.{are_counted}
use Rattle.cfg.specs.WellFormed.{is_well_formed}
use Rattle.cfg.specs.declared.programs.Flow.{Flow}
use Rattle.store_structs.specs.LaidApart.{are_laid_apart}
use Rattle.struct_copies_sound.specs.Structs.StructTables.{IsNumbered, HasStructs}
use Rattle.analysis_preconditions.specs.StructNesting.OrderedStructs.{are_ordered}

-- the leaves of each struct by number are those of its type, as many as are recorded of it
abbrev pub AreNumbered : Type 0
AreNumbered = (m : Model) (structs : List StructView) → is_model m ≡ true → are_counted structs ≡ true → are_laid_apart m structs ≡ true → are_ordered structs ≡ true
    → (index : ℕ) (s : StructView) → slice_get structs index ≡ Some s → IsNumbered m structs index s

-- well-formed programs have what the law on copies asks of structs
abbrev pub HaveStructs : Type 0
HaveStructs = (limits : Limits) (flow : Flow) → is_well_formed limits flow ≡ true → are_laid_apart flow.model (structs_view flow.structs) ≡ true → are_ordered (structs_view flow.structs) ≡ true → HasStructs flow
