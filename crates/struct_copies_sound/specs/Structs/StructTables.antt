-- What the law on copies of structs asks of a program's structs and bases.
use Rattle.std.specs.Prelude.{◌≡◌, ℕ, true, Some, List, length, slice_get}
use Rattle.cc_base.specs.declared.limit_table.Limits.{Limits}
use Rattle.c_layout.specs.Leaves.{leaves_of}
use Rattle.c_layout.specs.StructViews.{StructView, structs_view}
use Rattle.c_layout.specs.Types.{Struct}
use Rattle.c_layout.specs.declared.data_model.Model.{Model}
use Rattle.c_layout.specs.declared.leaf_lists.Leaf.{Leaf}
use Rattle.c_layout.specs.declared.shapes.BaseInfo.{BaseInfo}
use Rattle.cfg.specs.WellFormed.{is_well_formed}
use Rattle.cfg.specs.declared.programs.Flow.{Flow}
use Rattle.store_structs.specs.LaidApart.{are_laid_apart}
use Rattle.store_structs.specs.LeafNumbers.{struct_leaf}
use Rattle.struct_copies_sound.specs.Leaves.StructLeaves.{IsFew, IsStruct}

-- the leaves of a struct by number are those of its type, as many as are recorded of it
pub record IsNumbered (m : Model) (structs : List StructView) (index : ℕ) (s : StructView) : Type 0 where
  pub numbered : (number : ℕ) → slice_get (leaves_of structs m.pointer (Struct index)) number ≡ struct_leaf structs m.pointer index number
  pub counted : s.leaves ≡ length (leaves_of structs m.pointer (Struct index))

-- they share no bytes too
pub record IsListed (m : Model) (structs : List StructView) (index : ℕ) (s : StructView) : Type 0 where
  pub struct : IsStruct m (leaves_of structs m.pointer (Struct index)) s.size
  pub numbered : (number : ℕ) → slice_get (leaves_of structs m.pointer (Struct index)) number ≡ struct_leaf structs m.pointer index number
  pub counted : s.leaves ≡ length (leaves_of structs m.pointer (Struct index))

pub record HasStructs (flow : Flow) : Type 0 where
  -- the leaves of each base have few places, none of them far off
  pub few : (b j : ℕ) (base : BaseInfo) (leaf : Leaf) → slice_get flow.bases.items b ≡ Some base → slice_get base.shape.cells j ≡ Some leaf → IsFew leaf
  pub listed : (index : ℕ) (s : StructView) → slice_get (structs_view flow.structs) index ≡ Some s → IsListed flow.model (structs_view flow.structs) index s

-- well-formed programs whose members stand apart, where the leaves of each struct by number are those of its type
abbrev pub MeetsStructs : Type 0
MeetsStructs = (limits : Limits) (flow : Flow) → is_well_formed limits flow ≡ true → are_laid_apart flow.model (structs_view flow.structs) ≡ true
    → ((index : ℕ) (s : StructView) → slice_get (structs_view flow.structs) index ≡ Some s → IsNumbered flow.model (structs_view flow.structs) index s) → HasStructs flow
