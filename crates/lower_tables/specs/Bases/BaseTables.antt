-- The bases of a program, in order of first naming.
use Rattle.std.specs.Prelude.{ℕ, zero, suc, ◌+◌, ◌-◌, ◌^◌, cond, List, [], ◌∷◌, ◌++◌, length, slice_get, slice_set, Option, Some, None}
use Rattle.c_layout.specs.Types.{Ty}
use Rattle.c_layout.specs.Layout.{size_of_type}
use Rattle.c_layout.specs.CheckedUnits.{FunctionView, StaticView, LiteralView, UnitView}
use Rattle.c_layout.specs.declared.checked_tree.checked_units.StaticBase.{StaticBase}
use Rattle.c_layout.specs.declared.checked_tree.checked_units.StaticBase.TheVariants as shared
use Rattle.c_layout.specs.declared.shapes.BaseInfo.{BaseInfo}
use Rattle.c_layout.specs.declared.shapes.BaseKind.{BaseKind}
use Rattle.c_layout.specs.declared.shapes.BaseKind.TheVariants as kind
use Rattle.c_layout.specs.declared.shapes.Shape.{Shape}
use Rattle.lower_objects.specs.Shapes.HeapBases.{heap_shape}
use Rattle.lower_objects.specs.Shapes.FirstZeros.{object_shape}
use Rattle.lower_templates.specs.Worklist.Pieces.{NameView, Local, Outcome, Static, Literal, Allocation}
use Rattle.lower_functions.specs.Functions.Functions.{local_type}
use Rattle.lower_objects.specs.Counts.SharedObjects.{literal_type, all_pointed}
use Rattle.lower_tables.specs.declared.bases.program_bases.BaseTable.{BaseTable}

-- the bases so far, how many values a row has so far, and which bases the objects of static storage and
-- the literals have
pub record TableView : Type 0 where
  pub bases : List BaseInfo
  pub width : ℕ
  pub objects : List (Option ℕ)
  pub literals : List (Option ℕ)

abbrev pub table : BaseTable → TableView
table b = record { bases = b.bases.items; width = b.width; objects = b.objects.items; literals = b.literals.items }

-- a cell for each leaf and each first zero, and on the heap one for each of six classes and one state
abbrev pub width_of : Shape → ℕ
width_of s = length s.cells + length s.zeros + cond s.heap 7 0

abbrev pub found_in : Option (Option ℕ) → Option ℕ
found_in None = None
found_in (Some found) = found

abbrev pub known : List (Option ℕ) → ℕ → Option ℕ
known list n = found_in (slice_get list n)

abbrev pub info : BaseKind → ℕ → ℕ → Shape → BaseInfo
info what size first shape = record { kind = what; size = size; first = first; shape = shape }

-- a base stands behind those that were named before
abbrev pub added : BaseKind → ℕ → Shape → TableView → TableView
added what size shape b = record { bases = b.bases ++ info what size b.width shape ∷ []; width = b.width + width_of shape; objects = b.objects; literals = b.literals }

abbrev pub object_added : UnitView → BaseKind → Ty → TableView → TableView
object_added u what t b = added what (size_of_type u.structs u.model.pointer t) (object_shape u.structs u.model.pointer t) b

-- the newest base of an allocation, and then the older one
abbrev pub allocated : UnitView → Option Ty → TableView → TableView
allocated u target b = added kind.Older 0 (heap_shape u.structs u.model.pointer target) (added kind.Newest 0 (heap_shape u.structs u.model.pointer target) b)

-- the number of a base, the bases then, and which bases the local objects of the copy have then
pub record Named : Type 0 where
  pub number : ℕ
  pub after : TableView
  pub locals : List (Option ℕ)

abbrev pub named : ℕ → TableView → List (Option ℕ) → Named
named n b locals = record { number = n; after = b; locals = locals }

-- a local object, or the result behind them, has a base from its first naming on; what is not there has
-- none
abbrev pub local_or : UnitView → FunctionView → ℕ → List (Option ℕ) → TableView → Option (Option ℕ) → Named
local_or u f slot locals b None = named 0 b locals
local_or u f slot locals b (Some (Some n)) = named n b locals
local_or u f slot locals b (Some None) = named (length b.bases) (object_added u kind.Automatic (local_type f slot) b) (slice_set locals slot (Some (length b.bases)))

abbrev pub local : UnitView → FunctionView → ℕ → List (Option ℕ) → TableView → Named
local u f slot locals b = local_or u f slot locals b (slice_get locals slot)

abbrev pub object_noted : ℕ → ℕ → TableView → TableView
object_noted n base b = record { bases = b.bases; width = b.width; objects = slice_set b.objects n (Some base); literals = b.literals }

abbrev pub literal_noted : ℕ → ℕ → TableView → TableView
literal_noted n base b = record { bases = b.bases; width = b.width; objects = b.objects; literals = slice_set b.literals n (Some base) }

abbrev pub literal_made : UnitView → ℕ → TableView → Option LiteralView → TableView
literal_made u n b None = b
literal_made u n b (Some l) = literal_noted n (length b.bases) (object_added u kind.Literal (literal_type u.model.char_signed (length l.bytes)) b)

abbrev pub literal_or : UnitView → ℕ → TableView → Option ℕ → TableView
literal_or u n b (Some base) = b
literal_or u n b None = literal_made u n b (slice_get u.literals n)

abbrev pub with_literal : UnitView → ℕ → TableView → TableView
with_literal u n b = literal_or u n b (known b.literals n)

abbrev pub object_made : UnitView → ℕ → TableView → Option StaticView → TableView
object_made u n b None = b
object_made u n b (Some o) = object_noted n (length b.bases) (object_added u kind.Static o.ctype b)

abbrev pub object_or : UnitView → ℕ → TableView → Option ℕ → TableView
object_or u n b (Some base) = b
object_or u n b None = object_made u n b (slice_get u.objects n)

abbrev pub with_object : UnitView → ℕ → TableView → TableView
with_object u n b = object_or u n b (known b.objects n)

abbrev pub pointed_from : Option StaticView → List StaticBase
pointed_from None = []
pointed_from (Some o) = all_pointed o.stores

abbrev pub pointed_or : UnitView → ℕ → Option ℕ → List StaticBase
pointed_or u n (Some base) = []
pointed_or u n None = pointed_from (slice_get u.objects n)

-- what the initializer of an object names that has no base yet
abbrev pub pointed : UnitView → ℕ → TableView → List StaticBase
pointed u n b = pointed_or u n (known b.objects n)

-- the base of an object of static storage or of a literal is made where it has none
abbrev pub with_shared : UnitView → StaticBase → TableView → TableView
with_shared u (shared.Object n) b = with_object u n b
with_shared u (shared.Literal n) b = with_literal u n b

-- and what it names comes next
abbrev pub brought : UnitView → StaticBase → TableView → List StaticBase
brought u (shared.Object n) b = pointed u n b
brought u (shared.Literal n) b = []

-- the bases of all that is to come, the first one first, in so many turns
abbrev pub with_all : UnitView → ℕ → List StaticBase → TableView → TableView
with_all u zero stack b = b
with_all u (suc n) [] b = b
with_all u (suc n) (x ∷ xs) b = with_all u n (brought u x b ++ xs) (with_shared u x b)

-- an object of static storage brings in what its initializer points to, depth first
abbrev pub with_pointed : UnitView → StaticBase → TableView → TableView
with_pointed u x b = with_all u (2 ^ 64 - 1) (x ∷ []) b

abbrev pub number_of : Option ℕ → ℕ
number_of None = 0
number_of (Some n) = n

abbrev pub object_named : ℕ → List (Option ℕ) → TableView → Named
object_named n locals b = named (number_of (known b.objects n)) b locals

abbrev pub literal_named : ℕ → List (Option ℕ) → TableView → Named
literal_named n locals b = named (number_of (known b.literals n)) b locals

-- the base that a name of a template stands for, in the copy whose local objects have these bases
abbrev pub base : UnitView → FunctionView → NameView → List (Option ℕ) → TableView → Named
base u f (Local n) locals b = local u f n locals b
base u f Outcome locals b = local u f (length f.locals) locals b
base u f (Static n) locals b = object_named n locals (with_pointed u (shared.Object n) b)
base u f (Literal n) locals b = literal_named n locals (with_pointed u (shared.Literal n) b)
base u f (Allocation target) locals b = named (length b.bases) (allocated u target b) locals
