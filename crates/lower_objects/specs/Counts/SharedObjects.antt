-- What the initializers of objects of static storage name.
use Rattle.std.specs.Prelude.{ℕ, zero, suc, ◌+◌, ◌-◌, ◌^◌, Bool, true, false, cond, List, [], ◌∷◌, ◌++◌, length, reverse, replicate, slice_get, slice_set, Option, Some, None}
use Rattle.c_layout.specs.Types.{Ty, Int, Array}
use Rattle.c_layout.specs.StructViews.{StructView}
use Rattle.c_layout.specs.CheckedUnits.{StaticStoreView, SetValue, SetText, StaticView, LiteralView, UnitView}
use Rattle.c_layout.specs.declared.checked_tree.checked_units.StaticBase.{StaticBase}
use Rattle.c_layout.specs.declared.checked_tree.checked_units.StaticBase.TheVariants as shared
use Rattle.c_layout.specs.declared.checked_tree.checked_units.StaticValue.{StaticValue}
use Rattle.c_layout.specs.declared.checked_tree.checked_units.StaticValue.TheVariants as value
use Rattle.lower_templates.specs.Worklist.Pieces.{NameView, Local, Outcome, Static, Literal, Allocation, TemplateView}
use Rattle.lower_objects.specs.declared.counts.object_counts.BaseCount.{BaseCount}
use Rattle.lower_objects.specs.declared.counts.shared_objects.SharedObjects.{SharedObjects}
use Rattle.lower_objects.specs.Counts.BaseCounts.{no_bases, both, object_base, is_new}

-- the type of a literal: an array of plain char with room for the closing zero
abbrev pub literal_type : Bool → ℕ → Ty
literal_type is_signed length = Array (Int (record { bytes = 1; signed = is_signed; rank = 1 })) (length + 1)

abbrev pub value_base : StaticValue → Option StaticBase
value_base (value.Address base at low high) = Some base
value_base (value.Number n kind) = None
value_base value.Null = None

-- what a store of an initializer points into
abbrev pub pointed_into : StaticStoreView → Option StaticBase
pointed_into (SetValue offset v) = value_base v
pointed_into (SetText offset room text) = None

abbrev pub before_all : Option StaticBase → List StaticBase → List StaticBase
before_all None bases = bases
before_all (Some base) bases = base ∷ bases

-- what the stores of an initializer point into, in order
abbrev pub all_pointed : List StaticStoreView → List StaticBase
all_pointed [] = []
all_pointed (s ∷ ss) = before_all (pointed_into s) (all_pointed ss)

-- which objects of static storage and which literals were counted, and their bases so far
pub record Sharing : Type 0 where
  pub objects : List Bool
  pub literals : List Bool
  pub count : BaseCount

abbrev pub sharing : SharedObjects → Sharing
sharing s = record { objects = s.objects.items; literals = s.literals.items; count = s.count }

abbrev pub with_more : BaseCount → Sharing → Sharing
with_more more s = record { objects = s.objects; literals = s.literals; count = both s.count more }

abbrev pub object_count : List StructView → Option StaticView → BaseCount
object_count structs None = no_bases
object_count structs (Some o) = object_base structs o.ctype

abbrev pub literal_count : UnitView → Option LiteralView → BaseCount
literal_count u None = no_bases
literal_count u (Some l) = object_base u.structs (literal_type u.model.char_signed (length l.bytes))

abbrev pub object_counted : UnitView → ℕ → Sharing → Sharing
object_counted u n s = record { objects = slice_set s.objects n true; literals = s.literals; count = both s.count (object_count u.structs (slice_get u.objects n)) }

abbrev pub literal_counted : UnitView → ℕ → Sharing → Sharing
literal_counted u n s = record { objects = s.objects; literals = slice_set s.literals n true; count = both s.count (literal_count u (slice_get u.literals n)) }

-- each is counted once
abbrev pub visited : UnitView → StaticBase → Sharing → Sharing
visited u (shared.Object n) s = cond (is_new s.objects n) (object_counted u n s) s
visited u (shared.Literal n) s = cond (is_new s.literals n) (literal_counted u n s) s

abbrev pub pointed_from : Option StaticView → List StaticBase
pointed_from None = []
pointed_from (Some o) = all_pointed o.stores

-- what an object that is counted names, the last one first
abbrev pub brought : UnitView → StaticBase → Sharing → List StaticBase
brought u (shared.Object n) s = cond (is_new s.objects n) (reverse (pointed_from (slice_get u.objects n))) []
brought u (shared.Literal n) s = []

-- all that is to come, the first one first, in so many turns
abbrev pub all_visited : UnitView → ℕ → List StaticBase → Sharing → Sharing
all_visited u zero stack s = s
all_visited u (suc n) [] s = s
all_visited u (suc n) (x ∷ xs) s = all_visited u n (brought u x s ++ xs) (visited u x s)

abbrev pub name_base : NameView → Option StaticBase
name_base (Local n) = None
name_base Outcome = None
name_base (Static n) = Some (shared.Object n)
name_base (Literal n) = Some (shared.Literal n)
name_base (Allocation target) = None

abbrev pub bases_named : List NameView → List StaticBase
bases_named [] = []
bases_named (n ∷ ns) = before_all (name_base n) (bases_named ns)

abbrev pub template_bases : Option TemplateView → List StaticBase
template_bases None = []
template_bases (Some t) = bases_named t.names

abbrev pub all_bases : List (Option TemplateView) → List StaticBase
all_bases [] = []
all_bases (t ∷ ts) = template_bases t ++ all_bases ts

abbrev pub none_visited : UnitView → Sharing
none_visited u = record { objects = replicate (length u.objects) false; literals = replicate (length u.literals) false; count = no_bases }

-- the bases of the objects of static storage and the literals that templates name, and of all that their
-- initializers name
abbrev pub shared_bases : UnitView → List (Option TemplateView) → BaseCount
shared_bases u ts = (all_visited u (2 ^ 64 - 1) (reverse (all_bases ts)) (none_visited u)).count
