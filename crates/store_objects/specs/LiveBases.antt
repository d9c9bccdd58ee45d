-- Which bases may be live, freed or one instance alone.
use Rattle.std.specs.Prelude.{ℕ, Bool, true, false, cond, not, ◌&&◌, ◌||◌, ◌==◌, nat_lt, List}
use Rattle.cc_base.specs.Lattices.{LatticeOf}
use Rattle.cc_base.specs.IntegerDomains.{IntegersOf}
use Rattle.c_layout.specs.declared.shapes.BaseInfo.{BaseInfo}
use Rattle.c_layout.specs.declared.shapes.BaseKind.{BaseKind}
use Rattle.c_layout.specs.declared.shapes.BaseKind.TheVariants.{Static, Automatic, Literal, Newest, Older}
use Rattle.pointer_domain.specs.declared.base_sets.Bases.{Bases}
use Rattle.pointer_domain.specs.BaseSets.{no_base, bases_has, bases_with, bases_union, bases_count, bases_within}
use Rattle.value_domain.specs.declared.values.row_cells.Cell.{Cell}
use Rattle.store_cells.specs.RowPositions.{state_at, state_position}
use Rattle.store_cells.specs.Walks.{walk}

-- one more than the greatest base number
abbrev pub most_bases : ℕ
most_bases = 1016

-- the base stands for at most one instance at a time
abbrev pub is_single_kind : BaseKind → Bool
is_single_kind Static = true
is_single_kind Automatic = true
is_single_kind Literal = true
is_single_kind Newest = true
is_single_kind Older = false

abbrev pub is_literal_kind : BaseKind → Bool
is_literal_kind Static = false
is_literal_kind Automatic = false
is_literal_kind Literal = true
is_literal_kind Newest = false
is_literal_kind Older = false

abbrev pub only_base : ℕ → Bases
only_base number = cond (nat_lt number most_bases) (bases_with no_base number) no_base

abbrev pub has_base : Bases → ℕ → Bool
has_base set number = nat_lt number most_bases && bases_has set number

-- with the base of a number, if it is wanted
abbrev pub with_base_if : Bool → ℕ → Bases → Bases
with_base_if wanted number found = cond wanted (bases_union found (only_base number)) found

abbrev pub add_single : BaseInfo → ℕ → Bases → Bases
add_single base number found = with_base_if (is_single_kind base.kind) number found

abbrev pub single_bases : List BaseInfo → Bases
single_bases bases = walk add_single 0 bases no_base

abbrev pub is_writable_in : Bases → BaseInfo → ℕ → Bool
is_writable_in set base number = has_base set number && not (is_literal_kind base.kind)

abbrev pub add_writable : Bases → BaseInfo → ℕ → Bases → Bases
add_writable set base number found = with_base_if (is_writable_in set base number) number found

-- the bases of the set that are no literals
abbrev pub writable_of : List BaseInfo → Bases → Bases
writable_of bases set = walk (add_writable set) 0 bases no_base

-- the set has one base, which stands for at most one instance
abbrev pub is_one_instance : List BaseInfo → Bases → Bool
is_one_instance bases set = (bases_count set == 1) && bases_within set (single_bases bases)

module _ {I : Type 0} where
  -- an object or a literal always, a heap base by its state
  abbrev pub may_be_live : LatticeOf I → IntegersOf I → BaseInfo → List (Cell I) → Bool
  may_be_live l n base row = not base.shape.heap || (state_at l n row (state_position base)).live

  abbrev pub may_be_freed : LatticeOf I → IntegersOf I → BaseInfo → List (Cell I) → Bool
  may_be_freed l n base row = base.shape.heap && (state_at l n row (state_position base)).freed

  abbrev pub is_live_in : LatticeOf I → IntegersOf I → List (Cell I) → Bases → BaseInfo → ℕ → Bool
  is_live_in l n row set base number = has_base set number && may_be_live l n base row

  abbrev pub add_live : LatticeOf I → IntegersOf I → List (Cell I) → Bases → BaseInfo → ℕ → Bases → Bases
  add_live l n row set base number found = with_base_if (is_live_in l n row set base number) number found

  -- the bases of the set that may be live
  abbrev pub live_of : LatticeOf I → IntegersOf I → List BaseInfo → List (Cell I) → Bases → Bases
  live_of l n bases row set = walk (add_live l n row set) 0 bases no_base

  abbrev pub is_freed_or : LatticeOf I → IntegersOf I → List (Cell I) → Bases → BaseInfo → ℕ → Bool → Bool
  is_freed_or l n row set base number found = found || (has_base set number && may_be_freed l n base row)

  -- some base of the set may be freed
  abbrev pub any_freed : LatticeOf I → IntegersOf I → List BaseInfo → List (Cell I) → Bases → Bool
  any_freed l n bases row set = walk (is_freed_or l n row set) 0 bases false
