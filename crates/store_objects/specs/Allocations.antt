-- Allocation: what a call makes of the two bases of its site.
use Rattle.std.specs.Prelude.{ℕ, ℤ, pos, int_le, Bool, true, false, cond, ◌&&◌, ◌||◌, nat_lt, Option, Some, None, List, length, map, slice_get, is_some}
use Rattle.cc_base.specs.Lattices.{LatticeOf}
use Rattle.cc_base.specs.IntegerDomains.{IntegersOf}
use Rattle.cc_base.specs.NumberRanges.{Range}
use Rattle.c_layout.specs.declared.data_model.Model.{Model}
use Rattle.c_layout.specs.declared.leaf_lists.Leaf.{Leaf}
use Rattle.c_layout.specs.declared.shapes.BaseInfo.{BaseInfo}
use Rattle.pointer_domain.specs.declared.base_sets.Bases.{Bases}
use Rattle.pointer_domain.specs.declared.pointer_sets.Pointers.{Pointers}
use Rattle.pointer_domain.specs.BaseSets.{no_base, bases_with}
use Rattle.pointer_domain.specs.PointerTables as pointers
use Rattle.value_domain.specs.declared.strings.first_zeros.FirstZero.{FirstZero}
use Rattle.value_domain.specs.Strings.FirstZeros.{zero_lattice}
use Rattle.value_domain.specs.declared.values.values.Value as values
use Rattle.value_domain.specs.Values.AllocStates.{state_lattice}
use Rattle.value_domain.specs.declared.values.row_cells.Cell.{Cell}
use Rattle.value_domain.specs.declared.values.row_cells.Cell.TheVariants.{Nothing, Value, First, State, Mixed}
use Rattle.value_domain.specs.Values.Values.{value_lattice}
use Rattle.value_domain.specs.Values.ValueTables.{blank_value}
use Rattle.store_objects.specs.declared.allocation.Fresh.{Fresh}
use Rattle.store_objects.specs.declared.allocation.Fresh.TheVariants.{Blank, Zero, Old}
use Rattle.store_objects.specs.declared.allocation.Site.{Site}
use Rattle.store_objects.specs.declared.allocation.Target.{Target}
use Rattle.store_cells.specs.ClassNumbers.{class_number, class_at, same_class}
use Rattle.store_cells.specs.Walks.{walk, turns}
use Rattle.store_cells.specs.RowPositions.{leaf_position, class_position, zero_position, state_position, value_count, value_at, zero_at, state_at, put_value, put_state, join_value, join_zero}
use Rattle.store_cells.specs.CellReads.{as_stored}
use Rattle.store_cells.specs.ByteWrites.{null_pointer}
use Rattle.store_cells.specs.FirstZeroWrites.{any_zero, no_zero, zero_first, set_zeros}
use Rattle.store_objects.specs.LiveBases.{most_bases, has_base}
use Rattle.store_objects.specs.ObjectLives.{set_values, zero_value}
use Rattle.store_objects.specs.Freeing.{free_bases}

-- both numbers are those of bases that sets can hold
abbrev pub is_named : Site → Bool
is_named site = nat_lt site.newest most_bases && nat_lt site.older most_bases

abbrev pub leaf_target : Leaf → Target
leaf_target leaf = record { class = leaf.class; signed = leaf.signed }

abbrev pub class_target : ℕ → Target
class_target class = record { class = class_at class; signed = true }

abbrev pub site_of : ℕ → ℕ → Site
site_of newest older = record { newest = newest; older = older }

module _ {I : Type 0} where
  -- ---- the newest base becomes part of the older one

  abbrev pub renamed : Site → Pointers I → Pointers I
  renamed site p = cond (is_named site) (pointers.renamed p site.newest site.older) p

  abbrev pub renamed_cell : Site → Cell I → Cell I
  renamed_cell site Nothing = Nothing
  renamed_cell site (Value v) = Value (record v { pointer = renamed site v.pointer })
  renamed_cell site (First f) = First f
  renamed_cell site (State s) = State s
  renamed_cell site Mixed = Mixed

  abbrev pub renamed_fresh : Site → Fresh I → Fresh I
  renamed_fresh site Blank = Blank
  renamed_fresh site Zero = Zero
  renamed_fresh site (Old p) = Old (renamed site p)

  unfoldable pub join_cell : LatticeOf I → IntegersOf I → BaseInfo → BaseInfo → ℕ → List (Cell I) → List (Cell I)
  join_cell l n new old at row = join_value l n row (leaf_position old at) (value_at l n row (leaf_position new at))

  unfoldable pub join_values : LatticeOf I → IntegersOf I → BaseInfo → BaseInfo → List (Cell I) → List (Cell I)
  join_values l n new old row = turns (join_cell l n new old) (value_count new) row

  unfoldable pub join_part : LatticeOf I → IntegersOf I → BaseInfo → BaseInfo → ℕ → List (Cell I) → List (Cell I)
  join_part l n new old at row = join_zero l n row (zero_position old at) (zero_at l n row (zero_position new at))

  unfoldable pub join_zeros : LatticeOf I → IntegersOf I → BaseInfo → BaseInfo → List (Cell I) → List (Cell I)
  join_zeros l n new old row = turns (join_part l n new old) (length new.shape.zeros) row

  unfoldable pub join_state : LatticeOf I → IntegersOf I → BaseInfo → BaseInfo → List (Cell I) → List (Cell I)
  join_state l n new old row = put_state row (state_position old) ((state_lattice l).join (state_at l n row (state_position old)) (state_at l n row (state_position new)))

  unfoldable pub join_base : LatticeOf I → IntegersOf I → BaseInfo → BaseInfo → List (Cell I) → List (Cell I)
  join_base l n new old row = join_state l n new old (join_zeros l n new old (join_values l n new old row))

  -- ---- what the bytes of the fresh instance are

  -- a value in the type of the target
  abbrev pub in_target : IntegersOf I → Model → values.Value I → Target → values.Value I
  in_target n m v target = as_stored n m v target.class target.signed

  unfoldable pub class_cell : LatticeOf I → IntegersOf I → Model → List (Cell I) → Target → BaseInfo → values.Value I
  class_cell l n m row target base = cond base.shape.heap (in_target n m (value_at l n row (class_position base (class_number target.class))) target) ((value_lattice l).least)

  abbrev pub joined_if : LatticeOf I → Bool → values.Value I → values.Value I → values.Value I
  joined_if l wanted found v = cond wanted ((value_lattice l).join found v) found

  abbrev pub class_leaf_of : LatticeOf I → IntegersOf I → Model → Target → Leaf → values.Value I → values.Value I → values.Value I
  class_leaf_of l n m target leaf v found = joined_if l (same_class leaf.class target.class) found (in_target n m v target)

  abbrev pub class_leaf : LatticeOf I → IntegersOf I → Model → List (Cell I) → Target → BaseInfo → Leaf → ℕ → values.Value I → values.Value I
  class_leaf l n m row target base leaf at found = class_leaf_of l n m target leaf (value_at l n row (leaf_position base at)) found

  -- the cells of the target's class of a base
  unfoldable pub class_values : LatticeOf I → IntegersOf I → Model → List (Cell I) → Target → BaseInfo → values.Value I
  class_values l n m row target base = walk (class_leaf l n m row target base) 0 base.shape.cells (class_cell l n m row target base)

  abbrev pub old_more : LatticeOf I → IntegersOf I → Model → List (Cell I) → Bases → Target → BaseInfo → ℕ → values.Value I → values.Value I
  old_more l n m row set target base number found = joined_if l (has_base set number) found (class_values l n m row target base)

  -- the cells of the target's class of the bases of a set
  unfoldable pub old_value : LatticeOf I → IntegersOf I → Model → List BaseInfo → List (Cell I) → Bases → Target → values.Value I
  old_value l n m bases row set target = walk (old_more l n m row set target) 0 bases ((value_lattice l).least)

  unfoldable pub fresh_value : LatticeOf I → IntegersOf I → Model → List BaseInfo → Fresh I → Target → List (Cell I) → values.Value I
  fresh_value l n m bases Blank target row = blank_value l
  fresh_value l n m bases Zero target row = zero_value l n target.class
  fresh_value l n m bases (Old p) target row = (value_lattice l).join (blank_value l) (old_value l n m bases row p.bases target)

  unfoldable pub fresh_cell : LatticeOf I → IntegersOf I → Model → List BaseInfo → Fresh I → Target → ℕ → List (Cell I) → List (Cell I)
  fresh_cell l n m bases fresh target position row = put_value row position (fresh_value l n m bases fresh target row)

  abbrev pub fresh_leaf : LatticeOf I → IntegersOf I → Model → List BaseInfo → BaseInfo → Fresh I → Leaf → ℕ → List (Cell I) → List (Cell I)
  fresh_leaf l n m bases new fresh leaf at row = fresh_cell l n m bases fresh (leaf_target leaf) (leaf_position new at) row

  unfoldable pub fresh_leaves : LatticeOf I → IntegersOf I → Model → List BaseInfo → BaseInfo → Fresh I → List (Cell I) → List (Cell I)
  fresh_leaves l n m bases new fresh row = walk (fresh_leaf l n m bases new fresh) 0 new.shape.cells row

  abbrev pub fresh_class : LatticeOf I → IntegersOf I → Model → List BaseInfo → BaseInfo → Fresh I → ℕ → List (Cell I) → List (Cell I)
  fresh_class l n m bases new fresh class row = fresh_cell l n m bases fresh (class_target class) (class_position new class) row

  unfoldable pub fresh_classes : LatticeOf I → IntegersOf I → Model → List BaseInfo → BaseInfo → Fresh I → List (Cell I) → List (Cell I)
  fresh_classes l n m bases new fresh row = turns (fresh_class l n m bases new fresh) 6 row

  unfoldable pub fresh_values : LatticeOf I → IntegersOf I → Model → List BaseInfo → BaseInfo → Fresh I → List (Cell I) → List (Cell I)
  fresh_values l n m bases new fresh row = fresh_classes l n m bases new fresh (fresh_leaves l n m bases new fresh row)

  abbrev pub zero_if_any : LatticeOf I → IntegersOf I → ℤ → FirstZero I
  zero_if_any l n least = cond (int_le (pos 1) least) (zero_first n) (any_zero l n)

  -- the first zero of a fresh instance of at least so many bytes
  abbrev pub fresh_zero : LatticeOf I → IntegersOf I → Fresh I → ℤ → FirstZero I
  fresh_zero l n Blank least = no_zero n
  fresh_zero l n Zero least = zero_if_any l n least
  fresh_zero l n (Old p) least = any_zero l n

  -- ---- the newest base

  -- one instance of a size
  unfoldable pub make_instance : LatticeOf I → IntegersOf I → Model → List BaseInfo → BaseInfo → I → Fresh I → ℤ → List (Cell I) → List (Cell I)
  make_instance l n m bases new size fresh least row = put_state (set_zeros new (fresh_zero l n fresh least) (fresh_values l n m bases new fresh row)) (state_position new) (record { size = size; live = true; freed = false })

  -- no instance
  unfoldable pub make_nothing : LatticeOf I → BaseInfo → List (Cell I) → List (Cell I)
  make_nothing l new row = put_state (set_zeros new ((zero_lattice l).least) (set_values new ((value_lattice l).least) row)) (state_position new) ((state_lattice l).least)

  abbrev pub make_of : LatticeOf I → IntegersOf I → Model → List BaseInfo → BaseInfo → I → Fresh I → Range → List (Cell I) → List (Cell I)
  make_of l n m bases new size fresh None row = make_nothing l new row
  make_of l n m bases new size fresh (Some p) row = make_instance l n m bases new size fresh p.0 row

  -- a fresh instance, or none where no size is left
  unfoldable pub make_fresh : LatticeOf I → IntegersOf I → Model → List BaseInfo → BaseInfo → I → Fresh I → List (Cell I) → List (Cell I)
  make_fresh l n m bases new size fresh row = make_of l n m bases new size fresh (n.bounds size) row

  -- the bases of the old pointer may be freed
  unfoldable pub free_old : LatticeOf I → IntegersOf I → List BaseInfo → Fresh I → List (Cell I) → List (Cell I)
  free_old l n bases Blank row = row
  free_old l n bases Zero row = row
  free_old l n bases (Old p) row = free_bases l n bases p.bases false row

  -- ---- the call

  -- the fresh instance in place of the newest one, and the old bases perhaps freed; `fresh` has new names
  unfoldable pub replaced : LatticeOf I → IntegersOf I → Model → List BaseInfo → BaseInfo → I → Fresh I → List (Cell I) → List (Cell I)
  replaced l n m bases new size fresh row = free_old l n bases fresh (make_fresh l n m bases new size fresh row)

  unfoldable pub renew_site : LatticeOf I → IntegersOf I → Model → List BaseInfo → Site → I → Fresh I → BaseInfo → BaseInfo → List (Cell I) → List (Cell I)
  renew_site l n m bases site size fresh new old row = replaced l n m bases new size (renamed_fresh site fresh) (join_base l n new old (map (renamed_cell site) row))

  abbrev pub renew_found : LatticeOf I → IntegersOf I → Model → List BaseInfo → Site → I → Fresh I → Option BaseInfo → Option BaseInfo → List (Cell I) → List (Cell I)
  renew_found l n m bases site size fresh None old row = row
  renew_found l n m bases site size fresh (Some new) None row = row
  renew_found l n m bases site size fresh (Some new) (Some old) row = renew_site l n m bases site size fresh new old row

  -- the row after an allocation at a site
  unfoldable pub renew : LatticeOf I → IntegersOf I → Model → List BaseInfo → ℕ → ℕ → I → Fresh I → List (Cell I) → List (Cell I)
  renew l n m bases newest older size fresh row = renew_found l n m bases (site_of newest older) size fresh (slice_get bases newest) (slice_get bases older) row

  abbrev pub is_fresh : IntegersOf I → Site → I → Bool
  is_fresh n site size = is_named site && is_some (n.bounds size)

  -- a pointer to the newest base, or null; null alone where no size is left
  unfoldable pub fresh_pointer : LatticeOf I → IntegersOf I → Site → I → Pointers I
  fresh_pointer l n site size = cond (is_fresh n site size)
      (record { bases = bases_with no_base site.newest; lo = n.one (pos 0); rel = n.one (pos 0); len = size; part = false; null = true; ended = false }) (null_pointer l)

  unfoldable pub renewed_pointer : LatticeOf I → IntegersOf I → List BaseInfo → Site → I → Pointers I
  renewed_pointer l n bases site size = cond (is_some (slice_get bases site.newest) && is_some (slice_get bases site.older)) (fresh_pointer l n site size) (null_pointer l)
