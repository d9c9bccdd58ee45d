-- Steps that make pointers, move them and compare them: the row after each, None where no run goes on.
use Rattle.std.specs.Prelude.{ℕ, ◌==◌, pos, Bool, true, false, cond, not, ◌&&◌, ◌||◌, nat_le, Option, Some, None, List, slice_get}
use Rattle.cc_base.specs.Lattices.{LatticeOf}
use Rattle.cc_base.specs.IntegerDomains.{IntegersOf, of_range}
use Rattle.cc_base.specs.NumberRanges.{range_difference}
use Rattle.cc_base.specs.declared.integer_operators.Rel.{Rel}
use Rattle.cc_base.specs.declared.integer_operators.Rel.TheVariants.{Lt, Le, Gt, Ge, Eq, Ne}
use Rattle.cc_base.specs.declared.integer_operators.Tri.{Tri}
use Rattle.cc_base.specs.declared.integer_operators.Tri.TheVariants.{Never}
use Rattle.c_layout.specs.declared.shapes.BaseInfo.{BaseInfo}
use Rattle.c_layout.specs.declared.leaf_lists.Class.TheVariants as class
use Rattle.cfg.specs.declared.programs.Flow.{Flow}
use Rattle.cfg.specs.declared.machine_instructions.Amount.{Amount}
use Rattle.pointer_domain.specs.declared.pointer_sets.Pointers.{Pointers}
use Rattle.pointer_domain.specs.BaseSets.{bases_empty}
use Rattle.pointer_domain.specs.PointerTables.{longest, shifted, narrowed, pointers_equal, pointers_compare, pointers_difference}
use Rattle.value_domain.specs.declared.values.values.Value.{Value}
use Rattle.value_domain.specs.declared.values.row_cells.Cell.{Cell}
use Rattle.value_domain.specs.Values.LabelSets.{no_labels}
use Rattle.value_domain.specs.Values.ValueTables.{number_value}
use Rattle.store_cells.specs.NearValues.{near_number}
use Rattle.store_cells.specs.ScalarTypes.{kind_of}
use Rattle.store.specs.LiveBases.{only_base, single_bases}
use Rattle.transfer_checks.specs.declared.touches.Touched.{Touched}
use Rattle.transfer_checks.specs.declared.pointer_checks.Compared.{Compared}
use Rattle.transfer_checks.specs.declared.violation_sets.Violations.{Violations}
use Rattle.transfer_checks.specs.ViolationSets.{no_violations}
use Rattle.transfer_checks.specs.Touches.{touch}
use Rattle.transfer_checks.specs.PointerChecks.{shift_violations, check_same_instance}
use Rattle.transfer_checks.specs.Temporaries.{temp_value, amount_value}
use Rattle.transfer_instructions.specs.Values.ResultTemps.{negated, put_number, put_truth, put_pointer}

-- an offset or a size of some object
abbrev pub is_short : ℕ → Bool
is_short n = nat_le n longest

module _ {I : Type 0} where
  -- ---- addresses

  -- the byte at an offset of a base of a size
  abbrev pub address_of : IntegersOf I → ℕ → ℕ → ℕ → Pointers I
  address_of n base offset size = record { bases = only_base base; lo = n.one (pos 0); rel = n.one (pos offset); len = n.one (pos size); part = false; null = false; ended = false }

  abbrev pub address_in : LatticeOf I → IntegersOf I → Flow → List (Cell I) → ℕ → ℕ → ℕ → Option BaseInfo → Option (List (Cell I))
  address_in l n flow row to base offset None = None
  address_in l n flow row to base offset (Some info) = put_pointer l flow row to (address_of n base offset info.size)

  unfoldable pub address_step : LatticeOf I → IntegersOf I → Flow → List (Cell I) → ℕ → ℕ → ℕ → Option (List (Cell I))
  address_step l n flow row to base offset = address_in l n flow row to base offset (slice_get flow.bases.items base)

  -- ---- parts

  abbrev pub touch_part : LatticeOf I → IntegersOf I → Flow → List (Cell I) → ℕ → ℕ → ℕ → Touched I
  touch_part l n flow row pointer offset size = touch l n flow.bases.items row (temp_value l n flow row pointer).pointer offset size false

  abbrev pub narrow_violations : LatticeOf I → IntegersOf I → Flow → List (Cell I) → ℕ → ℕ → ℕ → Violations
  narrow_violations l n flow row pointer offset size =
      cond (is_short offset) (cond (is_short size) (touch_part l n flow row pointer offset size).violations no_violations) no_violations

  -- of the pointers that the touch of the part left
  unfoldable pub narrow_touched : LatticeOf I → IntegersOf I → Flow → List (Cell I) → ℕ → Pointers I → ℕ → ℕ → Option (List (Cell I))
  narrow_touched l n flow row to rest offset size = put_pointer l flow row to (narrowed l n rest offset size)

  unfoldable pub narrow_step : LatticeOf I → IntegersOf I → Flow → List (Cell I) → ℕ → ℕ → ℕ → ℕ → Option (List (Cell I))
  narrow_step l n flow row to pointer offset size =
      cond (is_short offset) (cond (is_short size) (narrow_touched l n flow row to (touch_part l n flow row pointer offset size).rest offset size) None) None

  -- ---- moves

  -- the numbers from 0 backwards
  abbrev pub backwards_by : LatticeOf I → IntegersOf I → I → I
  backwards_by l n x = near_number l n (of_range l n (range_difference (Some (pos 0, pos 0)) (n.bounds x)))

  -- the number by which a pointer is moved, with its sign
  abbrev pub signed_amount : LatticeOf I → IntegersOf I → I → Bool → I
  signed_amount l n x backwards = cond backwards (backwards_by l n x) x

  abbrev pub shift_checks : LatticeOf I → IntegersOf I → Flow → List (Cell I) → ℕ → Amount → ℕ → Bool → Violations
  shift_checks l n flow row pointer amount scale backwards =
      cond (is_short scale)
      (shift_violations n (temp_value l n flow row pointer).pointer (signed_amount l n (amount_value l n flow row amount).num backwards) (amount_value l n flow row amount).labels scale)
      no_violations

  -- a moved pointer, where it is somewhere
  unfoldable pub put_moved : LatticeOf I → Flow → List (Cell I) → ℕ → Pointers I → Option (List (Cell I))
  put_moved l flow row to p = cond (bases_empty p.bases) None (put_pointer l flow row to p)

  unfoldable pub shift_by : LatticeOf I → IntegersOf I → Flow → List (Cell I) → ℕ → Pointers I → I → ℕ → Option (List (Cell I))
  shift_by l n flow row to p by scale = put_moved l flow row to (shifted l n p by scale)

  unfoldable pub shift_step : LatticeOf I → IntegersOf I → Flow → List (Cell I) → ℕ → ℕ → Amount → ℕ → Bool → Option (List (Cell I))
  shift_step l n flow row to pointer amount scale backwards =
      cond (is_short scale) (shift_by l n flow row to (temp_value l n flow row pointer).pointer (signed_amount l n (amount_value l n flow row amount).num backwards) scale) None

  -- ---- differences and relations

  abbrev pub compare_both : Flow → Pointers I → Pointers I → Compared
  compare_both flow p q = check_same_instance p q (single_bases flow.bases.items)

  abbrev pub comparison_violations : LatticeOf I → IntegersOf I → Flow → List (Cell I) → ℕ → ℕ → Violations
  comparison_violations l n flow row left right = (compare_both flow (temp_value l n flow row left).pointer (temp_value l n flow row right).pointer).violations

  abbrev pub equality_violations : LatticeOf I → IntegersOf I → Flow → List (Cell I) → ℕ → ℕ → Violations
  equality_violations l n flow row left right = record no_violations { nullref = (temp_value l n flow row left).pointer.ended || (temp_value l n flow row right).pointer.ended }

  abbrev pub has_difference : Flow → Pointers I → Pointers I → ℕ → Bool
  has_difference flow p q size = not (size == 0) && (compare_both flow p q).goes_on

  -- in elements of a size, a number of ptrdiff_t
  abbrev pub difference_of : LatticeOf I → IntegersOf I → Flow → Pointers I → Pointers I → ℕ → Value I
  difference_of l n flow p q size = number_value l (pointers_difference l n p q size (kind_of flow.model class.Pointer true)) no_labels

  abbrev pub difference_between : LatticeOf I → IntegersOf I → Flow → List (Cell I) → ℕ → Pointers I → Pointers I → ℕ → Option (List (Cell I))
  difference_between l n flow row to p q size = cond (has_difference flow p q size) (put_number n flow row to (difference_of l n flow p q size)) None

  unfoldable pub difference_step : LatticeOf I → IntegersOf I → Flow → List (Cell I) → ℕ → ℕ → ℕ → ℕ → Option (List (Cell I))
  difference_step l n flow row to left right size = difference_between l n flow row to (temp_value l n flow row left).pointer (temp_value l n flow row right).pointer size

  abbrev pub equality : IntegersOf I → Flow → Pointers I → Pointers I → Tri
  equality n flow p q = pointers_equal n p q (single_bases flow.bases.items)

  abbrev pub ordered : LatticeOf I → IntegersOf I → Flow → Rel → Pointers I → Pointers I → Tri
  ordered l n flow rel p q = cond (compare_both flow p q).goes_on (pointers_compare l n rel p q) Never

  -- which truth values a relation can have
  abbrev pub relation : LatticeOf I → IntegersOf I → Flow → Rel → Pointers I → Pointers I → Tri
  relation l n flow Eq p q = equality n flow p q
  relation l n flow Ne p q = negated (equality n flow p q)
  relation l n flow Lt p q = ordered l n flow Lt p q
  relation l n flow Le p q = ordered l n flow Le p q
  relation l n flow Gt p q = ordered l n flow Gt p q
  relation l n flow Ge p q = ordered l n flow Ge p q

  unfoldable pub relation_step : LatticeOf I → IntegersOf I → Flow → List (Cell I) → ℕ → Rel → ℕ → ℕ → Option (List (Cell I))
  relation_step l n flow row to rel left right = put_truth l n flow row to (relation l n flow rel (temp_value l n flow row left).pointer (temp_value l n flow row right).pointer)
