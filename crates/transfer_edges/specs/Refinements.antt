-- What a test on an edge tells of the objects that it names.
use Rattle.std.specs.Prelude.{ℕ, ℤ, ◌==◌, Bool, true, false, cond, ◌&&◌, Option, Some, None, is_some, List, slice_get}
use Rattle.cc_base.specs.Lattices.{LatticeOf}
use Rattle.cc_base.specs.IntegerDomains.{IntegersOf, of_range}
use Rattle.cc_base.specs.NumberRanges.{Range, range_met}
use Rattle.cc_base.specs.IntegerTypes.{is_size}
use Rattle.cc_base.specs.declared.int_types.IntType.{IntType}
use Rattle.cc_base.specs.declared.integer_operators.Rel.{Rel}
use Rattle.cc_base.specs.declared.integer_operators.Rel.TheVariants.{Lt, Le, Gt, Ge, Eq, Ne}
use Rattle.c_layout.specs.declared.shapes.BaseInfo.{BaseInfo}
use Rattle.cfg.specs.declared.programs.Flow.{Flow}
use Rattle.cfg.specs.declared.flow_edges.Side.{Side}
use Rattle.cfg.specs.declared.flow_edges.Side.TheVariants.{Object, Number, Null}
use Rattle.cfg.specs.declared.flow_edges.Test.{Test}
use Rattle.pointer_domain.specs.declared.pointer_sets.Pointers.{Pointers}
use Rattle.pointer_domain.specs.BaseSets.{no_base}
use Rattle.value_domain.specs.declared.values.label_sets.Labels.{Labels}
use Rattle.value_domain.specs.declared.values.values.Value.{Value}
use Rattle.value_domain.specs.declared.values.row_cells.Cell.{Cell}
use Rattle.value_domain.specs.Values.Values.{value_lattice}
use Rattle.value_domain.specs.Values.LabelSets.{no_labels, is_unlabelled, dropped_labels}
use Rattle.value_domain.specs.Values.ValueTables.{number_value, range_fits}
use Rattle.store_cells.specs.NearValues.{near_value}
use Rattle.store_cells.specs.RowPositions.{leaf_position, value_at, put_value}

abbrev pub position_of : Option BaseInfo → Option ℕ
position_of None = None
position_of (Some base) = Some (leaf_position base 0)

-- the position of the scalar at the start of a base
abbrev pub object_position : Flow → ℕ → Option ℕ
object_position flow base = position_of (slice_get flow.bases.items base)

-- the relation seen from the other side
abbrev pub mirrored : Rel → Rel
mirrored Lt = Gt
mirrored Le = Ge
mirrored Gt = Lt
mirrored Ge = Le
mirrored Eq = Eq
mirrored Ne = Ne

-- some labels are dropped where the other side has none
abbrev pub refined_labels : Labels → Rel → Labels → IntType → Labels
refined_labels this rel other common = cond (is_unlabelled other) (dropped_labels rel this common) this

abbrev pub common_labels : Labels → Labels → Labels
common_labels x y = record { lo = x.lo && y.lo; hi = x.hi && y.hi; mutated = x.mutated && y.mutated }

abbrev pub is_object : ℕ → Side → Bool
is_object a (Object b kind) = a == b
is_object a (Number value) = false
is_object a Null = false

abbrev pub is_same_object : Side → Side → Bool
is_same_object (Object a kind) right = is_object a right
is_same_object (Number value) right = false
is_same_object Null right = false

abbrev pub if_null : ℕ → Side → Option ℕ
if_null base (Object b kind) = None
if_null base (Number value) = None
if_null base Null = Some base

-- the object of a test of a pointer against a null constant
abbrev pub named_by : Side → Side → Option ℕ
named_by (Object base kind) right = if_null base right
named_by (Number value) right = None
named_by Null right = None

module _ {I : Type 0} where
  -- a number, without labels
  abbrev pub number_side : LatticeOf I → IntegersOf I → ℤ → Value I
  number_side l n number = near_value l n (number_value l (n.one number) no_labels)

  abbrev pub value_of_object : LatticeOf I → IntegersOf I → List (Cell I) → Option ℕ → Value I
  value_of_object l n row None = near_value l n (value_lattice l).least
  value_of_object l n row (Some at) = value_at l n row at

  -- a side of a test: the value of an object, or a number
  abbrev pub side_value : LatticeOf I → IntegersOf I → Flow → List (Cell I) → Side → Value I
  side_value l n flow row (Number number) = number_side l n number
  side_value l n flow row Null = near_value l n (value_lattice l).least
  side_value l n flow row (Object base kind) = value_of_object l n row (object_position flow base)

  -- every number is one of the type
  abbrev pub fits : IntegersOf I → IntType → I → Bool
  fits n kind x = is_size kind.bytes && range_fits kind (n.bounds x)

  -- refined where no conversion to the common type changes a number
  abbrev pub refined_number : IntegersOf I → I → Rel → I → IntType → I
  refined_number n this rel other common = cond (fits n common this && fits n common other) (n.refine rel this other) this

  -- a side as it is known where the relation to the other one holds
  abbrev pub refined : IntegersOf I → Value I → Rel → Value I → IntType → Value I
  refined n this rel other common = record this { num = refined_number n this.num rel other.num common; labels = refined_labels this.labels rel other.labels common }

  abbrev pub met_number : LatticeOf I → IntegersOf I → I → Range → I
  met_number l n x None = l.least
  met_number l n x (Some p) = of_range l n (range_met (n.bounds x) p.0 p.1)

  -- the numbers of both values, and the labels of both
  abbrev pub met : LatticeOf I → IntegersOf I → Value I → Value I → Value I
  met l n x y = record x { num = met_number l n x.num (n.bounds y.num); labels = common_labels x.labels y.labels }

  unfoldable pub put_at : Option ℕ → Value I → List (Cell I) → List (Cell I)
  put_at None v row = row
  put_at (Some at) v row = put_value row at v

  -- what is known of an object is kept
  unfoldable pub put_side : Flow → Side → Value I → List (Cell I) → List (Cell I)
  put_side flow (Object base kind) v row = put_at (object_position flow base) v row
  put_side flow (Number number) v row = row
  put_side flow Null v row = row

  abbrev pub has_number : IntegersOf I → Value I → Bool
  has_number n v = is_some (n.bounds v.num)

  -- what is known of the object of both sides
  unfoldable pub refine_one : IntegersOf I → Flow → Side → Value I → List (Cell I) → Option (List (Cell I))
  refine_one n flow side v row = cond (has_number n v) (Some (put_side flow side v row)) None

  unfoldable pub refine_two : IntegersOf I → Flow → Test → Value I → Value I → List (Cell I) → Option (List (Cell I))
  refine_two n flow test v w row = cond (has_number n v && has_number n w) (Some (put_side flow test.right w (put_side flow test.left v row))) None

  -- what is known of the sides behind the test
  unfoldable pub refine_sides : LatticeOf I → IntegersOf I → Flow → Test → Value I → Value I → List (Cell I) → Option (List (Cell I))
  refine_sides l n flow test v w row = cond (is_same_object test.left test.right) (refine_one n flow test.left (met l n v w) row) (refine_two n flow test v w row)

  unfoldable pub refine_values : LatticeOf I → IntegersOf I → Flow → Test → IntType → Value I → Value I → List (Cell I) → Option (List (Cell I))
  refine_values l n flow test common v w row = refine_sides l n flow test (refined n v test.rel w common) (refined n w (mirrored test.rel) v common) row

  -- the row where a test on integers holds
  unfoldable pub refine_integers : LatticeOf I → IntegersOf I → Flow → Test → IntType → List (Cell I) → Option (List (Cell I))
  refine_integers l n flow test common row = refine_values l n flow test common (side_value l n flow row test.left) (side_value l n flow row test.right) row

  -- the pointers that are null
  abbrev pub only_null : LatticeOf I → Pointers I → Pointers I
  only_null l p = record { bases = no_base; lo = l.least; rel = l.least; len = l.least; part = false; null = p.null; ended = false }

  -- the pointers that are not
  abbrev pub not_null : Pointers I → Pointers I
  not_null p = record p { null = false }

  abbrev pub tested_pointer : LatticeOf I → Pointers I → Rel → Pointers I
  tested_pointer l p Eq = only_null l p
  tested_pointer l p Ne = not_null p
  tested_pointer l p Lt = p
  tested_pointer l p Le = p
  tested_pointer l p Gt = p
  tested_pointer l p Ge = p

  abbrev pub tested_value : LatticeOf I → Value I → Rel → Value I
  tested_value l v rel = record v { pointer = tested_pointer l v.pointer rel }

  abbrev pub refine_pointer_at : LatticeOf I → IntegersOf I → Option ℕ → Rel → List (Cell I) → List (Cell I)
  refine_pointer_at l n None rel row = row
  refine_pointer_at l n (Some at) rel row = put_value row at (tested_value l (value_at l n row at) rel)

  -- the row where a named pointer equals a null constant, or does not
  unfoldable pub refine_pointer : LatticeOf I → IntegersOf I → Flow → ℕ → Rel → List (Cell I) → List (Cell I)
  refine_pointer l n flow base rel row = refine_pointer_at l n (object_position flow base) rel row

  unfoldable pub refine_named : LatticeOf I → IntegersOf I → Flow → Option ℕ → Rel → List (Cell I) → List (Cell I)
  refine_named l n flow None rel row = row
  refine_named l n flow (Some base) rel row = refine_pointer l n flow base rel row

  abbrev pub refine_in : LatticeOf I → IntegersOf I → Flow → Test → Option IntType → List (Cell I) → Option (List (Cell I))
  refine_in l n flow test (Some common) row = refine_integers l n flow test common row
  refine_in l n flow test None row = Some (refine_named l n flow (named_by test.left test.right) test.rel row)

  -- the row where a test holds; None where no run has it
  unfoldable pub refine : LatticeOf I → IntegersOf I → Flow → Test → List (Cell I) → Option (List (Cell I))
  refine l n flow test row = refine_in l n flow test test.common row

  abbrev pub labelled_number : LatticeOf I → IntegersOf I → Value I → ℤ → I
  labelled_number l n v number = of_range l n (range_met (n.bounds v.num) number number)

  -- with these numbers, without labels
  abbrev pub with_number : Value I → I → Value I
  with_number v x = record v { num = x; labels = no_labels }

  unfoldable pub put_case : IntegersOf I → ℕ → Value I → I → List (Cell I) → Option (List (Cell I))
  put_case n at v x row = cond (is_some (n.bounds x)) (Some (put_value row at (with_number v x))) None

  unfoldable pub refine_value : LatticeOf I → IntegersOf I → ℕ → Value I → ℤ → List (Cell I) → Option (List (Cell I))
  refine_value l n at v number row = put_case n at v (labelled_number l n v number) row

  abbrev pub refine_case_at : LatticeOf I → IntegersOf I → Option ℕ → ℤ → List (Cell I) → Option (List (Cell I))
  refine_case_at l n None number row = Some row
  refine_case_at l n (Some at) number row = refine_value l n at (value_at l n row at) number row

  -- the row where the object that is switched on has a label's value
  unfoldable pub refine_case : LatticeOf I → IntegersOf I → Flow → ℕ → ℤ → List (Cell I) → Option (List (Cell I))
  refine_case l n flow base number row = refine_case_at l n (object_position flow base) number row
