-- Edges leave rows from a floor on.
use Rattle.std.specs.Prelude.{◌≡◌, ℕ, ◌&&◌, ℤ, Bool, true, false, cond, Option, Some, None, is_some, List, slice_get, refl}
use Rattle.std.proofs.lemmas.Bool.{and_parts, cond_both}
use Rattle.cc_base.specs.Lattices.{LatticeOf}
use Rattle.cc_base.specs.NumberRanges.{Range, range_met}
use Rattle.cc_base.specs.IntegerDomains.{IntegersOf}
use Rattle.cc_base.specs.declared.int_types.IntType.{IntType}
use Rattle.cc_base.specs.declared.integer_operators.Rel.{Rel}
use Rattle.cc_base.specs.declared.integer_operators.Rel.TheVariants.{Lt, Le, Gt, Ge, Eq, Ne}
use Rattle.cfg.specs.declared.programs.Flow.{Flow}
use Rattle.cfg.specs.declared.flow_edges.Edge.{Edge}
use Rattle.cfg.specs.declared.flow_edges.EdgeKind.{EdgeKind}
use Rattle.cfg.specs.declared.flow_edges.EdgeKind.TheVariants as kind
use Rattle.cfg.specs.declared.flow_edges.Side.{Side}
use Rattle.cfg.specs.declared.flow_edges.Side.TheVariants.{Object, Number, Null}
use Rattle.cfg.specs.declared.flow_edges.Test.{Test}
use Rattle.cfg.specs.WellFormed.{names_of, is_number, has_temp, fits_side, is_common, fits_test, fits_taken, fits_edge}
use Rattle.pointer_domain.specs.declared.pointer_sets.Pointers.{Pointers}
use Rattle.value_domain.specs.declared.values.values.Value as values
use Rattle.value_domain.specs.declared.values.row_cells.Cell.{Cell}
use Rattle.value_domain.specs.declared.values.row_cells.Cell.TheVariants.{Value}
use Rattle.value_domain.specs.Values.Values.{value_lattice}
use Rattle.value_domain.specs.Values.LabelSets.{no_labels}
use Rattle.value_domain.specs.Values.ValueTables.{number_value, pointer_value}
use Rattle.store_cells.specs.ByteWrites.{null_pointer}
use Rattle.store_cells.specs.RowPositions.{put_value, value_at}
use Rattle.transfer_system.specs.Refinements.{object_position, mirrored, is_same_object, value_of_object, side_value, fits, refined, met_number, met, has_number, labelled_number, with_number, named_by, tested_pointer, tested_value, put_at, put_side, refine_one, refine_two, refine_sides, refine_values, refine_integers, refine_pointer_at, refine_pointer, refine_named, refine_in, refine, put_case, refine_value, refine_case_at, refine_case}
use Rattle.transfer_system.specs.Edges.{deciding_temp, switched, is_other_than, line_call, put_kept, refine_if, kept_behind, behind_test, branch_edge, put_null, no_line_edge, refine_named_case, refine_object, case_edge, line_edge, follow, follow_if, edge}
use Rattle.row_bounds.specs.Stores.Floors.{IsFrom, IsPointerFrom, IsValueFrom, AreFrom, IsLeftFrom, KeepsFrom, LeavesFrom}
use Rattle.row_bounds.proofs.stores.Ranges.{FloorLaws, met_keeps, least_from, range_from, refined_from, low_from}
use Rattle.row_bounds.proofs.stores.Values.{no_pointer_from, least_value_from, near_value_from, number_from, pointer_from, at_from}
use Rattle.row_bounds.proofs.stores.Rows.{set_from, left_if}
use Rattle.row_bounds.proofs.steps.Steps.{number_low, put_keeps, line_keeps}

module _ {I : Type 0} {l : LatticeOf I} {n : IntegersOf I} {stands : I → ℤ → Type 0} {floor : ℤ} (k : FloorLaws l n stands floor) (flow : Flow) where
  left_either : (c : Bool) (x y : Option (List (Cell I))) → IsLeftFrom n floor x → IsLeftFrom n floor y → IsLeftFrom n floor (cond c x y)
  left_either true x y h j = h
  left_either false x y h j = j

  -- ---- what is known of the sides of a test

  object_from : (row : List (Cell I)) → AreFrom n floor row → (at : Option ℕ) → IsValueFrom n floor (value_of_object l n row at)
  object_from row j None = near_value_from k ((value_lattice l).least) (least_value_from k)
  object_from row j (Some at) = at_from k row at j

  side_from : (row : List (Cell I)) → AreFrom n floor row → (side : Side) → fits_side (names_of flow) side ≡ true → IsValueFrom n floor (side_value l n flow row side)
  side_from row j (Object base kind) h = object_from row j (object_position flow base)
  side_from row j (Number number) h = near_value_from k (number_value l (n.one number) no_labels) (number_from k (n.one number) (low_from k number (number_low number h)))
  side_from row j Null h = near_value_from k ((value_lattice l).least) (least_value_from k)

  refined_value_from : (this : values.Value I) (rel : Rel) (other : values.Value I) (common : IntType) → IsValueFrom n floor this → IsValueFrom n floor (refined n this rel other common)
  refined_value_from this rel other common h = (cond_both (fits n common this.num && fits n common other.num) (n.refine rel this.num other.num) this.num (λ x. IsFrom floor (n.bounds x)) (λ e. refined_from k floor rel this.num other.num h.0) (λ e. h.0), h.1)

  met_number_from : (x : I) → IsFrom floor (n.bounds x) → (r : Range) → IsFrom floor (n.bounds (met_number l n x r))
  met_number_from x h None = least_from k floor
  met_number_from x h (Some p) = range_from k floor (range_met (n.bounds x) p.0 p.1) (met_keeps floor (n.bounds x) p.0 p.1 h)

  met_from : (x y : values.Value I) → IsValueFrom n floor x → IsValueFrom n floor (met l n x y)
  met_from x y h = (met_number_from x.num h.0 (n.bounds y.num), h.1)

  at_put : (at : Option ℕ) (v : values.Value I) → IsValueFrom n floor v → KeepsFrom n floor (put_at at v)
  unfolding put_at
  at_put None v h row j = j
  at_put (Some at) v h row j = set_from n floor row at (Value v) h j

  side_put : (side : Side) (v : values.Value I) → IsValueFrom n floor v → KeepsFrom n floor (put_side flow side v)
  unfolding put_side
  side_put (Object base kind) v h row j = at_put (object_position flow base) v h row j
  side_put (Number number) v h row j = j
  side_put Null v h row j = j

  one_kept : (side : Side) (v : values.Value I) → IsValueFrom n floor v → LeavesFrom n floor (refine_one n flow side v)
  unfolding refine_one
  one_kept side v h row j = left_if n floor (has_number n v) (Some (put_side flow side v row)) (side_put side v h row j)

  two_kept : (test : Test) (v w : values.Value I) → IsValueFrom n floor v → IsValueFrom n floor w → LeavesFrom n floor (refine_two n flow test v w)
  unfolding refine_two
  two_kept test v w h q row j = left_if n floor (has_number n v && has_number n w) (Some (put_side flow test.right w (put_side flow test.left v row))) (side_put test.right w q (put_side flow test.left v row) (side_put test.left v h row j))

  sides_kept : (test : Test) (v w : values.Value I) → IsValueFrom n floor v → IsValueFrom n floor w → LeavesFrom n floor (refine_sides l n flow test v w)
  unfolding refine_sides
  sides_kept test v w h q row j = left_either (is_same_object test.left test.right) (refine_one n flow test.left (met l n v w) row) (refine_two n flow test v w row) (one_kept test.left (met l n v w) (met_from v w h) row j) (two_kept test v w h q row j)

  values_kept : (test : Test) (kind : IntType) (v w : values.Value I) → IsValueFrom n floor v → IsValueFrom n floor w → LeavesFrom n floor (refine_values l n flow test kind v w)
  unfolding refine_values
  values_kept test kind v w h q row j = sides_kept test (refined n v test.rel w kind) (refined n w (mirrored test.rel) v kind) (refined_value_from v test.rel w kind h) (refined_value_from w (mirrored test.rel) v kind q) row j

  integers_kept : (test : Test) → fits_test (names_of flow) (Some test) ≡ true → (kind : IntType) → LeavesFrom n floor (refine_integers l n flow test kind)
  unfolding refine_integers
  integers_kept test u kind row j =
      let a = and_parts (fits_side (names_of flow) test.left) (fits_side (names_of flow) test.right && is_common flow.model test.common) u in
      let b = and_parts (fits_side (names_of flow) test.right) (is_common flow.model test.common) a.1 in
      values_kept test kind (side_value l n flow row test.left) (side_value l n flow row test.right) (side_from row j test.left a.0) (side_from row j test.right b.0) row j

  tested_from : (p : Pointers I) (rel : Rel) → IsPointerFrom n floor p → IsPointerFrom n floor (tested_pointer l p rel)
  tested_from p Eq h = no_pointer_from k
  tested_from p Ne h = h
  tested_from p Lt h = h
  tested_from p Le h = h
  tested_from p Gt h = h
  tested_from p Ge h = h

  pointer_at_kept : (at : Option ℕ) (rel : Rel) → KeepsFrom n floor (refine_pointer_at l n at rel)
  pointer_at_kept None rel row j = j
  pointer_at_kept (Some at) rel row j = let v = at_from k row at j in set_from n floor row at (Value (tested_value l (value_at l n row at) rel)) (v.0, tested_from (value_at l n row at).pointer rel v.1) j

  named_kept : (base : Option ℕ) (rel : Rel) → KeepsFrom n floor (refine_named l n flow base rel)
  unfolding refine_named refine_pointer
  named_kept None rel row j = j
  named_kept (Some base) rel row j = pointer_at_kept (object_position flow base) rel row j

  in_kept : (test : Test) → fits_test (names_of flow) (Some test) ≡ true → (common : Option IntType) → LeavesFrom n floor (refine_in l n flow test common)
  in_kept test u (Some kind) row j = integers_kept test u kind row j
  in_kept test u None row j = named_kept (named_by test.left test.right) test.rel row j

  test_kept : (test : Option Test) → fits_test (names_of flow) test ≡ true → LeavesFrom n floor (refine_if l n flow test)
  unfolding refine_if refine
  test_kept None u row j = j
  test_kept (Some test) u row j = in_kept test u test.common row j

  taken_kept : (kept : Option (ℕ × ℤ)) → fits_taken (names_of flow) kept ≡ true → (x : Option (List (Cell I))) → IsLeftFrom n floor x → IsLeftFrom n floor (kept_behind l n flow kept x)
  unfolding put_kept
  taken_kept kept u None j = tt
  taken_kept None u (Some row) j = j
  taken_kept (Some p) u (Some row) j =
      put_keeps k flow p.0 (number_value l (n.one p.1) no_labels) (number_from k (n.one p.1) (low_from k p.1 (number_low p.1 (and_parts (has_temp (names_of flow) p.0) (is_number p.1) u).1))) row j

  -- ---- cases

  case_put : (at : ℕ) (v : values.Value I) (x : I) → IsValueFrom n floor v → IsFrom floor (n.bounds x) → LeavesFrom n floor (put_case n at v x)
  unfolding put_case
  case_put at v x h q row j = left_if n floor (is_some (n.bounds x)) (Some (put_value row at (with_number v x))) (set_from n floor row at (Value (with_number v x)) (q, h.1) j)

  case_at_kept : (at : Option ℕ) (number : ℤ) → LeavesFrom n floor (refine_case_at l n at number)
  unfolding refine_value
  case_at_kept None number row j = j
  case_at_kept (Some at) number row j =
      let v = at_from k row at j in
      case_put at (value_at l n row at) (labelled_number l n (value_at l n row at) number) v (range_from k floor (range_met (n.bounds (value_at l n row at).num) number number) (met_keeps floor (n.bounds (value_at l n row at).num) number number v.0)) row j

  named_case_kept : (base : Option ℕ) (number : ℤ) → LeavesFrom n floor (refine_named_case l n flow base number)
  unfolding refine_case
  named_case_kept None number row j = j
  named_case_kept (Some base) number row j = case_at_kept (object_position flow base) number row j

  -- ---- all edges

  null_kept : (to : Option ℕ) → KeepsFrom n floor (put_null l flow to)
  null_kept None row j = j
  null_kept (Some temp) row j = put_keeps k flow temp (pointer_value l (null_pointer l)) (pointer_from k (null_pointer l) (no_pointer_from k)) row j

  follow_kept : (from : ℕ) (e : EdgeKind) → fits_edge (names_of flow) e ≡ true → LeavesFrom n floor (λ row. follow l n flow row from e)
  unfolding follow branch_edge behind_test case_edge refine_object no_line_edge line_edge
  follow_kept from kind.Jump u row j = j
  follow_kept from (kind.When truth test kept) u row j =
      let p = and_parts (fits_test (names_of flow) test) (fits_taken (names_of flow) kept) u in
      left_if n floor _ _ (taken_kept kept p.1 _ (test_kept test p.0 row j))
  follow_kept from (kind.Case test) u row j = left_if n floor _ _ (named_case_kept test.object test.value row j)
  follow_kept from (kind.Other labels) u row j = left_if n floor (is_other_than (switched l n flow row (deciding_temp flow from)) labels.items) (Some row) j
  follow_kept from kind.NoLine u row j = elim (line_call flow from) as (λ c. IsLeftFrom n floor (no_line_edge l flow row c)) [ None ↦ tt | Some c ↦ null_kept c.to_temp row j ]
  follow_kept from kind.Line u row j = elim (line_call flow from) as (λ c. IsLeftFrom n floor (line_edge l n flow row c)) [ None ↦ tt | Some c ↦ line_keeps k flow c.to_temp c.line c.count c.stream row j ]

  follow_if_kept : (e : Option Edge) → ((d : Edge) → e ≡ Some d → fits_edge (names_of flow) d.kind ≡ true) → LeavesFrom n floor (λ row. follow_if l n flow row e)
  follow_if_kept None t row j = tt
  follow_if_kept (Some e) t row j = follow_kept e.from e.kind (t e refl) row j

  pub edge_keeps : (number : ℕ) → ((e : Edge) → slice_get flow.edges.items number ≡ Some e → fits_edge (names_of flow) e.kind ≡ true) → LeavesFrom n floor (λ row. edge l n flow row number)
  unfolding edge
  edge_keeps number t row j = follow_if_kept (slice_get flow.edges.items number) t row j
