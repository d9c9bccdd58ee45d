-- Loads and stores, and copies of structs where these grow, in rising rows.
use Rattle.std.specs.Prelude.{◌≡◌, ℕ, ◌^◌, ◌<◌, ℤ, Bool, true, false, cond, Option, Some, None, List, length, refl}
use Rattle.std.proofs.Common.{arith}
use Rattle.cc_base.specs.Lattices.{LatticeOf, OrderLaws}
use Rattle.cc_base.specs.IntegerDomains.{IntegersOf, BoundLaws, RangeLaws}
use Rattle.cc_base.specs.IntegerLaws.{MonotoneLaws}
use Rattle.cfg.specs.declared.programs.Flow.{Flow}
use Rattle.cfg.specs.declared.machine_instructions.Scalar.{Scalar}
use Rattle.cfg.specs.declared.machine_instructions.Scalar.TheVariants as scalar
use Rattle.pointer_domain.specs.declared.base_sets.Bases.{Bases}
use Rattle.pointer_domain.specs.declared.pointer_sets.Pointers.{Pointers}
use Rattle.pointer_domain.specs.BaseSets.{bases_empty}
use Rattle.value_domain.specs.declared.values.values.Value.{Value}
use Rattle.value_domain.specs.declared.values.row_cells.Cell.{Cell}
use Rattle.value_domain.specs.Values.Values.{value_lattice}
use Rattle.value_domain.specs.Values.ValueTables.{number_value, pointer_value}
use Rattle.store_cells.specs.ScalarTypes.{class_bytes}
use Rattle.store_cells.specs.ClassNumbers.{is_pointer}
use Rattle.store_objects.specs.LiveBases.{any_freed}
use Rattle.store.specs.Stores.{store}
use Rattle.domain_theorems.proofs.values.Flags.{Sets, flag_sets, and_sets}
use Rattle.domain_theorems.proofs.values.Parts.{value_parts, pointer_parts}
use Rattle.domain_theorems.proofs.values.Bases.{empty_below}
use Rattle.store_monotone.specs.Operations.TopRows.{top_row}
use Rattle.store_monotone.specs.Operations.RowsBelow.{ReadBelow, StoresBelow}
use Rattle.store_monotone.specs.Operations.ConsistentRows.{IsLeftConsistent}
use Rattle.store_monotone.proofs.operations.Together.{loads, stores, stores_consistent}
use Rattle.transfer_checks.specs.declared.touches.Touched.{Touched}
use Rattle.transfer_checks.specs.ViolationSets.{violations_union}
use Rattle.transfer_checks.specs.Touches.{touch}
use Rattle.transfer_checks.specs.Temporaries.{temp_value}
use Rattle.transfer_system.specs.Scalars.{class_of, minds_blank}
use Rattle.transfer_system.specs.MemorySteps.{struct_size, touch_scalar, loaded, is_blank, is_freed, blank_or_freed, read_violations, load_violations, put_read, put_loaded, load_step, move_temp, moved_behind, store_to, store_step, touch_struct, both_touched, copy_violations, copy_touched, kept_target, copy_between, copy_step}
use Rattle.transfer_monotone.specs.Values.RisingRows.{LeftRise, PointersRise, ValuesRise}
use Rattle.transfer_monotone.specs.Values.LaidOut.{IsLaidOut}
use Rattle.transfer_monotone.specs.Values.ViolationsBelow.{ViolationsBelow}
use Rattle.transfer_monotone.specs.Values.StepLaws.{FlowRows, Rises, Violates}
use Rattle.transfer_monotone.proofs.values.RisingCells.{small_own, own_bases}
use Rattle.transfer_monotone.proofs.values.OwnBases.{words_less}
use Rattle.transfer_monotone.proofs.values.TempPlaces.{row_length}
use Rattle.transfer_monotone.proofs.values.Results.{value_small, number_rises, pointer_rises, num_rises, num_near, labels_rise, of_pointer, parts_rise, temp_rises, put_temp_rises, number_put, pointer_put}
use Rattle.transfer_monotone.proofs.values.LiveParts.{freed_more}
use Rattle.transfer_monotone.proofs.values.Touches.{touch_rises, touch_violates, placed_bases}
use Rattle.transfer_monotone.proofs.values.ViolationOrder.{none_below, union_below, union_left, reads_below}
use Rattle.transfer_monotone.specs.Edges.MemoryLaws.{MemoryStepsRise, MemoryChecksRise}
use Rattle.transfer_monotone.specs.Edges.CallLaws.{CopyRises}
use Rattle.transfer_monotone.proofs.edges.OwnLoads.{IsOwnRead, load_own_even}

module _ {I : Type 0} (l : LatticeOf I) (n : IntegersOf I) (top : List (Cell I)) where
  -- an own row of consistent pointer parts, from both laws of a call
  pub left_of : (x y : Option (List (Cell I))) → StoresBelow l top x y → IsLeftConsistent n x → LeftRise l n top x y
  left_of None y h k = tt
  left_of (Some x) None h k = absurd h
  left_of (Some x) (Some y) h k = record { below = h; even = k }

module _ {I : Type 0} {l : LatticeOf I} {n : IntegersOf I} {stands : I → ℤ → Type 0} (o : OrderLaws l) (b : BoundLaws l n stands) (g : MonotoneLaws l n) (f : RangeLaws l n) (all : Bases) (flow : Flow) (k : IsLaidOut all flow) where
  pub row_near : length (top_row n all flow.bases.items flow.temps) < 2 ^ 64
  row_near = let w = row_length n all flow k in let m = k.near in omega arith

  module _ (r s : List (Cell I)) (h : FlowRows l n all flow r s) where
    -- ---- touches

    pub touched_rises : (pointer offset size : ℕ) (write : Bool) → PointersRise l n all (touch l n flow.bases.items r (temp_value l n flow r pointer).pointer offset size write).rest (touch l n flow.bases.items s (temp_value l n flow s pointer).pointer offset size write).rest
    touched_rises pointer offset size write = touch_rises o b all flow.bases.items k.named (top_row n all flow.bases.items flow.temps) r s (placed_bases o b all flow k) h (temp_value l n flow r pointer).pointer (temp_value l n flow s pointer).pointer (of_pointer o b all (temp_rises o b all flow k r s h pointer)) offset size write

    pub touched_more : (pointer offset size : ℕ) (write : Bool) → ViolationsBelow (touch l n flow.bases.items r (temp_value l n flow r pointer).pointer offset size write).violations (touch l n flow.bases.items s (temp_value l n flow s pointer).pointer offset size write).violations
    touched_more pointer offset size write = touch_violates o b all flow.bases.items k.named (top_row n all flow.bases.items flow.temps) r s (placed_bases o b all flow k) h (temp_value l n flow r pointer).pointer (temp_value l n flow s pointer).pointer (of_pointer o b all (temp_rises o b all flow k r s h pointer)) offset size write

    -- ---- loads

    -- a value that is read, below a larger one
    read_rises : (v w : Value I) → (value_lattice l).leq v w ≡ true → IsOwnRead l n all true (Some v) → IsOwnRead l n all false (Some w) → ValuesRise l n all v w
    read_rises v w e x y = record { below = e; own = y.0; even = (x.1 refl).1 }

    loaded_rises : (p q : Pointers I) → PointersRise l n all p q → (kind : Scalar) → ReadBelow l (loaded l n flow r p kind) (loaded l n flow s q kind)
    loaded_rises p q i kind = loads o b flow.model flow.bases.items k.layout all flow.temps row_near g r s h.below p q i.below (class_of kind).0 (class_of kind).1

    small_read : (p : Pointers I) (kind : Scalar) → IsOwnRead l n all true (loaded l n flow r p kind)
    small_read p kind = load_own_even o b all true f flow.model (top_row n all flow.bases.items flow.temps) r (small_own o b all k.words (top_row n all flow.bases.items flow.temps) r s h) (λ e. h.even) flow.bases.items (placed_bases o b all flow k) p (class_of kind).0 (class_of kind).1

    large_read : (q : Pointers I) (kind : Scalar) → IsOwnRead l n all false (loaded l n flow s q kind)
    large_read q kind = load_own_even o b all false f flow.model (top_row n all flow.bases.items flow.temps) s h.below.large (λ e. absurd (cc)) flow.bases.items (placed_bases o b all flow k) q (class_of kind).0 (class_of kind).1

    put_read_rises : (to : ℕ) (kind : Scalar) (v w : Value I) → ValuesRise l n all v w → LeftRise l n (top_row n all flow.bases.items flow.temps) (put_read l n flow r to kind v) (put_read l n flow s to kind w)
    unfolding put_read
    put_read_rises to scalar.Pointer v w i = pointer_put o b all flow k r s h to v.pointer w.pointer (of_pointer o b all i)
    put_read_rises to (scalar.Int kind) v w i = number_put o b all flow k r s h to (number_value l v.num v.labels) (number_value l w.num w.labels) (number_rises o b all v.num w.num v.labels w.labels (num_rises o b all i) (num_near o b all i) (labels_rise o b all i))

    put_loaded_rises : (to : ℕ) (kind : Scalar) (x y : Option (Value I)) → ReadBelow l x y → IsOwnRead l n all true x → IsOwnRead l n all false y → LeftRise l n (top_row n all flow.bases.items flow.temps) (put_loaded l n flow r to kind x) (put_loaded l n flow s to kind y)
    put_loaded_rises to kind None y e i j = tt
    put_loaded_rises to kind (Some v) None e i j = absurd e
    put_loaded_rises to kind (Some v) (Some w) e i j = put_read_rises to kind v w (read_rises v w e i j)

    load_rises : (to pointer : ℕ) (kind : Scalar) → LeftRise l n (top_row n all flow.bases.items flow.temps) (load_step l n flow r to pointer kind) (load_step l n flow s to pointer kind)
    unfolding load_step
    load_rises to pointer kind =
        let p : Pointers I = (touch_scalar l n flow r pointer kind false).rest in
        let q : Pointers I = (touch_scalar l n flow s pointer kind false).rest in
        put_loaded_rises to kind (loaded l n flow r p kind) (loaded l n flow s q kind) (loaded_rises p q (touched_rises pointer 0 (class_bytes flow.model (class_of kind).0) false) kind) (small_read p kind) (large_read q kind)

    blank_more : (kind : Scalar) (v w : Value I) → (value_lattice l).leq v w ≡ true → ViolationsBelow (blank_or_freed l n flow r (class_of kind).0 (class_of kind).1 v) (blank_or_freed l n flow s (class_of kind).0 (class_of kind).1 w)
    blank_more kind v w e =
        let c = value_parts l v w e in
        let d = pointer_parts l v.pointer w.pointer c.pointer in
        reads_below (is_blank (class_of kind).0 (class_of kind).1 v) (is_freed l n flow r (class_of kind).0 v) (is_blank (class_of kind).0 (class_of kind).1 w) (is_freed l n flow s (class_of kind).0 w)
        (and_sets v.indeterminate (minds_blank (class_of kind).0 (class_of kind).1) w.indeterminate (minds_blank (class_of kind).0 (class_of kind).1) (flag_sets v.indeterminate w.indeterminate c.indeterminate) (λ t. t))
        (and_sets (is_pointer (class_of kind).0) (any_freed l n flow.bases.items r v.pointer.bases) (is_pointer (class_of kind).0) (any_freed l n flow.bases.items s w.pointer.bases) (λ t. t) (freed_more o b all (top_row n all flow.bases.items flow.temps) r s h.below flow.bases.items (placed_bases o b all flow k) v.pointer.bases w.pointer.bases d.bases))

    read_more : (kind : Scalar) (x y : Option (Value I)) → ReadBelow l x y → ViolationsBelow (read_violations l n flow r kind x) (read_violations l n flow s kind y)
    read_more kind None y e = none_below (read_violations l n flow s kind y)
    read_more kind (Some v) None e = absurd e
    read_more kind (Some v) (Some w) e = blank_more kind v w e

    load_more : (pointer : ℕ) (kind : Scalar) → ViolationsBelow (load_violations l n flow r pointer kind) (load_violations l n flow s pointer kind)
    load_more pointer kind =
        let p : Pointers I = (touch_scalar l n flow r pointer kind false).rest in
        let q : Pointers I = (touch_scalar l n flow s pointer kind false).rest in
        union_below (touch_scalar l n flow r pointer kind false).violations (read_violations l n flow r kind (loaded l n flow r p kind)) (touch_scalar l n flow s pointer kind false).violations (read_violations l n flow s kind (loaded l n flow s q kind))
        (touched_more pointer 0 (class_bytes flow.model (class_of kind).0) false) (read_more kind (loaded l n flow r p kind) (loaded l n flow s q kind) (loaded_rises p q (touched_rises pointer 0 (class_bytes flow.model (class_of kind).0) false) kind))

    -- ---- stores

    stored_rises : (p q : Pointers I) → PointersRise l n all p q → (kind : Scalar) (v w : Value I) → ValuesRise l n all v w → LeftRise l n (top_row n all flow.bases.items flow.temps) (store_to l n flow p kind v r) (store_to l n flow q kind w s)
    unfolding store_to
    stored_rises p q i kind v w j = left_of l n (top_row n all flow.bases.items flow.temps) (store l n flow.model flow.bases.items p (class_of kind).0 (class_of kind).1 v r) (store l n flow.model flow.bases.items q (class_of kind).0 (class_of kind).1 w s)
        (stores o b flow.model flow.bases.items k.layout all flow.temps row_near f g r s h.below p q i.below (class_of kind).0 (class_of kind).1 v w j.below j.own)
        (stores_consistent o b flow.model flow.bases.items k.layout all flow.temps row_near f r (small_own o b all k.words (top_row n all flow.bases.items flow.temps) r s h) h.even p (class_of kind).0 (class_of kind).1 v (value_small o b all j) (words_less v.pointer.bases all (own_bases o b all k.words (top_row n all flow.bases.items flow.temps) v w j) k.words) j.even)

  -- a temporary that takes the value of another one
  moved_rises : (kept : Option (ℕ × ℕ)) (r s : List (Cell I)) → FlowRows l n all flow r s → FlowRows l n all flow (move_temp l n flow kept r) (move_temp l n flow kept s)
  unfolding move_temp
  moved_rises None r s h = h
  moved_rises (Some p) r s h = put_temp_rises o b all flow k r s h p.0 (temp_value l n flow r p.1) (temp_value l n flow s p.1) (temp_rises o b all flow k r s h p.1)

  behind_rises : (kept : Option (ℕ × ℕ)) (x y : Option (List (Cell I))) → LeftRise l n (top_row n all flow.bases.items flow.temps) x y → LeftRise l n (top_row n all flow.bases.items flow.temps) (moved_behind l n flow kept x) (moved_behind l n flow kept y)
  behind_rises kept None y h = tt
  behind_rises kept (Some x) None h = absurd h
  behind_rises kept (Some x) (Some y) h = moved_rises kept x y h

  store_rises : (pointer value : ℕ) (kind : Scalar) (kept : Option (ℕ × ℕ)) → Rises l n all flow (λ row. store_step l n flow row pointer value kind kept)
  unfolding store_step
  store_rises pointer value kind kept r s h =
      let p : Pointers I = (touch_scalar l n flow r pointer kind true).rest in
      let q : Pointers I = (touch_scalar l n flow s pointer kind true).rest in
      behind_rises kept (store_to l n flow p kind (temp_value l n flow r value) r) (store_to l n flow q kind (temp_value l n flow s value) s)
      (stored_rises r s h p q (touched_rises r s h pointer 0 (class_bytes flow.model (class_of kind).0) true) kind (temp_value l n flow r value) (temp_value l n flow s value) (temp_rises o b all flow k r s h value))

  -- ---- copies of structs

  both_more : (source target more large : Touched I) → Sets (bases_empty more.rest.bases) (bases_empty source.rest.bases) → ViolationsBelow source.violations more.violations → ViolationsBelow target.violations large.violations → ViolationsBelow (both_touched source target) (both_touched more large)
  both_more source target more large z h j = by_empty (bases_empty source.rest.bases) (bases_empty more.rest.bases) z
    where
      by_empty : (a c : Bool) → Sets c a → ViolationsBelow (cond a source.violations (violations_union source.violations target.violations)) (cond c more.violations (violations_union more.violations large.violations))
      by_empty true true e = h
      by_empty true false e = union_left source.violations more.violations large.violations h
      by_empty false true e = absurd (let t : false ≡ true = e refl in cc)
      by_empty false false e = union_below source.violations target.violations more.violations large.violations h j

  copy_more : (to from index : ℕ) → Violates l n all flow (λ row. copy_violations l n flow row to from index)
  copy_more to from index r s h =
      both_more (touch_struct l n flow r from index false) (touch_struct l n flow r to index true) (touch_struct l n flow s from index false) (touch_struct l n flow s to index true)
      (empty_below (touch_struct l n flow r from index false).rest.bases (touch_struct l n flow s from index false).rest.bases (parts_rise o b all (touched_rises r s h from 0 (struct_size flow index) false)).bases)
      (touched_more r s h from 0 (struct_size flow index) false) (touched_more r s h to 0 (struct_size flow index) true)

  target_rises : (to : ℕ) (p q : Pointers I) → PointersRise l n all p q → (x y : Option (List (Cell I))) → LeftRise l n (top_row n all flow.bases.items flow.temps) x y → LeftRise l n (top_row n all flow.bases.items flow.temps) (kept_target l flow to p x) (kept_target l flow to q y)
  target_rises to p q i None y h = tt
  target_rises to p q i (Some x) None h = absurd h
  target_rises to p q i (Some x) (Some y) h = put_temp_rises o b all flow k x y h to (pointer_value l p) (pointer_value l q) (pointer_rises o b all p q i)

  pub copy_rises : CopyRises l n all flow → (to from index : ℕ) → Rises l n all flow (λ row. copy_step l n flow row to from index)
  unfolding copy_step copy_between
  copy_rises law to from index r s h =
      let p : Pointers I = (touch_struct l n flow r to index true).rest in
      let q : Pointers I = (touch_struct l n flow s to index true).rest in
      let u : Pointers I = (touch_struct l n flow r from index false).rest in
      let v : Pointers I = (touch_struct l n flow s from index false).rest in
      let i = touched_rises r s h to 0 (struct_size flow index) true in
      target_rises to p q i (copy_touched l n flow index p u r) (copy_touched l n flow index q v s) (law.step index p q u v i (touched_rises r s h from 0 (struct_size flow index) false) r s h)

  pub memory_steps : MemoryStepsRise l n all flow
  memory_steps = record { load = λ to pointer kind r s h. load_rises r s h to pointer kind; store = store_rises }

  pub memory_checks : MemoryChecksRise l n all flow
  memory_checks = record { load = λ pointer kind r s h. load_more r s h pointer kind; store = λ pointer kind r s h. touched_more r s h pointer 0 (class_bytes flow.model (class_of kind).0) true; copy = copy_more }
