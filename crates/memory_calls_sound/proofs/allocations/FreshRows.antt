-- What an allocation makes of the newest base of its site: a fresh instance of indeterminate bytes or of zeros, or nothing.
use Rattle.std.proofs.Common.{◌≡◌, ℕ, ◌+◌, ◌<◌, ◌≤◌, Bool, true, false, cond, Some, None, List, length, arith, subst, ap, ◌∙◌}
use Rattle.std.specs.Prelude.{slice_get, ℤ}
use Rattle.std.proofs.lemmas.Option.{slice_get_within}
use Rattle.cc_base.specs.Lattices.{LatticeOf}
use Rattle.cc_base.specs.IntegerDomains.{IntegersOf}
use Rattle.cc_base.specs.NumberRanges.{Range}
use Rattle.c_layout.specs.declared.data_model.Model.{Model}
use Rattle.c_layout.specs.declared.leaf_lists.Leaf.{Leaf}
use Rattle.c_layout.specs.declared.shapes.BaseInfo.{BaseInfo}
use Rattle.cfg.specs.WellFormed.{base_values, base_cells}
use Rattle.value_domain.specs.Strings.FirstZeros.{zero_lattice}
use Rattle.value_domain.specs.declared.strings.first_zeros.FirstZero.{FirstZero}
use Rattle.value_domain.specs.Values.AllocStates.{state_lattice}
use Rattle.value_domain.specs.Values.Values.{value_lattice}
use Rattle.value_domain.specs.declared.values.alloc_states.AllocState.{AllocState}
use Rattle.value_domain.specs.declared.values.values.Value as values
use Rattle.value_domain.specs.declared.values.row_cells.Cell.{Cell}
use Rattle.value_domain.specs.declared.values.row_cells.Cell.TheVariants.{Value, First, State}
use Rattle.store_objects.specs.declared.allocation.Fresh.{Fresh}
use Rattle.c_layout.specs.declared.leaf_lists.Class.{Class}
use Rattle.store_objects.specs.Allocations.{fresh_value, fresh_cell, fresh_leaf, fresh_leaves, fresh_class, fresh_classes, fresh_values, fresh_zero, make_instance, make_nothing, make_of, make_fresh}
use Rattle.store_cells.specs.ClassNumbers.{class_at}
use Rattle.store_cells.specs.FirstZeroWrites.{set_part, set_zeros}
use Rattle.store_cells.specs.NearValues.{near_number, near_value}
use Rattle.store_objects.specs.ObjectLives.{set_cell, set_values}
use Rattle.store_cells.specs.RowPositions.{leaf_position, class_position, zero_position, state_position, value_count, value_in, zero_in, state_in, cell_at, value_at, zero_at, state_at, near_state, put_zero, put_state}
use Rattle.store_cells.specs.Walks.{walk, turns}
use Rattle.store_sound.proofs.operations.Only.{Only, Turned, only_more, only_put, only_then, cell_put}
use Rattle.store_sound.proofs.operations.StoreRows.{Fits, leaf_is, class_is, zero_is}
use Rattle.store_sound.proofs.operations.StoreValues.{same_value, same_zero}
use Rattle.store_sound.proofs.regions.Layers.{only_turns, value_turn, leaves_within, leaf_turn, classes_within, class_turn}

-- a heap base, and where its values stand
pub record IsHeapBase (base : BaseInfo) : Type 0 where
  pub fits : Fits base
  pub heap : base.shape.heap ≡ true
  pub zeros : length base.shape.zeros ≡ 1

module _ {I : Type 0} (l : LatticeOf I) (n : IntegersOf I) (m : Model) (bases : List BaseInfo) (base : BaseInfo) (is : IsHeapBase base) where
  six : cond {A = ℕ} base.shape.heap 6 0 ≡ 6
  six = ap (λ z. cond {A = ℕ} z 6 0) is.heap

  one : cond {A = ℕ} base.shape.heap 1 0 ≡ 1
  one = ap (λ z. cond {A = ℕ} z 1 0) is.heap

  -- how many cells have values
  abbrev cells : ℕ
  cells = length base.shape.cells + 6

  pub size_is : base_values base ≡ length base.shape.cells + 8
  size_is = let a = six in let c = one in let z = is.zeros in omega (arith, a, c, z)

  pub zero_there : zero_position base 0 ≡ base.first + (length base.shape.cells + 6)
  zero_there = let a = six in let x = zero_is base 0 is.fits (omega arith) in omega (arith, a, x)

  pub state_there : state_position base ≡ base.first + (length base.shape.cells + 7)
  state_there = let a = six in let z = is.zeros in let x = zero_is base (length base.shape.zeros) is.fits (omega arith) in omega (arith, a, x, z)

  pub class_there : (c : ℕ) → c < 6 → class_position base c ≡ base.first + (length base.shape.cells + c)
  class_there c h = let a = six in let x = class_is base c is.fits (omega (arith, a, h)) in omega (arith, x)

  -- ---- first zeros and the state

  pub zeros_are : (f : FirstZero I) (row : List (Cell I)) → set_zeros base f row ≡ put_zero row (zero_position base 0) f
  unfolding set_zeros
  zeros_are f row = ap (λ z. turns (set_part base f) z row) is.zeros

  zero_only : (f : FirstZero I) → Only (base.first + (length base.shape.cells + 6)) (base.first + (length base.shape.cells + 7)) (λ row. put_zero row (zero_position base 0) f)
  zero_only f = let x = zero_there in only_put _ _ (zero_position base 0) (λ row. First f) (omega (arith, x)) (omega (arith, x))

  pub zeros_only : (f : FirstZero I) → Only (base.first + (length base.shape.cells + 6)) (base.first + (length base.shape.cells + 7)) (set_zeros base f)
  zeros_only f = record {
    long = λ row. ap length (zeros_are f row) ∙ (zero_only f).long row;
    keeps = λ row at h. ap (λ z. cell_at z at) (zeros_are f row) ∙ (zero_only f).keeps row at h;
  }

  pub state_only : (s : AllocState I) → Only (base.first + (length base.shape.cells + 7)) (base.first + (length base.shape.cells + 8)) (λ row. put_state row (state_position base) s)
  state_only s = let x = state_there in only_put _ _ (state_position base) (λ row. State s) (omega (arith, x)) (omega (arith, x))

  -- values, and then the first zero and the state
  made_only : (f : List (Cell I) → List (Cell I)) (first : FirstZero I) (s : AllocState I) → Only base.first (base.first + (length base.shape.cells + 6)) f → Only base.first (base.first + base_values base) (λ row. put_state (set_zeros base first (f row)) (state_position base) s)
  made_only f first s h =
      let size = size_is in
      only_then base.first (base.first + base_values base) (λ row. set_zeros base first (f row)) (λ row. put_state row (state_position base) s)
      (only_then base.first (base.first + base_values base) f (set_zeros base first) (only_more _ _ f (omega arith) (omega (arith, size)) h) (only_more _ _ (set_zeros base first) (omega arith) (omega (arith, size)) (zeros_only first)))
      (only_more _ _ (λ row. put_state row (state_position base) s) (omega arith) (omega (arith, size)) (state_only s))

  -- ---- nothing

  nothing_only : (v : values.Value I) → Only base.first (base.first + (length base.shape.cells + 6)) (set_values base v)
  unfolding set_values
  nothing_only v = only_turns (set_cell base v) base.first (base.first + (length base.shape.cells + 6)) (value_count base) (λ k h.
      let a = six in
      let fits = is.fits in
      let size = size_is in
      only_put _ _ (leaf_position base k) (λ row. Value v) (omega (arith, a, h, fits, size)) (omega (arith, a, h, fits, size)))

  -- ---- a fresh instance

  module _ (fresh : Fresh I) where
    pub cell_only : (class : Class) (signed : Bool) (x : ℕ) → Only x (x + 1) (λ row. fresh_cell l n m bases fresh (record { class = class; signed = signed }) x row)
    unfolding fresh_cell
    cell_only class signed x = only_put x (x + 1) x (λ row. Value (fresh_value l n m bases fresh (record { class = class; signed = signed }) row)) (omega arith) (omega arith)

    pub leaf_only : (j : ℕ) (leaf : Leaf) → Only (leaf_position base j) (leaf_position base j + 1) (fresh_leaf l n m bases base fresh leaf j)
    leaf_only j leaf = cell_only leaf.class leaf.signed (leaf_position base j)

    pub class_only : (c : ℕ) → Only (class_position base (c + 0)) (class_position base (c + 0) + 1) (fresh_class l n m bases base fresh c)
    class_only c = let e : c ≡ c + 0 = omega arith in subst (λ z. Only (class_position base z) (class_position base z + 1) (fresh_class l n m bases base fresh c)) e (cell_only (class_at c) true (class_position base c))

    pub leaves_only : Only base.first (base.first + length base.shape.cells) (fresh_leaves l n m bases base fresh)
    unfolding fresh_leaves
    leaves_only = leaves_within base is.fits (fresh_leaf l n m bases base fresh) leaf_only

    pub classes_only : Only (base.first + length base.shape.cells) (base.first + base_cells base) (fresh_classes l n m bases base fresh)
    unfolding fresh_classes
    classes_only = classes_within base is.fits is.heap 0 6 (omega arith) (fresh_class l n m bases base fresh) class_only

    pub values_only : Only base.first (base.first + (length base.shape.cells + 6)) (fresh_values l n m bases base fresh)
    unfolding fresh_values
    values_only =
        let a = six in
        only_then base.first (base.first + (length base.shape.cells + 6)) (fresh_leaves l n m bases base fresh) (fresh_classes l n m bases base fresh)
        (only_more _ _ (fresh_leaves l n m bases base fresh) (omega arith) (omega arith) leaves_only) (only_more _ _ (fresh_classes l n m bases base fresh) (omega arith) (omega (arith, a)) classes_only)

    -- whatever the size is, the base alone is written
    pub fresh_only : (size : I) → Only base.first (base.first + base_values base) (make_fresh l n m bases base size fresh)
    unfolding make_fresh make_instance make_nothing
    fresh_only size = by_range (n.bounds size)
      where
        by_range : (r : Range) → Only base.first (base.first + base_values base) (make_of l n m bases base size fresh r)
        by_range None = made_only (set_values base ((value_lattice l).least)) ((zero_lattice l).least) ((state_lattice l).least) (nothing_only ((value_lattice l).least))
        by_range (Some p) = made_only (fresh_values l n m bases base fresh) (fresh_zero l n fresh p.0) (record { size = size; live = true; freed = false }) values_only

    -- ---- what the base has where an instance is made

    module _ (given : Class → values.Value I) (plain : (class : Class) (signed : Bool) (row : List (Cell I)) → fresh_value l n m bases fresh (record { class = class; signed = signed }) row ≡ given class) (size : I) (p : ℤ × ℤ) (some : n.bounds size ≡ Some p) (row : List (Cell I)) (long : base.first + base_values base ≤ length row) where
      cell_is : (class : Class) (signed : Bool) (x : ℕ) (r : List (Cell I)) → x < length r → value_at l n (fresh_cell l n m bases fresh (record { class = class; signed = signed }) x r) x ≡ near_value l n (given class)
      unfolding fresh_cell value_at
      cell_is class signed x r h = ap (λ z. near_value l n (value_in l z)) (cell_put r x (Value (fresh_value l n m bases fresh (record { class = class; signed = signed }) r)) h) ∙ ap (near_value l n) (plain class signed r)

      abbrev made : List (Cell I)
      made = put_state (set_zeros base (fresh_zero l n fresh p.0) (fresh_values l n m bases base fresh row)) (state_position base) (record { size = size; live = true; freed = false })

      made_is : make_fresh l n m bases base size fresh row ≡ made
      unfolding make_fresh make_instance
      made_is = ap (λ z. make_of l n m bases base size fresh z row) some

      -- the first zero and the state leave values
      value_stays : (x : ℕ) → x < base.first + (length base.shape.cells + 6) → value_at l n made x ≡ value_at l n (fresh_values l n m bases base fresh row) x
      value_stays x h =
          let values : List (Cell I) = fresh_values l n m bases base fresh row in
          let zeros : List (Cell I) = set_zeros base (fresh_zero l n fresh p.0) values in
          same_value l n zeros made x ((state_only (record { size = size; live = true; freed = false })).keeps zeros x (λ f g. omega (arith, h, f)))
          ∙ same_value l n values zeros x ((zeros_only (fresh_zero l n fresh p.0)).keeps values x (λ f g. omega (arith, h, f)))

      pub fresh_leaf_is : (j : ℕ) (leaf : Leaf) → slice_get base.shape.cells j ≡ Some leaf → value_at l n (make_fresh l n m bases base size fresh row) (leaf_position base j) ≡ near_value l n (given leaf.class)
      unfolding fresh_values fresh_leaves
      fresh_leaf_is j leaf e =
          let t = slice_get_within base.shape.cells j leaf e in
          let x = leaf_is base j is.fits t in
          let leaves : List (Cell I) = walk (fresh_leaf l n m bases base fresh) 0 base.shape.cells row in
          let size_of = size_is in
          ap (λ z. value_at l n z (leaf_position base j)) made_is
          ∙ (value_stays (leaf_position base j) (omega (arith, x, t))
          ∙ (same_value l n leaves (fresh_classes l n m bases base fresh leaves) (leaf_position base j) (classes_only.keeps leaves (leaf_position base j) (λ f g. omega (arith, x, t, f)))
          ∙ value_turn l n (λ v. Unit {0}) (λ v. v ≡ near_value l n (given leaf.class)) (leaf_position base j) (fresh_leaf l n m bases base fresh leaf j) row leaves
          (leaf_turn base is.fits (fresh_leaf l n m bases base fresh) leaf_only j leaf e row)
          (λ r same none. cell_is leaf.class leaf.signed (leaf_position base j) r (omega (arith, x, t, same, long, size_of))) tt))

      pub fresh_class_is : (c : ℕ) → c < 6 → value_at l n (make_fresh l n m bases base size fresh row) (class_position base c) ≡ near_value l n (given (class_at c))
      unfolding fresh_values fresh_classes
      fresh_class_is c h =
          let e : c + 0 ≡ c = omega arith in
          let x = class_there c h in
          let leaves : List (Cell I) = fresh_leaves l n m bases base fresh row in
          let all : List (Cell I) = turns (fresh_class l n m bases base fresh) 6 leaves in
          let size_of = size_is in
          let leaves_long = leaves_only.long row in
          ap (λ z. value_at l n z (class_position base c)) made_is
          ∙ (value_stays (class_position base c) (omega (arith, x, h))
          ∙ value_turn l n (λ v. Unit {0}) (λ v. v ≡ near_value l n (given (class_at c))) (class_position base c) (fresh_class l n m bases base fresh c) leaves all
          (subst (λ z. Turned (class_position base z) (fresh_class l n m bases base fresh c) leaves all) e (class_turn base is.fits is.heap 0 6 (omega arith) (fresh_class l n m bases base fresh) class_only c h leaves))
          (λ r same none. cell_is (class_at c) true (class_position base c) r (omega (arith, x, h, same, leaves_long, long, size_of))) tt)

      pub fresh_zero_is : zero_at l n (make_fresh l n m bases base size fresh row) (zero_position base 0) ≡ record { at = near_number l n (fresh_zero l n fresh p.0).at }
      unfolding zero_at
      fresh_zero_is =
          let x = zero_there in
          let size_of = size_is in
          let values : List (Cell I) = fresh_values l n m bases base fresh row in
          let zeros : List (Cell I) = set_zeros base (fresh_zero l n fresh p.0) values in
          let values_long = values_only.long row in
          ap (λ z. zero_at l n z (zero_position base 0)) made_is
          ∙ (same_zero l n zeros made (zero_position base 0) ((state_only (record { size = size; live = true; freed = false })).keeps zeros (zero_position base 0) (λ f g. omega (arith, x, f)))
          ∙ (ap (λ z. zero_at l n z (zero_position base 0)) (zeros_are (fresh_zero l n fresh p.0) values)
          ∙ ap (λ z. record { at = near_number l n (zero_in l z).at }) (cell_put values (zero_position base 0) (First (fresh_zero l n fresh p.0)) (omega (arith, x, values_long, long, size_of)))))

      pub fresh_state_is : state_at l n (make_fresh l n m bases base size fresh row) (state_position base) ≡ near_state l n (record { size = size; live = true; freed = false })
      unfolding state_at
      fresh_state_is =
          let x = state_there in
          let size_of = size_is in
          let values : List (Cell I) = fresh_values l n m bases base fresh row in
          let zeros : List (Cell I) = set_zeros base (fresh_zero l n fresh p.0) values in
          let values_long = values_only.long row in
          let zeros_long = (zeros_only (fresh_zero l n fresh p.0)).long values in
          ap (λ z. state_at l n z (state_position base)) made_is
          ∙ ap (λ z. near_state l n (state_in l z)) (cell_put zeros (state_position base) (State (record { size = size; live = true; freed = false })) (omega (arith, x, values_long, zeros_long, long, size_of)))
