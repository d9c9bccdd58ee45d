-- The row behind a store tells the state behind it.
use Rattle.std.proofs.Common.{◌≡◌, ℕ, ◌+◌, ◌-◌, ◌<◌, ◌≤◌, true, false, Some, List, length, arith, subst, sym, refl, ap, ◌∙◌, inl, inr}
use Rattle.std.specs.Prelude.{slice_get, ℤ}
use Rattle.std.specs.Option.{unwrap_or}
use Rattle.std.proofs.lemmas.Int.{ints}
use Rattle.std.proofs.lemmas.Bool.{cases_eq}
use Rattle.std.proofs.lemmas.Option.{same_Some, slice_get_within}
use Rattle.cc_base.specs.Lattices.{LatticeOf}
use Rattle.cc_base.specs.IntegerDomains.{IntegersOf, BoundLaws, RangeLaws}
use Rattle.cc_base.specs.IntegerTypes.{is_size}
use Rattle.cc_base.specs.declared.int_types.IntType.{IntType}
use Rattle.c_layout.specs.declared.leaf_lists.Leaf.{Leaf}
use Rattle.c_layout.specs.declared.shapes.BaseInfo.{BaseInfo}
use Rattle.cfg.specs.WellFormed.{base_cells, base_values}
use Rattle.cfg.specs.declared.programs.Flow.{Flow}
use Rattle.value_domain.specs.declared.values.values.Value as values
use Rattle.value_domain.specs.declared.values.row_cells.Cell.{Cell}
use Rattle.value_domain.specs.declared.values.row_cells.Cell.TheVariants.{Nothing, Value}
use Rattle.store_cells.specs.AccessWindows.{last_offset}
use Rattle.store_cells.specs.CellReads.{as_stored}
use Rattle.store_cells.specs.NearValues.{near_value}
use Rattle.store_cells.specs.RowPositions.{leaf_position, cell_at, value_in, value_at, put_value}
use Rattle.store_cells.specs.ScalarTypes.{kind_of}
use Rattle.store.specs.Stores.{stored_value}
use Rattle.memory_model.specs.Memory.Instances.{Memory, bytes_at}
use Rattle.memory_model.specs.Memory.ScalarSizes.{class_bytes, is_pointer}
use Rattle.memory_model.specs.Memory.Scalars.{Scalar, integer, pointer}
use Rattle.memory_model.specs.Effects.ScalarBytes.{scalar_bytes}
use Rattle.store_sound.specs.Concretization.Places.{IsPlaceOf}
use Rattle.store_sound.specs.Concretization.RowMeaning.{MachineState}
use Rattle.store_sound.specs.Concretization.SoundMemory.{IsScalarIn}
use Rattle.store_sound.proofs.operations.Classes.{class_size}
use Rattle.store_sound.proofs.operations.Only.{cell_put}
use Rattle.store_sound.proofs.operations.Slices.{get_set_other}
use Rattle.store_sound.proofs.operations.StoreRows.{Fits, leaf_is}
use Rattle.store_sound.proofs.operations.StoreValues.{same_value}
use Rattle.store_sound.specs.Programs.Premises.{HasPremises}
use Rattle.transfer_sound.proofs.values.NearScalars.{IsNearScalar}
use Rattle.transfer_sound.proofs.values.TypeRanges.{type_near}
use Rattle.struct_copies_sound.specs.Leaves.StructLeaves.{IsStruct}
use Rattle.transfer_exact.specs.Values.ExactNumbers.{ExactLaws}
use Rattle.transfer_exact.specs.Values.SingleRows.{HoldsScalar, ExactLeaf, ExactState}
use Rattle.transfer_exact.specs.Values.SingleValues.{ExactScalar}
use Rattle.transfer_exact.proofs.values.NearExact.{near_scalar_tells}
use Rattle.transfer_exact.proofs.accesses.Moves.{scalar_moves, held_moves, holds_moves, change_tells}
use Rattle.transfer_exact.proofs.places.OneLeaf.{same_size, owned, place_is}
use Rattle.transfer_exact.proofs.places.Written.{IsWritten, left_number, number_written, pointer_written}

-- a scalar in a leaf: a number is of the leaf's type
abbrev pub left_in : Flow → Leaf → Scalar → Scalar
left_in flow leaf (integer z labels) = integer (left_number flow leaf z) labels
left_in flow leaf (pointer p) = pointer p

-- a pointer for a leaf of pointers, a number for another one
abbrev pub FitsLeaf : Leaf → Scalar → Type 0
FitsLeaf leaf (integer z labels) = is_pointer leaf.class ≡ false
FitsLeaf leaf (pointer p) = is_pointer leaf.class ≡ true

module _ {I : Type 0} {l : LatticeOf I} {n : IntegersOf I} {gamma : I → ℤ → Type 0} (q : BoundLaws l n gamma) (ranges : RangeLaws l n) (x : ExactLaws n) (flow : Flow) (p : HasPremises flow) (row : List (Cell I)) (long : length row ≡ flow.width) (state : MachineState) (new : Memory) (small : (k : ℕ) → length (bytes_at new k) ≤ last_offset) (b i : ℕ) (base : BaseInfo) (at : slice_get flow.bases.items b ≡ Some base)
    (h : IsStruct flow.model base.shape.cells base.size) (single : (j : ℕ) (leaf : Leaf) → slice_get base.shape.cells j ≡ Some leaf → leaf.count ≡ 1)
    (j : ℕ) (leaf : Leaf) (among : slice_get base.shape.cells j ≡ Some leaf) (v : Scalar) (fit : FitsLeaf leaf v) (in_new : IsScalarIn new v)
    (w : IsWritten state.memory new i leaf.offset leaf.class (class_bytes flow.model leaf.class) (scalar_bytes (class_bytes flow.model leaf.class) v))
    (y : values.Value I) (tells : ExactScalar n state.entered state.memory y v) where
  abbrev stored : values.Value I
  stored = as_stored n flow.model (stored_value leaf.class y) leaf.class leaf.signed

  fits : Fits base
  fits = let k = p.laid.laid.close b base at in let s = p.laid.laid.small in omega (arith, k, s)

  module _ (after : List (Cell I)) (keeps : (z : ℕ) → (base.first + base_cells base ≤ z → z < base.first + base_values base → ⊥) → cell_at after z ≡ cell_at (put_value row (leaf_position base j) stored) z) where
    place : leaf_position base j ≡ base.first + j
    place = leaf_is base j fits (slice_get_within base.shape.cells j leaf among)

    kept : (z : ℕ) → (z ≡ leaf_position base j → ⊥) → (base.first + base_cells base ≤ z → z < base.first + base_values base → ⊥) → cell_at after z ≡ cell_at row z
    kept z ne far = keeps z far ∙ ap (λ c. unwrap_or c Nothing) (get_set_other row (leaf_position base j) z (Value stored) ne)

    own_value : value_at l n after (leaf_position base j) ≡ near_value l n stored
    unfolding value_at
    own_value =
        let top = slice_get_within base.shape.cells j leaf among in
        let k = p.laid.laid.close b base at in
        let f = p.laid.long in
        let e = place in
        ap (λ c. near_value l n (value_in l c)) (keeps (leaf_position base j) (λ g u. omega (arith, g, e, top)) ∙ cell_put row (leaf_position base j) (Value stored) (omega (arith, e, top, k, f, long)))

    sized : is_size (kind_of flow.model leaf.class leaf.signed).bytes ≡ true
    sized = subst (λ k. is_size k ≡ true) (sym (same_size flow.model leaf.class)) (class_size flow.model leaf.class)

    stored_tells : (s : Scalar) → FitsLeaf leaf s → ExactScalar n state.entered state.memory y s → ExactScalar n state.entered new stored (left_in flow leaf s)
    stored_tells (integer z la) f g =
        let one = x.convert (kind_of flow.model leaf.class leaf.signed) y.num z sized g.number in
        rw f (record { number = one; labels_are = g.labels_are; apart = g.apart; determinate = refl })
    stored_tells (pointer m) f g =
        let moved = scalar_moves n state.entered state.memory new w.lives y (pointer m) g in
        rw f (record { apart = moved.apart; points = moved.points; determinate = refl })

    left_near : (s : Scalar) → ExactScalar n state.entered state.memory y s → IsNearScalar (left_in flow leaf s)
    left_near (integer z la) g =
        let k : IntType = kind_of flow.model leaf.class leaf.signed in
        let one = x.convert k y.num z sized g.number in
        let f = ranges.convert_fits y.num k (left_number flow leaf z) (left_number flow leaf z) sized one in
        type_near k (left_number flow leaf z) (left_number flow leaf z) (left_number flow leaf z) sized f.0 f.1 (omega (arith, ints)) (omega (arith, ints))
    left_near (pointer m) g = tt

    left_within : (s : Scalar) → IsScalarIn new s → IsScalarIn new (left_in flow leaf s)
    left_within (integer z la) g = tt
    left_within (pointer m) g = g

    left_holds : (s : Scalar) → FitsLeaf leaf s → IsWritten state.memory new i leaf.offset leaf.class (class_bytes flow.model leaf.class) (scalar_bytes (class_bytes flow.model leaf.class) s) → HoldsScalar flow new i leaf.offset leaf (Some (left_in flow leaf s))
    left_holds (integer z la) f g = number_written flow state.memory new i leaf z la f g
    left_holds (pointer m) f g = pointer_written flow state.memory new i leaf m f g

    abbrev behind : MachineState
    behind = record { memory = new; temps = state.temps; entered = state.entered }

    own_leaf : ExactLeaf l n flow behind (value_at l n after (leaf_position base j)) i leaf.offset leaf
    own_leaf = record {
      held = Some (left_in flow leaf v);
      holds = left_holds v fit w;
      tells = subst (λ z. ExactScalar n state.entered new z (left_in flow leaf v)) (sym own_value)
          (near_scalar_tells q state.entered new small stored (left_in flow leaf v) (left_within v in_new) (left_near v tells) (stored_tells v fit tells));
    }

    -- the row tells the object's leaves
    abbrev pub AreExact : List (Cell I) → MachineState → Type 0
    AreExact of in_state = (k : ℕ) (other : Leaf) (offset : ℕ) → slice_get base.shape.cells k ≡ Some other → IsPlaceOf other offset → ExactLeaf l n flow in_state (value_at l n of (leaf_position base k)) i offset other

    module _ (told : AreExact row state) where
      other_leaf : (k : ℕ) (other : Leaf) (offset : ℕ) → slice_get base.shape.cells k ≡ Some other → IsPlaceOf other offset → (k ≡ j → ⊥) → ExactLeaf l n flow behind (value_at l n after (leaf_position base k)) i offset other
      other_leaf k other offset e placed ne =
          let was = told k other offset e placed in
          let top = slice_get_within base.shape.cells k other e in
          let there = leaf_is base k fits top in
          let here = place in
          let same = same_value l n row after (leaf_position base k) (kept (leaf_position base k) (λ f. ne (omega (arith, f, there, here))) (λ f g. omega (arith, f, there, top))) in
          subst (λ z. ExactLeaf l n flow behind z i offset other) (sym same) (record {
            held = was.held;
            holds = holds_moves flow state.memory new i offset other (λ y less. w.outside i (offset + y) (λ d f g.
                let begins = place_is flow.model base.shape.cells base.size h single k offset other e placed in
                ne (h.one k j (offset + y) y ((offset + y) - leaf.offset) other leaf e among
                (owned flow.model base.shape.cells base.size h single k (offset + y) y other e (omega (arith, begins)) less)
                (owned flow.model base.shape.cells base.size h single j (offset + y) ((offset + y) - leaf.offset) leaf among (omega (arith, f)) (omega (arith, f, g)))))) was.held was.holds;
            tells = held_moves n state.entered state.memory new w.lives (value_at l n row (leaf_position base k)) was.held was.tells;
          })

      pub stored_leaves : AreExact after behind
      stored_leaves k other offset e placed = elim (cases_eq k j) [
        | inl f ↦ (let same : leaf ≡ other = same_Some leaf other (sym among ∙ (ap (slice_get base.shape.cells) (sym f) ∙ e)) in
            let begins : leaf.offset ≡ offset = ap (λ z. z.offset) same ∙ sym (place_is flow.model base.shape.cells base.size h single k offset other e placed) in
            subst (λ z. ExactLeaf l n flow behind (value_at l n after (leaf_position base z)) i offset other) (sym f)
            (subst (λ z. ExactLeaf l n flow behind (value_at l n after (leaf_position base j)) i z other) begins
            (subst (λ z. ExactLeaf l n flow behind (value_at l n after (leaf_position base j)) i leaf.offset z) same own_leaf)))
        | inr f ↦ other_leaf k other offset e placed f
      ]

    pub stored_state : ExactState l n flow row state → state.entered b ≡ Some i → ((d j : ℕ) → state.entered d ≡ Some j → (d ≡ b → ⊥) → j ≡ i → ⊥) → ExactState l n flow after behind
    stored_state t named names = change_tells l n flow p row after state new b i base at named t (record {
      lives = w.lives;
      others = λ d o ne. w.outside d o (λ e f g. ne e);
      outside = λ z far. let top = slice_get_within base.shape.cells j leaf among in let e = place in kept z (λ f. far (omega (arith, f, e)) (omega (arith, f, e, top))) (λ f g. far (omega (arith, f)) g);
      apart = names;
    }) (stored_leaves (λ k other offset e placed. t.leaves b k i offset base other at e named placed))
