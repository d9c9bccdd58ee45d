-- The row behind a copy of a struct tells the state behind it.
use Rattle.std.proofs.Common.{◌≡◌, ℕ, ◌+◌, ◌-◌, ◌<◌, ◌≤◌, Some, List, length, arith, subst, sym, refl, ap, ◌∙◌, inl, inr}
use Rattle.std.specs.Prelude.{slice_get, ℤ}
use Rattle.std.proofs.lemmas.Bool.{cases_lt}
use Rattle.std.proofs.lemmas.Option.{same_Some, slice_get_within}
use Rattle.cc_base.specs.Lattices.{LatticeOf, OrderLaws}
use Rattle.cc_base.specs.IntegerDomains.{IntegersOf, BoundLaws, RangeLaws}
use Rattle.c_layout.specs.StructViews.{StructView, structs_view}
use Rattle.c_layout.specs.declared.leaf_lists.Leaf.{Leaf}
use Rattle.c_layout.specs.declared.shapes.BaseInfo.{BaseInfo}
use Rattle.cfg.specs.WellFormed.{base_values}
use Rattle.cfg.specs.declared.programs.Flow.{Flow}
use Rattle.value_domain.specs.declared.values.row_cells.Cell.{Cell}
use Rattle.store_cells.specs.CellReads.{as_stored}
use Rattle.store_cells.specs.NearValues.{near_value}
use Rattle.store_cells.specs.RowPositions.{leaf_position, cell_at, value_in, value_at}
use Rattle.memory_model.specs.Memory.Bytes.{Content, Byte}
use Rattle.memory_model.specs.Memory.Instances.{Memory, bytes_at, byte_at}
use Rattle.memory_model.specs.Memory.ScalarSizes.{class_bytes}
use Rattle.memory_model.specs.Memory.Tags.{tag_of, tag_at}
use Rattle.store_sound.specs.Concretization.Matching.{Fits, Matched}
use Rattle.store_sound.specs.Concretization.Places.{IsPlaceOf}
use Rattle.store_sound.specs.Concretization.RowMeaning.{MachineState}
use Rattle.store_sound.specs.Concretization.SoundMemory.{IsContentIn}
use Rattle.store_sound.proofs.operations.Classes.{class_above}
use Rattle.store_sound.proofs.operations.Near.{value_at_near}
use Rattle.store_sound.proofs.operations.Slices.{get_there}
use Rattle.store_sound.proofs.operations.StoreRows.{leaf_is}
use Rattle.store_sound.proofs.operations.StoreValues.{same_value}
use Rattle.store_sound.specs.Programs.Premises.{HasPremises}
use Rattle.store_sound.specs.Regions.RegionWrites.{IsRegion}
use Rattle.struct_copies_sound.proofs.leaves.Structs.{owned_at}
use Rattle.struct_copies_sound.specs.Leaves.StructLeaves.{IsStruct}
use Rattle.struct_copies_sound.specs.Structs.StructTables.{IsListed}
use Rattle.transfer_exact.specs.Values.ExactNumbers.{ExactLaws}
use Rattle.transfer_exact.specs.Values.SingleRows.{IsPlainProgram, ExactLeaf, ExactState}
use Rattle.transfer_exact.specs.Values.SingleValues.{ExactHeld}
use Rattle.transfer_exact.proofs.places.OneLeaf.{owned, place_is}
use Rattle.transfer_exact.specs.Accesses.TypedAccesses.{HasObjects}
use Rattle.transfer_exact.proofs.accesses.Moves.{held_moves, holds_moves, change_tells}
use Rattle.transfer_exact.specs.Spelling.TypedCopies.{HasOwnLeaf}
use Rattle.run_exact.proofs.structs.CopiedRows as rows
use Rattle.run_exact.proofs.structs.CopiedRows.{IsSide, leaves, base_fits, inside, own}
use Rattle.run_exact.proofs.structs.CopiedValues.{copied_holds, copied_tells}

-- a byte of the target, and where it comes from
pub record Came (old : Memory) (i offset j at x : ℕ) (y : Byte) : Type 0 where
  pub was : Byte
  pub source : Byte
  pub there : byte_at old i x ≡ Some was
  pub from : byte_at old j (at + (x - offset)) ≡ Some source
  pub content : y.content ≡ source.content
  pub tag : y.tag ≡ was.tag

module _ {I : Type 0} {l : LatticeOf I} {n : IntegersOf I} {gamma : I → ℤ → Type 0} (order : OrderLaws l) (q : BoundLaws l n gamma) (ranges : RangeLaws l n) (exact : ExactLaws n)
    (flow : Flow) (p : HasPremises flow) (objects : HasObjects flow) (plain : IsPlainProgram flow) (index : ℕ) (view : StructView) (listed : IsListed flow.model (structs_view flow.structs) index view)
    (b d : ℕ) (target source : BaseInfo) (o a : ℕ) (t : IsSide flow index view b target o) (s : IsSide flow index view d source a)
    (apart : (x : ℕ) → d ≡ b → o ≤ x → x < o + view.size → a ≤ x → x < a + view.size → o ≡ a)
    (row : List (Cell I)) (wide : p.laid.behind ≤ length row) (state : MachineState) (st : ExactState l n flow row state) (sane : (i offset : ℕ) (byte : Byte) → byte_at state.memory i offset ≡ Some byte → IsContentIn state.memory byte.content byte.tag)
    (i j : ℕ) (en : state.entered b ≡ Some i) (en_source : state.entered d ≡ Some j) (names : (c k : ℕ) → state.entered c ≡ Some k → (c ≡ b → ⊥) → k ≡ i → ⊥)
    (new : Memory) (region : IsRegion state.memory new i o view.size) (tagged : (x : ℕ) (was : Byte) → byte_at state.memory i x ≡ Some was → was.tag ≡ tag_at flow.model target.shape.cells x)
    (came : (x : ℕ) (y : Byte) → o ≤ x → x < o + view.size → byte_at new i x ≡ Some y → Came state.memory i o j a x y)
    (after : List (Cell I))
    (made : (number : ℕ) (leaf : Leaf) (e : slice_get (rows.leaves flow p objects plain index view listed) number ≡ Some leaf) → cell_at after (rows.to_place flow p objects plain index view listed b d target source o a t s apart number leaf e) ≡ rows.moved flow p objects plain index view listed b d target source o a t s apart l n row wide number leaf e)
    (kept : (x : ℕ) → (target.first + length target.shape.cells ≤ x → x < target.first + base_values target → ⊥) → ((number : ℕ) (leaf : Leaf) (e : slice_get (rows.leaves flow p objects plain index view listed) number ≡ Some leaf) → x ≡ rows.to_place flow p objects plain index view listed b d target source o a t s apart number leaf e → ⊥) → cell_at after x ≡ cell_at row x) where
  abbrev behind : MachineState
  behind = record { memory = new; temps = state.temps; entered = state.entered }

  struct : IsStruct flow.model target.shape.cells target.size
  struct = objects b target t.at

  single : (k : ℕ) (leaf : Leaf) → slice_get target.shape.cells k ≡ Some leaf → leaf.count ≡ 1
  single k leaf e = plain.apart b k target leaf t.at e

  single_source : (k : ℕ) (leaf : Leaf) → slice_get source.shape.cells k ≡ Some leaf → leaf.count ≡ 1
  single_source k leaf e = plain.apart d k source leaf s.at e

  -- ---- a leaf of the struct

  module _ (number : ℕ) (leaf : Leaf) (e : slice_get (leaves flow p objects plain index view listed) number ≡ Some leaf) where
    abbrev own_to : HasOwnLeaf flow index view target o leaf
    own_to = own flow p objects plain index view listed b target o t number leaf e

    abbrev own_from : HasOwnLeaf flow index view source a leaf
    own_from = own flow p objects plain index view listed d source a s number leaf e

    class : own_from.own.class ≡ own_to.own.class
    class = own_from.same.class ∙ sym own_to.same.class

    signed : own_from.own.signed ≡ own_to.own.signed
    signed = own_from.same.signed ∙ sym own_to.same.signed

    moves : (k : ℕ) (c : Content) → k < class_bytes flow.model own_to.own.class → Matched state.memory j (own_from.own.offset + k) own_from.own.class k c → Matched new i (own_to.own.offset + k) own_to.own.class k c
    unfolding byte_at
    moves k c small m =
        let once = own_to.same.alone in
        let same_to : class_bytes flow.model own_to.own.class ≡ class_bytes flow.model leaf.class = ap (class_bytes flow.model) own_to.same.class in
        let in_struct = listed.struct.inside number (leaf.offset + k) k leaf e (record { start = leaf.offset; place = record { turn = 0; few = omega (arith, once); there = omega arith }; there = refl; small = omega (arith, small, same_to) }) in
        let there_to = own_to.same.there in
        let there_from = own_from.same.there in
        let fits = region.fits in
        let long = region.lengths i in
        let y = get_there (bytes_at new i) (own_to.own.offset + k) (omega (arith, there_to, in_struct, fits, long)) in
        let w = came (own_to.own.offset + k) y.0 (omega (arith, there_to)) (omega (arith, there_to, in_struct)) y.1 in
        let back : a + ((own_to.own.offset + k) - o) ≡ own_from.own.offset + k = omega (arith, there_to, there_from) in
        let source_is : w.source ≡ record { content = c; tag = m.tag } = same_Some w.source (record { content = c; tag = m.tag }) (sym w.from ∙ (ap (slice_get (bytes_at state.memory j)) back ∙ m.here)) in
        let content : y.0.content ≡ c = w.content ∙ ap (λ z. z.content) source_is in
        let tag : y.0.tag ≡ tag_of own_to.own.class k = w.tag ∙ (tagged (own_to.own.offset + k) w.was w.there
        ∙ owned_at flow.model target.shape.cells target.size struct own_to.number (own_to.own.offset + k) k own_to.own own_to.among (owned flow.model target.shape.cells target.size struct single own_to.number (own_to.own.offset + k) k own_to.own own_to.among refl small)) in
        let made_byte : Content → Byte = λ z. record { content = z; tag = y.0.tag } in
        record { tag = y.0.tag; here = y.1 ∙ ap (λ z. Some (made_byte z)) content; fits = subst (Fits own_to.own.class k) (sym tag) (refl, refl) }

    value_is : value_at l n after (leaf_position target own_to.number) ≡ near_value l n (as_stored n flow.model (near_value l n (value_at l n row (leaf_position source own_from.number))) own_to.own.class own_to.own.signed)
    unfolding value_at rows.place rows.stored
    value_is = ap (λ c. near_value l n (value_in l c)) (made number leaf e)

    place_from : IsPlaceOf own_from.own own_from.own.offset
    place_from = let c = single_source own_from.number own_from.own own_from.among in record { turn = 0; few = omega (arith, c); there = omega arith }

    struct_leaf : ExactLeaf l n flow behind (value_at l n after (leaf_position target own_to.number)) i own_to.own.offset own_to.own
    struct_leaf =
        let was = st.leaves d own_from.number j own_from.own.offset source own_from.own s.at own_from.among en_source place_from in
        let tells = copied_tells order q ranges exact flow state.entered state.memory sane j own_from.own.offset own_from.own (value_at l n row (leaf_position source own_from.number)) (value_at_near order q row (leaf_position source own_from.number)) was.held was.holds was.tells in
        let of_class : ExactHeld n state.entered state.memory (near_value l n (as_stored n flow.model (near_value l n (value_at l n row (leaf_position source own_from.number))) own_to.own.class own_to.own.signed)) was.held =
        subst (λ z. ExactHeld n state.entered state.memory (near_value l n (as_stored n flow.model (near_value l n (value_at l n row (leaf_position source own_from.number))) own_to.own.class z)) was.held) signed
        (subst (λ z. ExactHeld n state.entered state.memory (near_value l n (as_stored n flow.model (near_value l n (value_at l n row (leaf_position source own_from.number))) z own_from.own.signed)) was.held) class tells) in
        record {
          held = was.held;
          holds = copied_holds flow state.memory new j own_from.own.offset i own_to.own.offset own_from.own own_to.own class signed moves was.held was.holds;
          tells = held_moves n state.entered state.memory new region.lives (value_at l n after (leaf_position target own_to.number)) was.held (subst (λ z. ExactHeld n state.entered state.memory z was.held) (sym value_is) of_class);
        }

  -- ---- a leaf of the target

  module _ (k : ℕ) (leaf : Leaf) (at : slice_get target.shape.cells k ≡ Some leaf) where
    abbrev IsExact : ℕ → Type 0
    IsExact offset = ExactLeaf l n flow behind (value_at l n after (leaf_position target k)) i offset leaf

    in_struct : o ≤ leaf.offset → leaf.offset < o + view.size → IsExact leaf.offset
    in_struct from below =
        let x = t.there.only k leaf.offset 0 leaf at from below (owned flow.model target.shape.cells target.size struct single k leaf.offset 0 leaf at (omega arith) (class_above flow.model leaf.class)) in
        let z = own flow p objects plain index view listed b target o t x.number x.leaf x.among in
        let g = x.same.there in
        let h = z.same.there in
        let same : z.number ≡ k = struct.one z.number k leaf.offset 0 0 z.own leaf z.among at
        (owned flow.model target.shape.cells target.size struct single z.number leaf.offset 0 z.own z.among (omega (arith, g, h)) (class_above flow.model z.own.class))
        (owned flow.model target.shape.cells target.size struct single k leaf.offset 0 leaf at (omega arith) (class_above flow.model leaf.class)) in
        let leaf_same : z.own ≡ leaf = same_Some z.own leaf (sym z.among ∙ (ap (slice_get target.shape.cells) same ∙ at)) in
        let told = struct_leaf x.number x.leaf x.among in
        subst (λ y. ExactLeaf l n flow behind (value_at l n after (leaf_position target y)) i leaf.offset leaf) same
        (subst (λ y. ExactLeaf l n flow behind (value_at l n after (leaf_position target z.number)) i y.offset y) leaf_same told)

    outside : (leaf.offset < o + view.size → o ≤ leaf.offset → ⊥) → (offset : ℕ) → IsPlaceOf leaf offset → IsExact offset
    outside far offset placed =
        let begins = place_is flow.model target.shape.cells target.size struct single k offset leaf at placed in
        let was = st.leaves b k i offset target leaf t.at at en placed in
        let top = slice_get_within target.shape.cells k leaf at in
        let there = leaf_is target k (base_fits flow p objects plain index view listed b target t.at) top in
        let same = same_value l n row after (leaf_position target k) (kept (leaf_position target k) (λ f g. omega (arith, f, there, top)) (λ number y e f. not_place number y e f)) in
        subst (λ z. ExactLeaf l n flow behind z i offset leaf) (sym same) (record {
          held = was.held;
          holds = holds_moves flow state.memory new i offset leaf (λ y less. region.outside i (offset + y) (λ f from below.
              let x = t.there.only k (offset + y) y leaf at from below (owned flow.model target.shape.cells target.size struct single k (offset + y) y leaf at (omega (arith, begins)) less) in
              let g = x.same.there in
              let small = inside flow p objects plain index view listed x.number x.leaf x.among in
              far (omega (arith, g, small)) (omega (arith, g)))) was.held was.holds;
          tells = held_moves n state.entered state.memory new region.lives (value_at l n row (leaf_position target k)) was.held was.tells;
        })
      where
        not_place : (number : ℕ) (y : Leaf) (e : slice_get (leaves flow p objects plain index view listed) number ≡ Some y) → leaf_position target k ≡ rows.to_place flow p objects plain index view listed b d target source o a t s apart number y e → ⊥
        not_place number y e f =
            let z = own flow p objects plain index view listed b target o t number y e in
            let u = rows.place_is flow p objects plain index view listed b target o t number y e in
            let u0 = u.0 in
            let top = slice_get_within target.shape.cells k leaf at in
            let there = leaf_is target k (base_fits flow p objects plain index view listed b target t.at) top in
            let same : z.number ≡ k = omega (arith, f, u0, there) in
            let leaf_same : z.own ≡ leaf = same_Some z.own leaf (sym z.among ∙ (ap (slice_get target.shape.cells) same ∙ at)) in
            let offset : z.own.offset ≡ leaf.offset = ap (λ y. y.offset) leaf_same in
            let g = z.same.there in
            let small = inside flow p objects plain index view listed number y e in
            far (omega (arith, offset, g, small)) (omega (arith, offset, g))

    any_leaf : (offset : ℕ) → IsPlaceOf leaf offset → IsExact offset
    any_leaf offset placed = elim (cases_lt leaf.offset o) [
      | inl less ↦ outside (λ f g. omega (arith, less, g)) offset placed
      | inr from ↦ elim (cases_lt leaf.offset (o + view.size)) [
        | inr far ↦ outside (λ f g. omega (arith, far, f)) offset placed
        | inl below ↦ subst IsExact (sym (place_is flow.model target.shape.cells target.size struct single k offset leaf at placed)) (in_struct from below)
      ]
    ]

  pub copied_state : ExactState l n flow after behind
  copied_state = change_tells l n flow p row after state new b i target t.at en st (record {
    lives = region.lives;
    others = λ c x ne. region.outside c x (λ f from below. ne f);
    outside = λ x far. kept x (λ f g. far (omega (arith, f)) g) (λ number leaf e f.
        let u = rows.place_is flow p objects plain index view listed b target o t number leaf e in
        let u0 = u.0 in
        let u1 = u.1 in
        far (omega (arith, f, u0)) (omega (arith, f, u0, u1)));
    apart = names;
  }) any_leaf_of
    where
      any_leaf_of : (k : ℕ) (leaf : Leaf) (offset : ℕ) → slice_get target.shape.cells k ≡ Some leaf → IsPlaceOf leaf offset → ExactLeaf l n flow behind (value_at l n after (leaf_position target k)) i offset leaf
      any_leaf_of k leaf offset e placed = any_leaf k leaf e offset placed
