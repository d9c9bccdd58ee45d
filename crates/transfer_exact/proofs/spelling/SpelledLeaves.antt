-- What the leaves of an object tell behind a text that is spelled into it.
use Rattle.std.proofs.Common.{◌≡◌, ℕ, zero, suc, ◌+◌, ◌-◌, ◌^◌, ◌<◌, ◌≤◌, Bool, true, false, cond, not, ◌==◌, Some, List, length, arith, subst, sym, refl, ap, ◌∙◌}
use Rattle.std.specs.Prelude.{slice_get, ℤ}
use Rattle.std.specs.List.{list_all}
use Rattle.std.proofs.lemmas.Bool.{and_parts, and_from, leb-true, ltb-true, true≢false, ne_eqb}
use Rattle.cc_base.specs.Lattices.{LatticeOf}
use Rattle.cc_base.specs.IntegerDomains.{IntegersOf, BoundLaws}
use Rattle.c_layout.specs.declared.leaf_lists.Class.TheVariants.{Char}
use Rattle.c_layout.specs.declared.leaf_lists.Leaf.{Leaf}
use Rattle.c_layout.specs.declared.shapes.BaseInfo.{BaseInfo}
use Rattle.cfg.specs.BaseShapes.{ends_by, is_room_or_apart, has_room}
use Rattle.cfg.specs.ModelKinds.{same_class}
use Rattle.cfg.specs.WellFormed.{base_values}
use Rattle.cfg.specs.declared.programs.Flow.{Flow}
use Rattle.value_domain.specs.declared.values.row_cells.Cell.{Cell}
use Rattle.store.specs.LeafSelection.{has_place_in, is_selected}
use Rattle.store_cells.specs.NearValues.{near_value}
use Rattle.store_cells.specs.RowPositions.{leaf_position, value_at}
use Rattle.store.specs.Spelling.{written_count, character, written_window, is_spelled, one_character, spell_object}
use Rattle.memory_model.specs.Memory.Bytes.{number, Byte}
use Rattle.memory_model.specs.Memory.Instances.{Memory, Instance, bytes_of, bytes_at, byte_at}
use Rattle.memory_model.specs.Memory.Labels.{no_labels}
use Rattle.memory_model.specs.Memory.ScalarSizes.{class_bytes}
use Rattle.memory_model.specs.Memory.Tags.{tag_of}
use Rattle.memory_model.specs.Effects.ScalarBytes.{refilled}
use Rattle.memory_model.specs.Effects.Touches.{set_bytes}
use Rattle.store_sound.specs.Concretization.Matching.{Matched}
use Rattle.store_sound.specs.Concretization.RowMeaning.{MachineState}
use Rattle.store_sound.specs.Concretization.SoundMemory.{IsInstanceOf}
use Rattle.store_sound.proofs.operations.Classes.{class_above, same_class_is, is_same_class}
use Rattle.store_sound.proofs.operations.Selected.{place_selected, single_in}
use Rattle.store_sound.proofs.operations.Slices.{get_there}
use Rattle.store_sound.proofs.operations.StoreRows.{Fits}
use Rattle.store_sound.specs.Programs.Premises.{HasPremises}
use Rattle.store_sound.proofs.regions.ContentRegions.{IsWritten, contents_written}
use Rattle.store_sound.proofs.programs.ShapedBases.{ends_inside}
use Rattle.struct_copies_sound.proofs.leaves.Structs.{owned_at}
use Rattle.struct_copies_sound.specs.SpellSteps.{SpellsBytes}
use Rattle.struct_copies_sound.proofs.Texts.{contents, contents_long, content_is}
use Rattle.transfer_exact.specs.Values.SingleRows.{IsPlainProgram, ExactLeaf}
use Rattle.transfer_exact.proofs.places.HeldReads.{inside}
use Rattle.transfer_exact.proofs.places.OneLeaf.{owned}
use Rattle.transfer_exact.specs.Accesses.TypedAccesses.{HasObjects}
use Rattle.transfer_exact.proofs.accesses.Moves.{held_moves, holds_moves}
use Rattle.transfer_exact.proofs.spelling.CharacterLeaves.{tag_of_character, character_leaf}
use Rattle.transfer_exact.proofs.spelling.SpelledRows.{spelled_value}

some_of : (k : ℕ) → not (k == 0) ≡ true → 0 < k
some_of zero h = cc
some_of (suc k) h = omega arith

not_zero : (k : ℕ) → 0 < k → not (k == 0) ≡ true
not_zero k h = ap not (ne_eqb k 0 (λ (e : k ≡ 0). omega (arith, h, e)))

module _ {I : Type 0} {l : LatticeOf I} {n : IntegersOf I} {gamma : I → ℤ → Type 0} (q : BoundLaws l n gamma) (flow : Flow) (p : HasPremises flow) (objects : HasObjects flow) (plain : IsPlainProgram flow) (row : List (Cell I)) (long : length row ≡ flow.width) (state : MachineState)
    (b i offset room : ℕ) (text : List ℕ) (info : BaseInfo) (at : slice_get flow.bases.items b ≡ Some info) (fitting : has_room offset room (Some info) ≡ true) (h : SpellsBytes flow b offset room text) (it : Instance) (there : slice_get state.memory i ≡ Some it) (known : IsInstanceOf flow.model info it) where
  abbrev old : Memory
  old = state.memory

  abbrev new : Memory
  new = set_bytes old i (refilled (bytes_at old i) offset (contents room text))

  abbrev count : ℕ
  count = written_count room text

  abbrev after : List (Cell I)
  after = spell_object l n offset room text info row

  abbrev behind : MachineState
  behind = record { memory = new; temps = state.temps; entered = state.entered }

  single : (j : ℕ) (leaf : Leaf) → slice_get info.shape.cells j ≡ Some leaf → leaf.count ≡ 1
  single j leaf e = plain.apart b j info leaf at e

  declared : info.shape.heap ≡ false
  declared = plain.no_heap b info at

  size_is : length (bytes_at old i) ≡ info.size
  size_is = ap (λ z. length (bytes_of z)) there ∙ known.size declared

  room_inside : offset + room ≤ length (bytes_at old i)
  room_inside =
      let a = and_parts (ends_by offset room info.size) (list_all (is_room_or_apart offset room) info.shape.zeros) fitting in
      let c = ends_inside offset room info.size a.0 in
      let d = size_is in
      omega (arith, c, d)

  wholly : offset + length (contents room text) ≤ length (bytes_at old i)
  wholly = let a = contents_long room text in let c = room_inside in omega (arith, a, c)

  pub written : IsWritten old new i offset (contents room text)
  written = contents_written old i offset (contents room text) it there wholly

  last : offset + count ≤ 2 ^ 64 - 1
  last = let c = room_inside in let e = size_is in let small = (objects b info at).small in omega (arith, c, e, small)

  fits : Fits info
  fits = let k = p.laid.laid.close b info at in let small = p.laid.laid.small in omega (arith, k, small)

  wide : info.first + base_values info ≤ length row
  wide = let k = p.laid.laid.close b info at in let far = p.laid.long in omega (arith, k, far, long)

  -- the row tells the object's leaves
  abbrev pub AreExact : List (Cell I) → MachineState → Type 0
  AreExact of in_state = (j : ℕ) (leaf : Leaf) → slice_get info.shape.cells j ≡ Some leaf → ExactLeaf l n flow in_state (value_at l n of (leaf_position info j)) i leaf.offset leaf

  module _ (told : AreExact row state) (j : ℕ) (leaf : Leaf) (e : slice_get info.shape.cells j ≡ Some leaf) where
    stride : 0 < leaf.stride
    stride = let f = ((objects b info at).plain j leaf e).fits in let a = class_above flow.model leaf.class in omega (arith, f, a)

    -- a byte of the leaf in the text is its one byte, a character
    met : (k : ℕ) → k < class_bytes flow.model leaf.class → offset ≤ leaf.offset + k → leaf.offset + k < offset + count → (leaf.class ≡ Char) × (k ≡ 0)
    met k small from to = tag_of_character leaf.class k
        (sym (owned_at flow.model info.shape.cells info.size (objects b info at) j (leaf.offset + k) k leaf e (owned flow.model info.shape.cells info.size (objects b info at) single j (leaf.offset + k) k leaf e refl small))
        ∙ h.over info at (leaf.offset + k) from (omega (arith, to)))

    selected : leaf.class ≡ Char → offset ≤ leaf.offset → leaf.offset < offset + count → is_spelled leaf offset count ≡ true
    selected class from to =
        let far = last in
        let c = single j leaf e in
        and_from _ _ (not_zero count (omega (arith, from, to)))
        (and_from _ _ (is_same_class leaf.class Char class) (place_selected leaf (written_window offset count) leaf.offset (record { turn = 0; few = omega (arith, c); there = omega arith }) stride from (omega (arith, from, to, far))))

    record IsIn : Type 0 where
      class : leaf.class ≡ Char
      from : offset ≤ leaf.offset
      to : leaf.offset < offset + count

    is_in : is_spelled leaf offset count ≡ true → IsIn
    is_in g =
        let a = and_parts (not (count == 0)) (is_selected leaf Char (written_window offset count)) g in
        let c = and_parts (same_class leaf.class Char) (has_place_in leaf (written_window offset count)) a.1 in
        let some = some_of count a.0 in
        let far = last in
        let inside = and_parts _ _ (single_in leaf (written_window offset count) (single j leaf e) (omega (arith, some, far)) c.1) in
        let from = leb-true _ _ inside.0 in
        let to = ltb-true _ _ inside.1 in
        record { class = same_class_is leaf.class Char c.0; from = from; to = omega (arith, to, some, far) }

    abbrev byte : ℕ
    byte = character text (leaf.offset - offset)

    tag_there : (x : Byte) → byte_at old i leaf.offset ≡ Some x → 0 < class_bytes flow.model leaf.class → x.tag ≡ tag_of leaf.class 0
    unfolding byte_at
    tag_there x f above = known.tags declared leaf.offset x (sym (ap (λ z. slice_get (bytes_of z) leaf.offset) there) ∙ f)
        ∙ owned_at flow.model info.shape.cells info.size (objects b info at) j leaf.offset 0 leaf e (owned flow.model info.shape.cells info.size (objects b info at) single j leaf.offset 0 leaf e (omega arith) above)

    -- the byte that is written
    own_byte : IsIn → Matched new i leaf.offset leaf.class 0 (number byte no_labels)
    own_byte w =
        let from = w.from in
        let to = w.to in
        let long = contents_long room text in
        let above = class_above flow.model leaf.class in
        let x = get_there (contents room text) (leaf.offset - offset) (omega (arith, from, to, long)) in
        let is = content_is room text (leaf.offset - offset) x.0 x.1 in
        let b2 = written.inside (leaf.offset - offset) x.0 x.1 in
        let place : offset + (leaf.offset - offset) ≡ leaf.offset = omega (arith, from) in
        let was : byte_at old i leaf.offset ≡ Some b2.0 = subst (λ z. byte_at old i z ≡ Some b2.0) place b2.1 in
        let tag : b2.0.tag ≡ tag_of leaf.class 0 = tag_there b2.0 was above in
        record {
          tag = tag_of leaf.class 0;
          here = subst (λ z. byte_at new i z ≡ Some (record (b2.0) { content = x.0 })) place b2.2 ∙ (λ k. Some (record { content = is k; tag = tag k }));
          fits = (refl, refl);
        }

    own_leaf : IsIn → ExactLeaf l n flow behind (near_value l n (one_character l n leaf offset text)) i leaf.offset leaf
    own_leaf w = character_leaf q flow behind i leaf offset text h.bytes w.class (own_byte w)

    unspelled_leaf : is_spelled leaf offset count ≡ false → ExactLeaf l n flow behind (value_at l n row (leaf_position info j)) i leaf.offset leaf
    unspelled_leaf none =
        let c = single j leaf e in
        let was = told j leaf e in
        let long = contents_long room text in
        record {
          held = was.held;
          holds = holds_moves flow old new i leaf.offset leaf (λ k small. written.region.outside i (leaf.offset + k) (λ d from to.
              let m = met k small from (omega (arith, to, long)) in
              let first = m.1 in
              absurd (true≢false (sym (selected m.0 (omega (arith, first, from)) (omega (arith, first, to, long))) ∙ none)))) was.held was.holds;
          tells = held_moves n state.entered old new written.region.lives (value_at l n row (leaf_position info j)) was.held was.tells;
        }

    by_spelled : (y : Bool) → is_spelled leaf offset count ≡ y → ExactLeaf l n flow behind (cond y (near_value l n (one_character l n leaf offset text)) (value_at l n row (leaf_position info j))) i leaf.offset leaf
    by_spelled true g = own_leaf (is_in g)
    by_spelled false g = unspelled_leaf g

    pub spelled_leaves : ExactLeaf l n flow behind (value_at l n after (leaf_position info j)) i leaf.offset leaf
    spelled_leaves = subst (λ z. ExactLeaf l n flow behind z i leaf.offset leaf) (sym (spelled_value l n flow info fits offset room text row wide j leaf e (single j leaf e) (is_spelled leaf offset count) refl)) (by_spelled (is_spelled leaf offset count) refl)
