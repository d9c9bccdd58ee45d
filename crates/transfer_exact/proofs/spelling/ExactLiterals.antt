-- The row of the entry tells the bytes of string literals, whatever it had before.
use Rattle.std.proofs.Common.{◌≡◌, ℕ, ◌+◌, ◌-◌, ◌<◌, ◌≤◌, ◌^◌, true, false, not, Some, List, [], ◌∷◌, ◌++◌, length, arith, subst, sym, refl, ap, ◌∙◌}
use Rattle.std.specs.Prelude.{slice_get, ℤ}
use Rattle.std.proofs.lemmas.Bool.{and_from, ne_eqb}
use Rattle.cc_base.specs.Lattices.{LatticeOf}
use Rattle.cc_base.specs.IntegerDomains.{IntegersOf, BoundLaws}
use Rattle.c_layout.specs.declared.leaf_lists.Class.TheVariants.{Char}
use Rattle.c_layout.specs.declared.leaf_lists.Leaf.{Leaf}
use Rattle.c_layout.specs.declared.shapes.BaseInfo.{BaseInfo}
use Rattle.cfg.specs.WellFormed.{base_values}
use Rattle.cfg.specs.declared.programs.Flow.{Flow}
use Rattle.value_domain.specs.declared.values.row_cells.Cell.{Cell}
use Rattle.store_cells.specs.NearValues.{near_value}
use Rattle.store_objects.specs.ObjectLives.{at_base}
use Rattle.store_cells.specs.RowPositions.{leaf_position, value_at}
use Rattle.store.specs.Spelling.{written_count, character, written_window, is_spelled, one_character, spell_object, spell}
use Rattle.memory_model.specs.Memory.Bytes.{Content, number, Byte}
use Rattle.memory_model.specs.Memory.Instances.{Instance, bytes_of, bytes_at, byte_at}
use Rattle.memory_model.specs.Memory.Labels.{no_labels}
use Rattle.memory_model.specs.Memory.ScalarSizes.{class_bytes}
use Rattle.memory_model.specs.Memory.Tags.{tag_of}
use Rattle.memory_model.specs.Effects.ObjectEffects as effects
use Rattle.memory_model.specs.Effects.Touches.{is_allocated}
use Rattle.memory_model.specs.Effects.UnitStarts.{character_byte}
use Rattle.store_sound.specs.Concretization.Matching.{Matched}
use Rattle.store_sound.specs.Concretization.Places.{IsPlaceOf}
use Rattle.store_sound.specs.Concretization.RowMeaning.{MachineState}
use Rattle.store_sound.specs.Concretization.SoundMemory.{IsMemoryOf, IsInstanceOf, storage_for}
use Rattle.store_sound.specs.Concretization.ValueMeaning.{Naming}
use Rattle.store_sound.proofs.operations.Classes.{class_above, is_same_class}
use Rattle.store_sound.proofs.operations.LoadSound.{instance_there}
use Rattle.store_sound.proofs.operations.MachineStores.{take_at}
use Rattle.store_sound.proofs.operations.Selected.{place_selected}
use Rattle.store_sound.proofs.operations.Slices.{get_there, get_map}
use Rattle.store_sound.proofs.operations.StoreRows.{Fits}
use Rattle.store_sound.specs.Programs.Premises.{HasPremises}
use Rattle.struct_copies_sound.proofs.leaves.Structs.{owned_at}
use Rattle.struct_copies_sound.proofs.Texts.{content_is}
use Rattle.entry_sound.specs.Starts.Literals.{IsLiteralObject}
use Rattle.transfer_exact.specs.Values.SingleRows.{IsPlainProgram, ExactLeaf}
use Rattle.transfer_exact.proofs.places.OneLeaf.{owned, place_is}
use Rattle.transfer_exact.specs.Accesses.TypedAccesses.{HasObjects}
use Rattle.transfer_exact.proofs.spelling.CharacterLeaves.{tag_of_character, character_leaf}
use Rattle.transfer_exact.proofs.spelling.SpelledRows.{spelled_value}

module _ {I : Type 0} {l : LatticeOf I} {n : IntegersOf I} {gamma : I → ℤ → Type 0} (q : BoundLaws l n gamma) (flow : Flow) (p : HasPremises flow) (objects : HasObjects flow) (plain : IsPlainProgram flow) (naming : Naming) (state : MachineState) (sane : IsMemoryOf flow.model flow.bases.items naming state.memory)
    (b i : ℕ) (info : BaseInfo) (text : List ℕ) (object : IsLiteralObject flow naming state.memory b i info text) (row : List (Cell I)) (long : length row ≡ flow.width) where
  abbrev after : List (Cell I)
  after = spell l n flow.bases.items b 0 info.size text row

  abbrev all : List Content
  all = effects.characters text ++ number 0 no_labels ∷ []

  single : (j : ℕ) (leaf : Leaf) → slice_get info.shape.cells j ≡ Some leaf → leaf.count ≡ 1
  single j leaf e = plain.apart b j info leaf object.among e

  declared : info.shape.heap ≡ false
  declared = sym (p.shaped.each b info object.among).kind ∙ ap (λ k. is_allocated (storage_for k)) object.kind

  it : (x : Instance) × (slice_get state.memory i ≡ Some x)
  it = instance_there state.memory i object.alive

  known : IsInstanceOf flow.model info it.0
  known = sane.instances i b info it.0 object.named object.among it.1

  size_is : length (bytes_at state.memory i) ≡ info.size
  size_is = ap (λ z. length (bytes_of z)) it.1 ∙ known.size declared

  small : info.size ≤ 2 ^ 64 - 1
  small = let a = sane.small i in let c = size_is in omega (arith, a, c)

  count_is : written_count info.size text ≡ info.size
  count_is = let e = object.size in omega (arith, e)

  fits : Fits info
  fits = let k = p.laid.laid.close b info object.among in let s = p.laid.laid.small in omega (arith, k, s)

  wide : info.first + base_values info ≤ length row
  wide = let k = p.laid.laid.close b info object.among in let far = p.laid.long in omega (arith, k, far, long)

  module _ (j : ℕ) (leaf : Leaf) (e : slice_get info.shape.cells j ≡ Some leaf) where
    above : 0 < class_bytes flow.model leaf.class
    above = class_above flow.model leaf.class

    inside : leaf.offset < info.size
    inside = (objects b info object.among).inside j leaf.offset 0 leaf e (owned flow.model info.shape.cells info.size (objects b info object.among) single j leaf.offset 0 leaf e (omega arith) above)

    record IsCharacter : Type 0 where
      byte : Byte
      there : byte_at state.memory i leaf.offset ≡ Some byte
      content : byte.content ≡ number (character text (leaf.offset - 0)) no_labels
      tag : byte.tag ≡ tag_of Char 0
      own : byte.tag ≡ tag_of leaf.class 0

    is_character : IsCharacter
    unfolding byte_at
    is_character =
        let size = size_is in
        let within = inside in
        let x = get_there (bytes_at state.memory i) leaf.offset (omega (arith, size, within)) in
        let c = get_map character_byte all leaf.offset x.0 (sym (ap (λ z. slice_get z leaf.offset) object.bytes) ∙ x.1) in
        let is = content_is info.size text leaf.offset c.0 (take_at info.size all leaf.offset within ∙ c.1) in
        let z : leaf.offset ≡ leaf.offset - 0 = omega arith in
        record {
          byte = x.0;
          there = x.1;
          content = sym (ap (λ y. y.content) c.2) ∙ (is ∙ ap (λ y. number (character text y) no_labels) z);
          tag = sym (ap (λ y. y.tag) c.2);
          own = known.tags declared leaf.offset x.0 (sym (ap (λ z. slice_get (bytes_of z) leaf.offset) it.1) ∙ x.1)
              ∙ owned_at flow.model info.shape.cells info.size (objects b info object.among) j leaf.offset 0 leaf e (owned flow.model info.shape.cells info.size (objects b info object.among) single j leaf.offset 0 leaf e (omega arith) above);
        }

    class : leaf.class ≡ Char
    class = let k = is_character in (tag_of_character leaf.class 0 (sym k.own ∙ k.tag)).0

    selected : is_spelled leaf 0 (written_count info.size text) ≡ true
    selected =
        let within = inside in
        let far = small in
        let count = count_is in
        let c = single j leaf e in
        let f = ((objects b info object.among).plain j leaf e).fits in
        let a = above in
        and_from _ _ (ap not (ne_eqb (written_count info.size text) 0 (λ (g : written_count info.size text ≡ 0). omega (arith, g, count, within))))
        (and_from _ _ (is_same_class leaf.class Char class) (place_selected leaf (written_window 0 (written_count info.size text)) leaf.offset (record { turn = 0; few = omega (arith, c); there = omega arith }) (omega (arith, f, a)) (omega arith) (omega (arith, within, far, count))))

    own_byte : Matched state.memory i leaf.offset leaf.class 0 (number (character text (leaf.offset - 0)) no_labels)
    own_byte =
        let k = is_character in
        record { tag = tag_of leaf.class 0; here = k.there ∙ (λ x. Some (record { content = k.content x; tag = k.own x })); fits = (refl, refl) }

    value_is : value_at l n after (leaf_position info j) ≡ near_value l n (one_character l n leaf 0 text)
    unfolding spell
    value_is = ap (λ z. value_at l n (at_base (spell_object l n 0 info.size text) z row) (leaf_position info j)) object.among
        ∙ spelled_value l n flow info fits 0 info.size text row wide j leaf e (single j leaf e) true selected

    pub literal_leaf : (x : ℕ) → IsPlaceOf leaf x → ExactLeaf l n flow state (value_at l n after (leaf_position info j)) i x leaf
    literal_leaf x place = subst (λ z. ExactLeaf l n flow state (value_at l n after (leaf_position info j)) i z leaf) (sym (place_is flow.model info.shape.cells info.size (objects b info object.among) single j x leaf e place))
        (subst (λ z. ExactLeaf l n flow state z i leaf.offset leaf) (sym value_is) (character_leaf q flow state i leaf 0 text object.small class own_byte))
