-- What a text that is spelled makes of each leaf stands for the bytes that are written.
use Rattle.std.proofs.Common.{◌≡◌, ℕ, zero, suc, ◌+◌, ◌-◌, ◌*◌, ◌^◌, ◌<◌, ◌≤◌, Bool, true, false, cond, not, ◌==◌, Option, Some, None, List, length, arith, subst, sym, refl, ap, ◌∙◌}
use Rattle.std.specs.Prelude.{slice_get, ℤ, max}
use Rattle.std.proofs.lemmas.Bool.Decides.{nat_tests}
use Rattle.std.proofs.lemmas.Bool.{and_parts, and_from, eqb-true, leb-true, ltb-true, true≢false}
use Rattle.std.proofs.lemmas.Option.{same_Some, slice_get_within}
use Rattle.cc_base.specs.Lattices.{LatticeOf, OrderLaws}
use Rattle.cc_base.specs.IntegerDomains.{IntegersOf, BoundLaws}
use Rattle.c_layout.specs.declared.leaf_lists.Class.{Class}
use Rattle.c_layout.specs.declared.leaf_lists.Class.TheVariants.{Char}
use Rattle.c_layout.specs.declared.leaf_lists.Leaf.{Leaf}
use Rattle.cfg.specs.ModelKinds.{same_class}
use Rattle.cfg.specs.declared.programs.Flow.{Flow}
use Rattle.value_domain.specs.Values.Values.{value_order}
use Rattle.value_domain.specs.declared.values.values.Value as values
use Rattle.value_domain.specs.declared.values.row_cells.Cell.{Cell}
use Rattle.store_cells.specs.AccessWindows.{window_between}
use Rattle.store_cells.specs.ClassNumbers.{is_pointer}
use Rattle.store.specs.LeafSelection.{has_place_in, is_selected}
use Rattle.store_cells.specs.RowPositions.{capped, value_at, put_value, join_value, write_value}
use Rattle.store.specs.Spelling.{character, character_number, written_window, begins_at, is_one_place, is_spelled, one_character, characters, spell_cell, spell_leaf_at}
use Rattle.transfer_sound.specs.StoreLaws.{AreBytes}
use Rattle.memory_model.specs.Memory.Labels.{no_labels}
use Rattle.memory_model.specs.Memory.ScalarSizes.{class_bytes}
use Rattle.memory_model.specs.Memory.Bytes.{Content, number, Byte}
use Rattle.memory_model.specs.Memory.Instances.{Memory, byte_at}
use Rattle.memory_model.specs.Memory.Numbers.{Labelled, number_of}
use Rattle.memory_model.specs.Memory.Tags.{tag_of}
use Rattle.store_sound.specs.Concretization.Matching.{Fits, Matched, number_in, Holds}
use Rattle.store_sound.specs.Concretization.Places.{IsPlaceOf, OwnedByLeaf}
use Rattle.store_sound.specs.Concretization.ValueMeaning.{Naming, InGammaContent}
use Rattle.store_sound.specs.Concretization.RowMeaning.{IsLiveOf, InGammaLeaf}
use Rattle.store_sound.proofs.operations.Classes.{same_class_is, is_same_class, class_above}
use Rattle.store_sound.proofs.operations.Larger.{value_below}
use Rattle.store_sound.proofs.operations.Near.{IsNearValue, value_at_near}
use Rattle.store_sound.proofs.operations.Selected.{place_selected, single_in}
use Rattle.store_sound.proofs.operations.Slices.{get_there}
use Rattle.store_sound.proofs.operations.StoreValues.{written, join_is}
use Rattle.store_sound.specs.Regions.RegionWrites.{IsRegion}
use Rattle.store_sound.proofs.regions.ByteRegions.{write_is}
use Rattle.store_sound.proofs.regions.Regions.{cell_rewritten, cell_joined, cell_covered}
use Rattle.library_sound.proofs.spelling.Texts.{one_number, near_characters, near_one, hull_stands}

not_zero : (k : ℕ) → 0 < k → not (k == 0) ≡ true
not_zero zero h = absurd (omega (arith, h))
not_zero (suc k) h = let e : (suc k == 0) ≡ false = grind (arith, nat_tests) in ap not e

some_of : (k : ℕ) → not (k == 0) ≡ true → 0 < k
some_of zero h = cc
some_of (suc k) h = omega arith

number_or : Content → ℕ
number_or (number k la) = k
number_or _ = 0

number_is : (y : Labelled) (k : ℕ) → number_in y ≡ number k no_labels → y.number ≡ k
unfolding number_or
number_is y k e = ap number_or e

char_bytes : (m : _) (class : Class) → class ≡ Char → class_bytes m class ≡ 1
char_bytes m class e = ap (class_bytes m) e

char_plain : (class : Class) → class ≡ Char → is_pointer class ≡ false
char_plain class e = ap is_pointer e

-- what was written: the characters of the text, under the tags of characters
pub record IsText (new : Memory) (i offset count : ℕ) (text : List ℕ) : Type 0 where
  pub content : (a : ℕ) (x : Byte) → offset ≤ a → a < offset + count → byte_at new i a ≡ Some x → x.content ≡ number (character text (a - offset)) no_labels
  pub tag : (a : ℕ) (x : Byte) → offset ≤ a → a < offset + count → byte_at new i a ≡ Some x → x.tag ≡ tag_of Char 0
  pub last : offset + count ≤ 2 ^ 64 - 1

module _ {I : Type 0} {l : LatticeOf I} {n : IntegersOf I} {gamma : I → ℤ → Type 0} (o : OrderLaws l) (q : BoundLaws l n gamma) (flow : Flow) (naming : Naming) {old new : Memory} {i offset count : ℕ} (s : IsRegion old new i offset count) (text : List ℕ) (small : AreBytes text) (k : IsText new i offset count text)
    (b : ℕ) (single : (j : ℕ) → IsLiveOf naming old b j → j ≡ i) (leaf : Leaf) (stride : 0 < leaf.stride) where
  abbrev Place : ℕ → ℕ → Type 0
  Place size a = IsPlaceOf leaf a

  abbrev Owns : ℕ → ℕ → Type 0
  Owns = OwnedByLeaf flow.model leaf

  -- ---- what the leaf has of the text

  -- a byte of the region is seen as one of the leaf: it is a character at a place of the leaf
  record IsMet (a y : ℕ) (content : Content) : Type 0 where
    class : leaf.class ≡ Char
    first : y ≡ 0
    is : content ≡ number (character text (a - offset)) no_labels

  by_tag : (y : ℕ) (tag : Option _) → Fits leaf.class y tag → tag ≡ tag_of Char 0 → (leaf.class ≡ Char) × (y ≡ 0)
  by_tag y None h e = cc
  by_tag y (Some tag) h e = let f = same_Some tag (record { class = Char; at = 0 }) e in (sym h.0 ∙ ap (λ z. z.class) f, sym h.1 ∙ ap (λ z. z.at) f)

  met : (a y : ℕ) (content : Content) → offset ≤ a → a < offset + count → Matched new i a leaf.class y content → IsMet a y content
  met a y content from to m =
      let one : Byte = record { content = content; tag = m.tag } in
      let r = by_tag y m.tag m.fits (k.tag a one from to m.here) in
      record { class = r.0; first = r.1; is = k.content a one from to m.here }

  selected : (a : ℕ) → leaf.class ≡ Char → IsPlaceOf leaf a → offset ≤ a → a < offset + count → is_spelled leaf offset count ≡ true
  selected a class place from to =
      let last = k.last in
      and_from _ _ (not_zero count (omega (arith, from, to)))
      (and_from _ _ (is_same_class leaf.class Char class) (place_selected leaf (written_window offset count) a place stride from (omega (arith, from, to, last))))

  -- a scalar that has a byte of the region
  record IsWhole (a : ℕ) (ns : List Labelled) : Type 0 where
    class : leaf.class ≡ Char
    from : offset ≤ a
    to : a < offset + count
    number : number_of leaf.signed ns ≡ character_number (character text (a - offset)) leaf.signed

  whole : (a : ℕ) (ns : List Labelled) → 0 < count → a < offset + count → offset < a + class_bytes flow.model leaf.class → Holds flow.model new i a leaf.class ns → IsWhole a ns
  whole a ns some to from h =
      let x : ℕ = max a offset in
      let y : ℕ = x - a in
      let size = h.size in
      let wide = class_above flow.model leaf.class in
      let labelled = get_there ns y (omega (arith, from, size, wide)) in
      let inside = slice_get_within ns y labelled.0 labelled.1 in
      let r = met (a + y) y (number_in labelled.0) (omega arith) (omega (arith, some, to)) (h.each y labelled.0 inside labelled.1) in
      let first = r.first in
      let one : length ns ≡ 1 = size ∙ char_bytes flow.model leaf.class r.class in
      let at : a + y ≡ a = omega (arith, first) in
      let zero_at : y ≡ 0 = first in
      record {
        class = r.class;
        from = omega (arith, first);
        to = to;
        number = one_number leaf.signed (character text (a - offset)) ns one (λ z e.
            let same : labelled.0 ≡ z = same_Some labelled.0 z (sym labelled.1 ∙ (ap (slice_get ns) zero_at ∙ e)) in
            sym (ap (λ w. w.number) same) ∙ number_is labelled.0 (character text (a - offset)) (r.is ∙ ap (λ w. number (character text (w - offset)) no_labels) at));
      }

  owned : (a y : ℕ) → y ≡ 0 → Owns a y → IsPlaceOf leaf a
  owned a y e w = let there = w.there in let same : w.start ≡ a = omega (arith, there, e) in subst (IsPlaceOf leaf) same w.place

  -- ---- a leaf of which nothing is spelled

  unspelled : is_spelled leaf offset count ≡ false → (v : values.Value I) → InGammaLeaf gamma flow naming old b leaf v → InGammaLeaf gamma flow naming new b leaf v
  unspelled none v cell = cell_rewritten q flow naming s b leaf.class leaf.signed Place Owns v v cell
      (λ j a u p e. value_below l v v ((value_order o).reflexive v))
      (λ j a y u p e. value_below l v v ((value_order o).reflexive v))
      (λ a ns u p some to from e h. let r = whole a ns some to from h in absurd (true≢false (sym (selected a r.class p r.from r.to) ∙ none)))
      (λ a y content u w from to m. let r = met a y content from to m in absurd (true≢false (sym (selected a r.class (owned a y r.first w) from to) ∙ none)))

  -- ---- a leaf that is spelled

  module _ (class : leaf.class ≡ Char) (v : values.Value I) (bare : (content : Content) → (d : ℕ) → content ≡ number d no_labels → InGammaContent gamma naming new v leaf.class content) where
    new_byte : (a y : ℕ) (content : Content) → IsLiveOf naming old b i → Owns a y → offset ≤ a → a < offset + count → Matched new i a leaf.class y content → InGammaContent gamma naming new v leaf.class content
    new_byte a y content u w from to m = bare content (character text (a - offset)) (met a y content from to m).is

  characters_bare : (count : ℕ) → leaf.class ≡ Char → (content : Content) (d : ℕ) → content ≡ number d no_labels → InGammaContent gamma naming new (characters l n leaf offset count text) leaf.class content
  unfolding characters
  characters_bare count class content d e = subst (InGammaContent gamma naming new (characters l n leaf offset count text) leaf.class) (sym e) (refl, λ f. absurd (true≢false (sym f ∙ char_plain leaf.class class)))

  one_bare : leaf.class ≡ Char → (content : Content) (d : ℕ) → content ≡ number d no_labels → InGammaContent gamma naming new (one_character l n leaf offset text) leaf.class content
  unfolding one_character
  one_bare class content d e = subst (InGammaContent gamma naming new (one_character l n leaf offset text) leaf.class) (sym e) (refl, λ f. absurd (true≢false (sym f ∙ char_plain leaf.class class)))

  characters_number : (a : ℕ) (ns : List Labelled) → IsPlaceOf leaf a → IsWhole a ns → gamma (characters l n leaf offset count text).num (number_of leaf.signed ns)
  unfolding characters
  characters_number a ns place r =
      let from = r.from in
      let to = r.to in
      let last = k.last in
      let at : capped (offset + (a - offset)) ≡ a = omega (arith, from, to, last) in
      subst (gamma (characters l n leaf offset count text).num) (sym r.number)
      (hull_stands o q leaf offset text small count (a - offset) (omega (arith, from, to)) (subst (λ z. begins_at leaf z ≡ true) (sym at) (place_selected leaf (window_between a a) a place stride (omega arith) (omega arith))))

  joined : leaf.class ≡ Char → (y : values.Value I) → IsNearValue l n y → InGammaLeaf gamma flow naming old b leaf y → InGammaLeaf gamma flow naming new b leaf (written l n flow.model y (characters l n leaf offset count text) false)
  joined class y fine cell = cell_joined o q flow naming s b leaf.class leaf.signed Place Owns (characters l n leaf offset count text) (near_characters o q leaf offset text small count)
      (λ a ns u p some to from e h. characters_number a ns p (whole a ns some to from h))
      (new_byte class (characters l n leaf offset count text) (characters_bare count class)) y fine cell

  module _ (class : leaf.class ≡ Char) (one : leaf.count ≡ 1) (from : offset ≤ leaf.offset) (to : leaf.offset < offset + count) where
    at_start : (a : ℕ) → IsPlaceOf leaf a → a ≡ leaf.offset
    at_start a place =
        let few = place.few in
        let e : place.turn ≡ 0 = omega (arith, few, one) in
        place.there ∙ (ap (λ z. leaf.offset + leaf.stride * z) e ∙ omega arith)

    one_stands : (a : ℕ) (ns : List Labelled) → IsPlaceOf leaf a → IsWhole a ns → gamma (one_character l n leaf offset text).num (number_of leaf.signed ns)
    unfolding one_character
    one_stands a ns place r = subst (gamma (one_character l n leaf offset text).num) (sym (r.number ∙ ap (λ z. character_number (character text (z - offset)) leaf.signed) (at_start a place))) (q.one_stands (character_number (character text (leaf.offset - offset)) leaf.signed))

    covered : (y : values.Value I) → InGammaLeaf gamma flow naming old b leaf y → InGammaLeaf gamma flow naming new b leaf (written l n flow.model y (one_character l n leaf offset text) true)
    covered y cell =
        let wide = class_above flow.model leaf.class in
        let narrow = char_bytes flow.model leaf.class class in
        cell_covered o q flow naming s b leaf.class leaf.signed Place Owns (one_character l n leaf offset text) (near_one o q leaf offset text small)
        (λ a ns u p some below above e h. one_stands a ns p (whole a ns some below above h))
        (new_byte class (one_character l n leaf offset text) (one_bare class)) y cell
        (λ j a u p. let e = at_start a p in (single j u, omega (arith, from, to), omega (arith, e, to), omega (arith, e, from, wide)))
        (λ j a y u w.
        let e = at_start w.start w.place in
        let sum = w.there in
        let few = w.small in
        (single j u, omega (arith, sum, e, from), omega (arith, sum, e, to, few, narrow)))

  -- ---- the row

  module _ (p : ℕ) (row : List (Cell I)) (there : p < length row) (cell : InGammaLeaf gamma flow naming old b leaf (value_at l n row p)) where
    abbrev After : List (Cell I) → Type 0
    After r = InGammaLeaf gamma flow naming new b leaf (value_at l n r p)

    module _ (spelled : is_spelled leaf offset count ≡ true) where
      parts : (0 < count) × (leaf.class ≡ Char) × (has_place_in leaf (written_window offset count) ≡ true)
      parts =
          let a = and_parts (not (count == 0)) (is_selected leaf Char (written_window offset count)) spelled in
          let c = and_parts (same_class leaf.class Char) (has_place_in leaf (written_window offset count)) a.1 in
          (some_of count a.0, same_class_is leaf.class Char c.0, c.1)

      by_place : (one : Bool) → is_one_place leaf ≡ one → After (cond one (put_value row p (one_character l n leaf offset text)) (join_value l n row p (characters l n leaf offset count text)))
      unfolding write_value
      by_place true e =
          let some = parts.0 in
          let last = k.last in
          let d = eqb-true leaf.count 1 e in
          let inside = single_in leaf (written_window offset count) d (omega (arith, some, last)) parts.2 in
          let w = and_parts _ _ inside in
          let from = leb-true _ _ w.0 in
          let to = ltb-true _ _ w.1 in
          subst (InGammaLeaf gamma flow naming new b leaf) (sym (write_is l n flow.model row p (one_character l n leaf offset text) true there))
          (covered parts.1 d from (omega (arith, to, some, last)) (value_at l n row p) cell)
      by_place false e = subst (InGammaLeaf gamma flow naming new b leaf) (sym (join_is l n flow.model row p (characters l n leaf offset count text) there))
          (joined parts.1 (value_at l n row p) (value_at_near o q row p) cell)

    by_spelled : (spelled : Bool) → is_spelled leaf offset count ≡ spelled → After (cond spelled (spell_cell l n row p leaf offset count text) row)
    unfolding spell_cell
    by_spelled true e = by_place e (is_one_place leaf) refl
    by_spelled false e = unspelled e (value_at l n row p) cell

    pub leaf_spelled : After (spell_leaf_at l n offset count text leaf p row)
    unfolding spell_leaf_at
    leaf_spelled = by_spelled (is_spelled leaf offset count) refl
