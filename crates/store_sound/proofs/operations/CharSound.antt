-- A load of a character is stood for.
use Rattle.std.proofs.Common.{◌≡◌, ℕ, zero, suc, ◌+◌, ◌<◌, ◌≤◌, Bool, true, false, ◌&&◌, Option, Some, None, List, [], ◌∷◌, length, arith, subst, sym, refl, ap, ◌∙◌, inl, inr, ◌⊎◌, ◌-◌}
use Rattle.std.specs.Prelude.{slice_get, ℤ, count_by}
use Rattle.std.proofs.lemmas.Bool.{cases_Bool, and_from, eq-eqb, or_right, lt-ltb, cases_lt}
use Rattle.std.proofs.lemmas.Option.{slice_get_within, same_Some}
use Rattle.std.proofs.lemmas.List.{length-map}
use Rattle.cc_base.specs.Lattices.{LatticeOf, OrderLaws}
use Rattle.cc_base.specs.IntegerDomains.{IntegersOf, BoundLaws}
use Rattle.cc_base.specs.declared.diagnostics.Rule.TheVariants as rule
use Rattle.c_layout.specs.declared.data_model.Model.{Model}
use Rattle.c_layout.specs.declared.leaf_lists.Class.{Class}
use Rattle.c_layout.specs.declared.leaf_lists.Class.TheVariants.{Char, Short, Int, Long, LongLong, Pointer}
use Rattle.c_layout.specs.declared.leaf_lists.Leaf.{Leaf}
use Rattle.c_layout.specs.declared.shapes.BaseInfo.{BaseInfo}
use Rattle.cfg.specs.declared.machine_instructions.Scalar.TheVariants as of
use Rattle.cfg.specs.declared.machine_instructions.Scalar as declared
use Rattle.cfg.specs.declared.programs.Flow.{Flow}
use Rattle.pointer_domain.specs.BaseSets.{bases_has}
use Rattle.pointer_domain.specs.declared.pointer_sets.Pointers.{Pointers}
use Rattle.value_domain.specs.Values.LabelSets.{all_labels}
use Rattle.value_domain.specs.Values.Values.{value_lattice}
use Rattle.value_domain.specs.declared.values.values.Value.{Value}
use Rattle.value_domain.specs.declared.values.row_cells.Cell.{Cell}
use Rattle.store_cells.specs.declared.cell_reads.Access.{Access}
use Rattle.store_cells.specs.CellReads.{as_read, whole_range, byte_read}
use Rattle.store_cells.specs.ClassNumbers.{same_class, class_number, class_at}
use Rattle.memory_model.specs.Memory.ScalarSizes.{class_bytes}
use Rattle.store_cells.specs.RowPositions.{leaf_position, class_position, value_at, state_at, state_position}
use Rattle.store_objects.specs.LiveBases.{may_be_live}
use Rattle.store.specs.Loads.{load as abstract_load, load_bases, load_own, load_others, is_text}
use Rattle.memory_model.specs.Memory.Bytes.{MachinePointer, Content, Tag, Byte, indeterminate}
use Rattle.memory_model.specs.Memory.Instances.{Memory, live, bytes_at, byte_at, life_at, bytes_of}
use Rattle.store_sound.specs.Concretization.Matching.{Matched, Fits, number_in}
use Rattle.memory_model.specs.Memory.Tags.{fits_tag, fit_from, tag_at}
use Rattle.store_sound.specs.Concretization.Places.{IsPlaceOf, IsLeafPlace, OwnedByLeaf, OwnedByClass, IsClassPlace}
use Rattle.store_sound.specs.Concretization.SoundMemory.{IsContentIn, IsPointerIn, IsWithin}
use Rattle.memory_model.specs.Memory.Scalars.{Scalar, integer, pointer}
use Rattle.store_sound.specs.Concretization.ValueMeaning.{Naming, InGammaPointer, InGammaScalar, InGammaState, InGammaContent}
use Rattle.store_sound.specs.Concretization.RowMeaning.{MachineState, InGammaCell, InGammaClass, InGamma}
use Rattle.memory_model.specs.Effects.Worlds.{World, goes, stopped_by}
use Rattle.memory_model.specs.Effects.ScalarBytes.{region, contents}
use Rattle.memory_model.specs.Effects.Touches.{is_allocated, storage_at}
use Rattle.memory_model.specs.Effects.Accesses.{class_in, scalar_in, load, numbers_in, joined_labels}
use Rattle.store_sound.proofs.operations.Texts.{no_text, byte_flag, read_flag}
use Rattle.store_sound.specs.Operations.Gives.{Gives}
use Rattle.store_sound.specs.Operations.Statements.{state_in}
use Rattle.store_sound.specs.Operations.Scalars.{signed_in}
use Rattle.cc_base.specs.IntegerLaws.{SoundLaws}
use Rattle.store_sound.specs.Operations.Shapes.{AreShaped, at_offset, SeesPadding}
use Rattle.store_sound.proofs.operations.Larger.{value_below, scalar_larger}
use Rattle.store_sound.proofs.operations.Windows.{window_has}
use Rattle.store_sound.proofs.operations.Classes.{class_number_back, class_above, same_class_is, is_same_class}
use Rattle.store_sound.proofs.operations.Selected.{counted_place, uncounted_place}
use Rattle.store_sound.proofs.operations.Slices.{get_there, get_map}
use Rattle.store_sound.proofs.operations.Reading.{region_at, region_length, numbers_at, numbers_length, blank_at}
use Rattle.store_sound.proofs.operations.MachineLoads.{load_goes, load_blank}
use Rattle.store_sound.proofs.operations.CellReads.{Sees, blank_stands, scalar_stands, integer_is}
use Rattle.store_sound.proofs.operations.TagPlaces.{is_tagged}
use Rattle.store_sound.proofs.operations.Reached.{own_gives, bases_give}
-- ---- the instance at hand

use Rattle.c_layout.specs.Leaves.{class_of}
use Rattle.pointer_domain.specs.declared.base_sets.Bases.{Bases}
use Rattle.store_cells.specs.ScalarTypes.{kind_of}
use Rattle.memory_model.specs.Memory.Numbers.{number_of}
use Rattle.store_sound.proofs.operations.LoadSound.{IsRead, live_if, instance_there, base_there, at_leaf, on_heap, into_live, relabelled, relabel_scalar, table}
use Rattle.store_sound.proofs.operations.CharCells.{others_give, class_cells_give, by_leaves, by_classes, by_padding, char_base}
use Rattle.store_sound.proofs.operations.CharValues.{byte_stands, padding_stands}

single_list : {X : Type 0} (xs : List X) (x : X) → length xs ≡ 1 → slice_get xs 0 ≡ Some x → xs ≡ x ∷ []
single_list [] x e f = cc
single_list (y ∷ []) x e f = let d : y ≡ x = cc in ap (λ z. z ∷ []) d
single_list (y ∷ (z ∷ zs)) x e f = absurd (omega arith)

class_size_char : (m : Model) (c : Class) → c ≡ Char → class_bytes m c ≡ 1
class_size_char m c e = ap (class_bytes m) e

one_matched : (memory : Memory) (i offset : ℕ) (class : Class) (cs : List Content) (x : Content) (b : Byte) (k : ℕ) (c : Content) → length cs ≡ 1 → slice_get cs 0 ≡ Some x → byte_at memory i offset ≡ Some b → b.content ≡ x → Fits class 0 b.tag → slice_get cs k ≡ Some c → (k < 1) × Matched memory i (offset + k) class k c
one_matched memory i offset class cs x b zero c l f h w t e =
    let d : x ≡ c = same_Some x c (sym f ∙ e) in
    let g : offset ≡ offset + 0 = omega arith in
    (omega arith, subst (λ z. Matched memory i z class 0 c) g (record { tag = b.tag; here = h ∙ ap (λ z. Some (record { content = z; tag = b.tag })) (w ∙ d); fits = t }))
one_matched memory i offset class cs x b (suc k) c l f h w t e = let y = slice_get_within cs (suc k) c e in absurd (omega arith)

sees_one : (m : Model) (memory : Memory) (i offset : ℕ) (class : Class) (cs : List Content) (x : Content) (b : Byte) → length cs ≡ class_bytes m class → class_bytes m class ≡ 1 → slice_get cs 0 ≡ Some x → byte_at memory i offset ≡ Some b → b.content ≡ x → Fits class 0 b.tag → Sees m memory i offset class cs
sees_one m memory i offset class cs x b l one f h w t = record { long = l; each = λ k c e. let r = one_matched memory i offset class cs x b k c (l ∙ one) f h w t e in let y = r.0 in (omega arith, r.1) }

wide_number : (d : Class) → same_class d Char ≡ false → (j : ℕ) × (j < 5) × (class_number d ≡ j + 1)
wide_number Char h = cc
wide_number Short h = (0, omega arith, refl)
wide_number Int h = (1, omega arith, refl)
wide_number Long h = (2, omega arith, refl)
wide_number LongLong h = (3, omega arith, refl)
wide_number Pointer h = (4, omega arith, refl)

module _ {I : Type 0} {l : LatticeOf I} {n : IntegersOf I} {gamma : I → ℤ → Type 0} (o : OrderLaws l) (q : BoundLaws l n gamma) (flow : Flow) (shaped : AreShaped flow.bases.items) (padding : SeesPadding flow.model flow.bases.items) (naming : Naming) (row : List (Cell I)) (state : MachineState) (s : InGamma l n gamma flow naming row state)
    (access : Access) (char : access.class ≡ Char) (i offset : ℕ) (from : access.window.lo ≤ offset) (to : offset ≤ access.window.hi) (alive : life_at state.memory i ≡ live) (inside : offset + class_bytes flow.model access.class ≤ length (bytes_at state.memory i)) (b : ℕ) (base : BaseInfo) (at : slice_get flow.bases.items b ≡ Some base) (named : naming i ≡ Some b) (byte : Byte) (here : byte_at state.memory i offset ≡ Some byte) {P : Value I → Type 0} (up : (y z : Value I) → (value_lattice l).leq y z ≡ true → P y → P z) (other : (v : Value I) (d : Class) → InGammaContent gamma naming state.memory v d byte.content → P (byte_read l n flow.model v d access.signed)) (pad : P (whole_range l n (kind_of flow.model Char access.signed) all_labels true)) (text : is_text l n base row access.window ≡ true → (v : Value I) → P v → P (record v { indeterminate = v.indeterminate && false })) where
  matched : (d : Class) (k : ℕ) → Fits d k byte.tag → Matched state.memory i offset d k byte.content
  matched d k f = record { tag = byte.tag; here = here; fits = f }

  cell_gives : (d : Class) (k : ℕ) (signed : Bool) (Place Owns : ℕ → ℕ → Type 0) (v : Value I) → InGammaCell gamma flow naming state.memory b d signed Place Owns v → Owns offset k → Fits d k byte.tag → P (byte_read l n flow.model v d access.signed)
  cell_gives d k signed Place Owns v cell owns f = other v d (cell.byte i offset k byte.content (record { named = named; alive = alive }) owns (matched d k f))

  -- a leaf of another class that owns the byte
  other_leaf : (j k : ℕ) (leaf : Leaf) → slice_get base.shape.cells j ≡ Some leaf → OwnedByLeaf flow.model leaf offset k → same_class leaf.class Char ≡ false → Fits leaf.class k byte.tag → Gives P (load_others l n flow.model base row access)
  other_leaf j k leaf e w d f = by_leaves o n up flow.model row access offset from to base
      (others_give o n up flow.model row access offset from to base j leaf k e ((shaped.each b base at).strides j leaf e) w d
      (cell_gives leaf.class k leaf.signed (λ size z. IsPlaceOf leaf z) (OwnedByLeaf flow.model leaf) (value_at l n row (leaf_position base j)) (s.leaves b j base leaf at e) w f))

  -- the class cell of another class
  other_class : (d : Class) (k : ℕ) → base.shape.heap ≡ true → OwnedByClass flow.model base.shape.cells d offset k → same_class d Char ≡ false → Fits d k byte.tag → Gives P (load_others l n flow.model base row access)
  other_class d k heap w e f =
      let m = wide_number d e in
      let h : class_at (m.0 + 1) ≡ d = ap class_at (sym m.2) ∙ class_number_back d in
      let lt = m.1 in
      let cell : InGammaClass gamma flow naming state.memory b base (class_at (m.0 + 1)) (value_at l n row (class_position base (m.0 + 1))) = s.classes b (m.0 + 1) base at heap (omega arith) in
      by_classes o n up flow.model row access offset from to base heap
      (class_cells_give o n up flow.model row access offset from to base m.0 m.1
      (cell_gives (class_at (m.0 + 1)) k true (IsClassPlace flow.model base.shape.cells (class_at (m.0 + 1))) (OwnedByClass flow.model base.shape.cells (class_at (m.0 + 1))) (value_at l n row (class_position base (m.0 + 1))) cell
      (subst (λ z. OwnedByClass flow.model base.shape.cells z offset k) (sym h) w) (subst (λ z. Fits z k byte.tag) (sym h) f)))

  at_start : (count : ℕ) (d : Class) (k : ℕ) → count_by (at_offset d (offset - k)) base.shape.cells ≡ count → base.shape.heap ≡ true → k < class_bytes flow.model d → same_class d Char ≡ false → Fits d k byte.tag → k ≤ offset → Gives P (load_others l n flow.model base row access)
  at_start zero d k h heap sm e f g = other_class d k heap (record { small = sm; no_leaf = λ start w p. uncounted_place base.shape.cells d (offset - k) ((shaped.each b base at).single heap) h (let y : start ≡ offset - k = omega arith in subst (IsLeafPlace base.shape.cells d) y p) }) e f
  at_start (suc r) d k h heap sm e f g =
      let p = counted_place base.shape.cells d (offset - k) r ((shaped.each b base at).single heap) h in
      other_leaf p.at k p.leaf p.among (record { start = offset - k; place = p.place; there = omega arith; small = subst (λ z. k < class_bytes flow.model z) (sym p.same) sm }) (subst (λ z. same_class z Char ≡ false) (sym p.same) e) (subst (λ z. Fits z k byte.tag) (sym p.same) f)

  -- a byte of another class on the heap
  on_heap_other : (d : Class) (k : ℕ) → base.shape.heap ≡ true → k < class_bytes flow.model d → same_class d Char ≡ false → Fits d k byte.tag → Gives P (load_others l n flow.model base row access)
  on_heap_other d k heap sm e f = elim (cases_lt offset k) [
    | inl g ↦ other_class d k heap (record { small = sm; no_leaf = λ start h p. absurd (omega arith) }) e f
    | inr g ↦ at_start (count_by (at_offset d (offset - k)) base.shape.cells) d k refl heap sm e f g
  ]

  -- ---- all bytes

  fits_is : (a : Bool) (d : Class) (tag : Option Tag) → same_class d Char ≡ true → Fits d 0 tag → fits_tag a d 0 tag ≡ true
  fits_is a d None e f = or_right a _ e
  fits_is a d (Some t) e f = and_from _ _ (is_same_class t.class d f.0) (eq-eqb _ _ f.1)

  -- the bytes that are read: this one
  one_byte : region (bytes_at state.memory i) offset (class_bytes flow.model access.class) ≡ byte ∷ []
  unfolding byte_at
  one_byte =
      let e : class_bytes flow.model access.class ≡ 1 = class_size_char flow.model access.class char in
      let bytes : List Byte = bytes_at state.memory i in
      let h = region_length bytes offset (class_bytes flow.model access.class) inside in
      let t = get_there (region bytes offset (class_bytes flow.model access.class)) 0 (omega arith) in
      let r = region_at bytes offset (class_bytes flow.model access.class) 0 offset t.0 t.1 (omega arith) in
      let w : t.0 ≡ byte = same_Some t.0 byte (sym r.1 ∙ here) in
      single_list (region bytes offset (class_bytes flow.model access.class)) byte (h ∙ e) (t.1 ∙ ap Some w)

  module _ (cells : Fits access.class 0 byte.tag → (signed : Bool) (Place Owns : ℕ → ℕ → Type 0) (v : Value I) → InGammaCell gamma flow naming state.memory b access.class signed Place Owns v → Place (length (bytes_at state.memory i)) offset → ((k : ℕ) → k < class_bytes flow.model access.class → Owns (offset + k) k) → P (as_read n flow.model v access.class signed access.signed)) where
    is_char : same_class access.class Char ≡ true
    is_char = is_same_class access.class Char char

    read : Fits access.class 0 byte.tag → IsRead flow.model state.memory access.class i offset
    read f = record {
      alive = alive;
      inside = inside;
      seen = subst (λ z. fit_from (is_allocated (storage_at state.memory i)) access.class 0 z ≡ true) (sym one_byte) (and_from _ _ (fits_is (is_allocated (storage_at state.memory i)) access.class byte.tag is_char f) refl);
    }

    own_leaf : Fits access.class 0 byte.tag → IsLeafPlace base.shape.cells access.class offset → Gives P (load_own l n flow.model base row access)
    own_leaf f p = own_gives o n up flow.model row access offset from to base (shaped.each b base at) (inl (at_leaf o q flow shaped naming row state s up access i offset from to (read f) b base at named (cells f) p))

    own_heap : Fits access.class 0 byte.tag → base.shape.heap ≡ true → Gives P (load_own l n flow.model base row access)
    own_heap f heap = on_heap o q flow shaped naming row state s up access i offset from to (read f) b base at named (cells f) heap (count_by (at_offset access.class offset) base.shape.cells) refl

    in_object : base.shape.heap ≡ false → (tag : Option Tag) → byte.tag ≡ tag → tag_at flow.model base.shape.cells offset ≡ tag → offset < base.size → Gives P (load_own l n flow.model base row access) ⊎ Gives P (load_others l n flow.model base row access)
    in_object heap None e f g = inr (by_padding o n up flow.model row access offset from to base heap (padding b base access.window offset at heap from to g f) pad)
    in_object heap (Some t) e f g =
        let r = is_tagged flow.model base.shape.cells offset t f in
        let fits : Fits r.leaf.class t.at byte.tag = subst (Fits r.leaf.class t.at) (sym e) (r.class, refl) in
        elim (cases_Bool (same_class r.leaf.class Char)) [
          | inr k ↦ inr (other_leaf r.index t.at r.leaf r.among r.owned k fits)
          | inl k ↦ (let h : r.leaf.class ≡ access.class = same_class_is r.leaf.class Char k ∙ sym char in
              let sm = r.owned.small in
              let one = class_size_char flow.model r.leaf.class (same_class_is r.leaf.class Char k) in
              let z : t.at ≡ 0 = omega arith in
              let there = r.owned.there in
              inl (own_leaf (subst (λ y. Fits access.class y byte.tag) z (subst (λ y. Fits y t.at byte.tag) h fits)) (record { leaf = r.leaf; at = r.index; among = r.among; same = h; place = subst (IsPlaceOf r.leaf) (omega arith) r.owned.place })))
        ]

    in_heap : base.shape.heap ≡ true → (tag : Option Tag) → byte.tag ≡ tag → Gives P (load_own l n flow.model base row access) ⊎ Gives P (load_others l n flow.model base row access)
    in_heap heap None e = inl (own_heap (subst (Fits access.class 0) (sym e) tt) heap)
    in_heap heap (Some t) e =
        let sm = s.sane.tags i offset byte t here e in
        elim (cases_Bool (same_class t.class Char)) [
          | inr k ↦ inr (on_heap_other t.class t.at heap sm k (subst (Fits t.class t.at) (sym e) (refl, refl)))
          | inl k ↦ (let h = same_class_is t.class Char k in
              let one = class_size_char flow.model t.class h in
              inl (own_heap (subst (Fits access.class 0) (sym e) (h ∙ sym char, omega arith)) heap))
        ]

    in_base : (heap : Bool) → base.shape.heap ≡ heap → Gives P (load_own l n flow.model base row access) ⊎ Gives P (load_others l n flow.model base row access)
    unfolding byte_at
    in_base true heap = in_heap heap byte.tag refl
    in_base false heap =
        let it = instance_there state.memory i alive in
        let k = s.sane.instances i b base it.0 named at it.1 in
        let e = k.tags heap offset byte (sym (ap (λ z. slice_get (bytes_of z) offset) it.1) ∙ here) in
        let len : length (bytes_at state.memory i) ≡ base.size = ap (λ z. length (bytes_of z)) it.1 ∙ k.size heap in
        let one = class_above flow.model access.class in
        in_object heap byte.tag refl (sym e) (omega arith)

    pub char_reaches : (set : Bases) → bases_has set b ≡ true → Gives P (load_bases l n flow.model flow.bases.items row set access)
    char_reaches set has =
        let f = shaped.few in
        let w = slice_get_within flow.bases.items b base at in
        let live_base : may_be_live l n base row ≡ true = live_if base.shape.heap _ (λ e.
        let y = s.states b i base at e named in
        (subst (λ z. InGammaState gamma naming state.memory (state_at l n row (state_position base)) z (length (bytes_at state.memory i))) alive y).1) in
        bases_give o n up flow.model row access offset from to flow.bases.items set b base at
        (and_from _ _ (and_from _ _ (lt-ltb _ _ (omega arith)) has) live_base)
        (char_base o n up flow.model row access offset from to base is_char text (in_base base.shape.heap refl))

module _ {I : Type 0} {l : LatticeOf I} {n : IntegersOf I} {gamma : I → ℤ → Type 0} (o : OrderLaws l) (q : BoundLaws l n gamma) (c : SoundLaws l n gamma) (flow : Flow) (shaped : AreShaped flow.bases.items) (padding : SeesPadding flow.model flow.bases.items) (naming : Naming) (row : List (Cell I)) (w : World) (temps : ℕ → Option Scalar) (entered : ℕ → Option ℕ) (s : InGamma l n gamma flow naming row (state_in w temps entered)) where
  first_of : (bytes : List Byte) (k : ℕ) (ct : Content) → slice_get (contents bytes) k ≡ Some ct → (y : Byte) × (slice_get bytes k ≡ Some y) × (y.content ≡ ct)
  first_of bytes k ct e = get_map (λ z. z.content) bytes k ct e

  pub char_stands : (p : Pointers I) (at : MachinePointer) (kind : declared.Scalar) (v : Scalar) (u : World) → same_class (class_in kind) Char ≡ true → InGammaPointer gamma naming w.memory p at → IsPointerIn w.memory at → load flow.model kind (pointer at) w ≡ goes v u → Gives (λ y. InGammaScalar gamma naming w.memory y v) (table l n flow row p kind)
  unfolding abstract_load byte_at
  char_stands p at of.Pointer v u e st inside h = cc
  char_stands p at (of.Int k) v u e st inside h =
      let kind : declared.Scalar = of.Int k in
      let class : Class = class_of k in
      let char : class ≡ Char = same_class_is class Char e in
      let size : ℕ = class_bytes flow.model class in
      let one : size ≡ 1 = class_size_char flow.model class char in
      let g = load_goes flow.model kind at w u v h in
      let r = g.1 in
      let cs : List Content = g.0 in
      let t = into_live o q c flow shaped naming row w temps entered s p r.i r.offset r.lo r.hi r.alive (subst (InGammaPointer gamma naming w.memory p) r.pointer st) in
      let ins : IsWithin w.memory r.i r.offset r.lo r.hi = subst (IsPointerIn w.memory) r.pointer inside in
      let d = ins.within in
      let m = s.sane.small r.i in
      let below = r.below in
      let z = window_has q p size r.offset r.lo r.hi t.lower t.relative t.room r.above r.below (omega arith) in
      let base = base_there flow.bases.items t.base (s.sane.few r.i t.base t.named) in
      let bytes : List Byte = region (bytes_at w.memory r.i) r.offset size in
      let len : length bytes ≡ size = region_length (bytes_at w.memory r.i) r.offset size (omega arith) in
      let f = integer_is (numbers_in cs) k v g.3 in
      let csl : length cs ≡ size = ap length r.here ∙ (length-map bytes (λ b. b.content) ∙ len) in
      let nsl : length f.0 ≡ 1 = numbers_length cs f.0 f.1 ∙ (csl ∙ one) in
      let x = get_there f.0 0 (omega arith) in
      let only : f.0 ≡ x.0 ∷ [] = single_list f.0 x.0 nsl x.1 in
      let ct : slice_get cs 0 ≡ Some (number_in x.0) = numbers_at cs f.0 0 x.0 f.1 x.1 in
      let y = first_of bytes 0 (number_in x.0) (subst (λ a. slice_get a 0 ≡ Some (number_in x.0)) r.here ct) in
      let rg = region_at (bytes_at w.memory r.i) r.offset size 0 r.offset y.0 y.1 (omega arith) in
      let access : Access = record { class = class; signed = k.signed; window = z.window } in
      let is_v : v ≡ integer (number_of k.signed (x.0 ∷ [])) (joined_labels (x.0 ∷ [])) = f.2 ∙ ap (λ a. integer (number_of k.signed a) (joined_labels a)) only in
      let found : scalar_in kind cs ≡ Some (integer (number_of k.signed (x.0 ∷ [])) (joined_labels (x.0 ∷ []))) = g.3 ∙ ap Some is_v in
      let low : x.0.number < 256 = subst (λ z. IsContentIn w.memory z y.0.tag) y.2 (s.sane.bytes r.i r.offset y.0 rg.1) in
      let res = char_reaches o q flow shaped padding naming row (state_in w temps entered) s access char r.i r.offset z.from z.to r.alive (omega arith) t.base base.0 base.1 t.named y.0 rg.1 {P = λ b. InGammaScalar gamma naming w.memory b (integer (number_of k.signed (x.0 ∷ [])) (joined_labels (x.0 ∷ [])))}
      (λ a b h. scalar_larger q naming w.memory a b (integer (number_of k.signed (x.0 ∷ [])) (joined_labels (x.0 ∷ []))) (value_below l a b h))
      (λ vv d h. byte_stands o q flow.model naming w.memory vv d k.signed x.0 low (subst (InGammaContent gamma naming w.memory vv d) y.2 h))
      (padding_stands o q flow.model naming w.memory k.signed x.0 low) (λ t vv h. h)
      (λ fits signed Place Owns vv cell place owns. scalar_stands c flow naming w.memory s.sane t.base class signed Place Owns vv cell r.i r.offset (record { named = t.named; alive = r.alive }) place owns cs (sees_one flow.model w.memory r.i r.offset class cs (number_in x.0) y.0 csl one ct rg.1 y.2 fits) kind (integer (number_of k.signed (x.0 ∷ [])) (joined_labels (x.0 ∷ []))) refl found) p.bases t.among in
      subst (λ a. Gives (λ b. InGammaScalar gamma naming w.memory b a) (table l n flow row p kind)) (sym is_v)
      (rw z.is (relabelled o q c flow shaped naming row w temps entered s class _ (λ a b. relabel_scalar o q c flow shaped naming row w temps entered s kind a (integer (number_of k.signed (x.0 ∷ [])) (joined_labels (x.0 ∷ []))) cs found b) res))

  -- where the machine stops at an indeterminate character, the value says so: the window lies in no text up to its first zero
  pub char_blank : (p : Pointers I) (at : MachinePointer) (kind : declared.Scalar) → same_class (class_in kind) Char ≡ true → InGammaPointer gamma naming w.memory p at → IsPointerIn w.memory at → load flow.model kind (pointer at) w ≡ stopped_by w rule.Uninitref → Gives (λ y. y.indeterminate ≡ true) (table l n flow row p kind)
  unfolding abstract_load byte_at
  char_blank p at kind e st inside h =
      let class : Class = class_in kind in
      let char : class ≡ Char = same_class_is class Char e in
      let size : ℕ = class_bytes flow.model class in
      let one : size ≡ 1 = class_size_char flow.model class char in
      let g = load_blank flow.model kind at w h in
      let r = g.1 in
      let cs : List Content = g.0 in
      let t = into_live o q c flow shaped naming row w temps entered s p r.i r.offset r.lo r.hi r.alive (subst (InGammaPointer gamma naming w.memory p) r.pointer st) in
      let ins : IsWithin w.memory r.i r.offset r.lo r.hi = subst (IsPointerIn w.memory) r.pointer inside in
      let d = ins.within in
      let m = s.sane.small r.i in
      let below = r.below in
      let z = window_has q p size r.offset r.lo r.hi t.lower t.relative t.room r.above r.below (omega arith) in
      let base = base_there flow.bases.items t.base (s.sane.few r.i t.base t.named) in
      let bytes : List Byte = region (bytes_at w.memory r.i) r.offset size in
      let len : length bytes ≡ size = region_length (bytes_at w.memory r.i) r.offset size (omega arith) in
      let csl : length cs ≡ size = ap length r.here ∙ (length-map bytes (λ b. b.content) ∙ len) in
      let hole = blank_at cs g.2 in
      let in_cs = slice_get_within cs hole.0 indeterminate hole.1 in
      let zeroth : hole.0 ≡ 0 = omega arith in
      let ct : slice_get cs 0 ≡ Some indeterminate = subst (λ k. slice_get cs k ≡ Some indeterminate) zeroth hole.1 in
      let y = first_of bytes 0 indeterminate (subst (λ a. slice_get a 0 ≡ Some indeterminate) r.here ct) in
      let rg = region_at (bytes_at w.memory r.i) r.offset size 0 r.offset y.0 y.1 (omega arith) in
      let access : Access = record { class = class; signed = signed_in kind; window = z.window } in
      let res = char_reaches o q flow shaped padding naming row (state_in w temps entered) s access char r.i r.offset z.from z.to r.alive (omega arith) t.base base.0 base.1 t.named y.0 rg.1 {P = λ b. b.indeterminate ≡ true}
      (λ a b k. (value_below l a b k).indeterminate)
      (λ vv d k. byte_flag l n flow.model vv d (signed_in kind) (subst (InGammaContent gamma naming w.memory vv d) y.2 k))
      refl
      (λ text vv k. absurd (no_text q flow naming row (state_in w temps entered) s r.i r.offset t.base base.0 base.1 (record { named = t.named; alive = r.alive }) z.window z.from z.to y.0 rg.1 y.2 text))
      (λ fits signed Place Owns vv cell place owns. read_flag n flow.model vv class signed (signed_in kind) (blank_stands c flow naming w.memory s.sane t.base class signed Place Owns vv cell r.i r.offset (record { named = t.named; alive = r.alive }) place owns cs (sees_one flow.model w.memory r.i r.offset class cs indeterminate y.0 csl one ct rg.1 y.2 fits) g.2)) p.bases t.among in
      rw z.is (relabelled o q c flow shaped naming row w temps entered s class _ (λ a b. b) res)
