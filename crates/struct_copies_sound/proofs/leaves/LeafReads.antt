-- What the read of a leaf of a copied struct gives, where a row tells of its bytes in the source.
use Rattle.std.proofs.Common.{◌≡◌, ℕ, ◌+◌, ◌-◌, ◌<◌, ◌≤◌, true, false, Some, List, [], ◌∷◌, length, arith, subst, sym, refl, ap, ◌∙◌, inl, inr}
use Rattle.std.specs.Prelude.{slice_get, ℤ}
use Rattle.std.proofs.lemmas.Bool.{cases_Bool, true≢false}
use Rattle.std.proofs.lemmas.Option.{same_Some}
use Rattle.cc_base.specs.Lattices.{LatticeOf, OrderLaws}
use Rattle.cc_base.specs.IntegerDomains.{IntegersOf, BoundLaws}
use Rattle.cc_base.specs.IntegerLaws.{SoundLaws}
use Rattle.c_layout.specs.declared.leaf_lists.Class.{Class}
use Rattle.c_layout.specs.declared.leaf_lists.Class.TheVariants.{Char}
use Rattle.c_layout.specs.declared.leaf_lists.Leaf.{Leaf}
use Rattle.cfg.specs.declared.programs.Flow.{Flow}
use Rattle.value_domain.specs.Values.LabelSets.{all_labels}
use Rattle.value_domain.specs.Values.Values.{value_lattice}
use Rattle.value_domain.specs.declared.values.values.Value.{Value}
use Rattle.value_domain.specs.declared.values.row_cells.Cell.{Cell}
use Rattle.store_cells.specs.CellReads.{whole_range, byte_read}
use Rattle.store_cells.specs.ClassNumbers.{is_pointer}
use Rattle.store_cells.specs.RowPositions.{value_at}
use Rattle.store_cells.specs.ScalarTypes.{kind_of}
use Rattle.memory_model.specs.Memory.ScalarSizes.{class_bytes, same_class}
use Rattle.memory_model.specs.Memory.Bytes.{Content, indeterminate, number, part, Byte}
use Rattle.memory_model.specs.Memory.Instances.{Memory, bytes_at, byte_at}
use Rattle.memory_model.specs.Memory.Numbers.{Labelled, number_of}
use Rattle.memory_model.specs.Memory.Tags.{tag_of, tag_at}
use Rattle.memory_model.specs.Effects.StructCopies.{fits_leaf, may_be_copied}
use Rattle.memory_model.specs.Effects.Touches.{is_allocated, storage_at}
use Rattle.store_sound.specs.Concretization.Matching.{Fits, Matched, number_in, Holds}
use Rattle.store_sound.specs.Concretization.Places.{IsPlaceOf, OwnedByLeaf}
use Rattle.store_sound.specs.Concretization.SoundMemory.{IsContentIn}
use Rattle.store_sound.specs.Concretization.ValueMeaning.{Naming, InGammaContent}
use Rattle.store_sound.specs.Operations.Gives.{Gives}
use Rattle.store_sound.proofs.operations.CharValues.{byte_stands, padding_stands}
use Rattle.store_sound.proofs.operations.Classes.{same_class_is, class_above}
use Rattle.store_sound.proofs.operations.Larger.{value_below, content_larger}
use Rattle.store_sound.proofs.operations.Slices.{get_there}
use Rattle.store_struct_leaves.specs.LeafCopies.{read_base, read_leaf}
use Rattle.store_structs.specs.StructCopies.{leaf_access, read_source}
use Rattle.store_struct_leaves.specs.declared.leaf_copies.LeafAccess.{LeafAccess}
use Rattle.struct_copies_sound.proofs.leaves.Cells.{CellName, IsThere, position, class_of, signed_of, Place, Owns}
use Rattle.struct_copies_sound.proofs.leaves.Copies.{Copied, route, source_spot, few_cells}
use Rattle.struct_copies_sound.proofs.leaves.ReadCells.{leaf_gives}
use Rattle.struct_copies_sound.proofs.leaves.ReadValues.{IsNoPart, AreBytes, number_read, content_read, content_byte, content_padding}
use Rattle.struct_copies_sound.proofs.leaves.SourceReads.{wide_fits, OwnGives, wide_gives, char_gives}
use Rattle.struct_copies_sound.proofs.leaves.Structs.{owned_at}

-- what no part of a pointer may be, a character is not
no_part : (c : Content) → may_be_copied c (tag_of Char 0) ≡ true → IsNoPart c
no_part indeterminate h = tt
no_part (number n labels) h = tt
no_part (part p k) h = absurd (true≢false (sym h))

single : (ns : List Labelled) → length ns ≡ 1 → (x : Labelled) × (ns ≡ x ∷ [])
single [] h = absurd (omega (arith, h))
single (x ∷ []) h = (x, refl)
single (x ∷ (y ∷ ns)) h = absurd (omega (arith, h))

module _ {flow : Flow} {naming : Naming} {old new : Memory} (k : Copied flow naming old new) {I : Type 0} {l : LatticeOf I} {n : IntegersOf I} {gamma : I → ℤ → Type 0} (o : OrderLaws l) (q : BoundLaws l n gamma) (c : SoundLaws l n gamma) where
  abbrev Side : CellName → Type 0
  Side = IsThere flow.model k.source_side.base

  -- the cells of the source's base stand for the bytes of the leaf in the source
  pub record Tells (leaf : Leaf) (row : List (Cell I)) : Type 0 where
    pub number : (x : CellName) → IsThere flow.model k.source_side.base x → (st : ℕ) (ns : List Labelled) → IsPlaceOf leaf st → Place flow.model k.source_side.base x (length (bytes_at old k.j)) (k.at + st) → class_of flow.model k.source_side.base x ≡ leaf.class → is_pointer (class_of flow.model k.source_side.base x) ≡ false
        → Holds flow.model old k.j (k.at + st) (class_of flow.model k.source_side.base x) ns → gamma (value_at l n row (position flow.model k.source_side.base x)).num (number_of (signed_of flow.model k.source_side.base x) ns)
    pub content : (x : CellName) → IsThere flow.model k.source_side.base x → (d y m : ℕ) (content : Content) → OwnedByLeaf flow.model leaf d y → Owns flow.model k.source_side.base x (k.at + d) m → Matched old k.j (k.at + d) (class_of flow.model k.source_side.base x) m content
        → InGammaContent gamma naming old (value_at l n row (position flow.model k.source_side.base x)) (class_of flow.model k.source_side.base x) content

  module _ (number : ℕ) (leaf : Leaf) (e : slice_get k.leaves number ≡ Some leaf) (row : List (Cell I)) (tells : Tells leaf row) where
    abbrev access : LeafAccess
    access = leaf_access leaf k.from

    room : (st : ℕ) → IsPlaceOf leaf st → (k.at + st) + class_bytes flow.model leaf.class ≤ length (bytes_at old k.j)
    room st p =
        let a = class_above flow.model leaf.class in
        let t = k.struct.inside number (st + (class_bytes flow.model leaf.class - 1)) (class_bytes flow.model leaf.class - 1) leaf e (record { start = st; place = p; there = refl; small = omega (arith, a) }) in
        let fits = k.source_side.fits in
        omega (arith, a, t, fits)

    matched : (x m : ℕ) (d : Class) (b : Byte) → byte_at old k.j x ≡ Some b → Fits d m b.tag → Matched old k.j x d m b.content
    matched x m d b here fits = record { tag = b.tag; here = here; fits = fits }

    content_up : (z : Content) (x y : Value I) → (value_lattice l).leq x y ≡ true → InGammaContent gamma naming old x leaf.class z → InGammaContent gamma naming old y leaf.class z
    content_up z x y h s = content_larger q naming old x y leaf.class z (value_below l x y h) s

    -- a byte of the leaf in the source
    pub reads_content : (d y : ℕ) (b : Byte) → OwnedByLeaf flow.model leaf d y → byte_at old k.j (k.at + d) ≡ Some b → fits_leaf (is_allocated (storage_at old k.j)) (tag_at flow.model k.leaves d) b ≡ true → may_be_copied b.content (tag_at flow.model k.leaves d) ≡ true → Gives (λ v. InGammaContent gamma naming old v leaf.class b.content) (read_source l n (route k) leaf row)
    unfolding read_source
    reads_content d y b own here seen may = elim (cases_Bool (same_class leaf.class Char)) [ inl char ↦ by_char char | inr wide ↦ by_wide wide ]
      where
        x : ℕ
        x = k.at + own.start

        tag : tag_at flow.model k.leaves d ≡ tag_of leaf.class y
        tag = owned_at flow.model k.leaves k.size k.struct number d y leaf e own

        apart : k.at + d ≡ (k.at + own.start) + y
        apart = let there = own.there in omega (arith, there)

        there : byte_at old k.j ((k.at + own.start) + y) ≡ Some b
        there = subst (λ z. byte_at old k.j z ≡ Some b) apart here

        fits : fits_leaf (is_allocated (storage_at old k.j)) (tag_of leaf.class y) b ≡ true
        fits = subst (λ z. fits_leaf (is_allocated (storage_at old k.j)) z b ≡ true) tag seen

        Good : Value I → Type 0
        Good v = InGammaContent gamma naming old v leaf.class b.content

        of_base : Gives Good (read_base l n flow.model k.source_side.base row (leaf_access leaf k.from)) → Gives Good (read_leaf l n flow.model flow.bases.items k.source row (leaf_access leaf k.from))
        of_base g = leaf_gives o n (content_up b.content) flow.model row (leaf_access leaf k.from) flow.bases.items k.source k.source_side.b k.source_side.base k.source_side.at k.source_side.has g

        -- the cell of the class
        own_gives : Fits leaf.class y b.tag → OwnGives flow naming old k.sane k.padding k.source_side.b k.source_side.base k.source_side.at (k.laid.shaped.each k.source_side.b k.source_side.base k.source_side.at) k.j k.source_side.named k.source_side.alive o n (content_up b.content) row (leaf_access leaf k.from) (k.at + own.start) (source_spot k number own.start leaf e own.place) (few_cells k k.source_side.b k.source_side.base k.source_side.at) (room own.start own.place)
        own_gives f z is same place owns =
            let small = own.small in
            let o2 = owns y small in
            let o3 : Owns flow.model k.source_side.base z (k.at + d) y = subst (λ w. Owns flow.model k.source_side.base z w y) (sym apart) o2 in
            let s = tells.content z is d y y b.content own o3 (matched (k.at + d) y (class_of flow.model k.source_side.base z) b here (subst (λ w. Fits w y b.tag) (sym same) f)) in
            content_read gamma naming old n flow.model (value_at l n row (position flow.model k.source_side.base z)) leaf.class leaf.class (signed_of flow.model k.source_side.base z) leaf.signed b.content
            (subst (λ w. InGammaContent gamma naming old (value_at l n row (position flow.model k.source_side.base z)) w b.content) same s)

        by_wide : same_class leaf.class Char ≡ false → Gives Good (read_leaf l n flow.model flow.bases.items k.source row (leaf_access leaf k.from))
        by_wide wide = of_base (wide_gives flow naming old k.sane k.padding k.source_side.b k.source_side.base k.source_side.at (k.laid.shaped.each k.source_side.b k.source_side.base k.source_side.at) k.j k.source_side.named k.source_side.alive o n (content_up b.content) row (leaf_access leaf k.from) (k.at + own.start) (source_spot k number own.start leaf e own.place) (few_cells k k.source_side.b k.source_side.base k.source_side.at) (room own.start own.place)
            (own_gives (wide_fits (is_allocated (storage_at old k.j)) leaf.class y b wide fits).0) y b wide there fits)

        by_char : same_class leaf.class Char ≡ true → Gives Good (read_leaf l n flow.model flow.bases.items k.source row (leaf_access leaf k.from))
        by_char char =
            let class : leaf.class ≡ Char = same_class_is leaf.class Char char in
            let one : class_bytes flow.model leaf.class ≡ 1 = ap (class_bytes flow.model) class in
            let small = own.small in
            let first : y ≡ 0 = omega (arith, one, small) in
            let at_start : k.at + d ≡ k.at + own.start = omega (arith, apart, first) in
            let start_byte : byte_at old k.j (k.at + own.start) ≡ Some b = subst (λ z. byte_at old k.j z ≡ Some b) at_start here in
            let none : IsNoPart b.content = no_part b.content (subst (λ z. may_be_copied b.content z ≡ true) (tag ∙ (λ i. tag_of (class i) (first i))) may) in
            of_base (char_gives flow naming old k.sane k.padding k.source_side.b k.source_side.base k.source_side.at (k.laid.shaped.each k.source_side.b k.source_side.base k.source_side.at) k.j k.source_side.named k.source_side.alive o n (content_up b.content) row (leaf_access leaf k.from) (k.at + own.start) (source_spot k number own.start leaf e own.place) (few_cells k k.source_side.b k.source_side.base k.source_side.at) (room own.start own.place)
            b start_byte char
            (λ f. own_gives (char_fits f class first))
            (λ z is wide m owns f.
            subst (λ w. InGammaContent gamma naming old (byte_read l n flow.model (value_at l n row (position flow.model k.source_side.base z)) (class_of flow.model k.source_side.base z) leaf.signed) w b.content) (sym class)
            (content_byte gamma naming old l n flow.model (value_at l n row (position flow.model k.source_side.base z)) (class_of flow.model k.source_side.base z) leaf.signed b.content none
            (tells.content z is d y m b.content own (subst (λ w. Owns flow.model k.source_side.base z w m) (sym at_start) owns) (matched (k.at + d) m (class_of flow.model k.source_side.base z) b here f))))
            (subst (λ w. InGammaContent gamma naming old (whole_range l n (kind_of flow.model Char leaf.signed) all_labels true) w b.content) (sym class) (content_padding gamma naming old l n flow.model leaf.signed b.content none)))
          where
            char_fits : Fits Char 0 b.tag → leaf.class ≡ Char → y ≡ 0 → Fits leaf.class y b.tag
            char_fits f a z = subst (λ w. Fits w y b.tag) (sym a) (subst (λ w. Fits Char w b.tag) (sym z) f)

    -- ---- the number at a place

    module _ (st : ℕ) (place : IsPlaceOf leaf st) (ns : List Labelled) (long : length ns ≡ class_bytes flow.model leaf.class) (pointer : is_pointer leaf.class ≡ false)
        (bytes : (m : ℕ) (y : Labelled) → slice_get ns m ≡ Some y → (b : Byte) × (byte_at old k.j ((k.at + st) + m) ≡ Some b) × (b.content ≡ number_in y))
        (seen : (m : ℕ) (b : Byte) → m < class_bytes flow.model leaf.class → byte_at old k.j ((k.at + st) + m) ≡ Some b → fits_leaf (is_allocated (storage_at old k.j)) (tag_of leaf.class m) b ≡ true) where
      abbrev GoodNumber : Value I → Type 0
      GoodNumber v = gamma v.num (number_of leaf.signed ns)

      number_up : (x y : Value I) → (value_lattice l).leq x y ≡ true → GoodNumber x → GoodNumber y
      number_up x y h s = q.larger x.num y.num (number_of leaf.signed ns) (value_below l x y h).num s

      are_bytes : AreBytes ns
      are_bytes m y f =
          let b = bytes m y f in
          let r : IsContentIn old b.0.content b.0.tag = k.sane.bytes k.j ((k.at + st) + m) b.0 b.1 in
          subst (λ z. IsContentIn old z b.0.tag) b.2 r

      number_base : Gives GoodNumber (read_base l n flow.model k.source_side.base row (leaf_access leaf k.from)) → Gives GoodNumber (read_leaf l n flow.model flow.bases.items k.source row (leaf_access leaf k.from))
      number_base g = leaf_gives o n number_up flow.model row (leaf_access leaf k.from) flow.bases.items k.source k.source_side.b k.source_side.base k.source_side.at k.source_side.has g

      -- all bytes are seen as those of the class
      held : (d : Class) → d ≡ leaf.class → ((m : ℕ) (b : Byte) → m < class_bytes flow.model leaf.class → byte_at old k.j ((k.at + st) + m) ≡ Some b → Fits leaf.class m b.tag) → Holds flow.model old k.j (k.at + st) d ns
      held d same fit = record {
        size = long ∙ ap (class_bytes flow.model) (sym same);
        each = λ m y small f. let b = bytes m y f in record {
          tag = b.0.tag;
          here = b.1 ∙ ap (λ z. Some (record { content = z; tag = b.0.tag })) b.2;
          fits = subst (λ z. Fits z m b.0.tag) (sym same) (fit m b.0 (omega (arith, small, long)) b.1);
        };
      }

      number_gives : ((m : ℕ) (b : Byte) → m < class_bytes flow.model leaf.class → byte_at old k.j ((k.at + st) + m) ≡ Some b → Fits leaf.class m b.tag) → OwnGives flow naming old k.sane k.padding k.source_side.b k.source_side.base k.source_side.at (k.laid.shaped.each k.source_side.b k.source_side.base k.source_side.at) k.j k.source_side.named k.source_side.alive o n number_up row (leaf_access leaf k.from) (k.at + st) (source_spot k number st leaf e place) (few_cells k k.source_side.b k.source_side.base k.source_side.at) (room st place)
      number_gives fit z is same there owns =
          let v : Value I = value_at l n row (position flow.model k.source_side.base z) in
          let s = tells.number z is st ns place there same (ap is_pointer same ∙ pointer) (held (class_of flow.model k.source_side.base z) same fit) in
          number_read c flow.model leaf.class ns long are_bytes (signed_of flow.model k.source_side.base z) leaf.signed v pointer s

      pub reads_number : Gives GoodNumber (read_source l n (route k) leaf row)
      unfolding read_source
      reads_number = elim (cases_Bool (same_class leaf.class Char)) [ inl char ↦ number_base (by_char char) | inr wide ↦ number_base (by_wide wide) ]
        where
          above : 0 < class_bytes flow.model leaf.class
          above = class_above flow.model leaf.class

          first : (b : Byte) × (byte_at old k.j ((k.at + st) + 0) ≡ Some b)
          first = let a = above in let y = get_there ns 0 (omega (arith, a, long)) in let b = bytes 0 y.0 y.1 in (b.0, b.1)

          by_wide : same_class leaf.class Char ≡ false → Gives GoodNumber (read_base l n flow.model k.source_side.base row (leaf_access leaf k.from))
          by_wide wide = wide_gives flow naming old k.sane k.padding k.source_side.b k.source_side.base k.source_side.at (k.laid.shaped.each k.source_side.b k.source_side.base k.source_side.at) k.j k.source_side.named k.source_side.alive o n number_up row (leaf_access leaf k.from) (k.at + st) (source_spot k number st leaf e place) (few_cells k k.source_side.b k.source_side.base k.source_side.at) (room st place)
              (number_gives (λ m b small here. (wide_fits (is_allocated (storage_at old k.j)) leaf.class m b wide (seen m b small here)).0)) 0 first.0 wide first.1 (seen 0 first.0 above first.1)

          by_char : same_class leaf.class Char ≡ true → Gives GoodNumber (read_base l n flow.model k.source_side.base row (leaf_access leaf k.from))
          by_char char =
              let class : leaf.class ≡ Char = same_class_is leaf.class Char char in
              let one : class_bytes flow.model leaf.class ≡ 1 = ap (class_bytes flow.model) class in
              let y = single ns (long ∙ one) in
              let get : slice_get ns 0 ≡ Some y.0 = ap (λ z. slice_get z 0) y.1 in
              let b = bytes 0 y.0 get in
              let none : (k.at + st) + 0 ≡ k.at + st = omega arith in
              let here : byte_at old k.j (k.at + st) ≡ Some b.0 = subst (λ z. byte_at old k.j z ≡ Some b.0) none b.1 in
              let low : y.0.number < 256 = are_bytes 0 y.0 get in
              let own : OwnedByLeaf flow.model leaf st 0 = record { start = st; place = place; there = omega arith; small = above } in
              let turn : (x : Value I) → gamma x.num (number_of leaf.signed (y.0 ∷ [])) → GoodNumber x = λ x s. subst (λ z. gamma x.num (number_of leaf.signed z)) (sym y.1) s in
              char_gives flow naming old k.sane k.padding k.source_side.b k.source_side.base k.source_side.at (k.laid.shaped.each k.source_side.b k.source_side.base k.source_side.at) k.j k.source_side.named k.source_side.alive o n number_up row (leaf_access leaf k.from) (k.at + st) (source_spot k number st leaf e place) (few_cells k k.source_side.b k.source_side.base k.source_side.at) (room st place)
              b.0 here char
              (λ f. number_gives (λ m x small at.
              let zeroth : m ≡ 0 = omega (arith, small, one) in
              let same : x ≡ b.0 = same_Some x b.0 (sym at ∙ (ap (λ z. byte_at old k.j ((k.at + st) + z)) zeroth ∙ b.1)) in
              subst (λ w. Fits w m x.tag) (sym class) (subst (λ w. Fits Char w x.tag) (sym zeroth) (subst (λ (w : Byte). Fits Char 0 w.tag) (sym same) f))))
              (λ z is wide m owns f. turn (byte_read l n flow.model (value_at l n row (position flow.model k.source_side.base z)) (class_of flow.model k.source_side.base z) leaf.signed) (byte_stands o q flow.model naming old (value_at l n row (position flow.model k.source_side.base z)) (class_of flow.model k.source_side.base z) leaf.signed y.0 low
              (subst (InGammaContent gamma naming old (value_at l n row (position flow.model k.source_side.base z)) (class_of flow.model k.source_side.base z)) b.2
              (tells.content z is st 0 m b.0.content own owns (matched (k.at + st) m (class_of flow.model k.source_side.base z) b.0 here f)))).0)
              (turn (whole_range l n (kind_of flow.model Char leaf.signed) all_labels true) (padding_stands o q flow.model naming old leaf.signed y.0 low).0)
