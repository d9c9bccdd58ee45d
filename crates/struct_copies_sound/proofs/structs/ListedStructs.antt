-- The leaves of structs whose members stand apart share no bytes.
use Rattle.std.proofs.Common.{◌≡◌, ℕ, zero, suc, ◌+◌, ◌*◌, ◌<◌, ◌≤◌, ◌^◌, Bool, true, false, cond, not, ◌&&◌, Some, List, [], ◌∷◌, ◌++◌, length, arith, subst, sym, ◌∙◌, inl, inr}
use Rattle.std.specs.Prelude.{slice_get, ◌==◌}
use Rattle.std.specs.List.{list_all}
use Rattle.std.proofs.lemmas.Bool.{cases_Bool, and_parts, leb-true, leb-false}
use Rattle.std.proofs.lemmas.Nat.{mul-le}
use Rattle.std.proofs.lemmas.Option.{slice_get_within, get_or_from_slice_get}
use Rattle.c_layout.specs.Leaves.{is_short, behind_short, long_count, behind_long, full_count, behind_all, short_count, repeated, of_fields, plain_unit, plain_leaves, folded_unit, folded_leaves, leaves_of}
use Rattle.c_layout.specs.Layout.{size_of_type}
use Rattle.c_layout.specs.Models.{is_model}
use Rattle.c_layout.specs.StructViews.{FieldView, StructView, structs_view, no_struct, struct_at}
use Rattle.c_layout.specs.Types.{Ty, Int, Pointer, Array, Struct, Void}
use Rattle.c_layout.specs.declared.data_model.Model.{Model}
use Rattle.c_layout.specs.declared.leaf_lists.Class.{Class}
use Rattle.c_layout.specs.declared.leaf_lists.Leaf.{Leaf}
use Rattle.c_layout.specs.declared.shapes.BaseInfo.{BaseInfo}
use Rattle.cfg.specs.BaseShapes.{is_extent, leaf_end, has_extents, is_stride, is_apart, follows, first_of, nowhere, are_apart, are_leaves, are_parts, lie_over, are_whole, is_heap, is_single, is_heap_base, is_declared_base, is_shaped}
use Rattle.cfg.specs.ModelKinds as kinds
use Rattle.store_monotone.proofs.operations.Loads.{some_bytes}
use Rattle.store_structs.specs.LaidApart.{are_laid_apart}
use Rattle.store_monotone.proofs.layouts.Extents.{AreExtents}
use Rattle.store_monotone.proofs.layouts.TypeExtents.{IsFolded, IsByte, folded_struct, struct_size}
use Rattle.store_monotone.proofs.shapes.LeafBytes.{Covers, same_bytes}
use Rattle.store_sound.specs.Concretization.Places.{OwnedByLeaf}
use Rattle.store_sound.proofs.programs.ShapedBases.{all_at}
use Rattle.store_sound.proofs.programs.WellFormedPremises.{well_formed_good}
use Rattle.store_structs.specs.LeafNumbers.{folded_member, struct_leaf}
use Rattle.struct_copies_sound.specs.Leaves.StructLeaves.{IsFew}
use Rattle.struct_copies_sound.specs.Structs.StructTables.{IsNumbered, IsListed, MeetsStructs}

-- ---- each leaf of a type has a place

abbrev HavePlaces : List Leaf → Type 0
HavePlaces [] = Unit {0}
HavePlaces (x ∷ xs) = (0 < x.count) × HavePlaces xs

place_of : (xs : List Leaf) → HavePlaces xs → (number : ℕ) (x : Leaf) → slice_get xs number ≡ Some x → 0 < x.count
place_of [] h number x e = cc
place_of (y ∷ ys) h zero x e = let same : y ≡ x = cc in subst (λ (z : Leaf). 0 < z.count) same h.0
place_of (y ∷ ys) h (suc number) x e = place_of ys h.1 number x e

both : (xs ys : List Leaf) → HavePlaces xs → HavePlaces ys → HavePlaces (xs ++ ys)
both [] ys h k = k
both (x ∷ xs) ys h k = (h.0, both xs ys h.1 k)

repeats : (n at step : ℕ) (element : ℕ → List Leaf) → ((at : ℕ) → HavePlaces (element at)) → HavePlaces (repeated n at step element)
repeats zero at step element h = tt
repeats (suc n) at step element h = both (element at) (repeated n (at + step) step element) (h at) (repeats n (at + step) step element h)

members : (fs : List FieldView) (at : ℕ) (field : Ty → ℕ → List Leaf) → ((t : Ty) (at : ℕ) → HavePlaces (field t at)) → HavePlaces (of_fields fs at field)
members [] at field h = tt
members (f ∷ fs) at field h = both (field f.ctype (at + f.offset)) (of_fields fs at field) (h f.ctype (at + f.offset)) (members fs at field h)

module _ (structs : List StructView) (pointer : ℕ) where
  plain_places : (depth stride count : ℕ) → 0 < count → (t : Ty) (at : ℕ) → HavePlaces (plain_leaves depth structs pointer (record { stride = stride; count = count }) t at)
  plain_places zero stride count some t at = tt
  plain_places (suc depth) stride count some t at = repeats (full_count t) at (size_of_type structs pointer (behind_all t)) (plain_unit structs (record { stride = stride; count = count }) (plain_leaves depth structs pointer (record { stride = stride; count = count })) (behind_all t)) (λ at. unit (plain_places depth stride count some) (behind_all t) at)
    where
      unit : ((u : Ty) (at : ℕ) → HavePlaces (plain_leaves depth structs pointer (record { stride = stride; count = count }) u at)) → (u : Ty) (at : ℕ) → HavePlaces (plain_unit structs (record { stride = stride; count = count }) (plain_leaves depth structs pointer (record { stride = stride; count = count })) u at)
      unit inner (Int k) at = (some, tt)
      unit inner (Pointer u) at = (some, tt)
      unit inner (Array u n) at = tt
      unit inner (Struct i) at = members (struct_at structs i).fields at (plain_leaves depth structs pointer (record { stride = stride; count = count })) inner
      unit inner Void at = tt

-- long arrays have elements
long_some : (t : Ty) → 0 < long_count t
long_some (Int k) = omega arith
long_some (Pointer t) = omega arith
long_some (Struct i) = omega arith
long_some Void = omega arith
long_some (Array t n) = elim (cases_Bool (is_short n)) [
  | inl e ↦ rw e (omega arith)
  | inr e ↦ (let more : 64 < n = leb-false n 64 e in
      let inner = long_some t in
      let m : 1 * 1 ≤ n * long_count t = mul-le 1 1 n (long_count t) (omega (arith, more)) (omega (arith, inner)) in
      rw e (omega (arith, m)))
]

abbrev IsLong : Ty → Type 0
IsLong (Array t n) = is_short n ≡ false
IsLong t = Unit {0}

behind_long_is : (t : Ty) → IsLong (behind_short t)
behind_long_is (Int k) = tt
behind_long_is (Pointer t) = tt
behind_long_is (Struct i) = tt
behind_long_is Void = tt
behind_long_is (Array t n) = elim (cases_Bool (is_short n)) [
  | inl e ↦ rw e (behind_long_is t)
  | inr e ↦ rw e e
]

module _ (structs : List StructView) (pointer : ℕ) where
  folded_places : (depth : ℕ) (t : Ty) (at : ℕ) → HavePlaces (folded_leaves depth structs pointer t at)
  folded_places zero t at = tt
  folded_places (suc depth) t at = repeats (short_count t) at (size_of_type structs pointer (behind_short t)) (folded_unit (suc depth) structs pointer (folded_leaves depth structs pointer) (behind_short t)) (λ at. unit (folded_places depth) (behind_short t) (behind_long_is t) at)
    where
      unit : ((u : Ty) (at : ℕ) → HavePlaces (folded_leaves depth structs pointer u at)) → (u : Ty) → IsLong u → (at : ℕ) → HavePlaces (folded_unit (suc depth) structs pointer (folded_leaves depth structs pointer) u at)
      unit inside (Int k) h at = (omega arith, tt)
      unit inside (Pointer u) h at = (omega arith, tt)
      unit inside (Array u n) h at =
          let more : 64 < n = leb-false n 64 h in
          let inner = long_some u in
          let m : 1 * 1 ≤ n * long_count u = mul-le 1 1 n (long_count u) (omega (arith, more)) (omega (arith, inner)) in
          plain_places structs pointer (suc depth) (size_of_type structs pointer (behind_long u)) (n * long_count u) (omega (arith, m)) (behind_long u) at
      unit inside (Struct i) h at = members (struct_at structs i).fields at (folded_leaves depth structs pointer) inside
      unit inside Void h at = tt

  all_places : (t : Ty) → HavePlaces (leaves_of structs pointer t)
  unfolding leaves_of
  all_places t = folded_places (length structs + 1) t 0

-- ---- a struct

module _ (m : Model) (model : is_model m ≡ true) (structs : List StructView) (apart : are_laid_apart m structs ≡ true) (index : ℕ) (s : StructView) (there : slice_get structs index ≡ Some s) (h : IsNumbered m structs index s) where
  class_some : (c : Class) → 0 < kinds.class_bytes m c
  class_some c = let e = same_bytes m model c in let a = some_bytes m c in omega (arith, e, a)

  found : struct_at structs index ≡ s
  found = get_or_from_slice_get structs index s no_struct there

  abbrev leaves : List Leaf
  leaves = leaves_of structs m.pointer (Struct index)

  own : AreExtents (IsFolded m structs apart) (IsByte m structs apart) (folded_member (length structs) structs m.pointer index) s.size s.leaves
  own = subst (λ (z : StructView). AreExtents (IsFolded m structs apart) (IsByte m structs apart) (folded_member (length structs) structs m.pointer index) z.size s.leaves) found (folded_struct m structs apart class_some (length structs) index s.leaves)

  small : s.size ≤ 2 ^ 30
  small = subst (λ (z : StructView). z.size ≤ 2 ^ 30) found (struct_size m structs apart class_some index)

  by_number : (number : ℕ) (x : Leaf) → slice_get leaves number ≡ Some x → folded_member (length structs) structs m.pointer index number 0 ≡ Some x
  unfolding struct_leaf
  by_number number x e = sym (h.numbered number) ∙ e

  covers : (x : Leaf) (d k : ℕ) → OwnedByLeaf m x d k → Covers x (kinds.class_bytes m x.class) d
  covers x d k o =
      let a = o.there in
      let b = o.place.there in
      let e : x.stride * o.place.turn ≡ o.place.turn * x.stride = omega arith in
      record { turn = o.place.turn; rest = k; at = omega (arith, a, b, e); among = o.place.few; within = subst (λ z. k < z) (sym (same_bytes m model x.class)) o.small }

  below : (number : ℕ) (x : Leaf) → slice_get leaves number ≡ Some x → number < s.leaves
  below number x e = let a = slice_get_within leaves number x e in let b = h.counted in omega (arith, a, b)

  pub listed : IsListed m structs index s
  listed = record {
    struct = record {
      small = small;
      plain = λ number x e.
          let f = own.made number 0 x (let a = small in omega (arith, a)) (by_number number x e) in
          record { some = place_of leaves (all_places structs m.pointer (Struct index)) number x e; fits = subst (λ z. z ≤ x.stride) (same_bytes m model x.class) f.fits; few = f.few; near = f.near };
      inside = λ number d k x e o. let a = small in let r = own.inside number 0 d x (omega (arith, a)) (by_number number x e) (covers x d k o) in let t = r.1 in omega (arith, t);
      one = λ a b d j k x y e f o q. own.one a b 0 d x y (let z = small in omega (arith, z)) (below a x e) (below b y f) (by_number a x e) (by_number b y f) (covers x d j o) (covers y d k q);
    };
    numbered = h.numbered;
    counted = h.counted;
  }

-- ---- the leaves of bases

few_leaves : (m : Model) (room : ℕ) (first : Leaf) (taken : ℕ) (ls : List Leaf) → are_apart m room first taken ls ≡ true → (j : ℕ) (x : Leaf) → slice_get ls j ≡ Some x → IsFew x
few_leaves m room first taken [] h j x e = cc
few_leaves m room first taken (l ∷ ls) h j x e =
    let a = and_parts (follows m room first taken l) (are_apart m room (first_of first l) (leaf_end m l) ls) h in
    by_index j e a.0 (λ i. few_leaves m room (first_of first l) (leaf_end m l) ls a.1 i x)
  where
    here : follows m room first taken l ≡ true → IsFew l
    here f =
        let b = and_parts (has_extents l && is_stride m l) (is_apart m room first taken l) f in
        let c = and_parts (has_extents l) (is_stride m l) b.0 in
        let d = and_parts (is_extent l.offset) (is_extent l.stride && is_extent l.count) c.0 in
        let g = and_parts (is_extent l.stride) (is_extent l.count) d.1 in
        let offset = leb-true l.offset (2 ^ 30) d.0 in
        let stride = leb-true l.stride (2 ^ 30) g.0 in
        let count = leb-true l.count (2 ^ 30) g.1 in
        let times : l.count * l.stride ≤ 2 ^ 30 * 2 ^ 30 = mul-le l.count l.stride (2 ^ 30) (2 ^ 30) count stride in
        record { count = omega (arith, count); end = omega (arith, offset, times) }

    by_index : (j : ℕ) → slice_get (l ∷ ls) j ≡ Some x → follows m room first taken l ≡ true → ((i : ℕ) → slice_get ls i ≡ Some x → IsFew x) → IsFew x
    by_index zero e f more = let same : l ≡ x = cc in subst IsFew same (here f)
    by_index (suc j) e f more = more j e

few_of_base : (m : Model) (base : BaseInfo) → is_shaped m base ≡ true → (j : ℕ) (x : Leaf) → slice_get base.shape.cells j ≡ Some x → IsFew x
few_of_base m base h j x e = by_kind (is_heap base.kind) h
  where
    by_kind : (c : Bool) → cond c (is_heap_base m base) (is_declared_base m base) ≡ true → IsFew x
    by_kind true g =
        let a = and_parts (base.shape.heap && (base.size == 0)) (are_leaves m (2 ^ 30) base.shape.cells && (list_all is_single base.shape.cells && are_whole base.shape.zeros)) g in
        let b = and_parts (are_leaves m (2 ^ 30) base.shape.cells) (list_all is_single base.shape.cells && are_whole base.shape.zeros) a.1 in
        few_leaves m (2 ^ 30) nowhere 0 base.shape.cells b.0 j x e
    by_kind false g =
        let a = and_parts (not base.shape.heap && is_extent base.size) (are_leaves m base.size base.shape.cells && (are_parts base.size 0 base.shape.zeros && lie_over 0 base.shape.cells base.shape.zeros)) g in
        let b = and_parts (are_leaves m base.size base.shape.cells) (are_parts base.size 0 base.shape.zeros && lie_over 0 base.shape.cells base.shape.zeros) a.1 in
        few_leaves m base.size nowhere 0 base.shape.cells b.0 j x e

-- ---- programs

pub meets_structs : MeetsStructs
meets_structs limits flow h apart numbered =
    let g = well_formed_good limits flow h in
    record {
      few = λ b j base leaf at e. few_of_base flow.model base (all_at (is_shaped flow.model) flow.bases.items b base g.shaped at) j leaf e;
      listed = λ index s at. listed flow.model g.model (structs_view flow.structs) apart index s at (numbered index s at);
    }
