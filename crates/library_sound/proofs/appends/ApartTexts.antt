-- The arrays of a base that are followed for their first zeros share no byte.
use Rattle.std.proofs.Common.{◌≡◌, ℕ, zero, suc, ◌+◌, ◌^◌, ◌<◌, ◌≤◌, true, false, not, ◌&&◌, ◌==◌, Some, List, [], ◌∷◌, arith, subst, sym, refl, ap, ◌∙◌, inl, inr}
use Rattle.std.specs.Prelude.{slice_get, nat_le}
use Rattle.std.specs.List.{list_all}
use Rattle.std.proofs.lemmas.Bool.{cases_Bool, cases_lt, and_parts, leb-true, not-true, true≢false}
use Rattle.cc_base.specs.declared.limit_table.Limits.{Limits}
use Rattle.c_layout.specs.Models.{is_model}
use Rattle.c_layout.specs.declared.data_model.Model.{Model}
use Rattle.c_layout.specs.declared.shapes.BaseInfo.{BaseInfo}
use Rattle.c_layout.specs.declared.shapes.ZeroPart.{ZeroPart}
use Rattle.cfg.specs.BaseShapes.{is_extent, ends_by, size_or_none, part_size, are_parts, lie_over, are_whole, is_heap, is_single, are_leaves, is_heap_base, is_declared_base, is_shaped}
use Rattle.cfg.specs.WellFormed.{is_well_formed}
use Rattle.cfg.specs.declared.programs.Flow.{Flow}
use Rattle.store_sound.proofs.programs.ShapedBases.{all_at, base_texts}
use Rattle.store_sound.proofs.programs.WellFormedPremises.{well_formed_good}
use Rattle.library_sound.specs.Appends.ApartTexts.{IsByteFrom, HasByte, AreApartTexts, HasApartTexts}

-- ---- an instance of an allocation is one part

whole_index : (parts : List ZeroPart) (z : ℕ) (part : ZeroPart) → are_whole parts ≡ true → slice_get parts z ≡ Some part → z ≡ 0
whole_index [] z part h e = cc
whole_index (q ∷ []) zero part h e = refl
whole_index (q ∷ []) (suc z) part h e = cc
whole_index (q ∷ (r ∷ parts)) z part h e = absurd (true≢false (sym h))

whole_apart : (parts : List ZeroPart) → are_whole parts ≡ true → AreApartTexts parts
whole_apart parts h = record { one = λ y z x left right e f u v. whole_index parts y left h e ∙ sym (whole_index parts z right h f) }

-- ---- the parts of an object ascend

first_behind : (room from : ℕ) (q : ZeroPart) (parts : List ZeroPart) → are_parts room from (q ∷ parts) ≡ true → (from ≤ q.offset) × (are_parts room (q.offset + part_size q) parts ≡ true)
first_behind room from q parts h =
    let a = and_parts (nat_le from q.offset && ends_by q.offset (part_size q) room) (are_parts room (q.offset + part_size q) parts) h in
    let b = and_parts (nat_le from q.offset) (ends_by q.offset (part_size q) room) a.0 in
    (leb-true from q.offset b.0, a.1)

all_behind : (room from : ℕ) (parts : List ZeroPart) (z : ℕ) (part : ZeroPart) → are_parts room from parts ≡ true → slice_get parts z ≡ Some part → from ≤ part.offset
all_behind room from [] z part h e = cc
all_behind room from (q ∷ parts) zero part h e = let d : q ≡ part = cc in subst (λ y. from ≤ y.offset) d (first_behind room from q parts h).0
all_behind room from (q ∷ parts) (suc z) part h e =
    let a = first_behind room from q parts h in
    let b = all_behind room (q.offset + part_size q) parts z part a.1 e in
    let c = a.0 in
    omega (arith, b, c)

later_behind : (room from : ℕ) (parts : List ZeroPart) (y z : ℕ) (left right : ZeroPart) → are_parts room from parts ≡ true → y < z → slice_get parts y ≡ Some left → slice_get parts z ≡ Some right → left.offset + part_size left ≤ right.offset
later_behind room from [] y z left right h less e f = cc
later_behind room from (q ∷ parts) zero zero left right h less e f = absurd (omega (arith, less))
later_behind room from (q ∷ parts) zero (suc z) left right h less e f =
    let d : q ≡ left = cc in
    subst (λ w. w.offset + part_size w ≤ right.offset) d (all_behind room (q.offset + part_size q) parts z right (first_behind room from q parts h).1 f)
later_behind room from (q ∷ parts) (suc y) zero left right h less e f = absurd (omega (arith, less))
later_behind room from (q ∷ parts) (suc y) (suc z) left right h less e f = later_behind room (q.offset + part_size q) parts y z left right (first_behind room from q parts h).1 (omega (arith, less)) e f

-- what has a size has its bytes in front of its end
abbrev AreSized : List ZeroPart → Type 0
AreSized parts = (z : ℕ) (part : ZeroPart) → slice_get parts z ≡ Some part → (size : ℕ) × (part.size ≡ Some size)

within_size : (part : ZeroPart) (x size : ℕ) → part.size ≡ Some size → HasByte part x → (part.offset ≤ x) × (x < part.offset + part_size part)
within_size part x size e h =
    let a : (part.offset ≤ x) × (x < part.offset + size) = subst (λ y. IsByteFrom part.offset y x) e h in
    let b : part_size part ≡ size = ap size_or_none e in
    let c = a.1 in
    (a.0, omega (arith, b, c))

sized_apart : (room : ℕ) (parts : List ZeroPart) → are_parts room 0 parts ≡ true → AreSized parts → AreApartTexts parts
sized_apart room parts h sized = record { one = one }
  where
    before : (y z x : ℕ) (left right : ZeroPart) → slice_get parts y ≡ Some left → slice_get parts z ≡ Some right → HasByte left x → HasByte right x → y < z → ⊥
    before y z x left right e f u v less =
        let s = sized y left e in
        let t = sized z right f in
        let a = (within_size left x s.0 s.1 u).1 in
        let b = (within_size right x t.0 t.1 v).0 in
        let c = later_behind room 0 parts y z left right h less e f in
        omega (arith, a, b, c)

    one : (y z x : ℕ) (left right : ZeroPart) → slice_get parts y ≡ Some left → slice_get parts z ≡ Some right → HasByte left x → HasByte right x → y ≡ z
    one y z x left right e f u v = elim (cases_lt y z) [
      | inl less ↦ absurd (before y z x left right e f u v less)
      | inr more ↦ elim (cases_lt z y) [
        | inl less ↦ absurd (before z y x right left f e v u less)
        | inr less ↦ omega (arith, more, less)
      ]
    ]

-- ---- bases

module _ (m : Model) (model : is_model m ≡ true) (base : BaseInfo) (shaped : is_shaped m base ≡ true) where
  heap_apart : is_heap_base m base ≡ true → AreApartTexts base.shape.zeros
  heap_apart h =
      let a = and_parts (base.shape.heap && (base.size == 0)) (are_leaves m (2 ^ 30) base.shape.cells && (list_all is_single base.shape.cells && are_whole base.shape.zeros)) h in
      let b = and_parts (are_leaves m (2 ^ 30) base.shape.cells) (list_all is_single base.shape.cells && are_whole base.shape.zeros) a.1 in
      let c = and_parts (list_all is_single base.shape.cells) (are_whole base.shape.zeros) b.1 in
      whole_apart base.shape.zeros c.1

  declared_apart : is_declared_base m base ≡ true → AreApartTexts base.shape.zeros
  declared_apart h =
      let a = and_parts (not base.shape.heap && is_extent base.size) (are_leaves m base.size base.shape.cells && (are_parts base.size 0 base.shape.zeros && lie_over 0 base.shape.cells base.shape.zeros)) h in
      let heap : base.shape.heap ≡ false = not-true base.shape.heap (and_parts (not base.shape.heap) (is_extent base.size) a.0).0 in
      let b = and_parts (are_leaves m base.size base.shape.cells) (are_parts base.size 0 base.shape.zeros && lie_over 0 base.shape.cells base.shape.zeros) a.1 in
      let c = and_parts (are_parts base.size 0 base.shape.zeros) (lie_over 0 base.shape.cells base.shape.zeros) b.1 in
      sized_apart base.size base.shape.zeros c.0 (λ z part e. let t = (base_texts m model base shaped).texts heap z part e in (t.0, t.1))

  base_apart : AreApartTexts base.shape.zeros
  base_apart = elim (cases_Bool (is_heap base.kind)) [
    | inl e ↦ (let g : is_heap_base m base ≡ true = rw e at shaped in heap_apart g)
    | inr e ↦ (let g : is_declared_base m base ≡ true = rw e at shaped in declared_apart g)
  ]

pub well_formed_apart : (limits : Limits) (flow : Flow) → is_well_formed limits flow ≡ true → HasApartTexts flow.bases.items
well_formed_apart limits flow h = let g = well_formed_good limits flow h in λ b base e. base_apart flow.model g.model base (all_at (is_shaped flow.model) flow.bases.items b base g.shaped e)
