-- The arrays of first zeros in an object have bytes, and lie within it.
use Rattle.std.proofs.Common.{◌≡◌, ℕ, zero, suc, ◌+◌, ◌-◌, ◌<◌, ◌≤◌, true, false, not, cond, ◌&&◌, Some, List, [], ◌∷◌, arith, subst, sym, refl, ◌∙◌, inl, inr}
use Rattle.std.specs.Prelude.{slice_get, ◌==◌, nat_lt, nat_le}
use Rattle.std.proofs.lemmas.Bool.{cases_Bool, and_parts, true≢false}
use Rattle.std.proofs.lemmas.Option.{same_Some}
use Rattle.cc_base.specs.declared.limit_table.Limits.{Limits}
use Rattle.c_layout.specs.declared.leaf_lists.Class.TheVariants.{Char}
use Rattle.c_layout.specs.declared.leaf_lists.Leaf.{Leaf}
use Rattle.c_layout.specs.declared.shapes.BaseInfo.{BaseInfo}
use Rattle.c_layout.specs.declared.shapes.ZeroPart.{ZeroPart}
use Rattle.c_layout.specs.Models.{is_model}
use Rattle.cfg.specs.ModelKinds.{same_class}
use Rattle.cfg.specs.BaseShapes.{is_extent, ends_by, part_size, are_leaves, are_parts, goes_on, lie_over, is_heap, is_heap_base, is_declared_base, is_shaped}
use Rattle.cfg.specs.WellFormed.{is_well_formed}
use Rattle.cfg.specs.declared.programs.Flow.{Flow}
use Rattle.store_sound.proofs.programs.CountedBytes.{each_even}
use Rattle.store_sound.proofs.programs.ShapedBases.{all_at, ends_inside}
use Rattle.store_sound.proofs.programs.WellFormedPremises.{well_formed_good}

part_inside : (room from : ℕ) (ps : List ZeroPart) → are_parts room from ps ≡ true → (z : ℕ) (part : ZeroPart) → slice_get ps z ≡ Some part → part.offset + part_size part ≤ room
part_inside room from [] h z part e = cc
part_inside room from (p ∷ ps) h zero part e =
    let a = and_parts (nat_le from p.offset && ends_by p.offset (part_size p) room) (are_parts room (p.offset + part_size p) ps) h in
    let b = and_parts (nat_le from p.offset) (ends_by p.offset (part_size p) room) a.0 in
    subst (λ x. x.offset + part_size x ≤ room) (same_Some p part e) (ends_inside p.offset (part_size p) room b.1)
part_inside room from (p ∷ ps) h (suc z) part e =
    let a = and_parts (nat_le from p.offset && ends_by p.offset (part_size p) room) (are_parts room (p.offset + part_size p) ps) h in
    part_inside room (p.offset + part_size p) ps a.1 z part e

-- a leaf that goes on with a part lies within it
leaf_inside : (p : ZeroPart) (done : ℕ) (l : Leaf) → goes_on p done l ≡ true → done + l.count ≤ part_size p
leaf_inside p done l h =
    let b = and_parts (ends_by p.offset done l.offset && ((l.offset - p.offset == done) && ends_by done l.count (part_size p))) (same_class l.class Char && (l.stride == 1)) h in
    let c = and_parts (ends_by p.offset done l.offset) ((l.offset - p.offset == done) && ends_by done l.count (part_size p)) b.0 in
    let d = and_parts (l.offset - p.offset == done) (ends_by done l.count (part_size p)) c.1 in
    ends_inside done l.count (part_size p) d.1

abbrev Have : List Leaf → Type 0
Have ls = (j : ℕ) (leaf : Leaf) → slice_get ls j ≡ Some leaf → 0 < leaf.count

part_full : (ls : List Leaf) (done : ℕ) (ps : List ZeroPart) → Have ls → lie_over done ls ps ≡ true → (z : ℕ) (part : ZeroPart) → slice_get ps z ≡ Some part → 0 < part_size part
part_full ls done [] each h z part e = cc
part_full [] done (p ∷ ps) each h z part e = absurd (true≢false (sym h))
part_full (l ∷ ls) done (p ∷ ps) each h zero part e = elim (cases_Bool (nat_lt l.offset p.offset)) [
  | inl f ↦ (let g : lie_over done ls (p ∷ ps) ≡ true = rw f at h in part_full ls done (p ∷ ps) (λ j leaf x. each (suc j) leaf x) g zero part e)
  | inr f ↦ (let g : (goes_on p done l && cond (done + l.count == part_size p) (lie_over 0 ls ps) (lie_over (done + l.count) ls (p ∷ ps))) ≡ true = rw f at h in
      let a = and_parts (goes_on p done l) (cond (done + l.count == part_size p) (lie_over 0 ls ps) (lie_over (done + l.count) ls (p ∷ ps))) g in
      let room = leaf_inside p done l a.0 in
      let some = each 0 l refl in
      subst (λ x. 0 < part_size x) (same_Some p part e) (omega (arith, room, some)))
]
part_full (l ∷ ls) done (p ∷ ps) each h (suc z) part e = elim (cases_Bool (nat_lt l.offset p.offset)) [
  | inl f ↦ (let g : lie_over done ls (p ∷ ps) ≡ true = rw f at h in part_full ls done (p ∷ ps) (λ j leaf x. each (suc j) leaf x) g (suc z) part e)
  | inr f ↦ (let g : (goes_on p done l && cond (done + l.count == part_size p) (lie_over 0 ls ps) (lie_over (done + l.count) ls (p ∷ ps))) ≡ true = rw f at h in
      let a = and_parts (goes_on p done l) (cond (done + l.count == part_size p) (lie_over 0 ls ps) (lie_over (done + l.count) ls (p ∷ ps))) g in
      elim (cases_Bool (done + l.count == part_size p)) [
        | inl m ↦ (let k = a.1 in let r : lie_over 0 ls ps ≡ true = rw m at k in part_full ls 0 ps (λ j leaf x. each (suc j) leaf x) r z part e)
        | inr m ↦ (let k = a.1 in let r : lie_over (done + l.count) ls (p ∷ ps) ≡ true = rw m at k in part_full ls (done + l.count) (p ∷ ps) (λ j leaf x. each (suc j) leaf x) r (suc z) part e)
      ])
]

-- an array of some bytes, within the object
pub record IsFull (base : BaseInfo) (part : ZeroPart) : Type 0 where
  pub some : 0 < part_size part
  pub inside : part.offset + part_size part ≤ base.size

pub parts_full : (limits : Limits) (flow : Flow) → is_well_formed limits flow ≡ true → (b : ℕ) (base : BaseInfo) → slice_get flow.bases.items b ≡ Some base → base.shape.heap ≡ false → (z : ℕ) (part : ZeroPart) → slice_get base.shape.zeros z ≡ Some part → IsFull base part
parts_full limits flow h b base at declared z part e =
    let g = well_formed_good limits flow h in
    let shaped = all_at (is_shaped flow.model) flow.bases.items b base g.shaped at in
    elim (cases_Bool (is_heap base.kind)) [
      | inl f ↦ (let k : is_heap_base flow.model base ≡ true = rw f at shaped in absurd (true≢false (sym (heap_of k) ∙ declared)))
      | inr f ↦ (let k : is_declared_base flow.model base ≡ true = rw f at shaped in full k g.model)
    ]
  where
    heap_of : is_heap_base flow.model base ≡ true → base.shape.heap ≡ true
    heap_of k = (and_parts base.shape.heap (base.size == 0) (and_parts (base.shape.heap && (base.size == 0)) _ k).0).0

    full : is_declared_base flow.model base ≡ true → is_model flow.model ≡ true → IsFull base part
    full k model =
        let a = and_parts (not base.shape.heap && is_extent base.size) (are_leaves flow.model base.size base.shape.cells && (are_parts base.size 0 base.shape.zeros && lie_over 0 base.shape.cells base.shape.zeros)) k in
        let c = and_parts (are_leaves flow.model base.size base.shape.cells) (are_parts base.size 0 base.shape.zeros && lie_over 0 base.shape.cells base.shape.zeros) a.1 in
        let d = and_parts (are_parts base.size 0 base.shape.zeros) (lie_over 0 base.shape.cells base.shape.zeros) c.1 in
        record {
          some = part_full base.shape.cells 0 base.shape.zeros (λ j leaf f. (each_even flow.model base.size base.shape.cells model c.0 j leaf f).some) d.1 z part e;
          inside = part_inside base.size 0 base.shape.zeros d.0 z part e;
        }
