-- Worked bases: an object of an int and a pointer, and an allocation of one int, are shaped as the theorems ask.
use Rattle.std.proofs.Common.{◌≡◌, ℕ, zero, suc, ◌<◌, ◌≤◌, Bool, true, false, cond, Some, None, [], ◌∷◌, arith, subst, sym, refl, ap}
use Rattle.std.specs.Prelude.{slice_get, count_by}
use Rattle.std.proofs.lemmas.List.Sums.{sum_by-cons}
use Rattle.std.proofs.lemmas.Option.{same_Some}
use Rattle.c_layout.specs.declared.leaf_lists.Class.{Class}
use Rattle.c_layout.specs.declared.leaf_lists.Class.TheVariants as class
use Rattle.c_layout.specs.declared.leaf_lists.Leaf.{Leaf}
use Rattle.c_layout.specs.declared.shapes.BaseInfo.{BaseInfo}
use Rattle.c_layout.specs.declared.shapes.BaseKind.TheVariants as kind
use Rattle.store_sound.specs.Operations.Shapes.{at_offset, IsShaped, AreShaped}

abbrev object : BaseInfo
object = record {
  kind = kind.Static;
  size = 16;
  first = 0;
  shape = record {
    cells = record { offset = 0; class = class.Int; signed = true; stride = 4; count = 1 } ∷ (record { offset = 8; class = class.Pointer; signed = false; stride = 8; count = 1 } ∷ []);
    zeros = [];
    heap = false;
  };
}

abbrev heap : BaseInfo
heap = record {
  kind = kind.Newest;
  size = 0;
  first = 2;
  shape = record {
    cells = record { offset = 0; class = class.Int; signed = true; stride = 4; count = 1 } ∷ [];
    zeros = record { offset = 0; size = None } ∷ [];
    heap = true;
  };
}

object_strides : (j : ℕ) (leaf : Leaf) → slice_get object.shape.cells j ≡ Some leaf → 0 < leaf.stride
object_strides zero leaf e = let f = ap (λ z. z.stride) (same_Some (record { offset = 0; class = class.Int; signed = true; stride = 4; count = 1 }) leaf e) in omega arith
object_strides (suc zero) leaf e = let f = ap (λ z. z.stride) (same_Some (record { offset = 8; class = class.Pointer; signed = false; stride = 8; count = 1 }) leaf e) in omega arith
object_strides (suc (suc j)) leaf e = cc

heap_leaf : (j : ℕ) (leaf : Leaf) → slice_get heap.shape.cells j ≡ Some leaf → (leaf.count ≡ 1) × (0 < leaf.stride)
heap_leaf zero leaf e =
    let d = same_Some (record { offset = 0; class = class.Int; signed = true; stride = 4; count = 1 }) leaf e in
    let f = ap (λ z. z.stride) d in
    (sym (ap (λ z. z.count) d), omega arith)
heap_leaf (suc j) leaf e = cc

one_at_most : (b : Bool) → cond {A = ℕ} b 1 0 ≤ 1
one_at_most true = omega arith
one_at_most false = omega arith

heap_apart : (c : Class) (x : ℕ) → count_by (at_offset c x) heap.shape.cells ≤ 1
heap_apart c x =
    let it : Leaf = record { offset = 0; class = class.Int; signed = true; stride = 4; count = 1 } in
    let a = sum_by-cons (λ y. cond {A = ℕ} (at_offset c x y) 1 0) it [] in
    let b = one_at_most (at_offset c x it) in
    omega arith

object_shaped : IsShaped object
object_shaped = record { kind = refl; strides = object_strides; single = λ h. absurd (cc); apart = λ h. absurd (cc) }

heap_shaped : IsShaped heap
heap_shaped = record { kind = refl; strides = λ j leaf e. (heap_leaf j leaf e).1; single = λ h j leaf e. (heap_leaf j leaf e).0; apart = λ h. heap_apart }

both_each : (b : ℕ) (base : BaseInfo) → slice_get (object ∷ (heap ∷ [])) b ≡ Some base → IsShaped base
both_each zero base e = subst IsShaped (same_Some object base e) object_shaped
both_each (suc zero) base e = subst IsShaped (same_Some heap base e) heap_shaped
both_each (suc (suc b)) base e = cc

pub both_shaped : AreShaped (object ∷ (heap ∷ []))
both_shaped = record { few = omega arith; each = both_each }
