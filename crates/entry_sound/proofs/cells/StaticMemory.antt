-- What the machine's stores make of an instance of static storage.
use Rattle.std.proofs.Common.{◌≡◌, ℕ, zero, suc, ◌+◌, ◌<◌, ◌≤◌, true, false, Some, List, [], ◌∷◌, arith, sym, refl, ap, ◌∙◌}
use Rattle.std.specs.Prelude.{slice_get, set, drop, ◌==◌, nat_le}
use Rattle.std.proofs.lemmas.Bool.Decides.{nat_tests}
use Rattle.std.proofs.lemmas.Bool.{and_from, or_right, le-leb}
use Rattle.std.proofs.lemmas.Option.{slice_get_within}
use Rattle.c_layout.specs.declared.data_model.Model.{Model}
use Rattle.c_layout.specs.declared.leaf_lists.Class.{Class}
use Rattle.c_layout.specs.declared.leaf_lists.Class.TheVariants.{Char}
use Rattle.cfg.specs.declared.machine_instructions.Scalar as declared
use Rattle.memory_model.specs.Memory.ScalarSizes.{same_class, class_bytes}
use Rattle.memory_model.specs.Memory.Bytes.{into, Byte, Content}
use Rattle.memory_model.specs.Memory.Instances.{static, Memory, Instance, live, bytes_of, bytes_at, life_at}
use Rattle.memory_model.specs.Memory.Scalars.{Scalar, pointer}
use Rattle.memory_model.specs.Memory.Tags.{tag_of, fit_from, fits_tag, is_tag}
use Rattle.memory_model.specs.Effects.Accesses.{class_in, bytes_seen, is_seen_as, store}
use Rattle.memory_model.specs.Effects.Operands.{is_of_kind}
use Rattle.memory_model.specs.Effects.ScalarBytes.{refilled, scalar_bytes}
use Rattle.memory_model.specs.Effects.Touches.{is_literal, is_allocated, storage_at, set_bytes}
use Rattle.memory_model.specs.Effects.Worlds.{World, goes}
use Rattle.store_sound.proofs.operations.Classes.{is_same_class}
use Rattle.store_sound.proofs.operations.MachineStores.{set_is}
use Rattle.store_sound.proofs.operations.Slices.{get_take, get_drop, get_set_same}

-- ---- an instance whose bytes are set

set_twice : {X : Type 0} (xs : List X) (k : ℕ) (x y : X) → set (set xs k x) k y ≡ set xs k y
set_twice [] k x y = refl
set_twice (z ∷ zs) zero x y = refl
set_twice (z ∷ zs) (suc k) x y = ap (λ w. z ∷ w) (set_twice zs k x y)

set_own : {X : Type 0} (xs : List X) (k : ℕ) (x : X) → slice_get xs k ≡ Some x → set xs k x ≡ xs
set_own [] k x e = cc
set_own (z ∷ zs) zero x e = let f : z ≡ x = cc in ap (λ w. w ∷ zs) (sym f)
set_own (z ∷ zs) (suc k) x e = ap (λ w. z ∷ w) (set_own zs k x e)

module _ (memory : Memory) (i : ℕ) (it : Instance) (at : slice_get memory i ≡ Some it) where
  made_of : (bytes : List Byte) → slice_get (set_bytes memory i bytes) i ≡ Some (record it { bytes = bytes })
  made_of bytes = ap (λ z. slice_get z i) (set_is memory i it bytes at) ∙ get_set_same memory i (record it { bytes = bytes }) (slice_get_within memory i it at)

  pub own_bytes : (bytes : List Byte) → bytes_at (set_bytes memory i bytes) i ≡ bytes
  own_bytes bytes = ap bytes_of (made_of bytes)

  pub bytes_twice : (bytes more : List Byte) → set_bytes (set_bytes memory i bytes) i more ≡ set_bytes memory i more
  bytes_twice bytes more =
      set_is (set_bytes memory i bytes) i (record it { bytes = bytes }) more (made_of bytes)
      ∙ (ap (λ z. set z i (record it { bytes = more })) (set_is memory i it bytes at)
      ∙ (set_twice memory i (record it { bytes = bytes }) (record it { bytes = more }) ∙ sym (set_is memory i it more at)))

  pub bytes_own : set_bytes memory i (bytes_at memory i) ≡ memory
  bytes_own = ap (λ z. set_bytes memory i (bytes_of z)) at ∙ (set_is memory i it it.bytes at ∙ set_own memory i it at)

-- ---- the machine's store

tag_fits : (class : Class) (k : ℕ) → is_tag (record { class = class; at = k }) class k ≡ true
tag_fits class k = let a : same_class class class ≡ true = is_same_class class class refl in let b : (k == k) ≡ true = grind (arith, nat_tests) in and_from (same_class class class) (k == k) a b

fit_by : (class : Class) (k : ℕ) (bytes : List Byte) → ((j : ℕ) (b : Byte) → slice_get bytes j ≡ Some b → b.tag ≡ tag_of class (k + j)) → fit_from false class k bytes ≡ true
fit_by class k [] h = refl
fit_by class k (b ∷ bs) h =
    let z : k + 0 ≡ k = omega arith in
    let t : b.tag ≡ tag_of class k = h 0 b refl ∙ ap (tag_of class) z in
    and_from (fits_tag false class k b.tag) (fit_from false class (suc k) bs) (ap (fits_tag false class k) t ∙ tag_fits class k)
    (fit_by class (suc k) bs (λ j c e. h (suc j) c e ∙ ap (tag_of class) (omega arith)))

module _ (m : Model) (kind : declared.Scalar) (v : Scalar) (w : World) (i offset size : ℕ) (of_kind : is_of_kind kind v ≡ true) (alive : life_at w.memory i ≡ live) (plain : storage_at w.memory i ≡ static) (fits : offset + class_bytes m (class_in kind) ≤ size)
    (tags : (k : ℕ) (b : Byte) → k < class_bytes m (class_in kind) → slice_get (bytes_at w.memory i) (offset + k) ≡ Some b → b.tag ≡ tag_of (class_in kind) k) where
  abbrev cs : List Content
  cs = scalar_bytes (class_bytes m (class_in kind)) v

  seen : is_seen_as false (class_in kind) (bytes_seen m w (class_in kind) (record { instance = i; offset = offset })) ≡ true
  seen = or_right (same_class (class_in kind) Char) _ (fit_by (class_in kind) 0 _ (λ j b e.
      let r = get_take (class_bytes m (class_in kind)) (drop offset (bytes_at w.memory i)) j b e in
      let z : 0 + j ≡ j = omega arith in
      tags j b r.0 (sym (get_drop offset (bytes_at w.memory i) j (offset + j) refl) ∙ r.1) ∙ ap (tag_of (class_in kind)) (sym z)))

  -- the store goes on, and its bytes take the place of those that were there
  pub static_store : store m kind (pointer (into i offset 0 size)) v w ≡ goes v (record w { memory = set_bytes w.memory i (refilled (bytes_at w.memory i) offset cs) })
  static_store =
      let a : nat_le (offset + class_bytes m (class_in kind)) size ≡ true = le-leb _ _ fits in
      let b : nat_le 0 offset ≡ true = le-leb _ _ (omega arith) in
      let lit : is_literal (storage_at w.memory i) ≡ false = ap is_literal plain in
      let alloc : is_allocated (storage_at w.memory i) ≡ false = ap is_allocated plain in
      rw (of_kind, alive, a, b, lit, alloc, seen) refl
