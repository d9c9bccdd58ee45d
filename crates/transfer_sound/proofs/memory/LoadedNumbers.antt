-- What a load gives is near, and of the kind that is loaded.
use Rattle.std.proofs.Common.{◌≡◌, ℕ, ◌+◌, ◌*◌, ◌^◌, ◌<◌, ◌≤◌, Bool, true, false, Some, List, length, drop, arith, subst, sym, refl}
use Rattle.std.specs.Prelude.{slice_get, pos, ◌-ℤ◌, nat_lt}
use Rattle.std.proofs.lemmas.Int.{ints}
use Rattle.std.proofs.Math.Nat.{pow-le-pow_right}
use Rattle.std.proofs.lemmas.Bool.{cond_both}
use Rattle.std.proofs.lemmas.List.{length-map, length-take}
use Rattle.c_layout.specs.declared.data_model.Model.{Model}
use Rattle.c_layout.specs.declared.shapes.BaseInfo.{BaseInfo}
use Rattle.cfg.specs.declared.machine_instructions.Scalar.TheVariants as of
use Rattle.cfg.specs.declared.machine_instructions.Scalar as declared
use Rattle.memory_model.specs.Memory.ScalarSizes.{class_bytes}
use Rattle.memory_model.specs.Memory.Bytes.{MachinePointer, Byte}
use Rattle.memory_model.specs.Memory.Instances.{bytes_at, byte_at}
use Rattle.memory_model.specs.Memory.Numbers.{Labelled, unsigned_of, number_of}
use Rattle.memory_model.specs.Memory.Scalars.{Scalar, pointer}
use Rattle.memory_model.specs.Effects.ScalarBytes.{region, contents}
use Rattle.memory_model.specs.Effects.Accesses.{class_in, numbers_in, pointer_in, scalar_in, load}
use Rattle.memory_model.specs.Effects.Worlds.{World, goes}
use Rattle.store_sound.specs.Concretization.Matching.{number_in}
use Rattle.store_sound.specs.Concretization.SoundMemory.{IsMemoryOf, IsContentIn}
use Rattle.store_sound.specs.Concretization.ValueMeaning.{Naming}
use Rattle.store_sound.specs.Operations.Scalars.{IsOfKind}
use Rattle.store_sound.proofs.operations.Classes.{class_size}
use Rattle.store_sound.proofs.operations.CellReads.{integer_is, scalar_pointer_is}
use Rattle.store_sound.proofs.operations.MachineLoads.{load_goes}
use Rattle.store_sound.proofs.operations.Reading.{region_at, numbers_length, numbers_at}
use Rattle.store_sound.proofs.operations.Rereading.{unsigned_below}
use Rattle.store_sound.proofs.operations.Slices.{get_map}
use Rattle.store_sound.proofs.operations.FreshValues.{eight}
use Rattle.transfer_sound.proofs.values.NearScalars.{IsNearNumber, IsNearScalar}

few_bits : (n : ℕ) → n ≤ 8 → 2 ^ (8 * n) ≤ 2 ^ 64
few_bits n h = let k : 8 * n ≤ 64 = omega (arith, h) in pow-le-pow_right {n = 2} (omega arith) k

number_near : (signed : Bool) (ns : List Labelled) → length ns ≤ 8 → ((k : ℕ) (n : Labelled) → slice_get ns k ≡ Some n → n.number < 256) → IsNearNumber (number_of signed ns)
number_near false ns few h =
    let a = unsigned_below ns h in
    let b : 2 ^ (8 * length ns) ≤ 2 ^ 64 = few_bits (length ns) few in
    record { from = omega (arith, ints); to = omega (arith, ints, a, b) }
number_near true ns few h =
    let u : ℕ = unsigned_of ns in
    let m : ℕ = 2 ^ (8 * length ns) in
    let a : u < m = unsigned_below ns h in
    let b : m ≤ 2 ^ 64 = few_bits (length ns) few in
    cond_both (nat_lt (2 * u) m) (pos u) (pos u -ℤ pos m) IsNearNumber
    (λ e. record { from = omega (arith, ints); to = omega (arith, ints, a, b) })
    (λ e. record { from = omega (arith, ints, b); to = omega (arith, ints, a, b) })

module _ (m : Model) (bases : List BaseInfo) (naming : Naming) (w : World) (sane : IsMemoryOf m bases naming w.memory) (kind : declared.Scalar) (at : MachinePointer) where
  module _ (size i offset : ℕ) (ns : List Labelled) (h : numbers_in (contents (region (bytes_at w.memory i) offset size)) ≡ Some ns) where
    are_bytes : (k : ℕ) (n : Labelled) → slice_get ns k ≡ Some n → n.number < 256
    unfolding byte_at
    are_bytes k n e =
        let c = numbers_at (contents (region (bytes_at w.memory i) offset size)) ns k n h e in
        let x = get_map (λ b. b.content) (region (bytes_at w.memory i) offset size) k (number_in n) c in
        let y = region_at (bytes_at w.memory i) offset size k (offset + k) x.0 x.1 refl in
        subst (λ z. IsContentIn w.memory z x.0.tag) x.2 (sane.bytes i (offset + k) x.0 y.1)

    are_few : size ≤ 8 → length ns ≤ 8
    are_few small =
        let a = numbers_length (contents (region (bytes_at w.memory i) offset size)) ns h in
        let b = length-map (region (bytes_at w.memory i) offset size) (λ (x : Byte). x.content) in
        let c = length-take size (drop offset (bytes_at w.memory i)) in
        omega (arith, a, b, c, small)

  read_near : (size i offset : ℕ) → size ≤ 8 → (kind : declared.Scalar) (v : Scalar) → scalar_in kind (contents (region (bytes_at w.memory i) offset size)) ≡ Some v → IsNearScalar v × IsOfKind kind v
  read_near size i offset small (of.Int k) v e =
      let f = integer_is (numbers_in (contents (region (bytes_at w.memory i) offset size))) k v e in
      subst (λ z. IsNearScalar z × IsOfKind (of.Int k) z) (sym f.2) (number_near k.signed f.0 (are_few size i offset f.0 f.1 small) (are_bytes size i offset f.0 f.1), refl)
  read_near size i offset small of.Pointer v e =
      let f = scalar_pointer_is (pointer_in (contents (region (bytes_at w.memory i) offset size))) v e in
      subst (λ z. IsNearScalar z × IsOfKind of.Pointer z) (sym f.2) (tt, refl)

  -- a load gives a near scalar of its kind
  pub loaded_near : (v : Scalar) (u : World) → load m kind (pointer at) w ≡ goes v u → IsNearScalar v × IsOfKind kind v
  loaded_near v u e =
      let g = load_goes m kind at w u v e in
      read_near (class_bytes m (class_in kind)) g.1.i g.1.offset (eight _ (class_size m (class_in kind))) kind v (subst (λ z. scalar_in kind z ≡ Some v) g.1.here g.3)
