-- A scalar whose numbers are near is stood for by the near part of what stands for it.
use Rattle.std.proofs.Common.{ℕ, ◌^◌, ◌≤◌, List, length, arith, inl, inr}
use Rattle.std.specs.Prelude.{ℤ, pos, neg_ℤ, ◌-ℤ◌, ◌≤ℤ◌}
use Rattle.std.proofs.lemmas.Int.{ints}
use Rattle.std.proofs.lemmas.Bool.{cases_Bool}
use Rattle.cc_base.specs.Lattices.{LatticeOf}
use Rattle.cc_base.specs.IntegerDomains.{IntegersOf, BoundLaws}
use Rattle.c_layout.specs.declared.data_model.Model.{Model}
use Rattle.c_layout.specs.declared.shapes.BaseInfo.{BaseInfo}
use Rattle.pointer_domain.specs.declared.pointer_sets.Pointers.{Pointers}
use Rattle.value_domain.specs.declared.values.values.Value.{Value}
use Rattle.domain_theorems.proofs.values.Numbers.{met_has, bounds_have, of_range_stands}
use Rattle.store_cells.specs.AccessWindows.{last_offset}
use Rattle.store_cells.specs.NearValues.{is_near, near_number, near_pointer, near_value}
use Rattle.memory_model.specs.Memory.Bytes.{MachinePointer, null, into}
use Rattle.memory_model.specs.Memory.Instances.{Memory, Life, live, ended, freed, bytes_at, life_at}
use Rattle.memory_model.specs.Memory.Scalars.{Scalar, integer, pointer}
use Rattle.store_sound.specs.Concretization.ValueMeaning.{Naming, InGammaInto, InGammaByLife, InGammaPointer, InGammaScalar}
use Rattle.store_sound.specs.Concretization.SoundMemory.{IsWithin, IsPointerIn, IsScalarIn, IsMemoryOf}

-- a number from -2^64 to 2^64
pub record IsNearNumber (z : ℤ) : Type 0 where
  pub from : neg_ℤ (pos (2 ^ 64)) ≤ℤ z
  pub to : z ≤ℤ pos (2 ^ 64)

abbrev pub IsNearScalar : Scalar → Type 0
IsNearScalar (integer z labels) = IsNearNumber z
IsNearScalar (pointer p) = Unit {0}

-- offsets within an instance that is no longer than the last offset
pub near_distance : (lo hi size : ℕ) → lo ≤ hi → hi ≤ size → size ≤ last_offset → IsNearNumber (pos hi -ℤ pos lo)
near_distance lo hi size a b c = record { from = omega (arith, ints, a, b, c); to = omega (arith, ints, a, b, c) }

pub near_offset : (o size : ℕ) → o ≤ size → size ≤ last_offset → IsNearNumber (pos o)
near_offset o size a b = record { from = omega (arith, ints, a, b); to = omega (arith, ints, a, b) }

module _ {I : Type 0} {l : LatticeOf I} {n : IntegersOf I} {gamma : I → ℤ → Type 0} (q : BoundLaws l n gamma) where
  pub near_number_stands : (x : I) (z : ℤ) → IsNearNumber z → gamma x z → gamma (near_number l n x) z
  near_number_stands x z w h = elim (cases_Bool (is_near (n.bounds x))) [
    | inl e ↦ rw e h
    | inr e ↦ rw e (of_range_stands q _ z (met_has (n.bounds x) (neg_ℤ (pos (2 ^ 64))) (pos (2 ^ 64)) z (bounds_have q x z h) w.from w.to))
  ]

  module _ (m : Model) (bases : List BaseInfo) (naming : Naming) (memory : Memory) (sane : IsMemoryOf m bases naming memory) where
    near_into : (v : Pointers I) (i offset lo hi : ℕ) → IsWithin memory i offset lo hi → InGammaInto gamma naming memory v i offset lo hi → InGammaInto gamma naming memory (near_pointer l n v) i offset lo hi
    near_into v i offset lo hi w h =
        let small = sane.small i in
        let above = w.above in
        let below = w.below in
        let within = w.within in
        let size : ℕ = length (bytes_at memory i) in
        record {
          base = h.base;
          named = h.named;
          among = h.among;
          lower = near_number_stands v.lo (pos lo) (near_offset lo size (omega (arith, above, below, within)) small) h.lower;
          relative = near_number_stands v.rel (pos offset -ℤ pos lo) (near_distance lo offset size above (omega (arith, below, within)) small) h.relative;
          room = near_number_stands v.len (pos hi -ℤ pos lo) (near_distance lo hi size (omega (arith, above, below)) within small) h.room;
          whole = h.whole;
        }

    near_by : (v : Pointers I) (life : Life) (i offset lo hi : ℕ) → IsWithin memory i offset lo hi → InGammaByLife gamma naming memory v life i offset lo hi → InGammaByLife gamma naming memory (near_pointer l n v) life i offset lo hi
    near_by v live i offset lo hi w h = near_into v i offset lo hi w h
    near_by v ended i offset lo hi w h = h
    near_by v freed i offset lo hi w h = near_into v i offset lo hi w h

    pub near_pointer_stands : (v : Pointers I) (p : MachinePointer) → IsPointerIn memory p → InGammaPointer gamma naming memory v p → InGammaPointer gamma naming memory (near_pointer l n v) p
    near_pointer_stands v null w h = h
    near_pointer_stands v (into i offset lo hi) w h = near_by v (life_at memory i) i offset lo hi w h

    pub near_scalar_stands : (x : Value I) (v : Scalar) → IsScalarIn memory v → IsNearScalar v → InGammaScalar gamma naming memory x v → InGammaScalar gamma naming memory (near_value l n x) v
    near_scalar_stands x (integer z labels) w near h = (near_number_stands x.num z near h.0, h.1)
    near_scalar_stands x (pointer p) w near h = near_pointer_stands x.pointer p w h
