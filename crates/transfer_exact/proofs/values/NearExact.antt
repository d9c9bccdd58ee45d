-- The near part of a value tells what the value tells, where it is near.
use Rattle.std.proofs.Common.{◌≡◌, ℕ, ◌≤◌, Bool, true, false, Option, Some, length, arith, ap, ◌∙◌}
use Rattle.std.specs.Prelude.{ℤ, pos, ◌-ℤ◌}
use Rattle.std.proofs.lemmas.Int.{ints}
use Rattle.cc_base.specs.Lattices.{LatticeOf}
use Rattle.cc_base.specs.IntegerDomains.{IntegersOf, BoundLaws}
use Rattle.pointer_domain.specs.declared.pointer_sets.Pointers.{Pointers}
use Rattle.value_domain.specs.declared.values.values.Value.{Value}
use Rattle.store_cells.specs.AccessWindows.{last_offset}
use Rattle.store_cells.specs.NearValues.{is_near, near_number, near_pointer, near_value}
use Rattle.memory_model.specs.Memory.Bytes.{MachinePointer, null, into}
use Rattle.memory_model.specs.Memory.Instances.{Memory, Life, live, ended, freed, bytes_at, life_at}
use Rattle.memory_model.specs.Memory.Scalars.{Scalar, integer, pointer}
use Rattle.store_sound.specs.Concretization.SoundMemory.{IsWithin, IsPointerIn, IsScalarIn}
use Rattle.transfer_sound.proofs.values.NearScalars.{IsNearNumber, IsNearScalar, near_distance, near_offset}
use Rattle.transfer_exact.specs.Values.SingleNumbers.{IsOne, IsNone}
use Rattle.transfer_exact.specs.Values.SingleValues.{IsNowhere, IsIntoOne, ExactByLife, ExactPointer, ExactScalar}

is_near_one : (z : ℤ) → IsNearNumber z → is_near (Some (z, z)) ≡ true
is_near_one z w = let f = w.from in let g = w.to in grind (arith, ints)

module _ {I : Type 0} {l : LatticeOf I} {n : IntegersOf I} {gamma : I → ℤ → Type 0} (q : BoundLaws l n gamma) where
  pub near_one : (x : I) (z : ℤ) → IsNearNumber z → IsOne n x z → IsOne n (near_number l n x) z
  near_one x z w e = let t : is_near (n.bounds x) ≡ true = ap is_near e ∙ is_near_one z w in rw t e

  pub near_none : (x : I) → IsNone n x → IsNone n (near_number l n x)
  near_none x e = rw e q.least_bounds

  module _ (entered : ℕ → Option ℕ) (memory : Memory) (small : (i : ℕ) → length (bytes_at memory i) ≤ last_offset) where
    near_into : (v : Pointers I) (i offset lo hi : ℕ) → IsWithin memory i offset lo hi → IsIntoOne n entered v i offset lo hi → IsIntoOne n entered (near_pointer l n v) i offset lo hi
    near_into v i offset lo hi w h =
        let above = w.above in
        let below = w.below in
        let within = w.within in
        let size : ℕ = length (bytes_at memory i) in
        record {
          base = h.base;
          few = h.few;
          names = h.names;
          bases = h.bases;
          lower = near_one v.lo (pos lo) (near_offset lo size (omega (arith, above, below, within)) (small i)) h.lower;
          relative = near_one v.rel (pos offset -ℤ pos lo) (near_distance lo offset size above (omega (arith, below, within)) (small i)) h.relative;
          room = near_one v.len (pos hi -ℤ pos lo) (near_distance lo hi size (omega (arith, above, below)) within (small i)) h.room;
          null = h.null;
          ended = h.ended;
        }

    near_nowhere : (v : Pointers I) (a b : Bool) → IsNowhere v a b → IsNowhere (near_pointer l n v) a b
    near_nowhere v a b h = record { bases = h.bases; null = h.null; ended = h.ended }

    near_by : (v : Pointers I) (life : Life) (i offset lo hi : ℕ) → IsWithin memory i offset lo hi → ExactByLife n entered v life i offset lo hi → ExactByLife n entered (near_pointer l n v) life i offset lo hi
    near_by v live i offset lo hi w h = near_into v i offset lo hi w h
    near_by v ended i offset lo hi w h = near_nowhere v false true h
    near_by v freed i offset lo hi w h = absurd h

    pub near_pointer_tells : (v : Pointers I) (p : MachinePointer) → IsPointerIn memory p → ExactPointer n entered memory v p → ExactPointer n entered memory (near_pointer l n v) p
    near_pointer_tells v null w h = near_nowhere v true false h
    near_pointer_tells v (into i offset lo hi) w h = near_by v (life_at memory i) i offset lo hi w h

    pub near_scalar_tells : (x : Value I) (v : Scalar) → IsScalarIn memory v → IsNearScalar v → ExactScalar n entered memory x v → ExactScalar n entered memory (near_value l n x) v
    near_scalar_tells x (integer z labels) w near h = record {
      number = near_one x.num z near h.number;
      labels_are = h.labels_are;
      apart = near_nowhere x.pointer false false h.apart;
      determinate = h.determinate;
    }
    near_scalar_tells x (pointer p) w near h = record { apart = near_none x.num h.apart; points = near_pointer_tells x.pointer p w h.points; determinate = h.determinate }
