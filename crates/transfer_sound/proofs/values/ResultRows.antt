-- The rows in which the analysis puts results that stand for something.
use Rattle.std.proofs.Common.{◌≡◌, ℕ, Bool, true, false, not, ◌||◌, Some, List, arith, sym, refl, ap}
use Rattle.std.specs.Prelude.{ℤ, pos}
use Rattle.std.proofs.lemmas.Int.{ints}
use Rattle.std.proofs.lemmas.Bool.{true≢false}
use Rattle.cc_base.specs.Lattices.{LatticeOf}
use Rattle.cc_base.specs.IntegerDomains.{IntegersOf, BoundLaws}
use Rattle.cc_base.specs.Truths.{can_hold, can_fail}
use Rattle.cc_base.specs.declared.integer_operators.Tri.{Tri}
use Rattle.cc_base.specs.declared.integer_operators.Tri.TheVariants.{No, Yes, Both, Never}
use Rattle.cfg.specs.declared.programs.Flow.{Flow}
use Rattle.pointer_domain.specs.BaseSets.{bases_empty}
use Rattle.pointer_domain.specs.PointerTables.{is_any}
use Rattle.pointer_domain.specs.declared.pointer_sets.Pointers.{Pointers}
use Rattle.value_domain.specs.declared.values.values.Value.{Value}
use Rattle.value_domain.specs.declared.values.row_cells.Cell.{Cell}
use Rattle.value_domain.specs.Values.ValueTables.{pointer_value, truth_value}
use Rattle.domain_theorems.proofs.values.EqualityStands.{has_some}
use Rattle.domain_theorems.proofs.values.Flags.{or_left, or_right}
use Rattle.domain_theorems.proofs.values.Numbers.{of_range_stands}
use Rattle.transfer_checks.specs.Temporaries.{put_temp}
use Rattle.transfer_system.specs.ResultTemps.{put_number, put_truth, put_pointer}
use Rattle.memory_model.specs.Memory.Bytes.{MachinePointer, null, into}
use Rattle.memory_model.specs.Memory.Instances.{Memory, Life, live, ended, freed, life_at}
use Rattle.memory_model.specs.Effects.IntegerEffects.{truth}
use Rattle.store_sound.specs.Concretization.ValueMeaning.{Naming, InGammaByLife, InGammaPointer, InGammaScalar}
use Rattle.transfer_sound.proofs.values.NearScalars.{IsNearScalar}

pub truth_near : (b : Bool) → IsNearScalar (truth b)
truth_near true = record { from = omega (arith, ints); to = omega (arith, ints) }
truth_near false = record { from = omega (arith, ints); to = omega (arith, ints) }

module _ {I : Type 0} {l : LatticeOf I} {n : IntegersOf I} {gamma : I → ℤ → Type 0} (q : BoundLaws l n gamma) (flow : Flow) (row : List (Cell I)) (to : ℕ) where
  pub number_row : (x : Value I) (z : ℤ) → gamma x.num z → put_number n flow row to x ≡ Some (put_temp flow row to x)
  unfolding put_number
  number_row x z h = let i = q.inside x.num z h in rw i.2 refl

  module _ (naming : Naming) (memory : Memory) where
    -- the row with a truth value, and what stands for it
    pub record TruthRow (t : Tri) (b : Bool) : Type 0 where
      pub value : Value I
      pub is : put_truth l n flow row to t ≡ Some (put_temp flow row to value)
      pub stands_for : InGammaScalar gamma naming memory value (truth b)

    pub truth_row : (t : Tri) (b : Bool) → (b ≡ true → can_hold t ≡ true) → (b ≡ false → can_fail t ≡ true) → TruthRow t b
    unfolding put_truth
    truth_row Yes true h k = record { value = truth_value l n Yes; is = refl; stands_for = (q.one_stands (pos 1), refl) }
    truth_row Yes false h k = absurd (true≢false (sym (k refl)))
    truth_row No true h k = absurd (true≢false (sym (h refl)))
    truth_row No false h k = record { value = truth_value l n No; is = refl; stands_for = (q.one_stands (pos 0), refl) }
    truth_row Both true h k = record { value = truth_value l n Both; is = refl; stands_for = (of_range_stands q (Some (pos 0, pos 1)) (pos 1) (omega (arith, ints), omega (arith, ints)), refl) }
    truth_row Both false h k = record { value = truth_value l n Both; is = refl; stands_for = (of_range_stands q (Some (pos 0, pos 1)) (pos 0) (omega (arith, ints), omega (arith, ints)), refl) }
    truth_row Never true h k = absurd (true≢false (sym (h refl)))
    truth_row Never false h k = absurd (true≢false (sym (k refl)))

    -- ---- pointers

    life_there : (x : Pointers I) (life : Life) (i offset lo hi : ℕ) → InGammaByLife gamma naming memory x life i offset lo hi → (is_any x || x.ended) ≡ true
    life_there x live i offset lo hi h = or_left (is_any x) x.ended (or_left (not (bases_empty x.bases)) x.null (ap not (has_some x.bases h.base h.among)))
    life_there x ended i offset lo hi h = or_right (is_any x) x.ended h
    life_there x freed i offset lo hi h = or_left (is_any x) x.ended (or_left (not (bases_empty x.bases)) x.null (ap not (has_some x.bases h.base h.among)))

    pointer_there : (x : Pointers I) (p : MachinePointer) → InGammaPointer gamma naming memory x p → (is_any x || x.ended) ≡ true
    pointer_there x null h = or_left (is_any x) x.ended (or_right (not (bases_empty x.bases)) x.null h)
    pointer_there x (into i offset lo hi) h = life_there x (life_at memory i) i offset lo hi h

    pub pointer_row : (x : Pointers I) (p : MachinePointer) → InGammaPointer gamma naming memory x p → put_pointer l flow row to x ≡ Some (put_temp flow row to (pointer_value l x))
    unfolding put_pointer
    pointer_row x p h = rw (pointer_there x p h) refl
