-- The truth of scalars, and of what stands for them.
use Rattle.std.proofs.Common.{◌≡◌, ℕ, true, false, not, ◌||◌, sym, refl, ap}
use Rattle.std.specs.Prelude.{ℤ, pos}
use Rattle.std.proofs.lemmas.Bool.{true≢false}
use Rattle.cc_base.specs.Lattices.{LatticeOf}
use Rattle.cc_base.specs.IntegerDomains.{IntegersOf, BoundLaws}
use Rattle.cc_base.specs.IntegerLaws.{SoundLaws}
use Rattle.cc_base.specs.Truths.{can_hold, can_fail}
use Rattle.cc_base.specs.declared.integer_operators.Rel.TheVariants.{Ne}
use Rattle.cc_base.specs.declared.integer_operators.Tri.{Tri}
use Rattle.cc_base.specs.declared.integer_operators.Tri.TheVariants.{No, Yes, Both, Never}
use Rattle.pointer_domain.specs.BaseSets.{bases_empty}
use Rattle.value_domain.specs.declared.values.values.Value.{Value}
use Rattle.value_domain.specs.Values.ValueTables.{value_truth}
use Rattle.domain_theorems.proofs.values.EqualityStands.{has_some}
use Rattle.domain_theorems.proofs.values.Flags.{or_left, or_right, holds_of}
use Rattle.domain_theorems.proofs.values.ValueStands.{value_meaning}
use Rattle.transfer_system.specs.ResultTemps.{negated}
use Rattle.memory_model.specs.Memory.Bytes.{null, into}
use Rattle.memory_model.specs.Memory.Instances.{Memory, Life, live, ended, freed, life_at}
use Rattle.memory_model.specs.Memory.Scalars.{Scalar, integer, pointer, is_false}
use Rattle.store_sound.specs.Concretization.ValueMeaning.{Naming, InGammaByLife, InGammaScalar}

pub negated_holds : (t : Tri) → can_hold (negated t) ≡ can_fail t
negated_holds Yes = refl
negated_holds No = refl
negated_holds Both = refl
negated_holds Never = refl

pub negated_fails : (t : Tri) → can_fail (negated t) ≡ can_hold t
negated_fails Yes = refl
negated_fails No = refl
negated_fails Both = refl
negated_fails Never = refl

module _ {I : Type 0} {l : LatticeOf I} {n : IntegersOf I} {gamma : I → ℤ → Type 0} (q : BoundLaws l n gamma) (c : SoundLaws l n gamma) (naming : Naming) (memory : Memory) where
  based_holds : (x : Value I) → (not (bases_empty x.pointer.bases) || x.pointer.ended) ≡ true → can_hold (value_truth n x) ≡ true
  based_holds x h = holds_of _ _ (or_right (can_hold (n.compare Ne x.num (n.one (pos 0)))) (not (bases_empty x.pointer.bases) || x.pointer.ended) h)

  life_holds : (x : Value I) (life : Life) (i offset lo hi : ℕ) → InGammaByLife gamma naming memory x.pointer life i offset lo hi → can_hold (value_truth n x) ≡ true
  life_holds x live i offset lo hi h = based_holds x (or_left _ _ (ap not (has_some x.pointer.bases h.base h.among)))
  life_holds x ended i offset lo hi h = (value_meaning q c).ended_holds x h
  life_holds x freed i offset lo hi h = based_holds x (or_left _ _ (ap not (has_some x.pointer.bases h.base h.among)))

  -- a scalar that is true may be so by what stands for it, and one that is false too
  pub true_holds : (x : Value I) (v : Scalar) → InGammaScalar gamma naming memory x v → is_false v ≡ false → can_hold (value_truth n x) ≡ true
  true_holds x (integer z labels) h e = (value_meaning q c).truth_holds x z h.0 (ap not e)
  true_holds x (pointer null) h e = absurd (true≢false e)
  true_holds x (pointer (into i offset lo hi)) h e = life_holds x (life_at memory i) i offset lo hi h

  pub false_fails : (x : Value I) (v : Scalar) → InGammaScalar gamma naming memory x v → is_false v ≡ true → can_fail (value_truth n x) ≡ true
  false_fails x (integer z labels) h e = (value_meaning q c).truth_fails x z h.0 (ap not e)
  false_fails x (pointer null) h e = (value_meaning q c).null_fails x h
  false_fails x (pointer (into i offset lo hi)) h e = absurd (true≢false (sym e))
