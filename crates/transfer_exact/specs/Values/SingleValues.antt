-- Values of the analysis that tell exactly what a scalar is: one number with its labels, or one pointer.
use Rattle.std.specs.Prelude.{◌≡◌, ℕ, ◌<◌, ℤ, ◌-ℤ◌, pos, Bool, true, false, Option, Some, None}
use Rattle.cc_base.specs.IntegerDomains.{IntegersOf}
use Rattle.pointer_domain.specs.BaseSets.{bases_empty}
use Rattle.pointer_domain.specs.declared.pointer_sets.Pointers.{Pointers}
use Rattle.value_domain.specs.declared.values.values.Value.{Value}
use Rattle.store_objects.specs.LiveBases.{most_bases, only_base}
use Rattle.memory_model.specs.Memory.Labels.{Labels}
use Rattle.memory_model.specs.Memory.Bytes.{MachinePointer, null, into}
use Rattle.memory_model.specs.Memory.Instances.{Memory, Life, live, ended, freed, life_at}
use Rattle.memory_model.specs.Memory.Scalars.{Scalar, integer, pointer}
use Rattle.store_sound.specs.Concretization.SeenLabels.{as_set}
use Rattle.transfer_exact.specs.Values.SingleNumbers.{IsOne, IsNone}

module _ {I : Type 0} where
  -- no pointer into an object; whether there is null and whether there is one that has ended
  pub record IsNowhere (v : Pointers I) (is_null has_ended : Bool) : Type 0 where
    pub bases : bases_empty v.bases ≡ true
    pub null : v.null ≡ is_null
    pub ended : v.ended ≡ has_ended

-- `entered` has the instances that bases name
module _ {I : Type 0} (n : IntegersOf I) (entered : ℕ → Option ℕ) where
  -- one offset into the instance of one base, within one pair of bounds
  pub record IsIntoOne (v : Pointers I) (i offset lo hi : ℕ) : Type 0 where
    pub base : ℕ
    pub few : base < most_bases
    pub names : entered base ≡ Some i
    pub bases : v.bases ≡ only_base base
    pub lower : IsOne n v.lo (pos lo)
    pub relative : IsOne n v.rel (pos offset -ℤ pos lo)
    pub room : IsOne n v.len (pos hi -ℤ pos lo)
    pub null : v.null ≡ false
    pub ended : v.ended ≡ false

  abbrev pub ExactByLife : Pointers I → Life → ℕ → ℕ → ℕ → ℕ → Type 0
  ExactByLife v live i offset lo hi = IsIntoOne v i offset lo hi
  ExactByLife v ended i offset lo hi = IsNowhere v false true
  ExactByLife v freed i offset lo hi = ⊥

  module _ (memory : Memory) where
    abbrev pub ExactPointer : Pointers I → MachinePointer → Type 0
    ExactPointer v null = IsNowhere v true false
    ExactPointer v (into i offset lo hi) = ExactByLife v (life_at memory i) i offset lo hi

    pub record ExactNumber (v : Value I) (z : ℤ) (labels : Labels) : Type 0 where
      pub number : IsOne n v.num z
      pub labels_are : v.labels ≡ as_set labels
      pub apart : IsNowhere v.pointer false false
      pub determinate : v.indeterminate ≡ false

    pub record ExactPointing (v : Value I) (p : MachinePointer) : Type 0 where
      pub apart : IsNone n v.num
      pub points : ExactPointer v.pointer p
      pub determinate : v.indeterminate ≡ false

    abbrev pub ExactScalar : Value I → Scalar → Type 0
    ExactScalar v (integer z labels) = ExactNumber v z labels
    ExactScalar v (pointer p) = ExactPointing v p

  -- indeterminate alone
  pub record IsBlank (v : Value I) : Type 0 where
    pub number : IsNone n v.num
    pub apart : IsNowhere v.pointer false false
    pub indeterminate : v.indeterminate ≡ true

  -- a scalar, or nothing determinate
  abbrev pub ExactHeld : Memory → Value I → Option Scalar → Type 0
  ExactHeld memory v None = IsBlank v
  ExactHeld memory v (Some scalar) = ExactScalar memory v scalar
