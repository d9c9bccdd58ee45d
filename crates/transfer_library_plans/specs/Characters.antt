-- The functions on characters (7.4), in the "C" locale.
use Rattle.std.specs.Prelude.{ℤ, pos, negsuc, ◌+ℤ◌, ◌-ℤ◌, int_le, Bool, cond, not, ◌&&◌, Some, None}
use Rattle.std.specs.Ordering.{int_eq}
use Rattle.std.specs.Int.{w128, saturate_signed, int_min, int_max}
use Rattle.cc_base.specs.Lattices.{LatticeOf}
use Rattle.cc_base.specs.IntegerDomains.{IntegersOf, between_or_least}
use Rattle.cc_base.specs.NumberRanges.{Range, range_met}
use Rattle.c_layout.specs.CharacterClasses.{is_lower, is_upper, has_class}
use Rattle.c_layout.specs.declared.library_functions.LibFn.{LibFn}
use Rattle.c_layout.specs.declared.library_functions.LibFn.TheVariants as f
use Rattle.value_domain.specs.declared.values.values.Value.{Value}
use Rattle.value_domain.specs.Values.LabelSets.{no_labels}
use Rattle.value_domain.specs.Values.ValueTables.{number_value}
use Rattle.transfer_checks.specs.IntegerChecks.{character_violations}
use Rattle.transfer_library_plans.specs.declared.call_plans.Effect.TheVariants as effect
use Rattle.transfer_library_plans.specs.declared.call_plans.Plan.{Plan}
use Rattle.transfer_library_plans.specs.Plans.{trail_of, planned}

abbrev pub meets : ℤ → ℤ → ℤ → ℤ → Bool
meets lo hi from to = int_le lo to && int_le from hi

-- in 128 bits, which sums of characters are
abbrev pub sum_of : ℤ → ℤ → ℤ
sum_of a b = saturate_signed w128 (a +ℤ b)

abbrev pub difference_of : ℤ → ℤ → ℤ
difference_of a b = saturate_signed w128 (a -ℤ b)

module _ {I : Type 0} where
  -- the answer of a test of characters from `lo` to `hi`
  abbrev pub tested_number : LatticeOf I → IntegersOf I → LibFn → ℤ → ℤ → I
  tested_number l n function lo hi = cond (int_eq lo hi) (cond (has_class function lo) (n.one (pos 1)) (n.one (pos 0))) (between_or_least l n (pos 0) (pos 1))

  -- the letters that `toupper` gives
  abbrev pub raised : LatticeOf I → IntegersOf I → ℤ → ℤ → I
  raised l n lo hi =
      cond (int_eq lo hi && is_lower lo) (between_or_least l n (difference_of lo (pos 32)) (difference_of lo (pos 32)))
      (cond (not (int_eq lo hi) && meets lo hi (pos 97) (pos 122)) (between_or_least l n (int_min lo (pos 65)) hi) (between_or_least l n lo hi))

  -- the letters that `tolower` gives
  abbrev pub lowered : LatticeOf I → IntegersOf I → ℤ → ℤ → I
  lowered l n lo hi =
      cond (int_eq lo hi && is_upper lo) (between_or_least l n (sum_of lo (pos 32)) (sum_of lo (pos 32)))
      (cond (not (int_eq lo hi) && meets lo hi (pos 65) (pos 90)) (between_or_least l n lo (int_max hi (pos 122))) (between_or_least l n lo hi))

  abbrev pub answer : LatticeOf I → IntegersOf I → LibFn → Value I → ℤ → ℤ → Value I
  answer l n f.Toupper c lo hi = number_value l (raised l n lo hi) c.labels
  answer l n f.Tolower c lo hi = number_value l (lowered l n lo hi) c.labels
  answer l n function c lo hi = number_value l (tested_number l n function lo hi) no_labels

  abbrev pub plan_in : LatticeOf I → IntegersOf I → LibFn → Value I → Range → Plan I
  plan_in l n function c None = planned (trail_of (character_violations n c)) effect.Unreached
  plan_in l n function c (Some p) = planned (trail_of (character_violations n c)) (effect.Result (answer l n function c p.0 p.1))

  -- the plan of a function on characters
  unfoldable pub plan_character : LatticeOf I → IntegersOf I → LibFn → Value I → Plan I
  plan_character l n function c = plan_in l n function c (range_met (n.bounds c.num) (negsuc 0) (pos 255))
