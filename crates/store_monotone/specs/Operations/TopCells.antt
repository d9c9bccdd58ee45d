-- The greatest cells of an own row.
use Rattle.std.specs.Prelude.{◌^◌, ◌-◌, pos, negsuc, true}
use Rattle.cc_base.specs.IntegerDomains.{IntegersOf}
use Rattle.value_domain.specs.Strings.FirstZeros.{zero_of, the_end}
use Rattle.value_domain.specs.declared.strings.first_zeros.FirstZero.{FirstZero}
use Rattle.pointer_domain.specs.declared.base_sets.Bases.{Bases}
use Rattle.value_domain.specs.declared.values.values.Value.{Value}
use Rattle.value_domain.specs.declared.values.alloc_states.AllocState.{AllocState}
use Rattle.value_domain.specs.Values.LabelSets.{all_labels}

module _ {I : Type 0} where
  -- all numbers from -2^64 to 2^64
  abbrev pub top_number : IntegersOf I → I
  top_number n = n.between (negsuc (2 ^ 64 - 1)) (pos (2 ^ 64))

  -- the greatest value with pointers into a set of bases
  abbrev pub top_value : IntegersOf I → Bases → Value I
  top_value n all = record {
    num = top_number n;
    pointer = record { bases = all; lo = top_number n; rel = top_number n; len = top_number n; part = true; null = true; ended = true };
    indeterminate = true;
    labels = all_labels;
  }

  abbrev pub top_zero : IntegersOf I → FirstZero I
  top_zero n = zero_of (n.between (pos 0) the_end)

  abbrev pub top_state : IntegersOf I → AllocState I
  top_state n = record { size = n.between (pos 0) the_end; live = true; freed = true }
