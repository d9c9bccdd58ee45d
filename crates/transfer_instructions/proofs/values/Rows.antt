-- Worked rows of the definitions.
use Rattle.std.specs.Prelude.{◌≡◌, refl, ◌^◌, ◌+◌, true, false, Some, None}
use Rattle.cc_base.specs.declared.integer_operators.Tri.TheVariants.{Yes, No, Both, Never}
use Rattle.c_layout.specs.declared.leaf_lists.Class.TheVariants as class
use Rattle.cfg.specs.declared.machine_instructions.Scalar.TheVariants as scalar
use Rattle.transfer_instructions.specs.Values.Scalars.{class_of, minds_blank}
use Rattle.transfer_instructions.specs.Values.ResultTemps.{negated}
use Rattle.transfer_instructions.specs.Values.PointerSteps.{is_short}

-- a load of signed char minds an indeterminate byte, one of unsigned char does not
signed_minds : minds_blank class.Char true ≡ true
signed_minds = refl

unsigned_does_not : minds_blank class.Char false ≡ false
unsigned_does_not = refl

int_minds : minds_blank class.Int false ≡ true
int_minds = refl

pointers_have_no_sign : class_of scalar.Pointer ≡ (class.Pointer, false)
pointers_have_no_sign = refl

not_yes : negated Yes ≡ No
not_yes = refl

not_both : negated Both ≡ Both
not_both = refl

-- an object has at most 2^30 bytes
longest_is_short : is_short (2 ^ 30) ≡ true
longest_is_short = refl

one_more_is_not : is_short (2 ^ 30 + 1) ≡ false
one_more_is_not = refl
