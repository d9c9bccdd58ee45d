-- The laws of each part, over any domain.
use Rattle.std.specs.Prelude.{ℤ}
use Rattle.cc_base.specs.Lattices.{LatticeOf, OrderLaws}
use Rattle.cc_base.specs.IntegerDomains.{IntegersOf, BoundLaws}
use Rattle.cc_base.specs.IntegerLaws.{MonotoneLaws, SoundLaws}
use Rattle.domain_theorems.specs.Values.PointerLaws.{PointerLaws}
use Rattle.domain_theorems.specs.Values.BaseLaws.{BaseLaws}
use Rattle.domain_theorems.specs.Values.ZeroLaws.{ZeroLaws}
use Rattle.domain_theorems.specs.Values.ValueLaws.{ValueLaws}
use Rattle.domain_theorems.specs.Values.PointerMeaning.{PointerMeaning}
use Rattle.domain_theorems.proofs.values.Moves.{shift_monotone, narrow_monotone, pointers_compared, difference_rises}
use Rattle.domain_theorems.proofs.values.Equality.{equal_monotone}
use Rattle.domain_theorems.proofs.values.Renames.{rename_monotone, end_monotone}
use Rattle.domain_theorems.proofs.values.Zeros.{put_monotone, text_monotone, scan_monotone}
use Rattle.domain_theorems.proofs.values.ValueOperations.{arith_monotone, unary_monotone, convert_monotone, truth_monotone, of_truth_monotone}
use Rattle.domain_theorems.proofs.values.LabelRules.{dropped_monotone}
use Rattle.domain_theorems.proofs.values.PointerStands.{shift_stands, narrow_stands, compared_holds, compared_fails, difference_stands}

module _ {I : Type 0} {l : LatticeOf I} {n : IntegersOf I} {stands : I → ℤ → Type 0} (o : OrderLaws l) (b : BoundLaws l n stands) where
  pub pointer_laws : MonotoneLaws l n → PointerLaws l n
  pointer_laws m = record {
    shift = shift_monotone o b;
    narrow = narrow_monotone o b;
    equal = equal_monotone o b;
    compare = pointers_compared o b m;
    difference = difference_rises o b;
  }

  pub base_laws : BaseLaws l n
  base_laws = record {
    renaming = rename_monotone o b;
    ending = end_monotone o b;
  }

  pub zero_laws : ZeroLaws l n
  zero_laws = record {
    put = put_monotone o b;
    text = text_monotone o b;
    scan = scan_monotone o b;
  }

  pub value_laws : MonotoneLaws l n → ValueLaws l n
  value_laws m = record {
    arith = arith_monotone o b m;
    unary = unary_monotone o b m;
    convert = convert_monotone o b m;
    truth = truth_monotone o b m;
    of_truth = of_truth_monotone o b m;
    dropped = dropped_monotone;
  }

module _ {I : Type 0} {l : LatticeOf I} {n : IntegersOf I} {stands : I → ℤ → Type 0} (b : BoundLaws l n stands) where
  pub pointer_meaning : SoundLaws l n stands → PointerMeaning l n stands
  pointer_meaning s = record {
    shift = shift_stands b;
    narrow = narrow_stands b;
    compare_holds = λ rel p q base other low offset high least place most h k e. compared_holds b s rel p q base other low offset high least place most h k e;
    compare_fails = λ rel p q base other low offset high least place most h k e. compared_fails b s rel p q base other low offset high least place most h k e;
    difference = difference_stands b;
  }
