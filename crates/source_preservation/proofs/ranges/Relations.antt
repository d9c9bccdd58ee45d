-- Relations that hold or do not, the opposite ones, and those with their sides exchanged.
use Rattle.std.proofs.Common.{◌≡◌, Bool, true, false, not, arith, refl, ap}
use Rattle.std.specs.Prelude.{ℤ}
use Rattle.std.specs.Ordering.{int_eq}
use Rattle.std.proofs.lemmas.Int.{ints}
use Rattle.cc_base.specs.MachineArithmetic.{holds}
use Rattle.cc_base.specs.declared.integer_operators.Rel.{Rel}
use Rattle.cc_base.specs.declared.integer_operators.Rel.TheVariants.{Eq, Ne}
use Rattle.memory_model.specs.Memory.Bytes.{MachinePointer, null, into}
use Rattle.memory_model.specs.Memory.Scalars.{is_false, is_null}
use Rattle.memory_model.specs.Effects.IntegerEffects.{truth}
use Rattle.memory_model.specs.Effects.PointerEffects.{are_equal}
use Rattle.memory_model.specs.Effects.Tests.{opposite, turned, pointers_hold}
use Rattle.semantics.specs.SourceMachine.BranchSteps.{relation_on}

not_true : (b : Bool) → b ≡ false → not b ≡ true
not_true b e = ap not e

opposite_holds : (rel : Rel) (a b : ℤ) → holds rel a b ≡ false → holds (opposite rel) a b ≡ true
opposite_holds Eq a b e = not_true (int_eq a b) e
opposite_holds Ne a b e = kept (int_eq a b) e
  where
    kept : (b : Bool) → not b ≡ false → b ≡ true
    kept true e = refl
    kept false e = cc
opposite_holds other a b e = grind (arith, ints)

-- the relation that holds on the way that is taken
pub on_way : (rel : Rel) (held : Bool) (a b : ℤ) → holds rel a b ≡ held → holds (relation_on held rel) a b ≡ true
on_way rel true a b e = e
on_way rel false a b e = opposite_holds rel a b e

pub turned_holds : (rel : Rel) (a b : ℤ) → holds (turned rel) b a ≡ holds rel a b
turned_holds Eq a b = same_turned a b
  where
    same_turned : (a b : ℤ) → int_eq b a ≡ int_eq a b
    same_turned a b = grind (arith, ints)
turned_holds Ne a b = ap not (same_turned a b)
  where
    same_turned : (a b : ℤ) → int_eq b a ≡ int_eq a b
    same_turned a b = grind (arith, ints)
turned_holds other a b = refl

-- a truth value is true where what it says holds
pub truth_is : (b : Bool) → not (is_false (truth b)) ≡ b
truth_is true = refl
truth_is false = refl

-- ---- pointers and null

pub equal_null : (p : MachinePointer) → are_equal p null ≡ is_null p
equal_null null = refl
equal_null (into i offset lo hi) = refl

pub equal_way : (p q : MachinePointer) (held : Bool) → are_equal p q ≡ held → pointers_hold (relation_on held Eq) p q ≡ true
equal_way p q true e = e
equal_way p q false e = ap not e

pub differ_way : (p q : MachinePointer) (held : Bool) → not (are_equal p q) ≡ held → pointers_hold (relation_on held Ne) p q ≡ true
differ_way p q true e = e
differ_way p q false e = back (are_equal p q) e
  where
    back : (b : Bool) → not b ≡ false → b ≡ true
    back true e = refl
    back false e = cc
