-- The operations on pointer parts stand for what they do to each pointer.
use Rattle.std.specs.Prelude.{◌≡◌, ℕ, ◌<◌, ℤ, pos, ◌+ℤ◌, ◌-ℤ◌, ◌*ℤ◌, ◌≤ℤ◌, int_div, true, false}
use Rattle.cc_base.specs.Lattices.{LatticeOf}
use Rattle.cc_base.specs.IntegerDomains.{IntegersOf}
use Rattle.cc_base.specs.IntegerTypes.{in_type}
use Rattle.cc_base.specs.MachineArithmetic.{holds}
use Rattle.cc_base.specs.Truths.{can_hold, can_fail}
use Rattle.cc_base.specs.declared.int_types.IntType.{IntType}
use Rattle.cc_base.specs.declared.integer_operators.Rel.{Rel}
use Rattle.pointer_domain.specs.declared.pointer_sets.Pointers.{Pointers}
use Rattle.pointer_domain.specs.PointerTables.{the_end, shifted, narrowed, pointers_compare, pointers_difference}
use Rattle.domain_theorems.specs.Values.Meaning.{IsInto}

pub record PointerMeaning {I : Type 0} (l : LatticeOf I) (n : IntegersOf I) (stands : I → ℤ → Type 0) : Type 0 where
  -- a pointer that is moved by k elements and stays within its bounds
  pub shift : (p : Pointers I) (by : I) (scale base : ℕ) (low offset high k : ℤ) → IsInto stands p base low offset high → stands by k → low ≤ℤ (offset +ℤ (k *ℤ pos scale)) → (offset +ℤ (k *ℤ pos scale)) ≤ℤ high → IsInto stands (shifted l n p by scale) base low (offset +ℤ (k *ℤ pos scale)) high
  -- a pointer to the `size` bytes that stand `from` behind it, within its bounds
  pub narrow : (p : Pointers I) (from size base : ℕ) (low offset high : ℤ) → IsInto stands p base low offset high → low ≤ℤ offset → ((offset +ℤ pos from) +ℤ pos size) ≤ℤ high → pos 0 ≤ℤ (offset +ℤ pos from) → (offset +ℤ pos from) ≤ℤ the_end
      → IsInto stands (narrowed l n p from size) base (offset +ℤ pos from) (offset +ℤ pos from) ((offset +ℤ pos from) +ℤ pos size)
  pub compare_holds : (rel : Rel) (p q : Pointers I) (base other : ℕ) (low offset high least place most : ℤ) → IsInto stands p base low offset high → IsInto stands q other least place most → holds rel offset place ≡ true → can_hold (pointers_compare l n rel p q) ≡ true
  pub compare_fails : (rel : Rel) (p q : Pointers I) (base other : ℕ) (low offset high least place most : ℤ) → IsInto stands p base low offset high → IsInto stands q other least place most → holds rel offset place ≡ false → can_fail (pointers_compare l n rel p q) ≡ true
  pub difference : (p q : Pointers I) (base other size : ℕ) (kind : IntType) (low offset high least place most : ℤ) → 0 < size → IsInto stands p base low offset high → IsInto stands q other least place most → in_type kind (int_div (offset -ℤ place) (pos size)) ≡ true → stands (pointers_difference l n p q size kind) (int_div (offset -ℤ place) (pos size))
