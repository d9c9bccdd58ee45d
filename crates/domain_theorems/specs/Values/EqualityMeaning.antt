-- Equality of pointer parts has each truth value that pointers give.
use Rattle.std.specs.Prelude.{◌≡◌, ℕ, ℤ, true}
use Rattle.pointer_domain.specs.BaseSets.{bases_has}
use Rattle.cc_base.specs.IntegerDomains.{IntegersOf}
use Rattle.cc_base.specs.Truths.{can_hold, can_fail}
use Rattle.pointer_domain.specs.declared.base_sets.Bases.{Bases}
use Rattle.pointer_domain.specs.declared.pointer_sets.Pointers.{Pointers}
use Rattle.pointer_domain.specs.PointerTables.{pointers_equal}
use Rattle.domain_theorems.specs.Values.Meaning.{IsInto}
use Rattle.domain_theorems.specs.Values.BaseMeaning.{IsBase}

pub record EqualityMeaning {I : Type 0} (n : IntegersOf I) (stands : I → ℤ → Type 0) : Type 0 where
  -- two pointers into one base at one offset may be the same
  pub same_holds : (p q : Pointers I) (single : Bases) (base : ℕ) (low offset high least most : ℤ) → IsInto stands p base low offset high → IsInto stands q base least offset most → can_hold (pointers_equal n p q single) ≡ true
  -- two pointers at different offsets differ
  pub apart_fails : (p q : Pointers I) (single : Bases) (base other : ℕ) (low offset high least place most : ℤ) → IsInto stands p base low offset high → IsInto stands q other least place most → (offset ≡ place → ⊥) → can_fail (pointers_equal n p q single) ≡ true
  pub nulls_hold : (p q : Pointers I) (single : Bases) → p.null ≡ true → q.null ≡ true → can_hold (pointers_equal n p q single) ≡ true
  -- null is no pointer into an instance, on either side
  pub null_fails : (p q : Pointers I) (single : Bases) (base : ℕ) (low offset high : ℤ) → p.null ≡ true → IsInto stands q base low offset high → can_fail (pointers_equal n p q single) ≡ true
  pub to_null_fails : (p q : Pointers I) (single : Bases) (base : ℕ) (low offset high : ℤ) → IsInto stands p base low offset high → q.null ≡ true → can_fail (pointers_equal n p q single) ≡ true
  -- pointers into two instances may be at one offset: into two bases, or into one of which there may be several
  pub instances_fail : (p q : Pointers I) (single : Bases) (base other : ℕ) (low offset high least place most : ℤ) → IsBase base → IsBase other → IsInto stands p base low offset high → IsInto stands q other least place most → (base ≡ other → bases_has single base ≡ true → ⊥) → can_fail (pointers_equal n p q single) ≡ true
