-- The laws of the tests and the cases of edges, by what they are on.
use Rattle.std.specs.Prelude.{ℕ, ℤ, Some}
use Rattle.cc_base.specs.Lattices.{LatticeOf}
use Rattle.cc_base.specs.IntegerDomains.{IntegersOf}
use Rattle.cfg.specs.declared.flow_edges.Test.{Test}
use Rattle.cfg.specs.declared.programs.Flow.{Flow}
use Rattle.store_sound.specs.Programs.Premises.{HasPremises}
use Rattle.transfer_sound.specs.Tests.ScalarObjects.{IsCaseObject, IsIntegerTest, IsNullTest, IsPointerTest}
use Rattle.transfer_exact.specs.Edges.WayLaws.{TestIsExact, CaseIsExact}

module _ {I : Type 0} (l : LatticeOf I) (n : IntegersOf I) (gamma : I → ℤ → Type 0) (flow : Flow) where
  -- a test of pointers that refines nothing
  abbrev pub PointerTestsAreExact : Type 0
  PointerTestsAreExact = (test : Test) → IsPointerTest test → TestIsExact l n gamma flow (Some test)

  -- a test of an object that is one pointer against a null constant
  abbrev pub NullTestsAreExact : Type 0
  NullTestsAreExact = HasPremises flow → (test : Test) → IsNullTest flow test → TestIsExact l n gamma flow (Some test)

  -- a test on integers: of two sides, or of an object with itself
  abbrev pub IntegerTestsAreExact : Type 0
  IntegerTestsAreExact = HasPremises flow → (test : Test) → IsIntegerTest flow test → TestIsExact l n gamma flow (Some test)

  abbrev pub CasesAreExact : Type 0
  CasesAreExact = HasPremises flow → (value : ℤ) (b : ℕ) → IsCaseObject flow b → CaseIsExact l n gamma flow value (Some b)
