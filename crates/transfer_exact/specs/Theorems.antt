-- What the theorems on exact steps say.
use Rattle.cc_base.specs.Lattices.{LatticeOf}
use Rattle.cc_base.specs.IntegerDomains.{IntegersOf}
use Rattle.std.specs.Prelude.{ℤ}
use Rattle.cfg.specs.declared.programs.Flow.{Flow}
use Rattle.transfer_exact.specs.Accesses.StoreLaws.{LoadsAreExact, StoresAreExact, ForgetsAreExact, ClearsAreExact, EntersAreExact, LeavesAreExact}
use Rattle.cc_base.specs.IntegerLaws.{SoundLaws}
use Rattle.transfer_exact.specs.Values.ExactNumbers.{ExactLaws}
use Rattle.transfer_exact.specs.Values.SingleLaws.{CallsAreExact, PointerStepsAreExact, ValueStepsAreExact}
use Rattle.cc_base.specs.declared.limit_table.Limits.{Limits}
use Rattle.transfer_exact.specs.Edges.WayLaws.{EdgesAreExact}
use Rattle.transfer_exact.specs.Edges.TestLaws.{PointerTestsAreExact, NullTestsAreExact, CasesAreExact, IntegerTestsAreExact}
use Rattle.transfer_exact.specs.Spelling.CopyLaws.{SpellsAreExact}
use Rattle.interval_domain.specs.Intervals.IntervalNumbers.{interval_numbers}

abbrev pub IntervalsAreExact : Type 0
IntervalsAreExact = ExactLaws interval_numbers

module _ {I : Type 0} (l : LatticeOf I) (n : IntegersOf I) (stands : I → ℤ → Type 0) where
  abbrev pub LoadsAreExactEverywhere : Type 0
  LoadsAreExactEverywhere = (flow : Flow) → LoadsAreExact l n stands flow

  abbrev pub StoresAreExactEverywhere : Type 0
  StoresAreExactEverywhere = (flow : Flow) → SoundLaws l n stands → ExactLaws n → StoresAreExact l n stands flow

  abbrev pub ForgetsAreExactEverywhere : Type 0
  ForgetsAreExactEverywhere = (flow : Flow) → ForgetsAreExact l n stands flow

  abbrev pub ClearsAreExactEverywhere : Type 0
  ClearsAreExactEverywhere = (flow : Flow) → ClearsAreExact l n stands flow

  abbrev pub CallsAreExactEverywhere : Type 0
  CallsAreExactEverywhere = (flow : Flow) → SoundLaws l n stands → ExactLaws n → CallsAreExact l n stands flow

  abbrev pub EdgesAreExactEverywhere : Type 0
  EdgesAreExactEverywhere = (flow : Flow) (limits : Limits) → SoundLaws l n stands → ExactLaws n → EdgesAreExact l n stands flow limits

  abbrev pub PointerTestsAreExactEverywhere : Type 0
  PointerTestsAreExactEverywhere = (flow : Flow) → PointerTestsAreExact l n stands flow

  abbrev pub NullTestsAreExactEverywhere : Type 0
  NullTestsAreExactEverywhere = (flow : Flow) → NullTestsAreExact l n stands flow

  abbrev pub CasesAreExactEverywhere : Type 0
  CasesAreExactEverywhere = (flow : Flow) → CasesAreExact l n stands flow

  abbrev pub EntersAreExactEverywhere : Type 0
  EntersAreExactEverywhere = (flow : Flow) → EntersAreExact l n stands flow

  abbrev pub LeavesAreExactEverywhere : Type 0
  LeavesAreExactEverywhere = (flow : Flow) → LeavesAreExact l n stands flow

  abbrev pub PointerStepsAreExactEverywhere : Type 0
  PointerStepsAreExactEverywhere = (flow : Flow) → ExactLaws n → PointerStepsAreExact l n stands flow

  abbrev pub SpellsAreExactEverywhere : Type 0
  SpellsAreExactEverywhere = (flow : Flow) → SpellsAreExact l n stands flow

  abbrev pub IntegerTestsAreExactEverywhere : Type 0
  IntegerTestsAreExactEverywhere = (flow : Flow) → SoundLaws l n stands → ExactLaws n → IntegerTestsAreExact l n stands flow

  abbrev pub ValueStepsAreExactEverywhere : Type 0
  ValueStepsAreExactEverywhere = (flow : Flow) → SoundLaws l n stands → ExactLaws n → ValueStepsAreExact l n stands flow
