-- What the theorems on single runs say.
use Rattle.cc_base.specs.Lattices.{LatticeOf}
use Rattle.cc_base.specs.IntegerDomains.{IntegersOf}
use Rattle.std.specs.Prelude.{ℤ, List}
use Rattle.cc_base.specs.IntegerLaws.{SoundLaws}
use Rattle.cfg.specs.declared.programs.Flow.{Flow}
use Rattle.transfer_exact.specs.Values.ExactNumbers.{ExactLaws}
use Rattle.transfer_exact.specs.Spelling.CopyLaws.{StartIsExact, CopiesAreExact}
use Rattle.cc_base.specs.declared.limit_table.Limits.{Limits}
use Rattle.run_exact.specs.Runs.SingleRuns.{MapsAdmitOnlyRun}

module _ {I : Type 0} (l : LatticeOf I) (n : IntegersOf I) (stands : I → ℤ → Type 0) where
  abbrev pub StartIsExactEverywhere : Type 0
  StartIsExactEverywhere = (flow : Flow) → SoundLaws l n stands → ExactLaws n → StartIsExact l n stands flow

  abbrev pub MapsAdmitOnlyTheRun : Type 0
  MapsAdmitOnlyTheRun = (flow : Flow) (list : List ℤ) (limits : Limits) → MapsAdmitOnlyRun l n stands flow list limits

  abbrev pub CopiesAreExactEverywhere : Type 0
  CopiesAreExactEverywhere = (flow : Flow) → ExactLaws n → CopiesAreExact l n stands flow
