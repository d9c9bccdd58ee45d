-- Outcomes of replays, as contracts see them.
use Rattle.std.specs.Prelude.{ℕ, List}
use Rattle.cc_base.specs.declared.diagnostics.Diag.{Diag}
use Rattle.semantics.specs.SourceMachine.RunFacts as run
use Rattle.interp.specs.declared.runs.outcomes.End.{End}
use Rattle.interp.specs.declared.runs.outcomes.End.TheVariants as end

abbrev pub end_view : End → run.End
end_view end.Ended = run.Ended
end_view end.Violation = run.Violation
end_view end.Draws = run.Draws
end_view end.Left = run.Left
end_view end.Steps = run.Steps

-- the pairs, how the run stands, and how many numbers of the outside it has used
pub record OutcomeView : Type 0 where
  pub diags : List Diag
  pub end : run.End
  pub used : ℕ
