use Rattle.std.proofs.Common.{◌≡◌, drop}
use Rattle.analysis_preconditions.specs.Objects.SpelledTexts.{reaches_over}
use Rattle.analysis_preconditions.proofs.objects.spelled_texts.reaches_over.Given as goal

abbrev pub invariant-loop-number : goal.invariant-loop-number
invariant-loop-number l = reaches_over (drop l.number l.leaves) l.at l.end ≡ reaches_over l.leaves l.offset l.end
