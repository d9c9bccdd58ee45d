use Rattle.std.proofs.Common.{◌≡◌, ◌+◌, ◌≤◌, drop}
use Rattle.cli_texts.specs.Summaries.{count_of}
use Rattle.cli_texts.proofs.load_summary.count_of.Given as goal

abbrev pub invariant-loop-diag : goal.invariant-loop-diag
invariant-loop-diag l = (l.count ≤ l.diag-index) × (l.count + count_of (drop l.diag-index l.diags) l.rule ≡ count_of l.diags l.rule)
