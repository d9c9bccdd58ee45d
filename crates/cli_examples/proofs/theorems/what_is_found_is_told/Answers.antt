use Rattle.cli_examples.proofs.outcomes.OneLine.{one_line, two_lines, found_is_told, nothing_is_told}
use Rattle.cli_examples.proofs.theorems.what_is_found_is_told.Goals as goal

pub returns : goal.returns
returns c = record { one = one_line; two = two_lines; status = found_is_told; nothing = nothing_is_told }
