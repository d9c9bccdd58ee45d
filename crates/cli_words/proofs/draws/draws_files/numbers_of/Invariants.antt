use Rattle.std.proofs.Common.{◌≡◌, ◌≤◌, ◌-◌, drop, take, Some, []}
use Rattle.cli_words.specs.Draws.DrawsFiles.{joined, numbers_of, words_from}
use Rattle.cli_words.proofs.draws.draws_files.numbers_of.Given as goal

abbrev pub invariant-loop-at : goal.invariant-loop-at
invariant-loop-at l = (l.start ≤ l.at) × (joined (Some l.draws.items) (numbers_of (words_from (take (l.at - l.start) (drop l.start l.bytes)) (drop l.at l.bytes))) ≡ numbers_of (words_from [] l.bytes))
