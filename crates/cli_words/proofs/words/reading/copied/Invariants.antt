use Rattle.std.proofs.Common.{◌≡◌, ◌++◌, drop, map, string_bytes}
use Rattle.cli_words.proofs.words.reading.copied.Given as goal

abbrev pub invariant-loop-name : goal.invariant-loop-name
invariant-loop-name l = map string_bytes l.made.items ++ map (λ s. s.now) (drop l.name-index l.names) ≡ map (λ s. s.now) l.names
