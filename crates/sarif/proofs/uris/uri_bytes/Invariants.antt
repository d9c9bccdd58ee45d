use Rattle.std.proofs.Common.{◌≡◌, ◌++◌, length, option_map}
use Rattle.sarif.specs.Uris.{uri_bytes}
use Rattle.sarif.proofs.uris.uri_bytes.Given as goal

abbrev pub invariant-loop-rest : goal.invariant-loop-rest
invariant-loop-rest l = option_map (λ more. l.bytes ++ more) (uri_bytes l.rest) ≡ uri_bytes l.uri

abbrev pub decreases-loop-rest : goal.decreases-loop-rest
decreases-loop-rest l = length l.rest
