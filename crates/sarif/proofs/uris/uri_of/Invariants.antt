use Rattle.std.proofs.Common.{◌≡◌, ◌++◌, drop, string_bytes}
use Rattle.sarif.specs.Uris.{uri_of}
use Rattle.sarif.proofs.uris.uri_of.Given as goal

abbrev pub invariant-loop-at : goal.invariant-loop-at
invariant-loop-at l = string_bytes l.uri ++ uri_of (drop l.at l.name) ≡ uri_of l.name
