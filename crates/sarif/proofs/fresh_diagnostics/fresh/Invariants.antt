use Rattle.std.proofs.Common.{◌≡◌, ◌++◌, drop, map, string_bytes}
use Rattle.sarif.specs.Comparing.{fresh_of}
use Rattle.sarif.proofs.fresh_diagnostics.fresh.Given as goal

abbrev pub invariant-loop-diag : goal.invariant-loop-diag
invariant-loop-diag l = l.fresh.items ++ fresh_of (map string_bytes l.files) l.known (drop l.diag-index l.diags) ≡ fresh_of (map string_bytes l.files) l.known l.diags
