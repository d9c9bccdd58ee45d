use Rattle.std.proofs.Common.{◌≡◌, drop}
use Rattle.store.specs.Walks.{walk}
use Rattle.transfer_checks.specs.StringScans.{scan_more, nothing_scanned}
use Rattle.transfer_checks.proofs.string_scans.scan_bases.Given as goal

abbrev pub invariant-loop-n : goal.invariant-loop-n
invariant-loop-n g l = walk (scan_more g.I.Lattice.lattice g.I.IntDomain.numbers l.row l.p) l.n (drop l.n l.bases) l.found ≡ walk (scan_more g.I.Lattice.lattice g.I.IntDomain.numbers l.row l.p) 0 l.bases (nothing_scanned g.I.Lattice.lattice)
