use Rattle.std.proofs.Common.{◌≡◌, ◌++◌, take, drop, map}
use Rattle.certificate_check.specs.Reading.GreatestRows.{emptied}
use Rattle.certificate_check.proofs.reading.greatest_rows.clear_row.Given as goal

abbrev pub invariant-loop-at : goal.invariant-loop-at
invariant-loop-at l = take l.at l.row ++ map emptied (drop l.at l.greatest) ≡ map emptied l.greatest
