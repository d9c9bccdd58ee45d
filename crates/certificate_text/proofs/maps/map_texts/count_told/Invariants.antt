use Rattle.std.proofs.Common.{◌≡◌, ◌+◌, ◌≤◌, drop, count_by}
use Rattle.certificate_text.specs.Maps.MapTexts.{is_told}
use Rattle.certificate_text.proofs.maps.map_texts.count_told.Given as goal

abbrev pub invariant-loop-at : goal.invariant-loop-at
invariant-loop-at l = (l.count ≤ l.at) × (l.count + count_by is_told (drop l.at l.row) ≡ count_by is_told l.row)
