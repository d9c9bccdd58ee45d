use Rattle.std.proofs.Common.{◌≡◌, ◌++◌, drop}
use Rattle.certificate_text.specs.Maps.MapTexts.{cells_text}
use Rattle.certificate_text.proofs.maps.map_texts.cells_text.Given as goal

abbrev pub invariant-loop-at : goal.invariant-loop-at
invariant-loop-at l = l.text.items ++ cells_text l.at (drop l.at l.row) ≡ cells_text 0 l.row
