-- Checked units with the same view.
use Rattle.std.specs.Prelude.{◌≡◌}
use Rattle.c_layout.specs.CheckedUnits.{unit_view}
use Rattle.c_layout.specs.declared.checked_tree.checked_units.Checked.{Checked}
use Rattle.syntactic_rules.specs.StatementPlaces.{unit_places}

abbrev pub SamePlaces : Type 0
SamePlaces = (c d : Checked) → unit_view c ≡ unit_view d → unit_places c ≡ unit_places d
