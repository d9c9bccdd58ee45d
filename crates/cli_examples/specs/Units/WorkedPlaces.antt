-- Places in the one line of the unit.
use Rattle.std.specs.Prelude.{ℕ}
use Rattle.cc_base.specs.declared.diagnostics.Diag.{Diag}
use Rattle.cc_base.specs.declared.diagnostics.Place.{Place}
use Rattle.cc_base.specs.declared.diagnostics.Rule.TheVariants as rule

abbrev pub at : ℕ → Place
at column = record { file = 0; line = 1; col = column }

-- a division by 0 at a column
abbrev pub division : ℕ → Diag
division column = record { place = at column; rule = rule.Diverr }
