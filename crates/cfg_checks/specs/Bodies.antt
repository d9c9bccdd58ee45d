-- Instructions behind which their block goes on.
use Rattle.std.specs.Prelude.{Bool, true, false}
use Rattle.cfg.specs.WellFormed.{Leads, On}

abbrev pub is_on : Leads → Bool
is_on On = true
is_on _ = false
