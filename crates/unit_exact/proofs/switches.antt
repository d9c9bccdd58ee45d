pub mod UnitSwitches
