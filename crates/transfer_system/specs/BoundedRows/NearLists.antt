-- Lists of numbers up to 2^64, between whose ends rows are cut.
use Rattle.std.specs.Prelude.{◌≡◌, ◌≤ℤ◌, ◌^◌, ◌-◌, ℤ, pos, negsuc, int_le, ◌&&◌, Bool, true, Some, List}
use Rattle.std.specs.List.{list_all}
use Rattle.cc_base.specs.Lattices.{LatticeOf}
use Rattle.cc_base.specs.IntegerDomains.{IntegersOf}
use Rattle.value_domain.specs.Strings.FirstZeros.{the_end}
use Rattle.transfer_system.specs.BoundedRows.EndLaws.{HasEnds}
use Rattle.transfer_system.specs.BoundedRows.FittedRows.{list_ends}

-- whether a number lies from a to 2^64
abbrev pub is_near_number : ℤ → ℤ → Bool
is_near_number a m = int_le a m && int_le m (pos (2 ^ 64))

-- the first number of the list is from -2^64 to 0 and the last one is 2^64, with all others between them, and rounding leaves
-- the numbers from 0 to 2^64 as they are
pub record IsNearList {I : Type 0} (l : LatticeOf I) (n : IntegersOf I) (list : List ℤ) : Type 0 where
  pub least : ℤ
  pub near : negsuc (2 ^ 64 - 1) ≤ℤ least
  pub zero : least ≤ℤ pos 0
  pub range : list_ends list ≡ Some (least, pos (2 ^ 64))
  pub ends : HasEnds list least (pos (2 ^ 64))
  pub numbers : list_all (is_near_number least) list ≡ true
  pub counts : l.leq (l.round list (n.between (pos 0) the_end)) (n.between (pos 0) the_end) ≡ true
