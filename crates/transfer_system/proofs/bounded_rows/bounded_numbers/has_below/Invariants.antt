use Rattle.std.proofs.Common.{◌≡◌, drop, int_le}
use Rattle.std.specs.List.{list_any}
use Rattle.transfer_system.proofs.bounded_rows.bounded_numbers.has_below.Given as goal

abbrev pub invariant-loop-at : goal.invariant-loop-at
invariant-loop-at l = list_any (λ n. int_le n l.x) (drop l.at l.list) ≡ list_any (λ n. int_le n l.x) l.list
