use Rattle.std.proofs.Common.{◌≡◌, ◌++◌, drop, map}
use Rattle.c_layout.specs.StructViews.{struct_view, structs_view}
use Rattle.cfg.specs.StructNumbers.{structs_numbers}
use Rattle.cfg.proofs.member_numbers.push_structs.Given as goal

abbrev pub invariant-loop-at : goal.invariant-loop-at
invariant-loop-at l = l.out.items ++ structs_numbers (structs_view l.structs) l.pointer (map struct_view (drop l.at l.structs.items.items)) ≡ l.initial.out.items ++ structs_numbers (structs_view l.structs) l.pointer (structs_view l.structs)
