use Rattle.std.proofs.Common.{◌≡◌, ◌++◌, drop, map}
use Rattle.c_layout.specs.StructViews.{field_view, structs_view}
use Rattle.cfg.specs.StructNumbers.{fields_numbers}
use Rattle.cfg.proofs.member_numbers.push_fields.Given as goal

abbrev pub invariant-loop-at : goal.invariant-loop-at
invariant-loop-at l = l.out.items ++ fields_numbers (structs_view l.structs) l.pointer (map field_view (drop l.at l.fields)) ≡ l.initial.out.items ++ fields_numbers (structs_view l.structs) l.pointer (map field_view l.fields)
