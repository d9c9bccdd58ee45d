-- Programs whose structs have no member beyond 2^64.
use Rattle.std.specs.Prelude.{◌≡◌, ◌-◌, ◌^◌, negsuc, true}
use Rattle.std.specs.List.{list_all}
use Rattle.c_layout.specs.StructViews.{structs_view}
use Rattle.cfg.specs.declared.programs.Flow.{Flow}
use Rattle.cfg.specs.StructNumbers.{structs_numbers}
use Rattle.transfer_system.specs.BoundedRows.NearLists.{is_near_number}

abbrev pub HasNearMembers : Flow → Type 0
HasNearMembers flow = list_all (is_near_number (negsuc (2 ^ 64 - 1))) (structs_numbers (structs_view flow.structs) flow.model.pointer (structs_view flow.structs)) ≡ true
