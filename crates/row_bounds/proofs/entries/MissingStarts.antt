-- A regular program with an initializer far beyond its type has no start.
use Rattle.std.specs.Prelude.{◌^◌, pos, true, false, Some, [], ◌∷◌, refl}
use Rattle.cc_base.specs.declared.int_types.IntType.{IntType}
use Rattle.c_layout.specs.declared.checked_tree.checked_units.StaticBase.TheVariants as static
use Rattle.c_layout.specs.declared.checked_tree.checked_units.StaticStore.TheVariants as store_one
use Rattle.c_layout.specs.declared.checked_tree.checked_units.StaticValue.TheVariants.{Number}
use Rattle.c_layout.specs.declared.leaf_lists.Class.TheVariants.{Int}
use Rattle.c_layout.specs.declared.shapes.BaseInfo.{BaseInfo}
use Rattle.c_layout.specs.declared.shapes.BaseKind.TheVariants.{Static}
use Rattle.cfg.specs.declared.programs.Flow.{Flow}
use Rattle.cfg.specs.declared.programs.InitialObject.{InitialObject}
use Rattle.cfg.specs.declared.programs.InitialValue.TheVariants as initial
use Rattle.interval_domain.specs.Intervals.Spans.{between_or_empty}
use Rattle.store_cells.specs.FirstZeroWrites.{set_zeros}
use Rattle.store_objects.specs.ObjectLives.{clear_leaves, clear_object, clear}
use Rattle.store.specs.Stores.{can_store, store_access, store}
use Rattle.transfer_system.specs.StartRows.{empty_state, empty_base, empty_bases, empty_row, store_static, start_store, start_stores, start_value, start_object, start_objects, start_parameters, start_row}
use Rattle.row_bounds.specs.Entries.CutStarts.{IsWithoutStart}
use Rattle.row_bounds.proofs.entries.BuiltPrograms.{one, stopping}

abbrev int_type : IntType
int_type = record { bytes = 4; signed = true; rank = 3 }

abbrev int_base : BaseInfo
int_base = record {
  kind = Static;
  size = 4;
  first = 0;
  shape =
      record {
        cells = (record { offset = 0; class = Int; signed = true; stride = 4; count = 1 }) ∷ [];
        zeros =
            [];
        heap = false;
      };
}

-- it begins with 2^70
abbrev far_object : Flow → InitialObject
far_object some = record {
  object = static.Object 0;
  size = 4;
  base = Some 0;
  value = initial.Stores
      (one some (store_one.Value 0 (Number (pos (2 ^ 70)) int_type)));
}

abbrev pub far_program : Flow → Flow
far_program some = stopping some int_base (far_object some) 1

pub far_has_none : (some : Flow) → IsWithoutStart (far_program some)
unfolding start_row start_parameters start_objects start_object start_value start_stores start_store store_static
    empty_row empty_bases empty_base empty_state set_zeros clear clear_object clear_leaves store store_access
    can_store between_or_empty
far_has_none some = (refl, refl)
