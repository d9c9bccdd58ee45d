-- A program that is regular but for a text of a number that is no byte is cut at its start.
use Rattle.std.specs.Prelude.{ℕ, ◌^◌, false, Some, [], ◌∷◌, refl}
use Rattle.c_layout.specs.declared.checked_tree.checked_units.StaticBase.TheVariants as static
use Rattle.c_layout.specs.declared.leaf_lists.Class.TheVariants.{Char}
use Rattle.c_layout.specs.declared.leaf_lists.Leaf.{Leaf}
use Rattle.c_layout.specs.declared.shapes.BaseInfo.{BaseInfo}
use Rattle.c_layout.specs.declared.shapes.BaseKind.TheVariants.{Literal}
use Rattle.cfg.specs.declared.programs.Flow.{Flow}
use Rattle.cfg.specs.declared.programs.InitialObject.{InitialObject}
use Rattle.cfg.specs.declared.programs.InitialValue.TheVariants as initial
use Rattle.interval_domain.specs.Intervals.Spans.{between_or_empty}
use Rattle.store_cells.specs.FirstZeroWrites.{set_zeros}
use Rattle.store.specs.Spelling.{one_character, spell_cell, spell_leaf_at, spell_leaves, spell_zero, spell_object, spell}
use Rattle.transfer_system.specs.StartRows.{empty_state, empty_base, empty_bases, empty_row, start_value, start_object, start_objects, start_parameters, start_row}
use Rattle.transfer_system.specs.BoundedRows.OwnRows.{bases_below}
use Rattle.row_bounds.specs.Edges.OwnLists.{ReachesTypes}
use Rattle.row_bounds.specs.Entries.CutStarts.{type_list, IsCutAtStart}
use Rattle.row_bounds.proofs.entries.BuiltPrograms.{stopping}

pub list_reaches : ReachesTypes type_list
list_reaches = refl

abbrev character : ℕ → Leaf
character at = record { offset = at; class = Char; signed = false; stride = 1; count = 1 }

abbrev text_base : BaseInfo
text_base = record {
  kind = Literal;
  size = 2;
  first = 0;
  shape =
      record {
        cells = character 0 ∷ (character 1 ∷ []);
        zeros = (record { offset = 0; size = Some 2 }) ∷ [];
        heap =
            false;
      };
}

-- the one character is 2^65
abbrev wide_text : InitialObject
wide_text = record { object = static.Literal 0; size = 2; base = Some 0; value = initial.Literal (2 ^ 65 ∷ []) }

abbrev pub wide_program : Flow → Flow
wide_program some = stopping some text_base wide_text 3

pub wide_is_cut : (some : Flow) → IsCutAtStart (wide_program some)
unfolding start_row start_parameters start_objects start_object start_value empty_row empty_bases empty_base
    empty_state set_zeros spell spell_object spell_leaves spell_leaf_at spell_cell one_character spell_zero
    bases_below between_or_empty
wide_is_cut some = (refl, (refl, (refl, (refl, (refl, refl)))))
