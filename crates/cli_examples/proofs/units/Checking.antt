-- What the tree is checked to.
use Rattle.std.proofs.Common.{◌≡◌, ◌∙◌, refl, ap, sym, arith, ℕ, Ok, Err, codes}
use lib.Utf8.{encode}
use Rattle.std.specs.Str.{is_utf8, chars}
use Rattle.std.specs.Str.Lossy.{utf8_valid_len}
use Rattle.c_layout.specs.Models.{lp64, ilp32}
use Rattle.c_layout.specs.CheckedUnits.{UnitView}
use Rattle.cc_base.specs.declared.refusals.Refusal.TheVariants as refusal
use Rattle.c_types.specs.Units.UnitChecks.{check}
use Rattle.c_types_statement_rules.specs.Objects.UnitObjects.{first_past}
use Rattle.c_types.specs.Units.UnitDefinitions.{last_storage, with_declarators, with_externals}
use Rattle.c_types.specs.Units.UnitEntries.{integers_from, entry_from, first_place}
use Rattle.c_types_rules.specs.CallCycles.CallCycles.{leads, first_closing}
use Rattle.c_types_scopes.specs.Refusals.{Ruled, refused}
use Rattle.c_types_scopes.specs.ScopeTables.{newest_from}
use Rattle.c_types_scopes.specs.DeclaredTypes.{each_same}
use Rattle.c_types_scopes.specs.TypeSteps.{stepped}
use Rattle.c_types_declarations.specs.Parameters.{each_named}
use Rattle.cli_examples.specs.Units.WorkedTrees.{tree_with, checked_unit}
use Rattle.cli_examples.specs.Units.WorkedUnits.{IsCheckedTo}

checks : check lp64 (codes "main") (tree_with 0) ≡ Ok checked_unit
unfolding last_storage with_declarators with_externals first_past integers_from entry_from leads first_closing newest_from each_same stepped each_named utf8_valid_len is_utf8 chars encode
checks = refl

-- under another entry there is none
other_entry : check lp64 (codes "f") (tree_with 0) ≡ refused first_place refusal.NoEntry
unfolding last_storage with_declarators with_externals first_past integers_from entry_from leads first_closing newest_from each_same stepped each_named utf8_valid_len is_utf8 chars encode
other_entry = refl

-- under another model its int is that of the model, and so is the unit
of_other_model : check ilp32 (codes "main") (tree_with 0) ≡ Ok (record checked_unit { model = ilp32 })
unfolding last_storage with_declarators with_externals first_past integers_from entry_from leads first_closing newest_from each_same stepped each_named utf8_valid_len is_utf8 chars encode
of_other_model = refl

pointer_of : Ruled UnitView → ℕ
pointer_of (Ok u) = u.model.pointer
pointer_of (Err f) = 0

other_model : check ilp32 (codes "main") (tree_with 0) ≡ Ok checked_unit → ⊥
unfolding pointer_of
other_model e = let same : 4 ≡ 8 = ap pointer_of (sym of_other_model ∙ e) in omega (arith, same)

pub checked_to : IsCheckedTo
checked_to = record { there = checks; other_entry = other_entry; other_model = other_model }
