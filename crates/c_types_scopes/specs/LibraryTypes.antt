-- The types of the library's functions (7.4, 7.21, 7.22, 7.24), with qualifiers dropped.
use Rattle.std.specs.Prelude.{ℕ, false, true, List, [], ◌∷◌}
use Rattle.c_layout.specs.Types.{Ty, Int, Pointer, Struct, Void}
use Rattle.c_layout.specs.declared.data_model.Model.{Model}
use Rattle.c_layout.specs.declared.library_functions.LibFn.{LibFn}
use Rattle.c_layout.specs.LibrarySignatures.{signature_of}
use Rattle.c_types_rules.specs.Rules.IntegerKinds.{kind_of, size_rank}
use Rattle.c_types_rules.specs.declared.rules.integer_kinds.Rank.TheVariants as rank
use Rattle.c_layout.specs.declared.library_signatures.Slot.{Slot}
use Rattle.c_layout.specs.declared.library_signatures.Slot.TheVariants as slot

-- the type of a slot; `stream` is the number of the struct that a stream points to
abbrev pub slot_type : Model → ℕ → Slot → Ty
slot_type m stream slot.Void = Void
slot_type m stream slot.Int = Int (kind_of m rank.Int true)
slot_type m stream slot.Size = Int (kind_of m (size_rank m) false)
slot_type m stream slot.Text = Pointer (Int (kind_of m rank.Char m.char_signed))
slot_type m stream slot.Memory = Pointer Void
slot_type m stream slot.Stream = Pointer (Struct stream)

unfoldable pub slot_types : Model → ℕ → List Slot → List Ty
slot_types m stream [] = []
slot_types m stream (s ∷ slots) = slot_type m stream s ∷ slot_types m stream slots

abbrev pub library_result : Model → ℕ → LibFn → Ty
library_result m stream f = slot_type m stream (signature_of f).result

abbrev pub library_parameters : Model → ℕ → LibFn → List Ty
library_parameters m stream f = slot_types m stream (signature_of f).parameters
