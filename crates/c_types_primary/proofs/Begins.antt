-- The arguments of a call, before the first one.
use Rattle.std.proofs.Common.{◌≡◌, List, [], map, ◌∙◌, ap}
use Rattle.cc_base.specs.declared.diagnostics.Place.{Place}
use Rattle.c_layout.specs.Types.{Ty}
use Rattle.c_layout.specs.CheckedTrees.{term_tree}
use Rattle.c_layout.specs.declared.checked_tree.checked_terms.CheckedTerm.{CheckedTerm}
use Rattle.c_types_scopes.specs.Known.{Known}
use Rattle.c_types_operands.specs.Operands.{operand_view}
use Rattle.c_types_operands.specs.declared.operands.Operand.{Operand}
use Rattle.c_types_primary.specs.Lists.{behind}
use Rattle.c_types_primary.specs.Calls.{each_converted}
use Rattle.c_types_primary.proofs.Arguments.{behind_nothing}

pub converted_begins : (k : Known) (at : Place) (made : List CheckedTerm) (xs ys : List Operand) (ts : List Ty) → made ≡ [] → xs ≡ ys
    → behind (map term_tree made) (each_converted k at (map operand_view xs) ts) ≡ each_converted k at (map operand_view ys) ts
converted_begins k at made xs ys ts e same =
    ap (λ m. behind (map term_tree m) (each_converted k at (map operand_view xs) ts)) e
    ∙ (behind_nothing (each_converted k at (map operand_view xs) ts)
    ∙ ap (λ l. each_converted k at (map operand_view l) ts) same)
