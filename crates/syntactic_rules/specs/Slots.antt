-- Condition slots: where an assignment with too few parentheses stands as a condition.
use Rattle.std.specs.Prelude.{ℕ, Bool, nat_le, List, [], ◌∷◌, if◌then◌else◌}
use Rattle.cc_base.specs.declared.diagnostics.Place.{Place}
use Rattle.cc_base.specs.declared.diagnostics.Diag.{Diag}
use Rattle.cc_base.specs.declared.diagnostics.Rule.{Rule}
use Rattle.cc_base.specs.declared.diagnostics.Rule.TheVariants as rule
use Rattle.c_layout.specs.declared.checked_tree.checked_terms.ConversionKind.{ConversionKind}
use Rattle.c_layout.specs.declared.checked_tree.checked_terms.ConversionKind.TheVariants as kind
use Rattle.syntactic_rules.specs.declared.term_places.Slot.{Slot}
use Rattle.syntactic_rules.specs.declared.term_places.Slot.TheVariants as slot

-- the slot of a part of an expression that stands in a slot
abbrev pub inner_slot : Slot → ℕ → Slot
inner_slot slot.Outside pairs = slot.Outside
inner_slot (slot.Needs outer) pairs = slot.Needs pairs

-- an implicit conversion leaves no trace in the text
abbrev pub converted_slot : ConversionKind → Slot → Slot
converted_slot kind.Implicit s = s
converted_slot kind.Cast s = slot.Outside

abbrev pub one : Place → Rule → List Diag
one at r = record { place = at; rule = r } ∷ []

-- a simple assignment in so many pairs of parentheses
abbrev pub assigned : Place → ℕ → Slot → List Diag
assigned at parens slot.Outside = []
assigned at parens (slot.Needs pairs) = if nat_le parens pairs then one at rule.Boolasgn else []

-- a sizeof, and whether its operand is a name or a member of pointer type
abbrev pub sized : Place → Bool → List Diag
sized at is_pointer = if is_pointer then one at rule.Sizeofptr else []

-- a switch, and whether it lacks a default label
abbrev pub switched : Place → Bool → List Diag
switched at lacks = if lacks then one at rule.Swtchdflt else []
