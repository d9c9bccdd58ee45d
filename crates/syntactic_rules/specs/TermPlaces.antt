-- What the rules find in an expression, by recursion over it. What an expression has depends on the
-- slot that it stands in, what the form of one has also on its place and its parentheses.
use Rattle.std.specs.Prelude.{ℕ, List, [], ◌++◌, map, Option, Some, None}
use Rattle.std.specs.List.{flat_map}
use Rattle.cc_base.specs.declared.diagnostics.Place.{Place}
use Rattle.cc_base.specs.declared.diagnostics.Diag.{Diag}
use Rattle.std.specs.Global.{Box}
use Rattle.c_layout.specs.declared.checked_tree.checked_terms.LvalueForm.{LvalueForm-F}
use Rattle.c_layout.specs.declared.checked_tree.checked_terms.TermForm.{TermForm-F}
use Rattle.c_layout.specs.declared.checked_tree.checked_terms.Lvalue.{Lvalue, Lvalue-F, fold-Lvalue}
use Rattle.c_layout.specs.declared.checked_tree.checked_terms.CheckedTerm.{CheckedTerm, CheckedTerm-F, fold-CheckedTerm}
use Rattle.syntactic_rules.specs.declared.term_places.Slot.{Slot}
use Rattle.syntactic_rules.specs.declared.term_places.Slot.TheVariants as slot
use Rattle.syntactic_rules.specs.Slots.{inner_slot, converted_slot, assigned, sized}

-- what an expression has, in a slot
abbrev pub InSlot : Type 0
InSlot = Slot → List Diag

-- what the form of an expression has, at a place, in so many pairs of parentheses and in a slot
abbrev pub OfForm : Type 0
OfForm = Place → ℕ → Slot → List Diag

-- the operand of a sizeof, where it is an expression
abbrev pub operand_step : Option (Box InSlot) → List Diag
operand_step None = []
operand_step (Some e) = e.value slot.Outside

abbrev pub outside : InSlot → List Diag
outside e = e slot.Outside

abbrev pub lvalue_form_step : LvalueForm-F (List Diag) OfForm InSlot (List Diag) → List Diag
lvalue_form_step (LvalueForm-F.Object o) = []
lvalue_form_step (LvalueForm-F.Literal l) = []
lvalue_form_step (LvalueForm-F.Target e) = e.value slot.Outside
lvalue_form_step (LvalueForm-F.Member whole offset) = whole.value
lvalue_form_step (LvalueForm-F.Copied target source) = target.value ++ source.value
lvalue_form_step (LvalueForm-F.Then first last) = first.value slot.Outside ++ last.value

abbrev pub form_step : TermForm-F (List Diag) OfForm InSlot (List Diag) → OfForm
form_step (TermForm-F.Number n) at parens s = []
form_step (TermForm-F.Sizeof value operand is_pointer) at parens s = sized at is_pointer ++ operand_step operand
form_step (TermForm-F.Load l) at parens s = l.value
form_step (TermForm-F.AddressOf l) at parens s = l.value
form_step (TermForm-F.Decay l) at parens s = l.value
form_step (TermForm-F.Convert kind e) at parens s = e.value (converted_slot kind s)
form_step (TermForm-F.Discard e) at parens s = e.value slot.Outside
form_step (TermForm-F.Plus e) at parens s = e.value slot.Outside
form_step (TermForm-F.Minus e) at parens s = e.value slot.Outside
form_step (TermForm-F.Complement e) at parens s = e.value slot.Outside
form_step (TermForm-F.Not e) at parens s = e.value slot.Outside
form_step (TermForm-F.Integer op a b) at parens s = a.value slot.Outside ++ b.value slot.Outside
form_step (TermForm-F.Shift down size a b) at parens s = a.value slot.Outside ++ b.value slot.Outside
form_step (TermForm-F.Difference size a b) at parens s = a.value slot.Outside ++ b.value slot.Outside
form_step (TermForm-F.Compare op a b) at parens s = a.value slot.Outside ++ b.value slot.Outside
form_step (TermForm-F.Logical op a b) at parens s = a.value (slot.Needs 1) ++ b.value (slot.Needs 1)
form_step (TermForm-F.Conditional c a b) at parens s = c.value (slot.Needs 1) ++ (a.value (inner_slot s 0) ++ b.value (inner_slot s 1))
form_step (TermForm-F.Comma a b) at parens s = a.value slot.Outside ++ b.value (inner_slot s 0)
form_step (TermForm-F.Assign target e) at parens s = assigned at parens s ++ (target.value ++ e.value slot.Outside)
form_step (TermForm-F.Compound op kind target e) at parens s = target.value ++ e.value slot.Outside
form_step (TermForm-F.CompoundShift down size target e) at parens s = target.value ++ e.value slot.Outside
form_step (TermForm-F.Step op time kind l) at parens s = l.value
form_step (TermForm-F.StepPointer op time size l) at parens s = l.value
form_step (TermForm-F.Struct l) at parens s = l.value
form_step (TermForm-F.Call function arguments used) at parens s = flat_map outside arguments.items
form_step (TermForm-F.Library function arguments target) at parens s = flat_map outside arguments.items

abbrev pub term_step : CheckedTerm-F (List Diag) OfForm InSlot (List Diag) → InSlot
term_step e = e.form e.place e.parens

abbrev pub lvalue_step : Lvalue-F (List Diag) OfForm InSlot (List Diag) → List Diag
lvalue_step l = l.form

abbrev pub term_places : CheckedTerm → Slot → List Diag
term_places = fold-CheckedTerm (List Diag) OfForm InSlot (List Diag) lvalue_form_step form_step term_step lvalue_step

abbrev pub lvalue_places : Lvalue → List Diag
lvalue_places = fold-Lvalue (List Diag) OfForm InSlot (List Diag) lvalue_form_step form_step term_step lvalue_step

-- what the terms of a list have, which stand in no slot
abbrev pub terms_places : List CheckedTerm → List Diag
terms_places args = flat_map outside (map term_places args)

-- what the operand of a sizeof has, where it is an expression
abbrev pub operand_places : Option (Box CheckedTerm) → List Diag
operand_places None = []
operand_places (Some e) = term_places e.value slot.Outside
