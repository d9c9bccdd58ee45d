-- The syntactic rules find nothing in the unit.
use Rattle.std.specs.Prelude.{◌≡◌, ◌++◌, ℤ, pos, List, [], Option, Some, None}
use Rattle.std.specs.Global.{Vec, Box}
use Rattle.std.proofs.Common.{ap, sym, ◌∙◌}
use Rattle.cc_base.specs.declared.diagnostics.Diag.{Diag}
use Rattle.cc_base.specs.declared.diagnostics.Place.{Place}
use Rattle.c_layout.specs.declared.type_terms.CType.{CType}
use Rattle.c_layout.specs.declared.syntax_tree.expressions.BinaryOp.{BinaryOp}
use Rattle.c_layout.specs.declared.syntax_tree.expressions.BinaryOp.TheVariants as binary
use Rattle.c_layout.specs.declared.checked_tree.checked_terms.TermForm.{TermForm, TermForm-F, roll-TermForm, fold-roll-TermForm}
use Rattle.c_layout.specs.declared.checked_tree.checked_terms.TermForm.TheVariants as form
use Rattle.c_layout.specs.declared.checked_tree.checked_terms.CheckedTerm.{CheckedTerm, fold-roll-CheckedTerm}
use Rattle.c_layout.specs.declared.checked_tree.checked_statements.CheckedStatement.{CheckedStatement, CheckedStatement-F, fold-roll-CheckedStatement}
use Rattle.c_layout.specs.declared.checked_tree.checked_statements.CheckedStatement.TheVariants as statement
use Rattle.syntactic_rules.specs.StatementPlaces.{optional_places, statement_places, unit_places}
use Rattle.syntactic_rules.specs.TermPlaces.{OfForm, term_places}
use Rattle.syntactic_rules.specs.declared.term_places.Slot.{Slot}
use Rattle.syntactic_rules.specs.declared.term_places.Slot.TheVariants as slot
use Rattle.cli_examples.specs.Units.WorkedPlaces.{at}
use Rattle.cli_examples.proofs.units.Built.{boxed}
use Rattle.cli_examples.proofs.units.WorkedValues.{int_type, number_checked, quotient_checked, unit}

number_places : (p : Place) (t : CType) (n : ℤ) (c : Option ℤ) (s : Slot) → term_places (record { place = p; ctype = t; parens = 0; constant = c; form = form.Number n }) s ≡ []
number_places p t n c s =
    ap (λ (f : TermForm). term_places (record { place = p; ctype = t; parens = 0; constant = c; form = f }) s) (sym (form.rolls-Number n))
    ∙ (ap (λ (g : Slot → List Diag). g s) (fold-roll-CheckedTerm _ _ _ _ _ _ _ _ (record { place = p; ctype = t; parens = 0; constant = c; form = roll-TermForm (TermForm-F.Number n) }))
    ∙ ap (λ (g : OfForm). g p 0 s) (fold-roll-TermForm _ _ _ _ _ _ _ _ (TermForm-F.Number n)))

integer_places : (p : Place) (t : CType) (op : BinaryOp) (a b : Box CheckedTerm) (c : Option ℤ) (s : Slot)
    → term_places (record { place = p; ctype = t; parens = 0; constant = c; form = form.Integer op a b }) s ≡ term_places a.value slot.Outside ++ term_places b.value slot.Outside
integer_places p t op a b c s =
    ap (λ (f : TermForm). term_places (record { place = p; ctype = t; parens = 0; constant = c; form = f }) s) (sym (form.rolls-Integer op a b))
    ∙ (ap (λ (g : Slot → List Diag). g s) (fold-roll-CheckedTerm _ _ _ _ _ _ _ _ (record { place = p; ctype = t; parens = 0; constant = c; form = roll-TermForm (TermForm-F.Integer op a b) }))
    ∙ ap (λ (g : OfForm). g p 0 s) (fold-roll-TermForm _ _ _ _ _ _ _ _ (TermForm-F.Integer op a b)))

return_places : (p : Place) (e : Option CheckedTerm) → statement_places (statement.Return p e) ≡ optional_places e
return_places p e = ap (λ (x : CheckedStatement). statement_places x) (sym (statement.rolls-Return p e)) ∙ fold-roll-CheckedStatement _ _ (CheckedStatement-F.Return p e)

module _ {Y : Type 0} (some : Vec Y) where
  quotient_places : term_places (quotient_checked some) slot.Outside ≡ []
  quotient_places =
      integer_places (at 24) (int_type some) binary.Divide (boxed some (number_checked some 23 1)) (boxed some (number_checked some 25 0)) None slot.Outside
      ∙ (ap (λ (found : List Diag). found ++ term_places (number_checked some 25 0) slot.Outside) (number_places (at 23) (int_type some) (pos 1) (Some (pos 1)) slot.Outside)
      ∙ number_places (at 25) (int_type some) (pos 0) (Some (pos 0)) slot.Outside)

  pub no_places : unit_places (unit some) ≡ []
  no_places = ap (λ (found : List Diag). ((found ++ []) ++ []) ++ []) (return_places (at 16) (Some (quotient_checked some)) ∙ quotient_places)
