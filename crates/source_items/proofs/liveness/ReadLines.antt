-- Calls of `fgets` that conditions test: their arguments are those of a term in the condition.
use Rattle.std.proofs.Common.{◌≡◌, Bool, true, false, cond, Option, Some, None, subst}
use Rattle.cc_base.specs.declared.diagnostics.Place.{Place}
use Rattle.c_layout.specs.CheckedTrees as tree
use Rattle.c_layout.specs.CheckedTrees.{TermTree, TermTrees, FormTree, Typed}
use Rattle.c_layout.specs.declared.syntax_tree.expressions.BinaryOp.{BinaryOp}
use Rattle.c_layout.specs.declared.syntax_tree.expressions.BinaryOp.TheVariants.{Equal, NotEqual}
use Rattle.c_layout.specs.declared.checked_tree.checked_terms.ConversionKind.TheVariants.{Implicit}
use Rattle.lower_templates.specs.Worklist.TermKinds.{is_null_constant, peeled}
use Rattle.lower_expressions.specs.Calls.{reads_line}
use Rattle.lower_conditions.specs.Conditions.{LineCallView, line_call_in_form, line_call_in, line_call, line_call_beside, ReadView, read_test, compared_read, read_by_form, read_by}
use Rattle.source_items.specs.Liveness.Lives.{Lives}
use Rattle.source_items.specs.Liveness.ScopedTerms.{ScopedTerm, ScopedForm, ScopedArguments}

module _ (alive : Lives) where
  -- the arguments of a call, if there is one
  abbrev ScopedCall : Option LineCallView → Type 0
  ScopedCall None = Unit {0}
  ScopedCall (Some c) = ScopedArguments alive c.arguments

  abbrev ScopedRead : Option ReadView → Type 0
  ScopedRead None = Unit {0}
  ScopedRead (Some r) = ScopedArguments alive r.call.arguments

  peeled_scoped : (e : TermTree) → ScopedTerm alive e → ScopedTerm alive (peeled e)
  peeled_scoped (Typed at t parens fixed (tree.Convert Implicit e)) scoped = peeled_scoped e scoped
  peeled_scoped e scoped = scoped

  of_call : (at : Place) (b : Bool) (args : TermTrees) → ScopedArguments alive args → ScopedCall (cond b (Some (record { at = at; arguments = args })) None)
  of_call at true args scoped = scoped
  of_call at false args scoped = tt

  in_form : (at : Place) (form : FormTree) → ScopedForm alive form → ScopedCall (line_call_in_form at form)
  in_form at (tree.Library function args allocated) scoped = of_call at (reads_line function) args scoped
  in_form at form scoped = tt

  in_term : (e : TermTree) → ScopedTerm alive e → ScopedCall (line_call_in e)
  in_term (Typed at t parens fixed form) scoped = in_form at form scoped

  call_scoped : (e : TermTree) → ScopedTerm alive e → ScopedCall (line_call e)
  call_scoped e scoped = in_term (peeled e) (peeled_scoped e scoped)

  one_call : (b : Bool) (one other : Option LineCallView) → ScopedCall one → ScopedCall other → ScopedCall (cond b one other)
  one_call true one other x y = x
  one_call false one other x y = y

  beside_scoped : (left right : TermTree) → ScopedTerm alive left → ScopedTerm alive right → ScopedCall (line_call_beside left right)
  beside_scoped left right one other = one_call (is_null_constant right) (line_call left) (cond (is_null_constant left) (line_call right) None) (call_scoped left one) (one_call (is_null_constant left) (line_call right) None (call_scoped right other) tt)

  test_scoped : (o : Option LineCallView) (wants : Bool) → ScopedCall o → ScopedRead (read_test o wants)
  test_scoped None wants scoped = tt
  test_scoped (Some c) wants scoped = scoped

  compared_scoped : (sign : BinaryOp) (left right : TermTree) → ScopedTerm alive left → ScopedTerm alive right → ScopedRead (compared_read sign left right)
  compared_scoped Equal left right one other = test_scoped (line_call_beside left right) false (beside_scoped left right one other)
  compared_scoped NotEqual left right one other = test_scoped (line_call_beside left right) true (beside_scoped left right one other)
  compared_scoped sign left right one other = tt

  form_scoped : (e : TermTree) (form : FormTree) → ScopedTerm alive e → ScopedForm alive form → ScopedRead (read_by_form e form)
  form_scoped e (tree.Compare sign left right) scoped parts = compared_scoped sign left right parts.0 parts.1
  form_scoped e form scoped parts = test_scoped (line_call e) true (call_scoped e scoped)

  by_scoped : (e : TermTree) → ScopedTerm alive e → ScopedRead (read_by e)
  by_scoped (Typed at t parens fixed form) scoped = form_scoped (Typed at t parens fixed form) form scoped scoped

  pub read_scoped : (e : TermTree) (r : ReadView) → read_by e ≡ Some r → ScopedTerm alive e → ScopedArguments alive r.call.arguments
  read_scoped e r is scoped = subst ScopedRead is (by_scoped e scoped)
