-- No plain condition reads a line.
use Rattle.std.proofs.Common.{◌≡◌, ℕ, Bool, true, false, cond, Some, None, refl, ap}
use Rattle.cc_base.specs.declared.diagnostics.Place.{Place}
use Rattle.c_layout.specs.CheckedTrees as tree
use Rattle.c_layout.specs.CheckedTrees.{TermTree, FormTree, Typed}
use Rattle.c_layout.specs.declared.checked_tree.checked_terms.ConversionKind.TheVariants.{Implicit}
use Rattle.c_layout.specs.declared.library_functions.LibFn.{LibFn}
use Rattle.c_layout.specs.declared.library_functions.LibFn.TheVariants.{Fgets}
use Rattle.c_layout.specs.declared.syntax_tree.expressions.BinaryOp.{BinaryOp}
use Rattle.c_layout.specs.declared.syntax_tree.expressions.BinaryOp.TheVariants.{Equal, NotEqual}
use Rattle.lower_conditions.specs.Conditions.{line_call_in_form, line_call_in, line_call, line_call_beside, read_test, compared_read, read_by_form, read_by}
use Rattle.lower_expressions.specs.Calls.{reads_line}
use Rattle.lower_templates.specs.Worklist.TermKinds.{peeled, is_null_constant}
use Rattle.typed_programs.specs.PlainUnits.PlainTerms.{is_plain_library, is_plain_term, is_plain_form}
use Rattle.typed_programs.proofs.plain_worklists.LeadingWorks.{both}

reads_none : (f : LibFn) → is_plain_library f ≡ true → reads_line f ≡ false
reads_none Fgets e = absurd (cc)
reads_none other e = refl

module _ (calls : ℕ → Bool) where
  peeled_plain : (e : TermTree) → is_plain_term calls e ≡ true → is_plain_term calls (peeled e) ≡ true
  peeled_plain (Typed at t parens constant (tree.Convert Implicit e)) plain = peeled_plain e plain
  peeled_plain (Typed at t parens constant form) plain = plain

  no_line_form : (at : Place) (form : FormTree) → is_plain_form calls form ≡ true → line_call_in_form at form ≡ None
  no_line_form at (tree.Library function args target) plain = ap (λ b. cond b (Some (record { at = at; arguments = args })) None) (reads_none function (both _ _ plain).0)
  no_line_form at form plain = refl

  no_line_in : (e : TermTree) → is_plain_term calls e ≡ true → line_call_in e ≡ None
  no_line_in (Typed at t parens constant form) plain = no_line_form at form plain

  no_line : (e : TermTree) → is_plain_term calls e ≡ true → line_call e ≡ None
  no_line e plain = no_line_in (peeled e) (peeled_plain e plain)

  no_line_beside : (left right : TermTree) → is_plain_term calls left ≡ true → is_plain_term calls right ≡ true → line_call_beside left right ≡ None
  no_line_beside left right a b = by (is_null_constant right) (is_null_constant left)
    where
      by : (c d : Bool) → cond c (line_call left) (cond d (line_call right) None) ≡ None
      by true d = no_line left a
      by false true = no_line right b
      by false false = refl

  none_compared : (sign : BinaryOp) (left right : TermTree) → is_plain_term calls left ≡ true → is_plain_term calls right ≡ true → compared_read sign left right ≡ None
  none_compared Equal left right a b = ap (λ o. read_test o false) (no_line_beside left right a b)
  none_compared NotEqual left right a b = ap (λ o. read_test o true) (no_line_beside left right a b)
  none_compared other left right a b = refl

  reads_by_form : (e : TermTree) (form : FormTree) → is_plain_term calls e ≡ true → is_plain_form calls form ≡ true → read_by_form e form ≡ None
  reads_by_form e (tree.Compare sign left right) whole plain = let x = both _ _ plain in none_compared sign left right x.0 x.1
  reads_by_form e form whole plain = ap (λ o. read_test o true) (no_line e whole)

  pub reads_no_line : (e : TermTree) → is_plain_term calls e ≡ true → read_by e ≡ None
  reads_no_line (Typed at t parens constant form) plain = reads_by_form (Typed at t parens constant form) form plain plain
