-- The items of conditions lead to what both of the ways behind them lead to.
use Rattle.std.proofs.Common.{◌≡◌, Bool, true, false, List, [], ◌∷◌, ◌++◌, reverse, Option, Some, None, refl, ap, ◌∙◌}
use Rattle.cc_base.specs.declared.diagnostics.Place.{Place}
use Rattle.c_layout.specs.CheckedTrees as tree
use Rattle.c_layout.specs.CheckedTrees.{TermTree, TermTrees, Typed}
use Rattle.c_layout.specs.CheckedUnits.{UnitView, FunctionView}
use Rattle.c_layout.specs.Types.{Ty}
use Rattle.c_layout.specs.declared.checked_tree.checked_terms.ConversionKind.TheVariants.{Implicit}
use Rattle.c_layout.specs.declared.library_functions.LibFn.{LibFn}
use Rattle.c_layout.specs.declared.library_functions.LibFn.TheVariants.{Fgets}
use Rattle.c_layout.specs.declared.syntax_tree.expressions.LogicalOp.TheVariants.{And, Or}
use Rattle.lower_templates.specs.Worklist.TermKinds.{peeled}
use Rattle.lower_conditions.specs.Conditions.{LineCallView, line_call_of, line_call_in, line_call, ReadView, read_by}
use Rattle.semantics.specs.SourceMachine.Items as item
use Rattle.semantics.specs.SourceMachine.Items.{Item, items_of}
use Rattle.semantics.specs.SourceMachine.TermItems.{arguments}
use Rattle.semantics.specs.SourceMachine.ConditionItems.{line_items, leaf_by, leaf, condition}
use Rattle.source_items.specs.Operations.Kinds.{Kind, Number, Address}
use Rattle.source_items.specs.StackKinds.KindedTerms.{term_kind, argument_kinds, CallsLibrary, KindedTerm, KindedTerms}
use Rattle.source_items.proofs.stack_kinds.ItemWalks.{Through, all_through, through_both}
use Rattle.source_items.proofs.stack_kinds.Leading.{kinds}
use Rattle.source_items.proofs.stack_kinds.FoundItems.{IfSome}
use Rattle.source_items.proofs.stack_kinds.LineCalls.{read_tested, read_compared}
use Rattle.source_items.proofs.stack_kinds.LeadingArguments.{stacked, arguments_lead, stacked_reverse}

-- ---- lines that are read

-- a call that reads a line takes a pointer, a number and a pointer
pub record ReadsLine (u : UnitView) (args : TermTrees) : Type 0 where
  pub kinded : KindedTerms u args
  pub are : argument_kinds args ≡ Address ∷ (Number ∷ (Address ∷ []))

abbrev LineCalled : UnitView → Option LineCallView → Type 0
LineCalled u = IfSome (λ c. ReadsLine u c.arguments)

abbrev LineRead : UnitView → Option ReadView → Type 0
LineRead u = IfSome (λ r. ReadsLine u r.call.arguments)

module _ (u : UnitView) where
  library_called : (used : Bool) (t : Ty) (at : Place) (function : LibFn) (args : TermTrees) → KindedTerms u args → CallsLibrary used t function args → LineCalled u (line_call_of at function args)
  library_called used t at Fgets args kinded calls = record { kinded = kinded; are = calls.accepts }
  library_called used t at other args kinded calls = tt

  called_in : (used : Bool) (e : TermTree) → KindedTerm u used e → LineCalled u (line_call_in e)
  called_in used (Typed at t parens fixed (tree.Library function args allocated)) kinded = library_called used t at function args kinded.0 kinded.1
  called_in used (Typed at t parens fixed form) kinded = tt

  peeled_kinded : (e : TermTree) → KindedTerm u true e → KindedTerm u true (peeled e)
  peeled_kinded (Typed at t parens fixed (tree.Convert Implicit e)) kinded = peeled_kinded e kinded.0
  peeled_kinded e kinded = kinded

  line_called : (e : TermTree) → KindedTerm u true e → LineCalled u (line_call e)
  line_called e kinded = called_in true (peeled e) (peeled_kinded e kinded)

  line_read : (e : TermTree) → KindedTerm u true e → LineRead u (read_by e)
  line_read (Typed at t parens fixed (tree.Compare sign left right)) kinded = read_compared (λ c. ReadsLine u c.arguments) sign left right (line_called left kinded.0) (line_called right kinded.1)
  line_read e kinded = read_tested (λ c. ReadsLine u c.arguments) (line_call e) true (line_called e kinded)

module _ (u : UnitView) (f : FunctionView) (called : Option Bool) where
  -- ---- a condition that is a term or reads a line

  read_through : (args : TermTrees) (at : Place) (none some rest : List Item) (ks after : List Kind) → ReadsLine u args → Through (kinds u f called) none rest ks after → Through (kinds u f called) some rest ks after → Through (kinds u f called) (arguments args ++ item.ReadLine at (items_of none) (items_of some) ∷ []) rest ks after
  read_through args at none some rest ks after reads one other =
      let read : Item = item.ReadLine at (items_of none) (items_of some) in
      let three : stacked args ks ≡ Address ∷ (Number ∷ (Address ∷ ks)) = stacked_reverse args ks ∙ ap (λ xs. reverse xs ++ ks) reads.are in
      through_both (kinds u f called) (arguments args) (read ∷ []) rest ks (stacked args ks) after (arguments_lead u f called args ks reads.kinded (read ∷ rest)) (after, (ks, three, all_through (kinds u f called) none rest ks after one, all_through (kinds u f called) some rest ks after other), refl)

  line_through : (r : ReadView) (wants : Bool) (held failed rest : List Item) (ks after : List Kind) → ReadsLine u r.call.arguments → Through (kinds u f called) held rest ks after → Through (kinds u f called) failed rest ks after → Through (kinds u f called) (line_items r wants (items_of held) (items_of failed)) rest ks after
  line_through r true held failed rest ks after reads one other = read_through r.call.arguments r.call.at failed held rest ks after reads other one
  line_through r false held failed rest ks after reads one other = read_through r.call.arguments r.call.at held failed rest ks after reads one other

  leaf_by_through : (is_test : Bool) (e : TermTree) (o : Option ReadView) (held failed rest : List Item) (ks after : List Kind) → KindedTerm u true e → LineRead u o → Through (kinds u f called) held rest ks after → Through (kinds u f called) failed rest ks after → Through (kinds u f called) (leaf_by u is_test e o (items_of held) (items_of failed)) rest ks after
  leaf_by_through is_test e (Some r) held failed rest ks after kinded read one other = line_through r r.wants_line held failed rest ks after read one other
  leaf_by_through is_test e None held failed rest ks after kinded read one other = (term_kind e ∷ ks, (kinded, refl), (after, (term_kind e, ks, refl, all_through (kinds u f called) held rest ks after one, all_through (kinds u f called) failed rest ks after other), refl))

  leaf_through : (is_test : Bool) (e : TermTree) (held failed rest : List Item) (ks after : List Kind) → KindedTerm u true e → Through (kinds u f called) held rest ks after → Through (kinds u f called) failed rest ks after → Through (kinds u f called) (leaf u is_test e held failed) rest ks after
  leaf_through is_test e held failed rest ks after kinded one other = leaf_by_through is_test e (read_by e) held failed rest ks after kinded (line_read u e kinded) one other

  -- ---- conditions

  pub condition_through : (is_test : Bool) (e : TermTree) (held failed rest : List Item) (ks after : List Kind) → KindedTerm u true e → Through (kinds u f called) held rest ks after → Through (kinds u f called) failed rest ks after → Through (kinds u f called) (condition u is_test e held failed) rest ks after
  condition_through is_test (Typed at t parens fixed (tree.Logical And a b)) held failed rest ks after kinded one other = condition_through is_test a (condition u is_test b held failed) failed rest ks after kinded.0 (condition_through is_test b held failed rest ks after kinded.1 one other) other
  condition_through is_test (Typed at t parens fixed (tree.Logical Or a b)) held failed rest ks after kinded one other = condition_through is_test a held (condition u is_test b held failed) rest ks after kinded.0 one (condition_through is_test b held failed rest ks after kinded.1 one other)
  condition_through is_test (Typed at t parens fixed (tree.Not a)) held failed rest ks after kinded one other = condition_through is_test a failed held rest ks after kinded.0 other one
  condition_through is_test (Typed at t parens fixed (tree.Conditional c a b)) held failed rest ks after kinded one other = condition_through true c (condition u false a held failed) (condition u false b held failed) rest ks after kinded.0 (condition_through false a held failed rest ks after kinded.1 one other) (condition_through false b held failed rest ks after kinded.2 one other)
  condition_through is_test e held failed rest ks after kinded one other = leaf_through is_test e held failed rest ks after kinded one other
