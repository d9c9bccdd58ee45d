-- The items of conditions fit where what follows them fits.
use Rattle.std.proofs.Common.{◌≡◌, Bool, true, false, List, [], ◌∷◌, ◌++◌, Option, Some, None, append_assoc, refl, ap, sym, subst, ◌∙◌}
use Rattle.cc_base.specs.declared.diagnostics.Place.{Place}
use Rattle.c_layout.specs.CheckedTrees as tree
use Rattle.c_layout.specs.CheckedTrees.{TermTree, TermTrees, Typed}
use Rattle.c_layout.specs.CheckedUnits.{UnitView, FunctionView}
use Rattle.c_layout.specs.declared.syntax_tree.expressions.LogicalOp.TheVariants.{And, Or}
use Rattle.lower_conditions.specs.Conditions.{ReadView, read_by}
use Rattle.semantics.specs.SourceMachine.Items as item
use Rattle.semantics.specs.SourceMachine.Items.{Item, items_of}
use Rattle.semantics.specs.SourceMachine.Scopes.{past_loop}
use Rattle.semantics.specs.SourceMachine.TermItems.{arguments}
use Rattle.semantics.specs.SourceMachine.ConditionItems.{line_items, leaf_by, leaf, condition}
use Rattle.source_items.specs.Returns.Leavings.{Fit}
use Rattle.source_items.proofs.returns.Fitting.{Adds, fit_after, all_fit}

pub arguments_add : (f : FunctionView) (args : TermTrees) → Adds f (arguments args)
arguments_add f tree.End rest fit = fit
arguments_add f (tree.More e args) rest fit = (tt, arguments_add f args rest fit)

behind_arguments : (args : TermTrees) (rest : List Item) → past_loop (arguments args ++ rest) ≡ past_loop rest
behind_arguments tree.End rest = refl
behind_arguments (tree.More e args) rest = behind_arguments args rest

behind_line : (args : TermTrees) (i : Item) (rest : List Item) → past_loop (i ∷ rest) ≡ past_loop rest → past_loop ((arguments args ++ i ∷ []) ++ rest) ≡ past_loop rest
behind_line args i rest same = ap past_loop (append_assoc (arguments args) (i ∷ []) rest) ∙ behind_arguments args (i ∷ rest) ∙ same

module _ (u : UnitView) (f : FunctionView) where
  -- ---- a condition that is a term or reads a line

  read_fits : (args : TermTrees) (at : Place) (none some rest : List Item) → Fit f (none ++ rest) → Fit f (some ++ rest) → Fit f ((arguments args ++ item.ReadLine at (items_of none) (items_of some) ∷ []) ++ rest)
  read_fits args at none some rest one other =
      let read : Item = item.ReadLine at (items_of none) (items_of some) in
      let all : Fit f (arguments args ++ read ∷ rest) = arguments_add f args (read ∷ rest) ((all_fit f none rest one, all_fit f some rest other), fit_after f none rest one) in
      subst (Fit f) (sym (append_assoc (arguments args) (read ∷ []) rest)) all

  line_fits : (r : ReadView) (wants : Bool) (held failed rest : List Item) → Fit f (held ++ rest) → Fit f (failed ++ rest) → Fit f (line_items r wants (items_of held) (items_of failed) ++ rest)
  line_fits r true held failed rest one other = read_fits r.call.arguments r.call.at failed held rest other one
  line_fits r false held failed rest one other = read_fits r.call.arguments r.call.at held failed rest one other

  leaf_by_fits : (is_test : Bool) (e : TermTree) (o : Option ReadView) (held failed rest : List Item) → Fit f (held ++ rest) → Fit f (failed ++ rest) → Fit f (leaf_by u is_test e o (items_of held) (items_of failed) ++ rest)
  leaf_by_fits is_test e (Some r) held failed rest one other = line_fits r r.wants_line held failed rest one other
  leaf_by_fits is_test e None held failed rest one other = (tt, ((all_fit f held rest one, all_fit f failed rest other), fit_after f failed rest other))

  leaf_fits : (is_test : Bool) (e : TermTree) (held failed rest : List Item) → Fit f (held ++ rest) → Fit f (failed ++ rest) → Fit f (leaf u is_test e held failed ++ rest)
  leaf_fits is_test e held failed rest one other = leaf_by_fits is_test e (read_by e) held failed rest one other

  behind_leaf_by : (is_test : Bool) (e : TermTree) (o : Option ReadView) (held failed rest : List Item) → past_loop (leaf_by u is_test e o (items_of held) (items_of failed) ++ rest) ≡ past_loop rest
  behind_leaf_by is_test e (Some r) held failed rest = by r.wants_line
    where
      by : (wants : Bool) → past_loop (line_items r wants (items_of held) (items_of failed) ++ rest) ≡ past_loop rest
      by true = behind_line r.call.arguments (item.ReadLine r.call.at (items_of failed) (items_of held)) rest refl
      by false = behind_line r.call.arguments (item.ReadLine r.call.at (items_of held) (items_of failed)) rest refl
  behind_leaf_by is_test e None held failed rest = refl

  behind_leaf : (is_test : Bool) (e : TermTree) (held failed rest : List Item) → past_loop (leaf u is_test e held failed ++ rest) ≡ past_loop rest
  behind_leaf is_test e held failed rest = behind_leaf_by is_test e (read_by e) held failed rest

  -- ---- conditions

  pub condition_fits : (is_test : Bool) (e : TermTree) (held failed rest : List Item) → Fit f (held ++ rest) → Fit f (failed ++ rest) → Fit f (condition u is_test e held failed ++ rest)
  condition_fits is_test (Typed at t parens fixed (tree.Logical And a b)) held failed rest one other = condition_fits is_test a (condition u is_test b held failed) failed rest (condition_fits is_test b held failed rest one other) other
  condition_fits is_test (Typed at t parens fixed (tree.Logical Or a b)) held failed rest one other = condition_fits is_test a held (condition u is_test b held failed) rest one (condition_fits is_test b held failed rest one other)
  condition_fits is_test (Typed at t parens fixed (tree.Not a)) held failed rest one other = condition_fits is_test a failed held rest other one
  condition_fits is_test (Typed at t parens fixed (tree.Conditional c a b)) held failed rest one other = condition_fits true c (condition u false a held failed) (condition u false b held failed) rest (condition_fits false a held failed rest one other) (condition_fits false b held failed rest one other)
  condition_fits is_test e held failed rest one other = leaf_fits is_test e held failed rest one other

  -- conditions end no loop
  pub behind_condition : (is_test : Bool) (e : TermTree) (held failed rest : List Item) → past_loop (condition u is_test e held failed ++ rest) ≡ past_loop rest
  behind_condition is_test (Typed at t parens fixed (tree.Logical And a b)) held failed rest = behind_condition is_test a (condition u is_test b held failed) failed rest
  behind_condition is_test (Typed at t parens fixed (tree.Logical Or a b)) held failed rest = behind_condition is_test a held (condition u is_test b held failed) rest
  behind_condition is_test (Typed at t parens fixed (tree.Not a)) held failed rest = behind_condition is_test a failed held rest
  behind_condition is_test (Typed at t parens fixed (tree.Conditional c a b)) held failed rest = behind_condition true c (condition u false a held failed) (condition u false b held failed) rest
  behind_condition is_test e held failed rest = behind_leaf is_test e held failed rest
