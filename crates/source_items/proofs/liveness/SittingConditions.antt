-- The items of conditions sit where what follows them sits.
use Rattle.std.proofs.Common.{◌≡◌, Bool, true, false, List, [], ◌∷◌, ◌++◌, Option, Some, None, append_assoc, refl, ap, sym, subst, ◌∙◌}
use Rattle.cc_base.specs.declared.diagnostics.Place.{Place}
use Rattle.c_layout.specs.CheckedTrees as tree
use Rattle.c_layout.specs.CheckedTrees.{TermTree, TermTrees, Typed}
use Rattle.c_layout.specs.CheckedUnits.{UnitView, FunctionView}
use Rattle.c_layout.specs.declared.syntax_tree.expressions.LogicalOp.TheVariants.{And, Or}
use Rattle.lower_conditions.specs.Conditions.{ReadView, read_by}
use Rattle.semantics.specs.SourceMachine.Items as item
use Rattle.semantics.specs.SourceMachine.Items.{Item, Items, items_of}
use Rattle.semantics.specs.SourceMachine.TermItems.{arguments}
use Rattle.semantics.specs.SourceMachine.ConditionItems.{line_items, leaf_by, condition}
use Rattle.source_items.specs.Liveness.Lives.{lives}
use Rattle.source_items.specs.Liveness.ScopedTerms.{ScopedTerm, ScopedArguments}
use Rattle.source_items.specs.Liveness.Livings.{Sit}
use Rattle.source_items.proofs.liveness.Sitting.{Leads, Adds, sit_after, chosen_sit}
use Rattle.source_items.proofs.liveness.ReadLines.{read_scoped}

-- ---- what does not look at the items of conditions

module _ {A : Type 0} (look : List Item → A) (past_value : (e : TermTree) (items : List Item) → look (item.Value e ∷ items) ≡ look items) (past_choice : (at : Place) (test : Option item.NamedTest) (held failed : Items) (items : List Item) → look (item.Choose at test held failed ∷ items) ≡ look items) (past_line : (at : Place) (none some : Items) (items : List Item) → look (item.ReadLine at none some ∷ items) ≡ look items) where
  past_arguments : (args : TermTrees) (items : List Item) → look (arguments args ++ items) ≡ look items
  past_arguments tree.End items = refl
  past_arguments (tree.More e args) items = past_value e (arguments args ++ items) ∙ past_arguments args items

  past_read : (args : TermTrees) (at : Place) (none some : Items) (items : List Item) → look ((arguments args ++ item.ReadLine at none some ∷ []) ++ items) ≡ look items
  past_read args at none some items = ap look (append_assoc (arguments args) (item.ReadLine at none some ∷ []) items) ∙ past_arguments args (item.ReadLine at none some ∷ items) ∙ past_line at none some items

  past_leaf : (u : UnitView) (is_test : Bool) (e : TermTree) (o : Option ReadView) (held failed : Items) (items : List Item) → look (leaf_by u is_test e o held failed ++ items) ≡ look items
  past_leaf u is_test e (Some r) held failed items = by r.wants_line
    where
      by : (wants : Bool) → look (line_items r wants held failed ++ items) ≡ look items
      by true = past_read r.call.arguments r.call.at failed held items
      by false = past_read r.call.arguments r.call.at held failed items
  past_leaf u is_test e None held failed items = past_value e _ ∙ past_choice _ _ held failed items

  pub past_condition : (u : UnitView) (is_test : Bool) (e : TermTree) (held failed items : List Item) → look (condition u is_test e held failed ++ items) ≡ look items
  past_condition u is_test (Typed at t parens fixed (tree.Logical And a b)) held failed items = past_condition u is_test a (condition u is_test b held failed) failed items
  past_condition u is_test (Typed at t parens fixed (tree.Logical Or a b)) held failed items = past_condition u is_test a held (condition u is_test b held failed) items
  past_condition u is_test (Typed at t parens fixed (tree.Not a)) held failed items = past_condition u is_test a failed held items
  past_condition u is_test (Typed at t parens fixed (tree.Conditional c a b)) held failed items = past_condition u true c (condition u false a held failed) (condition u false b held failed) items
  past_condition u is_test e held failed items = past_leaf u is_test e (read_by e) (items_of held) (items_of failed) items

-- ---- conditions

module _ (f : FunctionView) (first : Bool) where
  pub arguments_add : (args : TermTrees) → Adds f first (λ alive. ScopedArguments alive args) (arguments args)
  arguments_add tree.End rest scoped sit = (refl, sit)
  arguments_add (tree.More e args) rest scoped sit =
      let later : Leads f first (arguments args) rest = arguments_add args rest scoped.1 sit in
      (later.0, (subst (λ alive. ScopedTerm alive e) (sym later.0) scoped.0, later.1))

  read_leads : (args : TermTrees) (at : Place) (none some rest : List Item) → ScopedArguments (lives f first rest) args → Leads f first none rest → Leads f first some rest → Leads f first (arguments args ++ item.ReadLine at (items_of none) (items_of some) ∷ []) rest
  read_leads args at none some rest scoped one other =
      let read : Item = item.ReadLine at (items_of none) (items_of some) in
      let two = chosen_sit f first none rest one in
      let more = chosen_sit f first some rest other in
      let all : Leads f first (arguments args) (read ∷ rest) = arguments_add args (read ∷ rest) scoped ((two.0, two.1, more.0, more.1), sit_after f first none rest one.1) in
      subst (λ xs. (lives f first xs ≡ lives f first rest) × Sit f first xs) (sym (append_assoc (arguments args) (read ∷ []) rest)) all

  line_leads : (r : ReadView) (wants : Bool) (held failed rest : List Item) → ScopedArguments (lives f first rest) r.call.arguments → Leads f first held rest → Leads f first failed rest → Leads f first (line_items r wants (items_of held) (items_of failed)) rest
  line_leads r true held failed rest scoped one other = read_leads r.call.arguments r.call.at failed held rest scoped other one
  line_leads r false held failed rest scoped one other = read_leads r.call.arguments r.call.at held failed rest scoped one other

module _ (u : UnitView) (f : FunctionView) (first : Bool) where
  leaf_leads : (is_test : Bool) (e : TermTree) (o : Option ReadView) → read_by e ≡ o → (held failed rest : List Item) → ScopedTerm (lives f first rest) e → Leads f first held rest → Leads f first failed rest → Leads f first (leaf_by u is_test e o (items_of held) (items_of failed)) rest
  leaf_leads is_test e (Some r) is held failed rest scoped one other = line_leads f first r r.wants_line held failed rest (read_scoped (lives f first rest) e r is scoped) one other
  leaf_leads is_test e None is held failed rest scoped one other =
      let two = chosen_sit f first held rest one in
      let more = chosen_sit f first failed rest other in
      (refl, (scoped, ((two.0, two.1, more.0, more.1), sit_after f first held rest one.1)))

  pub condition_leads : (is_test : Bool) (e : TermTree) (held failed rest : List Item) → ScopedTerm (lives f first rest) e → Leads f first held rest → Leads f first failed rest → Leads f first (condition u is_test e held failed) rest
  condition_leads is_test (Typed at t parens fixed (tree.Logical And a b)) held failed rest scoped one other = condition_leads is_test a (condition u is_test b held failed) failed rest scoped.0 (condition_leads is_test b held failed rest scoped.1 one other) other
  condition_leads is_test (Typed at t parens fixed (tree.Logical Or a b)) held failed rest scoped one other = condition_leads is_test a held (condition u is_test b held failed) rest scoped.0 one (condition_leads is_test b held failed rest scoped.1 one other)
  condition_leads is_test (Typed at t parens fixed (tree.Not a)) held failed rest scoped one other = condition_leads is_test a failed held rest scoped other one
  condition_leads is_test (Typed at t parens fixed (tree.Conditional c a b)) held failed rest scoped one other = condition_leads true c (condition u false a held failed) (condition u false b held failed) rest scoped.0 (condition_leads false a held failed rest scoped.1 one other) (condition_leads false b held failed rest scoped.2 one other)
  condition_leads is_test e held failed rest scoped one other = leaf_leads is_test e (read_by e) refl held failed rest scoped one other
