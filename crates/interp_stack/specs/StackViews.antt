-- What a stack of items of a program is to the machine.
use Rattle.std.specs.Prelude.{◌≡◌, ℕ, List, [], ◌∷◌, ◌++◌, map, reverse, replicate, Bool, true, false, Result, IfOk}
use Rattle.c_layout.specs.CheckedTrees as tree
use Rattle.c_layout.specs.CheckedTrees.{TermTree, FormTree, StatementTree, term_tree, term_trees, lvalue_tree, statement_tree, store_tree}
use Rattle.c_layout.specs.CheckedUnits.{UnitView}
use Rattle.cc_base.specs.declared.diagnostics.Place.{Place}
use Rattle.c_layout.specs.declared.syntax_tree.expressions.LogicalOp.{LogicalOp}
use Rattle.c_layout.specs.declared.syntax_tree.expressions.LogicalOp.TheVariants.{And, Or}
use Rattle.lower_templates.specs.Worklist.TermKinds.{term_at, term_form}
use Rattle.lower_functions.specs.Functions.Functions.{numbers_from}
use Rattle.semantics.specs.SourceMachine.Items as item
use Rattle.semantics.specs.SourceMachine.Items.{Item, items_of}
use Rattle.semantics.specs.SourceMachine.TermTests.{test_if}
use Rattle.semantics.specs.SourceMachine.TermItems.{arguments}
use Rattle.semantics.specs.SourceMachine.ConditionItems.{condition, truth_of}
use Rattle.semantics.specs.SourceMachine.StatementItems.{list_statements, all_stored}
use Rattle.interp_stack.specs.ItemViews.{operation_view, change_view, arm_items, next_items, loop_item, select_item, bindings}
use Rattle.interp_stack.specs.declared.items.Item7.{Item7}
use Rattle.interp_stack.specs.declared.items.Item7.TheVariants as held
use Rattle.interp_stack.specs.declared.items.Use7.{Use7}
use Rattle.interp_stack.specs.declared.items.Use7.TheVariants as use_of
use Rattle.interp_stack.specs.declared.items.Way7.{Way7}
use Rattle.interp_stack.specs.declared.items.Way7.TheVariants as way

-- the items of a stack, what follows the condition on top of it where that holds and where it does not, and the objects that
-- an item on top enters or leaves
pub record StackView : Type 0 where
  pub items : List Item
  pub yes : List Item
  pub no : List Item
  pub objects : List ℕ

abbrev pub nothing_left : StackView
nothing_left = record { items = []; yes = []; no = []; objects = [] }

abbrev pub with_items : List Item → StackView → StackView
with_items more s = record { items = more ++ s.items; yes = []; no = []; objects = [] }

abbrev pub with_item : Item → StackView → StackView
with_item i s = record { items = i ∷ s.items; yes = []; no = []; objects = [] }

-- items more, or none
abbrev pub added : List Item → StackView → StackView
added [] s = s
added (i ∷ is) s = with_items (i ∷ is) s

-- a value that is not used is dropped
abbrev pub unless_used : Bool → StackView → StackView
unless_used true s = s
unless_used false s = with_item item.Drop s

-- other items that follow where a condition holds and where it does not
abbrev pub ways : List Item → List Item → StackView → StackView
ways holding failing s = record { items = s.items; yes = holding; no = failing; objects = [] }

-- items that follow where a condition holds; what followed so far follows where it does not
abbrev pub following : List Item → StackView → StackView
following items s = ways items s.yes s

abbrev pub picked : UnitView → FormTree → StackView → StackView
picked u (tree.Conditional c a b) s = ways (condition u false a s.yes s.no) (condition u false b s.yes s.no) s
picked u _ s = ways s.yes s.no s

abbrev pub on_term : UnitView → Use7 → TermTree → StackView → StackView
on_term u use_of.Value e s = with_item (item.Value e) s
on_term u use_of.Unused e s = with_item (item.Unused e) s
on_term u (use_of.Choose is_test) e s = with_item (item.Choose (term_at e) (test_if u is_test e) (items_of s.yes) (items_of s.no)) s
on_term u (use_of.AndThen is_test) e s = ways (condition u is_test e s.yes s.no) s.no s
on_term u (use_of.OrElse is_test) e s = ways s.yes (condition u is_test e s.yes s.no) s
on_term u use_of.Pick e s = picked u (term_form e) s
on_term u (use_of.After arm) e s = following (arm_items arm e) s

abbrev pub on_statement : Way7 → StatementTree → StackView → StackView
on_statement way.Whole x s = with_item (item.Statement x) s
on_statement way.Turn x s = with_item (loop_item x) s
on_statement way.Select x s = with_item (select_item x) s
on_statement (way.After next) x s = following (next_items next x) s

-- the right operand of a condition
abbrev pub on_logical : UnitView → LogicalOp → Bool → TermTree → StackView → StackView
on_logical u And is_test e s = on_term u (use_of.AndThen is_test) e s
on_logical u Or is_test e s = on_term u (use_of.OrElse is_test) e s

-- a condition on a line that is wanted or not
abbrev pub on_line : Place → Bool → StackView → StackView
on_line at true s = with_item (item.ReadLine at (items_of s.no) (items_of s.yes)) s
on_line at false s = with_item (item.ReadLine at (items_of s.yes) (items_of s.no)) s

-- a stack with one entry more
abbrev pub on_item : UnitView → Item7 → StackView → StackView
on_item u (held.Term how e) s = on_term u how (term_tree e.now) s
on_item u (held.Values es) s = with_items (arguments (term_trees (map term_tree es.now))) s
on_item u (held.Address l) s = with_item (item.Address (lvalue_tree l.now)) s
on_item u (held.Do at operation) s = with_item (item.Do at (operation_view operation)) s
on_item u (held.Truth holds) s = with_item (item.Truth holds) s
on_item u held.Again s = with_item item.Again s
on_item u held.Drop s = with_item item.Drop s
on_item u (held.Drops count) s = with_items (replicate count item.Drop) s
on_item u (held.Object at object offset) s = with_item (item.Object at object offset) s
on_item u (held.Literal at index) s = with_item (item.Literal at index) s
on_item u (held.Outcome at) s = with_item (item.Outcome at) s
on_item u (held.OnObject at local how) s = with_item (item.OnObject at local (change_view how)) s
on_item u (held.Stores at local stores) s = with_items (all_stored at local (map store_tree stores.now)) s
on_item u (held.ReadLine at wants_line) s = on_line at wants_line s
on_item u held.AfterNothing s = following [] s
on_item u (held.AfterTruth holds) s = following (truth_of holds) s
on_item u held.Negated s = ways s.no s.yes s
on_item u (held.Statement how x) s = on_statement how (statement_tree x.now) s
on_item u (held.Statements xs) s = with_items (list_statements (map statement_tree xs.now)) s
on_item u held.IterationEnd s = with_item item.IterationEnd s
on_item u held.LoopEnd s = with_item item.LoopEnd s
on_item u (held.Enters objects) s = with_item (item.Enters objects.now) s
on_item u (held.Leaves objects) s = with_item (item.Leaves objects.now) s
on_item u held.EntersBelow s = with_item (item.Enters s.objects) s
on_item u held.LeavesBelow s = with_item (item.Leaves s.objects) s
on_item u (held.Also object) s = record { items = s.items; yes = []; no = []; objects = object ∷ s.objects }
on_item u (held.AlsoFrom from count) s = record { items = s.items; yes = []; no = []; objects = numbers_from from count ++ s.objects }
on_item u held.Hop s = with_item item.Hop s
on_item u (held.GoTo label) s = with_item (item.GoTo label) s
on_item u held.BreakOut s = with_item item.BreakOut s
on_item u held.NextIteration s = with_item item.NextIteration s
on_item u held.LeaveFunction s = with_item item.LeaveFunction s
on_item u held.EndBody s = with_item item.EndBody s
on_item u (held.Invoke at function count used) s = with_item (item.Invoke at function count used) s
on_item u (held.Binds at from left count) s = with_items (bindings at count (numbers_from from left)) s
on_item u (held.Bind at parameter depth) s = with_item (item.Bind at parameter depth) s
on_item u (held.LeaveOutcome at) s = with_item (item.LeaveOutcome at) s

-- a stack, the newest entry first
abbrev pub newest_first : UnitView → List Item7 → StackView
newest_first u [] = nothing_left
newest_first u (i ∷ is) = on_item u i (newest_first u is)

-- a stack, the newest entry last
unfoldable pub standing : UnitView → List Item7 → StackView
standing u items = newest_first u (reverse items)

-- the stack is another one, unless memory ran out
abbrev pub Stacks : {E : Type 0} → UnitView → (StackView → StackView) → List Item7 → Result (Unit {0}) E → List Item7 → Type 0
Stacks u becomes old result new = IfOk result (λ _. standing u new ≡ becomes (standing u old))

-- so many items more stand first, unless memory ran out
abbrev pub Adds : {E : Type 0} → UnitView → List Item → List Item7 → Result (Unit {0}) E → List Item7 → Type 0
Adds u more old result new = IfOk result (λ _. (standing u new).items ≡ more ++ (standing u old).items)
