use Rattle.std.proofs.Common.{rules, arith, ◌≡◌, ◌+◌, ◌-◌, ℕ, length, length-drop, take, ℤ, Bool, true, List, [], ◌∷◌, ◌++◌, Option, drop, map, Vec, Global, refl, ap, sym, ◌∙◌}
use Rattle.std.specs.Option.{option_map}
use Rattle.c_layout.specs.CheckedTrees as tree
use Rattle.c_layout.specs.CheckedTrees.{StatementTree, term_tree, lvalue_tree, statement_tree, statement_trees, store_tree}
use Rattle.c_layout.specs.declared.checked_tree.checked_statements.CheckedStatement.{CheckedStatement}
use Rattle.c_layout.specs.declared.checked_tree.checked_statements.CheckedStatement as of_statement
use Rattle.semantics.specs.SourceMachine.Items as machine
use Rattle.semantics.specs.SourceMachine.Items.{Item}
use Rattle.semantics.specs.SourceMachine.StatementItems.{list_statements}
use Rattle.semantics.specs.SourceMachine.LabelSearch.{found, found_among, here_or, inside_switch}
use Rattle.interp_stack.specs.StackViews.{with_item, standing}
use Rattle.interp_stack.specs.declared.items.Item7.{Item7}
use Rattle.interp_stack.specs.ItemViews.{loop_item, turn_items}
use Rattle.semantics.specs.SourceMachine.StatementItems as spec
use Rattle.semantics.specs.SourceMachine.ConditionItems.{condition}
use Rattle.std.proofs.lemmas.List.{drop_all, take_all}
use Rattle.interp_statements.specs.LabelViews.{sought_view}
use Rattle.interp_statements.proofs.Finds.{finds_as, finds_nothing, finds_here, finds_inside, first_some, first_none}
use Rattle.interp_statements.proofs.Labels.{same_found, found_at}
use Rattle.interp_statements.proofs.label_search.+descent.Goals as goal

rest_whole : {A : Type 0} (xs : List A) (n : ℕ) → take (length xs - n) (drop n xs) ≡ drop n xs
rest_whole xs n = take_all (length xs - n) (drop n xs) (omega (arith, length-drop n xs))

pub find-returns-in-Value : goal.find-returns-in-Value
unfolding found
find-returns-in-Value t c = λ u.
    let s = standing u c.args.control.now.items in
    let l = sought_view c.args.sought in
    let whole : StatementTree → Option (List Item) = λ x. found u l x s.items in
    let seen = tree.Value (term_tree c.in-Value.field-0) in
    let is : statement_tree c.args.statement.now ≡ seen = search (rules, of_statement.the_lemmas) in
    finds_nothing (whole (statement_tree c.args.statement.now)) s.items (ap whole (sym is))

pub find-returns-in-Nothing : goal.find-returns-in-Nothing
unfolding found
find-returns-in-Nothing t c = λ u.
    let s = standing u c.args.control.now.items in
    let l = sought_view c.args.sought in
    let whole : StatementTree → Option (List Item) = λ x. found u l x s.items in
    let seen = tree.Nothing in
    let is : statement_tree c.args.statement.now ≡ seen = search (rules, of_statement.the_lemmas) in
    finds_nothing (whole (statement_tree c.args.statement.now)) s.items (ap whole (sym is))

pub find-returns-in-Forget : goal.find-returns-in-Forget
unfolding found
find-returns-in-Forget t c = λ u.
    let s = standing u c.args.control.now.items in
    let l = sought_view c.args.sought in
    let whole : StatementTree → Option (List Item) = λ x. found u l x s.items in
    let seen = tree.Forget c.in-Forget.field-0 c.in-Forget.field-1 in
    let is : statement_tree c.args.statement.now ≡ seen = search (rules, of_statement.the_lemmas) in
    finds_nothing (whole (statement_tree c.args.statement.now)) s.items (ap whole (sym is))

pub find-returns-in-Start : goal.find-returns-in-Start
unfolding found
find-returns-in-Start t c = λ u.
    let s = standing u c.args.control.now.items in
    let l = sought_view c.args.sought in
    let whole : StatementTree → Option (List Item) = λ x. found u l x s.items in
    let seen = tree.Start c.in-Start.field-0 c.in-Start.field-1 (term_tree c.in-Start.field-2) in
    let is : statement_tree c.args.statement.now ≡ seen = search (rules, of_statement.the_lemmas) in
    finds_nothing (whole (statement_tree c.args.statement.now)) s.items (ap whole (sym is))

pub find-returns-in-StartCopy : goal.find-returns-in-StartCopy
unfolding found
find-returns-in-StartCopy t c = λ u.
    let s = standing u c.args.control.now.items in
    let l = sought_view c.args.sought in
    let whole : StatementTree → Option (List Item) = λ x. found u l x s.items in
    let seen = tree.StartCopy c.in-StartCopy.field-0 c.in-StartCopy.field-1 (lvalue_tree c.in-StartCopy.field-2) in
    let is : statement_tree c.args.statement.now ≡ seen = search (rules, of_statement.the_lemmas) in
    finds_nothing (whole (statement_tree c.args.statement.now)) s.items (ap whole (sym is))

pub find-returns-in-StartList : goal.find-returns-in-StartList
unfolding found
find-returns-in-StartList t c = λ u.
    let s = standing u c.args.control.now.items in
    let l = sought_view c.args.sought in
    let whole : StatementTree → Option (List Item) = λ x. found u l x s.items in
    let seen = tree.StartList c.in-StartList.field-0 c.in-StartList.field-1 (map store_tree c.in-StartList.field-2.items) in
    let is : statement_tree c.args.statement.now ≡ seen = search (rules, of_statement.the_lemmas) in
    finds_nothing (whole (statement_tree c.args.statement.now)) s.items (ap whole (sym is))

pub find-returns-in-Goto : goal.find-returns-in-Goto
unfolding found
find-returns-in-Goto t c = λ u.
    let s = standing u c.args.control.now.items in
    let l = sought_view c.args.sought in
    let whole : StatementTree → Option (List Item) = λ x. found u l x s.items in
    let seen = tree.Goto c.in-Goto.field-0 in
    let is : statement_tree c.args.statement.now ≡ seen = search (rules, of_statement.the_lemmas) in
    finds_nothing (whole (statement_tree c.args.statement.now)) s.items (ap whole (sym is))

pub find-returns-in-Break : goal.find-returns-in-Break
unfolding found
find-returns-in-Break t c = λ u.
    let s = standing u c.args.control.now.items in
    let l = sought_view c.args.sought in
    let whole : StatementTree → Option (List Item) = λ x. found u l x s.items in
    let seen = tree.Break in
    let is : statement_tree c.args.statement.now ≡ seen = search (rules, of_statement.the_lemmas) in
    finds_nothing (whole (statement_tree c.args.statement.now)) s.items (ap whole (sym is))

pub find-returns-in-Continue : goal.find-returns-in-Continue
unfolding found
find-returns-in-Continue t c = λ u.
    let s = standing u c.args.control.now.items in
    let l = sought_view c.args.sought in
    let whole : StatementTree → Option (List Item) = λ x. found u l x s.items in
    let seen = tree.Continue in
    let is : statement_tree c.args.statement.now ≡ seen = search (rules, of_statement.the_lemmas) in
    finds_nothing (whole (statement_tree c.args.statement.now)) s.items (ap whole (sym is))

pub find-returns-in-Return : goal.find-returns-in-Return
unfolding found
find-returns-in-Return t c = λ u.
    let s = standing u c.args.control.now.items in
    let l = sought_view c.args.sought in
    let whole : StatementTree → Option (List Item) = λ x. found u l x s.items in
    let seen = tree.Return c.in-Return.field-0 (option_map term_tree c.in-Return.field-1) in
    let is : statement_tree c.args.statement.now ≡ seen = search (rules, of_statement.the_lemmas) in
    finds_nothing (whole (statement_tree c.args.statement.now)) s.items (ap whole (sym is))

pub find-returns-in_ok-push_item-in-Block : goal.find-returns-in_ok-push_item-in-Block
unfolding found
find-returns-in_ok-push_item-in-Block t c = λ u.
    let s = standing u c.args.control.now.items in
    let l = sought_view c.args.sought in
    let whole : StatementTree → Option (List Item) = λ x. found u l x s.items in
    let seen = tree.Block c.in-Block.objects.items (statement_trees (map statement_tree c.in-Block.statements.items)) in
    let is : statement_tree c.args.statement.now ≡ seen = search (rules, of_statement.the_lemmas) in
    let among : List CheckedStatement → List Item → Option (List Item) = λ xs rest. found_among u l (map statement_tree xs) rest in
    let rest = machine.Leaves c.in-Block.objects.items ∷ s.items in
    finds_as c.find_in.result (among c.as_slice-in-Block.result.now (standing u c.push_item.new.control.items).items) (whole (statement_tree c.args.statement.now)) (standing u c.find_in.new.control.items).items (ap (λ t. among c.as_slice-in-Block.result.now t.items) (c.in_ok-push_item-in-Block.ensures u)
    ∙ ap (λ objects. among c.as_slice-in-Block.result.now (machine.Leaves objects ∷ s.items)) c.as_slice.ensures.value
    ∙ ap (λ xs. among xs rest) c.as_slice-in-Block.ensures.value
    ∙ sym (same_found u l (map statement_tree c.in-Block.statements.items) rest)
    ∙ ap whole (sym is)) (c.find_in.ensures u)

pub find-returns-in-If : goal.find-returns-in-If
unfolding found
find-returns-in-If t c = λ u.
    let s = standing u c.args.control.now.items in
    let l = sought_view c.args.sought in
    let whole : StatementTree → Option (List Item) = λ x. found u l x s.items in
    let seen = tree.If (term_tree c.in-If.field-0) (statement_tree c.deref.result.now) in
    let is : statement_tree c.args.statement.now ≡ seen = search (rules, of_statement.the_lemmas) in
    finds_as c.find.result (whole seen) (whole (statement_tree c.args.statement.now)) (standing u c.find.new.control.items).items (ap whole (sym is)) (c.find.ensures u)

pub find-returns-in_ok-push_while_turn-in-While : goal.find-returns-in_ok-push_while_turn-in-While
unfolding found
find-returns-in_ok-push_while_turn-in-While t c = λ u.
    let s = standing u c.args.control.now.items in
    let l = sought_view c.args.sought in
    let whole : StatementTree → Option (List Item) = λ x. found u l x s.items in
    let seen = tree.While (term_tree c.in-While.field-0) (statement_tree c.deref-in-While.result.now) in
    let is : statement_tree c.args.statement.now ≡ seen = search (rules, of_statement.the_lemmas) in
    let next : List Item → Option (List Item) = λ rest. found u l (statement_tree c.deref-in-While.result.now) rest in
    let added : StatementTree → List Item = λ x. machine.Hop ∷ (machine.IterationEnd ∷ (loop_item x ∷ [])) in
    finds_as c.find-in-While.result (next (standing u c.push_while_turn.new.control.items).items) (whole (statement_tree c.args.statement.now)) (standing u c.find-in-While.new.control.items).items (ap next (c.in_ok-push_while_turn-in-While.ensures u)
    ∙ ap (λ t. next (added (statement_tree c.args.statement.now) ++ t.items)) (c.in_ok-push_item-in-While.ensures u)
    ∙ ap (λ x. next (added x ++ machine.LoopEnd ∷ s.items)) is
    ∙ ap whole (sym is)) (c.find-in-While.ensures u)

pub find-returns-in_ok-push_do_test-in-Do : goal.find-returns-in_ok-push_do_test-in-Do
unfolding found
find-returns-in_ok-push_do_test-in-Do t c = λ u.
    let s = standing u c.args.control.now.items in
    let l = sought_view c.args.sought in
    let whole : StatementTree → Option (List Item) = λ x. found u l x s.items in
    let seen = tree.Do (statement_tree c.deref-in-Do.result.now) (term_tree c.in-Do.condition) in
    let is : statement_tree c.args.statement.now ≡ seen = search (rules, of_statement.the_lemmas) in
    let next : List Item → Option (List Item) = λ rest. found u l (statement_tree c.deref-in-Do.result.now) rest in
    let added : StatementTree → List Item = λ x. machine.IterationEnd ∷ condition u true (term_tree c.in-Do.condition) (turn_items x) [] in
    finds_as c.find-in-Do.result (next (standing u c.push_do_test.new.control.items).items) (whole (statement_tree c.args.statement.now)) (standing u c.find-in-Do.new.control.items).items (ap next (c.in_ok-push_do_test-in-Do.ensures u)
    ∙ ap (λ t. next (added (statement_tree c.args.statement.now) ++ t.items)) (c.in_ok-push_item-in-Do.ensures u)
    ∙ ap (λ x. next (added x ++ machine.LoopEnd ∷ s.items)) is
    ∙ ap whole (sym is)) (c.find-in-Do.ensures u)

pub find-returns-in_ok-push_for_step-in-For : goal.find-returns-in_ok-push_for_step-in-For
unfolding found
find-returns-in_ok-push_for_step-in-For t c = λ u.
    let s = standing u c.args.control.now.items in
    let l = sought_view c.args.sought in
    let whole : StatementTree → Option (List Item) = λ x. found u l x s.items in
    let seen = tree.For c.in-For.objects.items (statement_trees (map statement_tree c.in-For.field-1.items)) (option_map term_tree c.in-For.field-2) (option_map term_tree c.in-For.step) (statement_tree c.deref-in-For.result.now) in
    let is : statement_tree c.args.statement.now ≡ seen = search (rules, of_statement.the_lemmas) in
    let next : List Item → Option (List Item) = λ rest. found u l (statement_tree c.deref-in-For.result.now) rest in
    let added : StatementTree → List Item = λ x. machine.IterationEnd ∷ (spec.clause (option_map term_tree c.in-For.step) ++ (machine.Hop ∷ (loop_item x ∷ []))) in
    finds_as c.find-in-For.result (next (standing u c.push_for_step.new.control.items).items) (whole (statement_tree c.args.statement.now)) (standing u c.find-in-For.new.control.items).items (ap next (c.in_ok-push_for_step-in-For.ensures u)
    ∙ ap (λ t. next (added (statement_tree c.args.statement.now) ++ t.items)) (c.in_ok-push_item-in-For-2.ensures u)
    ∙ ap (λ t. next (added (statement_tree c.args.statement.now) ++ machine.LoopEnd ∷ t.items)) (c.in_ok-push_item-in-For.ensures u)
    ∙ ap (λ objects. next (added (statement_tree c.args.statement.now) ++ machine.LoopEnd ∷ (machine.Leaves objects ∷ s.items))) c.as_slice-in-For.ensures.value
    ∙ ap (λ x. next (added x ++ machine.LoopEnd ∷ (machine.Leaves c.in-For.objects.items ∷ s.items))) is
    ∙ ap whole (sym is)) (c.find-in-For.ensures u)

pub find-returns-in_ok-push_item-in-Switch : goal.find-returns-in_ok-push_item-in-Switch
unfolding found
find-returns-in_ok-push_item-in-Switch t c = λ u.
    let s = standing u c.args.control.now.items in
    let l = sought_view c.args.sought in
    let whole : StatementTree → Option (List Item) = λ x. found u l x s.items in
    let seen = tree.Switch c.in-Switch.field-0 (term_tree c.in-Switch.field-1) c.in-Switch.field-2.items c.in-Switch.field-3 (option_map (λ (v : Vec ℤ Global). v.items) c.in-Switch.field-4) (statement_tree c.deref-in-Switch.result.now) in
    let is : statement_tree c.args.statement.now ≡ seen = search (rules, of_statement.the_lemmas) in
    let next : List Item → Option (List Item) = λ rest. found u l (statement_tree c.deref-in-Switch.result.now) rest in
    let items = (standing u c.find-in-Switch.new.control.items).items in
    finds_as c.find-in-Switch.result (inside_switch l (next (standing u c.push_item-in-Switch.new.control.items).items)) (whole (statement_tree c.args.statement.now)) items
    (ap (λ t. inside_switch l (next t.items)) (c.in_ok-push_item-in-Switch.ensures u) ∙ ap whole (sym is))
    (finds_inside l c.find-in-Switch.result (next (standing u c.push_item-in-Switch.new.control.items).items) items (c.find-in-Switch.ensures u))

pub find-returns-in-Case : goal.find-returns-in-Case
unfolding found
find-returns-in-Case t c = λ u.
    let s = standing u c.args.control.now.items in
    let l = sought_view c.args.sought in
    let whole : StatementTree → Option (List Item) = λ x. found u l x s.items in
    let seen = tree.Case c.in-Case.n (statement_tree c.deref-in-Case.result.now) in
    let is : statement_tree c.args.statement.now ≡ seen = search (rules, of_statement.the_lemmas) in
    let body = statement_tree c.deref-in-Case.result.now in
    let next : Bool → Option (List Item) = λ here. here_or here (machine.Statement body ∷ s.items) (found u l body s.items) in
    finds_as c.find_labelled.result (next c.is_case.result) (whole (statement_tree c.args.statement.now)) (standing u c.find_labelled.new.control.items).items (ap next c.is_case.ensures ∙ ap whole (sym is)) (c.find_labelled.ensures u)

pub find-returns-in-Default : goal.find-returns-in-Default
unfolding found
find-returns-in-Default t c = λ u.
    let s = standing u c.args.control.now.items in
    let l = sought_view c.args.sought in
    let whole : StatementTree → Option (List Item) = λ x. found u l x s.items in
    let seen = tree.Default (statement_tree c.deref-in-Default.result.now) in
    let is : statement_tree c.args.statement.now ≡ seen = search (rules, of_statement.the_lemmas) in
    let body = statement_tree c.deref-in-Default.result.now in
    let next : Bool → Option (List Item) = λ here. here_or here (machine.Statement body ∷ s.items) (found u l body s.items) in
    finds_as c.find_labelled-in-Default.result (next c.is_other.result) (whole (statement_tree c.args.statement.now)) (standing u c.find_labelled-in-Default.new.control.items).items (ap next c.is_other.ensures ∙ ap whole (sym is)) (c.find_labelled-in-Default.ensures u)

pub find-returns-in-Label : goal.find-returns-in-Label
unfolding found
find-returns-in-Label t c = λ u.
    let s = standing u c.args.control.now.items in
    let l = sought_view c.args.sought in
    let whole : StatementTree → Option (List Item) = λ x. found u l x s.items in
    let seen = tree.Label c.in-Label.n (statement_tree c.deref-in-Label.result.now) in
    let is : statement_tree c.args.statement.now ≡ seen = search (rules, of_statement.the_lemmas) in
    let body = statement_tree c.deref-in-Label.result.now in
    let next : Bool → Option (List Item) = λ here. here_or here (machine.Statement body ∷ s.items) (found u l body s.items) in
    finds_as c.find_labelled-in-Label.result (next c.is_label.result) (whole (statement_tree c.args.statement.now)) (standing u c.find_labelled-in-Label.new.control.items).items (ap next c.is_label.ensures ∙ ap whole (sym is)) (c.find_labelled-in-Label.ensures u)

pub find-returns-in_ok-push_item-in-IfElse : goal.find-returns-in_ok-push_item-in-IfElse
unfolding found
find-returns-in_ok-push_item-in-IfElse t c = λ u.
    let s = standing u c.args.control.now.items in
    let l = sought_view c.args.sought in
    let whole : StatementTree → Option (List Item) = λ x. found u l x s.items in
    let seen = tree.IfElse (term_tree c.in-IfElse.field-0) (statement_tree c.deref-in-IfElse.result.now) (statement_tree c.in-IfElse.second.value) in
    let is : statement_tree c.args.statement.now ≡ seen = search (rules, of_statement.the_lemmas) in
    let one = found u l (statement_tree c.deref-in-IfElse.result.now) (machine.Hop ∷ s.items) in
    let two = found u l (statement_tree c.in-IfElse.second.value) s.items in
    finds_as c.find-then-is_in.result (found u l (statement_tree c.deref-then-is_in.result.now) (standing u c.push_item-then-is_in.new.control.items).items) (whole (statement_tree c.args.statement.now)) (standing u c.find-then-is_in.new.control.items).items (ap (λ t. found u l (statement_tree c.deref-then-is_in.result.now) t.items) (c.in_ok-push_item-in-IfElse.ensures u)
    ∙ ap (λ x. found u l (statement_tree x) (machine.Hop ∷ s.items)) (c.deref-then-is_in.ensures ∙ sym c.deref-in-IfElse.ensures)
    ∙ first_some one two (sym c.if-is_in.true ∙ c.is_in.ensures u (machine.Hop ∷ s.items))
    ∙ ap whole (sym is)) (c.find-then-is_in.ensures u)

pub find-returns-else-is_in : goal.find-returns-else-is_in
unfolding found
find-returns-else-is_in t c = λ u.
    let s = standing u c.args.control.now.items in
    let l = sought_view c.args.sought in
    let whole : StatementTree → Option (List Item) = λ x. found u l x s.items in
    let seen = tree.IfElse (term_tree c.in-IfElse.field-0) (statement_tree c.deref-in-IfElse.result.now) (statement_tree c.deref-else-is_in.result.now) in
    let is : statement_tree c.args.statement.now ≡ seen = search (rules, of_statement.the_lemmas) in
    let one = found u l (statement_tree c.deref-in-IfElse.result.now) (machine.Hop ∷ s.items) in
    let two = found u l (statement_tree c.deref-else-is_in.result.now) s.items in
    finds_as c.find-else-is_in.result (two) (whole (statement_tree c.args.statement.now)) (standing u c.find-else-is_in.new.control.items).items (first_none one two (sym c.if-is_in.false ∙ c.is_in.ensures u (machine.Hop ∷ s.items))
    ∙ ap whole (sym is)) (c.find-else-is_in.ensures u)

pub find_labelled-returns-then-is_here : goal.find_labelled-returns-then-is_here
find_labelled-returns-then-is_here t c = λ u.
    let s = standing u c.args.control.now.items in
    let l = sought_view c.args.sought in
    let body = statement_tree c.args.body.now in
    finds_here c.push_item.result (standing u c.push_item.new.control.items) (with_item (machine.Statement body) s) c.args.is_here (machine.Statement body ∷ s.items) (found u l body s.items) c.if-is_here.true refl (c.push_item.ensures u)

pub find_in-returns-then-is_in : goal.find_in-returns-then-is_in
find_in-returns-then-is_in t c = λ u.
    let l = sought_view c.args.sought in
    let all = c.args.statements.now in
    let k = c.loop-statement.statement-index in
    let item = statement_tree c.statement-item.result in
    let old = (standing u c.loop-statement.control.items).items in
    let later = map statement_tree (drop (k + 1) all) in
    let one = found u l item (list_statements later ++ old) in
    let two = found_among u l later old in
    let whole : List Item7 → Option (List Item) = λ xs. found_among u l (map statement_tree all) (standing u xs).items in
    finds_as c.find.result (found u l item (standing u c.push_statements.new.control.items).items) (whole c.args.control.now.items) (standing u c.find.new.control.items).items
    (ap (found u l item) (c.in_ok-push_statements.ensures u)
    ∙ ap (λ xs. found u l item (list_statements (map statement_tree xs) ++ old)) (rest_whole all (c.loop-statement.at + 1))
    ∙ ap (λ n. found u l item (list_statements (map statement_tree (drop (n + 1) all)) ++ old)) c.loop-statement.invariant.0
    ∙ first_some one two (sym c.if-is_in.true ∙ c.is_in.ensures u (list_statements later ++ old))
    ∙ sym (found_at u l all k c.statement-item.result old c.loop-statement-test.true c.statement-item.is)
    ∙ c.loop-statement.invariant.2 u
    ∙ ap whole c.loop-statement.invariant.1) (c.find.ensures u)

pub find_in-loop-statement-preserved : goal.find_in-loop-statement-preserved
find_in-loop-statement-preserved t c =
    let l = sought_view c.args.sought in
    let all = c.args.statements.now in
    let k = c.loop-statement.statement-index in
    let later = map statement_tree (drop (k + 1) all) in (
      ap (λ n. n + 1) c.loop-statement.invariant.0,
      c.loop-statement.invariant.1,
      λ u.
          let old = (standing u c.loop-statement.control.items).items in
          let one = found u l (statement_tree c.statement-item.result) (list_statements later ++ old) in
          first_none one (found_among u l later old) (sym c.if-is_in.false ∙ c.is_in.ensures u (list_statements later ++ old))
          ∙ sym (found_at u l all k c.statement-item.result old c.loop-statement-test.true c.statement-item.is)
          ∙ c.loop-statement.invariant.2 u,
    )

pub find_in-returns : goal.find_in-returns
find_in-returns t c = λ u.
    let l = sought_view c.args.sought in
    let all = c.args.statements.now in
    let now = (standing u c.loop-statement.control.items).items in
    let whole : List Item7 → Option (List Item) = λ xs. found_among u l (map statement_tree all) (standing u xs).items in
    let none : drop c.loop-statement.statement-index all ≡ [] = drop_all c.loop-statement.statement-index all c.loop-statement-test.false in
    finds_nothing (whole c.args.control.now.items) now
    (sym (ap (λ xs. found_among u l (map statement_tree xs) now) none) ∙ c.loop-statement.invariant.2 u ∙ ap whole c.loop-statement.invariant.1)
