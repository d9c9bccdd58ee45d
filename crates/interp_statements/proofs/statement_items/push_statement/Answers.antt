use Rattle.std.proofs.Common.{rules, ◌≡◌, ℕ, ℤ, [], ◌∷◌, ◌++◌, List, map, Vec, Global, ap, sym, ◌∙◌}
use Rattle.std.specs.Option.{option_map}
use Rattle.c_layout.specs.CheckedTrees as tree
use Rattle.c_layout.specs.CheckedTrees.{StatementTree, term_tree, lvalue_tree, statement_tree, statement_trees, store_tree}
use Rattle.c_layout.specs.declared.checked_tree.checked_statements.CheckedStatement as of_statement
use Rattle.c_layout.specs.declared.checked_tree.checked_statements.CheckedStatement.{CheckedStatement}
use Rattle.c_layout.specs.declared.checked_tree.checked_statements.InitStore.{InitStore}
use Rattle.semantics.specs.SourceMachine.Items as machine
use Rattle.semantics.specs.SourceMachine.Items.{Item}
use Rattle.semantics.specs.SourceMachine.StatementItems as spec
use Rattle.semantics.specs.SourceMachine.StatementItems.{list_statements}
use Rattle.interp_stack.specs.ItemViews.{loop_item, select_item}
use Rattle.interp_stack.specs.StackViews.{with_item, standing}
use Rattle.interp_stack.proofs.Sequels.{goes_on, items_go_on}
use Rattle.interp_statements.proofs.Labels.{same_statements}
use Rattle.interp_statements.proofs.statement_items.push_statement.Goals as goal

pub returns-in-Value : goal.returns-in-Value
returns-in-Value c = λ u.
    let s = standing u c.args.control.now.items in
    let whole : StatementTree → List Item = λ x. spec.of_statement u c.args.is_entry x ++ s.items in
    let seen = tree.Value (term_tree c.in-Value.term) in
    let is : statement_tree c.args.statement.now ≡ seen = search (rules, of_statement.the_lemmas) in
    items_go_on c.push_item.result (standing u c.push_item.new.control.items) (with_item (machine.Unused (term_tree c.in-Value.term)) s) (whole (statement_tree c.args.statement.now)) (ap whole (sym is)) (c.push_item.ensures u)

pub returns-in-Forget : goal.returns-in-Forget
returns-in-Forget c = λ u.
    let s = standing u c.args.control.now.items in
    let whole : StatementTree → List Item = λ x. spec.of_statement u c.args.is_entry x ++ s.items in
    let seen = tree.Forget c.in-Forget.at c.in-Forget.local in
    let is : statement_tree c.args.statement.now ≡ seen = search (rules, of_statement.the_lemmas) in
    items_go_on c.push_item-in-Forget.result (standing u c.push_item-in-Forget.new.control.items) (with_item (machine.OnObject c.in-Forget.at c.in-Forget.local machine.Forget) s) (whole (statement_tree c.args.statement.now)) (ap whole (sym is)) (c.push_item-in-Forget.ensures u)

pub returns-in-Start : goal.returns-in-Start
returns-in-Start c = λ u.
    let s = standing u c.args.control.now.items in
    let whole : StatementTree → List Item = λ x. spec.of_statement u c.args.is_entry x ++ s.items in
    let seen = tree.Start c.in-Start.at c.in-Start.local (term_tree c.in-Start.value) in
    let is : statement_tree c.args.statement.now ≡ seen = search (rules, of_statement.the_lemmas) in
    goes_on c.push_start.result (standing u c.push_start.new.control.items).items (whole seen) (whole (statement_tree c.args.statement.now)) (ap whole (sym is)) (c.push_start.ensures u)

pub returns-in-StartCopy : goal.returns-in-StartCopy
returns-in-StartCopy c = λ u.
    let s = standing u c.args.control.now.items in
    let whole : StatementTree → List Item = λ x. spec.of_statement u c.args.is_entry x ++ s.items in
    let seen = tree.StartCopy c.in-StartCopy.at c.in-StartCopy.local (lvalue_tree c.in-StartCopy.source) in
    let is : statement_tree c.args.statement.now ≡ seen = search (rules, of_statement.the_lemmas) in
    goes_on c.push_start_copy.result (standing u c.push_start_copy.new.control.items).items (whole seen) (whole (statement_tree c.args.statement.now)) (ap whole (sym is)) (c.push_start_copy.ensures u)

pub returns-in-StartList : goal.returns-in-StartList
returns-in-StartList c = λ u.
    let s = standing u c.args.control.now.items in
    let whole : StatementTree → List Item = λ x. spec.of_statement u c.args.is_entry x ++ s.items in
    let seen = tree.StartList c.in-StartList.at c.in-StartList.local (map store_tree c.in-StartList.stores.items) in
    let is : statement_tree c.args.statement.now ≡ seen = search (rules, of_statement.the_lemmas) in
    let pushed : List InitStore → List Item = λ stores. (machine.OnObject c.in-StartList.at c.in-StartList.local machine.Clear ∷ spec.all_stored c.in-StartList.at c.in-StartList.local (map store_tree stores)) ++ s.items in
    goes_on c.push_start_list.result (standing u c.push_start_list.new.control.items).items (pushed c.as_slice.result.now) (whole (statement_tree c.args.statement.now))
    (ap pushed c.as_slice.ensures.value ∙ ap whole (sym is)) (c.push_start_list.ensures u)

pub returns-in-Block : goal.returns-in-Block
returns-in-Block c = λ u.
    let s = standing u c.args.control.now.items in
    let whole : StatementTree → List Item = λ x. spec.of_statement u c.args.is_entry x ++ s.items in
    let seen = tree.Block c.in-Block.objects.items (statement_trees (map statement_tree c.in-Block.statements.items)) in
    let is : statement_tree c.args.statement.now ≡ seen = search (rules, of_statement.the_lemmas) in
    let pushed : List ℕ → List Item → List Item = λ objects items. (machine.Enters objects ∷ (items ++ machine.Leaves objects ∷ [])) ++ s.items in
    let listed : List CheckedStatement → List Item = λ statements. list_statements (map statement_tree statements) in
    goes_on c.push_block.result (standing u c.push_block.new.control.items).items (pushed c.as_slice-in-Block.result.now (listed c.as_slice-in-Block-2.result.now)) (whole (statement_tree c.args.statement.now))
    (ap (λ objects. pushed objects (listed c.as_slice-in-Block-2.result.now)) c.as_slice-in-Block.ensures.value
    ∙ ap (λ statements. pushed c.in-Block.objects.items (listed statements)) c.as_slice-in-Block-2.ensures.value
    ∙ ap (pushed c.in-Block.objects.items) (sym (same_statements (map statement_tree c.in-Block.statements.items))) ∙ ap whole (sym is)) (c.push_block.ensures u)

pub returns-in-If : goal.returns-in-If
returns-in-If c = λ u.
    let s = standing u c.args.control.now.items in
    let whole : StatementTree → List Item = λ x. spec.of_statement u c.args.is_entry x ++ s.items in
    let seen = tree.If (term_tree c.in-If.condition) (statement_tree c.deref.result.now) in
    let is : statement_tree c.args.statement.now ≡ seen = search (rules, of_statement.the_lemmas) in
    goes_on c.push_if.result (standing u c.push_if.new.control.items).items (whole seen) (whole (statement_tree c.args.statement.now)) (ap whole (sym is)) (c.push_if.ensures u)

pub returns-in-IfElse : goal.returns-in-IfElse
returns-in-IfElse c = λ u.
    let s = standing u c.args.control.now.items in
    let whole : StatementTree → List Item = λ x. spec.of_statement u c.args.is_entry x ++ s.items in
    let seen = tree.IfElse (term_tree c.in-IfElse.condition) (statement_tree c.deref-in-IfElse.result.now) (statement_tree c.deref-in-IfElse-2.result.now) in
    let is : statement_tree c.args.statement.now ≡ seen = search (rules, of_statement.the_lemmas) in
    goes_on c.push_if_else.result (standing u c.push_if_else.new.control.items).items (whole seen) (whole (statement_tree c.args.statement.now)) (ap whole (sym is)) (c.push_if_else.ensures u)

pub returns-in-While : goal.returns-in-While
returns-in-While c = λ u.
    let s = standing u c.args.control.now.items in
    let whole : StatementTree → List Item = λ x. spec.of_statement u c.args.is_entry x ++ s.items in
    let seen = tree.While (term_tree c.in-While.field-0) (statement_tree c.in-While.field-1.value) in
    let is : statement_tree c.args.statement.now ≡ seen = search (rules, of_statement.the_lemmas) in
    let pushed : StatementTree → List Item = λ x. (loop_item x ∷ (machine.LoopEnd ∷ [])) ++ s.items in
    goes_on c.push_looped.result (standing u c.push_looped.new.control.items).items (pushed (statement_tree c.args.statement.now)) (whole (statement_tree c.args.statement.now)) (ap pushed is ∙ ap whole (sym is)) (c.push_looped.ensures u)

pub returns-in-Do : goal.returns-in-Do
returns-in-Do c = λ u.
    let s = standing u c.args.control.now.items in
    let whole : StatementTree → List Item = λ x. spec.of_statement u c.args.is_entry x ++ s.items in
    let seen = tree.Do (statement_tree c.in-Do.field-0.value) (term_tree c.in-Do.field-1) in
    let is : statement_tree c.args.statement.now ≡ seen = search (rules, of_statement.the_lemmas) in
    let pushed : StatementTree → List Item = λ x. (loop_item x ∷ (machine.LoopEnd ∷ [])) ++ s.items in
    goes_on c.push_looped-in-Do.result (standing u c.push_looped-in-Do.new.control.items).items (pushed (statement_tree c.args.statement.now)) (whole (statement_tree c.args.statement.now)) (ap pushed is ∙ ap whole (sym is)) (c.push_looped-in-Do.ensures u)

pub returns-in-For : goal.returns-in-For
returns-in-For c = λ u.
    let s = standing u c.args.control.now.items in
    let whole : StatementTree → List Item = λ x. spec.of_statement u c.args.is_entry x ++ s.items in
    let seen = tree.For c.in-For.objects.items (statement_trees (map statement_tree c.in-For.first.items)) (option_map term_tree c.in-For.field-2) (option_map term_tree c.in-For.field-3) (statement_tree c.in-For.field-4.value) in
    let is : statement_tree c.args.statement.now ≡ seen = search (rules, of_statement.the_lemmas) in
    let pushed : List ℕ → List Item → StatementTree → List Item = λ objects items x. (machine.Enters objects ∷ (items ++ (loop_item x ∷ (machine.LoopEnd ∷ (machine.Leaves objects ∷ []))))) ++ s.items in
    let listed : List CheckedStatement → List Item = λ statements. list_statements (map statement_tree statements) in
    goes_on c.push_for.result (standing u c.push_for.new.control.items).items (pushed c.as_slice-in-For.result.now (listed c.as_slice-in-For-2.result.now) (statement_tree c.args.statement.now)) (whole (statement_tree c.args.statement.now))
    (ap (λ objects. pushed objects (listed c.as_slice-in-For-2.result.now) (statement_tree c.args.statement.now)) c.as_slice-in-For.ensures.value
    ∙ ap (λ statements. pushed c.in-For.objects.items (listed statements) (statement_tree c.args.statement.now)) c.as_slice-in-For-2.ensures.value
    ∙ ap (λ items. pushed c.in-For.objects.items items (statement_tree c.args.statement.now)) (sym (same_statements (map statement_tree c.in-For.first.items)))
    ∙ ap (pushed c.in-For.objects.items (spec.statements (statement_trees (map statement_tree c.in-For.first.items)))) is ∙ ap whole (sym is)) (c.push_for.ensures u)

pub returns-in-Switch : goal.returns-in-Switch
returns-in-Switch c = λ u.
    let s = standing u c.args.control.now.items in
    let whole : StatementTree → List Item = λ x. spec.of_statement u c.args.is_entry x ++ s.items in
    let seen = tree.Switch c.in-Switch.field-0 (term_tree c.in-Switch.value) c.in-Switch.field-2.items c.in-Switch.field-3 (option_map (λ (v : Vec ℤ Global). v.items) c.in-Switch.field-4) (statement_tree c.in-Switch.field-5.value) in
    let is : statement_tree c.args.statement.now ≡ seen = search (rules, of_statement.the_lemmas) in
    let pushed : StatementTree → List Item = λ x. (machine.Value (term_tree c.in-Switch.value) ∷ (select_item x ∷ (machine.LoopEnd ∷ []))) ++ s.items in
    goes_on c.push_switch.result (standing u c.push_switch.new.control.items).items (pushed (statement_tree c.args.statement.now)) (whole (statement_tree c.args.statement.now)) (ap pushed is ∙ ap whole (sym is)) (c.push_switch.ensures u)

pub returns-in-Case : goal.returns-in-Case
returns-in-Case c = λ u.
    let s = standing u c.args.control.now.items in
    let whole : StatementTree → List Item = λ x. spec.of_statement u c.args.is_entry x ++ s.items in
    let seen = tree.Case c.in-Case.field-0 (statement_tree c.deref-in-Case.result.now) in
    let is : statement_tree c.args.statement.now ≡ seen = search (rules, of_statement.the_lemmas) in
    goes_on c.push_whole.result (standing u c.push_whole.new.control.items).items (whole seen) (whole (statement_tree c.args.statement.now)) (ap whole (sym is)) (c.push_whole.ensures u)

pub returns-in-Default : goal.returns-in-Default
returns-in-Default c = λ u.
    let s = standing u c.args.control.now.items in
    let whole : StatementTree → List Item = λ x. spec.of_statement u c.args.is_entry x ++ s.items in
    let seen = tree.Default (statement_tree c.deref-in-Default.result.now) in
    let is : statement_tree c.args.statement.now ≡ seen = search (rules, of_statement.the_lemmas) in
    goes_on c.push_whole-in-Default.result (standing u c.push_whole-in-Default.new.control.items).items (whole seen) (whole (statement_tree c.args.statement.now)) (ap whole (sym is)) (c.push_whole-in-Default.ensures u)

pub returns-in-Label : goal.returns-in-Label
returns-in-Label c = λ u.
    let s = standing u c.args.control.now.items in
    let whole : StatementTree → List Item = λ x. spec.of_statement u c.args.is_entry x ++ s.items in
    let seen = tree.Label c.in-Label.field-0 (statement_tree c.deref-in-Label.result.now) in
    let is : statement_tree c.args.statement.now ≡ seen = search (rules, of_statement.the_lemmas) in
    goes_on c.push_whole-in-Label.result (standing u c.push_whole-in-Label.new.control.items).items (whole seen) (whole (statement_tree c.args.statement.now)) (ap whole (sym is)) (c.push_whole-in-Label.ensures u)

pub returns-in-Goto : goal.returns-in-Goto
returns-in-Goto c = λ u.
    let s = standing u c.args.control.now.items in
    let whole : StatementTree → List Item = λ x. spec.of_statement u c.args.is_entry x ++ s.items in
    let seen = tree.Goto c.in-Goto.label in
    let is : statement_tree c.args.statement.now ≡ seen = search (rules, of_statement.the_lemmas) in
    items_go_on c.push_item-in-Goto.result (standing u c.push_item-in-Goto.new.control.items) (with_item (machine.GoTo c.in-Goto.label) s) (whole (statement_tree c.args.statement.now)) (ap whole (sym is)) (c.push_item-in-Goto.ensures u)

pub returns-in-Break : goal.returns-in-Break
returns-in-Break c = λ u.
    let s = standing u c.args.control.now.items in
    let whole : StatementTree → List Item = λ x. spec.of_statement u c.args.is_entry x ++ s.items in
    let seen = tree.Break in
    let is : statement_tree c.args.statement.now ≡ seen = search (rules, of_statement.the_lemmas) in
    items_go_on c.push_item-in-Break.result (standing u c.push_item-in-Break.new.control.items) (with_item (machine.BreakOut) s) (whole (statement_tree c.args.statement.now)) (ap whole (sym is)) (c.push_item-in-Break.ensures u)

pub returns-in-Continue : goal.returns-in-Continue
returns-in-Continue c = λ u.
    let s = standing u c.args.control.now.items in
    let whole : StatementTree → List Item = λ x. spec.of_statement u c.args.is_entry x ++ s.items in
    let seen = tree.Continue in
    let is : statement_tree c.args.statement.now ≡ seen = search (rules, of_statement.the_lemmas) in
    items_go_on c.push_item-in-Continue.result (standing u c.push_item-in-Continue.new.control.items) (with_item (machine.NextIteration) s) (whole (statement_tree c.args.statement.now)) (ap whole (sym is)) (c.push_item-in-Continue.ensures u)

pub returns-in-Return : goal.returns-in-Return
returns-in-Return c = λ u.
    let s = standing u c.args.control.now.items in
    let whole : StatementTree → List Item = λ x. spec.of_statement u c.args.is_entry x ++ s.items in
    let seen = tree.Return c.in-Return.at (option_map term_tree c.in-Return.value) in
    let is : statement_tree c.args.statement.now ≡ seen = search (rules, of_statement.the_lemmas) in
    goes_on c.push_return.result (standing u c.push_return.new.control.items).items (whole seen) (whole (statement_tree c.args.statement.now)) (ap whole (sym is)) (c.push_return.ensures u)
