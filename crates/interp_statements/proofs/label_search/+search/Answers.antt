use Rattle.std.proofs.Common.{rules, ◌≡◌, ◌+◌, ◌||◌, ◌&&◌, ℤ, Bool, true, false, ◌∷◌, ◌++◌, is_some, drop, map, Vec, Global, ap, sym, ◌∙◌}
use Rattle.std.specs.Option.{option_map}
use Rattle.c_layout.specs.CheckedTrees as tree
use Rattle.c_layout.specs.CheckedTrees.{StatementTree, term_tree, lvalue_tree, statement_tree, statement_trees, store_tree}
use Rattle.c_layout.specs.declared.checked_tree.checked_statements.CheckedStatement as of_statement
use Rattle.semantics.specs.SourceMachine.Items as machine
use Rattle.semantics.specs.SourceMachine.StatementItems.{do_test, for_step, list_statements}
use Rattle.semantics.specs.SourceMachine.LabelSearch.{found, found_among, is_label, is_case, is_other}
use Rattle.interp_statements.specs.LabelViews.{sought_view}
use Rattle.interp_statements.proofs.Labels.{some_first, some_here, some_inside, same_found, among_at}
use Rattle.interp_statements.proofs.label_search.+search.Goals as goal

pub is_in-returns-in-Value : goal.is_in-returns-in-Value
unfolding found
is_in-returns-in-Value t c = λ u rest.
    let l = sought_view c.args.sought in
    let whole : StatementTree → Bool = λ x. is_some (found u l x rest) in
    let seen = tree.Value (term_tree c.in-Value.field-0) in
    let is : statement_tree c.args.statement.now ≡ seen = search (rules, of_statement.the_lemmas) in
    ap whole (sym is)

pub is_in-returns-in-Nothing : goal.is_in-returns-in-Nothing
unfolding found
is_in-returns-in-Nothing t c = λ u rest.
    let l = sought_view c.args.sought in
    let whole : StatementTree → Bool = λ x. is_some (found u l x rest) in
    let seen = tree.Nothing in
    let is : statement_tree c.args.statement.now ≡ seen = search (rules, of_statement.the_lemmas) in
    ap whole (sym is)

pub is_in-returns-in-Forget : goal.is_in-returns-in-Forget
unfolding found
is_in-returns-in-Forget t c = λ u rest.
    let l = sought_view c.args.sought in
    let whole : StatementTree → Bool = λ x. is_some (found u l x rest) in
    let seen = tree.Forget c.in-Forget.field-0 c.in-Forget.field-1 in
    let is : statement_tree c.args.statement.now ≡ seen = search (rules, of_statement.the_lemmas) in
    ap whole (sym is)

pub is_in-returns-in-Start : goal.is_in-returns-in-Start
unfolding found
is_in-returns-in-Start t c = λ u rest.
    let l = sought_view c.args.sought in
    let whole : StatementTree → Bool = λ x. is_some (found u l x rest) in
    let seen = tree.Start c.in-Start.field-0 c.in-Start.field-1 (term_tree c.in-Start.field-2) in
    let is : statement_tree c.args.statement.now ≡ seen = search (rules, of_statement.the_lemmas) in
    ap whole (sym is)

pub is_in-returns-in-StartCopy : goal.is_in-returns-in-StartCopy
unfolding found
is_in-returns-in-StartCopy t c = λ u rest.
    let l = sought_view c.args.sought in
    let whole : StatementTree → Bool = λ x. is_some (found u l x rest) in
    let seen = tree.StartCopy c.in-StartCopy.field-0 c.in-StartCopy.field-1 (lvalue_tree c.in-StartCopy.field-2) in
    let is : statement_tree c.args.statement.now ≡ seen = search (rules, of_statement.the_lemmas) in
    ap whole (sym is)

pub is_in-returns-in-StartList : goal.is_in-returns-in-StartList
unfolding found
is_in-returns-in-StartList t c = λ u rest.
    let l = sought_view c.args.sought in
    let whole : StatementTree → Bool = λ x. is_some (found u l x rest) in
    let seen = tree.StartList c.in-StartList.field-0 c.in-StartList.field-1 (map store_tree c.in-StartList.field-2.items) in
    let is : statement_tree c.args.statement.now ≡ seen = search (rules, of_statement.the_lemmas) in
    ap whole (sym is)

pub is_in-returns-in-Goto : goal.is_in-returns-in-Goto
unfolding found
is_in-returns-in-Goto t c = λ u rest.
    let l = sought_view c.args.sought in
    let whole : StatementTree → Bool = λ x. is_some (found u l x rest) in
    let seen = tree.Goto c.in-Goto.field-0 in
    let is : statement_tree c.args.statement.now ≡ seen = search (rules, of_statement.the_lemmas) in
    ap whole (sym is)

pub is_in-returns-in-Break : goal.is_in-returns-in-Break
unfolding found
is_in-returns-in-Break t c = λ u rest.
    let l = sought_view c.args.sought in
    let whole : StatementTree → Bool = λ x. is_some (found u l x rest) in
    let seen = tree.Break in
    let is : statement_tree c.args.statement.now ≡ seen = search (rules, of_statement.the_lemmas) in
    ap whole (sym is)

pub is_in-returns-in-Continue : goal.is_in-returns-in-Continue
unfolding found
is_in-returns-in-Continue t c = λ u rest.
    let l = sought_view c.args.sought in
    let whole : StatementTree → Bool = λ x. is_some (found u l x rest) in
    let seen = tree.Continue in
    let is : statement_tree c.args.statement.now ≡ seen = search (rules, of_statement.the_lemmas) in
    ap whole (sym is)

pub is_in-returns-in-Return : goal.is_in-returns-in-Return
unfolding found
is_in-returns-in-Return t c = λ u rest.
    let l = sought_view c.args.sought in
    let whole : StatementTree → Bool = λ x. is_some (found u l x rest) in
    let seen = tree.Return c.in-Return.field-0 (option_map term_tree c.in-Return.field-1) in
    let is : statement_tree c.args.statement.now ≡ seen = search (rules, of_statement.the_lemmas) in
    ap whole (sym is)

pub is_in-returns-in-Block : goal.is_in-returns-in-Block
unfolding found
is_in-returns-in-Block t c = λ u rest.
    let l = sought_view c.args.sought in
    let whole : StatementTree → Bool = λ x. is_some (found u l x rest) in
    let seen = tree.Block c.in-Block.field-0.items (statement_trees (map statement_tree c.in-Block.statements.items)) in
    let is : statement_tree c.args.statement.now ≡ seen = search (rules, of_statement.the_lemmas) in
    let after = machine.Leaves c.in-Block.field-0.items ∷ rest in
    c.is_in_any.ensures u after
    ∙ ap (λ xs. is_some (found_among u l (map statement_tree xs) after)) c.as_slice.ensures.value
    ∙ ap is_some (sym (same_found u l (map statement_tree c.in-Block.statements.items) after)) ∙ ap whole (sym is)

pub is_in-returns-in-If : goal.is_in-returns-in-If
unfolding found
is_in-returns-in-If t c = λ u rest.
    let l = sought_view c.args.sought in
    let whole : StatementTree → Bool = λ x. is_some (found u l x rest) in
    let seen = tree.If (term_tree c.in-If.field-0) (statement_tree c.deref.result.now) in
    let is : statement_tree c.args.statement.now ≡ seen = search (rules, of_statement.the_lemmas) in
    c.is_in.ensures u rest ∙ ap whole (sym is)

pub is_in-returns-in-While : goal.is_in-returns-in-While
unfolding found
is_in-returns-in-While t c = λ u rest.
    let l = sought_view c.args.sought in
    let whole : StatementTree → Bool = λ x. is_some (found u l x rest) in
    let seen = tree.While (term_tree c.in-While.field-0) (statement_tree c.deref-in-While.result.now) in
    let is : statement_tree c.args.statement.now ≡ seen = search (rules, of_statement.the_lemmas) in
    c.is_in-in-While.ensures u (machine.Hop ∷ (machine.IterationEnd ∷ (machine.WhileIteration (term_tree c.in-While.field-0) (statement_tree c.deref-in-While.result.now) ∷ (machine.LoopEnd ∷ rest)))) ∙ ap whole (sym is)

pub is_in-returns-in-Do : goal.is_in-returns-in-Do
unfolding found
is_in-returns-in-Do t c = λ u rest.
    let l = sought_view c.args.sought in
    let whole : StatementTree → Bool = λ x. is_some (found u l x rest) in
    let seen = tree.Do (statement_tree c.deref-in-Do.result.now) (term_tree c.in-Do.field-1) in
    let is : statement_tree c.args.statement.now ≡ seen = search (rules, of_statement.the_lemmas) in
    c.is_in-in-Do.ensures u (do_test u (statement_tree c.deref-in-Do.result.now) (term_tree c.in-Do.field-1) ++ machine.LoopEnd ∷ rest) ∙ ap whole (sym is)

pub is_in-returns-in-For : goal.is_in-returns-in-For
unfolding found
is_in-returns-in-For t c = λ u rest.
    let l = sought_view c.args.sought in
    let whole : StatementTree → Bool = λ x. is_some (found u l x rest) in
    let seen = tree.For c.in-For.field-0.items (statement_trees (map statement_tree c.in-For.field-1.items)) (option_map term_tree c.in-For.field-2) (option_map term_tree c.in-For.field-3) (statement_tree c.deref-in-For.result.now) in
    let is : statement_tree c.args.statement.now ≡ seen = search (rules, of_statement.the_lemmas) in
    c.is_in-in-For.ensures u (for_step (option_map term_tree c.in-For.field-2) (option_map term_tree c.in-For.field-3) (statement_tree c.deref-in-For.result.now) ++ (machine.LoopEnd ∷ (machine.Leaves c.in-For.field-0.items ∷ rest))) ∙ ap whole (sym is)

pub is_in-returns-then-is_in : goal.is_in-returns-then-is_in
unfolding found
is_in-returns-then-is_in t c = λ u rest.
    let l = sought_view c.args.sought in
    let whole : StatementTree → Bool = λ x. is_some (found u l x rest) in
    let one = found u l (statement_tree c.deref-in-IfElse.result.now) (machine.Hop ∷ rest) in
    let two = found u l (statement_tree c.in-IfElse.second.value) rest in
    let seen = tree.IfElse (term_tree c.in-IfElse.field-0) (statement_tree c.deref-in-IfElse.result.now) (statement_tree c.in-IfElse.second.value) in
    let is : statement_tree c.args.statement.now ≡ seen = search (rules, of_statement.the_lemmas) in
    c.if-is_in.true
    ∙ ap (λ here. here || is_some two) (sym c.if-is_in.true ∙ c.is_in-in-IfElse.ensures u (machine.Hop ∷ rest))
    ∙ sym (some_first one two)
    ∙ ap whole (sym is)

pub is_in-returns-else-is_in : goal.is_in-returns-else-is_in
unfolding found
is_in-returns-else-is_in t c = λ u rest.
    let l = sought_view c.args.sought in
    let whole : StatementTree → Bool = λ x. is_some (found u l x rest) in
    let one = found u l (statement_tree c.deref-in-IfElse.result.now) (machine.Hop ∷ rest) in
    let two = found u l (statement_tree c.deref-else-is_in.result.now) rest in
    let seen = tree.IfElse (term_tree c.in-IfElse.field-0) (statement_tree c.deref-in-IfElse.result.now) (statement_tree c.deref-else-is_in.result.now) in
    let is : statement_tree c.args.statement.now ≡ seen = search (rules, of_statement.the_lemmas) in
    c.is_in-else-is_in.ensures u rest
    ∙ ap (λ here. here || is_some two) (sym c.if-is_in.false ∙ c.is_in-in-IfElse.ensures u (machine.Hop ∷ rest))
    ∙ sym (some_first one two)
    ∙ ap whole (sym is)

pub is_in-returns-then-looks_into_switches : goal.is_in-returns-then-looks_into_switches
unfolding found
is_in-returns-then-looks_into_switches t c = λ u rest.
    let l = sought_view c.args.sought in
    let whole : StatementTree → Bool = λ x. is_some (found u l x rest) in
    let one = found u l (statement_tree c.deref-then-looks_into_switches.result.now) (machine.LoopEnd ∷ rest) in
    let seen = tree.Switch c.in-Switch.field-0 (term_tree c.in-Switch.field-1) c.in-Switch.field-2.items c.in-Switch.field-3 (option_map (λ (v : Vec ℤ Global). v.items) c.in-Switch.field-4) (statement_tree c.deref-then-looks_into_switches.result.now) in
    let is : statement_tree c.args.statement.now ≡ seen = search (rules, of_statement.the_lemmas) in
    c.is_in-then-looks_into_switches.ensures u (machine.LoopEnd ∷ rest)
    ∙ ap (λ looks. looks && is_some one) (sym c.if-looks_into_switches.true ∙ c.looks_into_switches.ensures)
    ∙ sym (some_inside l one)
    ∙ ap whole (sym is)

pub is_in-returns-else-looks_into_switches : goal.is_in-returns-else-looks_into_switches
unfolding found
is_in-returns-else-looks_into_switches t c = λ u rest.
    let l = sought_view c.args.sought in
    let whole : StatementTree → Bool = λ x. is_some (found u l x rest) in
    let one = found u l (statement_tree c.in-Switch.body.value) (machine.LoopEnd ∷ rest) in
    let seen = tree.Switch c.in-Switch.field-0 (term_tree c.in-Switch.field-1) c.in-Switch.field-2.items c.in-Switch.field-3 (option_map (λ (v : Vec ℤ Global). v.items) c.in-Switch.field-4) (statement_tree c.in-Switch.body.value) in
    let is : statement_tree c.args.statement.now ≡ seen = search (rules, of_statement.the_lemmas) in
    c.if-looks_into_switches.false
    ∙ ap (λ looks. looks && is_some one) (sym c.if-looks_into_switches.false ∙ c.looks_into_switches.ensures)
    ∙ sym (some_inside l one)
    ∙ ap whole (sym is)

pub is_in-returns-then-is_case : goal.is_in-returns-then-is_case
unfolding found
is_in-returns-then-is_case t c = λ u rest.
    let l = sought_view c.args.sought in
    let whole : StatementTree → Bool = λ x. is_some (found u l x rest) in
    let body = statement_tree c.in-Case.body.value in
    let later = found u l body rest in
    let seen = tree.Case c.in-Case.n body in
    let is : statement_tree c.args.statement.now ≡ seen = search (rules, of_statement.the_lemmas) in
    c.if-is_case.true
    ∙ ap (λ here. here || is_some later) (sym c.if-is_case.true ∙ c.is_case.ensures)
    ∙ sym (some_here (is_case l c.in-Case.n) (machine.Statement body ∷ rest) later)
    ∙ ap whole (sym is)

pub is_in-returns-else-is_case : goal.is_in-returns-else-is_case
unfolding found
is_in-returns-else-is_case t c = λ u rest.
    let l = sought_view c.args.sought in
    let whole : StatementTree → Bool = λ x. is_some (found u l x rest) in
    let body = statement_tree c.deref-else-is_case.result.now in
    let later = found u l body rest in
    let seen = tree.Case c.in-Case.n body in
    let is : statement_tree c.args.statement.now ≡ seen = search (rules, of_statement.the_lemmas) in
    c.is_in-else-is_case.ensures u rest
    ∙ ap (λ here. here || is_some later) (sym c.if-is_case.false ∙ c.is_case.ensures)
    ∙ sym (some_here (is_case l c.in-Case.n) (machine.Statement body ∷ rest) later)
    ∙ ap whole (sym is)

pub is_in-returns-then-is_other : goal.is_in-returns-then-is_other
unfolding found
is_in-returns-then-is_other t c = λ u rest.
    let l = sought_view c.args.sought in
    let whole : StatementTree → Bool = λ x. is_some (found u l x rest) in
    let body = statement_tree c.in-Default.body.value in
    let later = found u l body rest in
    let seen = tree.Default body in
    let is : statement_tree c.args.statement.now ≡ seen = search (rules, of_statement.the_lemmas) in
    c.if-is_other.true
    ∙ ap (λ here. here || is_some later) (sym c.if-is_other.true ∙ c.is_other.ensures)
    ∙ sym (some_here (is_other l) (machine.Statement body ∷ rest) later)
    ∙ ap whole (sym is)

pub is_in-returns-else-is_other : goal.is_in-returns-else-is_other
unfolding found
is_in-returns-else-is_other t c = λ u rest.
    let l = sought_view c.args.sought in
    let whole : StatementTree → Bool = λ x. is_some (found u l x rest) in
    let body = statement_tree c.deref-else-is_other.result.now in
    let later = found u l body rest in
    let seen = tree.Default body in
    let is : statement_tree c.args.statement.now ≡ seen = search (rules, of_statement.the_lemmas) in
    c.is_in-else-is_other.ensures u rest
    ∙ ap (λ here. here || is_some later) (sym c.if-is_other.false ∙ c.is_other.ensures)
    ∙ sym (some_here (is_other l) (machine.Statement body ∷ rest) later)
    ∙ ap whole (sym is)

pub is_in-returns-then-is_label : goal.is_in-returns-then-is_label
unfolding found
is_in-returns-then-is_label t c = λ u rest.
    let l = sought_view c.args.sought in
    let whole : StatementTree → Bool = λ x. is_some (found u l x rest) in
    let body = statement_tree c.in-Label.body.value in
    let later = found u l body rest in
    let seen = tree.Label c.in-Label.n body in
    let is : statement_tree c.args.statement.now ≡ seen = search (rules, of_statement.the_lemmas) in
    c.if-is_label.true
    ∙ ap (λ here. here || is_some later) (sym c.if-is_label.true ∙ c.is_label.ensures)
    ∙ sym (some_here (is_label l c.in-Label.n) (machine.Statement body ∷ rest) later)
    ∙ ap whole (sym is)

pub is_in-returns-else-is_label : goal.is_in-returns-else-is_label
unfolding found
is_in-returns-else-is_label t c = λ u rest.
    let l = sought_view c.args.sought in
    let whole : StatementTree → Bool = λ x. is_some (found u l x rest) in
    let body = statement_tree c.deref-else-is_label.result.now in
    let later = found u l body rest in
    let seen = tree.Label c.in-Label.n body in
    let is : statement_tree c.args.statement.now ≡ seen = search (rules, of_statement.the_lemmas) in
    c.is_in-else-is_label.ensures u rest
    ∙ ap (λ here. here || is_some later) (sym c.if-is_label.false ∙ c.is_label.ensures)
    ∙ sym (some_here (is_label l c.in-Label.n) (machine.Statement body ∷ rest) later)
    ∙ ap whole (sym is)

pub is_in_any-returns-then-is_in : goal.is_in_any-returns-then-is_in
is_in_any-returns-then-is_in t c = λ u after.
    let l = sought_view c.args.sought in
    let all = c.args.statements.now in
    let k = c.loop-statement.statement-index in
    let later = map statement_tree (drop (k + 1) all) in
    let here : true ≡ is_some (found u l (statement_tree c.statement-item.result) (list_statements later ++ after)) = sym c.if-is_in.true ∙ c.is_in.ensures u (list_statements later ++ after) in
    ap (λ one. one || is_some (found_among u l later after)) here
    ∙ sym (among_at u l all k c.statement-item.result after c.loop-statement-test.true c.statement-item.is)
    ∙ c.loop-statement.invariant u after

pub is_in_any-loop-statement-preserved : goal.is_in_any-loop-statement-preserved
is_in_any-loop-statement-preserved t c = λ u after.
    let l = sought_view c.args.sought in
    let all = c.args.statements.now in
    let k = c.loop-statement.statement-index in
    let later = map statement_tree (drop (k + 1) all) in
    let here : false ≡ is_some (found u l (statement_tree c.statement-item.result) (list_statements later ++ after)) = sym c.if-is_in.false ∙ c.is_in.ensures u (list_statements later ++ after) in
    ap (λ one. one || is_some (found_among u l later after)) here
    ∙ sym (among_at u l all k c.statement-item.result after c.loop-statement-test.true c.statement-item.is)
    ∙ c.loop-statement.invariant u after
