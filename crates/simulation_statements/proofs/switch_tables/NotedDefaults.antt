-- The default label of a switch is noted where it stands, or the switch has none.
use Rattle.std.proofs.Common.{◌≡◌, ◌≤◌, ◌<◌, ℕ, suc, ◌+◌, List, length, get_or, Option, Some, None, slice_get, refl, arith, ap, sym, subst, ◌∙◌}
use Rattle.std.proofs.lemmas.List.{get_or-set_same}
use Rattle.std.proofs.lemmas.Option.{slice_get-get_or}
use Rattle.c_layout.specs.CheckedTrees as tree
use Rattle.c_layout.specs.CheckedTrees.{StatementTree, StatementTrees}
use Rattle.c_layout.specs.CheckedUnits.{UnitView, FunctionView}
use Rattle.lower_template_theorems.specs.PendingLabels.Marks.{defaults_in, all_defaults_in}
use Rattle.lower_functions.specs.Statements.Switches.{no_choice}
use Rattle.lower_templates.specs.Worklist.Scopes.{TreeView, with_new_scope, with_choice, with_case, with_default, with_label, scoped, all_scoped, default_noted, default_noted_at}
use Rattle.lower_templates.specs.declared.worklist.scope_trees.Choice.{Choice}
use Rattle.semantics.specs.SourceMachine.LabelSearch as sought
use Rattle.simulation_statements.specs.Labels.LabelScopes.{either, stands_in, all_stand_in}
use Rattle.simulation_terms.specs.Scopes.Scopes.{scopes_in, all_scopes_in, switches_in, all_switches_in}
use Rattle.simulation_terms.specs.Scopes.SuitedStatements.{Enclosure, by_loop, SuitsIn, AllSuitIn}
use Rattle.simulation_terms.proofs.scopes.ScopeTrees.{scoped_more, all_more, length_new, length_more}
use Rattle.simulation_statements.proofs.switch_tables.CountedLabels.{default_counted, all_default_counted, plains_defaults}
use Rattle.simulation_statements.proofs.switch_tables.GrownTrees.{choice_in, grown, all_grown, case_grown, default_grown, choice_grown, scope_grown, label_grown}
use Rattle.simulation_statements.proofs.switch_tables.KeptNotes.{choice_kept, all_choice_kept, scope_choices, label_choices, case_choices, new_length, new_choice, just_below}
use Rattle.simulation_statements.proofs.switch_tables.NotedCases.{case_scopes, default_scopes, label_scopes}

first_once : (a b : ℕ) → a + b ≤ 1 → a ≤ 1
first_once a b e = omega (arith, e)

second_once : (a b : ℕ) → a + b ≤ 1 → b ≤ 1
second_once a b e = omega (arith, e)

further : (c b a d : ℕ) → c < b → d ≡ b + a → c < d
further c b a d less e = omega (arith, less, e)

none_some : (a : ℕ) → a ≡ 0 → 1 ≤ a → ⊥
none_some a e f = omega (arith, e, f)

beyond : (q a : ℕ) → q < a → q ≡ a → ⊥
beyond q a less e = omega (arith, less, e)

one_is_one : 1 ≤ 1
one_is_one = omega arith

-- in one of two parts at most
either_fallback : (a b : ℕ) (x y before middle last : Option ℕ) → a + b ≤ 1 → ((j : ℕ) → x ≡ Some j → 1 ≤ a) → ((j : ℕ) → y ≡ Some j → 1 ≤ b) → middle ≡ either x before → last ≡ either y middle → last ≡ either (either x y) before
either_fallback a b None y before middle last once one other here there = there ∙ ap (λ o. either y o) here
either_fallback a b (Some j) None before middle last once one other here there = there ∙ here
either_fallback a b (Some j) (Some i) before middle last once one other here there = absurd (both a b once (one j refl) (other i refl))
  where
    both : (a b : ℕ) → a + b ≤ 1 → 1 ≤ a → 1 ≤ b → ⊥
    both a b once x y = omega (arith, once, x, y)

-- the default label of a switch that is there
noted_here : (o : Option Choice) (c k : ℕ) (choices : List Choice) (x : Choice) → o ≡ Some x → c < length choices → (get_or (default_noted_at o c k choices) c no_choice).fallback ≡ Some k
noted_here None c k choices x is less = absurd (never x is)
  where
    never : (x : Choice) → None ≡ Some x → ⊥
    never x e = cc
noted_here (Some y) c k choices x is less = ap (λ (z : Choice). z.fallback) (get_or-set_same choices c (default_noted y k) no_choice less)

default_here : (c k : ℕ) (t : TreeView) → c < length t.choices → (choice_in (with_default c k t) c).fallback ≡ Some k
unfolding with_default
default_here c k t less = noted_here (slice_get t.choices c) c k t.choices (choice_in t c) (slice_get-get_or t.choices c no_choice less) less

module _ (u : UnitView) (f : FunctionView) where
  mutual
    pub default_noted_in : (i : StatementTree) (enclosed : Enclosure) (known : List ℕ) → SuitsIn u f enclosed known i → (k c : ℕ) (t : TreeView) → c < length t.choices → defaults_in i ≤ 1 → (choice_in (scoped i k c t) c).fallback ≡ either (stands_in sought.other i k (length t.scopes)) (choice_in t c).fallback
    default_noted_in (tree.Block objects items) enclosed known suits k c t there once =
        let o = with_new_scope k objects t in
        all_default_noted items enclosed _ suits.1 (length t.scopes) c o (further c (length t.choices) 0 (length o.choices) there (scope_grown k objects t).choices) once
        ∙ ap (λ m. either (all_stand_in sought.other items (length t.scopes) m) (choice_in o c).fallback) (length_new k objects t)
        ∙ ap (λ xs. either (all_stand_in sought.other items (length t.scopes) (suc (length t.scopes))) (get_or xs c no_choice).fallback) (scope_choices k objects t)
    default_noted_in (tree.If e body) enclosed known suits k c t there once = default_noted_in body enclosed known suits.1 k c t there once
    default_noted_in (tree.IfElse e first second) enclosed known suits k c t there once =
        let v = scoped first k c t in
        let scopes = length_more (scopes_in first) t v (scoped_more first k c t) in
        either_fallback (defaults_in first) (defaults_in second) (stands_in sought.other first k (length t.scopes)) (stands_in sought.other second k (length t.scopes + scopes_in first)) (choice_in t c).fallback (choice_in v c).fallback _ once
        (λ j e. default_counted first k (length t.scopes) j e) (λ j e. default_counted second k (length t.scopes + scopes_in first) j e)
        (default_noted_in first enclosed known suits.1 k c t there (first_once (defaults_in first) (defaults_in second) once))
        (default_noted_in second enclosed known suits.2 k c v (further c (length t.choices) (switches_in first) (length v.choices) there (grown first k c t).choices) (second_once (defaults_in first) (defaults_in second) once) ∙ ap (λ m. either (stands_in sought.other second k m) (choice_in v c).fallback) scopes)
    default_noted_in (tree.While e body) enclosed known suits k c t there once = default_noted_in body by_loop known suits.1 k c t there once
    default_noted_in (tree.Do body e) enclosed known suits k c t there once = default_noted_in body by_loop known suits.0 k c t there once
    default_noted_in (tree.For objects first e step body) enclosed known suits k c t there once =
        let outer = length t.scopes in
        let o = with_new_scope k objects t in
        let v = all_scoped first outer c o in
        let none = plains_defaults first suits.5 in
        let there_o = further c (length t.choices) 0 (length o.choices) there (scope_grown k objects t).choices in
        let scopes = length_more (all_scopes_in first) o v (all_more first outer c o) ∙ ap (λ m. m + all_scopes_in first) (length_new k objects t) in
        let kept = all_choice_kept c first outer c o there_o (λ some. absurd (none_some (all_defaults_in first) none some)) in
        default_noted_in body by_loop _ suits.4 outer c v (further c (length o.choices) (all_switches_in first) (length v.choices) there_o (all_grown first outer c o).choices) (second_once (all_defaults_in first) (defaults_in body) once)
        ∙ ap (λ m. either (stands_in sought.other body outer m) (choice_in v c).fallback) scopes
        ∙ ap (λ (x : Choice). either (stands_in sought.other body outer (suc outer + all_scopes_in first)) x.fallback) kept
        ∙ ap (λ xs. either (stands_in sought.other body outer (suc outer + all_scopes_in first)) (get_or xs c no_choice).fallback) (scope_choices k objects t)
    default_noted_in (tree.Switch at e labels has_default values body) enclosed known suits k c t there once =
        let count = length labels in
        let o = with_choice count t in
        let is_there : length t.choices < length o.choices = subst (λ m. length t.choices < m) (sym (new_length count t)) (just_below (length t.choices)) in
        ap (λ (x : Choice). x.fallback) (choice_kept c body k (length t.choices) o (further c (length t.choices) 1 (length o.choices) there (choice_grown count t).choices) (λ some. (is_there, beyond c (length t.choices) there)) ∙ new_choice count t c there)
    default_noted_in (tree.Case m body) enclosed known suits k c t there once =
        let o = with_case c m k t in
        default_noted_in body enclosed known suits k c o (further c (length t.choices) 0 (length o.choices) there (case_grown c m k t).choices) once
        ∙ ap (λ n. either (stands_in sought.other body k n) (choice_in o c).fallback) (case_scopes c m k t)
        ∙ ap (λ xs. either (stands_in sought.other body k (length t.scopes)) (get_or xs c no_choice).fallback) (case_choices c m k t)
    default_noted_in (tree.Default body) enclosed known suits k c t there once =
        let o = with_default c k t in
        either_fallback 1 (defaults_in body) (Some k) (stands_in sought.other body k (length t.scopes)) (choice_in t c).fallback (choice_in o c).fallback _ once
        (λ j e. one_is_one) (λ j e. default_counted body k (length t.scopes) j e) (default_here c k t there)
        (default_noted_in body enclosed known suits k c o (further c (length t.choices) 0 (length o.choices) there (default_grown c k t).choices) (second_once 1 (defaults_in body) once) ∙ ap (λ n. either (stands_in sought.other body k n) (choice_in o c).fallback) (default_scopes c k t))
    default_noted_in (tree.Label m body) enclosed known suits k c t there once =
        let o = with_label m k t in
        default_noted_in body enclosed known suits k c o (further c (length t.choices) 0 (length o.choices) there (label_grown m k t).choices) once
        ∙ ap (λ n. either (stands_in sought.other body k n) (choice_in o c).fallback) (label_scopes m k t)
        ∙ ap (λ xs. either (stands_in sought.other body k (length t.scopes)) (get_or xs c no_choice).fallback) (label_choices m k t)
    default_noted_in other enclosed known suits k c t there once = refl

    all_default_noted : (items : StatementTrees) (enclosed : Enclosure) (known : List ℕ) → AllSuitIn u f enclosed known items → (k c : ℕ) (t : TreeView) → c < length t.choices → all_defaults_in items ≤ 1 → (choice_in (all_scoped items k c t) c).fallback ≡ either (all_stand_in sought.other items k (length t.scopes)) (choice_in t c).fallback
    all_default_noted tree.NoMore enclosed known suits k c t there once = refl
    all_default_noted (tree.And first rest) enclosed known suits k c t there once =
        let v = scoped first k c t in
        let scopes = length_more (scopes_in first) t v (scoped_more first k c t) in
        either_fallback (defaults_in first) (all_defaults_in rest) (stands_in sought.other first k (length t.scopes)) (all_stand_in sought.other rest k (length t.scopes + scopes_in first)) (choice_in t c).fallback (choice_in v c).fallback _ once
        (λ j e. default_counted first k (length t.scopes) j e) (λ j e. all_default_counted rest k (length t.scopes + scopes_in first) j e)
        (default_noted_in first enclosed known suits.0 k c t there (first_once (defaults_in first) (all_defaults_in rest) once))
        (all_default_noted rest enclosed known suits.1 k c v (further c (length t.choices) (switches_in first) (length v.choices) there (grown first k c t).choices) (second_once (defaults_in first) (all_defaults_in rest) once) ∙ ap (λ m. either (all_stand_in sought.other rest k m) (choice_in v c).fallback) scopes)
