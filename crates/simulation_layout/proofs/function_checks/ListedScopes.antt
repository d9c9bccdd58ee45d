-- The scopes of a function stand in its tree of scopes as its statements have them, and no object in two of them.
use Rattle.std.proofs.Common.{◌≡◌, ◌<◌, ◌⊎◌, inl, inr, ℕ, zero, suc, ◌+◌, Bool, true, false, List, [], ◌∷◌, ◌++◌, length, map, get_or, Option, Some, None, refl, arith, ap, sym, subst, ◌∙◌, append_assoc}
use Rattle.std.proofs.lemmas.List.{map-append, append-nil}
use Rattle.std.proofs.Math.ListN.{get_or-map}
use Rattle.std.proofs.lemmas.Option.{option_and_then_some}
use Rattle.std.specs.Option.{option_and_then}
use Rattle.c_layout.specs.CheckedTrees as tree
use Rattle.c_layout.specs.CheckedTrees.{StatementTree, StatementTrees, statement_trees}
use Rattle.c_layout.specs.CheckedUnits.{FunctionView}
use Rattle.lower_templates.specs.Worklist.Scopes.{ScopeView, TreeView, no_scope, with_new_scope, with_choice, with_case, with_default, with_label, scoped, all_scoped, no_scopes, function_scopes}
use Rattle.lower_templates.specs.Worklist.Settings.{SettingView}
use Rattle.lower_functions.specs.Statements.ScopeJumps.{objects}
use Rattle.lower_preconditions.specs.Units.ScopeObjects.{all_marked, scopes_marked, all_scopes_marked, parameters_marked, has_own_objects}
use Rattle.semantics.specs.SourceMachine.Scopes.{is_in}
use Rattle.simulation_terms.specs.Scopes.Scopes.{IsScope}
use Rattle.simulation_terms.specs.Scopes.SuitedStatements.{AreNew}
use Rattle.simulation_terms.specs.Scopes.Chains.{AreApart}
use Rattle.simulation_layout.proofs.function_checks.MarkedObjects.{clash, are_new, is_marked, Marks, none, then, marks_all, FunctionMarks, function_marks}

-- ---- lists of objects, scope by scope

abbrev mutual
  lists : StatementTree → List (List ℕ)
  lists (tree.Block objects items) = objects ∷ all_lists items
  lists (tree.If e body) = lists body
  lists (tree.IfElse e first second) = lists first ++ lists second
  lists (tree.While e body) = lists body
  lists (tree.Do body e) = lists body
  lists (tree.For objects first e step body) = objects ∷ (all_lists first ++ lists body)
  lists (tree.Switch at e labels has_default values body) = lists body
  lists (tree.Case n body) = lists body
  lists (tree.Default body) = lists body
  lists (tree.Label n body) = lists body
  lists other = []

  all_lists : StatementTrees → List (List ℕ)
  all_lists tree.NoMore = []
  all_lists (tree.And first rest) = lists first ++ all_lists rest

-- the marks of lists, one after the other
data Listed : List (List ℕ) → List Bool → List Bool → Type 0 where
  nothing : (seen : List Bool) → Listed [] seen seen
  more : (xs : List ℕ) (xss : List (List ℕ)) (seen middle after : List Bool) → Marks xs seen middle → Listed xss middle after → Listed (xs ∷ xss) seen after

join : (xss yss : List (List ℕ)) (seen middle after : List Bool) → Listed xss seen middle → Listed yss middle after → Listed (xss ++ yss) seen after
join _ yss _ _ after (nothing seen) other = other
join _ yss _ _ after (more xs xss seen between middle m rest) other = more xs (xss ++ yss) seen between after m (join xss yss between middle after rest other)

some_is : {A : Type 0} (x y : A) → Some x ≡ Some y → x ≡ y
some_is x y e = cc

still : (seen after : List Bool) → Some seen ≡ Some after → Listed [] seen after
still seen after e = subst (λ a. Listed [] seen a) (some_is seen after e) (nothing seen)

mutual
  listed : (i : StatementTree) (seen after : List Bool) → scopes_marked i seen ≡ Some after → Listed (lists i) seen after
  listed (tree.Block objects items) seen after is = option_and_then_some (all_scopes_marked items) (all_marked objects seen) after is (λ middle one other. more objects (all_lists items) seen middle after (marks_all objects seen middle one) (all_listed items middle after other))
  listed (tree.If e body) seen after is = listed body seen after is
  listed (tree.IfElse e first second) seen after is = option_and_then_some (scopes_marked second) (scopes_marked first seen) after is (λ middle one other. join (lists first) (lists second) seen middle after (listed first seen middle one) (listed second middle after other))
  listed (tree.While e body) seen after is = listed body seen after is
  listed (tree.Do body e) seen after is = listed body seen after is
  listed (tree.For objects first e step body) seen after is = option_and_then_some (scopes_marked body) (option_and_then (all_scopes_marked first) (all_marked objects seen)) after is (λ begun one other.
      option_and_then_some (all_scopes_marked first) (all_marked objects seen) begun one (λ middle zeroth second.
      more objects (all_lists first ++ lists body) seen middle after (marks_all objects seen middle zeroth) (join (all_lists first) (lists body) middle begun after (all_listed first middle begun second) (listed body begun after other))))
  listed (tree.Switch at e labels has_default values body) seen after is = listed body seen after is
  listed (tree.Case n body) seen after is = listed body seen after is
  listed (tree.Default body) seen after is = listed body seen after is
  listed (tree.Label n body) seen after is = listed body seen after is
  listed other seen after is = still seen after is

  all_listed : (is : StatementTrees) (seen after : List Bool) → all_scopes_marked is seen ≡ Some after → Listed (all_lists is) seen after
  all_listed tree.NoMore seen after is = still seen after is
  all_listed (tree.And first rest) seen after is = option_and_then_some (all_scopes_marked rest) (scopes_marked first seen) after is (λ middle one other. join (lists first) (all_lists rest) seen middle after (listed first seen middle one) (all_listed rest middle after other))

-- ---- no object in two lists

abbrev at : List (List ℕ) → ℕ → List ℕ
at xss n = get_or xss n []

-- what stands in a list was free before
free_before : (xss : List (List ℕ)) (seen after : List Bool) → Listed xss seen after → (n k : ℕ) → is_in k (at xss n) ≡ true → is_marked k seen ≡ false
free_before _ _ _ (nothing seen) n k e = clash false e refl
free_before _ _ _ (more xs xss seen middle after m rest) zero k e = m.free k e
free_before _ _ _ (more xs xss seen middle after m rest) (suc n) k e = by (free_before xss middle after rest n k e) (is_marked k seen) refl
  where
    by : is_marked k middle ≡ false → (b : Bool) → is_marked k seen ≡ b → is_marked k seen ≡ false
    by later true is = clash (is_marked k middle) (m.kept k is) later
    by later false is = is

apart : (xss : List (List ℕ)) (seen after : List Bool) → Listed xss seen after → (n o : ℕ) → (n ≡ o → ⊥) → (k : ℕ) → is_in k (at xss n) ≡ true → is_in k (at xss o) ≡ true → ⊥
apart _ _ _ (nothing seen) n o differ k e f = clash false e refl
apart _ _ _ (more xs xss seen middle after m rest) zero zero differ k e f = differ refl
apart _ _ _ (more xs xss seen middle after m rest) zero (suc o) differ k e f = clash (is_marked k middle) (m.taken k e) (free_before xss middle after rest o k f)
apart _ _ _ (more xs xss seen middle after m rest) (suc n) zero differ k e f = clash (is_marked k middle) (m.taken k f) (free_before xss middle after rest n k e)
apart _ _ _ (more xs xss seen middle after m rest) (suc n) (suc o) differ k e f = apart xss middle after rest n o (λ same. differ (ap (λ i. suc i) same)) k e f

-- ---- the tree of scopes

abbrev held : TreeView → List (List ℕ)
held t = map (λ (s : ScopeView). s.objects) t.scopes

one_held : (around : ℕ) (xs : List ℕ) (t : TreeView) → held (with_new_scope around xs t) ≡ held t ++ xs ∷ []
unfolding with_new_scope
one_held around xs t = map-append (λ (s : ScopeView). s.objects) t.scopes (record { around = around; objects = xs } ∷ [])

choice_held : (count : ℕ) (t : TreeView) → held (with_choice count t) ≡ held t
unfolding with_choice
choice_held count t = refl

case_held : (c n k : ℕ) (t : TreeView) → held (with_case c n k t) ≡ held t
unfolding with_case
case_held c n k t = refl

default_held : (c k : ℕ) (t : TreeView) → held (with_default c k t) ≡ held t
unfolding with_default
default_held c k t = refl

label_held : (n k : ℕ) (t : TreeView) → held (with_label n k t) ≡ held t
unfolding with_label
label_held n k t = refl

no_more : (t : TreeView) → held t ≡ held t ++ []
no_more t = sym (append-nil (held t))

on : (a b c xs ys : List (List ℕ)) → b ≡ a ++ xs → c ≡ b ++ ys → c ≡ a ++ (xs ++ ys)
on a b c xs ys e f = f ∙ (ap (λ zs. zs ++ ys) e ∙ append_assoc a xs ys)

same : (a b c ys : List (List ℕ)) → b ≡ a → c ≡ b ++ ys → c ≡ a ++ ys
same a b c ys e f = f ∙ ap (λ zs. zs ++ ys) e

mutual
  stand : (i : StatementTree) (k c : ℕ) (t : TreeView) → held (scoped i k c t) ≡ held t ++ lists i
  stand (tree.Block objects items) k c t =
      on (held t) (held (with_new_scope k objects t)) (held (scoped (tree.Block objects items) k c t)) (objects ∷ []) (all_lists items) (one_held k objects t) (all_stand items (length t.scopes) c (with_new_scope k objects t))
  stand (tree.If e body) k c t = stand body k c t
  stand (tree.IfElse e first second) k c t = on (held t) (held (scoped first k c t)) (held (scoped second k c (scoped first k c t))) (lists first) (lists second) (stand first k c t) (stand second k c (scoped first k c t))
  stand (tree.While e body) k c t = stand body k c t
  stand (tree.Do body e) k c t = stand body k c t
  stand (tree.For objects first e step body) k c t =
      let inside = with_new_scope k objects t in
      let begun = all_scoped first (length t.scopes) c inside in
      on (held t) (held inside) (held (scoped (tree.For objects first e step body) k c t)) (objects ∷ []) (all_lists first ++ lists body) (one_held k objects t)
      (on (held inside) (held begun) (held (scoped (tree.For objects first e step body) k c t)) (all_lists first) (lists body) (all_stand first (length t.scopes) c inside) (stand body (length t.scopes) c begun))
  stand (tree.Switch at e labels has_default values body) k c t = same (held t) (held (with_choice (length labels) t)) (held (scoped body k (length t.choices) (with_choice (length labels) t))) (lists body) (choice_held (length labels) t) (stand body k (length t.choices) (with_choice (length labels) t))
  stand (tree.Case n body) k c t = same (held t) (held (with_case c n k t)) (held (scoped body k c (with_case c n k t))) (lists body) (case_held c n k t) (stand body k c (with_case c n k t))
  stand (tree.Default body) k c t = same (held t) (held (with_default c k t)) (held (scoped body k c (with_default c k t))) (lists body) (default_held c k t) (stand body k c (with_default c k t))
  stand (tree.Label n body) k c t = same (held t) (held (with_label n k t)) (held (scoped body k c (with_label n k t))) (lists body) (label_held n k t) (stand body k c (with_label n k t))
  stand other k c t = no_more t

  all_stand : (is : StatementTrees) (k c : ℕ) (t : TreeView) → held (all_scoped is k c t) ≡ held t ++ all_lists is
  all_stand tree.NoMore k c t = no_more t
  all_stand (tree.And first rest) k c t = on (held t) (held (scoped first k c t)) (held (all_scoped rest k c (scoped first k c t))) (lists first) (all_lists rest) (stand first k c t) (all_stand rest k c (scoped first k c t))

-- ---- functions

abbrev function_lists : FunctionView → List (List ℕ)
function_lists f = [] ∷ (f.scope ∷ all_lists (statement_trees f.body))

function_held : (f : FunctionView) → held (function_scopes f) ≡ function_lists f
function_held f =
    let start = no_scopes f.labels in
    let first = with_new_scope 0 [] start in
    let second = with_new_scope 0 f.scope first in
    all_stand (statement_trees f.body) 1 0 second ∙ ap (λ xss. xss ++ all_lists (statement_trees f.body)) (one_held 0 f.scope first ∙ ap (λ xss. xss ++ f.scope ∷ []) (one_held 0 [] start))

function_listed : (f : FunctionView) (x : FunctionMarks f) → Listed (function_lists f) (parameters_marked f) x.after
function_listed f x =
    more [] (f.scope ∷ all_lists (statement_trees f.body)) (parameters_marked f) (parameters_marked f) x.after (none (parameters_marked f) (parameters_marked f) refl)
    (more f.scope (all_lists (statement_trees f.body)) (parameters_marked f) x.middle x.after (marks_all f.scope (parameters_marked f) x.middle x.outermost) (all_listed (statement_trees f.body) x.middle x.after x.inside))

objects_at : (f : FunctionView) (s : SettingView) → s.scopes ≡ function_scopes f → (n : ℕ) (xs : List ℕ) → objects s n ≡ xs → at (function_lists f) n ≡ xs
objects_at f s is n xs e = ap (λ xss. at xss n) (sym (function_held f)) ∙ (get_or-map (λ (s : ScopeView). s.objects) (function_scopes f).scopes n no_scope ∙ (ap (λ (t : TreeView). (get_or t.scopes n no_scope).objects) (sym is) ∙ e))

pub scopes_apart : (f : FunctionView) → has_own_objects f ≡ true → (s : SettingView) → s.scopes ≡ function_scopes f → AreApart s
scopes_apart f own s is one other around outer xs ys here there differ = are_new xs ys (λ k e. by k e (is_in k ys) refl)
  where
    clear : (k : ℕ) → is_in k xs ≡ true → is_in k ys ≡ true → ⊥
    clear k e g =
        let x = function_marks f own in
        apart (function_lists f) (parameters_marked f) x.after (function_listed f x) one other differ k
        (subst (λ zs. is_in k zs ≡ true) (sym (objects_at f s is one xs here.holds)) e)
        (subst (λ zs. is_in k zs ≡ true) (sym (objects_at f s is other ys there.holds)) g)

    by : (k : ℕ) → is_in k xs ≡ true → (b : Bool) → is_in k ys ≡ b → is_in k ys ≡ false
    by k e true is = absurd (clear k e is)
    by k e false is = is
