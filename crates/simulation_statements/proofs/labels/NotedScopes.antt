-- The tree of scopes notes each label where it stands, and nothing takes that back.
use Rattle.std.proofs.Common.{◌≡◌, ◌≤◌, ◌<◌, ℕ, suc, ◌+◌, ◌==◌, Bool, true, false, cond, List, [], length, get_or, replicate, Option, Some, None, refl, arith, ap, sym, subst, ◌∙◌}
use Rattle.std.proofs.lemmas.Bool.{eq-eqb, eqb-true}
use Rattle.std.proofs.lemmas.List.{get_or-set_same, get_or-set_other, length-set, length-replicate}
use Rattle.c_layout.specs.CheckedTrees as tree
use Rattle.c_layout.specs.CheckedTrees.{StatementTree, StatementTrees, statement_trees}
use Rattle.c_layout.specs.CheckedUnits.{FunctionView}
use Rattle.lower_templates.specs.Worklist.Scopes.{TreeView, with_new_scope, with_choice, with_case, with_default, with_label, scoped, all_scoped, no_scopes, function_scopes}
use Rattle.lower_template_theorems.specs.PendingLabels.Marks.{one, labels_in, all_labels_in}
use Rattle.lower_template_theorems.proofs.pending_labels.LabelCounts.{same_labels}
use Rattle.semantics.specs.SourceMachine.LabelSearch.{label}
use Rattle.simulation_terms.specs.Scopes.Scopes.{scopes_in, all_scopes_in}
use Rattle.simulation_terms.proofs.scopes.ScopeTrees.{scoped_more, all_more, length_new, length_more}
use Rattle.simulation_statements.specs.Labels.LabelScopes.{either, this_or, stands_in, all_stand_in}
use Rattle.simulation_statements.proofs.labels.CountedScopes.{never, scope_counted}

-- ---- numbers

first_none : (a b : ℕ) → a + b ≡ 0 → a ≡ 0
first_none a b e = omega (arith, e)

second_none : (a b : ℕ) → a + b ≡ 0 → b ≡ 0
second_none a b e = omega (arith, e)

first_once : (a b : ℕ) → a + b ≤ 1 → a ≤ 1
first_once a b e = omega (arith, e)

second_once : (a b : ℕ) → a + b ≤ 1 → b ≤ 1
second_once a b e = omega (arith, e)

no_other : (a b : ℕ) → a + b ≤ 1 → 1 ≤ a → b ≡ 0
no_other a b e f = omega (arith, e, f)

some_is : {A : Type 0} (x y : A) → Some x ≡ Some y → x ≡ y
some_is x y e = cc

-- ---- what the tree notes

label_labels : (m k : ℕ) (t : TreeView) (n d : ℕ) → (n == m) ≡ false → get_or (with_label m k t).labels n d ≡ get_or t.labels n d
unfolding with_label
label_labels m k t n d differs = get_or-set_other t.labels m n k d (apart differs)
  where
    apart : (n == m) ≡ false → n ≡ m → ⊥
    apart e same = no (sym (eq-eqb n m same) ∙ e)
      where
        no : true ≡ false → ⊥
        no e = cc

label_here : (m k : ℕ) (t : TreeView) (n d : ℕ) → n ≡ m → n < length t.labels → get_or (with_label m k t).labels n d ≡ k
unfolding with_label
label_here m k t n d same less = ap (λ i. get_or (with_label m k t).labels i d) same ∙ get_or-set_same t.labels m k d (subst (λ i. i < length t.labels) same less)

label_length : (m k : ℕ) (t : TreeView) → length (with_label m k t).labels ≡ length t.labels
unfolding with_label
label_length m k t = length-set t.labels m k

label_scopes : (m k : ℕ) (t : TreeView) → (with_label m k t).scopes ≡ t.scopes
unfolding with_label
label_scopes m k t = refl

scope_labels : (k : ℕ) (objects : List ℕ) (t : TreeView) → (with_new_scope k objects t).labels ≡ t.labels
unfolding with_new_scope
scope_labels k objects t = refl

choice_labels : (count : ℕ) (t : TreeView) → (with_choice count t).labels ≡ t.labels
unfolding with_choice
choice_labels count t = refl

choice_scopes : (count : ℕ) (t : TreeView) → (with_choice count t).scopes ≡ t.scopes
unfolding with_choice
choice_scopes count t = refl

case_labels : (c n k : ℕ) (t : TreeView) → (with_case c n k t).labels ≡ t.labels
unfolding with_case
case_labels c n k t = refl

case_scopes : (c n k : ℕ) (t : TreeView) → (with_case c n k t).scopes ≡ t.scopes
unfolding with_case
case_scopes c n k t = refl

default_labels : (c k : ℕ) (t : TreeView) → (with_default c k t).labels ≡ t.labels
unfolding with_default
default_labels c k t = refl

default_scopes : (c k : ℕ) (t : TreeView) → (with_default c k t).scopes ≡ t.scopes
unfolding with_default
default_scopes c k t = refl

-- ---- as many labels as before

mutual
  long : (i : StatementTree) (k c : ℕ) (t : TreeView) → length (scoped i k c t).labels ≡ length t.labels
  long (tree.Block objects items) k c t = all_long items (length t.scopes) c (with_new_scope k objects t) ∙ ap (λ xs. length xs) (scope_labels k objects t)
  long (tree.If e body) k c t = long body k c t
  long (tree.IfElse e first second) k c t = long second k c (scoped first k c t) ∙ long first k c t
  long (tree.While e body) k c t = long body k c t
  long (tree.Do body e) k c t = long body k c t
  long (tree.For objects first e step body) k c t =
      long body (length t.scopes) c (all_scoped first (length t.scopes) c (with_new_scope k objects t)) ∙ all_long first (length t.scopes) c (with_new_scope k objects t) ∙ ap (λ xs. length xs) (scope_labels k objects t)
  long (tree.Switch at e cases has_default values body) k c t = long body k (length t.choices) (with_choice (length cases) t) ∙ ap (λ xs. length xs) (choice_labels (length cases) t)
  long (tree.Case m body) k c t = long body k c (with_case c m k t) ∙ ap (λ xs. length xs) (case_labels c m k t)
  long (tree.Default body) k c t = long body k c (with_default c k t) ∙ ap (λ xs. length xs) (default_labels c k t)
  long (tree.Label m body) k c t = long body k c (with_label m k t) ∙ label_length m k t
  long i k c t = refl

  all_long : (items : StatementTrees) (k c : ℕ) (t : TreeView) → length (all_scoped items k c t).labels ≡ length t.labels
  all_long tree.NoMore k c t = refl
  all_long (tree.And first rest) k c t = all_long rest k c (scoped first k c t) ∙ long first k c t

module _ (n d : ℕ) where
  -- the note of a label in a tree
  abbrev note : TreeView → ℕ
  note t = get_or t.labels n d

  note_same : (t u : TreeView) → u.labels ≡ t.labels → note u ≡ note t
  note_same t u e = ap (λ xs. get_or xs n d) e

  not_here : (m a : ℕ) → one n m + a ≡ 0 → (n == m) ≡ false
  not_here m a e = by (n == m) refl e
    where
      by : (b : Bool) → (n == m) ≡ b → cond b 1 0 + a ≡ 0 → (n == m) ≡ false
      by false is e = is
      by true is e = absurd (some a e)
        where
          some : (a : ℕ) → 1 + a ≡ 0 → ⊥
          some a e = omega (arith, e)

  -- ---- where a label does not stand, its note is kept

  mutual
    kept : (i : StatementTree) (k c : ℕ) (t : TreeView) → labels_in n i ≡ 0 → note (scoped i k c t) ≡ note t
    kept (tree.Block objects items) k c t none = all_kept items (length t.scopes) c (with_new_scope k objects t) none ∙ note_same t (with_new_scope k objects t) (scope_labels k objects t)
    kept (tree.If e body) k c t none = kept body k c t none
    kept (tree.IfElse e first second) k c t none = kept second k c (scoped first k c t) (second_none (labels_in n first) (labels_in n second) none) ∙ kept first k c t (first_none (labels_in n first) (labels_in n second) none)
    kept (tree.While e body) k c t none = kept body k c t none
    kept (tree.Do body e) k c t none = kept body k c t none
    kept (tree.For objects first e step body) k c t none =
        let inside = with_new_scope k objects t in
        kept body (length t.scopes) c (all_scoped first (length t.scopes) c inside) (second_none (all_labels_in n first) (labels_in n body) none) ∙ all_kept first (length t.scopes) c inside (first_none (all_labels_in n first) (labels_in n body) none) ∙ note_same t inside (scope_labels k objects t)
    kept (tree.Switch at e cases has_default values body) k c t none = kept body k (length t.choices) (with_choice (length cases) t) none ∙ note_same t (with_choice (length cases) t) (choice_labels (length cases) t)
    kept (tree.Case m body) k c t none = kept body k c (with_case c m k t) none ∙ note_same t (with_case c m k t) (case_labels c m k t)
    kept (tree.Default body) k c t none = kept body k c (with_default c k t) none ∙ note_same t (with_default c k t) (default_labels c k t)
    kept (tree.Label m body) k c t none = kept body k c (with_label m k t) (second_none (one n m) (labels_in n body) none) ∙ label_labels m k t n d (not_here m (labels_in n body) none)
    kept i k c t none = refl

    all_kept : (items : StatementTrees) (k c : ℕ) (t : TreeView) → all_labels_in n items ≡ 0 → note (all_scoped items k c t) ≡ note t
    all_kept tree.NoMore k c t none = refl
    all_kept (tree.And first rest) k c t none = all_kept rest k c (scoped first k c t) (second_none (labels_in n first) (all_labels_in n rest) none) ∙ kept first k c t (first_none (labels_in n first) (all_labels_in n rest) none)

  -- ---- where it stands, it is counted

  counted : (i : StatementTree) (k c number : ℕ) → stands_in (label n) i k c ≡ Some number → 1 ≤ labels_in n i
  counted i k c number is = subst (λ m. 1 ≤ m) (sym (same_labels n i)) (scope_counted (label n) i k c number is)

  -- ---- and noted

  -- in the first of two parts or in the second one
  either_noted : (a b : ℕ) (x y : Option ℕ) (number : ℕ) (last middle : ℕ) → either x y ≡ Some number → a + b ≤ 1 → ((j : ℕ) → x ≡ Some j → 1 ≤ a) → (b ≡ 0 → last ≡ middle) → ((j : ℕ) → x ≡ Some j → middle ≡ j) → ((j : ℕ) → y ≡ Some j → last ≡ j) → last ≡ number
  either_noted a b (Some j) y number last middle e once count same one other = same (no_other a b once (count j refl)) ∙ one j refl ∙ some_is j number e
  either_noted a b None y number last middle e once count same one other = other number e

  label_noted : (is : Bool) (k a : ℕ) (x : Option ℕ) (number last middle : ℕ) → this_or is k x ≡ Some number → cond is 1 0 + a ≤ 1 → (a ≡ 0 → last ≡ middle) → (is ≡ true → middle ≡ k) → ((j : ℕ) → x ≡ Some j → a ≤ 1 → last ≡ j) → last ≡ number
  label_noted true k a x number last middle e once same here later = same (no_other 1 a once (omega arith)) ∙ here refl ∙ some_is k number e
  label_noted false k a x number last middle e once same here later = later number e (second_once 0 a once)

  mutual
    noted : (i : StatementTree) (k c : ℕ) (t : TreeView) (number : ℕ) → n < length t.labels → labels_in n i ≤ 1 → stands_in (label n) i k (length t.scopes) ≡ Some number → note (scoped i k c t) ≡ number
    noted (tree.Block objects items) k c t number less once is =
        let inside = with_new_scope k objects t in
        all_noted items (length t.scopes) c inside number (subst (λ xs. n < length xs) (sym (scope_labels k objects t)) less) once (subst (λ m. all_stand_in (label n) items (length t.scopes) m ≡ Some number) (sym (length_new k objects t)) is)
    noted (tree.If e body) k c t number less once is = noted body k c t number less once is
    noted (tree.IfElse e first second) k c t number less once is =
        let u = scoped first k c t in
        let scopes = length_more (scopes_in first) t u (scoped_more first k c t) in
        either_noted (labels_in n first) (labels_in n second) (stands_in (label n) first k (length t.scopes)) (stands_in (label n) second k (length t.scopes + scopes_in first)) number (note (scoped second k c u)) (note u) is once
        (λ j e. counted first k (length t.scopes) j e) (λ none. kept second k c u none) (λ j e. noted first k c t j less (first_once (labels_in n first) (labels_in n second) once) e)
        (λ j e. noted second k c u j (subst (λ m. n < m) (sym (long first k c t)) less) (second_once (labels_in n first) (labels_in n second) once) (subst (λ m. stands_in (label n) second k m ≡ Some j) (sym scopes) e))
    noted (tree.While e body) k c t number less once is = noted body k c t number less once is
    noted (tree.Do body e) k c t number less once is = noted body k c t number less once is
    noted (tree.For objects first e step body) k c t number less once is =
        let outer = length t.scopes in
        let inside = with_new_scope k objects t in
        let u = all_scoped first outer c inside in
        let scopes = length_more (all_scopes_in first) inside u (all_more first outer c inside) ∙ ap (λ m. m + all_scopes_in first) (length_new k objects t) in
        let labels = all_long first outer c inside ∙ ap (λ xs. length xs) (scope_labels k objects t) in
        noted body outer c u number (subst (λ m. n < m) (sym labels) less) (second_once (all_labels_in n first) (labels_in n body) once) (subst (λ m. stands_in (label n) body outer m ≡ Some number) (sym scopes) is)
    noted (tree.Switch at e cases has_default values body) k c t number less once is =
        let u = with_choice (length cases) t in
        noted body k (length t.choices) u number (subst (λ xs. n < length xs) (sym (choice_labels (length cases) t)) less) once (subst (λ xs. stands_in (label n) body k (length xs) ≡ Some number) (sym (choice_scopes (length cases) t)) is)
    noted (tree.Case m body) k c t number less once is =
        noted body k c (with_case c m k t) number (subst (λ xs. n < length xs) (sym (case_labels c m k t)) less) once (subst (λ xs. stands_in (label n) body k (length xs) ≡ Some number) (sym (case_scopes c m k t)) is)
    noted (tree.Default body) k c t number less once is =
        noted body k c (with_default c k t) number (subst (λ xs. n < length xs) (sym (default_labels c k t)) less) once (subst (λ xs. stands_in (label n) body k (length xs) ≡ Some number) (sym (default_scopes c k t)) is)
    noted (tree.Label m body) k c t number less once is =
        let u = with_label m k t in
        label_noted (n == m) k (labels_in n body) (stands_in (label n) body k (length t.scopes)) number (note (scoped body k c u)) (note u) is once (λ none. kept body k c u none) (λ e. label_here m k t n d (eqb-true n m e) less)
        (λ j e few. noted body k c u j (subst (λ l. n < l) (sym (label_length m k t)) less) few (subst (λ xs. stands_in (label n) body k (length xs) ≡ Some j) (sym (label_scopes m k t)) e))
    noted i k c t number less once is = absurd (never number is)

    all_noted : (items : StatementTrees) (k c : ℕ) (t : TreeView) (number : ℕ) → n < length t.labels → all_labels_in n items ≤ 1 → all_stand_in (label n) items k (length t.scopes) ≡ Some number → note (all_scoped items k c t) ≡ number
    all_noted tree.NoMore k c t number less once is = absurd (never number is)
    all_noted (tree.And first rest) k c t number less once is =
        let u = scoped first k c t in
        let scopes = length_more (scopes_in first) t u (scoped_more first k c t) in
        either_noted (labels_in n first) (all_labels_in n rest) (stands_in (label n) first k (length t.scopes)) (all_stand_in (label n) rest k (length t.scopes + scopes_in first)) number (note (all_scoped rest k c u)) (note u) is once
        (λ j e. counted first k (length t.scopes) j e) (λ none. all_kept rest k c u none) (λ j e. noted first k c t j less (first_once (labels_in n first) (all_labels_in n rest) once) e)
        (λ j e. all_noted rest k c u j (subst (λ m. n < m) (sym (long first k c t)) less) (second_once (labels_in n first) (all_labels_in n rest) once) (subst (λ m. all_stand_in (label n) rest k m ≡ Some j) (sym scopes) e))

-- ---- the labels of a function

so_many : (count scope : ℕ) → length (replicate count scope) ≡ count
so_many count scope = length-replicate count scope

pub in_function : (f : FunctionView) (n number other : ℕ) → n < f.labels → all_labels_in n (statement_trees f.body) ≤ 1 → all_stand_in (label n) (statement_trees f.body) 1 2 ≡ Some number → get_or (function_scopes f).labels n other ≡ number
in_function f n number other there once is =
    let start = no_scopes f.labels in
    let outer = with_new_scope 0 [] start in
    let inner = with_new_scope 0 f.scope outer in
    let scopes : length inner.scopes ≡ 2 = length_new 0 f.scope outer ∙ ap (λ m. suc m) (length_new 0 [] start) in
    let labels : length inner.labels ≡ f.labels = ap (λ xs. length xs) (scope_labels 0 f.scope outer ∙ scope_labels 0 [] start) ∙ so_many f.labels 0 in
    all_noted n other (statement_trees f.body) 1 0 inner number (subst (λ m. n < m) (sym labels) there) once (subst (λ m. all_stand_in (label n) (statement_trees f.body) 1 m ≡ Some number) (sym scopes) is)
