-- Trees of scopes only grow, and where the cases of a switch begin is not changed.
use Rattle.std.proofs.Common.{◌≡◌, ◌≤◌, ◌<◌, ℕ, suc, ◌+◌, ◌==◌, Bool, true, false, List, [], ◌∷◌, ◌++◌, length, get_or, set, replicate, Option, Some, None, slice_get, refl, arith, ap, sym, subst, ◌∙◌, length-append}
use Rattle.std.proofs.lemmas.Bool.{eq-eqb, eqb-true}
use Rattle.std.proofs.lemmas.List.{get_or-set_same, get_or-set_other, length-set, get_or_append_left}
use Rattle.std.proofs.lemmas.Option.{get_or_from_slice_get, slice_get_within}
use Rattle.c_layout.specs.CheckedTrees as tree
use Rattle.c_layout.specs.CheckedTrees.{StatementTree, StatementTrees}
use Rattle.lower_functions.specs.Statements.Switches.{no_choice}
use Rattle.lower_templates.specs.Worklist.Scopes.{TreeView, with_new_scope, with_choice, with_case, with_default, with_label, scoped, all_scoped, case_place, case_noted, default_noted, default_noted_at}
use Rattle.lower_templates.specs.declared.worklist.scope_trees.Choice.{Choice}
use Rattle.simulation_terms.specs.Scopes.Scopes.{switches_in, all_switches_in}

-- the switch of a number in a tree
abbrev pub choice_in : TreeView → ℕ → Choice
choice_in t q = get_or t.choices q no_choice

-- switches and cases become more
pub record Grown (count : ℕ) (t u : TreeView) : Type 0 where
  pub choices : length u.choices ≡ length t.choices + count
  pub cases : length t.cases ≤ length u.cases
  pub same : (q : ℕ) → q < length t.choices → (choice_in u q).first ≡ (choice_in t q).first

none_more : (a : ℕ) → a ≡ a + 0
none_more a = omega arith

itself : (a : ℕ) → a ≤ a
itself a = omega arith

pub stays : (t u : TreeView) → u.choices ≡ t.choices → u.cases ≡ t.cases → Grown 0 t u
stays t u one other = record {
  choices = ap (λ xs. length xs) one ∙ none_more (length t.choices);
  cases = subst (λ xs. length t.cases ≤ length xs) (sym other) (itself (length t.cases));
  same = λ q less. ap (λ xs. (get_or xs q no_choice).first) one;
}

pub grows_on : (a b : ℕ) (t u v : TreeView) → Grown a t u → Grown b u v → Grown (a + b) t v
grows_on a b t u v x y = record {
  choices = y.choices ∙ ap (λ k. k + b) x.choices ∙ in_turn (length t.choices) a b;
  cases = through (length t.cases) (length u.cases) (length v.cases) x.cases y.cases;
  same = λ q less. y.same q (still q (length t.choices) a (length u.choices) less x.choices) ∙ x.same q less;
}
  where
    in_turn : (c a b : ℕ) → (c + a) + b ≡ c + (a + b)
    in_turn c a b = omega arith

    through : (a b c : ℕ) → a ≤ b → b ≤ c → a ≤ c
    through a b c x y = omega (arith, x, y)

    still : (q b a c : ℕ) → q < b → c ≡ b + a → q < c
    still q b a c less e = omega (arith, less, e)

pub scope_grown : (k : ℕ) (objects : List ℕ) (t : TreeView) → Grown 0 t (with_new_scope k objects t)
unfolding with_new_scope
scope_grown k objects t = stays t (with_new_scope k objects t) refl refl

pub label_grown : (n k : ℕ) (t : TreeView) → Grown 0 t (with_label n k t)
unfolding with_label
label_grown n k t = stays t (with_label n k t) refl refl

case_length : (o : Option Choice) (n k : ℕ) (cases : List ℕ) → length (case_noted o n k cases) ≡ length cases
case_length None n k cases = refl
case_length (Some c) n k cases = length-set cases (case_place c n) k

pub case_grown : (c n k : ℕ) (t : TreeView) → Grown 0 t (with_case c n k t)
unfolding with_case
case_grown c n k t = record {
  choices = none_more (length t.choices);
  cases = subst (λ m. length t.cases ≤ m) (sym (case_length (slice_get t.choices c) n k t.cases)) (itself (length t.cases));
  same = λ q less. refl;
}

-- the note of a default label
pub default_length : (o : Option Choice) (c k : ℕ) (choices : List Choice) → length (default_noted_at o c k choices) ≡ length choices
default_length None c k choices = refl
default_length (Some x) c k choices = length-set choices c (default_noted x k)

default_first : (o : Option Choice) (c k : ℕ) (choices : List Choice) → slice_get choices c ≡ o → (q : ℕ) → (get_or (default_noted_at o c k choices) q no_choice).first ≡ (get_or choices q no_choice).first
default_first None c k choices is q = refl
default_first (Some x) c k choices is q = by (q == c) refl
  where
    here : q ≡ c → (get_or (set choices c (default_noted x k)) q no_choice).first ≡ (get_or choices q no_choice).first
    here same =
        ap (λ i. (get_or (set choices c (default_noted x k)) i no_choice).first) same
        ∙ ap (λ (y : Choice). y.first) (get_or-set_same choices c (default_noted x k) no_choice (slice_get_within choices c x is))
        ∙ ap (λ (y : Choice). y.first) (sym (get_or_from_slice_get choices c x no_choice is))
        ∙ ap (λ i. (get_or choices i no_choice).first) (sym same)

    by : (b : Bool) → (q == c) ≡ b → (get_or (set choices c (default_noted x k)) q no_choice).first ≡ (get_or choices q no_choice).first
    by true e = here (eqb-true q c e)
    by false e = ap (λ (y : Choice). y.first) (get_or-set_other choices c q (default_noted x k) no_choice (apart e))
      where
        apart : (q == c) ≡ false → q ≡ c → ⊥
        apart e same = no (sym (eq-eqb q c same) ∙ e)
          where
            no : true ≡ false → ⊥
            no e = cc

pub default_grown : (c k : ℕ) (t : TreeView) → Grown 0 t (with_default c k t)
unfolding with_default
default_grown c k t = record {
  choices = default_length (slice_get t.choices c) c k t.choices ∙ none_more (length t.choices);
  cases = itself (length t.cases);
  same = λ q less. default_first (slice_get t.choices c) c k t.choices refl q;
}

pub choice_grown : (count : ℕ) (t : TreeView) → Grown 1 t (with_choice count t)
unfolding with_choice
choice_grown count t = record {
  choices = length-append t.choices (record { first = length t.cases; fallback = None } ∷ []);
  cases = let e = length-append t.cases (replicate count 0) in longer (length t.cases) (length (replicate count 0)) (length (t.cases ++ replicate count 0)) e;
  same = λ q less. ap (λ (y : Choice). y.first) (get_or_append_left t.choices (record { first = length t.cases; fallback = None } ∷ []) no_choice q less);
}
  where
    longer : (a b c : ℕ) → c ≡ a + b → a ≤ c
    longer a b c e = omega (arith, e)

same_count : (a b : ℕ) (t u : TreeView) → a ≡ b → Grown a t u → Grown b t u
same_count a b t u e x = subst (λ k. Grown k t u) e x

none_before : (a : ℕ) → 0 + a ≡ a
none_before a = omega arith

one_before : (a : ℕ) → 1 + a ≡ suc a
one_before a = omega arith

mutual
  pub grown : (i : StatementTree) (k c : ℕ) (t : TreeView) → Grown (switches_in i) t (scoped i k c t)
  grown (tree.Block objects items) k c t = let u = with_new_scope k objects t in same_count _ _ t (scoped (tree.Block objects items) k c t) (none_before (all_switches_in items)) (grows_on 0 (all_switches_in items) t u (scoped (tree.Block objects items) k c t) (scope_grown k objects t) (all_grown items (length t.scopes) c u))
  grown (tree.If e body) k c t = grown body k c t
  grown (tree.IfElse e first second) k c t = let u = scoped first k c t in grows_on (switches_in first) (switches_in second) t u (scoped second k c u) (grown first k c t) (grown second k c u)
  grown (tree.While e body) k c t = grown body k c t
  grown (tree.Do body e) k c t = grown body k c t
  grown (tree.For objects first e step body) k c t =
      let u = with_new_scope k objects t in
      let v = all_scoped first (length t.scopes) c u in
      let w = scoped body (length t.scopes) c v in
      grows_on (all_switches_in first) (switches_in body) t v w (same_count _ _ t v (none_before (all_switches_in first)) (grows_on 0 (all_switches_in first) t u v (scope_grown k objects t) (all_grown first (length t.scopes) c u))) (grown body (length t.scopes) c v)
  grown (tree.Switch at e labels has_default values body) k c t =
      let u = with_choice (length labels) t in
      let w = scoped body k (length t.choices) u in
      same_count _ _ t w (one_before (switches_in body)) (grows_on 1 (switches_in body) t u w (choice_grown (length labels) t) (grown body k (length t.choices) u))
  grown (tree.Case n body) k c t = let u = with_case c n k t in same_count _ _ t (scoped body k c u) (none_before (switches_in body)) (grows_on 0 (switches_in body) t u (scoped body k c u) (case_grown c n k t) (grown body k c u))
  grown (tree.Default body) k c t = let u = with_default c k t in same_count _ _ t (scoped body k c u) (none_before (switches_in body)) (grows_on 0 (switches_in body) t u (scoped body k c u) (default_grown c k t) (grown body k c u))
  grown (tree.Label n body) k c t = let u = with_label n k t in same_count _ _ t (scoped body k c u) (none_before (switches_in body)) (grows_on 0 (switches_in body) t u (scoped body k c u) (label_grown n k t) (grown body k c u))
  grown other k c t = stays t t refl refl

  pub all_grown : (items : StatementTrees) (k c : ℕ) (t : TreeView) → Grown (all_switches_in items) t (all_scoped items k c t)
  all_grown tree.NoMore k c t = stays t t refl refl
  all_grown (tree.And first rest) k c t = let u = scoped first k c t in grows_on (switches_in first) (all_switches_in rest) t u (all_scoped rest k c u) (grown first k c t) (all_grown rest k c u)
