-- The cases and the default label of a switch are noted where they stand.
use Rattle.std.proofs.Common.{◌≡◌, ◌≤◌, ◌<◌, ℕ, ◌+◌, ◌-◌, ◌^◌, ◌==◌, min, Bool, true, false, cond, List, length, get_or, Option, Some, None, slice_get, refl, arith, ap, sym, subst, ◌∙◌}
use Rattle.std.proofs.lemmas.Bool.{eqb-true}
use Rattle.std.proofs.lemmas.List.{get_or-set_same}
use Rattle.std.proofs.lemmas.Option.{slice_get-get_or}
use Rattle.c_layout.specs.CheckedTrees as tree
use Rattle.c_layout.specs.CheckedTrees.{StatementTree, StatementTrees}
use Rattle.lower_template_theorems.specs.PendingLabels.Marks.{one, cases_in, all_cases_in}
use Rattle.lower_functions.specs.Statements.Switches.{no_choice}
use Rattle.lower_templates.specs.Worklist.Scopes.{TreeView, with_new_scope, with_case, with_default, with_label, scoped, all_scoped, case_place, case_noted}
use Rattle.lower_templates.specs.declared.worklist.scope_trees.Choice.{Choice}
use Rattle.semantics.specs.SourceMachine.LabelSearch.{case}
use Rattle.simulation_statements.specs.Labels.LabelScopes.{either, this_or, stands_in, all_stand_in}
use Rattle.simulation_terms.specs.Scopes.Scopes.{scopes_in, all_scopes_in, switches_in, all_switches_in}
use Rattle.simulation_terms.proofs.scopes.ScopeTrees.{scoped_more, all_more, length_new, length_more}
use Rattle.simulation_statements.proofs.switch_tables.CountedLabels.{case_counted}
use Rattle.simulation_statements.proofs.switch_tables.GrownTrees.{choice_in, Grown, grown, all_grown, case_grown, default_grown, scope_grown, label_grown}
use Rattle.simulation_statements.proofs.switch_tables.KeptNotes.{OwnCases, case_kept, all_case_kept, first_some, second_some}

-- ---- numbers

first_once : (a b : ℕ) → a + b ≤ 1 → a ≤ 1
first_once a b e = omega (arith, e)

second_once : (a b : ℕ) → a + b ≤ 1 → b ≤ 1
second_once a b e = omega (arith, e)

no_other : (a b : ℕ) → a + b ≤ 1 → 1 ≤ a → b ≡ 0
no_other a b e f = omega (arith, e, f)

none_some : (a : ℕ) → a ≡ 0 → 1 ≤ a → ⊥
none_some a e f = omega (arith, e, f)

never : {A : Type 0} (x : A) → None ≡ Some x → ⊥
never x e = cc

some_is : {A : Type 0} (x y : A) → Some x ≡ Some y → x ≡ y
some_is x y e = cc

longer : (q a b : ℕ) → q < a → a ≤ b → q < b
longer q a b less le = omega (arith, less, le)

further : (c b a d : ℕ) → c < b → d ≡ b + a → c < d
further c b a d less e = omega (arith, less, e)

-- ---- labels open no scope

pub case_scopes : (c n k : ℕ) (t : TreeView) → length (with_case c n k t).scopes ≡ length t.scopes
unfolding with_case
case_scopes c n k t = refl

pub default_scopes : (c k : ℕ) (t : TreeView) → length (with_default c k t).scopes ≡ length t.scopes
unfolding with_default
default_scopes c k t = refl

pub label_scopes : (n k : ℕ) (t : TreeView) → length (with_label n k t).scopes ≡ length t.scopes
unfolding with_label
label_scopes n k t = refl

-- ---- in one of two parts

either_noted : (a b : ℕ) (x y : Option ℕ) (number : ℕ) (last middle : ℕ) → either x y ≡ Some number → a + b ≤ 1 → ((j : ℕ) → x ≡ Some j → 1 ≤ a) → (b ≡ 0 → last ≡ middle) → ((j : ℕ) → x ≡ Some j → middle ≡ j) → ((j : ℕ) → y ≡ Some j → last ≡ j) → last ≡ number
either_noted a b (Some j) y number last middle e once count same here there = same (no_other a b once (count j refl)) ∙ here j refl ∙ some_is j number e
either_noted a b None y number last middle e once count same here there = there number e

this_noted : (is : Bool) (k a : ℕ) (x : Option ℕ) (number last middle : ℕ) → this_or is k x ≡ Some number → cond is 1 0 + a ≤ 1 → (a ≡ 0 → last ≡ middle) → (is ≡ true → middle ≡ k) → ((j : ℕ) → x ≡ Some j → a ≤ 1 → last ≡ j) → last ≡ number
this_noted true k a x number last middle e once same here later = same (no_other 1 a once (omega arith)) ∙ here refl ∙ some_is k number e
this_noted false k a x number last middle e once same here later = later number e (second_once 0 a once)

-- ---- cases

module _ (n place : ℕ) (few : place + n < 2 ^ 32 - 1) where
  -- the switch of a number is there and begins at the place
  abbrev pub Begins : TreeView → ℕ → Type 0
  Begins t c = (c < length t.choices) × ((choice_in t c).first ≡ place)

  begins_on : (count : ℕ) (t u : TreeView) (c : ℕ) → Grown count t u → Begins t c → Begins u c
  begins_on count t u c g x = (further c (length t.choices) count (length u.choices) x.0 g.choices, g.same c x.0 ∙ x.1)

  abbrev pub AreFew : (ℕ → ℕ) → Type 0
  AreFew counts = (m : ℕ) → 1 ≤ counts m → place + m < 2 ^ 32 - 1

  same_place : (m : ℕ) → place + m < 2 ^ 32 - 1 → min (place + m) (2 ^ 32 - 1) ≡ place + n → m ≡ n
  same_place m less e = omega (arith, less, few, e)

  -- a statement in which the case does not stand
  owns : (t : TreeView) (c : ℕ) (counts : ℕ → ℕ) → Begins t c → AreFew counts → counts n ≡ 0 → OwnCases t (place + n) c place counts
  owns t c counts begins are none = λ m some. (begins.0, begins.1, λ e. none_some (counts m) (ap counts (same_place m (are m some) e) ∙ none) some)

  noted_here : (o : Option Choice) (m k : ℕ) (cases : List ℕ) (x : Choice) → o ≡ Some x → x.first ≡ place → n ≡ m → place + n < length cases → get_or (case_noted o m k cases) (place + n) 0 ≡ k
  noted_here None m k cases x is begins same less = absurd (never x is)
  noted_here (Some y) m k cases x is begins same less =
      let at : place + n ≡ case_place y m = at_place y.first (ap (λ (z : Choice). z.first) (some_is y x is) ∙ begins) same in
      ap (λ i. get_or (case_noted (Some y) m k cases) i 0) at ∙ get_or-set_same cases (case_place y m) k 0 (subst (λ i. i < length cases) at less)
    where
      at_place : (f : ℕ) → f ≡ place → n ≡ m → place + n ≡ min (f + m) (2 ^ 32 - 1)
      at_place f e same = omega (arith, few, e, same)

  case_here : (m k c : ℕ) (t : TreeView) → Begins t c → n ≡ m → place + n < length t.cases → get_or (with_case c m k t).cases (place + n) 0 ≡ k
  unfolding with_case
  case_here m k c t begins same less = noted_here (slice_get t.choices c) m k t.cases (choice_in t c) (slice_get-get_or t.choices c no_choice begins.0) begins.1 same less

  mutual
    pub case_noted_in : (i : StatementTree) (k c : ℕ) (t : TreeView) (number : ℕ) → Begins t c → place + n < length t.cases → AreFew (λ m. cases_in m i) → cases_in n i ≤ 1 → stands_in (case n) i k (length t.scopes) ≡ Some number → get_or (scoped i k c t).cases (place + n) 0 ≡ number
    case_noted_in (tree.Block objects items) k c t number begins less are once is =
        let u = with_new_scope k objects t in
        let g = scope_grown k objects t in
        all_noted items (length t.scopes) c u number (begins_on 0 t u c g begins) (longer (place + n) (length t.cases) (length u.cases) less g.cases) are once (subst (λ m. all_stand_in (case n) items (length t.scopes) m ≡ Some number) (sym (length_new k objects t)) is)
    case_noted_in (tree.If e body) k c t number begins less are once is = case_noted_in body k c t number begins less are once is
    case_noted_in (tree.IfElse e first second) k c t number begins less are once is =
        let u = scoped first k c t in
        let g = grown first k c t in
        let scopes = length_more (scopes_in first) t u (scoped_more first k c t) in
        let begins_u = begins_on (switches_in first) t u c g begins in
        let less_u = longer (place + n) (length t.cases) (length u.cases) less g.cases in
        let are_second : AreFew (λ m. cases_in m second) = λ m some. are m (second_some (cases_in m first) (cases_in m second) some) in
        either_noted (cases_in n first) (cases_in n second) (stands_in (case n) first k (length t.scopes)) (stands_in (case n) second k (length t.scopes + scopes_in first)) number _ _ is once
        (λ j e. case_counted n first k (length t.scopes) j e)
        (λ none. case_kept (place + n) few second k c u place less_u (owns u c (λ m. cases_in m second) begins_u are_second none))
        (λ j e. case_noted_in first k c t j begins less (λ m some. are m (first_some (cases_in m first) (cases_in m second) some)) (first_once (cases_in n first) (cases_in n second) once) e)
        (λ j e. case_noted_in second k c u j begins_u less_u are_second (second_once (cases_in n first) (cases_in n second) once) (subst (λ m. stands_in (case n) second k m ≡ Some j) (sym scopes) e))
    case_noted_in (tree.While e body) k c t number begins less are once is = case_noted_in body k c t number begins less are once is
    case_noted_in (tree.Do body e) k c t number begins less are once is = case_noted_in body k c t number begins less are once is
    case_noted_in (tree.For objects first e step body) k c t number begins less are once is =
        let outer = length t.scopes in
        let o = with_new_scope k objects t in
        let u = all_scoped first outer c o in
        let f = scope_grown k objects t in
        let g = all_grown first outer c o in
        let scopes = length_more (all_scopes_in first) o u (all_more first outer c o) ∙ ap (λ m. m + all_scopes_in first) (length_new k objects t) in
        case_noted_in body outer c u number (begins_on (all_switches_in first) o u c g (begins_on 0 t o c f begins)) (longer (place + n) (length o.cases) (length u.cases) (longer (place + n) (length t.cases) (length o.cases) less f.cases) g.cases) (λ m some. are m (second_some (all_cases_in m first) (cases_in m body) some))
        (second_once (all_cases_in n first) (cases_in n body) once) (subst (λ m. stands_in (case n) body outer m ≡ Some number) (sym scopes) is)
    case_noted_in (tree.Switch at e labels has_default values body) k c t number begins less are once is = absurd (never number is)
    case_noted_in (tree.Case m body) k c t number begins less are once is =
        let u = with_case c m k t in
        let g = case_grown c m k t in
        let begins_u = begins_on 0 t u c g begins in
        let less_u = longer (place + n) (length t.cases) (length u.cases) less g.cases in
        let are_in : AreFew (λ j. cases_in j body) = λ j some. are j (second_some (one j m) (cases_in j body) some) in
        this_noted (n == m) k (cases_in n body) (stands_in (case n) body k (length t.scopes)) number _ _ is once
        (λ none. case_kept (place + n) few body k c u place less_u (owns u c (λ j. cases_in j body) begins_u are_in none))
        (λ e. case_here m k c t begins (eqb-true n m e) less)
        (λ j e only. case_noted_in body k c u j begins_u less_u are_in only (subst (λ x. stands_in (case n) body k x ≡ Some j) (sym (case_scopes c m k t)) e))
    case_noted_in (tree.Default body) k c t number begins less are once is =
        let u = with_default c k t in
        let g = default_grown c k t in
        case_noted_in body k c u number (begins_on 0 t u c g begins) (longer (place + n) (length t.cases) (length u.cases) less g.cases) are once (subst (λ x. stands_in (case n) body k x ≡ Some number) (sym (default_scopes c k t)) is)
    case_noted_in (tree.Label m body) k c t number begins less are once is =
        let u = with_label m k t in
        let g = label_grown m k t in
        case_noted_in body k c u number (begins_on 0 t u c g begins) (longer (place + n) (length t.cases) (length u.cases) less g.cases) are once (subst (λ x. stands_in (case n) body k x ≡ Some number) (sym (label_scopes m k t)) is)
    case_noted_in i k c t number begins less are once is = absurd (never number is)

    all_noted : (items : StatementTrees) (k c : ℕ) (t : TreeView) (number : ℕ) → Begins t c → place + n < length t.cases → AreFew (λ m. all_cases_in m items) → all_cases_in n items ≤ 1 → all_stand_in (case n) items k (length t.scopes) ≡ Some number → get_or (all_scoped items k c t).cases (place + n) 0 ≡ number
    all_noted tree.NoMore k c t number begins less are once is = absurd (never number is)
    all_noted (tree.And first rest) k c t number begins less are once is =
        let u = scoped first k c t in
        let g = grown first k c t in
        let scopes = length_more (scopes_in first) t u (scoped_more first k c t) in
        let begins_u = begins_on (switches_in first) t u c g begins in
        let less_u = longer (place + n) (length t.cases) (length u.cases) less g.cases in
        let are_rest : AreFew (λ m. all_cases_in m rest) = λ m some. are m (second_some (cases_in m first) (all_cases_in m rest) some) in
        either_noted (cases_in n first) (all_cases_in n rest) (stands_in (case n) first k (length t.scopes)) (all_stand_in (case n) rest k (length t.scopes + scopes_in first)) number _ _ is once
        (λ j e. case_counted n first k (length t.scopes) j e)
        (λ none. all_case_kept (place + n) few rest k c u place less_u (owns u c (λ m. all_cases_in m rest) begins_u are_rest none))
        (λ j e. case_noted_in first k c t j begins less (λ m some. are m (first_some (cases_in m first) (all_cases_in m rest) some)) (first_once (cases_in n first) (all_cases_in n rest) once) e)
        (λ j e. all_noted rest k c u j begins_u less_u are_rest (second_once (cases_in n first) (all_cases_in n rest) once) (subst (λ m. all_stand_in (case n) rest k m ≡ Some j) (sym scopes) e))
