-- What is noted for other switches is kept.
use Rattle.std.proofs.Common.{◌≡◌, ◌≤◌, ◌<◌, ℕ, suc, ◌+◌, ◌-◌, ◌^◌, min, cond, List, [], ◌∷◌, length, get_or, replicate, Option, Some, None, slice_get, refl, arith, ap, sym, subst, ◌∙◌, length-append}
use Rattle.std.proofs.lemmas.Bool.{eq-eqb}
use Rattle.std.proofs.lemmas.List.{get_or-set_other, get_or_append_left, length-replicate}
use Rattle.std.proofs.Math.Seq.{get_or-append_seam}
use Rattle.std.proofs.lemmas.Option.{get_or_from_slice_get}
use Rattle.c_layout.specs.CheckedTrees as tree
use Rattle.c_layout.specs.CheckedTrees.{StatementTree, StatementTrees}
use Rattle.lower_template_theorems.specs.PendingLabels.Marks.{one, cases_in, all_cases_in, defaults_in, all_defaults_in}
use Rattle.lower_functions.specs.Statements.Switches.{no_choice}
use Rattle.lower_templates.specs.Worklist.Scopes.{TreeView, with_new_scope, with_choice, with_case, with_default, with_label, scoped, all_scoped, case_place, case_noted, default_noted, default_noted_at}
use Rattle.lower_templates.specs.declared.worklist.scope_trees.Choice.{Choice}
use Rattle.simulation_terms.specs.Scopes.Scopes.{switches_in, all_switches_in}
use Rattle.simulation_statements.proofs.switch_tables.GrownTrees.{choice_in, Grown, scope_grown, label_grown, grown, all_grown, case_grown, default_grown, choice_grown}

pub just_below : (a : ℕ) → a < suc a
just_below a = omega arith

-- ---- the tree that a switch begins

pub new_begins : (count : ℕ) (t : TreeView) → (choice_in (with_choice count t) (length t.choices)).first ≡ length t.cases
unfolding with_choice
new_begins count t = ap (λ (y : Choice). y.first) (get_or-append_seam t.choices (record { first = length t.cases; fallback = None }) [] no_choice)

pub new_fallback : (count : ℕ) (t : TreeView) → (choice_in (with_choice count t) (length t.choices)).fallback ≡ None
unfolding with_choice
new_fallback count t = ap (λ (y : Choice). y.fallback) (get_or-append_seam t.choices (record { first = length t.cases; fallback = None }) [] no_choice)

pub new_length : (count : ℕ) (t : TreeView) → length (with_choice count t).choices ≡ suc (length t.choices)
new_length count t = (choice_grown count t).choices ∙ plus_one (length t.choices)
  where
    plus_one : (a : ℕ) → a + 1 ≡ suc a
    plus_one a = omega arith

pub new_cases : (count : ℕ) (t : TreeView) → length (with_choice count t).cases ≡ length t.cases + count
unfolding with_choice
new_cases count t = length-append t.cases (replicate count 0) ∙ ap (λ k. length t.cases + k) (length-replicate count 0)

new_case : (count : ℕ) (t : TreeView) (q : ℕ) → q < length t.cases → get_or (with_choice count t).cases q 0 ≡ get_or t.cases q 0
unfolding with_choice
new_case count t q less = get_or_append_left t.cases (replicate count 0) 0 q less

pub new_choice : (count : ℕ) (t : TreeView) (q : ℕ) → q < length t.choices → choice_in (with_choice count t) q ≡ choice_in t q
unfolding with_choice
new_choice count t q less = get_or_append_left t.choices (record { first = length t.cases; fallback = None } ∷ []) no_choice q less

-- ---- other notes change nothing

scope_cases : (k : ℕ) (objects : List ℕ) (t : TreeView) → (with_new_scope k objects t).cases ≡ t.cases
unfolding with_new_scope
scope_cases k objects t = refl

pub scope_choices : (k : ℕ) (objects : List ℕ) (t : TreeView) → (with_new_scope k objects t).choices ≡ t.choices
unfolding with_new_scope
scope_choices k objects t = refl

label_cases : (n k : ℕ) (t : TreeView) → (with_label n k t).cases ≡ t.cases
unfolding with_label
label_cases n k t = refl

pub label_choices : (n k : ℕ) (t : TreeView) → (with_label n k t).choices ≡ t.choices
unfolding with_label
label_choices n k t = refl

default_cases : (c k : ℕ) (t : TreeView) → (with_default c k t).cases ≡ t.cases
unfolding with_default
default_cases c k t = refl

pub case_choices : (c n k : ℕ) (t : TreeView) → (with_case c n k t).choices ≡ t.choices
unfolding with_case
case_choices c n k t = refl

-- ---- cases

-- where a switch has cases in a statement, it is there, its first case has a place, and none of these has a certain one
abbrev pub OwnCases : TreeView → ℕ → ℕ → ℕ → (ℕ → ℕ) → Type 0
OwnCases t q c place counts = (m : ℕ) → 1 ≤ counts m → (c < length t.choices) × ((choice_in t c).first ≡ place) × (min (place + m) (2 ^ 32 - 1) ≡ q → ⊥)

pub own_later : (count : ℕ) (t u : TreeView) (q c place : ℕ) (counts : ℕ → ℕ) → Grown count t u → OwnCases t q c place counts → OwnCases u q c place counts
own_later count t u q c place counts g own = λ m some. let x = own m some in (still c (length t.choices) count (length u.choices) x.0 g.choices, g.same c x.0 ∙ x.1, x.2)
  where
    still : (q b a c : ℕ) → q < b → c ≡ b + a → q < c
    still q b a c less e = omega (arith, less, e)

one_self : (m : ℕ) → one m m ≡ 1
one_self m = ap (λ b. cond b 1 0) (eq-eqb m m refl)

pub first_some : (a b : ℕ) → 1 ≤ a → 1 ≤ a + b
first_some a b e = omega (arith, e)

pub second_some : (a b : ℕ) → 1 ≤ b → 1 ≤ a + b
second_some a b e = omega (arith, e)

longer : (q a b : ℕ) → q < a → a ≤ b → q < b
longer q a b less le = omega (arith, less, le)

-- behind all places so far
past_all : (q place m : ℕ) → q < place → q < 2 ^ 32 - 1 → min (place + m) (2 ^ 32 - 1) ≡ q → ⊥
past_all q place m less few e = omega (arith, less, few, e)

case_elsewhere : (o : Option Choice) (n k : ℕ) (cases : List ℕ) (q place : ℕ) → ((c : Choice) → o ≡ Some c → c.first ≡ place) → (min (place + n) (2 ^ 32 - 1) ≡ q → ⊥) → get_or (case_noted o n k cases) q 0 ≡ get_or cases q 0
case_elsewhere None n k cases q place begins apart = refl
case_elsewhere (Some c) n k cases q place begins apart = get_or-set_other cases (case_place c n) q k 0 (λ same. apart (ap (λ f. min (f + n) (2 ^ 32 - 1)) (sym (begins c refl)) ∙ sym same))

-- what stands at a number of a switch that is there
pub case_begins : (t : TreeView) (c place : ℕ) → (choice_in t c).first ≡ place → (x : Choice) → slice_get t.choices c ≡ Some x → x.first ≡ place
case_begins t c place begins x is = ap (λ (y : Choice). y.first) (sym (get_or_from_slice_get t.choices c x no_choice is)) ∙ begins

other_case : (c n k : ℕ) (t : TreeView) (q place : ℕ) → (choice_in t c).first ≡ place → (min (place + n) (2 ^ 32 - 1) ≡ q → ⊥) → get_or (with_case c n k t).cases q 0 ≡ get_or t.cases q 0
unfolding with_case
other_case c n k t q place begins apart = case_elsewhere (slice_get t.choices c) n k t.cases q place (case_begins t c place begins) apart

pub one_there : (n a : ℕ) → 1 ≤ one n n + a
one_there n a = first_some (one n n) a (subst (λ x. 1 ≤ x) (sym (one_self n)) (omega arith))

module _ (q : ℕ) (few : q < 2 ^ 32 - 1) where
  mutual
    pub case_kept : (i : StatementTree) (k c : ℕ) (t : TreeView) (place : ℕ) → q < length t.cases → OwnCases t q c place (λ m. cases_in m i) → get_or (scoped i k c t).cases q 0 ≡ get_or t.cases q 0
    case_kept (tree.Block objects items) k c t place less own =
        let u = with_new_scope k objects t in
        let g = scope_grown k objects t in
        all_case_kept items (length t.scopes) c u place (longer q (length t.cases) (length u.cases) less g.cases) (own_later 0 t u q c place (λ m. all_cases_in m items) g own) ∙ ap (λ xs. get_or xs q 0) (scope_cases k objects t)
    case_kept (tree.If e body) k c t place less own = case_kept body k c t place less own
    case_kept (tree.IfElse e first second) k c t place less own =
        let u = scoped first k c t in
        let g = grown first k c t in
        case_kept second k c u place (longer q (length t.cases) (length u.cases) less g.cases) (own_later (switches_in first) t u q c place (λ m. cases_in m second) g (λ m some. own m (second_some (cases_in m first) (cases_in m second) some)))
        ∙ case_kept first k c t place less (λ m some. own m (first_some (cases_in m first) (cases_in m second) some))
    case_kept (tree.While e body) k c t place less own = case_kept body k c t place less own
    case_kept (tree.Do body e) k c t place less own = case_kept body k c t place less own
    case_kept (tree.For objects first e step body) k c t place less own =
        let o = with_new_scope k objects t in
        let outer = length t.scopes in
        let u = all_scoped first outer c o in
        let f = scope_grown k objects t in
        let g = all_grown first outer c o in
        let own_o = own_later 0 t o q c place (λ m. all_cases_in m first + cases_in m body) f own in
        let less_o = longer q (length t.cases) (length o.cases) less f.cases in
        case_kept body outer c u place (longer q (length o.cases) (length u.cases) less_o g.cases) (own_later (all_switches_in first) o u q c place (λ m. cases_in m body) g (λ m some. own_o m (second_some (all_cases_in m first) (cases_in m body) some)))
        ∙ all_case_kept first outer c o place less_o (λ m some. own_o m (first_some (all_cases_in m first) (cases_in m body) some)) ∙ ap (λ xs. get_or xs q 0) (scope_cases k objects t)
    case_kept (tree.Switch at e labels has_default values body) k c t place less own =
        let count = length labels in
        let u = with_choice count t in
        let there : length t.choices < length u.choices = subst (λ m. length t.choices < m) (sym (new_length count t)) (just_below (length t.choices)) in
        case_kept body k (length t.choices) u (length t.cases) (longer q (length t.cases) (length u.cases) less (choice_grown count t).cases) (λ m some. (there, new_begins count t, past_all q (length t.cases) m less few)) ∙ new_case count t q less
    case_kept (tree.Case n body) k c t place less own =
        let u = with_case c n k t in
        let g = case_grown c n k t in
        let x = own n (one_there n (cases_in n body)) in
        case_kept body k c u place (longer q (length t.cases) (length u.cases) less g.cases) (own_later 0 t u q c place (λ m. cases_in m body) g (λ m some. own m (second_some (one m n) (cases_in m body) some))) ∙ other_case c n k t q place x.1 x.2
    case_kept (tree.Default body) k c t place less own =
        let u = with_default c k t in
        let g = default_grown c k t in
        case_kept body k c u place (longer q (length t.cases) (length u.cases) less g.cases) (own_later 0 t u q c place (λ m. cases_in m body) g own) ∙ ap (λ xs. get_or xs q 0) (default_cases c k t)
    case_kept (tree.Label n body) k c t place less own =
        let u = with_label n k t in
        let g = label_grown n k t in
        case_kept body k c u place (longer q (length t.cases) (length u.cases) less g.cases) (own_later 0 t u q c place (λ m. cases_in m body) g own) ∙ ap (λ xs. get_or xs q 0) (label_cases n k t)
    case_kept other k c t place less own = refl

    pub all_case_kept : (items : StatementTrees) (k c : ℕ) (t : TreeView) (place : ℕ) → q < length t.cases → OwnCases t q c place (λ m. all_cases_in m items) → get_or (all_scoped items k c t).cases q 0 ≡ get_or t.cases q 0
    all_case_kept tree.NoMore k c t place less own = refl
    all_case_kept (tree.And first rest) k c t place less own =
        let u = scoped first k c t in
        let g = grown first k c t in
        all_case_kept rest k c u place (longer q (length t.cases) (length u.cases) less g.cases) (own_later (switches_in first) t u q c place (λ m. all_cases_in m rest) g (λ m some. own m (second_some (cases_in m first) (all_cases_in m rest) some)))
        ∙ case_kept first k c t place less (λ m some. own m (first_some (cases_in m first) (all_cases_in m rest) some))

-- ---- default labels

-- where a switch has its default label in a statement, it is there and is another one
abbrev pub OwnDefaults : TreeView → ℕ → ℕ → ℕ → Type 0
OwnDefaults t q c count = 1 ≤ count → (c < length t.choices) × (q ≡ c → ⊥)

default_elsewhere : (o : Option Choice) (c k : ℕ) (choices : List Choice) (q : ℕ) → (q ≡ c → ⊥) → get_or (default_noted_at o c k choices) q no_choice ≡ get_or choices q no_choice
default_elsewhere None c k choices q apart = refl
default_elsewhere (Some x) c k choices q apart = get_or-set_other choices c q (default_noted x k) no_choice apart

other_default : (c k : ℕ) (t : TreeView) (q : ℕ) → (q ≡ c → ⊥) → choice_in (with_default c k t) q ≡ choice_in t q
unfolding with_default
other_default c k t q apart = default_elsewhere (slice_get t.choices c) c k t.choices q apart

beyond : (q a : ℕ) → q < a → q ≡ a → ⊥
beyond q a less e = omega (arith, less, e)

further : (c b a d : ℕ) → c < b → d ≡ b + a → c < d
further c b a d less e = omega (arith, less, e)

module _ (q : ℕ) where
  own_on : (count : ℕ) (t u : TreeView) (c a : ℕ) → Grown count t u → OwnDefaults t q c a → OwnDefaults u q c a
  own_on count t u c a g own = λ some. let x = own some in (further c (length t.choices) count (length u.choices) x.0 g.choices, x.1)

  mutual
    pub choice_kept : (i : StatementTree) (k c : ℕ) (t : TreeView) → q < length t.choices → OwnDefaults t q c (defaults_in i) → choice_in (scoped i k c t) q ≡ choice_in t q
    choice_kept (tree.Block objects items) k c t less own =
        let u = with_new_scope k objects t in
        let g = scope_grown k objects t in
        all_choice_kept items (length t.scopes) c u (further q (length t.choices) 0 (length u.choices) less g.choices) (own_on 0 t u c (all_defaults_in items) g own) ∙ ap (λ xs. get_or xs q no_choice) (scope_choices k objects t)
    choice_kept (tree.If e body) k c t less own = choice_kept body k c t less own
    choice_kept (tree.IfElse e first second) k c t less own =
        let u = scoped first k c t in
        let g = grown first k c t in
        choice_kept second k c u (further q (length t.choices) (switches_in first) (length u.choices) less g.choices) (own_on (switches_in first) t u c (defaults_in second) g (λ some. own (second_some (defaults_in first) (defaults_in second) some)))
        ∙ choice_kept first k c t less (λ some. own (first_some (defaults_in first) (defaults_in second) some))
    choice_kept (tree.While e body) k c t less own = choice_kept body k c t less own
    choice_kept (tree.Do body e) k c t less own = choice_kept body k c t less own
    choice_kept (tree.For objects first e step body) k c t less own =
        let o = with_new_scope k objects t in
        let outer = length t.scopes in
        let u = all_scoped first outer c o in
        let f = scope_grown k objects t in
        let g = all_grown first outer c o in
        let own_o = own_on 0 t o c (all_defaults_in first + defaults_in body) f own in
        let less_o = further q (length t.choices) 0 (length o.choices) less f.choices in
        choice_kept body outer c u (further q (length o.choices) (all_switches_in first) (length u.choices) less_o g.choices) (own_on (all_switches_in first) o u c (defaults_in body) g (λ some. own_o (second_some (all_defaults_in first) (defaults_in body) some)))
        ∙ all_choice_kept first outer c o less_o (λ some. own_o (first_some (all_defaults_in first) (defaults_in body) some)) ∙ ap (λ xs. get_or xs q no_choice) (scope_choices k objects t)
    choice_kept (tree.Switch at e labels has_default values body) k c t less own =
        let count = length labels in
        let u = with_choice count t in
        let there : length t.choices < length u.choices = subst (λ m. length t.choices < m) (sym (new_length count t)) (just_below (length t.choices)) in
        choice_kept body k (length t.choices) u (further q (length t.choices) 1 (length u.choices) less (choice_grown count t).choices) (λ some. (there, beyond q (length t.choices) less)) ∙ new_choice count t q less
    choice_kept (tree.Case n body) k c t less own =
        let u = with_case c n k t in
        let g = case_grown c n k t in
        choice_kept body k c u (further q (length t.choices) 0 (length u.choices) less g.choices) (own_on 0 t u c (defaults_in body) g own) ∙ ap (λ xs. get_or xs q no_choice) (case_choices c n k t)
    choice_kept (tree.Default body) k c t less own =
        let u = with_default c k t in
        let g = default_grown c k t in
        let x = own (first_some 1 (defaults_in body) (omega arith)) in
        choice_kept body k c u (further q (length t.choices) 0 (length u.choices) less g.choices) (own_on 0 t u c (defaults_in body) g (λ some. own (second_some 1 (defaults_in body) some))) ∙ other_default c k t q x.1
    choice_kept (tree.Label n body) k c t less own =
        let u = with_label n k t in
        let g = label_grown n k t in
        choice_kept body k c u (further q (length t.choices) 0 (length u.choices) less g.choices) (own_on 0 t u c (defaults_in body) g own) ∙ ap (λ xs. get_or xs q no_choice) (label_choices n k t)
    choice_kept other k c t less own = refl

    pub all_choice_kept : (items : StatementTrees) (k c : ℕ) (t : TreeView) → q < length t.choices → OwnDefaults t q c (all_defaults_in items) → choice_in (all_scoped items k c t) q ≡ choice_in t q
    all_choice_kept tree.NoMore k c t less own = refl
    all_choice_kept (tree.And first rest) k c t less own =
        let u = scoped first k c t in
        let g = grown first k c t in
        all_choice_kept rest k c u (further q (length t.choices) (switches_in first) (length u.choices) less g.choices) (own_on (switches_in first) t u c (all_defaults_in rest) g (λ some. own (second_some (defaults_in first) (all_defaults_in rest) some)))
        ∙ choice_kept first k c t less (λ some. own (first_some (defaults_in first) (all_defaults_in rest) some))
