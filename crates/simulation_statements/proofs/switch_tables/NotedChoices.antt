-- What is noted of the switches of a function stands in its setting in the end: nothing that comes behind a switch changes
-- its notes.
use Rattle.std.proofs.Common.{◌≡◌, ◌≤◌, ◌<◌, ℕ, suc, ◌+◌, ◌-◌, ◌^◌, min, Bool, true, false, cond, nat_lt, List, [], length, get_or, Option, Some, None, refl, arith, ap, sym, subst, ◌∙◌}
use Rattle.std.proofs.lemmas.Bool.{ltb-true}
use Rattle.c_layout.specs.CheckedTrees as tree
use Rattle.c_layout.specs.CheckedTrees.{StatementTree, StatementTrees, statement_trees}
use Rattle.c_layout.specs.CheckedUnits.{UnitView, FunctionView}
use Rattle.lower_template_theorems.specs.PendingLabels.Marks.{below, one, cases_in, all_cases_in, defaults_in, all_defaults_in, IsSelected, IsLabelled}
use Rattle.lower_functions.specs.Statements.Switches.{no_choice, choice_at, case_scope}
use Rattle.lower_templates.specs.Worklist.Scopes.{TreeView, with_new_scope, with_choice, with_case, with_default, with_label, scoped, all_scoped, no_scopes, function_scopes}
use Rattle.lower_templates.specs.Worklist.Settings.{SettingView}
use Rattle.lower_templates.specs.declared.worklist.scope_trees.Choice.{Choice}
use Rattle.semantics.specs.SourceMachine.LabelSearch.{case}
use Rattle.semantics.specs.SourceMachine.LabelSearch as sought
use Rattle.simulation_statements.specs.Labels.LabelScopes.{either, stands_in}
use Rattle.simulation_terms.specs.Scopes.Scopes.{scopes_in, all_scopes_in, switches_in, all_switches_in}
use Rattle.simulation_terms.specs.Scopes.SuitedStatements.{Enclosure, by_loop, by_switch, not_enclosed, SuitsIn, AllSuitIn}
use Rattle.simulation_terms.proofs.scopes.ScopeTrees.{scoped_more, all_more, length_new, length_more}
use Rattle.simulation_statements.specs.SwitchLabels.Choices.{IsChoice, HasChoices, AllHaveChoices}
use Rattle.simulation_statements.proofs.switch_tables.GrownTrees.{choice_in, Grown, grown, all_grown, case_grown, default_grown, scope_grown, label_grown}
use Rattle.simulation_statements.proofs.switch_tables.KeptNotes.{case_kept, all_case_kept, choice_kept, all_choice_kept, first_some, second_some, new_begins, new_fallback, new_length, new_cases, just_below}
use Rattle.simulation_statements.proofs.switch_tables.NotedCases.{case_noted_in, case_scopes, default_scopes, label_scopes}
use Rattle.simulation_statements.proofs.switch_tables.NotedDefaults.{default_noted_in}

further : (c b a d : ℕ) → c < b → d ≡ b + a → c < d
further c b a d less e = omega (arith, less, e)

longer : (q a b : ℕ) → q < a → a ≤ b → q < b
longer q a b less le = omega (arith, less, le)

through : (a b c : ℕ) → a ≤ b → b ≤ c → a ≤ c
through a b c x y = omega (arith, x, y)

at_least : (low b count c : ℕ) → low ≤ b → c ≡ b + count → low ≤ c
at_least low b count c le e = omega (arith, le, e)

least : (a : ℕ) → 0 ≤ a
least a = omega arith

none_some : (a : ℕ) → a ≡ 0 → 1 ≤ a → ⊥
none_some a e f = omega (arith, e, f)

same_length : (t v : TreeView) → length t.choices ≡ length v.choices + 0 → length t.choices ≡ length v.choices
same_length t v e = omega (arith, e)

no_more : (a b : ℕ) → b ≡ a → a ≤ b
no_more a b e = omega (arith, e)

past : (low first count q : ℕ) → low ≤ first → first + count ≤ q → low ≤ q
past low first count q le more = omega (arith, le, more)

past_number : (low number q : ℕ) → low ≤ number → suc number ≤ q → low ≤ q
past_number low number q le more = omega (arith, le, more)

choice_scopes : (count : ℕ) (t : TreeView) → length (with_choice count t).scopes ≡ length t.scopes
unfolding with_choice
choice_scopes count t = refl

-- the labels of a switch that stand in a statement: the switch is there, its cases begin at a place, and what is noted for
-- them and for the default label lies below what is settled
pub record Inner (t : TreeView) (c place low lowc : ℕ) (counts : ℕ → ℕ) (defaults : ℕ) : Type 0 where
  pub cases : (m : ℕ) → 1 ≤ counts m → (c < length t.choices) × ((choice_in t c).first ≡ place) × (place + m < low)
  pub default : 1 ≤ defaults → (c < length t.choices) × (c < lowc)

inner_on : (count : ℕ) (t v : TreeView) (c place low lowc : ℕ) (counts : ℕ → ℕ) (defaults : ℕ) → Grown count t v → Inner t c place low lowc counts defaults → Inner v c place low lowc counts defaults
inner_on count t v c place low lowc counts defaults g x = record {
  cases = λ m some. let y = x.cases m some in (further c (length t.choices) count (length v.choices) y.0 g.choices, g.same c y.0 ∙ y.1, y.2);
  default = λ some. let y = x.default some in (further c (length t.choices) count (length v.choices) y.0 g.choices, y.1);
}

-- the first of two parts, and the second one
inner_first : (t : TreeView) (c place low lowc : ℕ) (xs ys : ℕ → ℕ) (a b : ℕ) → Inner t c place low lowc (λ m. xs m + ys m) (a + b) → Inner t c place low lowc xs a
inner_first t c place low lowc xs ys a b x = record { cases = λ m some. x.cases m (first_some (xs m) (ys m) some); default = λ some. x.default (first_some a b some) }

inner_second : (t : TreeView) (c place low lowc : ℕ) (xs ys : ℕ → ℕ) (a b : ℕ) → Inner t c place low lowc (λ m. xs m + ys m) (a + b) → Inner t c place low lowc ys b
inner_second t c place low lowc xs ys a b x = record { cases = λ m some. x.cases m (second_some (xs m) (ys m) some); default = λ some. x.default (second_some a b some) }

elsewhere : (q place m low : ℕ) → low ≤ q → place + m < low → min (place + m) (2 ^ 32 - 1) ≡ q → q < 2 ^ 32 - 1 → ⊥
elsewhere q place m low le less e few = omega (arith, le, less, e, few)

not_that : (q c lowc : ℕ) → lowc ≤ q → c < lowc → q ≡ c → ⊥
not_that q c lowc le less e = omega (arith, le, less, e)

module _ (s : SettingView) where
  -- from certain numbers on, the notes of a tree are those of the setting
  pub record Settled (v : TreeView) (low lowc : ℕ) : Type 0 where
    pub cases : (q : ℕ) → low ≤ q → q < length v.cases → get_or s.scopes.cases q 0 ≡ get_or v.cases q 0
    pub choices : (q : ℕ) → lowc ≤ q → q < length v.choices → choice_at s q ≡ choice_in v q
    pub few : length v.cases ≤ 2 ^ 32 - 1

  settled_before : (i : StatementTree) (k c place low lowc : ℕ) (v : TreeView) → Inner v c place low lowc (λ m. cases_in m i) (defaults_in i) → Settled (scoped i k c v) low lowc → Settled v low lowc
  settled_before i k c place low lowc v x b =
      let g = grown i k c v in
      record {
        cases = λ q le less.
            let few = longer q (length v.cases) (2 ^ 32 - 1) less (through (length v.cases) (length (scoped i k c v).cases) (2 ^ 32 - 1) g.cases b.few) in
            b.cases q le (longer q (length v.cases) (length (scoped i k c v).cases) less g.cases) ∙ case_kept q few i k c v place less (λ m some. let y = x.cases m some in (y.0, y.1, λ e. elsewhere q place m low le y.2 e few));
        choices = λ q le less. b.choices q le (further q (length v.choices) (switches_in i) (length (scoped i k c v).choices) less g.choices) ∙ choice_kept q i k c v less (λ some. let y = x.default some in (y.0, not_that q c lowc le y.1));
        few = through (length v.cases) (length (scoped i k c v).cases) (2 ^ 32 - 1) g.cases b.few;
      }

  all_settled_before : (items : StatementTrees) (k c place low lowc : ℕ) (v : TreeView) → Inner v c place low lowc (λ m. all_cases_in m items) (all_defaults_in items) → Settled (all_scoped items k c v) low lowc → Settled v low lowc
  all_settled_before items k c place low lowc v x b =
      let g = all_grown items k c v in
      record {
        cases = λ q le less.
            let few = longer q (length v.cases) (2 ^ 32 - 1) less (through (length v.cases) (length (all_scoped items k c v).cases) (2 ^ 32 - 1) g.cases b.few) in
            b.cases q le (longer q (length v.cases) (length (all_scoped items k c v).cases) less g.cases) ∙ all_case_kept q few items k c v place less (λ m some. let y = x.cases m some in (y.0, y.1, λ e. elsewhere q place m low le y.2 e few));
        choices = λ q le less. b.choices q le (further q (length v.choices) (all_switches_in items) (length (all_scoped items k c v).choices) less g.choices) ∙ all_choice_kept q items k c v less (λ some. let y = x.default some in (y.0, not_that q c lowc le y.1));
        few = through (length v.cases) (length (all_scoped items k c v).cases) (2 ^ 32 - 1) g.cases b.few;
      }

  -- ---- a switch

  is_below : (n count a : ℕ) → a ≤ below n count → 1 ≤ a → n < count
  is_below n count a le some = by (nat_lt n count) refl le
    where
      by : (b : Bool) → nat_lt n count ≡ b → a ≤ cond b 1 0 → n < count
      by true e le = ltb-true n count e
      by false e le = absurd (no a le some)
        where
          no : (a : ℕ) → a ≤ 0 → 1 ≤ a → ⊥
          no a x y = omega (arith, x, y)

  at_most_one : (b : Bool) (a : ℕ) → a ≤ cond b 1 0 → a ≤ 1
  at_most_one true a le = le
  at_most_one false a le = omega (arith, le)

  none_else : (o : Option ℕ) → either o None ≡ o
  none_else None = refl
  none_else (Some j) = refl

  sum_less : (f n count len : ℕ) → n < count → len ≡ f + count → f + n < len
  sum_less f n count len less e = omega (arith, less, e)

  in_numbers : (a len all : ℕ) → a < len → len ≤ all → all ≤ 2 ^ 32 - 1 → a < 2 ^ 32 - 1
  in_numbers a len all x y z = omega (arith, x, y, z)

  in_all : (f count first len all : ℕ) → first ≡ f → len ≡ f + count → len ≤ all → all ≤ 2 ^ 32 - 1 → first + count ≤ 2 ^ 32 - 1
  in_all f count first len all a b x y = omega (arith, a, b, x, y)

  no_less : (low f n : ℕ) → low ≤ f → low ≤ f + n
  no_less low f n le = omega (arith, le)

  module _ (u : UnitView) (f : FunctionView) where
    choice_is : (count : ℕ) (body : StatementTree) (enclosed : Enclosure) (known : List ℕ) → SuitsIn u f enclosed known body → IsSelected count body → (k low lowc : ℕ) (t : TreeView) → low ≤ length t.cases → lowc ≤ length t.choices → Settled (scoped body k (length t.choices) (with_choice count t)) low lowc → IsChoice s (length t.choices) count body k (length t.scopes)
    choice_is count body enclosed known suits selected k low lowc t le lec b =
        let number = length t.choices in
        let v = with_choice count t in
        let last = scoped body k number v in
        let g = grown body k number v in
        let there : number < length v.choices = subst (λ m. number < m) (sym (new_length count t)) (just_below number) in
        let there_last = further number (length v.choices) (switches_in body) (length last.choices) there g.choices in
        let settled : choice_at s number ≡ choice_in last number = b.choices number lec there_last in
        let begins : (choice_at s number).first ≡ length t.cases = ap (λ (x : Choice). x.first) settled ∙ g.same number there ∙ new_begins count t in
        record {
          few = in_all (length t.cases) count (choice_at s number).first (length v.cases) (length last.cases) begins (new_cases count t) g.cases b.few;
          cases = λ n scope less is.
              let place = length t.cases in
              let less_v : place + n < length v.cases = sum_less place n count (length v.cases) less (new_cases count t) in
              let few : place + n < 2 ^ 32 - 1 = in_numbers (place + n) (length v.cases) (length last.cases) less_v g.cases b.few in
              let are : (m : ℕ) → 1 ≤ cases_in m body → place + m < 2 ^ 32 - 1 = λ m some. in_numbers (place + m) (length v.cases) (length last.cases) (sum_less place m count (length v.cases) (is_below m count (cases_in m body) (selected.cases m) some) (new_cases count t)) g.cases b.few in
              ap (λ first. case_scope s (first + n)) begins
              ∙ b.cases (place + n) (no_less low place n le) (longer (place + n) (length v.cases) (length last.cases) less_v g.cases)
              ∙ case_noted_in n place few body k number v scope (there, new_begins count t) less_v are (at_most_one (nat_lt n count) (cases_in n body) (selected.cases n)) (subst (λ m. stands_in (case n) body k m ≡ Some scope) (sym (choice_scopes count t)) is);
          fallback = ap (λ (x : Choice). x.fallback) settled ∙ default_noted_in u f body enclosed known suits k number v there selected.fallback
              ∙ ap (λ o. either (stands_in sought.other body k (length v.scopes)) o) (new_fallback count t) ∙ none_else (stands_in sought.other body k (length v.scopes)) ∙ ap (λ m. stands_in sought.other body k m) (choice_scopes count t);
        }

    -- ---- all switches of a statement

    labelled : (body : StatementTree) (k : ℕ) (t o : TreeView) → length o.scopes ≡ length t.scopes → length o.choices ≡ length t.choices + 0 → HasChoices s body k (length o.scopes) (length o.choices) → HasChoices s body k (length t.scopes) (length t.choices)
    labelled body k t o scopes switches h = subst (λ m. HasChoices s body k m (length t.choices)) scopes (subst (λ m. HasChoices s body k (length o.scopes) m) (same_length o t switches) h)

    mutual
      has : (i : StatementTree) (enclosed : Enclosure) (known : List ℕ) → SuitsIn u f enclosed known i → (k c place low lowc : ℕ) (t : TreeView) → Inner t c place low lowc (λ m. cases_in m i) (defaults_in i) → low ≤ length t.cases → lowc ≤ length t.choices → Settled (scoped i k c t) low lowc → HasChoices s i k (length t.scopes) (length t.choices)
      has (tree.Block objects items) enclosed known suits k c place low lowc t x le lec b =
          let o = with_new_scope k objects t in
          let g = scope_grown k objects t in
          subst (λ m. AllHaveChoices s items (length t.scopes) m (length t.choices)) (length_new k objects t)
          (subst (λ m. AllHaveChoices s items (length t.scopes) (length o.scopes) m) (same_length o t g.choices)
          (all_have items enclosed _ suits.1 (length t.scopes) c place low lowc o (inner_on 0 t o c place low lowc (λ m. all_cases_in m items) (all_defaults_in items) g x) (through low (length t.cases) (length o.cases) le g.cases) (at_least lowc (length t.choices) 0 (length o.choices) lec g.choices) b))
      has (tree.If e body) enclosed known suits k c place low lowc t x le lec b = has body enclosed known suits.1 k c place low lowc t x le lec b
      has (tree.IfElse e first second) enclosed known suits k c place low lowc t x le lec b =
          let v = scoped first k c t in
          let g = grown first k c t in
          let one = inner_first t c place low lowc (λ m. cases_in m first) (λ m. cases_in m second) (defaults_in first) (defaults_in second) x in
          let two = inner_on (switches_in first) t v c place low lowc (λ m. cases_in m second) (defaults_in second) g (inner_second t c place low lowc (λ m. cases_in m first) (λ m. cases_in m second) (defaults_in first) (defaults_in second) x) in (
            has first enclosed known suits.1 k c place low lowc t one le lec (settled_before second k c place low lowc v two b),
            subst (λ m. HasChoices s second k m (length t.choices + switches_in first)) (length_more (scopes_in first) t v (scoped_more first k c t))
                (subst (λ m. HasChoices s second k (length v.scopes) m) g.choices (has second enclosed known suits.2 k c place low lowc v two (through low (length t.cases) (length v.cases) le g.cases) (at_least lowc (length t.choices) (switches_in first) (length v.choices) lec g.choices) b)),
          )
      has (tree.While e body) enclosed known suits k c place low lowc t x le lec b = has body by_loop known suits.1 k c place low lowc t x le lec b
      has (tree.Do body e) enclosed known suits k c place low lowc t x le lec b = has body by_loop known suits.0 k c place low lowc t x le lec b
      has (tree.For objects first e step body) enclosed known suits k c place low lowc t x le lec b =
          let outer = length t.scopes in
          let o = with_new_scope k objects t in
          let h = scope_grown k objects t in
          let v = all_scoped first outer c o in
          let g = all_grown first outer c o in
          let on = inner_on 0 t o c place low lowc (λ m. all_cases_in m first + cases_in m body) (all_defaults_in first + defaults_in body) h x in
          let one = inner_first o c place low lowc (λ m. all_cases_in m first) (λ m. cases_in m body) (all_defaults_in first) (defaults_in body) on in
          let two = inner_on (all_switches_in first) o v c place low lowc (λ m. cases_in m body) (defaults_in body) g (inner_second o c place low lowc (λ m. all_cases_in m first) (λ m. cases_in m body) (all_defaults_in first) (defaults_in body) on) in
          let le_o = through low (length t.cases) (length o.cases) le h.cases in
          let lec_o = at_least lowc (length t.choices) 0 (length o.choices) lec h.choices in
          let scopes = length_more (all_scopes_in first) o v (all_more first outer c o) ∙ ap (λ m. m + all_scopes_in first) (length_new k objects t) in
          let switches = g.choices ∙ ap (λ m. m + all_switches_in first) (same_length o t h.choices) in (
            subst (λ m. AllHaveChoices s first outer m (length t.choices)) (length_new k objects t)
                (subst (λ m. AllHaveChoices s first outer (length o.scopes) m) (same_length o t h.choices) (all_have first not_enclosed _ suits.1 outer c place low lowc o one le_o lec_o (settled_before body outer c place low lowc v two b))),
            subst (λ m. HasChoices s body outer m (length t.choices + all_switches_in first)) scopes
                (subst (λ m. HasChoices s body outer (length v.scopes) m) switches (has body by_loop _ suits.4 outer c place low lowc v two (through low (length o.cases) (length v.cases) le_o g.cases) (at_least lowc (length o.choices) (all_switches_in first) (length v.choices) lec_o g.choices) b)),
          )
      has (tree.Switch at e labels has_default values body) enclosed known suits k c place low lowc t x le lec b =
          let count = length labels in
          let number = length t.choices in
          let v = with_choice count t in
          let first = length t.cases in
          let there : number < length v.choices = subst (λ m. number < m) (sym (new_length count t)) (just_below number) in
          let inside : Inner v number first (first + count) (suc number) (λ m. cases_in m body) (defaults_in body) = record {
            cases = λ m some. (there, new_begins count t, sum_less first m count (first + count) (is_below m count (cases_in m body) (suits.2.cases m) some) refl);
            default = λ some. (there, just_below number);
          } in
          let settled : Settled (scoped body k number v) (first + count) (suc number) = record { cases = λ q more less. b.cases q (past low first count q le more) less; choices = λ q more less. b.choices q (past_number lowc number q lec more) less; few = b.few } in (
            choice_is count body (by_switch enclosed) known suits.4 suits.2 k low lowc t le lec b,
            subst (λ m. HasChoices s body k m (suc number)) (choice_scopes count t)
                (subst (λ m. HasChoices s body k (length v.scopes) m) (new_length count t) (has body (by_switch enclosed) known suits.4 k number first (first + count) (suc number) v inside (no_more (first + count) (length v.cases) (new_cases count t)) (no_more (suc number) (length v.choices) (new_length count t)) settled)),
          )
      has (tree.Case m body) enclosed known suits k c place low lowc t x le lec b =
          let o = with_case c m k t in
          let g = case_grown c m k t in
          labelled body k t o (case_scopes c m k t) g.choices (has body enclosed known suits k c place low lowc o (inner_on 0 t o c place low lowc (λ j. cases_in j body) (defaults_in body) g (record { cases = λ j some. x.cases j (second_some (one j m) (cases_in j body) some); default = x.default })) (through low (length t.cases) (length o.cases) le g.cases) (at_least lowc (length t.choices) 0 (length o.choices) lec g.choices) b)
      has (tree.Default body) enclosed known suits k c place low lowc t x le lec b =
          let o = with_default c k t in
          let g = default_grown c k t in
          labelled body k t o (default_scopes c k t) g.choices (has body enclosed known suits k c place low lowc o (inner_on 0 t o c place low lowc (λ j. cases_in j body) (defaults_in body) g (record { cases = x.cases; default = λ some. x.default (second_some 1 (defaults_in body) some) })) (through low (length t.cases) (length o.cases) le g.cases) (at_least lowc (length t.choices) 0 (length o.choices) lec g.choices) b)
      has (tree.Label m body) enclosed known suits k c place low lowc t x le lec b =
          let o = with_label m k t in
          let g = label_grown m k t in
          labelled body k t o (label_scopes m k t) g.choices (has body enclosed known suits k c place low lowc o (inner_on 0 t o c place low lowc (λ j. cases_in j body) (defaults_in body) g x) (through low (length t.cases) (length o.cases) le g.cases) (at_least lowc (length t.choices) 0 (length o.choices) lec g.choices) b)
      has other enclosed known suits k c place low lowc t x le lec b = tt

      all_have : (items : StatementTrees) (enclosed : Enclosure) (known : List ℕ) → AllSuitIn u f enclosed known items → (k c place low lowc : ℕ) (t : TreeView) → Inner t c place low lowc (λ m. all_cases_in m items) (all_defaults_in items) → low ≤ length t.cases → lowc ≤ length t.choices → Settled (all_scoped items k c t) low lowc → AllHaveChoices s items k (length t.scopes) (length t.choices)
      all_have tree.NoMore enclosed known suits k c place low lowc t x le lec b = tt
      all_have (tree.And first rest) enclosed known suits k c place low lowc t x le lec b =
          let v = scoped first k c t in
          let g = grown first k c t in
          let one = inner_first t c place low lowc (λ m. cases_in m first) (λ m. all_cases_in m rest) (defaults_in first) (all_defaults_in rest) x in
          let two = inner_on (switches_in first) t v c place low lowc (λ m. all_cases_in m rest) (all_defaults_in rest) g (inner_second t c place low lowc (λ m. cases_in m first) (λ m. all_cases_in m rest) (defaults_in first) (all_defaults_in rest) x) in (
            has first enclosed known suits.0 k c place low lowc t one le lec (all_settled_before rest k c place low lowc v two b),
            subst (λ m. AllHaveChoices s rest k m (length t.choices + switches_in first)) (length_more (scopes_in first) t v (scoped_more first k c t))
                (subst (λ m. AllHaveChoices s rest k (length v.scopes) m) g.choices (all_have rest enclosed known suits.1 k c place low lowc v two (through low (length t.cases) (length v.cases) le g.cases) (at_least lowc (length t.choices) (switches_in first) (length v.choices) lec g.choices) b)),
          )

-- ---- the switches of a function

pub noted : (s : SettingView) (u : UnitView) (f : FunctionView) (enclosed : Enclosure) (known : List ℕ) → s.scopes ≡ function_scopes f → AllSuitIn u f enclosed known (statement_trees f.body) → IsLabelled f → length (function_scopes f).cases ≤ 2 ^ 32 - 1 → AllHaveChoices s (statement_trees f.body) 1 2 0
noted s u f enclosed known is suits labelled few =
    let start = no_scopes f.labels in
    let outer = with_new_scope 0 [] start in
    let inner = with_new_scope 0 f.scope outer in
    let body = statement_trees f.body in
    let scopes : length inner.scopes ≡ 2 = length_new 0 f.scope outer ∙ ap (λ m. suc m) (length_new 0 [] start) in
    let switches : length inner.choices ≡ 0 = same_length inner outer (scope_grown 0 f.scope outer).choices ∙ same_length outer start (scope_grown 0 [] start).choices in
    let none : Inner inner 0 0 0 0 (λ m. all_cases_in m body) (all_defaults_in body) = record { cases = λ m some. absurd (none_some (all_cases_in m body) (labelled.cases m) some); default = λ some. absurd (none_some (all_defaults_in body) labelled.defaults some) } in
    let settled : Settled s (all_scoped body 1 0 inner) 0 0 = record { cases = λ q le less. ap (λ (x : TreeView). get_or x.cases q 0) is; choices = λ q le less. ap (λ (x : TreeView). get_or x.choices q no_choice) is; few = few } in
    subst (λ m. AllHaveChoices s body 1 m 0) scopes (subst (λ m. AllHaveChoices s body 1 (length inner.scopes) m) switches (all_have s u f body enclosed known suits 1 0 0 0 0 inner none (least (length inner.cases)) (least (length inner.choices)) settled))
