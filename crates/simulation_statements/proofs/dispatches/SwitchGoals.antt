-- Where the labels of a switch lead: into its body, or behind it, where it has no default label.
use Rattle.std.proofs.Common.{◌≡◌, ◌≤◌, ℕ, ◌+◌, List, [], ◌∷◌, ◌++◌, Option, Some, None, refl, ap, sym, subst, ◌∙◌}
use Rattle.c_layout.specs.CheckedTrees as tree
use Rattle.c_layout.specs.CheckedTrees.{StatementTree}
use Rattle.c_layout.specs.CheckedUnits.{UnitView, FunctionView}
use Rattle.lower_template_theorems.specs.PendingLabels.Marks.{cases_in}
use Rattle.lower_template_theorems.proofs.pending_labels.LabelCounts.{same_cases}
use Rattle.lower_templates.specs.Worklist.Settings.{SettingView}
use Rattle.lower_templates.specs.declared.worklist.pending_works.Landing.{Landing}
use Rattle.semantics.specs.SourceMachine.BranchSteps.{landing}
use Rattle.semantics.specs.SourceMachine.Items as item
use Rattle.semantics.specs.SourceMachine.Items.{Item}
use Rattle.semantics.specs.SourceMachine.LabelSearch.{Sought, case, found}
use Rattle.semantics.specs.SourceMachine.LabelSearch as sought
use Rattle.semantics.specs.SourceMachine.Scopes.{all_of, inwards, without, open_scopes}
use Rattle.simulation_terms.specs.SimulationRelation.Activations.{Activation}
use Rattle.simulation_terms.specs.Scopes.Chains.{Chain, AreApart}
use Rattle.simulation_terms.specs.Scopes.Scopes.{HasScopes}
use Rattle.simulation_terms.specs.Scopes.SuitedStatements.{Enclosure, SuitsIn}
use Rattle.simulation_terms.proofs.scopes.Contexts.{self_in, inwards_in}
use Rattle.simulation_terms.proofs.scopes.Ways.{all_in, chain_there}
use Rattle.simulation_statements.specs.Labels.FoundLabels.{IsThere}
use Rattle.simulation_statements.specs.Labels.LabelScopes as labels
use Rattle.simulation_statements.specs.Labels.LabelScopes.{stands_in, IsFound}
use Rattle.simulation_statements.proofs.labels.CountedScopes.{suited_found}
use Rattle.simulation_statements.proofs.labels.LabelScopes.{in_scopes}
use Rattle.simulation_statements.specs.ScopeExits.Between as between
use Rattle.simulation_statements.specs.ScopeExits.Between.{Between}
use Rattle.simulation_statements.proofs.scope_exits.WaysOfChains.{way_of}
use Rattle.simulation_statements.proofs.dispatches.DeeperScopes.{Deepens, missing, there, deeper}
use Rattle.simulation_statements.proofs.dispatches.SwitchBlocks.{Comes, to_label, to_end, Goal}

never : (to : List Item) → None ≡ Some to → ⊥
never to e = cc

some_is : (x to : List Item) → Some x ≡ Some to → x ≡ to
some_is x to e = cc

-- all scopes that are open behind are open there
all_open : (here known more : List (List ℕ)) → known ≡ more ++ here → all_of known ≡ all_of more ++ all_of here
all_open here known more e = ap all_of e ∙ all_on more
  where
    all_on : (more : List (List ℕ)) → all_of (more ++ here) ≡ all_of more ++ all_of here
    all_on [] = refl
    all_on (x ∷ more) = ap (λ xs. x ++ xs) (all_on more) ∙ sym (assoc x (all_of more) (all_of here))
      where
        assoc : (xs ys zs : List ℕ) → (xs ++ ys) ++ zs ≡ xs ++ (ys ++ zs)
        assoc [] ys zs = refl
        assoc (x ∷ xs) ys zs = ap (λ us. x ∷ us) (assoc xs ys zs)

none_left : (here known more : List (List ℕ)) → known ≡ more ++ here → without (all_of known) (all_of here) ≡ []
none_left here known more e = subst (λ xs. without xs (all_of here) ≡ []) (sym (all_open here known more e)) (all_in (all_of more ++ all_of here) (all_of here) (self_in (all_of here) (all_of more)))

-- the way behind a label that is found
record IsDeep (scopes : List (List ℕ)) (to : List Item) : Type 0 where
  more : List (List ℕ)
  is : open_scopes to ≡ more ++ scopes

deep : (scopes : List (List ℕ)) (o : Option (List Item)) (to : List Item) → Deepens scopes o → o ≡ Some to → IsDeep scopes to
deep scopes _ to missing e = absurd (never to e)
deep scopes _ to (there x more is) e = record { more = more; is = ap open_scopes (sym (some_is x to e)) ∙ is }

module _ (t : Activation) (s : SettingView) (apart : AreApart s) (body : StatementTree) (items : List Item) (from : ℕ) (chain : Chain s from (open_scopes items)) where
  abbrev behind : List Item
  behind = item.LoopEnd ∷ items

  -- a label that is found in some scope
  pub goal_found : (l : Sought) (mark after : ℕ) (to_scope : Landing) (to : List Item) → found t.unit l body behind ≡ Some to → to_scope.label ≡ mark → Chain s to_scope.scope (open_scopes to) → Goal t s body items from l mark after to_scope
  goal_found l mark after to_scope to is label into =
      let x = deep (open_scopes items) (found t.unit l body behind) to (deeper t l body behind) is in
      let w = way_of s apart from to_scope.scope (open_scopes items) (open_scopes to) chain into in
      record {
        to = to;
        comes = subst (λ k. Comes t body items l mark after to k) (sym label) (to_label to is);
        lands = ap (λ o. landing l o behind) is;
        objects = w.enters;
        between = subst (λ xs. Between s from to_scope.scope xs w.enters) (sym w.left ∙ none_left (open_scopes items) (open_scopes to) x.more x.is) w.between;
        entered = w.entered;
        is_there = chain_there s to_scope.scope (open_scopes to) into;
      }

  -- behind the switch
  pub goal_behind : (mark after : ℕ) → found t.unit sought.other body behind ≡ None → Goal t s body items from sought.other mark after (record { label = after; scope = from })
  goal_behind mark after is = record {
    to = items;
    comes = to_end;
    lands = ap (λ o. landing sought.other o behind) is;
    objects = [];
    between = between.here from;
    entered = all_in (all_of (open_scopes items)) (inwards (open_scopes items)) (inwards_in (open_scopes items));
    is_there = chain_there s from (open_scopes items) chain;
  }

  -- the scope in which a label stands that is found
  record HasScope (o : Option ℕ) (to : List Item) : Type 0 where
    number : ℕ
    is : o ≡ Some number
    into : Chain s number (open_scopes to)

  scope_of : (o : Option (List Item)) (noted : Option ℕ) (to : List Item) → IsFound s o noted → o ≡ Some to → HasScope noted to
  scope_of _ _ to labels.missing e = absurd (never to e)
  scope_of _ _ to (labels.there x number into) e = record { number = number; is = refl; into = subst (λ xs. Chain s number (open_scopes xs)) (some_is x to e) into }

  -- a case
  pub goal_of_case : (c : ℕ) → HasScopes s body from c → (i mark after : ℕ) (to_scope : Landing) → IsThere (found t.unit (case i) body behind) → to_scope.label ≡ mark → ((scope : ℕ) → stands_in (case i) body from c ≡ Some scope → to_scope.scope ≡ scope) → Goal t s body items from (case i) mark after to_scope
  goal_of_case c has i mark after to_scope is_there label noted =
      let x = scope_of (found t.unit (case i) body behind) (stands_in (case i) body from c) is_there.to (in_scopes t s (case i) body from c behind has chain) is_there.is in
      goal_found (case i) mark after to_scope is_there.to is_there.is label (subst (λ k. Chain s k (open_scopes is_there.to)) (sym (noted x.number x.is)) x.into)

-- a case is found where it is counted
pub is_found : (u : UnitView) (f : FunctionView) (l : ℕ) (i : StatementTree) (enclosed : Enclosure) (known : List ℕ) (rest : List Item) → SuitsIn u f enclosed known i → 1 ≤ cases_in l i → IsThere (found u (case l) i rest)
is_found u f l i enclosed known rest suits some = suited_found (case l) u f i enclosed known rest suits (subst (λ m. 1 ≤ m) (same_cases l i) some)
