-- From a label on, the scopes around it are left.
use Rattle.std.proofs.Common.{◌≡◌, ℕ, suc, ◌+◌, Bool, true, false, List, [], ◌∷◌, ◌++◌, Option, Some, None, refl, sym, subst}
use Rattle.c_layout.specs.CheckedTrees as tree
use Rattle.c_layout.specs.CheckedTrees.{TermTree, StatementTree, StatementTrees, statement_trees}
use Rattle.c_layout.specs.CheckedUnits.{FunctionView}
use Rattle.lower_templates.specs.Worklist.Settings.{SettingView}
use Rattle.semantics.specs.SourceMachine.Items as item
use Rattle.semantics.specs.SourceMachine.Items.{Item}
use Rattle.semantics.specs.SourceMachine.LabelSearch as sought
use Rattle.semantics.specs.SourceMachine.LabelSearch.{Sought, is_label, is_case, is_other, first, here_or, found, found_in, from_label}
use Rattle.semantics.specs.SourceMachine.Scopes.{open_scopes}
use Rattle.semantics.specs.SourceMachine.StatementItems.{statements, do_test, for_step}
use Rattle.simulation_terms.specs.SimulationRelation.Activations.{Activation}
use Rattle.simulation_terms.specs.Scopes.Scopes.{scopes_in, all_scopes_in, IsScope, HasScopes, AllHaveScopes}
use Rattle.simulation_terms.proofs.scopes.FunctionBodies.{same_found}
use Rattle.simulation_terms.proofs.scopes.QuietItems.{statements_quiet, condition_quiet}
use Rattle.simulation_terms.specs.Scopes.Chains.{Chain, outermost, inside}
use Rattle.simulation_statements.specs.Labels.LabelScopes as labels
use Rattle.simulation_statements.specs.Labels.LabelScopes.{either, this_or, stands_in, all_stand_in, IsFound, missing, there}

-- the items behind a body of `for` leave its scope
for_leaves : (e step : Option TermTree) (body : StatementTree) (objects : List ℕ) (rest : List Item) → open_scopes (for_step e step body ++ (item.LoopEnd ∷ (item.Leaves objects ∷ rest))) ≡ objects ∷ open_scopes rest
for_leaves e None body objects rest = refl
for_leaves e (Some x) body objects rest = refl

module _ (s : SettingView) where
  first_found : (one two : Option (List Item)) (a b : Option ℕ) → IsFound s one a → IsFound s two b → IsFound s (first one two) (either a b)
  first_found _ two _ b missing later = later
  first_found _ two _ b (there to number chain) later = there to number chain

  here_found : (is : Bool) (to : List Item) (k : ℕ) (later : Option (List Item)) (b : Option ℕ) → Chain s k (open_scopes to) → IsFound s later b → IsFound s (here_or is to later) (this_or is k b)
  here_found true to k later b chain found = there to k chain
  here_found false to k later b chain found = found

  switch_found : (l : Sought) (one : Option (List Item)) (a : Option ℕ) → IsFound s one a → IsFound s (sought.inside_switch l one) (labels.inside_switch l a)
  switch_found (sought.label n) one a found = found
  switch_found (sought.case n) one a found = missing
  switch_found sought.other one a found = missing

module _ (t : Activation) (s : SettingView) (l : Sought) where
  mutual
    unfolding found found_in

    pub in_scopes : (i : StatementTree) (k c : ℕ) (rest : List Item) → HasScopes s i k c → Chain s k (open_scopes rest) → IsFound s (found t.unit l i rest) (stands_in l i k c)
    in_scopes (tree.Block objects items) k c rest has chain = all_in_scopes items c (suc c) (item.Leaves objects ∷ rest) has.1 (inside c k objects (open_scopes rest) has.0 chain)
    in_scopes (tree.If e body) k c rest has chain = in_scopes body k c rest has chain
    in_scopes (tree.IfElse e one two) k c rest has chain =
        first_found s (found t.unit l one (item.Hop ∷ rest)) (found t.unit l two rest) (stands_in l one k c) (stands_in l two k (c + scopes_in one)) (in_scopes one k c (item.Hop ∷ rest) has.0 chain) (in_scopes two k (c + scopes_in one) rest has.1 chain)
    in_scopes (tree.While e body) k c rest has chain = in_scopes body k c (item.Hop ∷ (item.IterationEnd ∷ (item.WhileIteration e body ∷ (item.LoopEnd ∷ rest)))) has chain
    in_scopes (tree.Do body e) k c rest has chain =
        let quiet = condition_quiet t true e (item.DoIteration body e ∷ []) [] in
        in_scopes body k c (do_test t.unit body e ++ item.LoopEnd ∷ rest) has (subst (λ xs. Chain s k xs) (sym (quiet.scopes (item.LoopEnd ∷ rest))) chain)
    in_scopes (tree.For objects begin e step body) k c rest has chain =
        in_scopes body c (suc c + all_scopes_in begin) (for_step e step body ++ (item.LoopEnd ∷ (item.Leaves objects ∷ rest))) has.2 (subst (λ xs. Chain s c xs) (sym (for_leaves e step body objects rest)) (inside c k objects (open_scopes rest) has.0 chain))
    in_scopes (tree.Switch at e cases has_default values body) k c rest has chain = switch_found s l (found t.unit l body (item.LoopEnd ∷ rest)) (stands_in l body k c) (in_scopes body k c (item.LoopEnd ∷ rest) has chain)
    in_scopes (tree.Case n body) k c rest has chain = here_found s (is_case l n) (item.Statement body ∷ rest) k (found t.unit l body rest) (stands_in l body k c) chain (in_scopes body k c rest has chain)
    in_scopes (tree.Default body) k c rest has chain = here_found s (is_other l) (item.Statement body ∷ rest) k (found t.unit l body rest) (stands_in l body k c) chain (in_scopes body k c rest has chain)
    in_scopes (tree.Label n body) k c rest has chain = here_found s (is_label l n) (item.Statement body ∷ rest) k (found t.unit l body rest) (stands_in l body k c) chain (in_scopes body k c rest has chain)
    in_scopes other k c rest has chain = missing

    pub all_in_scopes : (items : StatementTrees) (k c : ℕ) (rest : List Item) → AllHaveScopes s items k c → Chain s k (open_scopes rest) → IsFound s (found_in t.unit l items rest) (all_stand_in l items k c)
    all_in_scopes tree.NoMore k c rest has chain = missing
    all_in_scopes (tree.And one more) k c rest has chain =
        first_found s (found t.unit l one (statements more ++ rest)) (found_in t.unit l more rest) (stands_in l one k c) (all_stand_in l more k (c + scopes_in one)) (in_scopes one k c (statements more ++ rest) has.0 (subst (λ xs. Chain s k xs) (sym ((statements_quiet more).scopes rest)) chain)) (all_in_scopes more k (c + scopes_in one) rest has.1 chain)

-- ---- the labels of a function

pub of_function : (t : Activation) (s : SettingView) (f : FunctionView) → IsScope s 1 0 f.scope → AllHaveScopes s (statement_trees f.body) 1 2 → (n : ℕ) → IsFound s (from_label t.unit f n) (all_stand_in (sought.label n) (statement_trees f.body) 1 2)
of_function t s f outer has n =
    let rest : List Item = item.Leaves f.scope ∷ (item.EndBody ∷ []) in
    subst (λ there. IsFound s there (all_stand_in (sought.label n) (statement_trees f.body) 1 2)) (same_found t.unit (sought.label n) f.body rest) (all_in_scopes t s (sought.label n) (statement_trees f.body) 1 2 rest has (inside 1 0 f.scope [] outer outermost))
