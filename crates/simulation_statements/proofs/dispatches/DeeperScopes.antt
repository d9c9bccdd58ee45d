-- From a label in a statement on, the scopes around the statement are open as well.
use Rattle.std.proofs.Common.{◌≡◌, ℕ, Bool, true, false, List, [], ◌∷◌, ◌++◌, Option, Some, None, refl, sym, subst, ◌∙◌, append_assoc}
use Rattle.c_layout.specs.CheckedTrees as tree
use Rattle.c_layout.specs.CheckedTrees.{TermTree, StatementTree, StatementTrees}
use Rattle.semantics.specs.SourceMachine.Items as item
use Rattle.semantics.specs.SourceMachine.Items.{Item}
use Rattle.semantics.specs.SourceMachine.LabelSearch as sought
use Rattle.semantics.specs.SourceMachine.LabelSearch.{Sought, is_label, is_case, is_other, first, here_or, found, found_in}
use Rattle.semantics.specs.SourceMachine.Scopes.{open_scopes}
use Rattle.semantics.specs.SourceMachine.StatementItems.{statements, do_test, for_step}
use Rattle.simulation_terms.specs.SimulationRelation.Activations.{Activation}
use Rattle.simulation_terms.proofs.scopes.QuietItems.{statements_quiet, condition_quiet}

-- such scopes are open, if something is found
pub data Deepens (scopes : List (List ℕ)) : Option (List Item) → Type 0 where
  missing : Deepens scopes None
  there : (to : List Item) (more : List (List ℕ)) → open_scopes to ≡ more ++ scopes → Deepens scopes (Some to)

for_leaves : (e step : Option TermTree) (body : StatementTree) (objects : List ℕ) (rest : List Item) → open_scopes (for_step e step body ++ (item.LoopEnd ∷ (item.Leaves objects ∷ rest))) ≡ objects ∷ open_scopes rest
for_leaves e None body objects rest = refl
for_leaves e (Some x) body objects rest = refl

outer : (objects : List ℕ) (scopes : List (List ℕ)) (o : Option (List Item)) → Deepens (objects ∷ scopes) o → Deepens scopes o
outer objects scopes _ missing = missing
outer objects scopes _ (there to more e) = there to (more ++ objects ∷ []) (e ∙ sym (append_assoc more (objects ∷ []) scopes))

first_deeper : (scopes : List (List ℕ)) (one two : Option (List Item)) → Deepens scopes one → Deepens scopes two → Deepens scopes (first one two)
first_deeper scopes _ two missing later = later
first_deeper scopes _ two (there to more e) later = there to more e

here_deeper : (is : Bool) (to : List Item) (later : Option (List Item)) (scopes : List (List ℕ)) → open_scopes to ≡ scopes → Deepens scopes later → Deepens scopes (here_or is to later)
here_deeper true to later scopes e deeper = there to [] e
here_deeper false to later scopes e deeper = deeper

switch_deeper : (l : Sought) (scopes : List (List ℕ)) (one : Option (List Item)) → Deepens scopes one → Deepens scopes (sought.inside_switch l one)
switch_deeper (sought.label n) scopes one deeper = deeper
switch_deeper (sought.case n) scopes one deeper = missing
switch_deeper sought.other scopes one deeper = missing

module _ (t : Activation) (l : Sought) where
  mutual
    unfolding found found_in

    pub deeper : (i : StatementTree) (rest : List Item) → Deepens (open_scopes rest) (found t.unit l i rest)
    deeper (tree.Block objects items) rest = outer objects (open_scopes rest) (found_in t.unit l items (item.Leaves objects ∷ rest)) (all_deeper items (item.Leaves objects ∷ rest))
    deeper (tree.If e body) rest = deeper body rest
    deeper (tree.IfElse e one two) rest = first_deeper (open_scopes rest) (found t.unit l one (item.Hop ∷ rest)) (found t.unit l two rest) (deeper one (item.Hop ∷ rest)) (deeper two rest)
    deeper (tree.While e body) rest = deeper body (item.Hop ∷ (item.IterationEnd ∷ (item.WhileIteration e body ∷ (item.LoopEnd ∷ rest))))
    deeper (tree.Do body e) rest =
        let inside : List Item = do_test t.unit body e ++ item.LoopEnd ∷ rest in
        subst (λ xs. Deepens xs (found t.unit l body inside)) ((condition_quiet t true e (item.DoIteration body e ∷ []) []).scopes (item.LoopEnd ∷ rest)) (deeper body inside)
    deeper (tree.For objects begin e step body) rest =
        let inside : List Item = for_step e step body ++ (item.LoopEnd ∷ (item.Leaves objects ∷ rest)) in
        outer objects (open_scopes rest) (found t.unit l body inside) (subst (λ xs. Deepens xs (found t.unit l body inside)) (for_leaves e step body objects rest) (deeper body inside))
    deeper (tree.Switch at e cases has_default values body) rest = switch_deeper l (open_scopes rest) (found t.unit l body (item.LoopEnd ∷ rest)) (deeper body (item.LoopEnd ∷ rest))
    deeper (tree.Case n body) rest = here_deeper (is_case l n) (item.Statement body ∷ rest) (found t.unit l body rest) (open_scopes rest) refl (deeper body rest)
    deeper (tree.Default body) rest = here_deeper (is_other l) (item.Statement body ∷ rest) (found t.unit l body rest) (open_scopes rest) refl (deeper body rest)
    deeper (tree.Label n body) rest = here_deeper (is_label l n) (item.Statement body ∷ rest) (found t.unit l body rest) (open_scopes rest) refl (deeper body rest)
    deeper other rest = missing

    all_deeper : (items : StatementTrees) (rest : List Item) → Deepens (open_scopes rest) (found_in t.unit l items rest)
    all_deeper tree.NoMore rest = missing
    all_deeper (tree.And one more) rest =
        first_deeper (open_scopes rest) (found t.unit l one (statements more ++ rest)) (found_in t.unit l more rest) (subst (λ xs. Deepens xs (found t.unit l one (statements more ++ rest))) ((statements_quiet more).scopes rest) (deeper one (statements more ++ rest))) (all_deeper more rest)
