-- What is proved of all statements: that their items follow in their pieces, and that what is left to do from their labels
-- on follows behind the marks of these.
use Rattle.std.proofs.Common.{◌≡◌, ℕ, List, ◌∷◌, [], Some, None, refl, subst}
use Rattle.c_layout.specs.CheckedTrees as tree
use Rattle.c_layout.specs.CheckedTrees.{StatementTree, StatementTrees, StoreValue, StoreCopy}
use Rattle.c_layout.specs.CheckedUnits.{FunctionView}
use Rattle.lower_templates.specs.Worklist.Settings.{SettingView}
use Rattle.lower_templates.specs.Worklist.Works as jobs
use Rattle.lower_templates.specs.Worklist.Works.{behind}
use Rattle.lower_templates.specs.declared.worklist.pending_works.Surroundings.{Surroundings}
use Rattle.lower_functions.specs.Statements.Switches.{dispatch_at}
use Rattle.semantics.specs.SourceMachine.Items as item
use Rattle.semantics.specs.SourceMachine.Items.{Item}
use Rattle.semantics.specs.SourceMachine.LabelSearch.{Sought, is_label, is_case, is_other, found, found_in}
use Rattle.simulation_terms.specs.SimulationRelation.Activations.{Activation}
use Rattle.simulation_terms.proofs.simulation_relation.Constructions.{gives_statement}
use Rattle.simulation_terms.specs.Worklists.TemplateParts.{IsOfUnit, Ends}
use Rattle.simulation_terms.specs.Scopes.Contexts.{Within}
use Rattle.simulation_terms.specs.Scopes.SuitedStatements.{Enclosure}
use Rattle.simulation_terms.proofs.scopes.Positions.{Position, past, past_none, none_past}
use Rattle.simulation_terms.proofs.scopes.InScopes.{Goes}
use Rattle.simulation_statements.specs.Gotos.Gotos.{HasLabels}
use Rattle.simulation_statements.proofs.statements.Declarations.{of_stores, of_list, of_forget, of_value, of_nothing}
use Rattle.simulation_statements.proofs.jumps.Jumps.{breaks, continues, goes_to}
use Rattle.simulation_statements.proofs.jumps.Returns.{returns}
use Rattle.simulation_statements.proofs.statements.Sequences.{AboutStatement, AboutStatements, of_none, of_more}
use Rattle.simulation_statements.proofs.statements.Selections.{of_block, of_if, of_if_else}
use Rattle.simulation_statements.proofs.statements.Loops.{of_while, of_do}
use Rattle.simulation_statements.proofs.statements.ForLoops.{of_for}
use Rattle.simulation_statements.proofs.statements.Labelled.{of_labelled}
use Rattle.simulation_statements.proofs.bodies.FoundLabelled.{found_labelled, label_mark, case_mark, default_mark}
use Rattle.simulation_statements.proofs.bodies.FoundLoops.{found_while, found_do, found_for}
use Rattle.simulation_statements.proofs.bodies.Switches.{of_switch, found_switch}
use Rattle.simulation_statements.proofs.bodies.FoundSelections.{FoundStatement, FoundStatements, found_no_more, found_more, found_block, found_if, found_if_else}

module _ (s : SettingView) (t : Activation) (fits : IsOfUnit t s) (f : FunctionView) (has : HasLabels t s f) (ends : Ends s t f) where
  -- a statement that begins no scope
  no_scope : (i : StatementTree) (n : ℕ) (around : Surroundings) (looping : Enclosure) (known : List ℕ) (c : Position) → Goes s t n c c (Within s t n around looping known) (jobs.Statement i around ∷ []) (item.Statement i ∷ []) → Goes s t n c (past_none c) (Within s t n around looping known) (jobs.Statement i around ∷ []) (item.Statement i ∷ [])
  no_scope i n around looping known c g = subst (λ k. Goes s t n c k (Within s t n around looping known) (jobs.Statement i around ∷ []) (item.Statement i ∷ [])) (none_past c) g

  -- a statement in which there are no labels
  no_label : (i : StatementTree) → ((l : Sought) (items : List Item) → found t.unit l i items ≡ None) → FoundStatement s t f i
  no_label i none n around looping known c suits scopes = record { from = λ p no_jobs begun ps r m known items rest stands k f l mark is to e. absurd (never to (subst (λ o. o ≡ Some to) (none l items) e)) }
    where
      never : (to : List Item) → None ≡ Some to → ⊥
      never to e = cc

  mutual
    unfolding found found_in

    pub about : (i : StatementTree) → AboutStatement s t f i
    about (tree.Value e) = λ n around looping known c suits scopes. no_scope (tree.Value e) n around looping known c (of_value s t fits n around (Within s t n around looping known) c e suits)
    about tree.Nothing = λ n around looping known c suits scopes. no_scope tree.Nothing n around looping known c (of_nothing s t fits n around (Within s t n around looping known) c)
    about (tree.Forget at local) = λ n around looping known c suits scopes. no_scope (tree.Forget at local) n around looping known c (of_forget s t fits n around (Within s t n around looping known) c at local)
    about (tree.Start at local e) = λ n around looping known c suits scopes. no_scope (tree.Start at local e) n around looping known c (of_stores s t fits n around (Within s t n around looping known) c (tree.Start at local e) at local (StoreValue 0 e ∷ []) (λ p. refl) refl (suits, tt))
    about (tree.StartCopy at local l) = λ n around looping known c suits scopes. no_scope (tree.StartCopy at local l) n around looping known c (of_stores s t fits n around (Within s t n around looping known) c (tree.StartCopy at local l) at local (StoreCopy 0 l ∷ []) (λ p. refl) refl (suits, tt))
    about (tree.StartList at local stores) = λ n around looping known c suits scopes. no_scope (tree.StartList at local stores) n around looping known c (of_list s t fits n around (Within s t n around looping known) c at local stores suits)
    about (tree.Block objects items) = of_block s t fits f objects items (all_about items)
    about (tree.If e body) = of_if s t fits f e body (about body)
    about (tree.IfElse e first second) = of_if_else s t fits f e first second (about first) (about second)
    about (tree.While e body) = of_while s t fits f e body (about body)
    about (tree.Do body e) = of_do s t fits f body e (about body)
    about (tree.For objects first test step body) = of_for s t fits f objects first test step body (all_about first) (about body)
    about (tree.Switch at e labels has_default values body) = of_switch s t fits f has at e labels has_default values body (about body) (finds body)
    about (tree.Case k body) = λ n around looping known c suits scopes. of_labelled s t fits n c (past c body) (Within s t n around looping known) body around (tree.Case k body) (λ p. behind (dispatch_at p around.choice).cases k) (λ p. refl) (gives_statement n 0 (tree.Case k body)) (about body n around looping known c suits scopes)
    about (tree.Default body) = λ n around looping known c suits scopes. of_labelled s t fits n c (past c body) (Within s t n around looping known) body around (tree.Default body) (λ p. (dispatch_at p around.choice).fallback) (λ p. refl) (gives_statement n 0 (tree.Default body)) (about body n around looping known c suits scopes)
    about (tree.Label k body) = λ n around looping known c suits scopes. of_labelled s t fits n c (past c body) (Within s t n around looping known) body around (tree.Label k body) (λ p. k) (λ p. refl) (gives_statement n 0 (tree.Label k body)) (about body n around looping known c suits scopes)
    about (tree.Goto k) = λ n around looping known c suits scopes. no_scope (tree.Goto k) n around looping known c (goes_to s t fits n around looping known c f has k suits)
    about tree.Break = λ n around looping known c suits scopes. no_scope tree.Break n around looping known c (breaks s t fits n around looping known c suits)
    about tree.Continue = λ n around looping known c suits scopes. no_scope tree.Continue n around looping known c (continues s t fits n around looping known c suits)
    about (tree.Return at e) = λ n around looping known c suits scopes. no_scope (tree.Return at e) n around looping known c (returns s t fits n around looping known c f has.is ends at e suits)

    pub all_about : (items : StatementTrees) → AboutStatements s t f items
    all_about tree.NoMore = of_none s t f
    all_about (tree.And first rest) = of_more s t f first rest (about first) (all_about rest)

    pub finds : (i : StatementTree) → FoundStatement s t f i
    finds (tree.Value e) = no_label (tree.Value e) (λ l items. refl)
    finds tree.Nothing = no_label tree.Nothing (λ l items. refl)
    finds (tree.Forget at local) = no_label (tree.Forget at local) (λ l items. refl)
    finds (tree.Start at local e) = no_label (tree.Start at local e) (λ l items. refl)
    finds (tree.StartCopy at local x) = no_label (tree.StartCopy at local x) (λ l items. refl)
    finds (tree.StartList at local stores) = no_label (tree.StartList at local stores) (λ l items. refl)
    finds (tree.Block objects items) = found_block s t fits f objects items (all_about items) (all_finds items)
    finds (tree.If e body) = found_if s t fits f e body (about body) (finds body)
    finds (tree.IfElse e first second) = found_if_else s t fits f e first second (about first) (about second) (finds first) (finds second)
    finds (tree.While e body) = found_while s t fits f e body (about body) (finds body)
    finds (tree.Do body e) = found_do s t fits f body e (about body) (finds body)
    finds (tree.For objects first test step body) = found_for s t fits f objects first test step body (all_about first) (about body) (finds body)
    finds (tree.Switch at e labels has_default values body) = found_switch s t fits f has at e labels has_default values body (finds body)
    finds (tree.Case k body) = λ n around looping known c suits scopes. found_labelled s t fits n around.choice c (past c body) (Within s t n around looping known) body around (about body n around looping known c suits scopes) (finds body n around looping known c suits scopes) (tree.Case k body) (λ l. is_case l k) (λ p. behind (dispatch_at p around.choice).cases k) (λ p. refl) (λ p l m is e. case_mark p around.choice k l m is e)
    finds (tree.Default body) = λ n around looping known c suits scopes. found_labelled s t fits n around.choice c (past c body) (Within s t n around looping known) body around (about body n around looping known c suits scopes) (finds body n around looping known c suits scopes) (tree.Default body) is_other (λ p. (dispatch_at p around.choice).fallback) (λ p. refl) (λ p l m is e. default_mark p around.choice l m is e)
    finds (tree.Label k body) = λ n around looping known c suits scopes. found_labelled s t fits n around.choice c (past c body) (Within s t n around looping known) body around (about body n around looping known c suits scopes) (finds body n around looping known c suits scopes) (tree.Label k body) (λ l. is_label l k) (λ p. k) (λ p. refl) (λ p l m is e. label_mark p around.choice k l m is e)
    finds (tree.Goto k) = no_label (tree.Goto k) (λ l items. refl)
    finds tree.Break = no_label tree.Break (λ l items. refl)
    finds tree.Continue = no_label tree.Continue (λ l items. refl)
    finds (tree.Return at e) = no_label (tree.Return at e) (λ l items. refl)

    pub all_finds : (items : StatementTrees) → FoundStatements s t f items
    all_finds tree.NoMore = found_no_more s t f
    all_finds (tree.And first rest) = found_more s t f first rest (about first) (all_about rest) (finds first) (all_finds rest)
