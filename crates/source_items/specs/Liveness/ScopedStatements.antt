-- Statements whose local objects live where the statements stand.
use Rattle.std.specs.Prelude.{◌≡◌, ◌≤◌, ℕ, Bool, true, false, List, [], ◌∷◌, length, Option, Some, None}
use Rattle.c_layout.specs.CheckedTrees as tree
use Rattle.c_layout.specs.CheckedTrees.{TermTree, StatementTree, StatementTrees, statement_trees, StoreTree, StoreValue, StoreCopy, StoreText}
use Rattle.c_layout.specs.CheckedUnits.{UnitView, FunctionView}
use Rattle.lower_templates.specs.Worklist.TermKinds.{is_void}
use Rattle.semantics.specs.SourceMachine.SourceStates.{function_at}
use Rattle.source_items.specs.Liveness.Lives.{Lives, with_those, kept, AreNew}
use Rattle.source_items.specs.Liveness.ScopedTerms.{ScopedPlace, ScopedTerm, ScopedIf}

-- ---- initializers

abbrev pub ScopedStore : Lives → StoreTree → Type 0
ScopedStore alive (StoreValue offset e) = ScopedTerm alive e
ScopedStore alive (StoreCopy offset l) = ScopedPlace alive l
ScopedStore alive (StoreText offset room text) = Unit {0}

abbrev pub ScopedStores : Lives → List StoreTree → Type 0
ScopedStores alive [] = Unit {0}
ScopedStores alive (x ∷ xs) = ScopedStore alive x × ScopedStores alive xs

-- ---- statements

-- a value is returned where the function has a result
abbrev pub ScopedReturn : FunctionView → Lives → Option TermTree → Type 0
ScopedReturn f alive None = Unit {0}
ScopedReturn f alive (Some e) = ScopedTerm alive e × (is_void f.returns ≡ false)

module _ (f : FunctionView) where
  abbrev mutual
    -- a statement of the function, where such objects live around it; those of its blocks are new where these begin
    pub ScopedStatement : Lives → StatementTree → Type 0
    ScopedStatement alive (tree.Value e) = ScopedTerm alive e
    ScopedStatement alive tree.Nothing = Unit {0}
    ScopedStatement alive (tree.Forget at local) = alive local ≡ true
    ScopedStatement alive (tree.Start at local e) = (alive local ≡ true) × ScopedTerm alive e
    ScopedStatement alive (tree.StartCopy at local l) = (alive local ≡ true) × ScopedPlace alive l
    ScopedStatement alive (tree.StartList at local stores) = (alive local ≡ true) × ScopedStores alive stores
    ScopedStatement alive (tree.Block objects items) = AreNew objects alive × ScopedStatements (with_those objects alive) items
    ScopedStatement alive (tree.If c body) = ScopedTerm alive c × ScopedStatement alive body
    ScopedStatement alive (tree.IfElse c first second) = ScopedTerm alive c × ScopedStatement alive first × ScopedStatement alive second
    ScopedStatement alive (tree.While c body) = ScopedTerm alive c × ScopedStatement alive body
    ScopedStatement alive (tree.Do body c) = ScopedTerm alive c × ScopedStatement alive body
    ScopedStatement alive (tree.For objects first c step body) = AreNew objects alive × ScopedStatements (with_those objects alive) first × ScopedIf (with_those objects alive) c × ScopedIf (with_those objects alive) step × ScopedStatement (with_those objects alive) body
    ScopedStatement alive (tree.Switch at e labels has_default enumerators body) = ScopedTerm alive e × ScopedStatement alive body
    ScopedStatement alive (tree.Case n body) = ScopedStatement alive body
    ScopedStatement alive (tree.Default body) = ScopedStatement alive body
    ScopedStatement alive (tree.Label n body) = ScopedStatement alive body
    ScopedStatement alive (tree.Goto n) = Unit {0}
    ScopedStatement alive tree.Break = Unit {0}
    ScopedStatement alive tree.Continue = Unit {0}
    ScopedStatement alive (tree.Return at e) = ScopedReturn f alive e

    pub ScopedStatements : Lives → StatementTrees → Type 0
    ScopedStatements alive tree.NoMore = Unit {0}
    ScopedStatements alive (tree.And first rest) = ScopedStatement alive first × ScopedStatements alive rest

-- ---- functions

-- a function as the entry or as one that is called: the parameters are the first of its locals, and what it names lives
pub record ScopedFunction (f : FunctionView) (is_entry : Bool) : Type 0 where
  pub parameters : f.parameters ≤ length f.locals
  pub scope : AreNew f.scope (kept f is_entry)
  pub body : ScopedStatements f (with_those f.scope (kept f is_entry)) (statement_trees f.body)

-- so it is of each function of a unit that has its entry
pub record ScopedUnit (u : UnitView) : Type 0 where
  pub functions : (g : ℕ) (f : FunctionView) → function_at u g ≡ Some f → (is_entry : Bool) → ScopedFunction f is_entry
  pub entry : FunctionView
  pub is_entry : function_at u u.entry ≡ Some entry
