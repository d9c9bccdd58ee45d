-- Statements, functions and units whose terms have operands of their kinds, and whose labels are there.
use Rattle.std.specs.Prelude.{◌≡◌, ℕ, ◌<◌, Bool, true, false, List, [], ◌∷◌, length, Option, Some, None}
use Rattle.c_layout.specs.CheckedTrees as tree
use Rattle.c_layout.specs.CheckedTrees.{TermTree, StatementTree, StatementTrees, statement_trees, StoreTree, StoreValue, StoreCopy, StoreText}
use Rattle.c_layout.specs.CheckedUnits.{FunctionView, UnitView}
use Rattle.c_layout.specs.declared.checked_tree.checked_statements.CaseLabel.{CaseLabel}
use Rattle.lower_templates.specs.Worklist.TermKinds.{is_void}
use Rattle.semantics.specs.SourceMachine.Items.{Item}
use Rattle.semantics.specs.SourceMachine.LabelSearch as sought
use Rattle.semantics.specs.SourceMachine.LabelSearch.{found, from_label}
use Rattle.semantics.specs.SourceMachine.SourceStates.{function_at}
use Rattle.source_items.specs.Operations.Kinds.{Number}
use Rattle.source_items.specs.StackKinds.KindedTerms.{IsThere, term_kind, KindedTerm, KindedPlace}

-- each label of a switch stands in its body
abbrev pub HasCases : UnitView → List CaseLabel → StatementTree → Type 0
HasCases u labels body = (n : ℕ) → n < length labels → (rest : List Item) → IsThere (found u (sought.case n) body rest)

-- a term that may be left out
abbrev pub KindedClause : UnitView → Bool → Option TermTree → Type 0
KindedClause u used None = Unit {0}
KindedClause u used (Some e) = KindedTerm u used e

abbrev pub KindedStore : UnitView → StoreTree → Type 0
KindedStore u (StoreValue offset e) = KindedTerm u true e
KindedStore u (StoreCopy offset l) = KindedPlace u l
KindedStore u (StoreText offset room text) = Unit {0}

abbrev pub KindedStores : UnitView → List StoreTree → Type 0
KindedStores u [] = Unit {0}
KindedStores u (x ∷ xs) = KindedStore u x × KindedStores u xs

-- only a function that is not void returns a value
abbrev pub KindedReturn : UnitView → FunctionView → Option TermTree → Type 0
KindedReturn u f None = Unit {0}
KindedReturn u f (Some e) = KindedTerm u true e × (is_void f.returns ≡ false)

-- a switch selects by a number
abbrev pub KindedSwitch : UnitView → TermTree → List CaseLabel → StatementTree → Type 0
KindedSwitch u e labels body = KindedTerm u true e × (term_kind e ≡ Number) × HasCases u labels body

module _ (u : UnitView) (f : FunctionView) where
  abbrev mutual
    pub KindedStatement : StatementTree → Type 0
    KindedStatement (tree.Value e) = KindedTerm u false e
    KindedStatement tree.Nothing = Unit {0}
    KindedStatement (tree.Forget at local) = Unit {0}
    KindedStatement (tree.Start at local e) = KindedTerm u true e
    KindedStatement (tree.StartCopy at local l) = KindedPlace u l
    KindedStatement (tree.StartList at local stores) = KindedStores u stores
    KindedStatement (tree.Block objects items) = KindedStatements items
    KindedStatement (tree.If c body) = KindedTerm u true c × KindedStatement body
    KindedStatement (tree.IfElse c first second) = KindedTerm u true c × KindedStatement first × KindedStatement second
    KindedStatement (tree.While c body) = KindedTerm u true c × KindedStatement body
    KindedStatement (tree.Do body c) = KindedTerm u true c × KindedStatement body
    KindedStatement (tree.For objects first c step body) = KindedStatements first × KindedClause u true c × KindedClause u false step × KindedStatement body
    KindedStatement (tree.Switch at e labels has_default enumerators body) = KindedSwitch u e labels body × KindedStatement body
    KindedStatement (tree.Case n body) = KindedStatement body
    KindedStatement (tree.Default body) = KindedStatement body
    KindedStatement (tree.Label n body) = KindedStatement body
    KindedStatement (tree.Goto n) = IsThere (from_label u f n)
    KindedStatement tree.Break = Unit {0}
    KindedStatement tree.Continue = Unit {0}
    KindedStatement (tree.Return at e) = KindedReturn u f e

    -- so is each of these statements
    pub KindedStatements : StatementTrees → Type 0
    KindedStatements tree.NoMore = Unit {0}
    KindedStatements (tree.And first rest) = KindedStatement first × KindedStatements rest

abbrev pub KindedFunction : UnitView → FunctionView → Type 0
KindedFunction u f = KindedStatements u f (statement_trees f.body)

-- so are all functions of a unit, and its entry is one of them
pub record KindedUnit (u : UnitView) : Type 0 where
  pub functions : (g : ℕ) (f : FunctionView) → function_at u g ≡ Some f → KindedFunction u f
  pub entry : IsThere (function_at u u.entry)
