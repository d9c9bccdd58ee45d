-- The items of statements.
use Rattle.std.specs.Prelude.{ℕ, Bool, true, false, List, [], ◌∷◌, ◌++◌, Option, Some, None}
use Rattle.cc_base.specs.declared.diagnostics.Place.{Place}
use Rattle.c_layout.specs.CheckedTrees as tree
use Rattle.c_layout.specs.CheckedTrees.{TermTree, StatementTree, StatementTrees, StoreTree, StoreValue, StoreCopy, StoreText}
use Rattle.c_layout.specs.CheckedUnits.{UnitView, FunctionView}
use Rattle.c_layout.specs.declared.checked_tree.checked_terms.ObjectRef.TheVariants.{Local}
use Rattle.lower_templates.specs.Worklist.TermKinds.{scalar_of, term_type, lvalue_type}
use Rattle.lower_conditions.specs.Tests.{named}
use Rattle.semantics.specs.SourceMachine.Operations as op
use Rattle.semantics.specs.SourceMachine.Items.{Item, Forget, Clear, Spell, Value, Unused, Address, Do, Drop, Object, Outcome, OnObject, Statement, WhileIteration, DoIteration, ForIteration, IterationEnd, LoopEnd, Select, Enters, Leaves, Hop, GoTo, BreakOut, NextIteration, LeaveFunction, EndBody}
use Rattle.semantics.specs.SourceMachine.ConditionItems.{condition}

abbrev pub statements : StatementTrees → List Item
statements tree.NoMore = []
statements (tree.And first rest) = Statement first ∷ statements rest

-- ---- initializers

abbrev pub start_scalar : Place → ℕ → ℕ → TermTree → List Item
start_scalar at local offset e = Object at (Local local) offset ∷ (Value e ∷ (Do at (op.Store (scalar_of (term_type e))) ∷ (Drop ∷ [])))

abbrev pub stored : Place → ℕ → StoreTree → List Item
stored at local (StoreValue offset e) = start_scalar at local offset e
stored at local (StoreCopy offset l) = Object at (Local local) offset ∷ (Address l ∷ (Do at (op.Copy (lvalue_type l)) ∷ (Drop ∷ [])))
stored at local (StoreText offset room text) = OnObject at local (Spell offset room text) ∷ []

abbrev pub all_stored : Place → ℕ → List StoreTree → List Item
all_stored at local [] = []
all_stored at local (x ∷ xs) = stored at local x ++ all_stored at local xs

-- ---- loops

-- the way back of a loop is a step, unless it is that of its condition
abbrev pub while_iteration : UnitView → TermTree → StatementTree → List Item
while_iteration u c body = condition u true c (Statement body ∷ (Hop ∷ (IterationEnd ∷ (WhileIteration c body ∷ [])))) []

abbrev pub do_test : UnitView → StatementTree → TermTree → List Item
do_test u body c = IterationEnd ∷ condition u true c (DoIteration body c ∷ []) []

abbrev pub do_iteration : UnitView → StatementTree → TermTree → List Item
do_iteration u body c = Statement body ∷ do_test u body c

abbrev pub clause : Option TermTree → List Item
clause None = []
clause (Some e) = Unused e ∷ []

abbrev pub for_step : Option TermTree → Option TermTree → StatementTree → List Item
for_step c step body = IterationEnd ∷ (clause step ++ (Hop ∷ (ForIteration c step body ∷ [])))

abbrev pub for_body : Option TermTree → Option TermTree → StatementTree → List Item
for_body c step body = Statement body ∷ for_step c step body

-- a condition that is left out holds
abbrev pub for_iteration : UnitView → Option TermTree → Option TermTree → StatementTree → List Item
for_iteration u None step body = for_body None step body
for_iteration u (Some c) step body = condition u true c (for_body (Some c) step body) []

-- ---- returns

abbrev pub outcome : Place → TermTree → List Item
outcome at e = Outcome at ∷ (Value e ∷ (Do at (op.Store (scalar_of (term_type e))) ∷ (Drop ∷ [])))

-- the value of the entry is only computed
abbrev pub returned : Bool → Place → Option TermTree → List Item
returned is_entry at None = []
returned true at (Some e) = Value e ∷ (Drop ∷ [])
returned false at (Some e) = outcome at e

-- ---- statements

abbrev pub of_statement : UnitView → Bool → StatementTree → List Item
of_statement u is_entry (tree.Value e) = Unused e ∷ []
of_statement u is_entry tree.Nothing = []
of_statement u is_entry (tree.Forget at local) = OnObject at local Forget ∷ []
of_statement u is_entry (tree.Start at local e) = start_scalar at local 0 e
of_statement u is_entry (tree.StartCopy at local l) = stored at local (StoreCopy 0 l)
of_statement u is_entry (tree.StartList at local stores) = OnObject at local Clear ∷ all_stored at local stores
of_statement u is_entry (tree.Block objects items) = Enters objects ∷ (statements items ++ Leaves objects ∷ [])
of_statement u is_entry (tree.If c body) = condition u true c (Statement body ∷ []) []
of_statement u is_entry (tree.IfElse c first second) = condition u true c (Statement first ∷ (Hop ∷ [])) (Statement second ∷ [])
of_statement u is_entry (tree.While c body) = WhileIteration c body ∷ (LoopEnd ∷ [])
of_statement u is_entry (tree.Do body c) = DoIteration body c ∷ (LoopEnd ∷ [])
of_statement u is_entry (tree.For objects first c step body) = Enters objects ∷ (statements first ++ (ForIteration c step body ∷ (LoopEnd ∷ (Leaves objects ∷ []))))
of_statement u is_entry (tree.Switch at e labels has_default enumerators body) = Value e ∷ (Select at (named e) labels body ∷ (LoopEnd ∷ []))
of_statement u is_entry (tree.Case n body) = Statement body ∷ []
of_statement u is_entry (tree.Default body) = Statement body ∷ []
of_statement u is_entry (tree.Label n body) = Statement body ∷ []
of_statement u is_entry (tree.Goto n) = GoTo n ∷ []
of_statement u is_entry tree.Break = BreakOut ∷ []
of_statement u is_entry tree.Continue = NextIteration ∷ []
of_statement u is_entry (tree.Return at e) = returned is_entry at e ++ LeaveFunction ∷ []

abbrev pub list_statements : List StatementTree → List Item
list_statements [] = []
list_statements (s ∷ ss) = Statement s ∷ list_statements ss

-- what a function does from the end of its prologue on
abbrev pub body : FunctionView → List Item
body f = Enters f.scope ∷ (list_statements f.body ++ (Leaves f.scope ∷ (EndBody ∷ [])))
