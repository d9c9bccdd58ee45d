-- What items do to the kinds of a function's pending values, the newest one first.
use Rattle.std.specs.Prelude.{◌≡◌, ℕ, zero, suc, Bool, true, false, cond, List, [], ◌∷◌, ◌++◌, Option, Some, None, slice_get}
use Rattle.c_layout.specs.CheckedTrees.{TermTree, StatementTree}
use Rattle.c_layout.specs.CheckedUnits.{FunctionView, UnitView}
use Rattle.c_layout.specs.declared.checked_tree.checked_statements.CaseLabel.{CaseLabel}
use Rattle.lower_templates.specs.Worklist.TermKinds.{is_void}
use Rattle.semantics.specs.SourceMachine.Items as item
use Rattle.semantics.specs.SourceMachine.Items.{Item, Items, listed}
use Rattle.semantics.specs.SourceMachine.LabelSearch.{from_label}
use Rattle.semantics.specs.SourceMachine.SourceStates.{Frame, function_at}
use Rattle.source_items.specs.Operations.Kinds.{Kind, Number, Address, kind_of_type}
use Rattle.source_items.specs.Operations.TakenKinds.{Operates}
use Rattle.source_items.specs.Returns.StandingJumps.{JumpsStand}
use Rattle.source_items.specs.StackKinds.KindedTerms.{IsThere, term_kind, local_kind, HasObject, KindedTerm, KindedPlace}
use Rattle.source_items.specs.StackKinds.KindedStatements.{HasCases, KindedClause, KindedStatement}

-- ---- functions

-- the entry of a run was not called; the value of another function is used or not
abbrev pub called_by : List Frame → Option Bool
called_by [] = None
called_by (caller ∷ callers) = Some caller.used

-- the value that a function leaves on its return
abbrev pub left_kinds : FunctionView → Option Bool → List Kind
left_kinds f None = []
left_kinds f (Some used) = cond (is_void f.returns) [] (cond used (kind_of_type f.returns ∷ []) [])

-- the kinds of so many parameters, the last one first
abbrev pub parameter_kinds : FunctionView → ℕ → List Kind
parameter_kinds f zero = []
parameter_kinds f (suc n) = local_kind f n ∷ parameter_kinds f n

-- a function is called with its parameters, and what it leaves stands in their place
pub record Invokes (u : UnitView) (g count : ℕ) (used : Bool) (before after : List Kind) : Type 0 where
  pub function : FunctionView
  pub below : List Kind
  pub is : function_at u g ≡ Some function
  pub counted : count ≡ function.parameters
  pub taken : before ≡ parameter_kinds function count ++ below
  pub given : after ≡ left_kinds function (Some used) ++ below

-- ---- loops

-- whether items end a loop or switch, where `break` leads
abbrev pub ends_loop : List Item → Bool
ends_loop [] = false
ends_loop (item.LoopEnd ∷ items) = true
ends_loop (i ∷ items) = ends_loop items

-- whether items end a turn, where `continue` leads
abbrev pub ends_turn : List Item → Bool
ends_turn [] = false
ends_turn (item.IterationEnd ∷ items) = true
ends_turn (i ∷ items) = ends_turn items

-- the loops and switches that a statement's jumps need end in the items behind it
pub record Encloses (breaks continues : Bool) (items : List Item) : Type 0 where
  pub at_break : breaks ≡ true → ends_loop items ≡ true
  pub at_continue : continues ≡ true → ends_turn items ≡ true

-- a statement before items
pub record Stands (u : UnitView) (f : FunctionView) (statement : StatementTree) (items : List Item) : Type 0 where
  pub kinded : KindedStatement u f statement
  pub breaks : Bool
  pub continues : Bool
  pub jumps : JumpsStand breaks continues statement
  pub enclosed : Encloses breaks continues items

-- the turn of a loop, before the end of the loop
pub record Turns (u : UnitView) (f : FunctionView) (c clause : Option TermTree) (statement : StatementTree) (items : List Item) : Type 0 where
  pub condition : KindedClause u true c
  pub step : KindedClause u false clause
  pub kinded : KindedStatement u f statement
  pub jumps : JumpsStand true true statement
  pub ends : ends_loop items ≡ true

-- the body of a switch, before the end of the switch
pub record Selects (u : UnitView) (f : FunctionView) (labels : List CaseLabel) (statement : StatementTree) (items : List Item) : Type 0 where
  pub cases : HasCases u labels statement
  pub stands : Stands u f statement items
  pub ends : ends_loop items ≡ true

-- ---- items

-- one value less, or other values above the same ones
abbrev pub Takes : List Kind → List Kind → List Kind → Type 0
Takes taken before after = before ≡ taken ++ after

-- no value of the function is pending
abbrev pub AtRest : List Kind → List Kind → Type 0
AtRest before after = (before ≡ []) × (after ≡ [])

module _ (u : UnitView) (f : FunctionView) (called : Option Bool) where
  abbrev mutual
    -- what an item before others does
    pub Effect : Item → List Item → List Kind → List Kind → Type 0
    Effect (item.Value e) rest before after = KindedTerm u true e × (after ≡ term_kind e ∷ before)
    Effect (item.Unused e) rest before after = KindedTerm u false e × (after ≡ before)
    Effect (item.Address l) rest before after = KindedPlace u l × (after ≡ Address ∷ before)
    Effect (item.Do at operation) rest before after = Operates operation before after
    Effect (item.Truth b) rest before after = after ≡ Number ∷ before
    Effect item.Again rest before after = (k : Kind) × (below : List Kind) × (before ≡ k ∷ below) × (after ≡ k ∷ before)
    Effect item.Drop rest before after = (k : Kind) × Takes (k ∷ []) before after
    Effect (item.Object at o offset) rest before after = HasObject u o × (after ≡ Address ∷ before)
    Effect (item.Literal at n) rest before after = IsThere (slice_get u.literals n) × (after ≡ Address ∷ before)
    Effect (item.Outcome at) rest before after = (is_void f.returns ≡ false) × (after ≡ Address ∷ before)
    Effect (item.OnObject at n how) rest before after = after ≡ before
    Effect (item.Choose at test held failed) rest before after = (k : Kind) × (below : List Kind) × Takes (k ∷ []) before below × AllDo held rest below after × AllDo failed rest below after
    Effect (item.ReadLine at none some) rest before after = (below : List Kind) × Takes (Address ∷ (Number ∷ (Address ∷ []))) before below × AllDo none rest below after × AllDo some rest below after
    Effect (item.Statement statement) rest before after = Stands u f statement rest × AtRest before after
    Effect (item.WhileIteration c statement) rest before after = Turns u f (Some c) None statement rest × AtRest before after
    Effect (item.DoIteration statement c) rest before after = Turns u f (Some c) None statement rest × AtRest before after
    Effect (item.ForIteration c step statement) rest before after = Turns u f c step statement rest × AtRest before after
    Effect item.IterationEnd rest before after = AtRest before after
    Effect item.LoopEnd rest before after = AtRest before after
    Effect (item.Select at o labels statement) rest before after = Selects u f labels statement rest × (before ≡ Number ∷ []) × (after ≡ [])
    Effect (item.Enters objects) rest before after = after ≡ before
    Effect (item.Leaves objects) rest before after = after ≡ before
    Effect item.Hop rest before after = after ≡ before
    Effect (item.GoTo n) rest before after = IsThere (from_label u f n) × AtRest before after
    Effect item.BreakOut rest before after = (ends_loop rest ≡ true) × AtRest before after
    Effect item.NextIteration rest before after = (ends_turn rest ≡ true) × AtRest before after
    Effect item.LeaveFunction rest before after = AtRest before after
    Effect item.EndBody rest before after = (before ≡ []) × (after ≡ left_kinds f called)
    Effect (item.Invoke at g count used) rest before after = Invokes u g count used before after
    Effect (item.Bind at n depth) rest before after = Takes (Address ∷ []) before after × (slice_get after depth ≡ Some (local_kind f n))
    Effect (item.LeaveOutcome at) rest before after = after ≡ before

    -- so each of some items does, with others behind them
    pub AllDo : Items → List Item → List Kind → List Kind → Type 0
    AllDo item.Nothing rest before after = before ≡ after
    AllDo (item.First i items) rest before after = (mid : List Kind) × Effect i (listed items ++ rest) before mid × AllDo items rest mid after

  -- what items do, one after the other
  abbrev pub Does : List Item → List Kind → List Kind → Type 0
  Does [] before after = before ≡ after
  Does (i ∷ items) before after = (mid : List Kind) × Effect i items before mid × Does items mid after
