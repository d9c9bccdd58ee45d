-- What a function that was called still has to do ends the lives of all objects that it names, or will name.
use Rattle.std.specs.Prelude.{◌≡◌, ℕ, Bool, true, List, [], ◌∷◌, ◌++◌, Option, Some}
use Rattle.c_layout.specs.CheckedTrees.{StatementTree}
use Rattle.c_layout.specs.CheckedUnits.{FunctionView, UnitView}
use Rattle.semantics.specs.SourceMachine.Items as item
use Rattle.semantics.specs.SourceMachine.Items.{Item, Items, listed}
use Rattle.semantics.specs.SourceMachine.Scopes.{is_in, past_loop, past_iteration}
use Rattle.semantics.specs.SourceMachine.SourceStates.{Frame, State, function_at}
use Rattle.source_items.specs.Returns.StandingJumps.{JumpsStand}
use Rattle.source_items.specs.Returns.EndedObjects.{ended, AreAmong, EndOwn}

-- items behind a statement: they end the parameters and the result, also behind the loop and behind its turn, where
-- there is one
pub record Encloses (f : FunctionView) (breaks continues : Bool) (items : List Item) : Type 0 where
  pub ends : EndOwn f items
  pub at_break : breaks ≡ true → EndOwn f (past_loop items)
  pub at_continue : continues ≡ true → EndOwn f (past_iteration items)

-- a statement whose jumps have their loops and switches in itself or in the items behind it
pub record Stands (f : FunctionView) (statement : StatementTree) (items : List Item) : Type 0 where
  pub breaks : Bool
  pub continues : Bool
  pub jumps : JumpsStand breaks continues statement
  pub enclosed : Encloses f breaks continues items

-- the turn of a loop, before the end of the loop
pub record Turns (f : FunctionView) (statement : StatementTree) (items : List Item) : Type 0 where
  pub jumps : JumpsStand true true statement
  pub ends : EndOwn f items
  pub at_break : EndOwn f (past_loop items)

-- the body of a switch, before the end of the switch
pub record Selects (f : FunctionView) (statement : StatementTree) (items : List Item) : Type 0 where
  pub stands : Stands f statement items
  pub lands : AreAmong (ended f items) (ended f (past_loop items))

module _ (f : FunctionView) where
  abbrev mutual
    -- what an item enters is ended by the items behind it, and where it may jump to they still end the parameters
    -- and the result
    pub Fits : Item → List Item → Type 0
    Fits (item.Enters objects) items = AreAmong objects (ended f items)
    Fits (item.Choose at test held failed) items = AllFit held items × AllFit failed items
    Fits (item.ReadLine at none some) items = AllFit none items × AllFit some items
    Fits (item.Statement statement) items = Stands f statement items
    Fits (item.WhileIteration c statement) items = Turns f statement items
    Fits (item.DoIteration statement c) items = Turns f statement items
    Fits (item.ForIteration c step statement) items = Turns f statement items
    Fits (item.Select at o labels statement) items = Selects f statement items
    Fits item.BreakOut items = EndOwn f (past_loop items)
    Fits item.NextIteration items = EndOwn f (past_iteration items)
    Fits item.EndBody items = AreAmong (ended f items) []
    Fits i items = Unit {0}

    -- so it is of each of some items, with others behind them
    pub AllFit : Items → List Item → Type 0
    AllFit item.Nothing items = Unit {0}
    AllFit (item.First i rest) items = Fits i (listed rest ++ items) × AllFit rest items

  -- each of the items fits those behind it
  abbrev pub Fit : List Item → Type 0
  Fit [] = Unit {0}
  Fit (i ∷ items) = Fits i items × Fit items

-- whatever a function names is ended by what it has to do, and so is whatever that enters
pub record Leaving (f : FunctionView) (names : ℕ → Option ℕ) (items : List Item) : Type 0 where
  pub covered : (n i : ℕ) → names n ≡ Some i → is_in n (ended f items) ≡ true
  pub fit : Fit f items

-- the function of a number, with what it names and has to do
pub record LeavingAt (u : UnitView) (g : ℕ) (names : ℕ → Option ℕ) (items : List Item) : Type 0 where
  pub function : FunctionView
  pub is : function_at u g ≡ Some function
  pub leaving : Leaving function names items

-- each function that was called leaves what it names; the last one was not called
abbrev pub AllLeaving : UnitView → ℕ → (ℕ → Option ℕ) → List Item → List Frame → Type 0
AllLeaving u g names items [] = Unit {0}
AllLeaving u g names items (c ∷ cs) = LeavingAt u g names items × AllLeaving u c.function c.names c.control cs

-- so it is where a run stands
abbrev pub IsLeaving : UnitView → State → Type 0
IsLeaving u s = AllLeaving u s.function s.names s.control s.frames
