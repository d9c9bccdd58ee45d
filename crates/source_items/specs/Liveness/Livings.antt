-- What a function names lives where it stands, and so it stays whatever the function still has to do.
use Rattle.std.specs.Prelude.{◌≡◌, ℕ, Bool, true, false, List, [], ◌∷◌, ◌++◌, Option, Some, None, is_some}
use Rattle.c_layout.specs.CheckedTrees.{TermTree, StatementTree}
use Rattle.c_layout.specs.CheckedUnits.{FunctionView, UnitView}
use Rattle.semantics.specs.SourceMachine.Items as item
use Rattle.semantics.specs.SourceMachine.Items.{Item, Items, listed}
use Rattle.semantics.specs.SourceMachine.Scopes.{open_scopes, past_loop, past_iteration}
use Rattle.semantics.specs.SourceMachine.SourceStates.{Frame, State, function_at, result_object}
use Rattle.semantics.specs.SourceMachine.SourceSteps.{is_entry}
use Rattle.source_items.specs.Returns.StandingJumps.{JumpsStand}
use Rattle.source_items.specs.Liveness.Lives.{lives, AreNew, AreAlive, IsInBody}
use Rattle.source_items.specs.Liveness.ScopedTerms.{IsThere, ScopedPlace, ScopedTerm, ScopedIf}
use Rattle.source_items.specs.Liveness.ScopedStatements.{ScopedStatement}

-- items behind a statement of a function, of the entry that runs first or of one that was called: they are in a body, also
-- behind the loop and behind its turn, where there is one
pub record Encloses (f : FunctionView) (first : Bool) (breaks continues : Bool) (items : List Item) : Type 0 where
  pub here : IsInBody f first items
  pub at_break : breaks ≡ true → IsInBody f first (past_loop items)
  pub at_continue : continues ≡ true → IsInBody f first (past_iteration items)

-- a statement where what it names lives, whose jumps have their loops and switches in itself or in the items behind it
pub record Stands (f : FunctionView) (first : Bool) (statement : StatementTree) (items : List Item) : Type 0 where
  pub breaks : Bool
  pub continues : Bool
  pub jumps : JumpsStand breaks continues statement
  pub scoped : ScopedStatement f (lives f first items) statement
  pub enclosed : Encloses f first breaks continues items

-- the turn of a loop, before the end of the loop
pub record Turns (f : FunctionView) (first : Bool) (condition step : Option TermTree) (statement : StatementTree) (items : List Item) : Type 0 where
  pub jumps : JumpsStand true true statement
  pub scoped : ScopedStatement f (lives f first items) statement
  pub tested : ScopedIf (lives f first items) condition
  pub stepped : ScopedIf (lives f first items) step
  pub here : IsInBody f first items
  pub at_break : IsInBody f first (past_loop items)

-- the body of a switch, before the end of the switch
pub record Selects (f : FunctionView) (first : Bool) (statement : StatementTree) (items : List Item) : Type 0 where
  pub stands : Stands f first statement items
  pub lands : IsInBody f first (past_loop items)
  pub same : open_scopes (past_loop items) ≡ open_scopes items

-- items that may be chosen enter and leave nothing
abbrev pub Keeps : FunctionView → Bool → Items → List Item → Type 0
Keeps f first chosen items = lives f first (listed chosen ++ items) ≡ lives f first items

module _ (f : FunctionView) (first : Bool) where
  abbrev mutual
    -- what an item names lives, what it enters lives behind it, and what it leaves does not
    pub Sits : Item → List Item → Type 0
    Sits (item.Value e) items = ScopedTerm (lives f first items) e
    Sits (item.Unused e) items = ScopedTerm (lives f first items) e
    Sits (item.Address l) items = ScopedPlace (lives f first items) l
    Sits (item.Object at o offset) items = IsThere (lives f first items) o
    Sits (item.Outcome at) items = lives f first items (result_object f) ≡ true
    Sits (item.OnObject at n how) items = lives f first items n ≡ true
    Sits (item.Choose at test held failed) items = Keeps f first held items × AllSit held items × Keeps f first failed items × AllSit failed items
    Sits (item.ReadLine at none some) items = Keeps f first none items × AllSit none items × Keeps f first some items × AllSit some items
    Sits (item.Statement statement) items = Stands f first statement items
    Sits (item.WhileIteration c statement) items = Turns f first (Some c) None statement items
    Sits (item.DoIteration statement c) items = Turns f first (Some c) None statement items
    Sits (item.ForIteration c step statement) items = Turns f first c step statement items
    Sits (item.Select at o labels statement) items = Selects f first statement items
    Sits (item.Enters objects) items = AreAlive objects (lives f first items)
    Sits (item.Leaves objects) items = AreNew objects (lives f first items)
    Sits (item.GoTo n) items = IsInBody f first items
    Sits item.BreakOut items = IsInBody f first items × IsInBody f first (past_loop items)
    Sits item.NextIteration items = IsInBody f first items × IsInBody f first (past_iteration items)
    Sits item.LeaveFunction items = IsInBody f first items
    Sits (item.LeaveOutcome at) items = lives f first items (result_object f) ≡ false
    Sits i items = Unit {0}

    -- so it is of each of some items, with others behind them
    pub AllSit : Items → List Item → Type 0
    AllSit item.Nothing items = Unit {0}
    AllSit (item.First i rest) items = Sits i (listed rest ++ items) × AllSit rest items

  -- each of the items sits before those behind it
  abbrev pub Sit : List Item → Type 0
  Sit [] = Unit {0}
  Sit (i ∷ items) = Sits i items × Sit items

-- a function names just what lives before what it has to do, and that sits
pub record Living (f : FunctionView) (first : Bool) (names : ℕ → Option ℕ) (items : List Item) : Type 0 where
  pub named : (n : ℕ) → is_some (names n) ≡ lives f first items n
  pub sit : Sit f first items

-- the function of a number, with what it names and has to do; the first one was not called
pub record LivingAt (u : UnitView) (g : ℕ) (first : Bool) (names : ℕ → Option ℕ) (items : List Item) : Type 0 where
  pub function : FunctionView
  pub is : function_at u g ≡ Some function
  pub living : Living function first names items

-- so it is of each function that waits
abbrev pub AllWait : UnitView → List Frame → Type 0
AllWait u [] = Unit {0}
AllWait u (c ∷ cs) = LivingAt u c.function (is_entry cs) c.names c.control × AllWait u cs

-- and of the one that runs
abbrev pub IsLiving : UnitView → State → Type 0
IsLiving u s = LivingAt u s.function (is_entry s.frames) s.names s.control × AllWait u s.frames
