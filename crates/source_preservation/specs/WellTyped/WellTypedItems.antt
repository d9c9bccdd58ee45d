-- What items do to the marks of a function's pending values, the newest one first.
use Rattle.std.specs.Prelude.{◌≡◌, ◌≤◌, ℕ, zero, suc, Bool, true, false, not, cond, List, [], ◌∷◌, ◌++◌, Option, Some, None, slice_get}
use Rattle.cc_base.specs.declared.int_types.IntType.{IntType}
use Rattle.c_layout.specs.CheckedTrees as tree
use Rattle.c_layout.specs.CheckedTrees.{TermTree, LvalueTree, Designates, StatementTree}
use Rattle.c_layout.specs.CheckedUnits.{FunctionView, UnitView}
use Rattle.c_layout.specs.declared.checked_tree.checked_statements.CaseLabel.{CaseLabel}
use Rattle.c_layout.specs.declared.checked_tree.checked_terms.ObjectRef.{ObjectRef}
use Rattle.lower_conditions.specs.declared.branch_tests.NamedObject.{NamedObject}
use Rattle.lower_functions.specs.Functions.Functions.{local_type}
use Rattle.lower_templates.specs.Worklist.TermKinds.{is_void, scalar_of}
use Rattle.memory_model.specs.Effects.LibraryChecks.{most_size}
use Rattle.semantics.specs.SourceMachine.Items as item
use Rattle.semantics.specs.SourceMachine.Items.{Item, Items, NamedTest, Change, Forget, Clear, Spell, listed}
use Rattle.semantics.specs.SourceMachine.LabelSearch.{from_label}
use Rattle.semantics.specs.SourceMachine.SourceStates.{function_at}
use Rattle.source_items.specs.StackKinds.KindedTerms.{IsThere, HasObject}
use Rattle.source_items.specs.StackKinds.KindedItems.{ends_loop, ends_turn, Encloses}
use Rattle.source_items.specs.StackKinds.KindedStatements.{HasCases}
use Rattle.source_items.specs.Returns.StandingJumps.{JumpsStand}
use Rattle.source_preservation.specs.ValueTyping.Marks.{Mark, Ranged, Exactly, Pointing, Naming, Tested, mark_of_type, AreStable, AreFree}
use Rattle.source_preservation.specs.ValueTyping.MarkOperations.{IsConstant, number_of_truth, IsScalar, MarkOperates}
use Rattle.source_preservation.specs.WellTyped.ExactTerms.{is_true}
use Rattle.source_preservation.specs.WellTyped.WellTypedTerms.{term_mark, local_mark, Decides, WellTypedTerm, WellTypedPlace, StoredTerm, Quiet, ComparisonTerm}
use Rattle.source_preservation.specs.WellTyped.WellTypedStatements.{WellTypedIf, WellTypedStep, WellTypedStatement, Matches, AreBytes}

-- ---- terms

-- what the value of a term is known by: its type; or, as memory is read and not changed, its number or an object; or the
-- object that it is assigned to; or the test that it is
pub data Evaluates (u : UnitView) (e : TermTree) (before after : List Mark) : Type 0 where
  by_type : WellTypedTerm u true e → AreStable before → after ≡ term_mark e ∷ before → Evaluates u e before after
  quietly : (mark : Mark) → Quiet u e mark → after ≡ mark ∷ before → Evaluates u e before after
  as_stored : (mark : Mark) → StoredTerm u e mark → WellTypedTerm u true e → AreStable before → after ≡ mark ∷ before → Evaluates u e before after
  as_test : (test : NamedTest) → ComparisonTerm u e test → WellTypedTerm u true e → AreStable before → after ≡ Tested test ∷ before → Evaluates u e before after

abbrev pub NamesObject : LvalueTree → ObjectRef → Type 0
NamesObject (Designates at t parens (tree.Object p)) o = p ≡ o
NamesObject l o = ⊥

-- the pointer to an lvalue, or to a whole object that is named
pub data Locates (u : UnitView) (l : LvalueTree) (before after : List Mark) : Type 0 where
  any : WellTypedPlace u l → AreStable before → after ≡ Pointing ∷ before → Locates u l before after
  named : (o : ObjectRef) → NamesObject l o → HasObject u o → after ≡ Naming o ∷ before → Locates u l before after

-- the pointer to a byte of an object, or to the whole of it
pub data PointsInto (u : UnitView) (o : ObjectRef) (offset : ℕ) (before after : List Mark) : Type 0 where
  any : offset ≤ most_size u.model → after ≡ Pointing ∷ before → PointsInto u o offset before after
  whole : offset ≡ 0 → after ≡ Naming o ∷ before → PointsInto u o offset before after

-- ---- functions

-- the entry of a run was not called, and leaves no value; the value of another function is used or not
abbrev pub left_marks : FunctionView → Option Bool → List Mark
left_marks f None = []
left_marks f (Some used) = cond (is_void f.returns) [] (cond used (mark_of_type f.returns ∷ []) [])

-- the marks of so many parameters, the last one first
abbrev pub parameter_marks : FunctionView → ℕ → List Mark
parameter_marks f zero = []
parameter_marks f (suc n) = local_mark f n ∷ parameter_marks f n

-- a function is called with its parameters, and what it leaves stands in their place
pub record Invokes (u : UnitView) (g count : ℕ) (used : Bool) (before after : List Mark) : Type 0 where
  pub function : FunctionView
  pub below : List Mark
  pub is : function_at u g ≡ Some function
  pub counted : count ≡ function.parameters
  pub stable : AreStable below
  pub taken : before ≡ parameter_marks function count ++ below
  pub given : after ≡ left_marks function (Some used) ++ below

-- ---- statements

-- a statement before items
pub record Stands (u : UnitView) (f : FunctionView) (statement : StatementTree) (items : List Item) : Type 0 where
  pub well_typed : WellTypedStatement u f statement
  pub breaks : Bool
  pub continues : Bool
  pub jumps : JumpsStand breaks continues statement
  pub enclosed : Encloses breaks continues items

-- the turn of a loop, before the end of the loop
pub record Turns (u : UnitView) (f : FunctionView) (c clause : Option TermTree) (statement : StatementTree) (items : List Item) : Type 0 where
  pub condition : WellTypedIf u c
  pub step : WellTypedStep u clause
  pub well_typed : WellTypedStatement u f statement
  pub jumps : JumpsStand true true statement
  pub ends : ends_loop items ≡ true

-- the body of a switch, before the end of the switch
pub record Selects (u : UnitView) (f : FunctionView) (labels : List CaseLabel) (statement : StatementTree) (items : List Item) : Type 0 where
  pub cases : HasCases u labels statement
  pub stands : Stands u f statement items
  pub ends : ends_loop items ≡ true

-- the value that is selected by
abbrev pub SelectsFrom : UnitView → Option NamedObject → List Mark → Type 0
SelectsFrom u None before = (kind : IntType) × (before ≡ Ranged kind ∷ [])
SelectsFrom u (Some o) before = (mark : Mark) × (before ≡ mark ∷ []) × Matches u o mark

-- a declaration writes bytes
abbrev pub Writes : Change → Type 0
Writes Forget = Unit {0}
Writes Clear = Unit {0}
Writes (Spell offset room text) = AreBytes text

-- ---- choices

-- where a number is known, one way is not gone, and need not lead to anything
abbrev pub may_hold : Mark → Bool
may_hold (Exactly n) = is_true n
may_hold mark = true

abbrev pub may_fail : Mark → Bool
may_fail (Exactly n) = not (is_true n)
may_fail mark = true

-- ---- items

-- one value less, or other values above the same ones
abbrev pub Takes : List Mark → List Mark → List Mark → Type 0
Takes taken before after = before ≡ taken ++ after

-- no value of the function is pending
abbrev pub AtRest : List Mark → List Mark → Type 0
AtRest before after = (before ≡ []) × (after ≡ [])

module _ (u : UnitView) (f : FunctionView) (called : Option Bool) where
  abbrev mutual
    -- what an item before others does
    pub Effect : Item → List Item → List Mark → List Mark → Type 0
    Effect (item.Value e) rest before after = Evaluates u e before after
    Effect (item.Unused e) rest before after = WellTypedTerm u false e × AreStable before × (after ≡ before)
    Effect (item.Address l) rest before after = Locates u l before after
    Effect (item.Do at operation) rest before after = MarkOperates u.model operation before after
    Effect (item.Truth b) rest before after = (mark : Mark) × IsConstant (number_of_truth b) mark × (after ≡ mark ∷ before)
    Effect item.Again rest before after = (mark : Mark) × (below : List Mark) × (before ≡ mark ∷ below) × (after ≡ mark ∷ before)
    Effect item.Drop rest before after = (mark : Mark) × Takes (mark ∷ []) before after
    Effect (item.Object at o offset) rest before after = HasObject u o × PointsInto u o offset before after
    Effect (item.Literal at n) rest before after = IsThere (slice_get u.literals n) × (after ≡ Pointing ∷ before)
    Effect (item.Outcome at) rest before after = (is_void f.returns ≡ false) × (after ≡ Pointing ∷ before)
    Effect (item.OnObject at n how) rest before after = Writes how × AreStable before × (after ≡ before)
    Effect (item.Choose at None held failed) rest before after = (mark : Mark) × (below : List Mark) × Takes (mark ∷ []) before below × (may_hold mark ≡ true → AllDo held rest below after) × (may_fail mark ≡ true → AllDo failed rest below after)
    Effect (item.Choose at (Some test) held failed) rest before after = (mark : Mark) × (below : List Mark) × Takes (mark ∷ []) before below × Decides u mark test × AreStable below × AllDo held rest below after × AllDo failed rest below after
    Effect (item.ReadLine at none some) rest before after = (kind : IntType) × (below : List Mark) × Takes (Pointing ∷ (Ranged kind ∷ (Pointing ∷ []))) before below × AreStable below × AllDo none rest below after × AllDo some rest below after
    Effect (item.Statement statement) rest before after = Stands u f statement rest × AtRest before after
    Effect (item.WhileIteration c statement) rest before after = Turns u f (Some c) None statement rest × AtRest before after
    Effect (item.DoIteration statement c) rest before after = Turns u f (Some c) None statement rest × AtRest before after
    Effect (item.ForIteration c step statement) rest before after = Turns u f c step statement rest × AtRest before after
    Effect item.IterationEnd rest before after = AtRest before after
    Effect item.LoopEnd rest before after = AtRest before after
    Effect (item.Select at o labels statement) rest before after = Selects u f labels statement rest × SelectsFrom u o before × (after ≡ [])
    Effect (item.Enters objects) rest before after = AreFree before × (after ≡ before)
    Effect (item.Leaves objects) rest before after = AreFree before × (after ≡ before)
    Effect item.Hop rest before after = after ≡ before
    Effect (item.GoTo n) rest before after = IsThere (from_label u f n) × AtRest before after
    Effect item.BreakOut rest before after = (ends_loop rest ≡ true) × AtRest before after
    Effect item.NextIteration rest before after = (ends_turn rest ≡ true) × AtRest before after
    Effect item.LeaveFunction rest before after = AtRest before after
    Effect item.EndBody rest before after = (before ≡ []) × (after ≡ left_marks f called)
    Effect (item.Invoke at g count used) rest before after = Invokes u g count used before after
    Effect (item.Bind at n depth) rest before after = Takes (Pointing ∷ []) before after × AreStable after × IsScalar u.model (scalar_of (local_type f n)) × (slice_get after depth ≡ Some (local_mark f n))
    Effect (item.LeaveOutcome at) rest before after = AreFree before × (after ≡ before)

    -- so each of some items does, with others behind them
    pub AllDo : Items → List Item → List Mark → List Mark → Type 0
    AllDo item.Nothing rest before after = before ≡ after
    AllDo (item.First i items) rest before after = (mid : List Mark) × Effect i (listed items ++ rest) before mid × AllDo items rest mid after

  -- what items do, one after the other
  abbrev pub Does : List Item → List Mark → List Mark → Type 0
  Does [] before after = before ≡ after
  Does (i ∷ items) before after = (mid : List Mark) × Effect i items before mid × Does items mid after
