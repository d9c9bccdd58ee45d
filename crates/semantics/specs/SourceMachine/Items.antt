-- What a function still has to do: a list of items, the next one first.
use Rattle.std.specs.Prelude.{ℕ, ℤ, Bool, List, [], ◌∷◌, Option}
use Rattle.cc_base.specs.declared.diagnostics.Place.{Place}
use Rattle.cc_base.specs.declared.integer_operators.Rel.{Rel}
use Rattle.cc_base.specs.declared.int_types.IntType.{IntType}
use Rattle.c_layout.specs.CheckedTrees.{TermTree, LvalueTree, StatementTree}
use Rattle.c_layout.specs.declared.checked_tree.checked_terms.ObjectRef.{ObjectRef}
use Rattle.c_layout.specs.declared.checked_tree.checked_statements.CaseLabel.{CaseLabel}
use Rattle.lower_conditions.specs.declared.branch_tests.NamedObject.{NamedObject}
use Rattle.semantics.specs.SourceMachine.Operations.{Operation}

-- a side of a test: a named object, a number, or a null pointer
pub data NamedSide : Type 0 where
  named : (object : NamedObject) → NamedSide
  number : (value : ℤ) → NamedSide
  nothing : NamedSide

-- a relation of two integers in their common type, or of two pointers
pub record NamedTest : Type 0 where
  pub left : NamedSide
  pub rel : Rel
  pub right : NamedSide
  pub common : Option IntType

-- what a declaration does to an object
pub data Change : Type 0 where
  Forget : Change
  Clear : Change
  Spell : (offset room : ℕ) (text : List ℕ) → Change

mutual
  pub data Item : Type 0 where
    -- the value of a term is pushed, or only what it does is done
    Value : (term : TermTree) → Item
    Unused : (term : TermTree) → Item
    -- the pointer to an lvalue is pushed
    Address : (lvalue : LvalueTree) → Item
    Do : (at : Place) (operation : Operation) → Item
    -- 0 or 1 is pushed
    Truth : (holds : Bool) → Item
    -- the newest value again, or no longer
    Again : Item
    Drop : Item
    -- a pointer to a byte of a named object, of a literal or of the result is pushed
    Object : (at : Place) (object : ObjectRef) (offset : ℕ) → Item
    Literal : (at : Place) (index : ℕ) → Item
    Outcome : (at : Place) → Item
    OnObject : (at : Place) (local : ℕ) (change : Change) → Item
    -- the items of a condition, by whether the newest value is 0
    Choose : (at : Place) (test : Option NamedTest) (held failed : Items) → Item
    -- a line is read, and the items follow by whether there was one
    ReadLine : (at : Place) (none some : Items) → Item
    Statement : (statement : StatementTree) → Item
    -- the next turn of a loop, by its condition
    WhileIteration : (condition : TermTree) (body : StatementTree) → Item
    DoIteration : (body : StatementTree) (condition : TermTree) → Item
    ForIteration : (condition step : Option TermTree) (body : StatementTree) → Item
    -- here `continue` leads, and `break`
    IterationEnd : Item
    LoopEnd : Item
    -- the newest value selects a label of a switch's body
    Select : (at : Place) (object : Option NamedObject) (labels : List CaseLabel) (body : StatementTree) → Item
    -- local objects begin to live, or end, one after the other; the result is the object behind all locals
    Enters : (locals : List ℕ) → Item
    Leaves : (locals : List ℕ) → Item
    -- a step without effect: control goes somewhere else
    Hop : Item
    GoTo : (label : ℕ) → Item
    BreakOut : Item
    NextIteration : Item
    -- the function is left by `return`, or its body ends
    LeaveFunction : Item
    EndBody : Item
    -- a function is called with the newest values
    Invoke : (at : Place) (function : ℕ) (count : ℕ) (used : Bool) → Item
    -- the value so far below the newest, a pointer to a parameter, is stored there
    Bind : (at : Place) (parameter : ℕ) (depth : ℕ) → Item
    -- the object of the result ends
    LeaveOutcome : (at : Place) → Item

  pub data Items : Type 0 where
    Nothing : Items
    First : (item : Item) (rest : Items) → Items

abbrev pub items_of : List Item → Items
items_of [] = Nothing
items_of (item ∷ items) = First item (items_of items)

abbrev pub listed : Items → List Item
listed Nothing = []
listed (First item items) = item ∷ listed items
