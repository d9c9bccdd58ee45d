-- What is known of the items that stand in the place of others, behind labels and at calls.
use Rattle.std.specs.Prelude.{◌≡◌, ℕ, Bool, true, false, List, [], ◌∷◌, ◌++◌, Option, Some}
use Rattle.c_layout.specs.CheckedTrees.{statement_trees}
use Rattle.c_layout.specs.CheckedUnits.{FunctionView, UnitView}
use Rattle.semantics.specs.SourceMachine.Items as item
use Rattle.semantics.specs.SourceMachine.Items.{Item}
use Rattle.semantics.specs.SourceMachine.TermItems.{address_items}
use Rattle.semantics.specs.SourceMachine.ConditionItems.{term_items}
use Rattle.semantics.specs.SourceMachine.StatementItems.{of_statement, while_iteration, do_iteration, for_iteration, body}
use Rattle.semantics.specs.SourceMachine.LabelSearch.{from_label}
use Rattle.semantics.specs.SourceMachine.CallSteps.{prologue}
use Rattle.source_items.specs.Returns.StandingJumps.{AllJumpsStand}
use Rattle.source_preservation.specs.ValueTyping.Marks.{Mark}
use Rattle.source_preservation.specs.WellTyped.WellTypedStatements.{WellTypedFunction}
use Rattle.source_preservation.specs.WellTyped.WellTypedItems.{left_marks, parameter_marks, Effect, Does}

-- the items that an item gives place to, in the entry of a run or not
abbrev pub expanded : UnitView → Bool → Item → List Item
expanded u is_entry (item.Value e) = term_items u true e
expanded u is_entry (item.Unused e) = term_items u false e
expanded u is_entry (item.Address l) = address_items u l
expanded u is_entry (item.Statement statement) = of_statement u is_entry statement
expanded u is_entry (item.WhileIteration c statement) = while_iteration u c statement
expanded u is_entry (item.DoIteration statement c) = do_iteration u statement c
expanded u is_entry (item.ForIteration c step statement) = for_iteration u c step statement
expanded u is_entry i = i ∷ []

-- what an item does to marks is done by those in its place
abbrev pub ExpandedItemsDo : Type 0
ExpandedItemsDo = (u : UnitView) (f : FunctionView) (called : Option Bool) (is_entry : Bool) (i : Item) (rest : List Item) (before mid after : List Mark) → Effect u f called i rest before mid → Does u f called rest mid after → Does u f called (expanded u is_entry i ++ rest) before after

-- from each label of a marked function items lead to what the function leaves
abbrev pub LabelsDo : Type 0
LabelsDo = (u : UnitView) (f : FunctionView) (called : Option Bool) → WellTypedFunction u f → AllJumpsStand false false (statement_trees f.body) → (n : ℕ) (to : List Item) → from_label u f n ≡ Some to → Does u f called to [] (left_marks f called)

-- and so does the whole function from the values of its parameters
abbrev pub FunctionsDo : Type 0
FunctionsDo = (u : UnitView) (f : FunctionView) (called : Option Bool) → WellTypedFunction u f → AllJumpsStand false false (statement_trees f.body) → Does u f called (prologue f f.parameters ++ body f) (parameter_marks f f.parameters) (left_marks f called)
