-- The items that stand in the place of others do what those do, and so do those behind labels.
use Rattle.std.proofs.Common.{◌≡◌, Bool, true, false, List, [], ◌++◌, Option, Some, refl, sym, subst}
use Rattle.c_layout.specs.CheckedUnits.{FunctionView, UnitView}
use Rattle.semantics.specs.SourceMachine.Items as item
use Rattle.semantics.specs.SourceMachine.Items.{Item}
use Rattle.semantics.specs.SourceMachine.TermItems.{address_items}
use Rattle.semantics.specs.SourceMachine.ConditionItems.{term_items}
use Rattle.semantics.specs.SourceMachine.StatementItems.{of_statement, while_iteration, do_iteration, for_iteration}
use Rattle.semantics.specs.SourceMachine.LabelSearch.{from_label}
use Rattle.source_items.proofs.stack_kinds.FoundItems.{IfSome}
use Rattle.source_preservation.specs.ValueTyping.Marks.{Mark}
use Rattle.source_preservation.specs.WellTyped.WellTypedItems.{left_marks, AtRest, Effect, Does}
use Rattle.source_preservation.specs.Items.ExpandedItems.{expanded, ExpandedItemsDo, LabelsDo, FunctionsDo}
use Rattle.source_items.proofs.stack_kinds.ItemWalks.{Through, does_from, through_does}
use Rattle.source_preservation.proofs.items.Leading.{marks}
use Rattle.source_preservation.proofs.items.LeadingTerms.{value_leads, unused_leads, address_leads}
use Rattle.source_preservation.proofs.items.LeadingStatements.{statement_through, while_through, do_through, for_through}
use Rattle.source_preservation.proofs.items.Labels.{label_does}
use Rattle.source_preservation.proofs.items.Calls.{prologue_does}

module _ (u : UnitView) (f : FunctionView) (called : Option Bool) where
  -- items that lead from no values to none
  resting : (items rest : List Item) (before mid after : List Mark) → AtRest before mid → Through (marks u f called) items rest [] [] → Does u f called rest mid after → Does u f called (items ++ rest) before after
  resting items rest before mid after at_rest through does = does_from (marks u f called) (items ++ rest) before [] after at_rest.0 (through_does (marks u f called) items rest [] [] after through (does_from (marks u f called) rest [] mid after (sym at_rest.1) does))

  expansion_does : (is_entry : Bool) (i : Item) (rest : List Item) (before mid after : List Mark) → Effect u f called i rest before mid → Does u f called rest mid after → Does u f called (expanded u is_entry i ++ rest) before after
  expansion_does is_entry (item.Value e) rest before mid after effect does = through_does (marks u f called) (term_items u true e) rest before mid after (value_leads u f called e before mid effect rest) does
  expansion_does is_entry (item.Unused e) rest before mid after effect does = through_does (marks u f called) (term_items u false e) rest before before after (unused_leads u f called e before effect.0 effect.1 rest) (does_from (marks u f called) rest before mid after (sym effect.2) does)
  expansion_does is_entry (item.Address l) rest before mid after effect does = through_does (marks u f called) (address_items u l) rest before mid after (address_leads u f called l before mid effect rest) does
  expansion_does is_entry (item.Statement statement) rest before mid after effect does = resting (of_statement u is_entry statement) rest before mid after effect.1 (statement_through u f called is_entry statement rest effect.0) does
  expansion_does is_entry (item.WhileIteration c statement) rest before mid after effect does = resting (while_iteration u c statement) rest before mid after effect.1 (while_through u f called c statement rest effect.0) does
  expansion_does is_entry (item.DoIteration statement c) rest before mid after effect does = resting (do_iteration u statement c) rest before mid after effect.1 (do_through u f called c statement rest effect.0) does
  expansion_does is_entry (item.ForIteration c step statement) rest before mid after effect does = resting (for_iteration u c step statement) rest before mid after effect.1 (for_through u f called c step statement rest effect.0) does
  expansion_does is_entry i rest before mid after effect does = (mid, effect, does)

some_is : (P : List Item → Type 0) (o : Option (List Item)) (to : List Item) → o ≡ Some to → IfSome P o → P to
some_is P o to is h = subst (IfSome P) is h

pub expanded_do : ExpandedItemsDo
expanded_do u f called is_entry i rest before mid after effect does = expansion_does u f called is_entry i rest before mid after effect does

pub labels_do : LabelsDo
labels_do u f called well_typed jumps n to is = some_is (λ items. Does u f called items [] (left_marks f called)) (from_label u f n) to is (label_does u f called well_typed jumps n)

pub functions_do : FunctionsDo
functions_do u f called well_typed jumps = prologue_does u f called well_typed f.parameters refl jumps
