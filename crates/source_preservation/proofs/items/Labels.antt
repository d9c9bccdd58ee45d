-- From a label on, items lead to what the function leaves.
use Rattle.std.proofs.Common.{ℕ, Bool, true, false, List, [], ◌∷◌, ◌++◌, Option, Some, None, refl, sym, subst}
use Rattle.c_layout.specs.CheckedTrees as tree
use Rattle.c_layout.specs.CheckedTrees.{StatementTree, StatementTrees, statement_trees}
use Rattle.c_layout.specs.CheckedUnits.{UnitView, FunctionView}
use Rattle.semantics.specs.SourceMachine.Items as item
use Rattle.semantics.specs.SourceMachine.Items.{Item}
use Rattle.semantics.specs.SourceMachine.StatementItems.{statements, do_test, for_step, body}
use Rattle.semantics.specs.SourceMachine.LabelSearch as sought
use Rattle.semantics.specs.SourceMachine.LabelSearch.{Sought, is_label, is_case, is_other, found, found_in, from_label}
use Rattle.source_preservation.specs.ValueTyping.Marks.{Mark}
use Rattle.source_items.specs.Returns.StandingJumps.{JumpsStand, AllJumpsStand}
use Rattle.source_items.specs.StackKinds.KindedItems.{Encloses}
use Rattle.source_items.proofs.stack_kinds.Loops.{encloses_more, no_loop, in_loop, in_switch}
use Rattle.source_preservation.specs.WellTyped.WellTypedStatements.{WellTypedStatement, WellTypedStatements, WellTypedFunction}
use Rattle.source_preservation.specs.WellTyped.WellTypedItems.{left_marks, Turns, Does}
use Rattle.source_items.proofs.stack_kinds.ItemWalks.{through_does}
use Rattle.source_preservation.proofs.items.Leading.{marks}
use Rattle.source_items.proofs.stack_kinds.FoundItems.{IfSome, either_found, found_here, found_inside}
use Rattle.source_items.proofs.stack_kinds.Labels.{found_listed}
use Rattle.source_items.proofs.stack_kinds.LeadingStatements.{listed_statements}
use Rattle.source_preservation.proofs.items.LeadingStatements.{standing, statements_through, turning, test_through, test_encloses, step_through, step_encloses}

module _ (u : UnitView) (l : Sought) (f : FunctionView) (called : Option Bool) (out : List Mark) where
  -- such items lead from no values to those that are left
  abbrev Reaches : List Item → Type 0
  Reaches to = Does u f called to [] out

  at_label : (breaks continues : Bool) (s : StatementTree) (rest : List Item) → WellTypedStatement u f s → JumpsStand breaks continues s → Encloses breaks continues rest → Reaches rest → Reaches (item.Statement s ∷ rest)
  at_label breaks continues s rest well_typed jumps e does = ([], (standing u f called breaks continues s rest well_typed jumps e, (refl, refl)), does)

  mutual
    unfolding found found_in

    pub found_does : (i : StatementTree) (rest : List Item) (breaks continues : Bool) → WellTypedStatement u f i → JumpsStand breaks continues i → Encloses breaks continues rest → Reaches rest → IfSome Reaches (found u l i rest)
    found_does (tree.Block objects items) rest breaks continues well_typed jumps enclosed does = all_found_do items (item.Leaves objects ∷ rest) breaks continues well_typed jumps (encloses_more breaks continues (item.Leaves objects ∷ []) rest enclosed) ([], (tt, refl), does)
    found_does (tree.If c s) rest breaks continues well_typed jumps enclosed does = found_does s rest breaks continues well_typed.1 jumps enclosed does
    found_does (tree.IfElse c one two) rest breaks continues well_typed jumps enclosed does = either_found Reaches (found u l one (item.Hop ∷ rest)) (found u l two rest) (found_does one (item.Hop ∷ rest) breaks continues well_typed.1 jumps.0 (encloses_more breaks continues (item.Hop ∷ []) rest enclosed) ([], refl, does)) (found_does two rest breaks continues well_typed.2 jumps.1 enclosed does)
    found_does (tree.While c s) rest breaks continues well_typed jumps enclosed does =
        let end : List Item = item.Hop ∷ (item.IterationEnd ∷ (item.WhileIteration c s ∷ (item.LoopEnd ∷ rest))) in
        found_does s end true true well_typed.1 jumps (in_loop end refl refl) ([], refl, ([], (refl, refl), ([], (turning u f called (Some c) None s rest well_typed.0 tt well_typed.1 jumps, (refl, refl)), ([], (refl, refl), does))))
    found_does (tree.Do s c) rest breaks continues well_typed jumps enclosed does =
        let turns : Turns u f (Some c) None s (item.LoopEnd ∷ rest) = turning u f called (Some c) None s rest well_typed.0 tt well_typed.1 jumps in
        found_does s (do_test u s c ++ item.LoopEnd ∷ rest) true true well_typed.1 jumps (test_encloses u f called c s (item.LoopEnd ∷ rest) refl) (through_does (marks u f called) (do_test u s c) (item.LoopEnd ∷ rest) [] [] out (test_through u f called c s (item.LoopEnd ∷ rest) turns) ([], (refl, refl), does))
    found_does (tree.For objects start c step s) rest breaks continues well_typed jumps enclosed does =
        let end : List Item = item.LoopEnd ∷ (item.Leaves objects ∷ rest) in
        let turns : Turns u f c step s end = turning u f called c step s (item.Leaves objects ∷ rest) well_typed.1 well_typed.2 well_typed.3 jumps.1 in
        found_does s (for_step c step s ++ end) true true well_typed.3 jumps.1 (step_encloses u f called c step s end refl) (through_does (marks u f called) (for_step c step s) end [] [] out (step_through u f called c step s end turns) ([], (refl, refl), ([], (tt, refl), does)))
    found_does (tree.Switch at e labels has_default enumerators s) rest breaks continues well_typed jumps enclosed does = found_inside Reaches l (found u l s (item.LoopEnd ∷ rest)) (found_does s (item.LoopEnd ∷ rest) true continues well_typed.2 jumps (in_switch breaks continues rest enclosed) ([], (refl, refl), does))
    found_does (tree.Case n s) rest breaks continues well_typed jumps enclosed does = found_here Reaches (is_case l n) (item.Statement s ∷ rest) (found u l s rest) (at_label breaks continues s rest well_typed jumps enclosed does) (found_does s rest breaks continues well_typed jumps enclosed does)
    found_does (tree.Default s) rest breaks continues well_typed jumps enclosed does = found_here Reaches (is_other l) (item.Statement s ∷ rest) (found u l s rest) (at_label breaks continues s rest well_typed jumps enclosed does) (found_does s rest breaks continues well_typed jumps enclosed does)
    found_does (tree.Label n s) rest breaks continues well_typed jumps enclosed does = found_here Reaches (is_label l n) (item.Statement s ∷ rest) (found u l s rest) (at_label breaks continues s rest well_typed jumps enclosed does) (found_does s rest breaks continues well_typed jumps enclosed does)
    found_does other rest breaks continues well_typed jumps enclosed does = tt

    all_found_do : (items : StatementTrees) (rest : List Item) (breaks continues : Bool) → WellTypedStatements u f items → AllJumpsStand breaks continues items → Encloses breaks continues rest → Reaches rest → IfSome Reaches (found_in u l items rest)
    all_found_do tree.NoMore rest breaks continues well_typed jumps enclosed does = tt
    all_found_do (tree.And s ss) rest breaks continues well_typed jumps enclosed does =
        let after : List Item = statements ss ++ rest in
        let here : IfSome Reaches (found u l s after) = found_does s after breaks continues well_typed.0 jumps.0 (encloses_more breaks continues (statements ss) rest enclosed) (through_does (marks u f called) (statements ss) rest [] [] out (statements_through u f called breaks continues ss rest well_typed.1 jumps.1 enclosed) does) in
        either_found Reaches (found u l s after) (found_in u l ss rest) here (all_found_do ss rest breaks continues well_typed.1 jumps.1 enclosed does)

-- ---- functions

module _ (u : UnitView) (f : FunctionView) (called : Option Bool) (well_typed : WellTypedFunction u f) (jumps : AllJumpsStand false false (statement_trees f.body)) where
  abbrev Ends : List Item → Type 0
  Ends to = Does u f called to [] (left_marks f called)

  end_does : Ends (item.Leaves f.scope ∷ (item.EndBody ∷ []))
  end_does = ([], (tt, refl), (left_marks f called, (refl, refl), refl))

  pub body_does : Ends (body f)
  body_does =
      let end : List Item = item.Leaves f.scope ∷ (item.EndBody ∷ []) in
      let all : Ends (statements (statement_trees f.body) ++ end) = through_does (marks u f called) (statements (statement_trees f.body)) end [] [] (left_marks f called) (statements_through u f called false false (statement_trees f.body) end well_typed.body jumps (no_loop end)) end_does in
      ([], (tt, refl), subst (λ items. Ends (items ++ end)) (sym (listed_statements f.body)) all)

  pub label_does : (n : ℕ) → IfSome Ends (from_label u f n)
  label_does n =
      let end : List Item = item.Leaves f.scope ∷ (item.EndBody ∷ []) in
      let family : Option (List Item) → Type 0 = IfSome Ends in
      subst family (sym (found_listed u (sought.label n) f.body end)) (all_found_do u (sought.label n) f called (left_marks f called) (statement_trees f.body) end false false well_typed.body jumps (no_loop end) end_does)
