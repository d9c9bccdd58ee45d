-- From a label on, items fit and end the parameters and the result.
use Rattle.std.proofs.Common.{ℕ, Bool, true, false, List, [], ◌∷◌, ◌++◌, Option, Some, None, sym, subst}
use Rattle.c_layout.specs.CheckedTrees as tree
use Rattle.c_layout.specs.CheckedTrees.{StatementTree, StatementTrees, statement_trees}
use Rattle.c_layout.specs.CheckedUnits.{UnitView, FunctionView}
use Rattle.semantics.specs.SourceMachine.Items as item
use Rattle.semantics.specs.SourceMachine.Items.{Item}
use Rattle.semantics.specs.SourceMachine.StatementItems.{statements, do_test, for_step}
use Rattle.semantics.specs.SourceMachine.LabelSearch as sought
use Rattle.semantics.specs.SourceMachine.LabelSearch.{Sought, is_label, is_case, is_other, found, found_in, from_label}
use Rattle.source_items.specs.Returns.StandingJumps.{JumpsStand, AllJumpsStand}
use Rattle.source_items.specs.Returns.EndedObjects.{own_objects, ended, AreAmong, EndOwn}
use Rattle.source_items.specs.Returns.Leavings.{Encloses, Turns, Fit}
use Rattle.source_items.proofs.stack_kinds.FoundItems.{IfSome, either_found, found_here, found_inside}
use Rattle.source_items.proofs.stack_kinds.Labels.{found_listed}
use Rattle.source_items.proofs.returns.Members.{among_left, all_among, among_through}
use Rattle.source_items.proofs.returns.Ends.{ended_more, own_more}
use Rattle.source_items.proofs.returns.FittingStatements.{statements_enclose, statements_fit, standing, scope_encloses, no_loop, turning, test_encloses, test_fits, step_encloses, step_fits, switch_encloses, hop_encloses}

-- items that fit and end some objects
pub record Reached (f : FunctionView) (objects : List ℕ) (to : List Item) : Type 0 where
  pub fit : Fit f to
  pub ends : AreAmong objects (ended f to)

-- what is found, if anything is, fits and ends what the items behind the statement end
abbrev pub Finds : FunctionView → List Item → Option (List Item) → Type 0
Finds f rest = IfSome (Reached f (ended f rest))

module _ (f : FunctionView) where
  fewer : (objects more : List ℕ) (o : Option (List Item)) → AreAmong objects more → IfSome (Reached f more) o → IfSome (Reached f objects) o
  fewer objects more None among h = tt
  fewer objects more (Some to) among h = record { fit = h.fit; ends = among_through objects more (ended f to) among h.ends }

  fewer_before : (xs rest : List Item) (o : Option (List Item)) → Finds f (xs ++ rest) o → Finds f rest o
  fewer_before xs rest o h = fewer (ended f rest) (ended f (xs ++ rest)) o (ended_more f xs rest) h

  at_label : (breaks continues : Bool) (s : StatementTree) (rest : List Item) → JumpsStand breaks continues s → Encloses f breaks continues rest → Fit f rest → Reached f (ended f rest) (item.Statement s ∷ rest)
  at_label breaks continues s rest jumps e fit = record { fit = (standing f breaks continues s rest jumps e, fit); ends = all_among (ended f rest) }

module _ (u : UnitView) (l : Sought) (f : FunctionView) where
  -- ---- statements

  mutual
    unfolding found found_in

    pub found_fits : (i : StatementTree) (rest : List Item) (breaks continues : Bool) → JumpsStand breaks continues i → Encloses f breaks continues rest → Fit f rest → Finds f rest (found u l i rest)
    found_fits (tree.Block objects items) rest breaks continues jumps enclosed fit = fewer_before f (item.Leaves objects ∷ []) rest (found_in u l items (item.Leaves objects ∷ rest)) (all_found_fit items (item.Leaves objects ∷ rest) breaks continues jumps (scope_encloses f breaks continues objects rest enclosed) (tt, fit))
    found_fits (tree.If c s) rest breaks continues jumps enclosed fit = found_fits s rest breaks continues jumps enclosed fit
    found_fits (tree.IfElse c one two) rest breaks continues jumps enclosed fit =
        let in_one : Finds f rest (found u l one (item.Hop ∷ rest)) = found_fits one (item.Hop ∷ rest) breaks continues jumps.0 (hop_encloses u f breaks continues rest enclosed) (tt, fit) in
        either_found (Reached f (ended f rest)) (found u l one (item.Hop ∷ rest)) (found u l two rest) in_one (found_fits two rest breaks continues jumps.1 enclosed fit)
    found_fits (tree.While c s) rest breaks continues jumps enclosed fit =
        let end : List Item = item.Hop ∷ (item.IterationEnd ∷ (item.WhileIteration c s ∷ (item.LoopEnd ∷ rest))) in
        let around : Encloses f true true end = record { ends = enclosed.ends; at_break = λ e. enclosed.ends; at_continue = λ e. enclosed.ends } in
        found_fits s end true true jumps around (tt, (tt, (turning u f s rest jumps enclosed.ends, (tt, fit))))
    found_fits (tree.Do s c) rest breaks continues jumps enclosed fit =
        let turns : Turns f s (item.LoopEnd ∷ rest) = turning u f s rest jumps enclosed.ends in
        fewer_before f (do_test u s c) (item.LoopEnd ∷ rest) (found u l s (do_test u s c ++ item.LoopEnd ∷ rest)) (found_fits s (do_test u s c ++ item.LoopEnd ∷ rest) true true jumps (test_encloses u f c s (item.LoopEnd ∷ rest) turns) (test_fits u f c s (item.LoopEnd ∷ rest) turns (tt, fit)))
    found_fits (tree.For objects start c step s) rest breaks continues jumps enclosed fit =
        let end : List Item = item.LoopEnd ∷ (item.Leaves objects ∷ rest) in
        let turns : Turns f s end = turning u f s (item.Leaves objects ∷ rest) jumps.1 (own_more f (item.Leaves objects ∷ []) rest enclosed.ends) in
        fewer_before f (item.Leaves objects ∷ []) rest (found u l s (for_step c step s ++ end)) (fewer_before f (for_step c step s) end (found u l s (for_step c step s ++ end)) (found_fits s (for_step c step s ++ end) true true jumps.1 (step_encloses u f c step s end turns) (step_fits u f c step s end turns (tt, (tt, fit)))))
    found_fits (tree.Switch at e labels has_default enumerators s) rest breaks continues jumps enclosed fit = found_inside (Reached f (ended f rest)) l (found u l s (item.LoopEnd ∷ rest)) (found_fits s (item.LoopEnd ∷ rest) true continues jumps (switch_encloses u f breaks continues rest enclosed) (tt, fit))
    found_fits (tree.Case n s) rest breaks continues jumps enclosed fit = found_here (Reached f (ended f rest)) (is_case l n) (item.Statement s ∷ rest) (found u l s rest) (at_label f breaks continues s rest jumps enclosed fit) (found_fits s rest breaks continues jumps enclosed fit)
    found_fits (tree.Default s) rest breaks continues jumps enclosed fit = found_here (Reached f (ended f rest)) (is_other l) (item.Statement s ∷ rest) (found u l s rest) (at_label f breaks continues s rest jumps enclosed fit) (found_fits s rest breaks continues jumps enclosed fit)
    found_fits (tree.Label n s) rest breaks continues jumps enclosed fit = found_here (Reached f (ended f rest)) (is_label l n) (item.Statement s ∷ rest) (found u l s rest) (at_label f breaks continues s rest jumps enclosed fit) (found_fits s rest breaks continues jumps enclosed fit)
    found_fits other rest breaks continues jumps enclosed fit = tt

    all_found_fit : (items : StatementTrees) (rest : List Item) (breaks continues : Bool) → AllJumpsStand breaks continues items → Encloses f breaks continues rest → Fit f rest → Finds f rest (found_in u l items rest)
    all_found_fit tree.NoMore rest breaks continues jumps enclosed fit = tt
    all_found_fit (tree.And s ss) rest breaks continues jumps enclosed fit =
        let after : List Item = statements ss ++ rest in
        let here : Finds f after (found u l s after) = found_fits s after breaks continues jumps.0 (statements_enclose f breaks continues ss rest enclosed) (statements_fit f breaks continues ss rest jumps.1 enclosed fit) in
        either_found (Reached f (ended f rest)) (found u l s after) (found_in u l ss rest) (fewer_before f (statements ss) rest (found u l s after) here) (all_found_fit ss rest breaks continues jumps.1 enclosed fit)

-- ---- functions

pub end_owns : (f : FunctionView) → EndOwn f (item.EndBody ∷ [])
end_owns f = among_left (own_objects f) []

pub label_found : (u : UnitView) (f : FunctionView) (n : ℕ) → AllJumpsStand false false (statement_trees f.body) → IfSome (Reached f (own_objects f)) (from_label u f n)
label_found u f n jumps =
    let end : List Item = item.Leaves f.scope ∷ (item.EndBody ∷ []) in
    let own : EndOwn f end = own_more f (item.Leaves f.scope ∷ []) (item.EndBody ∷ []) (end_owns f) in
    fewer f (own_objects f) (ended f end) (from_label u f n) own (subst (λ o. Finds f end o) (sym (found_listed u (sought.label n) f.body end)) (all_found_fit u (sought.label n) f (statement_trees f.body) end false false jumps (no_loop f end own) (tt, (all_among [], tt))))
