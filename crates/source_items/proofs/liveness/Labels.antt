-- From a label on, items sit, and no object is still to be entered.
use Rattle.std.proofs.Common.{◌≡◌, ℕ, Bool, true, List, [], ◌∷◌, ◌++◌, Option, Some, None, sym, subst, ◌∙◌}
use Rattle.c_layout.specs.CheckedTrees as tree
use Rattle.c_layout.specs.CheckedTrees.{StatementTree, StatementTrees, statement_trees}
use Rattle.c_layout.specs.CheckedUnits.{UnitView, FunctionView}
use Rattle.semantics.specs.SourceMachine.Items as item
use Rattle.semantics.specs.SourceMachine.Items.{Item}
use Rattle.semantics.specs.SourceMachine.Scopes.{is_in, all_of, with_scope, open_scopes}
use Rattle.semantics.specs.SourceMachine.StatementItems.{statements, do_test, for_step}
use Rattle.semantics.specs.SourceMachine.LabelSearch as sought
use Rattle.semantics.specs.SourceMachine.LabelSearch.{Sought, is_label, is_case, is_other, found, found_in, found_among}
use Rattle.source_items.specs.Returns.StandingJumps.{JumpsStand, AllJumpsStand}
use Rattle.source_items.specs.Liveness.Lives.{lives, IsInBody}
use Rattle.source_items.specs.Liveness.ScopedStatements.{ScopedStatement, ScopedStatements}
use Rattle.source_items.specs.Liveness.Livings.{Encloses, Turns, Sit}
use Rattle.source_items.proofs.stack_kinds.FoundItems.{IfSome, either_found, found_here, found_inside}
use Rattle.source_items.proofs.stack_kinds.Labels.{found_listed}
use Rattle.source_items.proofs.liveness.Members.{right_or, is_in-append}
use Rattle.source_items.proofs.liveness.Sitting.{Leads}
use Rattle.source_items.proofs.liveness.SittingStatements.{statements_keep, statements_enclose, standing, scoped_as, statements_sit, scope_encloses}
use Rattle.source_items.proofs.liveness.SittingLoops.{turning, test_encloses, test_leads, step_encloses, step_leads, switch_encloses, hop_encloses}

-- items of a body that sit, within such scopes
pub record Reached (f : FunctionView) (is_entry : Bool) (scopes : List (List ℕ)) (to : List Item) : Type 0 where
  pub sit : Sit f is_entry to
  pub here : IsInBody f is_entry to
  pub within : (n : ℕ) → is_in n (all_of scopes) ≡ true → is_in n (all_of (open_scopes to)) ≡ true

-- what is found, if anything is, sits within the scopes around the statement
abbrev pub Finds : FunctionView → Bool → List Item → Option (List Item) → Type 0
Finds f is_entry rest = IfSome (Reached f is_entry (open_scopes rest))

-- ---- scopes around

scope_more : (i : Item) (scopes : List (List ℕ)) (n : ℕ) → is_in n (all_of scopes) ≡ true → is_in n (all_of (with_scope i scopes)) ≡ true
scope_more (item.Leaves objects) scopes n e = is_in-append n objects (all_of scopes) ∙ right_or (is_in n objects) (is_in n (all_of scopes)) e
scope_more i scopes n e = e

open_more : (xs rest : List Item) (n : ℕ) → is_in n (all_of (open_scopes rest)) ≡ true → is_in n (all_of (open_scopes (xs ++ rest))) ≡ true
open_more [] rest n e = e
open_more (x ∷ xs) rest n e = scope_more x (open_scopes (xs ++ rest)) n (open_more xs rest n e)

module _ (f : FunctionView) (is_entry : Bool) where
  wider : (xs rest : List Item) (o : Option (List Item)) → Finds f is_entry (xs ++ rest) o → Finds f is_entry rest o
  wider xs rest None h = tt
  wider xs rest (Some to) h = record { sit = h.sit; here = h.here; within = λ n e. h.within n (open_more xs rest n e) }

  at_label : (breaks continues : Bool) (s : StatementTree) (rest : List Item) → JumpsStand breaks continues s → ScopedStatement f (lives f is_entry rest) s → Encloses f is_entry breaks continues rest → Sit f is_entry rest → Reached f is_entry (open_scopes rest) (item.Statement s ∷ rest)
  at_label breaks continues s rest jumps scoped e sit = record { sit = (standing f is_entry breaks continues s rest jumps scoped e, sit); here = e.here; within = λ n e. e }

module _ (u : UnitView) (l : Sought) (f : FunctionView) (is_entry : Bool) where
  -- ---- statements

  abbrev Within : List Item → List Item → Type 0
  Within rest to = Reached f is_entry (open_scopes rest) to

  mutual
    unfolding found found_in

    pub found_sits : (i : StatementTree) (rest : List Item) (breaks continues : Bool) → JumpsStand breaks continues i → ScopedStatement f (lives f is_entry rest) i → Encloses f is_entry breaks continues rest → Sit f is_entry rest → Finds f is_entry rest (found u l i rest)
    found_sits (tree.Block objects items) rest breaks continues jumps scoped enclosed sit = wider f is_entry (item.Leaves objects ∷ []) rest (found_in u l items (item.Leaves objects ∷ rest)) (all_found_sit items (item.Leaves objects ∷ rest) breaks continues jumps scoped.1 (scope_encloses f is_entry breaks continues objects rest scoped.0 enclosed) (scoped.0, sit))
    found_sits (tree.If c s) rest breaks continues jumps scoped enclosed sit = found_sits s rest breaks continues jumps scoped.1 enclosed sit
    found_sits (tree.IfElse c one two) rest breaks continues jumps scoped enclosed sit =
        let in_one : Finds f is_entry rest (found u l one (item.Hop ∷ rest)) = found_sits one (item.Hop ∷ rest) breaks continues jumps.0 scoped.1 (hop_encloses u f is_entry breaks continues rest enclosed) (tt, sit) in
        either_found (Within rest) (found u l one (item.Hop ∷ rest)) (found u l two rest) in_one (found_sits two rest breaks continues jumps.1 scoped.2 enclosed sit)
    found_sits (tree.While c s) rest breaks continues jumps scoped enclosed sit =
        let end : List Item = item.Hop ∷ (item.IterationEnd ∷ (item.WhileIteration c s ∷ (item.LoopEnd ∷ rest))) in
        let around : Encloses f is_entry true true end = record { here = enclosed.here; at_break = λ e. enclosed.here; at_continue = λ e. enclosed.here } in
        found_sits s end true true jumps scoped.1 around (tt, (tt, (turning u f is_entry (Some c) None s rest jumps scoped.1 scoped.0 tt enclosed.here, (tt, sit))))
    found_sits (tree.Do s c) rest breaks continues jumps scoped enclosed sit =
        let end : List Item = item.LoopEnd ∷ rest in
        let turns : Turns f is_entry (Some c) None s end = turning u f is_entry (Some c) None s rest jumps scoped.1 scoped.0 tt enclosed.here in
        let test : Leads f is_entry (do_test u s c) end = test_leads u f is_entry c s end turns (tt, sit) in
        wider f is_entry (do_test u s c) end (found u l s (do_test u s c ++ end)) (found_sits s (do_test u s c ++ end) true true jumps (scoped_as f is_entry s (lives f is_entry rest) _ test.0 scoped.1) (test_encloses u f is_entry c s end turns) test.1)
    found_sits (tree.For objects start c step s) rest breaks continues jumps scoped enclosed sit =
        let left : List Item = item.Leaves objects ∷ rest in
        let end : List Item = item.LoopEnd ∷ left in
        let around : Encloses f is_entry breaks continues left = scope_encloses f is_entry breaks continues objects rest scoped.0 enclosed in
        let turns : Turns f is_entry c step s end = turning u f is_entry c step s left jumps.1 scoped.4 scoped.2 scoped.3 around.here in
        let behind : Leads f is_entry (for_step c step s) end = step_leads u f is_entry c step s end turns (tt, (scoped.0, sit)) in
        let there : Finds f is_entry (for_step c step s ++ end) (found u l s (for_step c step s ++ end)) = found_sits s (for_step c step s ++ end) true true jumps.1 (scoped_as f is_entry s (lives f is_entry left) _ behind.0 scoped.4) (step_encloses u f is_entry c step s end turns) behind.1 in
        wider f is_entry (item.Leaves objects ∷ []) rest (found u l s (for_step c step s ++ end)) (wider f is_entry (for_step c step s) end (found u l s (for_step c step s ++ end)) there)
    found_sits (tree.Switch at e labels has_default enumerators s) rest breaks continues jumps scoped enclosed sit = found_inside (Within rest) l (found u l s (item.LoopEnd ∷ rest)) (found_sits s (item.LoopEnd ∷ rest) true continues jumps scoped.1 (switch_encloses u f is_entry breaks continues rest enclosed) (tt, sit))
    found_sits (tree.Case n s) rest breaks continues jumps scoped enclosed sit = found_here (Within rest) (is_case l n) (item.Statement s ∷ rest) (found u l s rest) (at_label f is_entry breaks continues s rest jumps scoped enclosed sit) (found_sits s rest breaks continues jumps scoped enclosed sit)
    found_sits (tree.Default s) rest breaks continues jumps scoped enclosed sit = found_here (Within rest) (is_other l) (item.Statement s ∷ rest) (found u l s rest) (at_label f is_entry breaks continues s rest jumps scoped enclosed sit) (found_sits s rest breaks continues jumps scoped enclosed sit)
    found_sits (tree.Label n s) rest breaks continues jumps scoped enclosed sit = found_here (Within rest) (is_label l n) (item.Statement s ∷ rest) (found u l s rest) (at_label f is_entry breaks continues s rest jumps scoped enclosed sit) (found_sits s rest breaks continues jumps scoped enclosed sit)
    found_sits other rest breaks continues jumps scoped enclosed sit = tt

    all_found_sit : (items : StatementTrees) (rest : List Item) (breaks continues : Bool) → AllJumpsStand breaks continues items → ScopedStatements f (lives f is_entry rest) items → Encloses f is_entry breaks continues rest → Sit f is_entry rest → Finds f is_entry rest (found_in u l items rest)
    all_found_sit tree.NoMore rest breaks continues jumps scoped enclosed sit = tt
    all_found_sit (tree.And s ss) rest breaks continues jumps scoped enclosed sit =
        let after : List Item = statements ss ++ rest in
        let here : Finds f is_entry after (found u l s after) = found_sits s after breaks continues jumps.0 (scoped_as f is_entry s (lives f is_entry rest) _ (statements_keep f is_entry ss rest) scoped.0) (statements_enclose f is_entry breaks continues ss rest enclosed) (statements_sit f is_entry breaks continues ss rest jumps.1 scoped.1 enclosed sit) in
        either_found (Within rest) (found u l s after) (found_in u l ss rest) (wider f is_entry (statements ss) rest (found u l s after) here) (all_found_sit ss rest breaks continues jumps.1 scoped.1 enclosed sit)

  pub among_found_sit : (ss : List StatementTree) (rest : List Item) (breaks continues : Bool) → AllJumpsStand breaks continues (statement_trees ss) → ScopedStatements f (lives f is_entry rest) (statement_trees ss) → Encloses f is_entry breaks continues rest → Sit f is_entry rest → Finds f is_entry rest (found_among u l ss rest)
  among_found_sit ss rest breaks continues jumps scoped enclosed sit = subst (λ o. Finds f is_entry rest o) (sym (found_listed u l ss rest)) (all_found_sit (statement_trees ss) rest breaks continues jumps scoped enclosed sit)
