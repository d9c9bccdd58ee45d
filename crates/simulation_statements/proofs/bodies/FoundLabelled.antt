-- Statements with a label before them: the label leads to the statement, and other labels into it.
use Rattle.std.proofs.Common.{◌≡◌, ◌≤◌, ℕ, Bool, true, false, List, [], ◌∷◌, ◌++◌, Option, Some, refl, arith, sym, subst, ◌∙◌}
use Rattle.std.proofs.lemmas.Bool.{eqb-true}
use Rattle.c_layout.specs.CheckedTrees.{StatementTree}
use Rattle.lower_templates.specs.Worklist.Pieces.{Mark}
use Rattle.lower_templates.specs.Worklist.Plans.{Plan}
use Rattle.lower_templates.specs.Worklist.Settings.{SettingView}
use Rattle.lower_templates.specs.Worklist.Works as jobs
use Rattle.lower_templates.specs.Worklist.Works.{Job, behind}
use Rattle.lower_templates.specs.declared.worklist.pending_works.Surroundings.{Surroundings}
use Rattle.lower_functions.specs.Statements.Loops.{part}
use Rattle.lower_functions.specs.Statements.Switches.{dispatch_at}
use Rattle.lower_functions.specs.Functions.Turns.{planless}
use Rattle.lower_template_theorems.specs.Growth.Growth.{Grows}
use Rattle.lower_template_theorems.proofs.growth.GrowingWorks.{grows, grows_parts, planless_grows}
use Rattle.lower_template_theorems.specs.Worklists.Derivations.{parts, Makes}
use Rattle.semantics.specs.SourceMachine.Items as item
use Rattle.semantics.specs.SourceMachine.Items.{Item}
use Rattle.semantics.specs.SourceMachine.LabelSearch.{Sought, is_label, is_case, is_other, here_or, found}
use Rattle.simulation_terms.specs.SimulationRelation.Activations.{Activation}
use Rattle.simulation_terms.specs.SimulationRelation.Simulates.{Simulates}
use Rattle.simulation_terms.specs.Worklists.TemplateParts.{IsOfUnit, Stands}
use Rattle.simulation_terms.proofs.worklists.Runs.{known_before, opened, headed, stands_after}
use Rattle.simulation_terms.proofs.worklists.Laying.{led}
use Rattle.simulation_terms.proofs.scopes.Positions.{Position}
use Rattle.simulation_terms.proofs.scopes.InScopes.{Goes}
use Rattle.simulation_statements.proofs.statements.Labelled.{labelled_planned, labelled_scopes}
use Rattle.simulation_statements.specs.Dispatches.LabelMarks.{IsMark, of_label, of_case, of_other}
use Rattle.simulation_statements.proofs.bodies.Finding.{Finds, mark_kept, mark_below}

at_most : (a : ℕ) → a ≤ a
at_most a = omega arith

-- the mark of the label that is sought
pub label_mark : (p : Plan) (choice k : ℕ) (l : Sought) (mark : ℕ) → IsMark p choice l mark → is_label l k ≡ true → mark ≡ k
label_mark p choice k _ _ (of_label n less) e = eqb-true n k e
label_mark p choice k _ _ (of_case n there less) e = absurd (no e)
  where
    no : false ≡ true → ⊥
    no e = cc
label_mark p choice k _ _ (of_other there less) e = absurd (no e)
  where
    no : false ≡ true → ⊥
    no e = cc

pub case_mark : (p : Plan) (choice k : ℕ) (l : Sought) (mark : ℕ) → IsMark p choice l mark → is_case l k ≡ true → mark ≡ behind (dispatch_at p choice).cases k
case_mark p choice k _ _ (of_label n less) e = absurd (no e)
  where
    no : false ≡ true → ⊥
    no e = cc
case_mark p choice k _ _ (of_case n there less) e = same (eqb-true n k e)
  where
    same : n ≡ k → behind (dispatch_at p choice).cases n ≡ behind (dispatch_at p choice).cases k
    same e = cc
case_mark p choice k _ _ (of_other there less) e = absurd (no e)
  where
    no : false ≡ true → ⊥
    no e = cc

pub default_mark : (p : Plan) (choice : ℕ) (l : Sought) (mark : ℕ) → IsMark p choice l mark → is_other l ≡ true → mark ≡ (dispatch_at p choice).fallback
default_mark p choice _ _ (of_label n less) e = absurd (no e)
  where
    no : false ≡ true → ⊥
    no e = cc
default_mark p choice _ _ (of_case n there less) e = absurd (no e)
  where
    no : false ≡ true → ⊥
    no e = cc
default_mark p choice _ _ (of_other there less) e = refl

here_is : (to x : List Item) → Some x ≡ Some to → x ≡ to
here_is to x e = cc

module _ (s : SettingView) (t : Activation) (fits : IsOfUnit t s) (n choice : ℕ) (c last : Position) (K : List Item → Type 0) (body : StatementTree) (around : Surroundings) (goes : Goes s t n c last K (jobs.Statement body around ∷ []) (item.Statement body ∷ []))
    (finds : Finds s t n choice c K (jobs.Statement body around ∷ []) (λ l items. found t.unit l body items)) where
  pub found_labelled : (i : StatementTree) (is_sought : Sought → Bool) (mark : Plan → ℕ) → ((p : Plan) → parts s (jobs.Statement i around) p ≡ part (mark p) body around p) → ((p : Plan) (l : Sought) (m : ℕ) → IsMark p choice l m → is_sought l ≡ true → m ≡ mark p)
      → Finds s t n choice c K (jobs.Statement i around ∷ []) (λ l items. here_or (is_sought l) (item.Statement body ∷ items) (found t.unit l body items))
  found_labelled i is_sought mark same is_mark = record {
    from = λ p none begun ps r m known items rest stands k f l lb is to e.
        let all = part (mark p) body around p in
        let start = planless all in
        let here = subst (λ ks. Makes s start ks ps r) (labelled_planned (mark p) body around p none) (subst (λ q. Makes s (planless q) q.jobs ps r) (same p) (opened s p (jobs.Statement i around) ps r refl m)) in
        let x = headed s start (Mark (mark p)) (jobs.Statement body around ∷ []) ps r here in
        let at_mark = subst (λ xs. Stands t (xs ++ rest)) x.is stands in
        let at_body = stands_after t (Mark (mark p)) (x.back ++ rest) at_mark in
        let begun_all = labelled_scopes (mark p) body around p ∙ begun in
        let grown = grows s p (jobs.Statement i around ∷ []) ps r m in
        let few = (known_before t p r grown known).labels in
        let to_start : Grows p start = planless_grows p all (subst (λ q. Grows p q) (same p) (grows_parts s (jobs.Statement i around) p)) in
        by (is_sought l) refl e
        (λ sought is_to.
        record { there = x.back ++ rest; leads = led s t fits lb p.labels p.labels (x.back ++ rest) (mark_below p choice l lb is) (at_most p.labels) few (subst (λ j. Stands t (Mark j ∷ (x.back ++ rest))) (sym (is_mark p l lb is sought)) at_mark); simulates = subst (λ xs. Simulates t n 0 xs (x.back ++ rest)) is_to (goes.from start refl begun_all x.back r x.made known items rest at_body k f) })
        (λ is_to. finds.from start refl begun_all x.back r x.made known items rest at_body k f l lb (mark_kept p start choice l lb to_start is) to is_to);
  }
    where
      by : {A : Type 0} {one : List Item} {later : Option (List Item)} {to : List Item} {b : Bool} (a : Bool) → b ≡ a → here_or a one later ≡ Some to → (b ≡ true → one ≡ to → A) → (later ≡ Some to → A) → A
      by {one = one} {to = to} true is e here there = here is (here_is to one e)
      by false is e here there = there e
