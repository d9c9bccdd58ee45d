-- The pieces of a template have each property that its works keep.
use Rattle.std.proofs.Common.{◌≡◌, ℕ, Bool, true, List, [], ◌∷◌, ◌++◌, refl, sym, subst}
use Rattle.cc_base.specs.declared.diagnostics.Place.{Place}
use Rattle.c_layout.specs.CheckedTrees.{TermTree, StatementTree, StatementTrees, statement_trees}
use Rattle.c_layout.specs.CheckedUnits.{FunctionView}
use Rattle.c_layout.specs.StructViews.{StructView}
use Rattle.c_layout.specs.declared.checked_tree.checked_statements.CaseLabel.{CaseLabel}
use Rattle.cfg.specs.declared.machine_instructions.Scalar.{Scalar}
use Rattle.lower_templates.specs.Worklist.Pieces.{NameView, PieceView, TemplateView}
use Rattle.lower_templates.specs.Worklist.Works as jobs
use Rattle.lower_templates.specs.Worklist.Works.{Job}
use Rattle.lower_templates.specs.Worklist.Plans.{Plan}
use Rattle.lower_templates.specs.Worklist.Settings.{SettingView}
use Rattle.lower_functions.specs.Functions.Functions.{result_loaded, function, setting_of, no_plan, IsTemplate}
use Rattle.lower_functions.specs.Functions.Turns.{planless}
use Rattle.lower_functions.proofs.PlanClosures.{StatementClosed}
use Rattle.lower_functions.proofs.TermPlans.{kept_term, kept_address}
use Rattle.lower_functions.proofs.ConditionPlans.{kept_condition}
use Rattle.lower_functions.proofs.StatementPlans.{kept_statement}
use Rattle.lower_functions.proofs.FunctionPlans.{kept_function}
use Rattle.lower_functions.proofs.PlannedWorks.{IsSuch, AreSuch, IsPlanned, PieceLaw, works_still, such_none, such_terms, such_conditions}
use Rattle.lower_template_theorems.specs.Worklists.Derivations.{parts, Makes, nothing, piece, work}
use Rattle.lower_template_theorems.proofs.worklists.Derivations.{derived}
use Rattle.lower_template_theorems.proofs.growth.Growth.{grows_on}
use Rattle.lower_template_theorems.proofs.growth.GrowingWorks.{grows_parts, planless_grows, grows, jobs_none}

module _ (Q : List NameView → PieceView → Type 0) where
  abbrev pub AllSuch : List NameView → List PieceView → Type 0
  AllSuch names [] = Unit {0}
  AllSuch names (q ∷ qs) = Q names q × AllSuch names qs

  all_append : (names : List NameView) (xs ys : List PieceView) → AllSuch names xs → AllSuch names ys → AllSuch names (xs ++ ys)
  all_append names [] ys a b = b
  all_append names (x ∷ xs) ys (first, a) b = (first, all_append names xs ys a b)

  all_still : PieceLaw Q → (names more : List NameView) (qs : List PieceView) → AllSuch names qs → AllSuch (names ++ more) qs
  all_still law names more [] is = tt
  all_still law names more (q ∷ qs) (first, is) = (law.still names more q first, all_still law names more qs is)

module _ {Q : List NameView → PieceView → Type 0} {T : StatementTree → Type 0} {U : StatementTrees → Type 0} {S : TermTree → List CaseLabel → Type 0} (law : PieceLaw Q) (c : StatementClosed (IsPlanned T Q) T U S) where
  such_parts : (s : SettingView) (j : Job) (p : Plan) → p.jobs ≡ [] → IsSuch T Q p.names j → IsPlanned T Q (parts s j p)
  such_parts s (jobs.Value e depth) p none is = kept_term (such_terms T law) s e depth true p (such_none T Q p none)
  such_parts s (jobs.Unused e depth) p none is = kept_term (such_terms T law) s e depth _ p (such_none T Q p none)
  such_parts s (jobs.Address l depth) p none is = kept_address (such_terms T law) s l depth p (such_none T Q p none)
  such_parts s (jobs.Condition e decision) p none is = kept_condition (such_conditions T law) s e decision p (such_none T Q p none)
  such_parts s (jobs.Statement i around) p none is = kept_statement c s i around p is (such_none T Q p none)
  such_parts s (jobs.Ready q) p none is = such_none T Q p none

  such_made : (s : SettingView) (p : Plan) (js : List Job) (ps : List PieceView) (r : Plan) → Makes s p js ps r → p.jobs ≡ [] → AreSuch T Q p.names js → AllSuch Q r.names ps
  such_made s p _ _ r (nothing _) none known = tt
  such_made s p _ _ r (piece _ q js qs _ m) none (first, known) =
      let g = grows s p js qs r m in
      (subst (λ ns. Q ns q) (sym g.names) (law.still p.names g.more_names q first), such_made s p js qs r m none known)
  such_made s p _ _ r (work _ j js ps q qs _ other m k) none (first, known) =
      let d = parts s j p in
      let inner = such_made s (planless d) d.jobs ps q m refl (such_parts s j p none first).works in
      let to = grows_on p (planless d) q (planless_grows p d (grows_parts s j p)) (grows s (planless d) d.jobs ps q m) in
      let later = subst (λ ns. AreSuch T Q ns js) (sym to.names) (works_still T law p.names to.more_names js known) in
      let outer = such_made s q js qs r k (jobs_none s (planless d) d.jobs ps q m refl) later in
      let more = grows s q js qs r k in
      all_append Q r.names ps qs (subst (λ ns. AllSuch Q ns ps) (sym more.names) (all_still Q law q.names more.more_names ps inner)) outer

  pub template_such : ((at : Place) (kind : Scalar) (p : Plan) → IsPlanned T Q p → IsPlanned T Q (result_loaded at kind p)) → (structs : List StructView) (pointer int_bytes : ℕ) (f : FunctionView) (is_entry : Bool) (t : TemplateView) → IsTemplate structs pointer int_bytes f is_entry t → U (statement_trees f.body) → AllSuch Q t.names t.pieces
  template_such loaded structs pointer int_bytes f is_entry t is such =
      let s = setting_of structs pointer int_bytes f is_entry in
      let p = function s f (no_plan f.labels) in
      let d = derived s p t is in
      let first = kept_function c s f (no_plan f.labels) loaded such (such_none T Q (no_plan f.labels) refl) in
      subst (λ ns. AllSuch Q ns t.pieces) (sym d.names) (such_made s (planless p) p.jobs t.pieces d.last d.pieces refl first.works)
