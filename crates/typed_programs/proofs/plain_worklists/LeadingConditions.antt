-- The works of plain conditions lead on, to their targets.
use Rattle.std.proofs.Common.{◌≡◌, inl, inr, ℕ, ◌+◌, Bool, true, List, refl, sym, subst}
use Rattle.c_layout.specs.CheckedTrees as tree
use Rattle.c_layout.specs.CheckedTrees.{TermTree, FormTree, Typed}
use Rattle.c_layout.specs.declared.syntax_tree.expressions.LogicalOp.{LogicalOp}
use Rattle.c_layout.specs.declared.syntax_tree.expressions.LogicalOp.TheVariants.{And, Or}
use Rattle.lower_conditions.specs.Conditions.{read_by, condition_of_form, condition, leaf_of, logical_condition}
use Rattle.lower_templates.specs.Worklist.Plans.{Plan, name_of_object}
use Rattle.lower_templates.specs.Worklist.Settings.{SettingView}
use Rattle.lower_templates.specs.declared.worklist.pending_works.Decision.{Decision}
use Rattle.lower_templates.specs.declared.worklist.template_builder.Dispatch.{Dispatch}
use Rattle.lower_functions.proofs.ConditionPlans.{kept_test_if}
use Rattle.typed_programs.specs.PlainUnits.PlainTerms.{is_plain_term, is_plain_form}
use Rattle.typed_programs.proofs.plain_worklists.LeadingWorks.{both, Leading, lead_value, lead_end, lead_mark, lead_condition, lead_labels, lead_name}
use Rattle.typed_programs.proofs.plain_worklists.LeadingTerms.{object_named}
use Rattle.typed_programs.proofs.plain_worklists.PlainReads.{reads_no_line}

module _ {calls : ℕ → Bool} {s : SettingView} {ds : List Dispatch} {begun count : ℕ} where
  lead_leaf : {L : ℕ → Type 0} (e : TermTree) (d : Decision) (p : Plan) → is_plain_term calls e ≡ true → L d.targets.yes → L d.targets.no → Leading calls s ds begun count L p → Leading calls s ds begun count L (leaf_of s e d (read_by e) p)
  lead_leaf {L = L} e d p plain to_yes to_no k = subst (λ r. Leading calls s ds begun count L (leaf_of s e d r p)) (sym (reads_no_line calls e plain)) (lead_end _ _ _ refl (to_yes, (to_no, tt)) (lead_value e d.depth _ plain (kept_test_if (Leading calls s ds begun count L) (λ o q h. lead_name (name_of_object o) q (object_named o) h) s e d.is_test p k)))

  lead_logical : {L : ℕ → Type 0} (sign : LogicalOp) (left right : TermTree) (d : Decision) (p : Plan) → is_plain_term calls left ≡ true → is_plain_term calls right ≡ true → L d.targets.yes → L d.targets.no → ((L : ℕ → Type 0) → Leading calls s ds begun count L p) → Leading calls s ds begun count L (logical_condition sign left right d p)
  lead_logical And left right d p a b to_yes to_no start = lead_condition right _ _ b to_yes to_no (lead_mark (p.labels + 1) _ (lead_condition left _ _ a (inl refl) (inr to_no) (lead_mark p.labels _ (lead_labels 2 p (start _)))))
  lead_logical Or left right d p a b to_yes to_no start = lead_condition right _ _ b to_yes to_no (lead_mark (p.labels + 1) _ (lead_condition left _ _ a (inr to_yes) (inl refl) (lead_mark p.labels _ (lead_labels 2 p (start _)))))

  lead_condition_form : {L : ℕ → Type 0} (e : TermTree) (form : FormTree) (d : Decision) (p : Plan) → is_plain_term calls e ≡ true → is_plain_form calls form ≡ true → L d.targets.yes → L d.targets.no → ((L : ℕ → Type 0) → Leading calls s ds begun count L p) → Leading calls s ds begun count L (condition_of_form s e form d p)
  lead_condition_form e (tree.Logical sign left right) d p whole plain to_yes to_no start = let x = both _ _ plain in lead_logical sign left right d p x.0 x.1 to_yes to_no start
  lead_condition_form e (tree.Not inner) d p whole plain to_yes to_no start = lead_condition inner _ _ plain to_no to_yes (start _)
  lead_condition_form e (tree.Conditional test first second) d p whole plain to_yes to_no start =
      let x = both _ _ plain in let y = both _ _ x.1 in
      lead_condition second _ _ y.1 to_yes to_no (lead_mark (p.labels + 2) _ (lead_condition first _ _ y.0 (inr to_yes) (inr to_no) (lead_mark (p.labels + 1) _ (lead_condition test _ _ x.0 (inl refl) (inr (inl refl)) (lead_mark p.labels _ (lead_labels 3 p (start _)))))))
  lead_condition_form e _ d p whole plain to_yes to_no start = lead_leaf e d p whole to_yes to_no (start _)

  pub lead_condition_works : {L : ℕ → Type 0} (e : TermTree) (d : Decision) (p : Plan) → is_plain_term calls e ≡ true → L d.targets.yes → L d.targets.no → ((L : ℕ → Type 0) → Leading calls s ds begun count L p) → Leading calls s ds begun count L (condition s e d p)
  lead_condition_works (Typed at t parens constant form) d p plain to_yes to_no start = lead_condition_form (Typed at t parens constant form) form d p plain plain to_yes to_no start
