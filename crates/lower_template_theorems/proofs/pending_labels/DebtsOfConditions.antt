-- The marks that conditions are to make are those of labels that they give away.
use Rattle.std.proofs.Common.{◌≡◌, ℕ, ◌+◌, List, [], Option, Some, None, refl}
use Rattle.c_layout.specs.CheckedTrees as tree
use Rattle.c_layout.specs.CheckedTrees.{TermTree, FormTree, Typed}
use Rattle.lower_conditions.specs.Conditions.{condition, condition_of_form, leaf_of, test_if, tested_branch, read_by, ReadView}
use Rattle.lower_conditions.specs.Tests.{Tested}
use Rattle.lower_templates.specs.Worklist.Plans.{Plan, with_labels, name_of_object}
use Rattle.lower_templates.specs.Worklist.Settings.{SettingView}
use Rattle.lower_templates.specs.declared.worklist.template_builder.Dispatch.{Dispatch}
use Rattle.lower_templates.specs.declared.worklist.pending_works.Decision.{Decision}
use Rattle.lower_functions.proofs.ConditionPlans.{kept_test_if}
use Rattle.lower_template_theorems.specs.Growth.Growth.{Grows}
use Rattle.lower_template_theorems.specs.PendingLabels.Marks.{one}
use Rattle.lower_template_theorems.proofs.growth.Growth.{grows_not, works}
use Rattle.lower_template_theorems.proofs.pending_labels.Debts.{Owed, owed_none, owed_name, debts}
use Rattle.lower_template_theorems.proofs.pending_labels.DebtsOfTerms.{Paid, paid, paid_silent, owed_argued, balance_none, balance_mark, labels_least, at_least_next, first_number, next_number}

owed_branch : {ds : List Dispatch} {l k : ℕ} (e : TermTree) (d : Decision) (found : Tested) → Owed ds l k found.after → Owed ds l k (tested_branch e d found)
owed_branch e d found g = search debts depth 30

owed_leaf : {ds : List Dispatch} {l k : ℕ} (s : SettingView) (e : TermTree) (d : Decision) (r : Option ReadView) (p : Plan) → Owed ds l k p → Owed ds l k (leaf_of s e d r p)
owed_leaf s e d (Some r) p g = search (debts, owed_argued) depth 30
owed_leaf {ds = ds} {l = l} {k = k} s e d None p g = owed_branch e d (test_if s e d.is_test p) (kept_test_if (Owed ds l k) (λ o q h. owed_name (name_of_object o) q h) s e d.is_test p g)

paid_logical_condition : {ds : List Dispatch} {l : ℕ} (s : SettingView) (e : TermTree) (form : FormTree) (d : Decision) (p : Plan) → p.jobs ≡ [] → Grows p (condition_of_form s e form d p) → Paid ds l 0 p (condition_of_form s e form d p)
paid_logical_condition {ds = ds} {l = l} s e form d p none g = by_form form (owed_none p none) g
  where
    by_form : (form : FormTree) → Owed ds l 0 p → Grows p (condition_of_form s e form d p) → Paid ds l 0 p (condition_of_form s e form d p)
    by_form (tree.Logical sign left right) start grown =
        let r = condition_of_form s e (tree.Logical sign left right) d p in
        let o : Owed ds l ((0 + one l p.labels) + one l (p.labels + 1)) r = search debts depth 30 in
        let opened : Grows (with_labels 2 p) (with_labels 2 p) = grows_not (with_labels 2 p) in
        let g : Grows (with_labels 2 p) r = search works depth 30 in
        let m = p.labels in
        paid 0 p r refl (balance_mark (m + 1) r.labels (at_least_next m 1 2 r.labels (labels_least 2 p r g) refl) (balance_mark m (m + 1) (first_number m) (balance_none m))) o
    by_form (tree.Not inner) start grown = paid_silent p _ grown (search debts depth 30)
    by_form (tree.Conditional test first second) start grown =
        let r = condition_of_form s e (tree.Conditional test first second) d p in
        let o : Owed ds l (((0 + one l p.labels) + one l (p.labels + 1)) + one l (p.labels + 2)) r = search debts depth 30 in
        let opened : Grows (with_labels 3 p) (with_labels 3 p) = grows_not (with_labels 3 p) in
        let g : Grows (with_labels 3 p) r = search works depth 30 in
        let m = p.labels in
        paid 0 p r refl (balance_mark (m + 2) r.labels (at_least_next m 2 3 r.labels (labels_least 3 p r g) refl) (balance_mark (m + 1) (m + 2) (next_number m 1 2 refl) (balance_mark m (m + 1) (first_number m) (balance_none m)))) o
    by_form _ start grown = paid_silent p _ grown (owed_leaf s e d (read_by e) p start)

pub paid_condition : {ds : List Dispatch} {l : ℕ} (s : SettingView) (e : TermTree) (d : Decision) (p : Plan) → p.jobs ≡ [] → Grows p (condition s e d p) → Paid ds l 0 p (condition s e d p)
paid_condition s (Typed at t parens constant form) d p none g = paid_logical_condition s (Typed at t parens constant form) form d p none g
