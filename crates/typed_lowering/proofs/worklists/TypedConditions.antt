-- The works of conditions lead to their targets with what is known below.
use Rattle.std.proofs.Common.{◌≡◌, ◌<◌, ℕ, ◌+◌, [], Option, Some, None, refl, arith, sym, subst}
use Rattle.c_layout.specs.CheckedTrees as tree
use Rattle.c_layout.specs.CheckedTrees.{TermTree, Typed}
use Rattle.c_layout.specs.declared.syntax_tree.expressions.LogicalOp.{LogicalOp}
use Rattle.c_layout.specs.declared.syntax_tree.expressions.LogicalOp.TheVariants.{And, Or}
use Rattle.lower_conditions.specs.Conditions.{logical_condition, conditional_condition, negated_condition, plain_condition, leaf_of, leaf_condition, condition}
use Rattle.typed_programs.proofs.plain_worklists.LeadingWorks.{both}
use Rattle.lower_templates.specs.Worklist.Works as jobs
use Rattle.lower_templates.specs.Worklist.Plans.{Plan, with_labels, begun, name_of_object}
use Rattle.lower_templates.specs.Worklist.Settings.{SettingView}
use Rattle.lower_templates.specs.declared.worklist.pending_works.Decision.{Decision}
use Rattle.typed_programs.specs.Types.PointedTypes.{Known}
use Rattle.typed_programs.specs.Types.TypedPrograms.{IsKept}
use Rattle.typed_programs.specs.Types.TypedStates.{Temporaries}
use Rattle.typed_lowering.specs.Conversions.KnownValues.{term_known, below, with_value}
use Rattle.typed_lowering.specs.Conversions.TypedActs as typed
use Rattle.typed_lowering.specs.Conversions.TypedPieces.{State}
use Rattle.typed_lowering.specs.Conversions.WorkLaws.{IsLookedAt}
use Rattle.typed_lowering.proofs.conversions.KeptKnowledge.{kept_same, kept_trans}
use Rattle.typed_lowering.proofs.worklists.KnownTables.{at_most, agrees_same, agrees_value, to_below}
use Rattle.typed_lowering.proofs.worklists.LowKnowledge.{low_is_low, low_labels, leads_to, first_block, next_block}
use Rattle.lower_functions.proofs.ConditionPlans.{kept_test_if}
use Rattle.typed_programs.proofs.plain_worklists.PlainReads.{reads_no_line}
use Rattle.typed_lowering.proofs.worklists.PlannedWorks.{Site, Labels, Awaits, Owns, Planned, plan_none, plan_name, plan_value, plan_condition, plan_end, no_labels, Made, straight}

module _ (c : Site) (s : SettingView) where
  abbrev IsDecided : TermTree → Decision → Type 0
  IsDecided e d = IsLookedAt c.u c.f c.calls (jobs.Condition e d)

  -- what is known below is known at both targets
  abbrev Decides : ℕ → Temporaries → Decision → Labels → Type 0
  Decides depth before d labels = IsKept (below depth before) (labels d.targets.yes) × IsKept (below depth before) (labels d.targets.no)

  abbrev IsMade : Temporaries → Decision → Plan → Plan → Type 0
  IsMade before d p after = Made c p.labels (Decides d.depth before d) (Some before) None after

  -- ---- one value

  abbrev NoneOwn : Temporaries → Decision → Plan → Labels → Type 0
  NoneOwn before d p = Owns p.labels p.labels no_labels (Decides d.depth before d)

  value_decides : (depth : ℕ) (value : Option Known) (before at : Temporaries) → IsKept (below depth before) at → IsKept (with_value depth value before) at
  value_decides depth value before at kept = kept_trans (with_value depth value before) (below depth before) at (to_below depth (with_value depth value before) before (agrees_value depth depth value before before (at_most depth) (agrees_same depth before))) kept

  leaf_made : (e : TermTree) (d : Decision) (p : Plan) (before : Temporaries) → p.jobs ≡ [] → IsDecided e d → IsMade before d p (plain_condition s e d p)
  leaf_made e d p before none looked =
      let goes = value_decides d.depth (term_known e) before in
      straight (record {
        end = None;
        planned = plan_end (with_value d.depth (term_known e) before) _ _ _ (typed.branches d.depth _ (kept_same (with_value d.depth (term_known e) before))) (λ labels l. (goes (labels d.targets.yes) l.1.0, (goes (labels d.targets.no) l.1.1, tt)))
            (plan_value e d.depth _ looked (kept_test_if (λ q. Planned c (NoneOwn before d p) (Some before) p.labels (Some before) q) (λ o q k. plan_name (name_of_object o) q k) s e d.is_test p (plan_none c (NoneOwn before d p) (Some before) p none)));
        weaker = refl;
      })

  -- ---- parts

  -- what is known below comes to targets from below too
  lower : (depth : ℕ) (before at : Temporaries) → IsKept (below depth before) at → IsKept (below depth (below depth before)) at
  lower depth before at kept = kept_trans (below depth (below depth before)) (below depth before) at (low_is_low depth before) kept

  negated_made : (e : TermTree) (d : Decision) (p : Plan) (before : Temporaries) → p.jobs ≡ [] → IsDecided e d → IsMade before d p (negated_condition e d p)
  negated_made e d p before none looked = straight (record { end = None; planned = plan_condition e _ p looked (λ labels l. (l.1.1, l.1.0)) (plan_none c (NoneOwn before d p) (Some before) p none); weaker = refl })

  module _ (d : Decision) (p : Plan) (before : Temporaries) (none : p.jobs ≡ []) where
    -- so many labels, each of a block in which what is known below is
    abbrev Blocks : ℕ → Labels → Type 0
    Blocks count = Owns p.labels (p.labels + count) (low_labels d.depth before) (Decides d.depth before d)

    abbrev IsPlanned : ℕ → State → Plan → Type 0
    IsPlanned count m q = Planned c (Blocks count) (Some before) (p.labels + count) m q

    to_targets : (count : ℕ) (labels : Labels) → Blocks count labels → Decides d.depth (below d.depth before) d labels
    to_targets count labels l = (lower d.depth before (labels d.targets.yes) l.1.0, lower d.depth before (labels d.targets.no) l.1.1)

    to_block : (count k : ℕ) → k < count → (labels : Labels) → Blocks count labels → IsKept (below d.depth (below d.depth before)) (labels (p.labels + k))
    to_block count k less labels l = leads_to c (Decides d.depth before d) (low_labels d.depth before) d.depth count count (at_most count) before p (λ k less. refl) k (below d.depth (below d.depth before)) labels less l (low_is_low d.depth before)

    begins : (count : ℕ) → 0 < count → IsPlanned count (Some (below d.depth before)) (begun p.labels (with_labels count p))
    begins count less = first_block c (Decides d.depth before d) (low_labels d.depth before) d.depth count count (at_most count) before p (λ k less. refl) none less

    next : (count k : ℕ) (q : Plan) → k < count → IsPlanned count None q → IsPlanned count (Some (below d.depth before)) (begun (p.labels + k) q)
    next count k q less planned = next_block c (Decides d.depth before d) (low_labels d.depth before) d.depth count count (at_most count) before p (λ k less. refl) k q less planned

    logical_planned : (sign : LogicalOp) (left right : TermTree) → IsDecided left d → IsDecided right d → IsPlanned 2 None (logical_condition sign left right d p)
    logical_planned And left right a b = plan_condition right d _ b (to_targets 2) (next 2 1 _ (omega arith) (plan_condition left _ _ a (λ labels l. (to_block 2 1 (omega arith) labels l, (to_targets 2 labels l).1)) (begins 2 (omega arith))))
    logical_planned Or left right a b = plan_condition right d _ b (to_targets 2) (next 2 1 _ (omega arith) (plan_condition left _ _ a (λ labels l. ((to_targets 2 labels l).0, to_block 2 1 (omega arith) labels l)) (begins 2 (omega arith))))

    logical_made : (sign : LogicalOp) (left right : TermTree) → IsDecided left d → IsDecided right d → IsMade before d p (logical_condition sign left right d p)
    logical_made sign left right a b = record { own = low_labels d.depth before; to = p.labels + 2; comes = record { end = None; planned = logical_planned sign left right a b; weaker = refl } }

    conditional_made : (test first second : TermTree) → IsDecided test d → IsDecided first d → IsDecided second d → IsMade before d p (conditional_condition test first second d p)
    conditional_made test first second a b e = record {
      own = low_labels d.depth before;
      to = p.labels + 3;
      comes = record {
        end = None;
        planned = plan_condition second _ _ e (to_targets 3) (next 3 2 _ (omega arith) (plan_condition first _ _ b (to_targets 3) (next 3 1 _ (omega arith) (plan_condition test _ _ a (λ labels l. (to_block 3 1 (omega arith) labels l, to_block 3 2 (omega arith) labels l)) (begins 3 (omega arith))))));
        weaker = refl;
      };
    }

  -- ---- conditions

  leaf_looked : (e : TermTree) (d : Decision) (p : Plan) (before : Temporaries) → p.jobs ≡ [] → IsDecided e d → IsMade before d p (leaf_condition s e d p)
  leaf_looked e d p before none looked = subst (λ r. IsMade before d p (leaf_of s e d r p)) (sym (reads_no_line c.calls e looked.1)) (leaf_made e d p before none looked)

  pub condition_made : (e : TermTree) (d : Decision) (p : Plan) (before : Temporaries) → p.jobs ≡ [] → IsLookedAt c.u c.f c.calls (jobs.Condition e d) → Made c p.labels (Awaits before (jobs.Condition e d)) (Some before) None (condition s e d p)
  condition_made (Typed at t parens constant (tree.Logical sign left right)) d p before none looked =
      let typed_ = both _ _ (both _ _ looked.0).1 in let plain = both _ _ looked.1 in let regular = both _ _ looked.2 in
      logical_made d p before none sign left right (typed_.0, plain.0, regular.0) (typed_.1, plain.1, regular.1)
  condition_made (Typed at t parens constant (tree.Not inner)) d p before none looked = negated_made inner d p before none ((both _ _ looked.0).0, looked.1, looked.2)
  condition_made (Typed at t parens constant (tree.Conditional test first second)) d p before none looked =
      let typed_ = both _ _ looked.0 in let plain = both _ _ looked.1 in let regular = both _ _ looked.2 in
      let typed_arms = both _ _ typed_.1 in let plain_arms = both _ _ plain.1 in let regular_arms = both _ _ regular.1 in
      conditional_made d p before none test first second (typed_.0, plain.0, regular.0) ((both _ _ typed_arms.0).0, plain_arms.0, regular_arms.0) ((both _ _ typed_arms.1).0, plain_arms.1, regular_arms.1)
  condition_made (Typed at t parens constant form) d p before none looked = leaf_looked (Typed at t parens constant form) d p before none looked
