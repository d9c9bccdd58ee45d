-- What is known below a temporary comes to each label of works that compute a value there.
use Rattle.std.proofs.Common.{◌≡◌, ◌≤◌, ◌<◌, ℕ, ◌+◌, [], Option, Some, None, arith, sym, subst, ◌∙◌}
use Rattle.typed_programs.specs.Types.PointedTypes.{Known}
use Rattle.typed_programs.specs.Types.TypedPrograms.{IsKept, Gives}
use Rattle.typed_programs.specs.Types.TypedStates.{Temporaries}
use Rattle.typed_lowering.specs.Conversions.KnownValues.{below, with_value}
use Rattle.typed_lowering.proofs.conversions.KeptKnowledge.{kept_same, kept_below}
use Rattle.typed_lowering.proofs.worklists.KnownTables.{at_most, Agrees, agrees_same, agrees_below, agrees_value, to_below, gives_below}
use Rattle.lower_templates.specs.Worklist.Plans.{Plan, with_labels, begun}
use Rattle.typed_lowering.proofs.worklists.PlannedWorks.{Site, Labels, Owns, Planned, plan_none, plan_labels, plan_mark}

-- the knowledge below is that before
pub low_agrees : (depth : ℕ) (before : Temporaries) → Agrees depth (below depth before) before
low_agrees depth before = agrees_below depth depth before before (at_most depth) (agrees_same depth before)

pub low_is_low : (depth : ℕ) (before : Temporaries) → IsKept (below depth (below depth before)) (below depth before)
low_is_low depth before = to_below depth (below depth (below depth before)) before (agrees_below depth depth (below depth before) before (at_most depth) (low_agrees depth before))

pub value_agrees : (depth : ℕ) (value : Option Known) (before : Temporaries) → Agrees depth (with_value depth value (below depth before)) before
value_agrees depth value before = agrees_value depth depth value (below depth before) before (at_most depth) (low_agrees depth before)

-- a value is forgotten, or replaced by a number
pub value_is_low : (depth : ℕ) (value : Option Known) (before : Temporaries) → IsKept (with_value depth value (below depth before)) (below depth before)
value_is_low depth value before = to_below depth (with_value depth value (below depth before)) before (value_agrees depth value before)

pub number_is_low : (depth : ℕ) (value : Option Known) (before : Temporaries) → Gives depth None (with_value depth value (below depth before)) (below depth before)
number_is_low depth value before = gives_below depth depth None (with_value depth value (below depth before)) before (at_most depth) (value_agrees depth value before)

abbrev pub low_labels : ℕ → Temporaries → Labels
low_labels depth before l = below depth before

-- ---- blocks

starts : (n k : ℕ) → n ≤ n + k
starts n k = omega arith

inside : (n k blocks count : ℕ) → k < blocks → blocks ≤ count → n + k < n + count
inside n k blocks count less within = omega (arith, less, within)

no_more : (n : ℕ) → n ≡ n + 0
no_more n = omega arith

-- works with so many labels of their own, the first ones of blocks in which that is known
module _ (c : Site) (waits : Labels → Type 0) (own : Labels) (depth blocks count : ℕ) (within : blocks ≤ count) (before : Temporaries) (p : Plan) (low : (k : ℕ) → k < blocks → own (p.labels + k) ≡ below depth before) where
  abbrev pub OwnLabels : Labels → Type 0
  OwnLabels = Owns p.labels (p.labels + count) own waits

  at_block : (k : ℕ) (labels : Labels) → k < blocks → OwnLabels labels → labels (p.labels + k) ≡ below depth before
  at_block k labels less l = l.0 (p.labels + k) (starts p.labels k) (inside p.labels k blocks count less within) ∙ low k less

  pub leads_to : (k : ℕ) (known : Temporaries) (labels : Labels) → k < blocks → OwnLabels labels → IsKept known (below depth before) → IsKept known (labels (p.labels + k))
  leads_to k known labels less l kept = subst (λ z. IsKept known z) (sym (at_block k labels less l)) kept

  is_known : (k : ℕ) (labels : Labels) → k < blocks → OwnLabels labels → IsKept (labels (p.labels + k)) (below depth before)
  is_known k labels less l = subst (λ z. IsKept z (below depth before)) (sym (at_block k labels less l)) (kept_same (below depth before))

  pub first_block : p.jobs ≡ [] → 0 < blocks → Planned c OwnLabels (Some before) (p.labels + count) (Some (below depth before)) (begun p.labels (with_labels count p))
  first_block none less =
      plan_mark (below depth before) p.labels (with_labels count p)
      (λ labels l. subst (λ n. IsKept before (labels n) × IsKept (labels n) (below depth before)) (sym (no_more p.labels)) (leads_to 0 before labels less l (kept_below depth before), is_known 0 labels less l))
      (plan_labels count p (plan_none c OwnLabels (Some before) p none))

  pub next_block : (k : ℕ) (q : Plan) → k < blocks → Planned c OwnLabels (Some before) (p.labels + count) None q → Planned c OwnLabels (Some before) (p.labels + count) (Some (below depth before)) (begun (p.labels + k) q)
  next_block k q less planned = plan_mark (below depth before) (p.labels + k) q (λ labels l. (tt, is_known k labels less l)) planned
