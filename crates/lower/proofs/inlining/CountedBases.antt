-- A program that is lowered has no more bases and cells than were counted.
use Rattle.std.proofs.Common.{◌≡◌, ◌≤◌, ◌<◌, ℕ, ◌+◌, ◌-◌, ◌^◌, cond, min, List, [], ◌∷◌, length, reverse, None, refl, arith, ap, sym, subst, ◌∙◌}
use Rattle.cc_base.specs.declared.limit_table.Count.TheVariants.{Temps, Bases, Cells, Blocks, Instructions, Pool}
use Rattle.cc_base.specs.declared.limit_table.Limits.{Limits}
use Rattle.c_layout.specs.StructLayouts.{leaf_count}
use Rattle.c_layout.specs.CheckedUnits.{UnitView}
use Rattle.c_layout.specs.declared.shapes.BaseInfo.{BaseInfo}
use Rattle.c_layout.specs.declared.shapes.BaseKind.{BaseKind}
use Rattle.c_layout.specs.declared.shapes.BaseKind.TheVariants as kind
use Rattle.lower_objects.specs.Shapes.HeapBases.{heap_leaves}
use Rattle.cfg.specs.WellFormed.{base_cells, all_cells}
use Rattle.lower_tables.specs.declared.counts.count_limits.UnitCounts.{UnitCounts}
use Rattle.lower_objects.specs.Counts.Extents.{capped}
use Rattle.lower_objects.specs.Counts.BaseCounts.{bases_of}
use Rattle.lower_tables.specs.Counts.FirstOver.{over, or_else, first_over, pool}
use Rattle.lower_objects.specs.Counts.PieceCounts.{counts_of}
use Rattle.lower_objects.specs.Counts.SharedObjects.{all_bases, all_visited, none_visited, shared_bases}
use Rattle.lower_templates.specs.Views.ProgramViews.{FlowView}
use Rattle.lower.specs.Inlining.Inlinings.{whole, program}
use Rattle.lower.specs.Inlining.Lowerings.{IsLowering}
use Rattle.lower.specs.Inlining.AsCounted.{all_mentions, AreRecorded, HasNoMore, HasFew}
use Rattle.lower.proofs.inlining.PieceExtents.{capped_left, capped_right}
use Rattle.lower.proofs.inlining.CountedLowerings.{first_none, then_none, within}
use Rattle.lower.proofs.inlining.WeighedBases.{Weights, is_own, own_weight, shared_weight}
use Rattle.lower.proofs.inlining.WeighedCalls.{own_within}
use Rattle.lower.proofs.inlining.SharedVisits.{all_counted, all_seen}
use Rattle.lower.proofs.inlining.SharedMade.{shared_within}

-- each base as one
one_each : (u : UnitView) → Weights u
one_each u = record {
  info = λ b. 1;
  object = λ t. 1;
  site = λ target. 2;
  pick = λ c. c.bases;
  weighs_object = λ what size first t. refl;
  weighs_site = λ first second target. refl;
  picks = λ a b. refl;
  picks_none = refl;
  picks_object = λ t. refl;
  picks_site = λ target. refl;
}

-- each base by its cells
by_cells : (u : UnitView) → AreRecorded u → Weights u
by_cells u recorded = record {
  info = base_cells;
  object = leaf_count u.structs;
  site = λ target. (length (heap_leaves u.structs u.model.pointer target) + 6) + (length (heap_leaves u.structs u.model.pointer target) + 6);
  pick = λ c. c.cells;
  weighs_object = λ what size first t. no_more_cells _ _ (recorded t);
  weighs_site = λ first second target. refl;
  picks = λ a b. refl;
  picks_none = refl;
  picks_object = λ t. refl;
  picks_site = λ target. capped_left (length (heap_leaves u.structs u.model.pointer target) + 6) (capped (length (heap_leaves u.structs u.model.pointer target) + 6)) ∙ capped_right (length (heap_leaves u.structs u.model.pointer target) + 6) (length (heap_leaves u.structs u.model.pointer target) + 6);
}
  where
    no_more_cells : (a b : ℕ) → a ≡ b → a + 0 ≡ b
    no_more_cells a b is = omega arith

-- own and shared bases are all
abbrev total : (BaseInfo → ℕ) → List BaseInfo → ℕ
total weight [] = 0
total weight (b ∷ bs) = weight b + total weight bs

one_side : (k : BaseKind) (n : ℕ) → n ≡ cond (is_own k) n 0 + cond (is_own k) 0 n
one_side kind.Static n = omega arith
one_side kind.Automatic n = omega arith
one_side kind.Literal n = omega arith
one_side kind.Newest n = omega arith
one_side kind.Older n = omega arith

both_sides : (weight : BaseInfo → ℕ) (bs : List BaseInfo) → total weight bs ≡ own_weight weight bs + shared_weight weight bs
both_sides weight [] = refl
both_sides weight (b ∷ bs) = let one = one_side b.kind (weight b) in let more = both_sides weight bs in omega (arith, one, more)

-- in any weight
weighed : (u : UnitView) (w : Weights u) (limits : Limits) (f : FlowView) (is : IsLowering u limits f) → all_mentions u is.templates < 2 ^ 64
    → capped (total w.info f.bases) ≤ capped (w.pick (bases_of is.is_counted.are_counts.entry) + w.pick (shared_bases u is.templates))
weighed u w limits f is few =
    let ts = is.templates in
    let c = is.is_counted.are_counts in
    let s = all_visited u (2 ^ 64 - 1) (reverse (all_bases ts)) (none_visited u) in
    let bs = (whole u ts is.entry.at).program.bases.bases in
    let own = own_within u w ts is.is_counted.table is.entry.at is.is_counted.is_prepared is.ends in
    let own_count = ap (λ k. w.pick (bases_of (counts_of k))) c.is_counted in
    let shared = shared_within u w ts s (all_seen u ts few) is.entry.at in
    let shared_count = all_counted u w ts in
    let all = both_sides w.info bs in
    let made : capped (total w.info bs) ≤ capped (w.pick (bases_of c.entry) + w.pick (shared_bases u ts)) = less (10 ^ 18) _ _ _ _ _ _ _ all own own_count shared shared_count in
    subst (λ g. capped (total w.info g.bases) ≤ capped (w.pick (bases_of c.entry) + w.pick (shared_bases u ts))) (sym is.opens) made
  where
    less : (m t o s p q n k : ℕ) → t ≡ o + s → min o m ≤ p → p ≡ q → s ≤ n → k ≡ min n m → min t m ≤ min (q + k) m
    less m t o s p q n k a b c d e = omega arith

total_one : (bs : List BaseInfo) → total (λ b. 1) bs ≡ length bs
total_one [] = refl
total_one (b ∷ bs) = let e = total_one bs in omega (arith, e)

total_cells : (bs : List BaseInfo) → total base_cells bs ≡ all_cells bs
total_cells [] = refl
total_cells (b ∷ bs) = ap (λ n. base_cells b + n) (total_cells bs)

pub no_more : (u : UnitView) (limits : Limits) (f : FlowView) (is : IsLowering u limits f) → all_mentions u is.templates < 2 ^ 64 → HasNoMore u is.counts f
unfolding one_each by_cells
no_more u limits f is few =
    let counts = is.is_counted.are_counts.are_counts in
    record {
      bases = subst (λ n. capped n ≤ is.counts.bases) (total_one f.bases) (subst (λ c. capped (total (λ b. 1) f.bases) ≤ c.bases) (sym counts) (weighed u (one_each u) limits f is few));
      cells = λ recorded. subst (λ n. capped n ≤ is.counts.cells) (total_cells f.bases) (subst (λ c. capped (total base_cells f.bases) ≤ c.cells) (sym counts) (weighed u (by_cells u recorded) limits f is few));
    }

record Fits (limits : Limits) (counts : UnitCounts) : Type 0 where
  bases : counts.bases ≤ limits.bases
  cells : counts.cells ≤ limits.cells

fits : (limits : Limits) (c : UnitCounts) → first_over limits c ≡ None → Fits limits c
fits limits c none =
    let temps = over limits Temps c.temps in
    let bases = over limits Bases c.bases in
    let cells = over limits Cells c.cells in
    let rest = or_else (over limits Blocks c.blocks) (over limits Instructions c.instructions) in
    let one = then_none temps (or_else bases (or_else cells rest)) none in
    let two = then_none bases (or_else cells rest) one in
    record { bases = within limits Bases c.bases (first_none bases (or_else cells rest) one); cells = within limits Cells c.cells (first_none cells rest two) }

all_within : (m n k l : ℕ) → min n m ≤ k → k ≤ l → l < m → n ≤ l
all_within m n k l le more less = omega arith

pub few : (u : UnitView) (limits : Limits) (f : FlowView) (is : IsLowering u limits f) → all_mentions u is.templates < 2 ^ 64 → HasFew u limits f
few u limits f is mentions =
    let c = is.counts in
    let n = no_more u limits f is mentions in
    let width = (program u is.templates is.entry.at).bases.width + c.temps in
    let fit = fits limits c (first_none (first_over limits c) (over limits Pool (pool c.blocks width)) is.fits) in
    record {
      bases = λ less. all_within (10 ^ 18) (length f.bases) c.bases limits.bases n.bases fit.bases less;
      cells = λ recorded less. all_within (10 ^ 18) (all_cells f.bases) c.cells limits.cells (n.cells recorded) fit.cells less;
    }
