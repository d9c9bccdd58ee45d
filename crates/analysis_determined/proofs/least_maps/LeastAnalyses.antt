-- What least maps and analyses of regular programs have in common.
use Rattle.std.specs.Prelude.{◌≡◌, ℕ, suc, ℤ, true, Option, Some, None, List, [], ◌∷◌, length, Contains, refl}
use Rattle.std.proofs.Common.{arith, sym, subst, ap, ◌∙◌}
use Rattle.cc_base.specs.InductiveMap.{row_at}
use Rattle.cc_base.specs.RowLaws.{row_leq-antisym}
use Rattle.cc_base.specs.Rows.{reached_leq}
use Rattle.cc_base.specs.declared.diagnostics.Diag.{Diag}
use Rattle.cfg.specs.declared.programs.Flow.{Flow}
use Rattle.interval_domain.specs.declared.intervals.intervals.Interval.{Interval}
use Rattle.interval_domain.specs.Intervals.IntervalLattice.{interval_order}
use Rattle.value_domain.specs.declared.values.row_cells.Cell.{Cell}
use Rattle.value_domain.specs.Values.Cells.{cell_order}
use Rattle.analysis.specs.Analyses.{row_lattice, admitted_pairs, IsAnalysis}
use Rattle.analysis_determined.specs.LeastMaps.LeastAnalyses.{IsLeastMap, IsLeastAnalysis, AreAlike}
use Rattle.analysis_determined.proofs.least_maps.ExactAnalyses.{least_map, exact_analysis}
use Rattle.analysis_determined.proofs.least_maps.OrderedSets.{one_list}

abbrev Map : Type 0
Map = List (Option (List (Cell Interval)))

-- ---- one least map

same_reached : (x y : Option (List (Cell Interval))) → reached_leq row_lattice x y ≡ true → reached_leq row_lattice y x ≡ true → x ≡ y
same_reached None None h k = refl
same_reached None (Some y) h k = absurd (cc)
same_reached (Some x) None h k = absurd (cc)
same_reached (Some x) (Some y) h k = ap Some (row_leq-antisym row_lattice (cell_order interval_order) x y h k)

same_maps : (xs ys : Map) → length xs ≡ length ys → ((b : ℕ) → row_at xs b ≡ row_at ys b) → xs ≡ ys
same_maps [] [] e h = refl
same_maps [] (y ∷ ys) e h = absurd (omega arith)
same_maps (x ∷ xs) [] e h = absurd (omega arith)
same_maps (x ∷ xs) (y ∷ ys) e h =
    let first : x ≡ y = h 0 in
    let rest : xs ≡ ys = same_maps xs ys (omega arith) (λ b. h (suc b)) in
    λ i. first i ∷ rest i

module _ (flow : Flow) (list : List ℤ) where
  one_least : (rows other : Map) → IsLeastMap flow list rows → IsLeastMap flow list other → rows ≡ other
  one_least rows other p q = same_maps rows other (p.inductive.size ∙ sym q.inductive.size) (λ b. same_reached (row_at rows b) (row_at other b) (p.least other q.inductive b) (q.least rows p.inductive b))

  pub least_alike : (rows other : Map) → IsLeastMap flow list rows → IsLeastMap flow list other → AreAlike flow rows other
  least_alike rows other p q =
      let e = one_least rows other p q in
      record { same = e; there = λ d h. subst (λ m. Contains (admitted_pairs flow m) d) e h; back = λ d h. subst (λ m. Contains (admitted_pairs flow m) d) (sym e) h }

  pub one_answer : (found other : List Diag) → IsAnalysis flow list found → IsAnalysis flow list other → found ≡ other
  one_answer found other p q =
      let one = exact_analysis flow list found p in
      let two = exact_analysis flow list other q in
      one_list found other one.ascending two.ascending (λ d h. two.kept d (one.made d h)) (λ d h. one.kept d (two.made d h))

  pub least_analysis : (found : List Diag) (a : IsAnalysis flow list found) → IsLeastAnalysis flow list found a.rows
  least_analysis found a = record { least = (least_map flow list found a).least; fewest = (exact_analysis flow list found a).made }
