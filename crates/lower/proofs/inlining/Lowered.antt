-- What a program is lowered from.
use Rattle.std.proofs.Common.{◌≡◌, ℕ, suc, ◌+◌, List, [], ◌∷◌, ◌++◌, Option, None, arith, ap, sym, ◌∙◌}
use Rattle.cc_base.specs.declared.limit_table.Count.TheVariants.{Pool}
use Rattle.cc_base.specs.declared.limit_table.Limits.{Limits}
use Rattle.cc_base.specs.declared.refusals.Refusal.{Refusal}
use Rattle.c_layout.specs.CheckedUnits.{FunctionView, UnitView}
use Rattle.lower_templates.specs.Worklist.Pieces.{TemplateView}
use Rattle.lower_tables.specs.declared.counts.count_limits.UnitCounts.{UnitCounts}
use Rattle.lower_tables.specs.Counts.FirstOver.{over, or_else, first_over, pool}
use Rattle.lower_templates.specs.Views.ProgramViews.{FlowView}
use Rattle.lower.specs.Inlining.Inlinings.{ProgramView, program, unfinished}
use Rattle.lower.specs.Inlining.Lowerings.{inputs, input, lowered, refusal_of, IsCounted, IsLowering}

pub next_input : (f : FunctionView) (n : ℕ) → inputs f (n + 1) ≡ inputs f n ++ input f n ∷ []
next_input f n = let e : n + 1 ≡ suc n = omega arith in ap (λ k. inputs f k) e

-- the pool is looked at last
pool_last : (u : UnitView) (limits : Limits) (entry : FunctionView) (templates : List (Option TemplateView)) (counts : UnitCounts) (p : ProgramView) (width : ℕ) (o : Option Refusal)
    → first_over limits counts ≡ None → p ≡ program u templates entry.at → width ≡ p.bases.width + counts.temps → over limits Pool (pool counts.blocks width) ≡ o → refusal_of u limits templates entry.at counts ≡ o
pool_last u limits entry templates counts p width o fits is_program is_width is =
    ap (λ r. or_else r (over limits Pool (pool counts.blocks ((program u templates entry.at).bases.width + counts.temps)))) fits
    ∙ ap (λ q. over limits Pool (pool counts.blocks (q.bases.width + counts.temps))) (sym is_program)
    ∙ ap (λ w. over limits Pool (pool counts.blocks w)) (sym is_width)
    ∙ is

pub lowering : (u : UnitView) (limits : Limits) (f : FlowView) (entry : FunctionView) (templates : List (Option TemplateView)) (counts : UnitCounts) (p : ProgramView) (width : ℕ)
    → IsCounted u entry templates counts → first_over limits counts ≡ None → p ≡ program u templates entry.at → width ≡ p.bases.width + counts.temps → over limits Pool (pool counts.blocks width) ≡ None → unfinished u templates entry.at ≡ [] → f ≡ lowered u entry p counts.temps → IsLowering u limits f
lowering u limits f entry templates counts p width counted fits is_program is_width fits_pool ends is = record {
  entry = entry;
  templates = templates;
  counts = counts;
  is_counted = counted;
  fits = pool_last u limits entry templates counts p width None fits is_program is_width fits_pool;
  ends = ends;
  opens = is ∙ ap (λ q. lowered u entry q counts.temps) is_program;
}
