use Rattle.std.proofs.Common.{◌≡◌, ap₂, ◌∙◌, rules, FitsSigned, to_z, of_z, ◌*ℤ◌}
use Rattle.std.specs.Int.{w128, saturate_signed}
use Rattle.std.proofs.lemmas.Int.{to_z-of_z}
use Rattle.interval_domain.proofs.intervals.Ranges.{range_facts}
use Rattle.interval_domain.specs.Intervals.Products.{products_alike}
use Rattle.interval_domain.proofs.intervals.span_products.signed_products.Goals as goal

pub returns : goal.returns
returns c =
    let r = range_facts c.args.kind c.requires in
    let slo : FitsSigned w128 c.args.s.lo = search rules in
    let shi : FitsSigned w128 c.args.s.hi = search rules in
    let tlo : FitsSigned w128 c.args.t.lo = search rules in
    let thi : FitsSigned w128 c.args.t.hi = search rules in
    let fa : FitsSigned w128 c.clipped_product-a.result = search rules in
    let ea : to_z w128 (of_z w128 c.clipped_product-a.result) ≡ saturate_signed w128 (c.args.s.lo *ℤ c.args.t.lo) = to_z-of_z w128 _ fa ∙ (c.clipped_product-a.ensures ∙ ap₂ (λ m n. saturate_signed w128 (m *ℤ n)) (to_z-of_z w128 _ slo) (to_z-of_z w128 _ tlo)) in
    let fb : FitsSigned w128 c.clipped_product-b.result = search rules in
    let eb : to_z w128 (of_z w128 c.clipped_product-b.result) ≡ saturate_signed w128 (c.args.s.lo *ℤ c.args.t.hi) = to_z-of_z w128 _ fb ∙ (c.clipped_product-b.ensures ∙ ap₂ (λ m n. saturate_signed w128 (m *ℤ n)) (to_z-of_z w128 _ slo) (to_z-of_z w128 _ thi)) in
    let fc : FitsSigned w128 c.clipped_product-c.result = search rules in
    let ec : to_z w128 (of_z w128 c.clipped_product-c.result) ≡ saturate_signed w128 (c.args.s.hi *ℤ c.args.t.lo) = to_z-of_z w128 _ fc ∙ (c.clipped_product-c.ensures ∙ ap₂ (λ m n. saturate_signed w128 (m *ℤ n)) (to_z-of_z w128 _ shi) (to_z-of_z w128 _ tlo)) in
    let fd : FitsSigned w128 c.clipped_product-d.result = search rules in
    let ed : to_z w128 (of_z w128 c.clipped_product-d.result) ≡ saturate_signed w128 (c.args.s.hi *ℤ c.args.t.hi) = to_z-of_z w128 _ fd ∙ (c.clipped_product-d.ensures ∙ ap₂ (λ m n. saturate_signed w128 (m *ℤ n)) (to_z-of_z w128 _ shi) (to_z-of_z w128 _ thi)) in
    c.clamped_hull.ensures ∙ products_alike c.args.kind _ _ _ _ _ _ _ _ r.least_low r.least_high r.greatest_low r.greatest_high ea eb ec ed
