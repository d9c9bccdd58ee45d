use Rattle.std.proofs.Common.{ap₂, ◌∙◌, rules, FitsSigned, ◌*ℤ◌}
use Rattle.std.specs.Int.{w128}
use Rattle.std.proofs.lemmas.Int.{to_z-of_z}
use Rattle.cc_base.specs.IntegerTypes.{modulus}
use Rattle.interval_domain.specs.Numbers.TurnedNumbers.{turned}
use Rattle.interval_domain.specs.Intervals.Products.{turned_hull_wraps}
use Rattle.interval_domain.proofs.intervals.span_products.unsigned_products.Goals as goal

pub returns : goal.returns
returns c =
    let slo : FitsSigned w128 c.args.s.lo = search rules in
    let shi : FitsSigned w128 c.args.s.hi = search rules in
    let tlo : FitsSigned w128 c.args.t.lo = search rules in
    let thi : FitsSigned w128 c.args.t.hi = search rules in
    c.hull_of_turned.ensures ∙ turned_hull_wraps c.args.kind _ _ _ _ _ _ _ _ c.requires.unsigned (c.turned_product-a.ensures ∙ ap₂ (λ m n. turned (modulus c.args.kind) (m *ℤ n)) (to_z-of_z w128 _ slo) (to_z-of_z w128 _ tlo)) (c.turned_product-b.ensures ∙ ap₂ (λ m n. turned (modulus c.args.kind) (m *ℤ n)) (to_z-of_z w128 _ slo) (to_z-of_z w128 _ thi)) (c.turned_product-c.ensures ∙ ap₂ (λ m n. turned (modulus c.args.kind) (m *ℤ n)) (to_z-of_z w128 _ shi) (to_z-of_z w128 _ tlo)) (c.turned_product-d.ensures ∙ ap₂ (λ m n. turned (modulus c.args.kind) (m *ℤ n)) (to_z-of_z w128 _ shi) (to_z-of_z w128 _ thi))
