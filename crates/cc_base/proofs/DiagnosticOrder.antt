-- The order and the equality that Diag derives are those of the definition.
use Rattle.std.proofs.Common.{◌≡◌, ◌==◌, ◌&&◌, Bool, true, false, List, [], ◌∷◌, Any, Contains, refl, sym, ap, subst, ◌∙◌}
use Rattle.std.specs.List.{AllByRecursion}
use Rattle.std.specs.List.Sorted.{IsStrictlySortedBy}
use Rattle.std.proofs.lemmas.Bool.{eqb-true}
use Rattle.std.specs.Ordering.{ordering_then}
use Rattle.cc_base.specs.declared.diagnostics.Diag.{Diag}
use Rattle.cc_base.specs.declared.diagnostics.Place.{Place}
use Rattle.cc_base.specs.declared.diagnostics.Rule.{Rule}
use Rattle.cc_base.specs.contracts.diagnostics.DiagOrd.TheImpl as order
use Rattle.cc_base.specs.contracts.diagnostics.DiagPartialEq.TheImpl as equality
use Rattle.cc_base.specs.contracts.diagnostics.PlacePartialEq.TheImpl as place_equality
use Rattle.cc_base.specs.contracts.diagnostics.RulePartialEq.TheImpl as rule_equality
use Rattle.cc_base.specs.DiagnosticOrder.{diagnostic_compare, place_compare, rule_rank}
use Rattle.std.specs.declared.cmp.Ordering.TheVariants.{Less}
use Rattle.cc_base.proofs.RuleOrder.{rank_compares, rank_equals, one_rank}

pub same_compare : (x y : Diag) → (order.cmp-value).it x y ≡ diagnostic_compare x y
same_compare x y = ap (λ o. ordering_then (place_compare x.place y.place) o) (rank_compares x.rule y.rule)

both : (a b : Bool) → (a && b) ≡ true → (a ≡ true) × (b ≡ true)
both true b h = (refl, h)
both false b h = cc

same_place : (x y : Place) → (place_equality.eq-value).it x y ≡ true → x ≡ y
same_place x y h =
    let f : (x.file ≡ y.file) = eqb-true x.file y.file (both (x.file == y.file) ((x.line == y.line) && (x.col == y.col)) h).0 in
    let rest : ((x.line == y.line) && (x.col == y.col)) ≡ true = (both (x.file == y.file) ((x.line == y.line) && (x.col == y.col)) h).1 in
    let l : (x.line ≡ y.line) = eqb-true x.line y.line (both (x.line == y.line) (x.col == y.col) rest).0 in
    let c : (x.col ≡ y.col) = eqb-true x.col y.col (both (x.line == y.line) (x.col == y.col) rest).1 in
    ap (λ n. record { file = n; line = x.line; col = x.col }) f ∙ (ap (λ n. record { file = y.file; line = n; col = x.col }) l ∙ ap (λ n. record { file = y.file; line = y.line; col = n }) c)

same_rule : (x y : Rule) → (rule_equality.eq-value).it x y ≡ true → x ≡ y
same_rule x y h = one_rank x y (eqb-true (rule_rank x) (rule_rank y) (sym (rank_equals x y) ∙ h))

pub same_is : (x y : Diag) → (equality.eq-value).it x y ≡ true → x ≡ y
same_is x y h =
    let parts : ((place_equality.eq-value).it x.place y.place ≡ true) × ((rule_equality.eq-value).it x.rule y.rule ≡ true) = both ((place_equality.eq-value).it x.place y.place) ((rule_equality.eq-value).it x.rule y.rule) h in
    ap (λ p. record { place = p; rule = x.rule }) (same_place x.place y.place parts.0) ∙ ap (λ r. record { place = y.place; rule = r }) (same_rule x.rule y.rule parts.1)

below_all : (d : Diag) (diags : List Diag) → AllByRecursion (λ e. (order.cmp-value).it d e ≡ Less) diags → AllByRecursion (λ e. diagnostic_compare d e ≡ Less) diags
below_all d [] h = tt
below_all d (e ∷ es) h = (sym (same_compare d e) ∙ h.0, below_all d es h.1)

pub ascends : (diags : List Diag) → IsStrictlySortedBy (order.cmp-value).it diags → IsStrictlySortedBy diagnostic_compare diags
unfolding IsStrictlySortedBy
ascends [] h = tt
ascends (d ∷ ds) h = (below_all d ds h.0, ascends ds h.1)

-- what is the same as an element of a list is in it
pub contains_same : (diags : List Diag) (d : Diag) → Any (λ e. (equality.eq-value).it d e ≡ true) diags → Contains diags d
contains_same diags d (k, e, lt, at, same) = subst (λ x. Contains diags x) (sym (same_is d e same)) (k, lt, at)
