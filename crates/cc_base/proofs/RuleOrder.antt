-- What is so of each rule of the list is so of every rule. Rules go by their ranks: the derived order and equality
-- are those of the ranks, and no two rules have one.
use Rattle.std.proofs.Common.{◌≡◌, ◌==◌, Bool, true, false, List, [], ◌∷◌, refl, sym, ap, ◌∙◌, get_or, Some}
use Rattle.std.specs.Cmp.{unsigned_ties}
use Rattle.std.specs.List.{list_all}
use Rattle.std.specs.Ordering.{nat_cmp, is_eq}
use Rattle.std.specs.declared.cmp.Ordering.{Ordering}
use Rattle.std.specs.declared.cmp.Ordering.TheVariants.{Less, Equal, Greater}
use Rattle.std.proofs.lemmas.Bool.{and_parts}
use Rattle.cc_base.specs.declared.diagnostics.Rule.{Rule}
use Rattle.cc_base.specs.declared.diagnostics.Rule.TheVariants.{Accfree, Boolasgn, Chrsgnext, Dblfree, Diverr, Insufmem, Intoflow, Invptr, Libptr, Nonnullcs, Nullref, Ptrobj, Sizeofptr, Strmod, Swtchdflt, Taintsink, Uninitref, Xfree}
use Rattle.cc_base.specs.contracts.diagnostics.RuleOrd.TheImpl as order
use Rattle.cc_base.specs.contracts.diagnostics.RulePartialEq.TheImpl as equality
use Rattle.cc_base.specs.DiagnosticOrder.{rule_rank}
use Rattle.cc_base.specs.Rules.{all_rules, tag_of, rule_tagged}

abbrev Each : (Rule → Type 0) → List Rule → Type 0
Each P [] = Unit {0}
Each P (r ∷ rs) = P r × Each P rs

of_all : (P : Rule → Type 0) → Each P all_rules → (r : Rule) → P r
of_all P h Accfree = h.0
of_all P h Boolasgn = h.1.0
of_all P h Chrsgnext = h.1.1.0
of_all P h Dblfree = h.1.1.1.0
of_all P h Diverr = h.1.1.1.1.0
of_all P h Insufmem = h.1.1.1.1.1.0
of_all P h Intoflow = h.1.1.1.1.1.1.0
of_all P h Invptr = h.1.1.1.1.1.1.1.0
of_all P h Libptr = h.1.1.1.1.1.1.1.1.0
of_all P h Nonnullcs = h.1.1.1.1.1.1.1.1.1.0
of_all P h Nullref = h.1.1.1.1.1.1.1.1.1.1.0
of_all P h Ptrobj = h.1.1.1.1.1.1.1.1.1.1.1.0
of_all P h Sizeofptr = h.1.1.1.1.1.1.1.1.1.1.1.1.0
of_all P h Strmod = h.1.1.1.1.1.1.1.1.1.1.1.1.1.0
of_all P h Swtchdflt = h.1.1.1.1.1.1.1.1.1.1.1.1.1.1.0
of_all P h Taintsink = h.1.1.1.1.1.1.1.1.1.1.1.1.1.1.1.0
of_all P h Uninitref = h.1.1.1.1.1.1.1.1.1.1.1.1.1.1.1.1.0
of_all P h Xfree = h.1.1.1.1.1.1.1.1.1.1.1.1.1.1.1.1.1.0

passing : (test : Rule → Bool) (rules : List Rule) → list_all test rules ≡ true → Each (λ r. test r ≡ true) rules
passing test [] e = tt
passing test (r ∷ rules) e = ((and_parts (test r) (list_all test rules) e).0, passing test rules (and_parts (test r) (list_all test rules) e).1)

-- a test that the list passes
pub passes : (test : Rule → Bool) → list_all test all_rules ≡ true → (r : Rule) → test r ≡ true
passes test e = of_all (λ r. test r ≡ true) (passing test all_rules e)

-- a test of two rules that the list passes with itself
both_pass : (test : Rule → Rule → Bool) → list_all (λ x. list_all (test x) all_rules) all_rules ≡ true → (x y : Rule) → test x y ≡ true
both_pass test e x = passes (test x) (passes (λ z. list_all (test z) all_rules) e x)

abbrev same_order : Ordering → Ordering → Bool
same_order Less Less = true
same_order Equal Equal = true
same_order Greater Greater = true
same_order _ _ = false

order_is : (a b : Ordering) → same_order a b ≡ true → a ≡ b
order_is Less Less e = refl
order_is Less Equal e = cc
order_is Less Greater e = cc
order_is Equal Less e = cc
order_is Equal Equal e = refl
order_is Equal Greater e = cc
order_is Greater Less e = cc
order_is Greater Equal e = cc
order_is Greater Greater e = refl

abbrev same_truth : Bool → Bool → Bool
same_truth true b = b
same_truth false true = false
same_truth false false = true

truth_is : (a b : Bool) → same_truth a b ≡ true → a ≡ b
truth_is true true e = refl
truth_is true false e = cc
truth_is false true e = cc
truth_is false false e = refl

pub rank_compares : (x y : Rule) → (order.cmp-value).it x y ≡ nat_cmp (rule_rank x) (rule_rank y)
rank_compares x y = order_is _ _ (both_pass (λ a b. same_order ((order.cmp-value).it a b) (nat_cmp (rule_rank a) (rule_rank b))) refl x y)

pub rank_equals : (x y : Rule) → (equality.eq-value).it x y ≡ (rule_rank x == rule_rank y)
rank_equals x y = truth_is _ _ (both_pass (λ a b. same_truth ((equality.eq-value).it a b) (rule_rank a == rule_rank b)) refl x y)

-- rules tie in the derived order where their ranks are the same
pub ranks_tie : (x y : Rule) → (rule_rank x == rule_rank y) ≡ is_eq ((order.cmp-value).it x y)
ranks_tie x y = unsigned_ties (rule_rank x) (rule_rank y) ∙ sym (ap is_eq (rank_compares x y))

pub rule_of_rank : (r : Rule) → get_or all_rules (rule_rank r) Accfree ≡ r
rule_of_rank = of_all (λ r. get_or all_rules (rule_rank r) Accfree ≡ r) (refl, (refl, (refl, (refl, (refl, (refl, (refl, (refl, (refl, (refl, (refl, (refl, (refl, (refl, (refl, (refl, (refl, (refl, tt))))))))))))))))))

pub one_rank : (x y : Rule) → rule_rank x ≡ rule_rank y → x ≡ y
one_rank x y h = sym (rule_of_rank x) ∙ (ap (λ n. get_or all_rules n Accfree) h ∙ rule_of_rank y)

-- a tag is that of one rule
pub rule_read : (r : Rule) → rule_tagged (tag_of r) ≡ Some r
rule_read = of_all (λ r. rule_tagged (tag_of r) ≡ Some r) (refl, (refl, (refl, (refl, (refl, (refl, (refl, (refl, (refl, (refl, (refl, (refl, (refl, (refl, (refl, (refl, (refl, (refl, tt))))))))))))))))))
