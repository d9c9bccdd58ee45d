-- Rules that are all admitted.
use Rattle.std.proofs.Common.{◌≡◌, true, List, [], ◌∷◌, ◌++◌, arith, subst, inl, inr}
use Rattle.std.specs.List.{Contains}
use Rattle.std.proofs.lemmas.List.Elements.{Contains-push_cases, Contains-append_cases, at_from_Contains}
use Rattle.cc_base.specs.declared.diagnostics.Rule.{Rule}
use Rattle.transfer_checks.specs.declared.violation_sets.Violations.{Violations}
use Rattle.transfer_checks.specs.ViolationSets.{violates}

abbrev pub AreAdmitted : Violations → List Rule → Type 0
AreAdmitted v rules = (r : Rule) → Contains rules r → violates v r ≡ true

nothing_there : (r : Rule) → Contains {X = Rule} [] r → ⊥
nothing_there r h = let a = at_from_Contains [] r h in let k = a.1 in omega (arith, k)

pub none_admitted : (v : Violations) → AreAdmitted v []
none_admitted v r h = absurd (nothing_there r h)

pub one_admitted : (v : Violations) (rule : Rule) → violates v rule ≡ true → AreAdmitted v (rule ∷ [])
one_admitted v rule e r h = elim (Contains-push_cases [] rule r h) [ inl k ↦ absurd (nothing_there r k) | inr k ↦ subst (λ z. violates v z ≡ true) k e ]

pub both_admitted : (v : Violations) (a b : List Rule) → AreAdmitted v a → AreAdmitted v b → AreAdmitted v (a ++ b)
both_admitted v a b f g r h = elim (Contains-append_cases a b r h) [ inl k ↦ f r k | inr k ↦ g r k ]

pub same_admitted : (v : Violations) (a b : List Rule) → a ≡ b → AreAdmitted v b → AreAdmitted v a
same_admitted v a b e h r k = h r (subst (λ z. Contains z r) e k)
