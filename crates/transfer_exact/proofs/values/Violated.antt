-- Rules of a set that are all violated.
use Rattle.std.proofs.Common.{◌≡◌, Bool, true, false, List, [], ◌∷◌, ◌++◌, subst, sym}
use Rattle.std.specs.List.{Contains}
use Rattle.std.proofs.lemmas.List.Elements.{Contains-push, Contains-append_right}
use Rattle.cc_base.specs.declared.diagnostics.Rule.{Rule}
use Rattle.cc_base.specs.declared.diagnostics.Rule.TheVariants.{Accfree, Invptr, Nullref, Ptrobj, Taintsink}
use Rattle.transfer_checks.specs.declared.violation_sets.Violations.{Violations}
use Rattle.transfer_checks.specs.ViolationSets.{violates, no_violations}

abbrev pub AreViolated : Violations → List Rule → Type 0
AreViolated v rules = (r : Rule) → violates v r ≡ true → Contains rules r

pub never : {A : Type 0} → false ≡ true → A
never h = cc

pub none_violated : (rules : List Rule) → AreViolated no_violations rules
none_violated rules Accfree h = never h
none_violated rules r h = never h

pub one_there : (r : Rule) → Contains (r ∷ []) r
one_there r = Contains-push [] r

pub behind_there : (before rules : List Rule) (r : Rule) → Contains rules r → Contains (before ++ rules) r
behind_there before rules r h = Contains-append_right before rules r h

pub behind_violated : (v : Violations) (before rules : List Rule) → AreViolated v rules → AreViolated v (before ++ rules)
behind_violated v before rules h r e = behind_there before rules r (h r e)

pub same_violated : (v w : Violations) (rules : List Rule) → v ≡ w → AreViolated w rules → AreViolated v rules
same_violated v w rules e h = subst (λ z. AreViolated z rules) (sym e) h

-- the rules on pointers
abbrev pub pointing : Bool → Bool → Bool → Bool → Violations
pointing null outside sink apart = record no_violations { nullref = null; invptr = outside; taintsink = sink; ptrobj = apart }

pub pointing_violated : (a b c d : Bool) (rules : List Rule) → (a ≡ true → Contains rules Nullref) → (b ≡ true → Contains rules Invptr) → (c ≡ true → Contains rules Taintsink) → (d ≡ true → Contains rules Ptrobj) → AreViolated (pointing a b c d) rules
pointing_violated a b c d rules f g h k Nullref e = f e
pointing_violated a b c d rules f g h k Invptr e = g e
pointing_violated a b c d rules f g h k Taintsink e = h e
pointing_violated a b c d rules f g h k Ptrobj e = k e
pointing_violated a b c d rules f g h k r e = never e
