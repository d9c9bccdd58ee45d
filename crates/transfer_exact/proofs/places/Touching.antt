-- What touches of one pointer violate.
use Rattle.std.proofs.Common.{◌≡◌, Bool, true, List, sym, ◌∙◌, inl, inr}
use Rattle.std.specs.List.{Contains}
use Rattle.std.proofs.lemmas.Bool.{or_cases}
use Rattle.cc_base.specs.declared.diagnostics.Rule.{Rule}
use Rattle.cc_base.specs.declared.diagnostics.Rule.TheVariants.{Accfree, Invptr, Nullref, Strmod, Uninitref}
use Rattle.transfer_checks.specs.ViolationSets.{no_violations, violations_union, violates}
use Rattle.transfer_checks.specs.declared.violation_sets.Violations.{Violations}
use Rattle.transfer_exact.proofs.values.Violated.{AreViolated, never}
use Rattle.transfer_exact.proofs.places.OneTouch.{touching}
use Rattle.transfer_sound.proofs.memory.LoadSteps.{union_is}

-- rules of either set
pub union_violated : (s t : Violations) (rules : List Rule) → AreViolated s rules → AreViolated t rules → AreViolated (violations_union s t) rules
union_violated s t rules a b r h = elim (or_cases (violates s r) (violates t r) (sym (union_is s t r) ∙ h)) [ inl e ↦ a r e | inr e ↦ b r e ]

pub touching_violated : (nullref invptr strmod : Bool) (rules : List Rule) → (nullref ≡ true → Contains rules Nullref) → (invptr ≡ true → Contains rules Invptr) → (strmod ≡ true → Contains rules Strmod) → AreViolated (touching nullref invptr strmod) rules
touching_violated nullref invptr strmod rules a b c Nullref e = a e
touching_violated nullref invptr strmod rules a b c Invptr e = b e
touching_violated nullref invptr strmod rules a b c Strmod e = c e
touching_violated nullref invptr strmod rules a b c r e = never e

pub reading_violated : (uninitref accfree : Bool) (rules : List Rule) → (uninitref ≡ true → Contains rules Uninitref) → (accfree ≡ true → Contains rules Accfree) → AreViolated (record no_violations { uninitref = uninitref; accfree = accfree }) rules
reading_violated uninitref accfree rules a b Uninitref e = a e
reading_violated uninitref accfree rules a b Accfree e = b e
reading_violated uninitref accfree rules a b r e = never e
