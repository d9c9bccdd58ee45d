-- What trails of checks tell, and where they go on.
use Rattle.std.proofs.Common.{◌≡◌, Bool, true, false, cond, sym, subst}
use Rattle.std.proofs.lemmas.Bool.{or_right}
use Rattle.cc_base.specs.declared.diagnostics.Rule.{Rule}
use Rattle.cc_base.specs.declared.diagnostics.Rule.TheVariants.{Accfree, Boolasgn, Chrsgnext, Dblfree, Diverr, Insufmem, Intoflow, Invptr, Libptr, Nonnullcs, Nullref, Ptrobj, Sizeofptr, Strmod, Swtchdflt, Taintsink, Uninitref, Xfree}
use Rattle.transfer_checks.specs.ViolationSets.{violations_union, violates}
use Rattle.transfer_checks.specs.declared.violation_sets.Violations.{Violations}
use Rattle.transfer_library_plans.specs.Plans.{checked}
use Rattle.transfer_library_plans.specs.declared.call_plans.Trail.{Trail}
use Rattle.transfer_sound.proofs.ViolationOrder.{same_below, union_left}

told_right : (u v : Violations) (r : Rule) → violates v r ≡ true → violates (violations_union u v) r ≡ true
told_right u v Accfree e = or_right u.accfree v.accfree e
told_right u v Boolasgn e = e
told_right u v Chrsgnext e = or_right u.chrsgnext v.chrsgnext e
told_right u v Dblfree e = or_right u.dblfree v.dblfree e
told_right u v Diverr e = or_right u.diverr v.diverr e
told_right u v Insufmem e = or_right u.insufmem v.insufmem e
told_right u v Intoflow e = or_right u.intoflow v.intoflow e
told_right u v Invptr e = or_right u.invptr v.invptr e
told_right u v Libptr e = or_right u.libptr v.libptr e
told_right u v Nonnullcs e = or_right u.nonnullcs v.nonnullcs e
told_right u v Nullref e = or_right u.nullref v.nullref e
told_right u v Ptrobj e = or_right u.ptrobj v.ptrobj e
told_right u v Sizeofptr e = e
told_right u v Strmod e = or_right u.strmod v.strmod e
told_right u v Swtchdflt e = e
told_right u v Taintsink e = or_right u.taintsink v.taintsink e
told_right u v Uninitref e = or_right u.uninitref v.uninitref e
told_right u v Xfree e = or_right u.xfree v.xfree e

-- what is told is told behind a further check
pub still_told : (t : Trail) (v : Violations) (on : Bool) (r : Rule) → violates t.violations r ≡ true → violates (checked t v on).violations r ≡ true
still_told t v on r h = by_way t.goes_on
  where
    by_way : (d : Bool) → violates (cond d (record { violations = violations_union t.violations v; goes_on = on }) t).violations r ≡ true
    by_way true = union_left t.violations t.violations v (same_below t.violations) r h
    by_way false = h

-- a check tells where the trail comes to it
pub told_here : (t : Trail) (v : Violations) (on : Bool) (r : Rule) → t.goes_on ≡ true → violates v r ≡ true → violates (checked t v on).violations r ≡ true
told_here t v on r e h = subst (λ d. violates (cond d (record { violations = violations_union t.violations v; goes_on = on }) t).violations r ≡ true) (sym e) (told_right t.violations v r h)

pub goes_further : (t : Trail) (v : Violations) (on : Bool) → t.goes_on ≡ true → on ≡ true → (checked t v on).goes_on ≡ true
goes_further t v on e h = subst (λ d. (cond d (record { violations = violations_union t.violations v; goes_on = on }) t).goes_on ≡ true) (sym e) h
