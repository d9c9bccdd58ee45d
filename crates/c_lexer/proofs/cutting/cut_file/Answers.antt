use Rattle.std.proofs.Common.{◌≡◌, false, true, sym, arith, ◌∙◌, ap, length, subst, Err}
use Rattle.cc_base.specs.declared.diagnostics.Place.{Place}
use Rattle.cc_base.specs.declared.refusals.Fault.{Fault}
use Rattle.cc_base.specs.declared.refusals.Refusal.{Refusal}
use Rattle.cc_base.specs.declared.refusals.Stop.{Stop}
use Rattle.cc_base.specs.declared.refusals.Stop.TheVariants as stop
use Rattle.c_lexer.specs.Answers.{IfRefused}
use Rattle.c_lexer.specs.Cutting.{is_past, fault_of}
use Rattle.c_lexer.proofs.Sizes.{size_fits, fewer_left}
use Rattle.c_lexer.proofs.Along.{goes_by, refuses_nothing, refuses_many, refuses_bad}
use Rattle.c_lexer.proofs.cutting.cut_file.Goals as goal

refused_is : (r : Stop) (at : Place) (why : Refusal) (P : Fault → Type 0) → r ≡ stop.Refused (fault_of at why) → P (fault_of at why) → IfRefused (Err r) P
refused_is r at why P e h = subst (λ v. IfRefused (Err v) P) (sym e) h

pub split_at-requires : goal.split_at-requires
split_at-requires c = (size_fits _ _ _ (sym c.in-Some.ensures)).1

pub loop-rest-smaller : goal.loop-rest-smaller
loop-rest-smaller c = let w = size_fits _ _ _ (sym c.in-Some.ensures) in fewer_left _ _ _ w.0 w.1 c.split_at.ensures.back

pub loop-rest-preserved : goal.loop-rest-preserved
loop-rest-preserved c =
    let past : is_past c.in-Some.piece.shape (length c.loop-rest.tokens) ≡ false =
    sym (c.is_past.ensures ∙ ap (λ v. is_past c.in-Some.piece.shape (length v)) c.as_slice.ensures) ∙ c.if-is_past.false in
    goes_by _ _ _ _ _ _ c.in-Some.piece _ c.split_at.result.0.now c.legal_length-good.result _ _ _ _ c.loop-rest.invariant (sym c.in-Some.ensures) past c.place-place.ensures
    c.split_at.ensures.front c.legal_length-good.ensures (omega arith) c.split_at.ensures.back c.after-state.ensures c.in_ok-add.ensures c.skip-in-loop-rest.ensures

pub returns-in-None-clause-refused : goal.returns-in-None-clause-refused
returns-in-None-clause-refused c = refused_is _ _ _ _ c.refused.ensures
    (refuses_nothing _ _ _ _ _ _ _ _ c.loop-rest.invariant c.loop-rest-test.true (sym c.in-None.ensures) c.place-place.ensures c.cause.ensures)

pub returns-then-is_past-clause-refused : goal.returns-then-is_past-clause-refused
returns-then-is_past-clause-refused c =
    let past : is_past c.in-Some.piece.shape (length c.loop-rest.tokens) ≡ true =
    sym (c.is_past.ensures ∙ ap (λ v. is_past c.in-Some.piece.shape (length v)) c.as_slice.ensures) ∙ c.if-is_past.true in
    refused_is _ _ _ _ c.refused-then-is_past.ensures
    (refuses_many _ _ _ _ _ _ c.in-Some.piece _ _ c.loop-rest.invariant (sym c.in-Some.ensures) past c.place-place.ensures c.too_many.ensures)

pub returns-then-good-text-clause-refused : goal.returns-then-good-text-clause-refused
returns-then-good-text-clause-refused c =
    let past : is_past c.in-Some.piece.shape (length c.loop-rest.tokens) ≡ false =
    sym (c.is_past.ensures ∙ ap (λ v. is_past c.in-Some.piece.shape (length v)) c.as_slice.ensures) ∙ c.if-is_past.false in
    refused_is _ _ _ _ c.refused-then-good-text.ensures
    (refuses_bad _ _ _ _ _ _ _ c.in-Some.piece _ c.split_at.result.0.now c.legal_length-good.result c.loop-rest.invariant (sym c.in-Some.ensures) past
    c.split_at.ensures.front c.legal_length-good.ensures c.if-good-text.true c.skip.ensures c.place.ensures)
