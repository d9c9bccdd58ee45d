use Rattle.std.proofs.Common.{◌≡◌, ◌∙◌, length, ap, arith}
use Rattle.c_layout.specs.CheckedUnits.{static_view}
use Rattle.c_types_scopes.specs.States.{State, state}
use Rattle.c_types_statement_rules.specs.Objects.Changes.{changed}
use Rattle.c_types_statement_rules.specs.Objects.UnitObjects.{with_statics, completed_object}
use Rattle.c_types_statement_rules.proofs.objects.InPlace.{next_done, all_seen}
use Rattle.c_types_statement_rules.proofs.objects.unit_objects.complete_objects.Goals as goal

pub loop-at-preserved : goal.loop-at-preserved
loop-at-preserved c =
    c.complete_at.ensures
    ∙ ap (λ (s : State). with_statics s (changed completed_object c.loop-at.at s.statics)) c.loop-at.invariant
    ∙ ap (with_statics (state c.args.cx.now)) (next_done completed_object c.loop-at.at (state c.args.cx.now).statics)

pub returns : goal.returns
returns c =
    let len : c.args.cx.now.statics.len ≡ length c.args.cx.now.statics.items = c.args.cx.now.statics.ok.0 in
    let all : c.loop-at.at ≡ length c.args.cx.now.statics.items = omega (arith, len) in
    c.loop-at.invariant ∙ ap (with_statics (state c.args.cx.now)) (all_seen static_view completed_object c.args.cx.now.statics.items c.loop-at.at all)
