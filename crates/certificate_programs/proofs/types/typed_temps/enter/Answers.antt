use Rattle.std.proofs.Common.{◌∙◌, length, ap, arith}
use Rattle.certificate_programs.specs.Types.TypedTemps.{kinds_at, place, temp_before}
use Rattle.certificate_programs.proofs.types.KindSteps.{entered_more}
use Rattle.certificate_programs.proofs.types.typed_temps.enter.Goals as goal

pub loop-temp-preserved : goal.loop-temp-preserved
loop-temp-preserved c =
    entered_more (temp_before c.args.all.now (length c.args.kinds.now) c.args.number) c.loop-temp.temp c.loop-temp.kinds c.kinds_at.result
    (omega (arith, c.loop-temp-test.true, c.loop-temp.auto.kinds))
    (c.kinds_at.ensures ∙ ap (kinds_at c.args.all.now) (c.place.ensures ∙ ap (λ n. place n c.args.number c.loop-temp.temp) c.loop-temp.auto.kinds))
    c.loop-temp.invariant
