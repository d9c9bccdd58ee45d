use Rattle.std.proofs.Common.{◌∙◌, sym, ap, arith, length}
use Rattle.c_library.specs.Formats.PrintfFormats.{piece_view}
use Rattle.c_library.proofs.formats.Formats.{passes, takes, ends, over}
use Rattle.c_library.proofs.formats.printf_formats.wanted_by.Goals as goal
use Rattle.c_library.proofs.formats.printf_formats.wanted_by.Goals.{in-Passes, in-Takes+in_ok-push-in-Takes}

pub returns-in-Ends : goal.returns-in-Ends
returns-in-Ends c =
    ends (length c.args.format.now) c.loop-turn._turn c.loop-turn.found.items c.loop-turn.rest.now _
    (omega (arith, c.loop-turn-test.true)) c.loop-turn.invariant (sym c.first_piece.ensures ∙ ap piece_view c.in-Ends.is)

pub loop-turn-preserved : goal.loop-turn-preserved
loop-turn-preserved c =
    elim c.match-first_piece.branch [
      | in-Passes w ↦
          rw w.found-is (rw w.rest-is
          (passes (length c.args.format.now) c.loop-turn._turn c.loop-turn.found.items c.loop-turn.rest.now w.in-Passes.more.now _
          (omega (arith, c.loop-turn-test.true)) c.loop-turn.invariant (sym c.first_piece.ensures ∙ ap piece_view w.in-Passes.is)))
      | in-Takes+in_ok-push-in-Takes w ↦
          rw w.found-is (rw w.rest-is (rw w.in_ok-push-in-Takes.ensures.items
          (takes (length c.args.format.now) c.loop-turn._turn c.loop-turn.found.items w.in-Takes.wanted c.loop-turn.rest.now w.in-Takes.more.now _
          (omega (arith, c.loop-turn-test.true)) c.loop-turn.invariant (sym c.first_piece.ensures ∙ ap piece_view w.in-Takes.is))))
    ]

pub returns : goal.returns
returns c =
    over (length c.args.format.now) c.loop-turn._turn c.loop-turn.found.items c.loop-turn.rest.now _
    (omega (arith, c.loop-turn-test.false)) c.loop-turn.invariant
