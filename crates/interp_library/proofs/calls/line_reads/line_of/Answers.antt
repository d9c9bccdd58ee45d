use Rattle.std.proofs.Common.{◌∷◌, [], sym, ap, ◌∙◌, ◌-◌, ◌+◌}
use Rattle.std.proofs.lemmas.Result.{err_from_is_err_and}
use Rattle.std.proofs.lemmas.List.{map-append}
use Rattle.memory_model.specs.Effects.LibraryCalls.{line_of}
use Rattle.interp_memory.specs.ByteViews.{content_view, contents_view}
use Rattle.interp_accesses.specs.WorldViews.{world_view}
use Rattle.interp_library.proofs.calls.LineSteps.{behind_characters, character_more, line_halted}
use Rattle.interp_library.proofs.calls.line_reads.line_of.Goals as goal

pub returns-in_err-c : goal.returns-in_err-c
returns-in_err-c c =
    let p = err_from_is_err_and c.from_residual.result c.from_residual.ensures.1 in
    rw (p.1, p.2) (line_halted c.args.model.now c.args.count c.loop-k.k (contents_view c.loop-k.line.items) (world_view c.loop-k.w) (world_view c.next_character.new.w) c.in_err-c.field-0.0 (line_of c.args.model.now c.args.count (world_view c.args.w.now)) c.loop-k-test.true c.loop-k.invariant c.in_err-c.ensures)

pub loop-k-preserved : goal.loop-k-preserved
loop-k-preserved c =
    character_more c.args.model.now c.args.count c.loop-k.k (contents_view c.loop-k.line.items) (content_view c.in_ok-c.c) (world_view c.loop-k.w) (world_view c.next_character.new.w) (line_of c.args.model.now c.args.count (world_view c.args.w.now)) c.loop-k-test.true c.loop-k.invariant c.in_ok-c.ensures
    ∙ ap (λ cs. behind_characters cs (line_of c.args.model.now (c.args.count - (c.loop-k.k + 1)) (world_view c.next_character.new.w)))
    (sym (map-append content_view c.loop-k.line.items (c.in_ok-c.c ∷ [])) ∙ ap contents_view (sym c.in-Ok.ensures.items))
