use Rattle.std.proofs.Common.{◌≡◌, ◌<◌, ◌≤◌, length, replicate, Option, None, slice_index_or, sym, ap, arith, ◌∙◌}
use Rattle.fixpoint.specs.declared.pool.row_name.Row.{Row}
use Rattle.fixpoint.specs.Pool.Pool.{free_count}
use Rattle.fixpoint.specs.Solver.RowMap.{slot_index}
use Rattle.fixpoint.proofs.solver.ReleaseLaws.{done_more, rest_more, held_more, all_done}
use Rattle.fixpoint.proofs.solver.map_release.release.Goals as goal

pub loop-i-preserved : goal.loop-i-preserved
loop-i-preserved g c =
    let lt : c.loop-i.i < length c.loop-i.map = omega arith in
    let lt' : c.loop-i.i < length c.args.map.now = omega arith in
    let same : slice_index_or c.loop-i.map c.loop-i.i None ≡ slice_index_or c.args.map.now c.loop-i.i None = c.loop-i.invariant.rest c.loop-i.i (omega arith) in
    record {
      done = done_more c.loop-i.map c.give_back.new.slot c.loop-i.i lt c.give_back.ensures.vacant c.loop-i.invariant.done;
      rest = rest_more c.loop-i.map c.args.map.now c.give_back.new.slot c.loop-i.i c.loop-i.invariant.rest;
      taken = λ b s above e.
          c.give_back.ensures.others s (c.loop-i.invariant.taken b s (omega arith) e)
          (λ f.
          let here : b ≡ c.loop-i.i = c.requires.apart b c.loop-i.i s e (ap slot_index (sym same) ∙ f) in
          absurd (omega arith));
      room =
          held_more c.args.map.now (slice_index_or c.loop-i.map c.loop-i.i None) c.loop-i.i (free_count c.loop-i.pool) (free_count c.give_back.new.pool) (free_count c.args.pool.now)
          lt' same c.loop-i.invariant.room c.give_back.ensures.room;
      others = λ s t out.
          c.give_back.ensures.others s (c.loop-i.invariant.others s t out) (λ f. out c.loop-i.i (ap slot_index (sym same) ∙ f));
      width = c.give_back.ensures.width ∙ c.loop-i.invariant.width;
      cells = c.give_back.ensures.cells ∙ c.loop-i.invariant.cells;
    }

pub returns-clause-vacant : goal.returns-clause-vacant
returns-clause-vacant g c =
    let le : length c.loop-i.map ≤ c.loop-i.i = omega arith in
    all_done c.loop-i.map c.loop-i.i le c.loop-i.invariant.done ∙ ap (λ n. replicate n (let none : Option Row = None in none)) c.loop-i.auto.map
