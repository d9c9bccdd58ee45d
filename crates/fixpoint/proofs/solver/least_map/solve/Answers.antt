use Rattle.std.proofs.Common.{◌≡◌, ◌+◌, ◌≤◌, if◌then◌else◌, count_by, length, ap, sym, subst, arith, ◌∙◌}
use Rattle.std.proofs.lemmas.List.{length-replicate}
use Rattle.cc_base.specs.InductiveMap.{IsInductive}
use Rattle.fixpoint.specs.Pool.Pool.{Pool, row_of}
use Rattle.fixpoint.specs.Pool.PoolLaws.{free_apart}
use Rattle.fixpoint.specs.Solver.Progress.{potential}
use Rattle.fixpoint.specs.Solver.RowMap.{rows_in, is_vacant, is_held}
use Rattle.fixpoint.proofs.solver.Advance.{potential-bounded}
use Rattle.fixpoint.proofs.solver.DiscoveryLaws.{given-rows}
use Rattle.fixpoint.proofs.solver.SpareLaws.{Changed-trans}
use Rattle.fixpoint.proofs.solver.StartLaws.{vacant_index, vacant_count, held_count, give-held, ticks_more, ticks_end}
use Rattle.fixpoint.proofs.solver.least_map.solve.Goals as goal

pub loop-preserved : goal.loop-preserved
loop-preserved g c = record {
  changed =
      Changed-trans c.begin.new.pool c.loop.pool c.sweep.new.pool c.begin.new.map c.loop.map c.sweep.new.map c.take_row-spare.result.index
      c.loop.invariant.changed c.sweep.ensures.changed;
  sound = c.sweep.ensures.sound;
  entry = c.sweep.ensures.entry;
  marked = c.sweep.ensures.marked;
  ticks =
      ticks_more (g.S.System.machine c.args.system.now).edges (potential (g.S.System.machine c.args.system.now) (rows_in c.sweep.new.pool c.sweep.new.map)) (potential (g.S.System.machine c.args.system.now) (rows_in c.loop.pool c.loop.map)) c.loop.steps c.sweep.new.steps _
      c.sweep.ensures.steps
      (subst (λ b. potential (g.S.System.machine c.args.system.now) (rows_in c.sweep.new.pool c.sweep.new.map) + (if b then 1 else 0) ≤ potential (g.S.System.machine c.args.system.now) (rows_in c.loop.pool c.loop.map)) c.loop-test.true c.sweep.ensures.falls)
      c.loop.invariant.ticks;
}

pub returns-clause-inductive : goal.returns-clause-inductive
returns-clause-inductive g c =
    subst (IsInductive g.S.Cell.Lattice.lattice (g.S.System.machine c.args.system.now))
    (sym (ap (λ p. rows_in p c.sweep.new.map) c.give.ensures.free ∙ given-rows c.sweep.new.pool c.take_row-spare.result.index c.sweep.new.map))
    (c.sweep.ensures.inductive c.loop-test.false)

pub returns-clause-steps : goal.returns-clause-steps
returns-clause-steps g c =
    ticks_end (g.S.System.machine c.args.system.now).edges (potential (g.S.System.machine c.args.system.now) (rows_in c.loop.pool c.loop.map)) (potential (g.S.System.machine c.args.system.now) (rows_in c.begin.new.pool c.begin.new.map)) c.loop.steps c.sweep.new.steps c.args.steps.now _
    c.sweep.ensures.steps c.loop.invariant.ticks
    (potential-bounded g.S.Cell.Lattice.lattice g.met.S.Cell.Lattice.order g.met.S.Cell.Lattice.rounding (g.S.System.machine c.args.system.now) (g.met.S.System.lawful c.args.system.now c.requires.valid) (rows_in c.begin.new.pool c.begin.new.map))

pub returns-clause-held : goal.returns-clause-held
returns-clause-held g c =
    give-held c.sweep.new.pool c.give.new.self c.sweep.new.map c.take_row-spare.result.index c.sweep.ensures.changed.held c.give.ensures.others

pub returns-clause-room : goal.returns-clause-room
returns-clause-room g c =
    let count : count_by is_held c.sweep.new.map + count_by is_vacant c.sweep.new.map ≡ length c.sweep.new.map = held_count c.sweep.new.map in
    let none : count_by is_vacant c.args.map.now ≡ (g.S.System.machine c.args.system.now).blocks = vacant_count c.args.map.now (g.S.System.machine c.args.system.now).blocks c.requires.vacant in
    let size : length c.args.map.now ≡ (g.S.System.machine c.args.system.now).blocks = ap length c.requires.vacant ∙ length-replicate (g.S.System.machine c.args.system.now).blocks _ in
    omega (
      arith,
      count,
      none,
      size,
      c.give.ensures.count,
      c.take_row-spare.ensures.count,
      c.begin.ensures.changed.room,
      c.loop.invariant.changed.room,
      c.sweep.ensures.changed.room,
      c.begin.ensures.changed.size,
      c.loop.invariant.changed.size,
      c.sweep.ensures.changed.size,
    )

pub returns-clause-others : goal.returns-clause-others
returns-clause-others g c = λ s t.
    let ne : s ≡ c.take_row-spare.result.index → ⊥ = free_apart c.args.pool.now c.take_row-spare.result.index s c.take_row-spare.ensures.free t in
    let first = c.begin.ensures.changed.others s (c.take_row-spare.ensures.others s t) ne (λ b. vacant_index c.args.map.now (g.S.System.machine c.args.system.now).blocks c.requires.vacant b s) in
    let second = c.loop.invariant.changed.others s first.0 ne first.2 in
    let third = c.sweep.ensures.changed.others s second.0 ne second.2 in (
      c.give.ensures.others s ne third.0,
      ap (λ (p : Pool g.row.S-Cell.Denot). row_of p s) c.give.ensures.free ∙ third.1 ∙ second.1 ∙ first.1 ∙ c.take_row-spare.ensures.kept s t,
      third.2,
    )
