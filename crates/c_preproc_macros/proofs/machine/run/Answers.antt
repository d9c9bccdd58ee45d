use Rattle.c_preproc_macros.specs.Expanding.{expansion}
use Rattle.c_preproc_macros.specs.States.{state_of, setting_of}
use Rattle.c_preproc_macros.proofs.Whole.{begun, goes_on, comes_down, stopped, failed}
use Rattle.c_preproc_macros.proofs.machine.run.Goals as goal

pub turns-init : goal.turns-init
turns-init c =
    begun (setting_of c.args.macros.now) c.args.text.now c.args.used c.new-machine.result.levels.stack.items c.new-machine.result.levels.within.items
    c.new-machine.result.pending.items.items c.push_list.new.self.items.items c.new-machine.result.place c.new-machine.result.out.items c.new-machine.result.used
    c.new-machine.ensures.frames c.new-machine.ensures.names c.new-machine.ensures.pending c.in_ok-push_list.ensures c.new-machine.ensures.out c.new-machine.ensures.used

pub returns-in-Err : goal.returns-in-Err
returns-in-Err c =
    failed (setting_of c.args.macros.now) (state_of c.turns.machine) (expansion (setting_of c.args.macros.now) c.args.text.now c.args.used) c.turn.new.self c.in-Err.failure c.turns.invariant c.in-Err.ensures

pub turns-smaller : goal.turns-smaller
turns-smaller c = comes_down (setting_of c.args.macros.now) (state_of c.turns.machine) c.turn.new.self c.in-Ok-true.field-0 c.in-Ok-true.field-0-test c.in-Ok-true.ensures

pub turns-preserved : goal.turns-preserved
turns-preserved c =
    goes_on (setting_of c.args.macros.now) (state_of c.turns.machine) (expansion (setting_of c.args.macros.now) c.args.text.now c.args.used) c.turn.new.self c.in-Ok-true.field-0 c.turns.invariant c.in-Ok-true.field-0-test c.in-Ok-true.ensures

pub returns-in-Ok-false : goal.returns-in-Ok-false
returns-in-Ok-false c =
    stopped (setting_of c.args.macros.now) (state_of c.turns.machine) (expansion (setting_of c.args.macros.now) c.args.text.now c.args.used) c.turn.new.self c.in-Ok-false.field-0 c.turns.invariant c.in-Ok-false.field-0-test c.in-Ok-false.ensures
