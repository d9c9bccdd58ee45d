use Rattle.std.proofs.Common.{◌≡◌, ◌∙◌, length, refl, arith}
use Rattle.fixpoint.proofs.solver.StartLaws.{vacant_index}
use Rattle.certificate_check.proofs.verdicts.KeptMaps.{same_row, none_held, vacant_is_held}
use Rattle.certificate_check.proofs.verdicts.verification.settle.Goals as goal

pub returns-then-is_yes-clause-others : goal.returns-then-is_yes-clause-others
returns-then-is_yes-clause-others c = λ s t out. (t, refl, out)

pub returns-clause-held : goal.returns-clause-held
returns-clause-held c = vacant_is_held c.release.new.pool c.release.new.map (length c.args.map.now) c.release.ensures.vacant

pub returns-clause-room : goal.returns-clause-room
returns-clause-room c = omega (arith, c.release.ensures.room, none_held c.release.new.map (length c.args.map.now) c.release.ensures.vacant)

pub returns-clause-others : goal.returns-clause-others
returns-clause-others c = λ s t out. (
  c.release.ensures.others s t out,
  same_row c.args.pool.now c.release.new.pool s c.release.ensures.width c.release.ensures.cells,
  λ b. vacant_index c.release.new.map (length c.args.map.now) c.release.ensures.vacant b s,
)
