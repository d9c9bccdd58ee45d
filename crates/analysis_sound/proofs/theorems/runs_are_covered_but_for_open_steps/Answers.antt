use Rattle.store_sound.proofs.programs.WellFormedPremises.{meets_premises}
use Rattle.transfer_sound.proofs.induction.Covering.{runs_covered}
use Rattle.analysis_sound.proofs.programs.AllSteps.{steps_go_on, ends_go_on, tests_sound}
use Rattle.analysis_sound.proofs.theorems.runs_are_covered_but_for_open_steps.Goals as goal

pub returns : goal.returns
returns g c = λ flow sound limits held good texts sites copies steps tests u rows begins carries typed.
    let p = meets_premises limits flow held good in
    runs_covered _ _ _ flow limits good (steps_go_on g.met.I.Lattice.order g.met.I.IntDomain.bounding sound g.met.I.IntDomain.ranges flow p limits good texts sites copies steps) (ends_go_on g.met.I.Lattice.order g.met.I.IntDomain.bounding sound g.met.I.IntDomain.ranges flow p limits (tests_sound g.met.I.Lattice.order g.met.I.IntDomain.bounding sound g.met.I.IntDomain.ranges flow p tests)) u rows begins carries typed
