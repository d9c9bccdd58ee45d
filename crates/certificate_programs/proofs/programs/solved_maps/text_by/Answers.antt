use Rattle.fixpoint.specs.Solver.RowMap.{rows_in}
use Rattle.analysis.proofs.SolvedMaps.{solved_as}
use Rattle.certificate_programs.proofs.programs.Solved.{certified}
use Rattle.certificate_programs.proofs.programs.solved_maps.text_by.Goals as goal

pub returns-clause-text : goal.returns-clause-text
returns-clause-text g c =
    certified c.args.flow.now c.args.list.now (rows_in c.solve.new.pool c.solve.new.map) c.requires.started c.requires.regular c.requires.checked
    (solved_as c.system-equations.result.flow.now c.args.flow.now c.system-equations.result.list.now c.args.list.now (rows_in c.solve.new.pool c.solve.new.map) c.system-equations.ensures.flow c.system-equations.ensures.list c.solve.ensures.inductive c.solve.ensures.least)
    (λ v. v.items) c.typed_text-text.result c.typed_text-text.ensures.typed c.typed_text-text.ensures.text
