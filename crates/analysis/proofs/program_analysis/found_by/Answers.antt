use Rattle.fixpoint.specs.Solver.RowMap.{rows_in}
use Rattle.analysis.proofs.VisitBounds.{followed}
use Rattle.analysis.proofs.SolvedMaps.{solved_as}
use Rattle.analysis.proofs.Found.{analysed}
use Rattle.analysis.proofs.program_analysis.found_by.Goals as goal

pub returns-clause-found : goal.returns-clause-found
returns-clause-found g c =
    analysed c.args.flow.now c.args.list.now (rows_in c.solve.new.pool c.solve.new.map) c.requires.started c.requires.regular c.requires.checked
    (solved_as c.system-equations.result.flow.now c.args.flow.now c.system-equations.result.list.now c.args.list.now (rows_in c.solve.new.pool c.solve.new.map) c.system-equations.ensures.flow c.system-equations.ensures.list c.solve.ensures.inductive c.solve.ensures.least)
    (λ v. v.items) c.typed_pairs-found.result c.typed_pairs-found.ensures.typed c.typed_pairs-found.ensures.pairs

pub returns-clause-followed : goal.returns-clause-followed
returns-clause-followed g c =
    followed c.system-equations.result.flow.now c.args.flow.now c.system-equations.result.list.now c.args.list.now _ _ c.system-equations.ensures.flow c.system-equations.ensures.list c.solve.ensures.steps
