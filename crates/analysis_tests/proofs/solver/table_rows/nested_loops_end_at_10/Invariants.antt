use Rattle.analysis_tests.proofs.solver.table_rows.nested_loops_end_at_10.Given as goal

abbrev pub ghosts-bound_at : goal.ghosts-bound_at
ghosts-bound_at g a = record { name = a.blank.name; parts = a.blank.parts }
