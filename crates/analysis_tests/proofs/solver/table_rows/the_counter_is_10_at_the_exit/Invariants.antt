use Rattle.analysis_tests.proofs.solver.table_rows.the_counter_is_10_at_the_exit.Given as goal

abbrev pub ghosts-bound_at : goal.ghosts-bound_at
ghosts-bound_at g a = record { name = a.blank.name; parts = a.blank.parts }
