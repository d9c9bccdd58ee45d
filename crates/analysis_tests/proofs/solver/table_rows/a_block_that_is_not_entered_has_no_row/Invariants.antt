use Rattle.analysis_tests.proofs.solver.table_rows.a_block_that_is_not_entered_has_no_row.Given as goal

abbrev pub ghosts-bound_at : goal.ghosts-bound_at
ghosts-bound_at g a = record { name = a.blank.name; parts = a.blank.parts }
