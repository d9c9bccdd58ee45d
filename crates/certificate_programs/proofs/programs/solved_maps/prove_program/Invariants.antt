use Rattle.certificate_programs.proofs.programs.solved_maps.prove_program.Given as goal

abbrev pub ghosts-text_in : goal.ghosts-text_in
ghosts-text_in a = record { name = a.blank.name; parts = a.blank.parts }
