use Rattle.analysis.proofs.program_analysis.analyse.Given as goal

abbrev pub ghosts-analysed_from : goal.ghosts-analysed_from
ghosts-analysed_from a = record { name = a.blank.name; parts = a.blank.parts }
