use Rattle.cli_theorems.proofs.units.Grammar.{refused_exactly, syntax_exactly, refused_no_tree}
use Rattle.cli_theorems.proofs.theorems.refusals_of_grammar_are_exact.Goals as goal

pub returns : goal.returns
returns c = record { exactly = refused_exactly; syntax = syntax_exactly; no_tree = refused_no_tree }
