-- Lists are cut from their fronts on.
use Rattle.std.proofs.Common.{ℕ, List, ◌++◌}
use Rattle.c_preproc_macros.specs.declared.lexeme.Lexeme.{Lexeme}
use Rattle.c_preproc_directives.specs.OpenFiles.{Cut}

abbrev pub joined : List Lexeme → Cut → Cut
joined list both = record { front = list ++ both.front; rest = both.rest }

abbrev pub read_behind : List Lexeme → List (List ℕ) × List Lexeme → List (List ℕ) × List Lexeme
read_behind list p = (p.0, list ++ p.1)
