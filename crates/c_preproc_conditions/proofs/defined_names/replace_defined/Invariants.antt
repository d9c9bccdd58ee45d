use Rattle.std.proofs.Common.{◌≡◌, length}
use Rattle.c_preproc_macros.specs.Numbering.{texts_of}
use Rattle.c_preproc_macros.specs.Rules.{macros_of}
use Rattle.c_preproc_conditions.specs.DefinedNames.{replaced}
use Rattle.c_preproc_conditions.proofs.DefinedNames.{behind}
use Rattle.c_preproc_conditions.proofs.defined_names.replace_defined.Given as goal

abbrev pub invariant-tokens : goal.invariant-tokens
invariant-tokens l = behind l.made.items (replaced (texts_of l.spellings) (macros_of l.macros) l.digits l.rest) ≡ replaced (texts_of l.spellings) (macros_of l.macros) l.digits l.line

abbrev pub decreases-tokens : goal.decreases-tokens
decreases-tokens l = length l.rest
