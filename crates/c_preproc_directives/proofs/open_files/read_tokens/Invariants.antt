use Rattle.std.proofs.Common.{◌≡◌, drop}
use Rattle.c_preproc_macros.specs.Numbering.{texts_of}
use Rattle.c_preproc_directives.specs.OpenFiles.{read_tokens}
use Rattle.c_preproc_directives.proofs.OpenFiles.{read_behind}
use Rattle.c_preproc_directives.proofs.open_files.read_tokens.Given as goal

abbrev pub invariant-loop-token : goal.invariant-loop-token
invariant-loop-token l = read_behind l.list.items (read_tokens (texts_of l.spellings) (drop l.token-index l.tokens)) ≡ read_tokens (texts_of l.initial.spellings) l.tokens
