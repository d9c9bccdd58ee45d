use Rattle.std.proofs.Common.{◌≡◌, drop}
use Rattle.c_types_scopes.specs.States.{state}
use Rattle.c_types_primary.specs.TypeNames.{words_from, nothing_said, said_view}
use Rattle.c_types_primary.proofs.type_names.words_said.Given as goal

abbrev pub invariant-loop-next : goal.invariant-loop-next
invariant-loop-next l = words_from (state l.cx) l.place (said_view l.said) (drop l.next-index l.words) ≡ words_from (state l.fn.cx) l.place nothing_said l.words
