use Rattle.std.proofs.Common.{◌≡◌, ◌++◌, drop}
use Rattle.syntactic_rules.specs.TermPlaces.{terms_places}
use Rattle.syntactic_rules.proofs.term_places.+terms.Given as goal

abbrev pub invariant-add_terms-loop-term : goal.invariant-add_terms-loop-term
invariant-add_terms-loop-term l = l.found.items ++ terms_places (drop l.term-index l.terms) ≡ l.initial.found.items ++ terms_places l.terms
