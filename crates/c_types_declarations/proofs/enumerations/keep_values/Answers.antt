use Rattle.std.proofs.Common.{ap, vec_items}
use Rattle.std.proofs.lemmas.List.{map-set}
use Rattle.c_types_scopes.specs.States.{state}
use Rattle.c_types_declarations.proofs.enumerations.keep_values.Goals as goal

pub returns-in-Some : goal.returns-in-Some
returns-in-Some c = ap (λ l. record (state c.args.cx.now) { enumerations = l }) (map-set vec_items c.args.cx.now.enumerations.items c.args.number c.args.values)
