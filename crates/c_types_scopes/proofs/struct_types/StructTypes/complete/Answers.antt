use Rattle.std.proofs.Common.{ap}
use Rattle.std.proofs.lemmas.List.{map-set}
use Rattle.c_layout.specs.StructViews.{struct_view}
use Rattle.c_types_scopes.specs.StructTables.{types_view}
use Rattle.c_types_scopes.proofs.struct_types.StructTypes.complete.Goals as goal

pub returns-in-Some : goal.returns-in-Some
returns-in-Some c = ap (λ l. record (types_view c.args.self.now) { structs = l }) (map-set struct_view c.args.self.now.structs.items.items c.args.number c.args.made)
