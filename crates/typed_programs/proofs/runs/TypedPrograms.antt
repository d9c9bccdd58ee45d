-- In the run of a typed program under no numbers of the outside each access is of the type of what lies there.
use Rattle.std.proofs.Common.{suc, subst}
use Rattle.typed_programs.specs.Types.TypedStates.{IsTyped}
use Rattle.typed_programs.specs.Types.TypedPrograms.{structs_of}
use Rattle.typed_programs.specs.Runs.TypedRuns.{TypedProgramsHaveTypedAccesses}
use Rattle.typed_programs.proofs.runs.TypeLaws.{TypeLaws}
use Rattle.typed_programs.proofs.runs.TypedAccesses.{access_typed}
use Rattle.typed_programs.proofs.runs.TypedRuns.{IsTypedRun, run_typed}
use Rattle.typed_programs.proofs.runs.TypedStates.{by_types}

pub typed_accesses : TypeLaws → TypedProgramsHaveTypedAccesses
typed_accesses laws flow u typing p count s found i is there =
    let typed : IsTyped (structs_of flow) flow.model.pointer typing.objects (typing.known s.block s.at) s = subst (IsTypedRun laws flow u typing p) is (run_typed laws flow u typing p count) in
    access_typed laws flow p.laid typing.objects p.bases typed.types (typing.known s.block s.at) (typing.known s.block (suc s.at)) s (by_types (structs_of flow) flow.model.pointer typing.objects (typing.known s.block s.at) s typed) i.operation (p.steps s.block s.at i there)
