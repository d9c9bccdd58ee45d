-- What operations do to values whose kinds they ask for.
use Rattle.std.specs.Prelude.{◌≡◌, false, List, [], ◌∷◌, ◌++◌}
use Rattle.c_layout.specs.CheckedUnits.{UnitView}
use Rattle.c_layout.specs.declared.data_model.Model.{Model}
use Rattle.cfg.specs.declared.machine_instructions.Scalar as declared
use Rattle.memory_model.specs.Memory.Scalars.{Scalar}
use Rattle.memory_model.specs.Effects.Worlds.{World}
use Rattle.memory_model.specs.Effects.Accesses.{store}
use Rattle.memory_model.specs.Effects.LibraryCalls.{fgets}
use Rattle.semantics.specs.SourceMachine.Operations.{Operation, perform}
use Rattle.source_items.specs.Operations.Kinds.{Kind, Number, Address, kind_of, IsOf, AreOf}
use Rattle.source_items.specs.Operations.TakenKinds.{Operates, makes_pointer}
use Rattle.source_items.specs.Operations.GoingReplies.{IfGoes, NotStuck}

-- where an operation goes on, it gives values of the kinds that it is to give, and leaves those below
abbrev pub OperationsKeepKinds : Type 0
OperationsKeepKinds = (u : UnitView) (operation : Operation) (before after below : List Kind) (vs : List Scalar) (w : World) → Operates operation before after → AreOf (before ++ below) vs → IfGoes (AreOf (after ++ below)) (perform u operation vs w)

-- an operation on values of the kinds that it takes has a step, unless it makes a pointer of a number
abbrev pub OperationsHaveSteps : Type 0
OperationsHaveSteps = (u : UnitView) (operation : Operation) (before after below : List Kind) (vs : List Scalar) (w : World) → makes_pointer operation ≡ false → Operates operation before after → AreOf (before ++ below) vs → NotStuck (perform u operation vs w)

-- a store of a value of its kind to a pointer has a step, and gives such a value
abbrev pub StoresHaveSteps : Type 0
StoresHaveSteps = (m : Model) (kind : declared.Scalar) (at v : Scalar) (w : World) → IsOf Address at → IsOf (kind_of kind) v → IfGoes (IsOf (kind_of kind)) (store m kind at v w) × NotStuck (store m kind at v w)

-- to read a line has a step, which gives a pointer
abbrev pub LinesHaveSteps : Type 0
LinesHaveSteps = (m : Model) (text count stream : Scalar) (w : World) → IsOf Address text → IsOf Number count → IsOf Address stream → IfGoes (IsOf Address) (fgets m (text ∷ (count ∷ (stream ∷ []))) w) × NotStuck (fgets m (text ∷ (count ∷ (stream ∷ []))) w)
