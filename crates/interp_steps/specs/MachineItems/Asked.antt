-- How many bytes the instance has that the next turn makes.
use Rattle.std.specs.Prelude.{◌≡◌, ◌⊎◌, ℕ, ◌*◌, ℤ, pos, Bool, true, false, cond, ◌&&◌, nat_le, List, [], ◌∷◌, Option, Some, None}
use Rattle.std.specs.Ordering.{int_eq}
use Rattle.c_layout.specs.CheckedUnits.{FunctionView, UnitView}
use Rattle.c_layout.specs.declared.data_model.Model.{Model}
use Rattle.c_layout.specs.declared.library_functions.LibFn.{LibFn}
use Rattle.c_layout.specs.declared.library_functions.LibFn.TheVariants as f
use Rattle.lower_functions.specs.Functions.Functions.{local_type}
use Rattle.memory_model.specs.Memory.Bytes.{MachinePointer, null, into}
use Rattle.memory_model.specs.Memory.Instances.{Life, live, ended, freed, Memory, life_at}
use Rattle.memory_model.specs.Memory.Scalars.{Scalar, integer, pointer}
use Rattle.memory_model.specs.Effects.AllocationCalls.{is_start}
use Rattle.memory_model.specs.Effects.LibraryChecks.{size_of, most_size}
use Rattle.memory_model.specs.Effects.Worlds.{World}
use Rattle.semantics.specs.SourceMachine.Items as item
use Rattle.semantics.specs.SourceMachine.Items.{Item}
use Rattle.semantics.specs.SourceMachine.Operations as op
use Rattle.semantics.specs.SourceMachine.Operations.{Operation, newest}
use Rattle.semantics.specs.SourceMachine.SourceStates.{State, function_at}

-- ---- objects

abbrev pub type_size : UnitView → Option FunctionView → ℕ → ℕ
type_size u None n = 0
type_size u (Some function) n = op.size_of u (local_type function n)

-- an object that is there already is not entered
abbrev pub named_size : UnitView → State → ℕ → Option ℕ → ℕ
named_size u s n None = type_size u (function_at u s.function) n
named_size u s n (Some i) = 0

-- the first of some objects that are entered
abbrev pub entered_size : UnitView → State → Option ℕ → ℕ
entered_size u s None = 0
entered_size u s (Some n) = named_size u s n (s.names n)

abbrev pub first_of : List ℕ → Option ℕ
first_of [] = None
first_of (n ∷ ns) = Some n

-- ---- allocations

-- the outside answers that there is memory
abbrev pub answers_yes : List ℤ → Bool
answers_yes [] = false
answers_yes (n ∷ ns) = int_eq n (pos 1)

abbrev pub given_size : Model → ℕ → World → ℕ
given_size m size w = cond (answers_yes w.draws && nat_le size (most_size m)) size 0

abbrev pub is_live : Life → Bool
is_live live = true
is_live ended = false
is_live freed = false

-- a pointer may be given back
abbrev pub may_be_freed : Memory → MachinePointer → Bool
may_be_freed memory null = true
may_be_freed memory (into i offset lo hi) = is_live (life_at memory i) && is_start memory i offset

abbrev pub called_size : Model → LibFn → List Scalar → World → ℕ
called_size m f.Malloc (integer n labels ∷ []) w = given_size m (size_of n) w
called_size m f.Calloc (integer k s ∷ (integer n t ∷ [])) w = given_size m (size_of k * size_of n) w
called_size m f.Realloc (pointer p ∷ (integer n labels ∷ [])) w = cond (may_be_freed w.memory p) (given_size m (size_of n) w) 0
called_size m function arguments w = 0

abbrev pub operated_size : UnitView → State → Operation → ℕ
operated_size u s (op.Library function count target) = called_size u.model function (newest count s.values) s.world
operated_size u s operation = 0

-- ---- items

-- what the first of some items makes
abbrev pub made_by : UnitView → State → List Item → ℕ
made_by u s (item.Enters objects ∷ items) = entered_size u s (first_of objects)
made_by u s (item.Do at operation ∷ items) = operated_size u s operation
made_by u s items = 0

-- none, or as many bytes as the first of some items makes
abbrev pub IsMadeBy : UnitView → State → List Item → ℕ → Type 0
IsMadeBy u s items n = (n ≡ 0) ⊎ (n ≡ made_by u s items)
