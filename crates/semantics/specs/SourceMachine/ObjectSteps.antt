-- Steps on objects: their pointers, their lifetimes, and what declarations do to them.
use Rattle.std.specs.Prelude.{ℕ, ◌+◌, length, Option, Some, None, slice_get}
use Rattle.c_layout.specs.CheckedUnits.{FunctionView, LiteralView, UnitView}
use Rattle.c_layout.specs.declared.checked_tree.checked_terms.ObjectRef.{ObjectRef}
use Rattle.c_layout.specs.declared.checked_tree.checked_terms.ObjectRef.TheVariants.{Local}
use Rattle.lower_functions.specs.Functions.Functions.{local_type}
use Rattle.memory_model.specs.Memory.Bytes.{into}
use Rattle.memory_model.specs.Memory.Scalars.{Scalar, pointer}
use Rattle.memory_model.specs.Effects.NumberedTables.{put_at, clear_at}
use Rattle.memory_model.specs.Effects.Worlds.{World, Reply, goes}
use Rattle.memory_model.specs.Effects.ObjectEffects.{next_instance, entered, left, forgotten, cleared, spelled}
use Rattle.memory_model.specs.Effects.UnitStarts.{literal_instance}
use Rattle.semantics.specs.SourceMachine.Operations.{size_of, leaves}
use Rattle.semantics.specs.SourceMachine.Items.{Change, Forget, Clear, Spell}
use Rattle.semantics.specs.SourceMachine.SourceStates.{State, with_world, pushed, stuck_at, if_some, with_function, with_local, with_object, result_object, type_of}

-- the run goes on in a state
abbrev pub on : State → Reply State
on s = goes s s.world

-- ---- pointers

-- a pointer to a byte of an object, into the whole of it
abbrev pub point_to : UnitView → State → ObjectRef → ℕ → Reply State
point_to u s o offset = if_some s (type_of u s o) (λ t. with_object s o (λ i. on (pushed (pointer (into i offset 0 (size_of u t))) s)))

abbrev pub literal_pointer : UnitView → ℕ → LiteralView → Scalar
literal_pointer u n l = pointer (into (literal_instance u n) 0 0 (length l.bytes + 1))

abbrev pub point_to_literal : UnitView → State → ℕ → Reply State
point_to_literal u s n = if_some s (slice_get u.literals n) (λ l. on (pushed (literal_pointer u n l) s))

abbrev pub point_to_outcome : UnitView → State → Reply State
point_to_outcome u s = with_function u s (λ f. point_to u s (Local (result_object f)) 0)

-- ---- lifetimes

abbrev pub enter_fresh : UnitView → State → ℕ → FunctionView → State
enter_fresh u s n f = record s { names = put_at s.names n (next_instance s.world); world = entered u.model (leaves u (local_type f n)) (size_of u (local_type f n)) s.world }

abbrev pub enter_if : UnitView → State → ℕ → Option ℕ → Reply State
enter_if u s n None = with_function u s (λ f. on (enter_fresh u s n f))
enter_if u s n (Some i) = stuck_at s

-- an object that is not there gets a fresh instance, which its name stands for from now on
abbrev pub enter : UnitView → State → ℕ → Reply State
enter u s n = enter_if u s n (s.names n)

abbrev pub leave : State → ℕ → Reply State
leave s n = with_local s n (λ i. on (record s { names = clear_at s.names n; world = left i s.world }))

-- ---- declarations

abbrev pub changed : Change → ℕ → World → World
changed Forget i w = forgotten i w
changed Clear i w = cleared i w
changed (Spell offset room text) i w = spelled i offset room text w

abbrev pub change : State → ℕ → Change → Reply State
change s n how = with_local s n (λ i. on (with_world s (changed how i s.world)))
