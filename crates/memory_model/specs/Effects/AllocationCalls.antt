-- `malloc`, `calloc`, `realloc` and `free` (7.22.3).
use Rattle.std.specs.Prelude.{ℕ, ◌-◌, ◌*◌, pos, Bool, true, false, not, ◌&&◌, ◌==◌, nat_lt, nat_le, List, [], ◌∷◌, ◌++◌, length, take, replicate, Option, Some, None}
use Rattle.std.specs.Ordering.{int_eq}
use Rattle.cc_base.specs.declared.diagnostics.Rule.TheVariants as rule
use Rattle.c_layout.specs.declared.data_model.Model.{Model}
use Rattle.memory_model.specs.Memory.Labels.{no_labels}
use Rattle.memory_model.specs.Memory.Bytes.{MachinePointer, null, into, Content, indeterminate, number, Byte}
use Rattle.memory_model.specs.Memory.Instances.{allocated, Life, live, ended, freed, Memory, bytes_at, life_at}
use Rattle.memory_model.specs.Memory.Scalars.{Scalar, integer, pointer}
use Rattle.memory_model.specs.Effects.Worlds.{World, Stuck, Reply, goes, stops, behind, done, with_memory, noted, unless, stopped_by, drawn}
use Rattle.memory_model.specs.Effects.Touches.{is_allocated, storage_at}
use Rattle.memory_model.specs.Effects.ObjectEffects.{fresh, next_instance, with_instance, set_life}
use Rattle.memory_model.specs.Effects.LibraryChecks.{size_of, with_size, most_size}

-- bytes without a type
abbrev pub untyped : Content → ℕ → List Byte
untyped c size = replicate size (record { content = c; tag = None })

-- fewer bytes than the object that the result is converted to has
abbrev pub too_small : Option ℕ → ℕ → Bool
too_small None size = false
too_small (Some wanted) size = nat_lt size wanted

abbrev pub asked_for : Option ℕ → ℕ → World → World
asked_for wanted size w = noted w (too_small wanted size) rule.Insufmem

-- the pointer to an instance made of bytes
abbrev pub allocated_with : List Byte → World → Reply Scalar
allocated_with bytes w = goes (pointer (into (next_instance w) 0 0 (length bytes))) (with_instance w (fresh allocated bytes))

-- no bytes are made where there is no memory
abbrev pub if_given : Bool → (World → Reply Scalar) → World → Reply Scalar
if_given true made w = made w
if_given false made w = goes (pointer null) w

-- the outside says whether there is memory; too many bytes are never given
abbrev pub allocate : Model → ℕ → (World → Reply Scalar) → World → Reply Scalar
allocate m size made w = behind (drawn w (pos 0) (pos 1)) (λ answer w. if_given (int_eq answer (pos 1) && nat_le size (most_size m)) made w)

abbrev pub malloc_bytes : Model → Option ℕ → ℕ → World → Reply Scalar
malloc_bytes m wanted size w = allocate m size (λ w. allocated_with (untyped indeterminate size) w) (asked_for wanted size w)

abbrev pub malloc : Model → Option ℕ → List Scalar → World → Reply Scalar
malloc m wanted (integer n labels ∷ []) w = malloc_bytes m wanted (size_of n) (with_size w labels)
malloc m wanted arguments w = stops Stuck w

abbrev pub calloc_bytes : Model → Option ℕ → ℕ → World → Reply Scalar
calloc_bytes m wanted size w = allocate m size (λ w. allocated_with (untyped (number 0 no_labels) size) w) (asked_for wanted size w)

abbrev pub calloc : Model → Option ℕ → List Scalar → World → Reply Scalar
calloc m wanted (integer k s ∷ (integer n t ∷ [])) w = calloc_bytes m wanted (size_of k * size_of n) (with_size (with_size w s) t)
calloc m wanted arguments w = stops Stuck w

-- ---- what may be freed

-- the start of an allocated instance
abbrev pub is_start : Memory → ℕ → ℕ → Bool
is_start memory i offset = is_allocated (storage_at memory i) && (offset == 0)

abbrev pub freeable_by : World → Life → ℕ → ℕ → Reply (Unit {0}) → Reply (Unit {0})
freeable_by w freed i offset reply = stopped_by w rule.Dblfree
freeable_by w ended i offset reply = stopped_by w rule.Xfree
freeable_by w live i offset reply = unless w (not (is_start w.memory i offset)) rule.Xfree reply

-- a pointer that is not null may be given back
abbrev pub freeable : MachinePointer → World → Reply (Unit {0})
freeable null w = done w
freeable (into i offset lo hi) w = freeable_by w (life_at w.memory i) i offset (done w)

abbrev pub given_back : MachinePointer → World → World
given_back null w = w
given_back (into i offset lo hi) w = with_memory w (set_life w.memory i freed)

abbrev pub free : List Scalar → World → Reply (Unit {0})
free (pointer p ∷ []) w = behind (freeable p w) (λ _ w. done (given_back p w))
free arguments w = stops Stuck w

-- ---- another size

-- so many bytes of an old instance, and indeterminate ones behind them
abbrev pub resized : List Byte → ℕ → List Byte
resized bytes size = take size bytes ++ untyped indeterminate (size - length bytes)

abbrev pub old_bytes : Memory → MachinePointer → List Byte
old_bytes memory null = []
old_bytes memory (into i offset lo hi) = bytes_at memory i

abbrev pub moved_to : ℕ → MachinePointer → World → Reply Scalar
moved_to size p w = allocated_with (resized (old_bytes w.memory p) size) (given_back p w)

abbrev pub realloc_bytes : Model → Option ℕ → MachinePointer → ℕ → World → Reply Scalar
realloc_bytes m wanted p size w = behind (freeable p (asked_for wanted size w)) (λ _ w. allocate m size (moved_to size p) w)

abbrev pub realloc : Model → Option ℕ → List Scalar → World → Reply Scalar
realloc m wanted (pointer p ∷ (integer n labels ∷ [])) w = realloc_bytes m wanted p (size_of n) (with_size w labels)
realloc m wanted arguments w = stops Stuck w
