-- An instance that is made for another one, with its bytes.
use Rattle.std.proofs.Common.{◌≡◌, ℕ, pos, ◌-◌, ◌+◌, ◌≤◌, List, [], ◌∷◌, ◌++◌, length, take, drop, slice_get, Option, Some, None, refl, sym, ap, ◌∙◌, arith}
use Rattle.std.proofs.lemmas.List.{set_at, length-replicate, length-append, take_all, drop-replicate}
use Rattle.memory_model.specs.Memory.Labels.{no_labels}
use Rattle.memory_model.specs.Memory.Bytes.{into, indeterminate, Byte}
use Rattle.memory_model.specs.Memory.Scalars.{Scalar, integer, pointer}
use Rattle.memory_model.specs.Memory.Instances.{Instance, Memory, allocated, bytes_of, bytes_at}
use Rattle.memory_model.specs.Effects.ObjectEffects.{fresh, next_instance, with_instance}
use Rattle.memory_model.specs.Effects.ScalarBytes.{replaced}
use Rattle.memory_model.specs.Effects.Touches.{with_bytes, set_bytes}
use Rattle.memory_model.specs.Effects.AllocationCalls.{untyped, resized, allocated_with}
use Rattle.interp_library.specs.Memory.Regions.{instance_at}
use Rattle.memory_model.specs.Effects.Worlds.{World, Reply, goes, stops, world_of, with_memory}

resized_bytes : (bytes : List Byte) (size : ℕ) → length bytes ≤ size → replaced (untyped indeterminate size) 0 bytes ≡ resized bytes size
resized_bytes bytes size few =
    let none : 0 + length bytes ≡ length bytes = omega arith in
    ap (λ k. bytes ++ drop k (untyped indeterminate size)) none
    ∙ ap (λ z. bytes ++ z) (drop-replicate (length bytes) size _)
    ∙ ap (λ z. z ++ untyped indeterminate (size - length bytes)) (sym (take_all size bytes few))

resized_length : (bytes : List Byte) (size : ℕ) → length bytes ≤ size → length (resized bytes size) ≡ length (untyped indeterminate size)
resized_length bytes size few =
    let all : take size bytes ≡ bytes = take_all size bytes few in
    let rest : length (untyped indeterminate (size - length bytes)) ≡ size - length bytes = length-replicate (size - length bytes) _ in
    let whole : length (untyped indeterminate size) ≡ size = length-replicate size _ in
    ap (λ z. length (z ++ untyped indeterminate (size - length bytes))) all
    ∙ length-append bytes (untyped indeterminate (size - length bytes))
    ∙ omega (arith, rest, whole, few)

last_there : (memory : Memory) (x : Instance) → slice_get (memory ++ x ∷ []) (length memory) ≡ Some x
last_there [] x = refl
last_there (y ∷ ys) x = last_there ys x

last_bytes : (memory : Memory) (x : Instance) → bytes_at (memory ++ x ∷ []) (length memory) ≡ x.bytes
last_bytes memory x = ap bytes_of (last_there memory x)

last_set : (memory : Memory) (x : Instance) (bytes : List Byte) → set_bytes (memory ++ x ∷ []) (length memory) bytes ≡ memory ++ (record x { bytes = bytes }) ∷ []
last_set memory x bytes =
    ap (λ o. with_bytes o bytes (memory ++ x ∷ []) (length memory)) (last_there memory x)
    ∙ set_at memory x [] (record x { bytes = bytes }) (length memory) refl

abbrev value_of : Reply Scalar → Scalar
value_of (goes v w) = v
value_of (stops why w) = integer (pos 0) no_labels

written_last : (w : World) (size : ℕ) (bytes : List Byte) → length bytes ≤ size → with_memory w (set_bytes (with_instance w (fresh allocated (untyped indeterminate size))).memory (next_instance w) (replaced (bytes_at (with_instance w (fresh allocated (untyped indeterminate size))).memory (next_instance w)) 0 bytes)) ≡ with_instance w (fresh allocated (resized bytes size))
written_last w size bytes few =
    let x : Instance = fresh allocated (untyped indeterminate size) in
    ap (λ bs. with_memory w (set_bytes (w.memory ++ x ∷ []) (length w.memory) (replaced bs 0 bytes))) (last_bytes w.memory x)
    ∙ ap (with_memory w) (last_set w.memory x (replaced (untyped indeterminate size) 0 bytes))
    ∙ ap (λ bs. with_memory w (w.memory ++ fresh allocated bs ∷ [])) (resized_bytes bytes size few)

abbrev number_in : Option ℕ → ℕ
number_in None = 0
number_in (Some n) = n

-- the bytes are written into an instance as soon as it is made
pub resized_made : (w made : World) (size i : ℕ) (bytes : List Byte) (v : Scalar) → instance_at v ≡ Some i → length bytes ≤ size → allocated_with (untyped indeterminate size) w ≡ goes v made → allocated_with (resized bytes size) w ≡ goes v (with_memory made (set_bytes made.memory i (replaced (bytes_at made.memory i) 0 bytes)))
resized_made w made size i bytes v is few e =
    let blank : List Byte = untyped indeterminate size in
    let world : with_instance w (fresh allocated blank) ≡ made = ap world_of e in
    let value : pointer (into (next_instance w) 0 0 (length blank)) ≡ v = ap value_of e in
    let number : next_instance w ≡ i = ap number_in (ap instance_at value ∙ is) in
    ap (λ n. goes (pointer (into (next_instance w) 0 0 n)) (with_instance w (fresh allocated (resized bytes size)))) (resized_length bytes size few)
    ∙ ap (λ x. goes x (with_instance w (fresh allocated (resized bytes size)))) value
    ∙ ap (goes v)
    (sym (written_last w size bytes few)
    ∙ ap (λ z. with_memory z (set_bytes z.memory (next_instance w) (replaced (bytes_at z.memory (next_instance w)) 0 bytes))) world
    ∙ ap (λ k. with_memory made (set_bytes made.memory k (replaced (bytes_at made.memory k) 0 bytes))) number)
