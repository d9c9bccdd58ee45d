-- Instances that were made last.
use Rattle.std.proofs.Common.{◌≡◌, ℕ, zero, suc, List, [], ◌∷◌, ◌++◌, length, replicate, slice_get, Some, None, refl, sym, ap, ◌∙◌}
use Rattle.std.proofs.lemmas.List.{set_at, length-replicate}
use Rattle.c_layout.specs.declared.data_model.Model.{Model}
use Rattle.memory_model.specs.Memory.Bytes.{into, Content, indeterminate, Byte}
use Rattle.memory_model.specs.Memory.Scalars.{Scalar, pointer}
use Rattle.memory_model.specs.Memory.Instances.{Instance, Memory, allocated, bytes_of, bytes_at}
use Rattle.memory_model.specs.Effects.ObjectEffects.{blank_bytes, fresh, all_of}
use Rattle.memory_model.specs.Effects.Touches.{with_bytes, set_bytes}
use Rattle.memory_model.specs.Effects.AllocationCalls.{untyped, allocated_with}
use Rattle.memory_model.specs.Effects.Worlds.{World, goes, with_memory}
use Rattle.interp_memory.specs.ByteViews.{content_view, contents_view}
use Rattle.interp_memory.specs.declared.byte_forms.Content7.{Content7}

-- bytes under no leaf have no type
blank_untyped : (m : Model) (at n : ℕ) → blank_bytes m [] at n ≡ untyped indeterminate n
blank_untyped m at zero = refl
blank_untyped m at (suc n) = ap (λ bs. record { content = indeterminate; tag = None } ∷ bs) (blank_untyped m (suc at) n)

all_untyped : (c : Content) (n : ℕ) → all_of c (untyped indeterminate n) ≡ untyped c n
all_untyped c zero = refl
all_untyped c (suc n) = ap (λ bs. record { content = c; tag = None } ∷ bs) (all_untyped c n)

last_there : (memory : Memory) (x : Instance) → slice_get (memory ++ x ∷ []) (length memory) ≡ Some x
last_there [] x = refl
last_there (y ∷ ys) x = last_there ys x

last_bytes : (memory : Memory) (x : Instance) → bytes_at (memory ++ x ∷ []) (length memory) ≡ x.bytes
last_bytes memory x = ap bytes_of (last_there memory x)

last_set : (memory : Memory) (x : Instance) (bytes : List Byte) → set_bytes (memory ++ x ∷ []) (length memory) bytes ≡ memory ++ (record x { bytes = bytes }) ∷ []
last_set memory x bytes =
    ap (λ o. with_bytes o bytes (memory ++ x ∷ []) (length memory)) (last_there memory x)
    ∙ set_at memory x [] (record x { bytes = bytes }) (length memory) refl

-- an instance that is filled as soon as it is made
pub made_filled : (memory : Memory) (m : Model) (c : Content) (n : ℕ) → set_bytes (memory ++ fresh allocated (blank_bytes m [] 0 n) ∷ []) (length memory) (all_of c (bytes_at (memory ++ fresh allocated (blank_bytes m [] 0 n) ∷ []) (length memory))) ≡ memory ++ fresh allocated (untyped c n) ∷ []
made_filled memory m c n =
    let x : Instance = fresh allocated (blank_bytes m [] 0 n) in
    last_set memory x (all_of c (bytes_at (memory ++ x ∷ []) (length memory)))
    ∙ ap (λ bs. memory ++ fresh allocated bs ∷ []) (ap (all_of c) (last_bytes memory x ∙ blank_untyped m 0 n) ∙ all_untyped c n)

-- an allocation makes such an instance and gives the pointer to it
pub allocation_made : (w : World) (m : Model) (c : Content) (size inst : ℕ) (between after : Memory) (v : Scalar) → inst ≡ length w.memory → between ≡ w.memory ++ fresh allocated (blank_bytes m [] 0 size) ∷ [] → after ≡ set_bytes between inst (all_of c (bytes_at between inst)) → v ≡ pointer (into inst 0 0 size) → allocated_with (untyped c size) w ≡ goes v (with_memory w after)
allocation_made w m c size inst between after v number made filled is =
    let memory : after ≡ w.memory ++ fresh allocated (untyped c size) ∷ [] =
    filled
    ∙ ap (λ z. set_bytes z inst (all_of c (bytes_at z inst))) made
    ∙ ap (λ i. set_bytes (w.memory ++ fresh allocated (blank_bytes m [] 0 size) ∷ []) i (all_of c (bytes_at (w.memory ++ fresh allocated (blank_bytes m [] 0 size) ∷ []) i))) number
    ∙ made_filled w.memory m c size in
    let whole : v ≡ pointer (into (length w.memory) 0 0 (length (untyped c size))) = is ∙ ap (λ i. pointer (into i 0 0 size)) number ∙ ap (λ n. pointer (into (length w.memory) 0 0 n)) (sym (length-replicate size (record { content = c; tag = None }))) in
    sym (ap (λ z. goes z (with_memory w after)) whole ∙ ap (λ z. goes (pointer (into (length w.memory) 0 0 (length (untyped c size)))) (with_memory w z)) memory)

-- so many times one content
pub contents_repeated : (n : ℕ) (c : Content7) → contents_view (replicate n c) ≡ replicate n (content_view c)
contents_repeated zero c = refl
contents_repeated (suc n) c = ap (λ cs. content_view c ∷ cs) (contents_repeated n c)
