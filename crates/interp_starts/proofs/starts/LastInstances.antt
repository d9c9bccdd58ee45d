-- The instance that was made last.
use Rattle.std.proofs.Common.{◌≡◌, ℕ, List, [], ◌∷◌, ◌++◌, length, slice_get, Some, refl, sym, ap, ◌∙◌}
use Rattle.std.proofs.lemmas.List.{set_at}
use Rattle.c_layout.specs.CheckedUnits.{StaticStoreView, UnitView}
use Rattle.memory_model.specs.Memory.Bytes.{Content, Byte}
use Rattle.memory_model.specs.Memory.Instances.{Storage, Instance, Memory, bytes_of, bytes_at}
use Rattle.memory_model.specs.Effects.ObjectEffects.{fresh, next_instance, with_instance, all_of}
use Rattle.memory_model.specs.Effects.ScalarBytes.{refilled}
use Rattle.memory_model.specs.Effects.Touches.{with_bytes, set_bytes}
use Rattle.memory_model.specs.Effects.UnitStarts.{stored, all_stored}
use Rattle.memory_model.specs.Effects.Worlds.{World, Reply, goes, with_memory}
use Rattle.interp_starts.specs.Starts.Rewrites.{store_put, stores_put}

last_there : (before : Memory) (x : Instance) → slice_get (before ++ x ∷ []) (length before) ≡ Some x
last_there [] x = refl
last_there (y ∷ ys) x = last_there ys x

pub last_bytes : (before : Memory) (x : Instance) → bytes_at (before ++ x ∷ []) (length before) ≡ x.bytes
last_bytes before x = ap bytes_of (last_there before x)

pub last_set : (before : Memory) (x : Instance) (bytes : List Byte) → set_bytes (before ++ x ∷ []) (length before) bytes ≡ before ++ (record x { bytes = bytes }) ∷ []
last_set before x bytes =
    ap (λ o. with_bytes o bytes (before ++ x ∷ []) (length before)) (last_there before x)
    ∙ set_at before x [] (record x { bytes = bytes }) (length before) refl

-- a content in each of its bytes
pub last_filled : (before : Memory) (kind : Storage) (c : Content) (bytes : List Byte) → set_bytes (before ++ fresh kind bytes ∷ []) (length before) (all_of c (bytes_at (before ++ fresh kind bytes ∷ []) (length before))) ≡ before ++ fresh kind (all_of c bytes) ∷ []
last_filled before kind c bytes =
    last_set before (fresh kind bytes) (all_of c (bytes_at (before ++ fresh kind bytes ∷ []) (length before)))
    ∙ ap (λ bs. before ++ fresh kind (all_of c bs) ∷ []) (last_bytes before (fresh kind bytes))

store_on_last : (u : UnitView) (x : StaticStoreView) (before : Memory) (kind : Storage) (bytes : List Byte) (w : World) → store_put u x (length before) (with_memory w (before ++ fresh kind bytes ∷ [])) ≡ with_memory w (before ++ fresh kind (stored u x bytes) ∷ [])
store_on_last u x before kind bytes w =
    ap (with_memory w)
    (last_set before (fresh kind bytes) (stored u x (bytes_at (before ++ fresh kind bytes ∷ []) (length before)))
    ∙ ap (λ bs. before ++ fresh kind (stored u x bs) ∷ []) (last_bytes before (fresh kind bytes)))

-- the stores of an initializer
stores_on_last : (u : UnitView) (xs : List StaticStoreView) (before : Memory) (kind : Storage) (bytes : List Byte) (w : World) → stores_put u xs (length before) (with_memory w (before ++ fresh kind bytes ∷ [])) ≡ with_memory w (before ++ fresh kind (all_stored u xs bytes) ∷ [])
stores_on_last u [] before kind bytes w = refl
stores_on_last u (x ∷ xs) before kind bytes w =
    ap (stores_put u xs (length before)) (store_on_last u x before kind bytes w)
    ∙ stores_on_last u xs before kind (stored u x bytes) w

pub object_made : (u : UnitView) (xs : List StaticStoreView) (kind : Storage) (bytes : List Byte) (inst : ℕ) (w v after : World) → next_instance w ≡ inst → with_instance w (fresh kind bytes) ≡ v → stores_put u xs inst v ≡ after → with_instance w (fresh kind (all_stored u xs bytes)) ≡ after
object_made u xs kind bytes inst w v after number made stored =
    sym (stores_on_last u xs w.memory kind bytes w)
    ∙ ap (λ i. stores_put u xs i (with_instance w (fresh kind bytes))) number
    ∙ ap (stores_put u xs inst) made
    ∙ stored

-- an instance that is filled as soon as it is made
pub made_filled : (kind : Storage) (c : Content) (bytes : List Byte) (inst : ℕ) (w v : World) (after : Memory) → goes (next_instance w) (with_instance w (fresh kind bytes)) ≡ goes inst v → after ≡ set_bytes v.memory inst (all_of c (bytes_at v.memory inst)) → goes (next_instance w) (with_instance w (fresh kind (all_of c bytes))) ≡ goes inst (with_memory v after)
made_filled kind c bytes inst w v after made filled =
    let number : next_instance w ≡ inst = cc in
    let world : with_instance w (fresh kind bytes) ≡ v = cc in
    ap (λ memory. goes (next_instance w) (with_memory w memory)) (sym (last_filled w.memory kind c bytes))
    ∙ ap (λ i. goes i (with_memory w (set_bytes (w.memory ++ fresh kind bytes ∷ []) i (all_of c (bytes_at (w.memory ++ fresh kind bytes ∷ []) i))))) number
    ∙ ap (λ (z : World). goes inst (with_memory z (set_bytes z.memory inst (all_of c (bytes_at z.memory inst))))) world
    ∙ ap (λ memory. goes inst (with_memory v memory)) (sym filled)

-- an object that is all zero, and then the stores of its initializer
pub object_put : (u : UnitView) (xs : List StaticStoreView) (kind : Storage) (bytes : List Byte) (inst : ℕ) (w v after : World) → goes (next_instance w) (with_instance w (fresh kind bytes)) ≡ goes inst v → stores_put u xs inst v ≡ after → with_instance w (fresh kind (all_stored u xs bytes)) ≡ after
object_put u xs kind bytes inst w v after made put =
    let number : next_instance w ≡ inst = cc in
    let world : with_instance w (fresh kind bytes) ≡ v = cc in
    object_made u xs kind bytes inst w v after number world put

-- an instance whose first bytes are written as soon as it is made
pub made_refilled : (kind : Storage) (bytes : List Byte) (cs : List Content) (inst : ℕ) (w v : World) (after : Memory) → goes (next_instance w) (with_instance w (fresh kind bytes)) ≡ goes inst v → after ≡ set_bytes v.memory inst (refilled (bytes_at v.memory inst) 0 cs) → with_instance w (fresh kind (refilled bytes 0 cs)) ≡ with_memory v after
made_refilled kind bytes cs inst w v after made put =
    let x : Instance = fresh kind bytes in
    let number : next_instance w ≡ inst = cc in
    let world : with_instance w x ≡ v = cc in
    ap (λ bs. with_memory w (w.memory ++ fresh kind (refilled bs 0 cs) ∷ [])) (sym (last_bytes w.memory x))
    ∙ ap (with_memory w) (sym (last_set w.memory x (refilled (bytes_at (w.memory ++ x ∷ []) (length w.memory)) 0 cs)))
    ∙ ap (λ i. with_memory w (set_bytes (w.memory ++ x ∷ []) i (refilled (bytes_at (w.memory ++ x ∷ []) i) 0 cs))) number
    ∙ ap (λ (z : World). with_memory z (set_bytes z.memory inst (refilled (bytes_at z.memory inst) 0 cs))) world
    ∙ ap (with_memory v) (sym put)
