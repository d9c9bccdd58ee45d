-- How many bytes all instances have together.
use Rattle.std.proofs.lemmas.List.{length-map}
use Rattle.std.proofs.Common.{◌≡◌, ℕ, zero, suc, ◌+◌, List, [], ◌∷◌, ◌++◌, length, map, set, slice_get, Some, refl, sym, ap, ◌∙◌, arith}
use Rattle.c_layout.specs.declared.data_model.Model.{Model}
use Rattle.c_layout.specs.declared.leaf_lists.Leaf.{Leaf}
use Rattle.memory_model.specs.Memory.Instances.{total_size}
use Rattle.memory_model.specs.Effects.ObjectEffects.{blank_bytes}
use Rattle.interp_memory.specs.ByteViews.{byte_view, bytes_view}
use Rattle.interp_memory.specs.InstanceViews.{instance_view}
use Rattle.interp_memory.specs.declared.instances.Instance as held

-- an instance with as many bytes in the place of another one
pub total_kept : (xs : List held.Instance) (i : ℕ) (x y : held.Instance) → slice_get xs i ≡ Some x → length (bytes_view y.bytes.items) ≡ length (bytes_view x.bytes.items) → total_size (map instance_view (set xs i y)) ≡ total_size (map instance_view xs)
total_kept [] i x y h e = refl
total_kept (z ∷ zs) zero x y h e =
    let same : z ≡ x = cc in
    ap (λ n. n + total_size (map instance_view zs)) (e ∙ ap (λ (v : held.Instance). length (bytes_view v.bytes.items)) (sym same))
total_kept (z ∷ zs) (suc i) x y h e = ap (λ n. length (bytes_view z.bytes.items) + n) (total_kept zs i x y h e)

-- the same by the bytes that a program keeps
pub total_written : (xs : List held.Instance) (i : ℕ) (x y : held.Instance) → slice_get xs i ≡ Some x → length y.bytes.items ≡ length x.bytes.items → total_size (map instance_view (set xs i y)) ≡ total_size (map instance_view xs)
total_written xs i x y h e = total_kept xs i x y h (length-map y.bytes.items byte_view ∙ e ∙ sym (length-map x.bytes.items byte_view))

-- an instance more
pub total_more : (xs : List held.Instance) (x : held.Instance) → total_size (map instance_view (xs ++ x ∷ [])) ≡ total_size (map instance_view xs) + length (bytes_view x.bytes.items)
total_more [] x = omega arith
total_more (z ∷ zs) x =
    let more : total_size (map instance_view (zs ++ x ∷ [])) ≡ total_size (map instance_view zs) + length (bytes_view x.bytes.items) = total_more zs x in
    omega arith

pub length_blank : (m : Model) (leaves : List Leaf) (at n : ℕ) → length (blank_bytes m leaves at n) ≡ n
length_blank m leaves at zero = refl
length_blank m leaves at (suc n) = ap suc (length_blank m leaves (suc at) n)
