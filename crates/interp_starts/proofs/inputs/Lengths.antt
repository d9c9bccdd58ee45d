-- How many bytes instances have that are made at the start.
use Rattle.std.proofs.Common.{◌≡◌, ℕ, zero, suc, ◌+◌, ℤ, List, [], ◌∷◌, ◌++◌, length, refl, ap, ◌∙◌}
use Rattle.std.proofs.lemmas.List.{length-map, length-append}
use Rattle.cc_base.specs.declared.int_types.IntType.{IntType}
use Rattle.c_layout.specs.declared.data_model.Model.{Model}
use Rattle.c_layout.specs.declared.leaf_lists.Leaf.{Leaf}
use Rattle.c_layout.specs.Layout.{size_of_type}
use Rattle.c_layout.specs.Leaves.{leaves_of}
use Rattle.c_layout.specs.Types.{Int}
use Rattle.c_layout.specs.CheckedUnits.{UnitView, StaticView, StaticStoreView, SetValue, SetText, LiteralView}
use Rattle.memory_model.specs.Memory.Bytes.{Byte, Content, number}
use Rattle.memory_model.specs.Memory.Labels.{no_labels, input_labels}
use Rattle.memory_model.specs.Memory.Scalars.{integer}
use Rattle.memory_model.specs.Effects.ObjectEffects.{blank_bytes, characters, all_of, holding}
use Rattle.memory_model.specs.Effects.ScalarBytes.{filled, refilled, scalar_bytes}
use Rattle.memory_model.specs.Effects.UnitStarts.{typed_bytes, stored, all_stored, static_instance, character_byte, literal_made}

length_blank : (m : Model) (leaves : List Leaf) (at n : ℕ) → length (blank_bytes m leaves at n) ≡ n
length_blank m leaves at zero = refl
length_blank m leaves at (suc n) = ap suc (length_blank m leaves (suc at) n)

length_filled : (bs : List Byte) (cs : List Content) → length (filled bs cs) ≡ length bs
length_filled [] [] = refl
length_filled [] (c ∷ cs) = refl
length_filled (b ∷ bs) [] = refl
length_filled (b ∷ bs) (c ∷ cs) = ap suc (length_filled bs cs)

length_refilled : (bs : List Byte) (at : ℕ) (cs : List Content) → length (refilled bs at cs) ≡ length bs
length_refilled bs zero cs = length_filled bs cs
length_refilled [] (suc at) cs = length_filled [] cs
length_refilled (b ∷ bs) (suc at) cs = ap suc (length_refilled bs at cs)

length_stored : (u : UnitView) (x : StaticStoreView) (bs : List Byte) → length (stored u x bs) ≡ length bs
length_stored u (SetValue offset value) bs = length_refilled bs offset _
length_stored u (SetText offset room text) bs = length_refilled bs offset _

length_all_stored : (u : UnitView) (xs : List StaticStoreView) (bs : List Byte) → length (all_stored u xs bs) ≡ length bs
length_all_stored u [] bs = refl
length_all_stored u (x ∷ xs) bs = length_all_stored u xs (stored u x bs) ∙ length_stored u x bs

-- an object of static storage has the size of its type
pub object_length : (u : UnitView) (o : StaticView) → length (static_instance u o).bytes ≡ size_of_type u.structs u.model.pointer o.ctype
object_length u o =
    length_all_stored u o.stores (all_of (number 0 no_labels) (typed_bytes u o.ctype))
    ∙ length-map (typed_bytes u o.ctype) (holding (number 0 no_labels))
    ∙ length_blank u.model (leaves_of u.structs u.model.pointer o.ctype) 0 (size_of_type u.structs u.model.pointer o.ctype)

pub literal_length : (l : LiteralView) → length (literal_made l).bytes ≡ length l.bytes + 1
literal_length l =
    length-map (characters l.bytes ++ number 0 no_labels ∷ []) character_byte
    ∙ length-append (characters l.bytes) (number 0 no_labels ∷ [])
    ∙ ap (λ n. n + 1) (length-map l.bytes (λ c. number c no_labels))

pub input_length : (u : UnitView) (kind : IntType) (n : ℤ) → length (refilled (typed_bytes u (Int kind)) 0 (scalar_bytes kind.bytes (integer n (input_labels kind)))) ≡ size_of_type u.structs u.model.pointer (Int kind)
input_length u kind n =
    length_refilled (typed_bytes u (Int kind)) 0 (scalar_bytes kind.bytes (integer n (input_labels kind)))
    ∙ length_blank u.model (leaves_of u.structs u.model.pointer (Int kind)) 0 (size_of_type u.structs u.model.pointer (Int kind))
