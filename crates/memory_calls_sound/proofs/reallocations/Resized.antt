-- The bytes of an instance of another size.
use Rattle.std.proofs.Common.{◌≡◌, ℕ, ◌-◌, Some, None, List, length, take, arith, sym, ◌∙◌, inl, inr, ◌⊎◌}
use Rattle.std.specs.Prelude.{slice_get}
use Rattle.std.proofs.lemmas.Bool.{cases_lt}
use Rattle.std.proofs.lemmas.List.{length-take, length-append}
use Rattle.memory_model.specs.Memory.Bytes.{indeterminate, Byte}
use Rattle.memory_model.specs.Effects.AllocationCalls.{untyped, resized}
use Rattle.store_sound.proofs.operations.Slices.{get_take, get_left, get_right}
use Rattle.memory_calls_sound.proofs.allocations.FreshCells.{untyped_long, untyped_byte}

-- an indeterminate byte of no type
abbrev pub blank_byte : Byte
blank_byte = record { content = indeterminate; tag = None }

pub resized_long : (bytes : List Byte) (size : ℕ) → length (resized bytes size) ≡ size
resized_long bytes size =
    let a = length-append (take size bytes) (untyped indeterminate (size - length bytes)) in
    let b = length-take size bytes in
    let c = untyped_long indeterminate (size - length bytes) in
    omega (arith, a, b, c)

pub resized_byte : (bytes : List Byte) (size x : ℕ) (y : Byte) → slice_get (resized bytes size) x ≡ Some y → (slice_get bytes x ≡ Some y) ⊎ (y ≡ blank_byte)
resized_byte bytes size x y e = elim (cases_lt x (length (take size bytes))) [
  | inl h ↦ inl (get_take size bytes x y (sym (get_left (take size bytes) (untyped indeterminate (size - length bytes)) x h) ∙ e)).1
  | inr h ↦ inr (untyped_byte indeterminate (size - length bytes) (x - length (take size bytes)) y (sym (get_right (take size bytes) (untyped indeterminate (size - length bytes)) x (x - length (take size bytes)) (omega (arith, h))) ∙ e))
]
