-- Products of unsigned numbers.
use Rattle.std.proofs.Common.{◌≡◌, ℕ, ◌*◌, ◌+◌, ◌-◌, ◌^◌, ◌%◌, ◌<◌, nat_le, nat_lt, ℤ, pos, negsuc, ◌+ℤ◌, ◌-ℤ◌, ◌*ℤ◌, Bool, true, false, not, ◌&&◌, cond, List, [], Some, refl, sym, ap, ◌∙◌, arith}
use Rattle.std.specs.Int.{int_rem_euclid}
use Rattle.std.specs.Prelude.{int_le}
use Rattle.std.proofs.lemmas.Int.{int_rem_euclid_is}
use Rattle.std.proofs.lemmas.Nat.{pow_pos}
use Rattle.std.proofs.lemmas.Bool.Decides.{nat_tests}
use Rattle.cc_base.specs.IntegerTypes.{modulus, least_of, greatest_of, in_type, wrap_into}
use Rattle.cc_base.specs.MachineArithmetic as math
use Rattle.cc_base.specs.declared.int_types.IntType.{IntType}
use Rattle.cc_base.specs.declared.integer_operators.IntOp.TheVariants.{Mul}
use Rattle.cc_base.specs.declared.diagnostics.Rule.TheVariants.{Intoflow}
use Rattle.memory_model.specs.Memory.Labels.{Labels, operated_labels}
use Rattle.memory_model.specs.Memory.Scalars.{Scalar}
use Rattle.memory_model.specs.Effects.Worlds.{World}
use Rattle.memory_model.specs.Effects.IntegerEffects.{is_outside, fault_if, computed, binary_numbers}

pub wrapped_unsigned : (kind : IntType) (n : ℕ) → kind.signed ≡ false → wrap_into kind (pos n) ≡ pos (n % modulus kind)
wrapped_unsigned kind n e =
    ap (λ g. cond g (negsuc (2 ^ (8 * kind.bytes - 1) - 1)) (pos 0) +ℤ int_rem_euclid (pos n -ℤ cond g (negsuc (2 ^ (8 * kind.bytes - 1) - 1)) (pos 0)) (pos (modulus kind))) e
    ∙ ap (λ z. pos 0 +ℤ z) (int_rem_euclid_is (pos n -ℤ pos 0) (pos (modulus kind)) (modulus kind) 0 n (pow_pos (8 * kind.bytes)) refl (grind arith))
    ∙ grind arith

not_le : (n g : ℕ) → not (nat_le 0 n && nat_le n g) ≡ nat_lt g n
not_le n g = grind (arith, nat_tests)

pub beyond_unsigned : (kind : IntType) (n : ℕ) → kind.signed ≡ false → is_outside kind (Some (pos n)) ≡ nat_lt (2 ^ (8 * kind.bytes) - 1) n
beyond_unsigned kind n e =
    ap (λ g. not (int_le (cond g (negsuc (2 ^ (8 * kind.bytes - 1) - 1)) (pos 0)) (pos n) && int_le (pos n) (cond g (pos (2 ^ (8 * kind.bytes - 1) - 1)) (pos (2 ^ (8 * kind.bytes) - 1))))) e
    ∙ not_le n (2 ^ (8 * kind.bytes) - 1)

pub product_reply : (kind : IntType) (x y n : ℕ) (s t : Labels) (w : World) → kind.signed ≡ false → n ≡ x * y → binary_numbers Mul kind (pos x) s (pos y) t w ≡ computed [] (Some (wrap_into kind (pos n))) (operated_labels Mul s t kind (is_outside kind (Some (pos n)))) w
product_reply kind x y n s t w e product =
    ap (λ m. computed (fault_if (kind.signed && is_outside kind (Some (pos m))) Intoflow) (math.result_of kind (pos m)) (operated_labels Mul s t kind (is_outside kind (Some (pos m)))) w) (sym product)
    ∙ ap (λ g. computed (fault_if (g && is_outside kind (Some (pos n))) Intoflow) (cond g (math.in_or_stop kind (pos n)) (Some (wrap_into kind (pos n)))) (operated_labels Mul s t kind (is_outside kind (Some (pos n)))) w) e
