-- The classes of scalars, as instructions and as the store have them.
use Rattle.std.proofs.Common.{◌≡◌, ℕ, zero, suc, true, arith, refl}
use Rattle.std.proofs.lemmas.Bool.{ne_eqb}
use Rattle.cc_base.specs.declared.int_types.IntType.{IntType}
use Rattle.c_layout.specs.Leaves as layout
use Rattle.cfg.specs.declared.machine_instructions.Scalar.TheVariants as of
use Rattle.cfg.specs.declared.machine_instructions.Scalar as declared
use Rattle.transfer_system.specs.Scalars.{class_of_rank, class_of_kind, class_of}
use Rattle.memory_model.specs.Effects.Accesses.{class_in}
use Rattle.store_sound.specs.Operations.Scalars.{signed_in}

by_rank : (bytes rank : ℕ) → class_of_rank rank ≡ layout.class_of (record { bytes = bytes; signed = true; rank = rank })
by_rank bytes zero = refl
by_rank bytes (suc zero) = refl
by_rank bytes (suc (suc zero)) = refl
by_rank bytes (suc (suc (suc zero))) = refl
by_rank bytes (suc (suc (suc (suc zero)))) = refl
by_rank bytes (suc (suc (suc (suc (suc n))))) =
    let r : ℕ = suc (suc (suc (suc (suc n)))) in
    rw (ne_eqb r 1 (λ e. omega (arith, e)), ne_eqb r 2 (λ e. omega (arith, e)), ne_eqb r 3 (λ e. omega (arith, e)), ne_eqb r 4 (λ e. omega (arith, e))) refl

pub class_same : (k : IntType) → class_of_kind k ≡ layout.class_of k
class_same k = by_rank k.bytes k.rank

pub class_pair : (kind : declared.Scalar) → class_of kind ≡ (class_in kind, signed_in kind)
class_pair (of.Int k) = λ i. (class_same k i, k.signed)
class_pair of.Pointer = refl
