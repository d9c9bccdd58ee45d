-- The scalar types of a model are those of its classes.
use Rattle.std.proofs.Common.{◌≡◌, ℤ, List, ℕ, zero, suc, ◌≤◌, Bool, true, refl, sym, ap, arith}
use Rattle.std.proofs.lemmas.Bool.Decides.{nat_tests}
use Rattle.cc_base.specs.declared.diagnostics.Rule.{Rule}
use Rattle.cc_base.specs.declared.int_types.IntType.{IntType}
use Rattle.c_layout.specs.declared.data_model.Model.{Model}
use Rattle.c_layout.specs.Leaves.{class_of}
use Rattle.cfg.specs.declared.machine_instructions.Scalar as declared
use Rattle.cfg.specs.declared.machine_instructions.Scalar.TheVariants as of
use Rattle.memory_model.specs.Memory.ScalarSizes.{class_bytes}
use Rattle.memory_model.specs.Effects.Accesses.{class_in}
use Rattle.memory_model.specs.Memory.Scalars.{Scalar}
use Rattle.interp_memory.specs.InstanceViews.{Instances}
use Rattle.interp_memory.specs.AccessOutcomes.{scalar_kind, integer_kind, halted, stored_reply, IsHalt}
use Rattle.interp_memory.specs.declared.byte_forms.Stored.{Stored}
use Rattle.interp_memory.specs.declared.byte_forms.Stored.TheVariants as stored
use Rattle.interp_accesses.specs.ScalarKinds.{sign_of, is_model_integer, is_model_scalar}

abbrev kind_of : ℕ → Bool → ℕ → IntType
kind_of bytes signed rank = record { bytes = bytes; signed = signed; rank = rank }

with_size : (n bytes : ℕ) (signed : Bool) (rank : ℕ) → bytes ≡ n → integer_kind n signed rank ≡ of.Int (kind_of bytes signed rank)
with_size n bytes signed rank e = ap (λ k. of.Int (kind_of k signed rank)) (sym e)

by_rank : (m : Model) (bytes : ℕ) (signed : Bool) (rank : ℕ) → 1 ≤ rank → rank ≤ 5 → bytes ≡ class_bytes m (class_of (kind_of bytes signed rank)) → scalar_kind m (class_of (kind_of bytes signed rank)) signed ≡ of.Int (kind_of bytes signed rank)
by_rank m bytes signed zero least most e = absurd (omega arith)
by_rank m bytes signed (suc zero) least most e = with_size _ bytes signed 1 e
by_rank m bytes signed (suc (suc zero)) least most e = with_size _ bytes signed 2 e
by_rank m bytes signed (suc (suc (suc zero))) least most e = with_size _ bytes signed 3 e
by_rank m bytes signed (suc (suc (suc (suc zero)))) least most e = with_size _ bytes signed 4 e
by_rank m bytes signed (suc (suc (suc (suc (suc zero))))) least most e = with_size _ bytes signed 5 e
by_rank m bytes signed (suc (suc (suc (suc (suc (suc n)))))) least most e = absurd (omega arith)

least_rank : (m : Model) (k : IntType) → is_model_integer m k ≡ true → 1 ≤ k.rank
least_rank m k h = grind (arith, nat_tests)

most_rank : (m : Model) (k : IntType) → is_model_integer m k ≡ true → k.rank ≤ 5
most_rank m k h = grind (arith, nat_tests)

own_size : (m : Model) (k : IntType) → is_model_integer m k ≡ true → k.bytes ≡ class_bytes m (class_of k)
own_size m k h = grind (arith, nat_tests)

pub of_model : (m : Model) (kind : declared.Scalar) → is_model_scalar m kind ≡ true → scalar_kind m (class_in kind) (sign_of kind) ≡ kind
of_model m (of.Int k) h = by_rank m k.bytes k.signed k.rank (least_rank m k h) (most_rank m k h) (own_size m k h)
of_model m of.Pointer h = refl

-- ---- the memory behind a store

pub stored_behind : (s : Stored) (v : Scalar) (before after : Instances) (draws : List ℤ) (violated : List Rule) → (IsHalt s → after ≡ before) → stored_reply s v after.memory (record { memory = before.memory; draws = draws; violated = violated }) ≡ stored_reply s v after.memory (record { memory = after.memory; draws = draws; violated = violated })
stored_behind stored.Done v before after draws violated same = refl
stored_behind (stored.Halt why) v before after draws violated same = ap (λ (it : Instances). halted why (record { memory = it.memory; draws = draws; violated = violated })) (sym (same tt))
