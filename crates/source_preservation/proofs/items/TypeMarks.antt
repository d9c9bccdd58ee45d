-- Marks of types: they hold whatever becomes of memory and whatever is named, and say which types are those of pointers.
use Rattle.std.proofs.Common.{◌≡◌, pos, true, inr, refl}
use Rattle.cc_base.specs.declared.int_types.IntType.{IntType}
use Rattle.c_layout.specs.Types.{Ty, Int}
use Rattle.c_layout.specs.declared.data_model.Model.{Model}
use Rattle.lower_templates.specs.Worklist.TermKinds.{scalar_of}
use Rattle.cfg.specs.declared.machine_instructions.Scalar as declared
use Rattle.cfg.specs.declared.machine_instructions.Scalar.TheVariants as of
use Rattle.semantics.specs.SourceMachine.Operations.{LeftFirst}
use Rattle.semantics.specs.SourceMachine.TermItems.{order_of}
use Rattle.source_preservation.specs.ValueTyping.Marks.{Ranged, Exactly, Pointing, mark_of, mark_of_type, is_stable, is_free}
use Rattle.source_preservation.specs.ValueTyping.MarkOperations.{ConvertsTo}

no_pointer : (kind : IntType) → Ranged kind ≡ Pointing → ⊥
no_pointer kind e = cc

-- ---- what holds at any time

pub stable_scalar : (s : declared.Scalar) → is_stable (mark_of s) ≡ true
stable_scalar (of.Int kind) = refl
stable_scalar of.Pointer = refl

pub free_scalar : (s : declared.Scalar) → is_free (mark_of s) ≡ true
free_scalar (of.Int kind) = refl
free_scalar of.Pointer = refl

pub stable_type : (t : Ty) → is_stable (mark_of_type t) ≡ true
stable_type t = stable_scalar (scalar_of t)

pub free_type : (t : Ty) → is_free (mark_of_type t) ≡ true
free_type t = free_scalar (scalar_of t)

-- ---- pointers

-- 0 becomes a pointer
pub zero_converts : (m : Model) (s : declared.Scalar) → mark_of s ≡ Pointing → ConvertsTo m s (Exactly (pos 0)) (mark_of s)
zero_converts m (of.Int kind) is = absurd (no_pointer kind is)
zero_converts m of.Pointer is = (refl, inr refl)

-- a sum whose left operand is a pointer computes it first
pub pointer_order : (t : Ty) → mark_of_type t ≡ Pointing → order_of t ≡ LeftFirst
pointer_order (Int kind) is = absurd (no_pointer kind is)
pointer_order other is = refl
