-- Operators on pointers and on integers of their kinds.
use Rattle.std.proofs.Common.{ℕ, ℤ, Bool, true, false, cond, ◌||◌, not, List, [], ◌∷◌, Option, Some, None, pos}
use Rattle.std.specs.Prelude.{◌+ℤ◌}
use Rattle.cc_base.specs.declared.int_types.IntType.{IntType}
use Rattle.cc_base.specs.declared.integer_operators.IntOp.{IntOp}
use Rattle.cc_base.specs.declared.integer_operators.UnOp.{UnOp}
use Rattle.cc_base.specs.declared.integer_operators.Rel.{Rel}
use Rattle.cc_base.specs.declared.integer_operators.Rel.TheVariants.{Eq, Ne}
use Rattle.cc_base.specs.declared.diagnostics.Rule.{Rule}
use Rattle.cc_base.specs.declared.diagnostics.Rule.TheVariants as rule
use Rattle.cfg.specs.declared.machine_instructions.Scalar.TheVariants as of
use Rattle.memory_model.specs.Memory.Labels.{Labels}
use Rattle.memory_model.specs.Memory.Bytes.{MachinePointer, null, into}
use Rattle.memory_model.specs.Memory.Scalars.{Scalar, integer, pointer}
use Rattle.memory_model.specs.Effects.Worlds.{World, Reply, goes, stops, stopped_by, unless}
use Rattle.memory_model.specs.Effects.Touches.{touched}
use Rattle.memory_model.specs.Effects.PointerEffects.{is_ended, share_instance, at_part, narrow_pointer, narrow, moved_into, moved, shift_pointer, shift, compared, difference, are_equal, equality, pointers_compared, compare}
use Rattle.memory_model.specs.Effects.IntegerEffects.{truth, why_none, computed, binary, unary, compare_numbers, pointer_from, convert}
use Rattle.source_items.specs.Operations.Kinds.{Number, Address, IsOf}
use Rattle.source_items.specs.Operations.GoingReplies.{IfGoes, IsDefined}
use Rattle.source_items.proofs.operations.Replies.{Answers, Any, then_any, either_answers, unless_answers, number_answers, pointer_answers, as_pointer_answers}
use Rattle.source_items.proofs.operations.Accessing.{touched_answers}

-- ---- pointers

pub narrow_answers : (at : Scalar) (offset size : ℕ) (w : World) → IsOf Address at → Answers (IsOf Address) (narrow at offset size w)
narrow_answers at offset size w is = pointer_answers (IsOf Address) at w _ is (λ p. as_pointer_answers (narrow_pointer offset size p w) (then_any Any (touched w (at_part p offset) size false) _ (touched_answers w (at_part p offset) size false) (λ spot w. tt)))

moved_answers : (w : World) (p : MachinePointer) (by : ℤ) → Answers Any (moved w p by)
moved_answers w null by = tt
moved_answers w (into i offset lo hi) by = unless_answers Any w _ rule.Nullref (moved_into w i (pos offset +ℤ by) lo hi) (either_answers Any _ (goes _ w) (stopped_by w rule.Invptr) tt tt)

pub shift_answers : (at by : Scalar) (size : ℕ) (back : Bool) (w : World) → IsOf Address at → IsOf Number by → Answers (IsOf Address) (shift at by size back w)
shift_answers at by size back w to is = pointer_answers (IsOf Address) at w _ to (λ p. number_answers (IsOf Address) by w _ is (λ n l. as_pointer_answers (shift_pointer size back p n l w) (moved_answers _ p _)))

compared_answers : (w : World) (p q : MachinePointer) (r : Reply Scalar) → Answers (IsOf Number) r → Answers (IsOf Number) (compared w p q r)
compared_answers w p q r a =
    let apart : Bool = not (share_instance p q) in
    unless_answers (IsOf Number) w (is_ended w.memory p || is_ended w.memory q) rule.Nullref (unless w apart rule.Ptrobj r) (unless_answers (IsOf Number) w apart rule.Ptrobj r a)

pub difference_answers : (left right : Scalar) (size : ℕ) (w : World) → IsOf Address left → IsOf Address right → Answers (IsOf Number) (difference left right size w)
difference_answers left right size w one other = pointer_answers (IsOf Number) left w _ one (λ p. pointer_answers (IsOf Number) right w _ other (λ q. compared_answers w p q _ tt))

equality_answers : (w : World) (p q : MachinePointer) (result : Bool) → Answers (IsOf Number) (equality w p q result)
equality_answers w p q result = unless_answers (IsOf Number) w (is_ended w.memory p || is_ended w.memory q) rule.Nullref (goes (truth result) w) tt

pointers_answer : (rel : Rel) (p q : MachinePointer) (w : World) → Answers (IsOf Number) (pointers_compared rel p q w)
pointers_answer Eq p q w = equality_answers w p q (are_equal p q)
pointers_answer Ne p q w = equality_answers w p q (not (are_equal p q))
pointers_answer rel p q w = compared_answers w p q _ tt

pub compare_answers : (rel : Rel) (left right : Scalar) (w : World) → IsOf Address left → IsOf Address right → Answers (IsOf Number) (compare rel left right w)
compare_answers rel left right w one other = pointer_answers (IsOf Number) left w _ one (λ p. pointer_answers (IsOf Number) right w _ other (λ q. pointers_answer rel p q w))

-- ---- integers

none_defined : (faults : List Rule) → IsDefined (why_none faults)
none_defined [] = tt
none_defined (r ∷ rs) = tt

computed_answers : (faults : List Rule) (o : Option ℤ) (labels : Labels) (w : World) → Answers (IsOf Number) (computed faults o labels w)
computed_answers faults None labels w = none_defined faults
computed_answers faults (Some n) labels w = tt

pub binary_answers : (sign : IntOp) (kind : IntType) (left right : Scalar) (w : World) → IsOf Number left → IsOf Number right → Answers (IsOf Number) (binary sign kind left right w)
binary_answers sign kind left right w one other = number_answers (IsOf Number) left w _ one (λ a s. number_answers (IsOf Number) right w _ other (λ b t. computed_answers _ _ _ w))

pub unary_answers : (sign : UnOp) (kind : IntType) (operand : Scalar) (w : World) → IsOf Number operand → Answers (IsOf Number) (unary sign kind operand w)
unary_answers sign kind operand w is = number_answers (IsOf Number) operand w _ is (λ a s. computed_answers _ _ _ w)

pub compare_numbers_answers : (rel : Rel) (left right : Scalar) (w : World) → IsOf Number left → IsOf Number right → Answers (IsOf Number) (compare_numbers rel left right w)
compare_numbers_answers rel left right w one other = number_answers (IsOf Number) left w _ one (λ a s. number_answers (IsOf Number) right w _ other (λ b t. tt))

-- ---- conversions

pub convert_answers : (kind : IntType) (v : Scalar) (w : World) → IsOf Number v → Answers (IsOf Number) (convert (of.Int kind) v w)
convert_answers kind v w is = number_answers (IsOf Number) v w _ is (λ n l. tt)

null_goes : (b : Bool) (w : World) (r s : Reply Scalar) → IfGoes (IsOf Address) r → IfGoes (IsOf Address) s → IfGoes (IsOf Address) (cond b r s)
null_goes true w r s one other = one
null_goes false w r s one other = other

pub pointer_goes : (v : Scalar) (w : World) → IfGoes (IsOf Address) (pointer_from v w)
pointer_goes (integer n l) w = null_goes _ w (goes (pointer null) w) (stops _ w) tt tt
pointer_goes (pointer p) w = tt
