-- Operators, which keep memory, and the pointers that they give.
use Rattle.std.proofs.Common.{◌≡◌, ◌≤◌, ℕ, ℤ, pos, negsuc, ◌+ℤ◌, unsigned_abs, int_le, Bool, true, false, not, ◌&&◌, ◌||◌, List, Option, Some, None, refl, arith}
use Rattle.std.specs.Prelude.{◌≤ℤ◌}
use Rattle.std.proofs.lemmas.Bool.{and_parts}
use Rattle.std.proofs.lemmas.Int.{ints}
use Rattle.cc_base.specs.declared.int_types.IntType.{IntType}
use Rattle.cc_base.specs.declared.integer_operators.IntOp.{IntOp}
use Rattle.cc_base.specs.declared.integer_operators.UnOp.{UnOp}
use Rattle.cc_base.specs.declared.integer_operators.Rel.{Rel}
use Rattle.cc_base.specs.declared.integer_operators.Rel.TheVariants.{Eq, Ne}
use Rattle.cc_base.specs.declared.diagnostics.Rule.{Rule}
use Rattle.cc_base.specs.declared.diagnostics.Rule.TheVariants as rule
use Rattle.c_layout.specs.declared.data_model.Model.{Model}
use Rattle.memory_model.specs.Memory.Labels.{Labels, is_unlabelled}
use Rattle.memory_model.specs.Memory.Bytes.{MachinePointer, null, into}
use Rattle.memory_model.specs.Memory.Instances.{Memory}
use Rattle.memory_model.specs.Memory.Scalars.{Scalar}
use Rattle.memory_model.specs.Effects.Worlds.{World, Reply, goes, unless, noted, stopped_by}
use Rattle.memory_model.specs.Effects.Operands.{as_pointer}
use Rattle.memory_model.specs.Effects.IntegerEffects.{truth, computed, binary, unary, negation}
use Rattle.memory_model.specs.Effects.LibraryChecks.{most_size}
use Rattle.memory_model.specs.Effects.PointerEffects.{narrowed_by, at_part, narrow_pointer, narrow, distance_of, is_ended, moved_into, moved, shift_pointer, shift, share_instance, compared, difference, equality, pointers_compared, compare}
use Rattle.memory_model.specs.Effects.Touches.{touched}
use Rattle.source_preservation.specs.ValueTyping.Marks.{IsBounded}
use Rattle.source_preservation.specs.Memory.GoingWorlds.{WhenGoing, IsProperScalar, Keeps, Same, Read, Reads}
use Rattle.source_preservation.proofs.memory.Replies.{when_behind, when_where, when_unless, when_number, when_pointer}
use Rattle.source_preservation.proofs.memory.Accessing.{IsTouched, EndsWithin, touched_within, bounded_of}

-- ---- numbers

computed_keeps : (faults : List Rule) (o : Option ℤ) (labels : Labels) (w : World) → Keeps w.memory (computed faults o labels w)
computed_keeps faults None labels w = tt
computed_keeps faults (Some n) labels w = refl

pub binary_keeps : (sign : IntOp) (kind : IntType) (left right : Scalar) (w : World) → Keeps w.memory (binary sign kind left right w)
binary_keeps sign kind left right w = when_number (Same w.memory) left w _ (λ a s _. when_number (Same w.memory) right w _ (λ b t _. computed_keeps _ _ _ w))

pub unary_keeps : (sign : UnOp) (kind : IntType) (operand : Scalar) (w : World) → Keeps w.memory (unary sign kind operand w)
unary_keeps sign kind operand w = when_number (Same w.memory) operand w _ (λ a s _. computed_keeps _ _ _ w)

pub negation_keeps : (v : Scalar) (w : World) → Keeps w.memory (negation v w)
negation_keeps v w = refl

-- ---- two pointers

compared_keeps : {A : Type 0} (w : World) (p q : MachinePointer) (r : Reply A) → Keeps w.memory r → Keeps w.memory (compared w p q r)
compared_keeps {A = A} w p q r h = when_unless {A = A} (Same w.memory) w (is_ended w.memory p || is_ended w.memory q) rule.Nullref (unless w (not (share_instance p q)) rule.Ptrobj r) (when_unless {A = A} (Same w.memory) w (not (share_instance p q)) rule.Ptrobj r h)

equality_keeps : (w : World) (p q : MachinePointer) (b : Bool) → Keeps w.memory (equality w p q b)
equality_keeps w p q b = when_unless {A = Scalar} (Same w.memory) w (is_ended w.memory p || is_ended w.memory q) rule.Nullref (goes (truth b) w) refl

pointers_compared_keeps : (rel : Rel) (p q : MachinePointer) (w : World) → Keeps w.memory (pointers_compared rel p q w)
pointers_compared_keeps Eq p q w = equality_keeps w p q _
pointers_compared_keeps Ne p q w = equality_keeps w p q _
pointers_compared_keeps other p q w = compared_keeps w p q _ refl

pub difference_keeps : (left right : Scalar) (size : ℕ) (w : World) → Keeps w.memory (difference left right size w)
difference_keeps left right size w = when_pointer (Same w.memory) left w _ (λ p _. when_pointer (Same w.memory) right w _ (λ q _. compared_keeps w p q _ refl))

pub compare_keeps : (rel : Rel) (left right : Scalar) (w : World) → Keeps w.memory (compare rel left right w)
compare_keeps rel left right w = when_pointer (Same w.memory) left w _ (λ p _. when_pointer (Same w.memory) right w _ (λ q _. pointers_compared_keeps rel p q w))

-- ---- pointers that are given

module _ (m : Model) where
  -- memory is as before
  abbrev ReadPointer : Memory → MachinePointer → World → Type 0
  ReadPointer before p w = IsBounded m p × (w.memory ≡ before)

  as_scalar : (before : Memory) (r : Reply MachinePointer) → WhenGoing (ReadPointer before) r → Reads m before (as_pointer r)
  as_scalar before r h = when_behind (ReadPointer before) (Read m before) r _ h (λ p w is. is)

  part_ends : (p : MachinePointer) (offset : ℕ) → IsBounded m p → EndsWithin (most_size m) (at_part p offset)
  part_ends null offset is = tt
  part_ends (into i o lo hi) offset is = is.end

  narrowed : (offset size : ℕ) (p : MachinePointer) (w : World) → IsBounded m p → WhenGoing (ReadPointer w.memory) (narrow_pointer offset size p w)
  narrowed offset size p w is = when_behind (IsTouched w.memory (most_size m) size) (ReadPointer w.memory) (touched w (at_part p offset) size false) (narrowed_by size) (touched_within (most_size m) w (at_part p offset) size false (part_ends p offset is)) (λ spot after t. (let h = t.within in record { below = omega (arith, h); end = h }, t.same))

  pub narrow_gives : (at : Scalar) (offset size : ℕ) (w : World) → IsProperScalar m at → Reads m w.memory (narrow at offset size w)
  narrow_gives at offset size w proper = when_pointer (Read m w.memory) at w _ (λ p is. as_scalar w.memory (narrow_pointer offset size p w) (narrowed offset size p w (bounded_of m at p is proper)))

  small_offset : (n : ℤ) (lo hi most : ℕ) → int_le (pos lo) n && int_le n (pos hi) ≡ true → hi ≤ most → unsigned_abs n ≤ most
  small_offset (pos k) lo hi most within small =
      let e = (and_parts (int_le (pos lo) (pos k)) (int_le (pos k) (pos hi)) within).1 in
      let h : pos k ≤ℤ pos hi = grind (arith, ints) in
      omega (arith, ints, h, small)
  small_offset (negsuc k) lo hi most within small =
      let e = (and_parts (int_le (pos lo) (negsuc k)) (int_le (negsuc k) (pos hi)) within).0 in
      let h : pos lo ≤ℤ negsuc k = grind (arith, ints) in
      absurd (omega (arith, ints, h))

  moved_gives : (w : World) (p : MachinePointer) (by : ℤ) → IsBounded m p → WhenGoing (ReadPointer w.memory) (moved w p by)
  moved_gives w null by is = tt
  moved_gives w (into i offset lo hi) by is = when_unless (ReadPointer w.memory) w (is_ended w.memory (into i offset lo hi)) rule.Nullref (moved_into w i (pos offset +ℤ by) lo hi) (when_where (ReadPointer w.memory) (int_le (pos lo) (pos offset +ℤ by) && int_le (pos offset +ℤ by) (pos hi)) (goes (into i (unsigned_abs (pos offset +ℤ by)) lo hi) w) (stopped_by w rule.Invptr) (λ within. (record { below = small_offset (pos offset +ℤ by) lo hi (most_size m) within is.end; end = is.end }, refl)) (λ _. tt))

  pub shift_gives : (at by : Scalar) (size : ℕ) (back : Bool) (w : World) → IsProperScalar m at → Reads m w.memory (shift at by size back w)
  shift_gives at by size back w proper = when_pointer (Read m w.memory) at w _ (λ p is. when_number (Read m w.memory) by w _ (λ n labels _. as_scalar w.memory (shift_pointer size back p n labels w) (moved_gives (noted w (not (is_unlabelled labels)) rule.Taintsink) p (distance_of back n size) (bounded_of m at p is proper))))
