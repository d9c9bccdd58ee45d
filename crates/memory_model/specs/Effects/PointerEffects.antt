-- Operators on pointers (6.3.2.1p3, 6.5.2.3, 6.5.6, 6.5.8, 6.5.9).
use Rattle.std.specs.Prelude.{ℕ, ◌+◌, ℤ, pos, neg_ℤ, ◌+ℤ◌, ◌-ℤ◌, ◌*ℤ◌, unsigned_abs, int_div, int_le, Bool, true, false, not, cond, ◌&&◌, ◌||◌, ◌==◌}
use Rattle.cc_base.specs.MachineArithmetic.{holds}
use Rattle.cc_base.specs.declared.integer_operators.Rel.{Rel}
use Rattle.cc_base.specs.declared.integer_operators.Rel.TheVariants.{Eq, Ne}
use Rattle.cc_base.specs.declared.diagnostics.Rule.TheVariants as rule
use Rattle.memory_model.specs.Memory.Labels.{Labels}
use Rattle.memory_model.specs.Memory.Labels.{no_labels, is_unlabelled}
use Rattle.memory_model.specs.Memory.Bytes.{MachinePointer, null, into}
use Rattle.memory_model.specs.Memory.Instances.{Memory, Life, ended, life_at}
use Rattle.memory_model.specs.Memory.Scalars.{Scalar, integer, is_null}
use Rattle.memory_model.specs.Effects.Worlds.{World, Reply, goes, behind, noted, unless, stopped_by}
use Rattle.memory_model.specs.Effects.Operands.{with_number, with_pointer, as_pointer}
use Rattle.memory_model.specs.Effects.IntegerEffects.{truth}
use Rattle.memory_model.specs.Effects.Touches.{Spot, touched}

abbrev pub is_ended_life : Life → Bool
is_ended_life ended = true
is_ended_life _ = false

-- whether the object that a pointer points to has ended
abbrev pub is_ended : Memory → MachinePointer → Bool
is_ended memory null = false
is_ended memory (into i offset lo hi) = is_ended_life (life_at memory i)

-- ---- narrowing: a member, or an array as a pointer to its first element

abbrev pub narrowed_by : ℕ → Spot → World → Reply MachinePointer
narrowed_by size spot w = goes (into spot.instance spot.offset spot.offset (spot.offset + size)) w

-- the pointer moved to a part
abbrev pub at_part : MachinePointer → ℕ → MachinePointer
at_part null offset = null
at_part (into i o lo hi) offset = into i (o + offset) lo hi

-- so many bytes at an offset of what a pointer points to
abbrev pub narrow_pointer : ℕ → ℕ → MachinePointer → World → Reply MachinePointer
narrow_pointer offset size p w = behind (touched w (at_part p offset) size false) (narrowed_by size)

abbrev pub narrow : Scalar → ℕ → ℕ → World → Reply Scalar
narrow at offset size w = with_pointer at w (λ p w. as_pointer (narrow_pointer offset size p w))

-- ---- arithmetic

abbrev pub distance_of : Bool → ℤ → ℕ → ℤ
distance_of back n size = cond back (neg_ℤ (n *ℤ pos size)) (n *ℤ pos size)

abbrev pub moved_into : World → ℕ → ℤ → ℕ → ℕ → Reply MachinePointer
moved_into w i offset lo hi = cond (int_le (pos lo) offset && int_le offset (pos hi)) (goes (into i (unsigned_abs offset) lo hi) w) (stopped_by w rule.Invptr)

abbrev pub moved : World → MachinePointer → ℤ → Reply MachinePointer
moved w null by = stopped_by w rule.Nullref
moved w (into i offset lo hi) by = unless w (is_ended w.memory (into i offset lo hi)) rule.Nullref (moved_into w i (pos offset +ℤ by) lo hi)

-- a pointer is moved by so many elements of a size, backwards or not
abbrev pub shift_pointer : ℕ → Bool → MachinePointer → ℤ → Labels → World → Reply MachinePointer
shift_pointer size back p n labels w = moved (noted w (not (is_unlabelled labels)) rule.Taintsink) p (distance_of back n size)

abbrev pub shift : Scalar → Scalar → ℕ → Bool → World → Reply Scalar
shift at by size back w = with_pointer at w (λ p w. with_number by w (λ n labels w. as_pointer (shift_pointer size back p n labels w)))

-- ---- two pointers

abbrev pub offset_of : MachinePointer → ℕ
offset_of null = 0
offset_of (into i offset lo hi) = offset

abbrev pub is_into : ℕ → MachinePointer → Bool
is_into i null = false
is_into i (into j offset lo hi) = i == j

-- both point into one instance
abbrev pub share_instance : MachinePointer → MachinePointer → Bool
share_instance null q = false
share_instance (into i offset lo hi) q = is_into i q

-- neither points to an object that has ended, and both into one instance
abbrev pub compared : {A : Type 0} → World → MachinePointer → MachinePointer → Reply A → Reply A
compared w p q reply = unless w (is_ended w.memory p || is_ended w.memory q) rule.Nullref (unless w (not (share_instance p q)) rule.Ptrobj reply)

abbrev pub elements_between : MachinePointer → MachinePointer → ℕ → ℤ
elements_between p q size = int_div (pos (offset_of p) -ℤ pos (offset_of q)) (pos size)

abbrev pub pointer_difference : ℕ → MachinePointer → MachinePointer → World → Reply Scalar
pointer_difference size p q w = compared w p q (goes (integer (elements_between p q size) no_labels) w)

abbrev pub difference : Scalar → Scalar → ℕ → World → Reply Scalar
difference left right size w = with_pointer left w (λ p w. with_pointer right w (pointer_difference size p))

abbrev pub are_equal : MachinePointer → MachinePointer → Bool
are_equal null q = is_null q
are_equal (into i offset lo hi) q = is_into i q && (offset == offset_of q)

-- equality asks alone that neither has ended
abbrev pub equality : World → MachinePointer → MachinePointer → Bool → Reply Scalar
equality w p q result = unless w (is_ended w.memory p || is_ended w.memory q) rule.Nullref (goes (truth result) w)

abbrev pub ordered : Rel → MachinePointer → MachinePointer → World → Reply Scalar
ordered rel p q w = compared w p q (goes (truth (holds rel (pos (offset_of p)) (pos (offset_of q)))) w)

abbrev pub pointers_compared : Rel → MachinePointer → MachinePointer → World → Reply Scalar
pointers_compared Eq p q w = equality w p q (are_equal p q)
pointers_compared Ne p q w = equality w p q (not (are_equal p q))
pointers_compared rel p q w = ordered rel p q w

abbrev pub compare : Rel → Scalar → Scalar → World → Reply Scalar
compare rel left right w = with_pointer left w (λ p w. with_pointer right w (pointers_compared rel p))
