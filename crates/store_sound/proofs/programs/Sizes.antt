-- The sizes of scalars in a data model: the tables of a program, of the machine and of the store say the same.
use Rattle.std.proofs.Common.{◌≡◌, ℕ, true, cond, ◌||◌, ◌&&◌, refl, inl, inr}
use Rattle.std.specs.Prelude.{◌==◌}
use Rattle.std.proofs.lemmas.Bool.{cases_Bool, and_parts, eqb-true}
use Rattle.c_layout.specs.declared.data_model.Model.{Model}
use Rattle.c_layout.specs.declared.leaf_lists.Class.{Class}
use Rattle.c_layout.specs.declared.leaf_lists.Class.TheVariants.{Char, Short, Int, Long, LongLong, Pointer}
use Rattle.c_layout.specs.Models.{short_fits, int_fits, long_fits, long_long_fits, pointer_fits, is_model}
use Rattle.cfg.specs.ModelKinds as program
use Rattle.memory_model.specs.Memory.ScalarSizes.{class_bytes}

two_or_four : (n : ℕ) → (n == 2 || n == 4) ≡ true → n ≡ cond (n == 2) 2 4
two_or_four n h = elim (cases_Bool (n == 2)) [
  | inl e ↦ rw e (eqb-true n 2 e)
  | inr e ↦ (let g : (n == 4) ≡ true = rw e at h in rw e (eqb-true n 4 g))
]

four_or_eight : (n : ℕ) → (n == 4 || n == 8) ≡ true → n ≡ cond (n == 4) 4 8
four_or_eight n h = elim (cases_Bool (n == 4)) [
  | inl e ↦ rw e (eqb-true n 4 e)
  | inr e ↦ (let g : (n == 8) ≡ true = rw e at h in rw e (eqb-true n 8 g))
]

-- the numbers of a data model
record HasSizes (m : Model) : Type 0 where
  short : m.short ≡ 2
  int : m.int ≡ cond (m.int == 2) 2 4
  long : m.long ≡ cond (m.long == 4) 4 8
  long_long : m.long_long ≡ 8
  pointer : m.pointer ≡ cond (m.pointer == 4) 4 8

has_sizes : (m : Model) → is_model m ≡ true → HasSizes m
has_sizes m h =
    let a = and_parts (short_fits m.short) (int_fits m.int && (long_fits m.long && (long_long_fits m.long_long && pointer_fits m.int m.long m.long_long m.pointer))) h in
    let b = and_parts (int_fits m.int) (long_fits m.long && (long_long_fits m.long_long && pointer_fits m.int m.long m.long_long m.pointer)) a.1 in
    let c = and_parts (long_fits m.long) (long_long_fits m.long_long && pointer_fits m.int m.long m.long_long m.pointer) b.1 in
    let d = and_parts (long_long_fits m.long_long) (pointer_fits m.int m.long m.long_long m.pointer) c.1 in
    let e = and_parts (m.pointer == 4 || m.pointer == 8) ((m.pointer == m.int || m.pointer == m.long) || m.pointer == m.long_long) d.1 in
    record { short = eqb-true m.short 2 a.0; int = two_or_four m.int b.0; long = four_or_eight m.long c.0; long_long = eqb-true m.long_long 8 d.0; pointer = four_or_eight m.pointer e.0 }

by_class : (m : Model) → HasSizes m → (c : Class) → program.class_bytes m c ≡ class_bytes m c
by_class m s Char = refl
by_class m s Short = s.short
by_class m s Int = s.int
by_class m s Long = s.long
by_class m s LongLong = s.long_long
by_class m s Pointer = s.pointer

pub same_bytes : (m : Model) (c : Class) → is_model m ≡ true → program.class_bytes m c ≡ class_bytes m c
same_bytes m c h = by_class m (has_sizes m h) c
