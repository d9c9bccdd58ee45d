-- The bytes of memory (6.2.6.1), with the types under which they were written (6.5p6 and p7).
use Rattle.std.specs.Prelude.{ℕ, Option}
use Rattle.c_layout.specs.declared.leaf_lists.Class.{Class}
use Rattle.memory_model.specs.Memory.Labels.{Labels}

-- a null pointer, or an offset into an instance and the bounds within which the pointer may move
pub data MachinePointer : Type 0 where
  null : MachinePointer
  into : (instance offset lo hi : ℕ) → MachinePointer

-- a byte is indeterminate, a number from 0 to 255 with its labels, or a part of a pointer
pub data Content : Type 0 where
  indeterminate : Content
  number : (n : ℕ) (labels : Labels) → Content
  part : (pointer : MachinePointer) (k : ℕ) → Content

-- the k-th byte of a scalar of a class
pub record Tag : Type 0 where
  pub class : Class
  pub at : ℕ

-- a byte of no type has no tag
pub record Byte : Type 0 where
  pub content : Content
  pub tag : Option Tag
