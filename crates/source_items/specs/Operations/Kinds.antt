-- The kinds of scalars, and of the values that are pending.
use Rattle.std.specs.Prelude.{List, [], ◌∷◌}
use Rattle.c_layout.specs.Types.{Ty}
use Rattle.cfg.specs.declared.machine_instructions.Scalar as declared
use Rattle.cfg.specs.declared.machine_instructions.Scalar.TheVariants as of
use Rattle.lower_templates.specs.Worklist.TermKinds.{scalar_of}
use Rattle.memory_model.specs.Memory.Scalars.{Scalar, integer, pointer}

pub data Kind : Type 0 where
  Number : Kind
  Address : Kind

abbrev pub kind_of : declared.Scalar → Kind
kind_of (of.Int kind) = Number
kind_of of.Pointer = Address

-- the kind of the value of a term of a type; that of a struct is its address
abbrev pub kind_of_type : Ty → Kind
kind_of_type t = kind_of (scalar_of t)

abbrev pub IsOf : Kind → Scalar → Type 0
IsOf Number (integer n labels) = Unit {0}
IsOf Number (pointer p) = ⊥
IsOf Address (integer n labels) = ⊥
IsOf Address (pointer p) = Unit {0}

-- values have kinds, one after the other
abbrev pub AreOf : List Kind → List Scalar → Type 0
AreOf [] [] = Unit {0}
AreOf (k ∷ ks) (v ∷ vs) = IsOf k v × AreOf ks vs
AreOf ks vs = ⊥
