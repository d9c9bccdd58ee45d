-- What a pointer points to: an element of a row of elements of a type, within its bounds, or one place of a type.
use Rattle.std.specs.Prelude.{◌≡◌, ℕ, ◌+◌, ◌*◌, ◌<◌, ◌≤◌, pos, List, Option, Some, None}
use Rattle.cc_base.specs.declared.int_types.IntType.{IntType}
use Rattle.c_layout.specs.Layout.{size_of_type}
use Rattle.c_layout.specs.StructViews.{StructView}
use Rattle.c_layout.specs.Types.{Ty, Int, Pointer, Array}
use Rattle.cfg.specs.declared.machine_instructions.Scalar as declared
use Rattle.cfg.specs.declared.machine_instructions.Scalar.TheVariants as of
use Rattle.memory_model.specs.Memory.Bytes.{MachinePointer, null, into}
use Rattle.memory_model.specs.Memory.Scalars.{Scalar, integer, pointer}
use Rattle.typed_programs.specs.Types.StandingTypes.{Stands}

pub data Target : Type 0 where
  -- one of so many elements that are the bytes within the bounds, or behind the last one
  Element : (ctype : Ty) → Target
  -- a place that is not moved
  Place : (ctype : Ty) → Target

abbrev pub target_type : Target → Ty
target_type (Element t) = t
target_type (Place t) = t

-- what is known of the value of a temporary: that it is zero or null, a null pointer, or a pointer to a type
pub data Known : Type 0 where
  Zero : Known
  Null : Known
  Pointing : (target : Target) → Known

module _ (structs : List StructView) (pointer_size : ℕ) where
  -- bounds around so many elements that stand in a type, and an offset of one of them or of the end
  pub record IsElement (outer ctype : Ty) (offset lo hi : ℕ) : Type 0 where
    pub count : ℕ
    pub index : ℕ
    pub end : hi ≡ lo + count * size_of_type structs pointer_size ctype
    pub at : offset ≡ lo + index * size_of_type structs pointer_size ctype
    pub within : index ≤ count
    pub elements : (k : ℕ) → k < count → Stands structs pointer_size outer ctype (lo + k * size_of_type structs pointer_size ctype)

  abbrev pub IsIn : Target → Ty → (offset lo hi : ℕ) → Type 0
  IsIn (Element t) outer offset lo hi = IsElement outer t offset lo hi
  -- within the bounds, as an element before the last one's end is
  IsIn (Place t) outer offset lo hi = offset < hi → Stands structs pointer_size outer t offset

  -- by the types of instances; null points to each type
  abbrev pub Points : (ℕ → Option Ty) → Target → MachinePointer → Type 0
  Points types target null = Unit {0}
  Points types target (into i offset lo hi) = (outer : Ty) × (types i ≡ Some outer) × IsIn target outer offset lo hi

  abbrev pub Has : (ℕ → Option Ty) → Known → Scalar → Type 0
  Has types Zero (integer n labels) = n ≡ pos 0
  Has types Zero (pointer p) = p ≡ null
  Has types Null (integer n labels) = ⊥
  Has types Null (pointer p) = p ≡ null
  Has types (Pointing target) (integer n labels) = ⊥
  Has types (Pointing target) (pointer p) = Points types target p

-- ---- what else a pointer points to

-- the elements of an array stand one behind the other; an element is a place
pub data IsUnder : Target → Target → Type 0 where
  is_same : (target : Target) → IsUnder target target
  is_inner : (t : Ty) (n : ℕ) → IsUnder (Element (Array t n)) (Element t)
  is_place : (t : Ty) → IsUnder (Element t) (Place t)
  is_further : (a b c : Target) → IsUnder a b → IsUnder b c → IsUnder a c

abbrev pub IsLess : Known → Known → Type 0
IsLess Zero Zero = Unit {0}
IsLess Null Null = Unit {0}
IsLess Null (Pointing target) = Unit {0}
IsLess (Pointing a) (Pointing b) = IsUnder a b
IsLess k m = ⊥

-- ---- scalars

-- a scalar of the kind, and what is known of its value when it is loaded
pub data IsOfKind : Ty → declared.Scalar → Option Known → Type 0 where
  number_kind : (k : IntType) → 0 < k.bytes → IsOfKind (Int k) (of.Int k) None
  pointer_kind : (t : Ty) → IsOfKind (Pointer t) of.Pointer (Some (Pointing (Element t)))

-- a value may be stored where a scalar stands: each number where a number does
abbrev pub IsStorable : Option Known → Option Known → Type 0
IsStorable None value = Unit {0}
IsStorable (Some k) value = (v : Known) × (value ≡ Some v) × IsLess v k
