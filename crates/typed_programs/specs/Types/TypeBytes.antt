-- To which part of a type each of its bytes belongs, by elements and members: to a scalar, or to a structure of a kind.
use Rattle.std.specs.Prelude.{ℕ, zero, suc, ◌-◌, ◌==◌, ◌&&◌, cond, nat_lt, nat_le, List, [], ◌∷◌, Option, Some, None, length}
use Rattle.std.specs.Option.{option_or}
use Rattle.c_layout.specs.Layout.{size_of_type}
use Rattle.c_layout.specs.StructViews.{FieldView, StructView, struct_at}
use Rattle.c_layout.specs.Types.{Ty, Int, Pointer, Array, Struct, Void}

-- what stands behind an offset
abbrev pub behind : {A : Type 0} → ℕ → (ℕ → Option A) → ℕ → Option A
behind offset bytes x = cond (nat_le offset x) (bytes (x - offset)) None

-- so many elements of a size
abbrev pub repeated_bytes : {A : Type 0} → ℕ → ℕ → (ℕ → Option A) → ℕ → Option A
repeated_bytes zero size bytes x = None
repeated_bytes (suc n) size bytes x = option_or (bytes x) (behind size (repeated_bytes n size bytes) x)

-- members, each at its offset
abbrev pub member_bytes : {A : Type 0} → (Ty → ℕ → Option A) → List FieldView → ℕ → Option A
member_bytes bytes [] x = None
member_bytes bytes (f ∷ fs) x = option_or (behind f.offset (bytes f.ctype) x) (member_bytes bytes fs x)

-- `own` says of a scalar or a structure what its own bytes are; where it says nothing, members do
module _ {A : Type 0} (structs : List StructView) (pointer_size : ℕ) (own : Ty → ℕ → Option A) where
  -- the bytes of a type, by those of structures
  abbrev pub bytes_with : (ℕ → ℕ → Option A) → Ty → ℕ → Option A
  bytes_with struct (Int k) x = own (Int k) x
  bytes_with struct (Pointer t) x = own (Pointer t) x
  bytes_with struct (Array t n) x = repeated_bytes n (size_of_type structs pointer_size t) (bytes_with struct t) x
  bytes_with struct (Struct i) x = struct i x
  bytes_with struct Void x = None

  -- the bytes of a structure, through structures that nest at most so deep
  abbrev pub struct_bytes : ℕ → ℕ → ℕ → Option A
  struct_bytes zero i x = None
  struct_bytes (suc depth) i x = option_or (own (Struct i) x) (member_bytes (bytes_with (struct_bytes depth)) (struct_at structs i).fields x)

  abbrev pub type_bytes : Ty → ℕ → Option A
  type_bytes t x = bytes_with (struct_bytes (length structs)) t x

-- ---- scalars

-- a byte of a scalar type
pub record ScalarByte : Type 0 where
  pub ctype : Ty
  pub at : ℕ

module _ (structs : List StructView) (pointer_size : ℕ) where
  abbrev pub own_scalar : Ty → ℕ → Option ScalarByte
  own_scalar (Int k) x = cond (nat_lt x k.bytes) (Some (record { ctype = Int k; at = x })) None
  own_scalar (Pointer t) x = cond (nat_lt x pointer_size) (Some (record { ctype = Pointer t; at = x })) None
  own_scalar (Array t n) x = None
  own_scalar (Struct i) x = None
  own_scalar Void x = None

  -- which byte of which scalar it is; none in padding
  unfoldable pub scalar_byte : Ty → ℕ → Option ScalarByte
  scalar_byte t x = type_bytes structs pointer_size own_scalar t x

  -- ---- structures of a kind

  abbrev pub own_struct : ℕ → Ty → ℕ → Option ℕ
  own_struct index (Int k) x = None
  own_struct index (Pointer t) x = None
  own_struct index (Array t n) x = None
  own_struct index (Struct i) x = cond ((i == index) && nat_lt x (struct_at structs i).size) (Some x) None
  own_struct index Void x = None

  -- which byte of a structure of that number it is, padding too
  unfoldable pub struct_byte : ℕ → Ty → ℕ → Option ℕ
  struct_byte index t x = type_bytes structs pointer_size (own_struct index) t x
