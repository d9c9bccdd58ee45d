-- What the operators of terms do to the values that are pending.
use Rattle.std.specs.Prelude.{ℕ, ℤ, Bool, List, ◌∷◌, take, drop, reverse, Option, Some, None}
use Rattle.std.specs.Option.{option_map}
use Rattle.cc_base.specs.declared.integer_operators.IntOp.{IntOp}
use Rattle.cc_base.specs.declared.integer_operators.UnOp.{UnOp}
use Rattle.cc_base.specs.declared.integer_operators.Rel.{Rel}
use Rattle.cc_base.specs.declared.int_types.IntType.{IntType}
use Rattle.c_layout.specs.Types.{Ty}
use Rattle.c_layout.specs.Layout.{size_of_type}
use Rattle.c_layout.specs.Leaves.{leaves_of}
use Rattle.c_layout.specs.CheckedUnits.{UnitView}
use Rattle.c_layout.specs.declared.leaf_lists.Leaf.{Leaf}
use Rattle.c_layout.specs.declared.library_functions.LibFn.{LibFn}
use Rattle.cfg.specs.declared.machine_instructions.Scalar as declared
use Rattle.memory_model.specs.Memory.Labels.{no_labels}
use Rattle.memory_model.specs.Memory.Scalars.{Scalar, integer}
use Rattle.memory_model.specs.Effects.Worlds.{World, Stuck, Reply, goes, stops, behind}
use Rattle.memory_model.specs.Effects.Accesses.{load, store}
use Rattle.memory_model.specs.Effects.StructCopies.{copy_struct}
use Rattle.memory_model.specs.Effects.PointerEffects.{narrow, shift, difference, compare}
use Rattle.memory_model.specs.Effects.IntegerEffects.{plain_one, binary, unary, compare_numbers, negation, convert}
use Rattle.memory_model.specs.Effects.LibraryCalls.{library}

-- which of two operands was computed first; the other one is the newest value
pub data Order : Type 0 where
  LeftFirst : Order
  RightFirst : Order

-- an operation takes the newest values and gives one in their place, unless it says otherwise
pub data Operation : Type 0 where
  -- a number more
  Constant : (value : ℤ) → Operation
  Load : (kind : declared.Scalar) → Operation
  -- the pointer stays, below the newest value or as the newest one, and what it points to is given
  LoadUnder : (kind : declared.Scalar) → Operation
  LoadOver : (kind : declared.Scalar) → Operation
  -- the value that was stored is given, or the one below it
  Store : (kind : declared.Scalar) → Operation
  StoreOver : (kind : declared.Scalar) → Operation
  Copy : (ctype : Ty) → Operation
  Narrow : (offset size : ℕ) → Operation
  -- a pointer is the left operand
  Shift : (order : Order) (size : ℕ) (back : Bool) → Operation
  ShiftByOne : (size : ℕ) (back : Bool) → Operation
  Binary : (order : Order) (sign : IntOp) (kind : IntType) → Operation
  BinaryByOne : (sign : IntOp) (kind : IntType) → Operation
  Unary : (sign : UnOp) (kind : IntType) → Operation
  Compare : (rel : Rel) → Operation
  Not : Operation
  Difference : (size : ℕ) → Operation
  ComparePointers : (rel : Rel) → Operation
  Convert : (kind : declared.Scalar) → Operation
  -- so many arguments are taken, and what the function gives is given
  Library : (function : LibFn) (count : ℕ) (target : Option Ty) → Operation

-- ---- types

abbrev pub size_of : UnitView → Ty → ℕ
size_of u t = size_of_type u.structs u.model.pointer t

abbrev pub leaves : UnitView → Ty → List Leaf
leaves u t = leaves_of u.structs u.model.pointer t

-- ---- the newest values; where they are not there, the run is stuck

abbrev pub pushing : List Scalar → Reply Scalar → Reply (List Scalar)
pushing vs reply = behind reply (λ v w. goes (v ∷ vs) w)

abbrev pub on_one : List Scalar → World → (Scalar → World → Reply Scalar) → Reply (List Scalar)
on_one (a ∷ vs) w effect = pushing vs (effect a w)
on_one vs w effect = stops Stuck w

abbrev pub on_two : Order → List Scalar → World → (Scalar → Scalar → World → Reply Scalar) → Reply (List Scalar)
on_two LeftFirst (b ∷ (a ∷ vs)) w effect = pushing vs (effect a b w)
on_two RightFirst (a ∷ (b ∷ vs)) w effect = pushing vs (effect a b w)
on_two order vs w effect = stops Stuck w

abbrev pub load_over : UnitView → declared.Scalar → List Scalar → World → Reply (List Scalar)
load_over u kind (p ∷ vs) w = pushing (p ∷ vs) (load u.model kind p w)
load_over u kind vs w = stops Stuck w

abbrev pub load_under : UnitView → declared.Scalar → List Scalar → World → Reply (List Scalar)
load_under u kind (r ∷ (p ∷ vs)) w = pushing (r ∷ (p ∷ vs)) (load u.model kind p w)
load_under u kind vs w = stops Stuck w

abbrev pub store_over : UnitView → declared.Scalar → List Scalar → World → Reply (List Scalar)
store_over u kind (v ∷ (old ∷ (p ∷ vs))) w = behind (store u.model kind p v w) (λ _ w. goes (old ∷ vs) w)
store_over u kind vs w = stops Stuck w

-- ---- calls of the library

-- the newest so many values, the oldest of them first
abbrev pub newest : ℕ → List Scalar → List Scalar
newest n vs = reverse (take n vs)

abbrev pub pushing_result : List Scalar → Reply (Option Scalar) → Reply (List Scalar)
pushing_result vs (goes None w) = goes vs w
pushing_result vs (goes (Some v) w) = goes (v ∷ vs) w
pushing_result vs (stops why w) = stops why w

-- the size of what an allocation is for
abbrev pub target_size : UnitView → Option Ty → Option ℕ
target_size u target = option_map (size_of u) target

abbrev pub call_library : UnitView → LibFn → ℕ → Option Ty → List Scalar → World → Reply (List Scalar)
call_library u function n target vs w = pushing_result (drop n vs) (library u.model (target_size u target) function (newest n vs) w)

-- ---- operations

abbrev pub perform : UnitView → Operation → List Scalar → World → Reply (List Scalar)
perform u (Constant n) vs w = goes (integer n no_labels ∷ vs) w
perform u (Load kind) vs w = on_one vs w (load u.model kind)
perform u (LoadUnder kind) vs w = load_under u kind vs w
perform u (LoadOver kind) vs w = load_over u kind vs w
perform u (Store kind) vs w = on_two LeftFirst vs w (store u.model kind)
perform u (StoreOver kind) vs w = store_over u kind vs w
perform u (Copy t) vs w = on_two LeftFirst vs w (copy_struct u.model (leaves u t) (size_of u t))
perform u (Narrow offset size) vs w = on_one vs w (λ p w. narrow p offset size w)
perform u (Shift order size back) vs w = on_two order vs w (λ p n w. shift p n size back w)
perform u (ShiftByOne size back) vs w = on_one vs w (λ p w. shift p plain_one size back w)
perform u (Binary order sign kind) vs w = on_two order vs w (binary sign kind)
perform u (BinaryByOne sign kind) vs w = on_one vs w (λ a w. binary sign kind a plain_one w)
perform u (Unary sign kind) vs w = on_one vs w (unary sign kind)
perform u (Compare rel) vs w = on_two LeftFirst vs w (compare_numbers rel)
perform u Not vs w = on_one vs w negation
perform u (Difference size) vs w = on_two LeftFirst vs w (λ p q w. difference p q size w)
perform u (ComparePointers rel) vs w = on_two LeftFirst vs w (compare rel)
perform u (Convert kind) vs w = on_one vs w (convert kind)
perform u (Library function n target) vs w = call_library u function n target vs w
