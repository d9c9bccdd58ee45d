-- What an operation does to the kinds of the values that are pending.
use Rattle.std.specs.Prelude.{◌≡◌, ℕ, Bool, true, false, cond, List, [], ◌∷◌, ◌++◌, length, reverse}
use Rattle.c_layout.specs.declared.library_functions.LibFn.{LibFn}
use Rattle.c_layout.specs.declared.library_functions.LibFn.TheVariants as f
use Rattle.cfg.specs.declared.machine_instructions.Scalar as declared
use Rattle.cfg.specs.declared.machine_instructions.Scalar.TheVariants as of
use Rattle.lower_expressions.specs.Calls.{gives}
use Rattle.semantics.specs.SourceMachine.Operations as op
use Rattle.semantics.specs.SourceMachine.Operations.{Operation, Order, LeftFirst, RightFirst}
use Rattle.source_items.specs.Operations.Kinds.{Kind, Number, Address, kind_of}

-- ---- the library

-- the arguments of a function, the first one first; of `printf` any behind the format
abbrev pub Accepts : LibFn → List Kind → Type 0
Accepts f.Malloc ks = ks ≡ Number ∷ []
Accepts f.Calloc ks = ks ≡ Number ∷ (Number ∷ [])
Accepts f.Realloc ks = ks ≡ Address ∷ (Number ∷ [])
Accepts f.Free ks = ks ≡ Address ∷ []
Accepts f.Memcpy ks = ks ≡ Address ∷ (Address ∷ (Number ∷ []))
Accepts f.Memmove ks = ks ≡ Address ∷ (Address ∷ (Number ∷ []))
Accepts f.Memset ks = ks ≡ Address ∷ (Number ∷ (Number ∷ []))
Accepts f.Strlen ks = ks ≡ Address ∷ []
Accepts f.Strcpy ks = ks ≡ Address ∷ (Address ∷ [])
Accepts f.Strncpy ks = ks ≡ Address ∷ (Address ∷ (Number ∷ []))
Accepts f.Strcat ks = ks ≡ Address ∷ (Address ∷ [])
Accepts f.Strcmp ks = ks ≡ Address ∷ (Address ∷ [])
Accepts f.Getchar ks = ks ≡ []
Accepts f.Fgets ks = ks ≡ Address ∷ (Number ∷ (Address ∷ []))
Accepts f.Puts ks = ks ≡ Address ∷ []
Accepts f.Printf ks = (more : List Kind) × (ks ≡ Address ∷ more)
Accepts f.Exit ks = ks ≡ Number ∷ []
Accepts f.Abort ks = ks ≡ []
Accepts character ks = ks ≡ Number ∷ []

abbrev pub result_kind : LibFn → Kind
result_kind f.Malloc = Address
result_kind f.Calloc = Address
result_kind f.Realloc = Address
result_kind f.Memcpy = Address
result_kind f.Memmove = Address
result_kind f.Memset = Address
result_kind f.Strcpy = Address
result_kind f.Strncpy = Address
result_kind f.Strcat = Address
result_kind f.Fgets = Address
result_kind other = Number

abbrev pub with_result : LibFn → List Kind → List Kind
with_result function ks = cond (gives function) (result_kind function ∷ ks) ks

-- so many arguments are taken, of which the newest is the last one
pub record Calls (function : LibFn) (count : ℕ) (before after : List Kind) : Type 0 where
  pub arguments : List Kind
  pub below : List Kind
  pub counted : length arguments ≡ count
  pub accepts : Accepts function arguments
  pub taken : before ≡ reverse arguments ++ below
  pub given : after ≡ with_result function below

-- ---- operations

-- from some kinds, the newest first, to others
abbrev pub Changes : List Kind → List Kind → List Kind → List Kind → Type 0
Changes taken given before after = (below : List Kind) × (before ≡ taken ++ below) × (after ≡ given ++ below)

-- a pointer and a number, of which the left one was computed first or last
abbrev pub pointer_and_number : Order → List Kind
pointer_and_number LeftFirst = Number ∷ (Address ∷ [])
pointer_and_number RightFirst = Address ∷ (Number ∷ [])

-- a pointer is made of one, or of the number 0
abbrev pub convertible : declared.Scalar → Kind → Type 0
convertible (of.Int kind) k = k ≡ Number
convertible of.Pointer k = Unit {0}

abbrev pub Operates : Operation → List Kind → List Kind → Type 0
Operates (op.Constant n) before after = Changes [] (Number ∷ []) before after
Operates (op.Load kind) before after = Changes (Address ∷ []) (kind_of kind ∷ []) before after
Operates (op.LoadUnder kind) before after = (k : Kind) × Changes (k ∷ (Address ∷ [])) (kind_of kind ∷ (k ∷ (Address ∷ []))) before after
Operates (op.LoadOver kind) before after = Changes (Address ∷ []) (kind_of kind ∷ (Address ∷ [])) before after
Operates (op.Store kind) before after = Changes (kind_of kind ∷ (Address ∷ [])) (kind_of kind ∷ []) before after
Operates (op.StoreOver kind) before after = (k : Kind) × Changes (kind_of kind ∷ (k ∷ (Address ∷ []))) (k ∷ []) before after
Operates (op.Copy t) before after = Changes (Address ∷ (Address ∷ [])) (Address ∷ []) before after
Operates (op.Narrow offset size) before after = Changes (Address ∷ []) (Address ∷ []) before after
Operates (op.Shift order size back) before after = Changes (pointer_and_number order) (Address ∷ []) before after
Operates (op.ShiftByOne size back) before after = Changes (Address ∷ []) (Address ∷ []) before after
Operates (op.Binary order sign kind) before after = Changes (Number ∷ (Number ∷ [])) (Number ∷ []) before after
Operates (op.BinaryByOne sign kind) before after = Changes (Number ∷ []) (Number ∷ []) before after
Operates (op.Unary sign kind) before after = Changes (Number ∷ []) (Number ∷ []) before after
Operates (op.Compare rel) before after = Changes (Number ∷ (Number ∷ [])) (Number ∷ []) before after
Operates op.Not before after = (k : Kind) × Changes (k ∷ []) (Number ∷ []) before after
Operates (op.Difference size) before after = Changes (Address ∷ (Address ∷ [])) (Number ∷ []) before after
Operates (op.ComparePointers rel) before after = Changes (Address ∷ (Address ∷ [])) (Number ∷ []) before after
Operates (op.Convert kind) before after = (k : Kind) × convertible kind k × Changes (k ∷ []) (kind_of kind ∷ []) before after
Operates (op.Library function count target) before after = Calls function count before after

-- the one operation that may be stuck on values of such kinds: a number other than 0 becomes no pointer
abbrev pub makes_pointer : Operation → Bool
makes_pointer (op.Convert of.Pointer) = true
makes_pointer operation = false
