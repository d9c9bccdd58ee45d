-- Worked rows of the looks at terms and conditions: those that typing makes pass, and others do not.
use Rattle.std.proofs.Common.{◌≡◌, ℕ, ℤ, pos, negsuc, Bool, true, false, List, [], ◌∷◌, Option, Some, None, refl}
use Rattle.cc_base.specs.declared.diagnostics.Place.{Place}
use Rattle.cc_base.specs.declared.int_types.IntType.{IntType}
use Rattle.c_layout.specs.Types.{Ty, Int, Pointer, Array, Struct, Void}
use Rattle.c_layout.specs.CheckedTrees as tree
use Rattle.c_layout.specs.CheckedTrees.{TermTree, TermTrees, Typed, LvalueTree, Designates}
use Rattle.c_layout.specs.CheckedUnits.{FunctionView, UnitView}
use Rattle.c_layout.specs.declared.data_model.Model.{Model}
use Rattle.c_layout.specs.declared.checked_tree.checked_terms.ConversionKind.TheVariants.{Implicit, Cast}
use Rattle.c_layout.specs.declared.checked_tree.checked_terms.ObjectRef.TheVariants.{Static, Local}
use Rattle.c_layout.specs.declared.checked_tree.checked_terms.StepTime.TheVariants.{Postfix}
use Rattle.c_layout.specs.declared.library_functions.LibFn.TheVariants as library
use Rattle.c_layout.specs.declared.syntax_tree.expressions.BinaryOp.TheVariants as op
use Rattle.c_layout.specs.declared.syntax_tree.expressions.LogicalOp.TheVariants.{And}
use Rattle.c_layout.specs.declared.syntax_tree.expressions.StepOp.TheVariants.{Increment}
use Rattle.source_preservation.specs.Checks.LookedTerms.{exact, is_well_typed_term, is_well_typed_place, is_well_typed_condition}

-- ---- types

abbrev pub lp64 : Model
lp64 = record { short = 2; int = 4; long = 8; long_long = 8; pointer = 8; char_signed = true }

abbrev pub int_kind : IntType
int_kind = record { bytes = 4; signed = true; rank = 3 }

abbrev pub int : Ty
int = Int int_kind

abbrev pub char : Ty
char = Int (record { bytes = 1; signed = true; rank = 1 })

abbrev unsigned : Ty
unsigned = Int (record { bytes = 4; signed = false; rank = 3 })

abbrev long : Ty
long = Int (record { bytes = 8; signed = true; rank = 4 })

abbrev size : Ty
size = Int (record { bytes = 8; signed = false; rank = 4 })

abbrev pub pointer : Ty
pointer = Pointer int

module _ (at : Place) where
  -- ---- terms

  abbrev pub typed : Ty → tree.FormTree → TermTree
  typed t form = Typed at t 0 None form

  abbrev pub number : Ty → ℤ → TermTree
  number t n = Typed at t 0 (Some n) (tree.Number n)

  -- a conversion that no cast writes keeps the constant of its operand
  abbrev implicit : Ty → TermTree → TermTree
  implicit t (Typed place s parens constant form) = Typed at t 0 constant (tree.Convert Implicit (Typed place s parens constant form))

  abbrev pub object : ℕ → Ty → LvalueTree
  object n t = Designates at t 0 (tree.Object (Local n))

  abbrev pub value : ℕ → Ty → TermTree
  value n t = typed t (tree.Load (object n t))

  -- `int x; char c; int *p; unsigned y;`
  abbrev x : TermTree
  x = value 0 int

  abbrev c : TermTree
  c = value 1 char

  abbrev p : TermTree
  p = value 2 pointer

  abbrev y : TermTree
  y = value 3 unsigned

  abbrev null : TermTree
  null = implicit pointer (number int (pos 0))

  abbrev args : List TermTree → TermTrees
  args es = tree.term_trees es

  -- `int f(char c, int *p);` and `void g(void);`
  abbrev f : FunctionView
  f = record { name = []; at = at; returns = int; parameters = 2; locals = record { name = []; at = at; ctype = char } ∷ (record { name = []; at = at; ctype = pointer } ∷ []); scope = []; body = []; labels = 0 }

  abbrev g : FunctionView
  g = record { name = []; at = at; returns = Void; parameters = 0; locals = []; scope = []; body = []; labels = 0 }

  abbrev unit : UnitView
  unit = record { functions = f ∷ (g ∷ []); constants = []; objects = []; structs = []; literals = record { at = at; bytes = [] } ∷ []; entry = 0; model = lp64 }

  abbrev looked : TermTree → Bool
  looked e = is_well_typed_term unit true e

  abbrev decided : TermTree → Bool
  decided e = is_well_typed_condition unit true e

  -- ---- numbers

  -- `1 ? 2 : 1 / 0`, `0 && 1 / 0`, `sizeof(int) - 5`, `1 / 0` and `1 << 31`
  chosen : exact lp64 (typed int (tree.Conditional (number int (pos 1)) (number int (pos 2)) (typed int (tree.Integer op.Divide (number int (pos 1)) (number int (pos 0)))))) ≡ Some (pos 2)
  chosen = refl

  not_come_to : exact lp64 (typed int (tree.Logical And (number int (pos 0)) (typed int (tree.Integer op.Divide (number int (pos 1)) (number int (pos 0)))))) ≡ Some (pos 0)
  not_come_to = refl

  wraps : exact lp64 (typed size (tree.Integer op.Subtract (typed size (tree.SizeofType 4 false)) (implicit size (number int (pos 5))))) ≡ Some (pos 18446744073709551615)
  wraps = refl

  no_quotient : exact lp64 (typed int (tree.Integer op.Divide (number int (pos 1)) (number int (pos 0)))) ≡ None
  no_quotient = refl

  overflows : exact lp64 (typed int (tree.Integer op.ShiftLeft (number int (pos 1)) (number int (pos 31)))) ≡ None
  overflows = refl

  -- 300 is no char
  no_char : looked (number char (pos 300)) ≡ false
  no_char = refl

  -- ---- operators

  -- `c + 1` is computed in int
  sum : looked (typed int (tree.Integer op.Add (implicit int c) (number int (pos 1)))) ≡ true
  sum = refl

  sum_of_types : looked (typed int (tree.Integer op.Add c (number int (pos 1)))) ≡ false
  sum_of_types = refl

  -- the count of a shift has its own type
  shift : looked (typed int (tree.Integer op.ShiftLeft x (number long (pos 1)))) ≡ true
  shift = refl

  -- `p + c`, and no sum of integers
  moved : looked (typed pointer (tree.Shift false 4 p c)) ≡ true
  moved = refl

  not_moved : looked (typed pointer (tree.Shift false 4 x c)) ≡ false
  not_moved = refl

  -- a difference of pointers is no int
  difference : looked (typed long (tree.Difference 4 p p)) ≡ true
  difference = refl

  int_difference : looked (typed int (tree.Difference 4 p p)) ≡ false
  int_difference = refl

  -- `c += 1`, `p += 1` and `c++`
  compound : looked (typed char (tree.Compound op.Add int (object 1 char) (number int (pos 1)))) ≡ true
  compound = refl

  compound_of_types : looked (typed char (tree.Compound op.Add int (object 1 char) (number long (pos 1)))) ≡ false
  compound_of_types = refl

  moved_on : looked (typed pointer (tree.CompoundShift false 4 (object 2 pointer) (number int (pos 1)))) ≡ true
  moved_on = refl

  step : looked (typed char (tree.Step Increment Postfix int (object 1 char))) ≡ true
  step = refl

  -- `x ? p : 0`, and with an int in place of null
  either : looked (typed pointer (tree.Conditional x p null)) ≡ true
  either = refl

  either_of_marks : looked (typed pointer (tree.Conditional x p (number int (pos 0)))) ≡ false
  either_of_marks = refl

  -- only 0 becomes a pointer
  no_null : looked (implicit pointer (number int (pos 1))) ≡ false
  no_null = refl

  -- `(void) 0` has no value
  discarded : is_well_typed_term unit false (typed Void (tree.Discard (number int (pos 0)))) ≡ true
  discarded = refl

  no_value : looked (typed Void (tree.Discard (number int (pos 0)))) ≡ false
  no_value = refl

  -- `*(struct s *) p = *(struct s *) p`, and an object of static storage that is not there
  copied : looked (typed (Struct 0) (tree.Struct (Designates at (Struct 0) 0 (tree.Copied (object 4 (Struct 0)) (Designates at (Struct 0) 0 (tree.Target (typed (Pointer (Struct 0)) (tree.Convert Cast p)))))))) ≡ true
  copied = refl

  no_object : is_well_typed_place unit (Designates at int 0 (tree.Object (Static 0))) ≡ false
  no_object = refl

  -- ---- calls

  called : looked (typed int (tree.Call 0 (args (c ∷ (p ∷ []))) true)) ≡ true
  called = refl

  called_with_int : looked (typed int (tree.Call 0 (args (x ∷ (p ∷ []))) true)) ≡ false
  called_with_int = refl

  called_with_one : looked (typed int (tree.Call 0 (args (c ∷ [])) true)) ≡ false
  called_with_one = refl

  nothing_called : is_well_typed_term unit false (typed Void (tree.Call 1 (args []) false)) ≡ true
  nothing_called = refl

  void_used : looked (typed Void (tree.Call 1 (args []) true)) ≡ false
  void_used = refl

  abbrev text : TermTree
  text = typed (Pointer char) (tree.Decay (Designates at (Array char 1) 0 (tree.Literal 0)))

  -- `printf("", x)`, and without a format
  printed : looked (typed int (tree.Library library.Printf (args (text ∷ (x ∷ []))) None)) ≡ true
  printed = refl

  unformatted : looked (typed int (tree.Library library.Printf (args (x ∷ [])) None)) ≡ false
  unformatted = refl

  -- the length of a text is no int
  length_of : looked (typed size (tree.Library library.Strlen (args (text ∷ [])) None)) ≡ true
  length_of = refl

  int_length : looked (typed int (tree.Library library.Strlen (args (text ∷ [])) None)) ≡ false
  int_length = refl

  -- ---- conditions

  -- `x`, `c`, `p`, `!p`, `p && x`
  alone : decided x ≡ true
  alone = refl

  char_alone : decided c ≡ true
  char_alone = refl

  pointer_alone : decided p ≡ true
  pointer_alone = refl

  not_null : decided (typed int (tree.Not p)) ≡ true
  not_null = refl

  both_hold : decided (typed int (tree.Logical And p x)) ≡ true
  both_hold = refl

  -- `x == 5`, `c == 5`, `y == -1`, `5 < x`, `c == x`
  equal : decided (typed int (tree.Integer op.Equal x (number int (pos 5)))) ≡ true
  equal = refl

  char_equal : decided (typed int (tree.Integer op.Equal (implicit int c) (number int (pos 5)))) ≡ true
  char_equal = refl

  unsigned_equal : decided (typed int (tree.Integer op.Equal y (implicit unsigned (Typed at int 0 (Some (negsuc 0)) (tree.Minus (number int (pos 1))))))) ≡ true
  unsigned_equal = refl

  turned : decided (typed int (tree.Integer op.Less (number int (pos 5)) x)) ≡ true
  turned = refl

  two_objects : decided (typed int (tree.Integer op.Equal (implicit int c) x)) ≡ true
  two_objects = refl

  -- `(c = x) == 5`
  assigned : decided (typed int (tree.Integer op.Equal (implicit int (typed char (tree.Assign (object 1 char) (implicit char x)))) (number int (pos 5)))) ≡ true
  assigned = refl

  -- a constant that is recorded as another number
  other_number : decided (typed int (tree.Integer op.Equal x (Typed at int 0 (Some (pos 6)) (tree.Number (pos 5))))) ≡ false
  other_number = refl

  -- `p == 0`, `p == (void *) 0`, `0 != p`
  is_null : decided (typed int (tree.Compare op.Equal p null)) ≡ true
  is_null = refl

  is_void_null : decided (typed int (tree.Compare op.Equal p (implicit pointer (typed (Pointer Void) (tree.Convert Cast (number int (pos 0))))))) ≡ true
  is_void_null = refl

  null_is_not : decided (typed int (tree.Compare op.NotEqual null p)) ≡ true
  null_is_not = refl
