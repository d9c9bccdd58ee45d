-- Terms that call no library function but exit, abort, putchar and those of <ctype.h>, and own functions that pass a test.
use Rattle.std.specs.Prelude.{ℕ, Bool, true, false, ◌&&◌, Option, Some, None}
use Rattle.c_layout.specs.CheckedTrees as tree
use Rattle.c_layout.specs.CheckedTrees.{TermTree, FormTree, TermTrees, Typed, LvalueTree, LvalueFormTree, Designates}
use Rattle.c_layout.specs.declared.library_functions.LibFn.{LibFn}
use Rattle.c_layout.specs.declared.library_functions.LibFn.TheVariants.{Isalpha, Isdigit, Isspace, Isupper, Islower, Isalnum, Toupper, Tolower, Putchar, Exit, Abort}

abbrev pub is_plain_library : LibFn → Bool
is_plain_library Isalpha = true
is_plain_library Isdigit = true
is_plain_library Isspace = true
is_plain_library Isupper = true
is_plain_library Islower = true
is_plain_library Isalnum = true
is_plain_library Toupper = true
is_plain_library Tolower = true
is_plain_library Putchar = true
is_plain_library Exit = true
is_plain_library Abort = true
is_plain_library other = false

abbrev mutual
  pub is_plain_term : (ℕ → Bool) → TermTree → Bool
  is_plain_term calls (Typed at t parens constant form) = is_plain_form calls form

  -- the operand of `sizeof` is not computed
  pub is_plain_form : (ℕ → Bool) → FormTree → Bool
  is_plain_form calls (tree.Number n) = true
  is_plain_form calls (tree.SizeofType n is_pointer) = true
  is_plain_form calls (tree.Sizeof n operand is_pointer) = true
  is_plain_form calls (tree.Load l) = is_plain_place calls l
  is_plain_form calls (tree.AddressOf l) = is_plain_place calls l
  is_plain_form calls (tree.Decay l) = is_plain_place calls l
  is_plain_form calls (tree.Convert kind a) = is_plain_term calls a
  is_plain_form calls (tree.Discard a) = is_plain_term calls a
  is_plain_form calls (tree.Plus a) = is_plain_term calls a
  is_plain_form calls (tree.Minus a) = is_plain_term calls a
  is_plain_form calls (tree.Complement a) = is_plain_term calls a
  is_plain_form calls (tree.Not a) = is_plain_term calls a
  is_plain_form calls (tree.Integer sign a b) = is_plain_term calls a && is_plain_term calls b
  is_plain_form calls (tree.Shift back size a b) = is_plain_term calls a && is_plain_term calls b
  is_plain_form calls (tree.Difference size a b) = is_plain_term calls a && is_plain_term calls b
  is_plain_form calls (tree.Compare sign a b) = is_plain_term calls a && is_plain_term calls b
  is_plain_form calls (tree.Logical sign a b) = is_plain_term calls a && is_plain_term calls b
  is_plain_form calls (tree.Conditional c a b) = is_plain_term calls c && (is_plain_term calls a && is_plain_term calls b)
  is_plain_form calls (tree.Comma a b) = is_plain_term calls a && is_plain_term calls b
  is_plain_form calls (tree.Assign l a) = is_plain_place calls l && is_plain_term calls a
  is_plain_form calls (tree.Compound sign kind l a) = is_plain_place calls l && is_plain_term calls a
  is_plain_form calls (tree.CompoundShift back size l a) = is_plain_place calls l && is_plain_term calls a
  is_plain_form calls (tree.Step sign time kind l) = is_plain_place calls l
  is_plain_form calls (tree.StepPointer sign time size l) = is_plain_place calls l
  is_plain_form calls (tree.Struct l) = is_plain_place calls l
  is_plain_form calls (tree.Call function args is_used) = calls function && are_plain_terms calls args
  is_plain_form calls (tree.Library function args target) = is_plain_library function && are_plain_terms calls args

  pub are_plain_terms : (ℕ → Bool) → TermTrees → Bool
  are_plain_terms calls tree.End = true
  are_plain_terms calls (tree.More e rest) = is_plain_term calls e && are_plain_terms calls rest

  pub is_plain_place : (ℕ → Bool) → LvalueTree → Bool
  is_plain_place calls (Designates at t parens form) = is_plain_designator calls form

  pub is_plain_designator : (ℕ → Bool) → LvalueFormTree → Bool
  is_plain_designator calls (tree.Object o) = true
  is_plain_designator calls (tree.Literal n) = true
  is_plain_designator calls (tree.Target e) = is_plain_term calls e
  is_plain_designator calls (tree.Member outer offset) = is_plain_place calls outer
  is_plain_designator calls (tree.Copied target source) = is_plain_place calls target && is_plain_place calls source
  is_plain_designator calls (tree.Then left right) = is_plain_term calls left && is_plain_place calls right

abbrev pub is_plain_option : (ℕ → Bool) → Option TermTree → Bool
is_plain_option calls None = true
is_plain_option calls (Some e) = is_plain_term calls e
