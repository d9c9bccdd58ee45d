-- Terms whose local objects live where the terms stand.
use Rattle.std.specs.Prelude.{◌≡◌, true, Option, Some, None}
use Rattle.c_layout.specs.CheckedTrees as tree
use Rattle.c_layout.specs.CheckedTrees.{TermTree, FormTree, TermTrees, LvalueTree, LvalueFormTree, Typed, Designates}
use Rattle.c_layout.specs.declared.checked_tree.checked_terms.ObjectRef.{ObjectRef}
use Rattle.c_layout.specs.declared.checked_tree.checked_terms.ObjectRef.TheVariants.{Static, Local}
use Rattle.source_items.specs.Liveness.Lives.{Lives}

-- objects of static storage live always
abbrev pub IsThere : Lives → ObjectRef → Type 0
IsThere alive (Static n) = Unit {0}
IsThere alive (Local n) = alive n ≡ true

abbrev mutual
  pub ScopedPlace : Lives → LvalueTree → Type 0
  ScopedPlace alive (Designates at t parens form) = ScopedPlaceForm alive form

  pub ScopedPlaceForm : Lives → LvalueFormTree → Type 0
  ScopedPlaceForm alive (tree.Object o) = IsThere alive o
  ScopedPlaceForm alive (tree.Literal n) = Unit {0}
  ScopedPlaceForm alive (tree.Target e) = ScopedTerm alive e
  ScopedPlaceForm alive (tree.Member whole offset) = ScopedPlace alive whole
  ScopedPlaceForm alive (tree.Copied target source) = ScopedPlace alive target × ScopedPlace alive source
  ScopedPlaceForm alive (tree.Then left right) = ScopedTerm alive left × ScopedPlace alive right

  pub ScopedTerm : Lives → TermTree → Type 0
  ScopedTerm alive (Typed at t parens fixed form) = ScopedForm alive form

  -- the operand of `sizeof` is not computed
  pub ScopedForm : Lives → FormTree → Type 0
  ScopedForm alive (tree.Number n) = Unit {0}
  ScopedForm alive (tree.SizeofType n is_pointer) = Unit {0}
  ScopedForm alive (tree.Sizeof n operand is_pointer) = Unit {0}
  ScopedForm alive (tree.Load l) = ScopedPlace alive l
  ScopedForm alive (tree.AddressOf l) = ScopedPlace alive l
  ScopedForm alive (tree.Decay l) = ScopedPlace alive l
  ScopedForm alive (tree.Convert kind a) = ScopedTerm alive a
  ScopedForm alive (tree.Discard a) = ScopedTerm alive a
  ScopedForm alive (tree.Plus a) = ScopedTerm alive a
  ScopedForm alive (tree.Minus a) = ScopedTerm alive a
  ScopedForm alive (tree.Complement a) = ScopedTerm alive a
  ScopedForm alive (tree.Not a) = ScopedTerm alive a
  ScopedForm alive (tree.Integer sign a b) = ScopedTerm alive a × ScopedTerm alive b
  ScopedForm alive (tree.Shift back size a b) = ScopedTerm alive a × ScopedTerm alive b
  ScopedForm alive (tree.Difference size a b) = ScopedTerm alive a × ScopedTerm alive b
  ScopedForm alive (tree.Compare sign a b) = ScopedTerm alive a × ScopedTerm alive b
  ScopedForm alive (tree.Logical sign a b) = ScopedTerm alive a × ScopedTerm alive b
  ScopedForm alive (tree.Conditional c a b) = ScopedTerm alive c × ScopedTerm alive a × ScopedTerm alive b
  ScopedForm alive (tree.Comma a b) = ScopedTerm alive a × ScopedTerm alive b
  ScopedForm alive (tree.Assign l a) = ScopedPlace alive l × ScopedTerm alive a
  ScopedForm alive (tree.Compound sign kind l a) = ScopedPlace alive l × ScopedTerm alive a
  ScopedForm alive (tree.CompoundShift back size l a) = ScopedPlace alive l × ScopedTerm alive a
  ScopedForm alive (tree.Step sign time kind l) = ScopedPlace alive l
  ScopedForm alive (tree.StepPointer sign time size l) = ScopedPlace alive l
  ScopedForm alive (tree.Struct l) = ScopedPlace alive l
  ScopedForm alive (tree.Call function args is_used) = ScopedArguments alive args
  ScopedForm alive (tree.Library function args allocated) = ScopedArguments alive args

  pub ScopedArguments : Lives → TermTrees → Type 0
  ScopedArguments alive tree.End = Unit {0}
  ScopedArguments alive (tree.More e rest) = ScopedTerm alive e × ScopedArguments alive rest

-- a term that may be left out
abbrev pub ScopedIf : Lives → Option TermTree → Type 0
ScopedIf alive None = Unit {0}
ScopedIf alive (Some e) = ScopedTerm alive e
