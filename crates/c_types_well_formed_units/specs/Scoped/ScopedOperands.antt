-- Operands and initializers that name what lives.
use Rattle.std.specs.Prelude.{◌≡◌, ℕ, true, List}
use Rattle.std.specs.List.{list_all}
use Rattle.c_layout.specs.Types.{Ty}
use Rattle.c_layout.specs.CheckedTrees.{TermTree, LvalueTree}
use Rattle.c_types_operands.specs.Operands.{OperandForm, AsValue, AsLvalue, OperandView}
use Rattle.c_types_initializers.specs.Initialized.{InitializedView, ByTerm, ByLvalue, ByStores}
use Rattle.source_preservation.specs.UnitChecks.LookedScopes.{is_scoped_term, is_scoped_place, is_scoped_store}

abbrev pub ScopedTerm : List ℕ → TermTree → Type 0
ScopedTerm alive e = is_scoped_term alive e ≡ true

abbrev pub ScopedPlace : List ℕ → LvalueTree → Type 0
ScopedPlace alive l = is_scoped_place alive l ≡ true

abbrev pub ScopedForm : List ℕ → OperandForm → Type 0
ScopedForm alive (AsValue e) = ScopedTerm alive e
ScopedForm alive (AsLvalue l) = ScopedPlace alive l

-- an operand names what lives
abbrev pub Scoped : List ℕ → OperandView → Type 0
Scoped alive o = ScopedForm alive o.form

-- what an initializer does names what lives
abbrev pub ScopedInitial : List ℕ → InitializedView → Type 0
ScopedInitial alive (ByTerm e) = ScopedTerm alive e
ScopedInitial alive (ByLvalue l) = ScopedPlace alive l
ScopedInitial alive (ByStores xs) = list_all (is_scoped_store alive) xs ≡ true

abbrev pub ScopedMade : List ℕ → InitializedView × Ty → Type 0
ScopedMade alive m = ScopedInitial alive m.0
