-- Worked rows: initializers, and where they store.
use Rattle.std.specs.Prelude.{◌≡◌, refl, ℕ, List, [], ◌∷◌, map, true, false, Some, None, Option, Ok, Err}
use Rattle.cc_base.specs.declared.diagnostics.Place.{Place}
use Rattle.c_layout.specs.Models.{lp64}
use Rattle.c_layout.specs.Types as ty
use Rattle.c_layout.specs.Types.{Ty}
use Rattle.c_layout.specs.SyntaxTrees as syntax
use Rattle.c_layout.specs.SyntaxTrees.{Tree}
use Rattle.c_layout.specs.DeclarationTrees as tree
use Rattle.c_layout.specs.DeclarationTrees.{InitializerTree, initializer_trees}
use Rattle.c_layout.specs.CheckedTrees.{StoreTree, StoreValue, StoreCopy, StoreText}
use Rattle.c_types_rules.specs.declared.rules.integer_kinds.Rank.TheVariants as rank
use Rattle.c_types_rules.specs.Rules.IntegerKinds.{kind_of}
use Rattle.c_types_scopes.specs.Refusals.{Ruled, type_fault, undeclared}
use Rattle.c_types_scopes.specs.States.{State, first_state}
use Rattle.c_types_expressions.specs.Expressions.Leaves.{named}
use Rattle.c_types_initializers.specs.Subobjects.{next, passed}
use Rattle.c_types_initializers.specs.ListStores.{sought_within}
use Rattle.c_types_initializers.specs.Initialized.{InitializedView, ByTerm, ByLvalue, ByStores}
use Rattle.c_types_expressions.specs.BracedLists.Initializers.{initializer_of}

abbrev at : ℕ → Place
at column = record { file = 0; line = 1; col = column }

abbrev first : State
first = first_state lp64

abbrev int : Ty
int = ty.Int (kind_of lp64 rank.Int true)

abbrev number : ℕ → ℕ → Tree
number column n = syntax.Number (at column) (record { value = n; negative = false; kind = kind_of lp64 rank.Int true })

abbrev char : Ty
char = ty.Int (kind_of lp64 rank.Char true)

abbrev braces : List InitializerTree → InitializerTree
braces items = tree.Braces (at 9) (initializer_trees items)

abbrev item : ℕ → ℕ → InitializerTree
item column n = tree.Single (number column n)

abbrev offset_of : StoreTree → ℕ
offset_of (StoreValue offset e) = offset
offset_of (StoreCopy offset l) = offset
offset_of (StoreText offset room bytes) = offset

abbrev offsets_of : InitializedView → List ℕ
offsets_of (ByTerm e) = []
offsets_of (ByLvalue l) = []
offsets_of (ByStores stores) = map offset_of stores

-- where an initializer stores, and the type with its length
abbrev made_in : Ruled ((InitializedView × Ty) × State) → Option (List ℕ × Ty)
made_in (Ok p) = Some (offsets_of p.0.0, p.0.1)
made_in (Err f) = None

-- int a[] = {1, 2} has two elements
length_by_list : made_in (initializer_of first (at 7) (ty.Array int 0) (braces (item 10 1 ∷ item 13 2 ∷ []))) ≡ Some (0 ∷ 4 ∷ [], ty.Array int 2)
unfolding next passed sought_within
length_by_list = refl

-- int a[2][2] = {1, 2, {3}}: the braces begin the next row
rows_in_a_list : made_in (initializer_of first (at 7) (ty.Array (ty.Array int 2) 2) (braces (item 10 1 ∷ item 13 2 ∷ braces (item 17 3 ∷ []) ∷ []))) ≡ Some (0 ∷ 4 ∷ 8 ∷ [], ty.Array (ty.Array int 2) 2)
unfolding next passed sought_within
rows_in_a_list = refl

-- char a[] = {"ab"} has its zero
characters : made_in (initializer_of first (at 7) (ty.Array char 0) (braces (tree.Single (syntax.Literal (at 10) (97 ∷ 98 ∷ [])) ∷ []))) ≡ Some (0 ∷ [], ty.Array char 3)
characters = refl

-- int a = {{1}} is refused at the `=`
two_pairs : initializer_of first (at 7) int (braces (braces (item 11 1 ∷ []) ∷ [])) ≡ type_fault (at 7)
two_pairs = refl

-- int a[1] = {1, 2}, too, unless an expression has no type
too_many : initializer_of first (at 7) (ty.Array int 1) (braces (item 10 1 ∷ item 13 2 ∷ [])) ≡ type_fault (at 7)
unfolding next passed sought_within
too_many = refl

unknown_first : initializer_of first (at 7) (ty.Array int 1) (braces (item 10 1 ∷ item 13 2 ∷ tree.Single (syntax.Name (at 16) (120 ∷ [])) ∷ [])) ≡ undeclared (at 16)
unfolding next passed sought_within named
unknown_first = refl
