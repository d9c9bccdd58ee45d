-- Worked rows: declarators and structs, and what they are.
use Rattle.std.specs.Prelude.{◌≡◌, refl, ℕ, ◌+◌, List, [], ◌∷◌, map, true, false, Some, None, Option, Ok, Err}
use Rattle.cc_base.specs.declared.diagnostics.Place.{Place}
use Rattle.c_layout.specs.Models.{lp64}
use Rattle.c_layout.specs.Types as ty
use Rattle.c_layout.specs.Types.{Ty}
use Rattle.c_layout.specs.SyntaxTrees as syntax
use Rattle.c_layout.specs.SyntaxTrees.{Tree}
use Rattle.c_layout.specs.DeclarationTrees as tree
use Rattle.c_layout.specs.DeclarationTrees.{NameView, SuffixView, DeclaratorLayerView, DeclaratorView, SpecTree, MemberTree, spec_trees, member_trees}
use Rattle.c_layout.specs.StructViews.{StructView}
use Rattle.c_layout.specs.declared.syntax_tree.declarations.TypeWord.TheVariants as word
use Rattle.c_types_rules.specs.declared.rules.integer_kinds.Rank.TheVariants as rank
use Rattle.c_types_rules.specs.Rules.IntegerKinds.{kind_of}
use Rattle.c_types_scopes.specs.DeclaredTypes.{DeclaredView, plain}
use Rattle.c_types_scopes.specs.Refusals.{Ruled, constant_needed}
use Rattle.c_types_scopes.specs.ScopeTables.{newest_from}
use Rattle.c_types_scopes.specs.States.{State, first_state}
use Rattle.c_types_scopes.specs.TypeSteps.{stepped}
use Rattle.c_types_declarations.specs.Declarators.{declared_type}
use Rattle.c_types_declarations.specs.Specifiers.{SpecifiedView}
use Rattle.c_types_declarations.specs.SpecifierTrees.{specifiers}

abbrev at : ℕ → Place
at column = record { file = 0; line = 1; col = column }

abbrev first : State
first = first_state lp64

abbrev int : Ty
int = ty.Int (kind_of lp64 rank.Int true)

abbrev number : ℕ → ℕ → Tree
number column n = syntax.Number (at column) (record { value = n; negative = false; kind = kind_of lp64 rank.Int true })

abbrev brackets : ℕ → ℕ → SuffixView
brackets column n = record { at = at column; length = Some (number (column + 1) n) }

abbrev layer : List ℕ → List SuffixView → DeclaratorLayerView
layer stars arrays = record { stars = stars; arrays = arrays }

abbrev type_in : Ruled (DeclaredView × State) → Option Ty
type_in (Ok p) = Some p.0.ctype
type_in (Err f) = None

abbrev said_in : Ruled (SpecifiedView × State) → Option DeclaredView
said_in (Ok p) = Some p.0.declared
said_in (Err f) = None

-- int a[2][3] is an array of two arrays of three
array_of_arrays : type_in (declared_type first (at 5) (plain int) (layer [] (brackets 6 2 ∷ brackets 9 3 ∷ []) ∷ [])) ≡ Some (ty.Array (ty.Array int 3) 2)
unfolding stepped
array_of_arrays = refl

-- int (*a)[3] is a pointer to an array
pointer_to_array : type_in (declared_type first (at 7) (plain int) (layer [] (brackets 9 3 ∷ []) ∷ layer (0 ∷ []) [] ∷ [])) ≡ Some (ty.Pointer (ty.Array int 3))
unfolding stepped
pointer_to_array = refl

-- int *a[3] is an array of pointers
array_of_pointers : type_in (declared_type first (at 6) (plain int) (layer (0 ∷ []) (brackets 7 3 ∷ []) ∷ [])) ≡ Some (ty.Array (ty.Pointer int) 3)
unfolding stepped
array_of_pointers = refl

-- a length of 0 is refused at the name
no_length : declared_type first (at 5) (plain int) (layer [] (brackets 6 0 ∷ []) ∷ []) ≡ constant_needed (at 5)
no_length = refl

-- long const int
long_int : said_in (specifiers first (at 1) false (tree.MoreWords (tree.TypeOf (at 1) word.Long) (tree.MoreWords (tree.Qualifier (at 6)) (tree.MoreWords (tree.TypeOf (at 12) word.Int) tree.NoWord)))) ≡ Some (plain (ty.Int (kind_of lp64 rank.Long true)))
long_int = refl

-- ---- structs

abbrev int_word : ℕ → SpecTree
int_word column = tree.TypeOf (at column) word.Int

abbrev name : ℕ → ℕ → NameView
name column letter = record { at = at column; text = letter ∷ [] }

abbrev char_word : ℕ → SpecTree
char_word column = tree.TypeOf (at column) word.Char

abbrev object : ℕ → ℕ → DeclaratorView
object column letter = record { layers = []; name = Some (name column letter) }

abbrev member : SpecTree → DeclaratorView → MemberTree
member w d = tree.Members (spec_trees (w ∷ [])) (d ∷ [])

abbrev size : StructView → ℕ
size s = s.size

abbrev sizes_in : Ruled (SpecifiedView × State) → Option (List ℕ)
sizes_in (Ok p) = Some (map size p.1.known.structs)
sizes_in (Err f) = None

-- struct s { char a; int b; } has 8 bytes
struct_of_two : sizes_in (specifiers first (at 1) true (spec_trees (tree.StructBody (at 1) (Some (name 8 115)) (member_trees (member (char_word 12) (object 17 97) ∷ member (int_word 20) (object 24 98) ∷ [])) ∷ []))) ≡ Some (8 ∷ [])
unfolding newest_from stepped
struct_of_two = refl
