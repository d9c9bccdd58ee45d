-- Worked rows: what a unit defines, and what its entry may be.
use Rattle.std.specs.Prelude.{◌≡◌, refl, ℕ, true, false, List, [], ◌∷◌, Some}
use Rattle.cc_base.specs.declared.diagnostics.Place.{Place}
use Rattle.cc_base.specs.declared.refusals.Refusal.TheVariants as refusal
use Rattle.c_layout.specs.Models.{lp64}
use Rattle.c_layout.specs.Types.{Ty, Int, Pointer}
use Rattle.c_layout.specs.CheckedUnits.{LocalView, FunctionView}
use Rattle.c_layout.specs.DeclarationTrees.{StorageWord, TypeOf}
use Rattle.c_layout.specs.declared.syntax_tree.declarations.Storage.TheVariants as storage
use Rattle.c_layout.specs.declared.syntax_tree.declarations.TypeWord.TheVariants as word
use Rattle.c_types_rules.specs.Rules.IntegerKinds.{kind_of}
use Rattle.c_types_rules.specs.declared.rules.integer_kinds.Rank.TheVariants as rank
use Rattle.c_types_scopes.specs.Refusals.{refused}
use Rattle.c_types.specs.Units.UnitDefinitions.{last_storage, storage_of, is_definition}
use Rattle.c_types.specs.Units.UnitEntries.{integers_from, entry_from, first_place, entry_number, judged}

abbrev at : ℕ → Place
at column = record { file = 0; line = 1; col = column }

abbrev main : List ℕ
main = 109 ∷ 97 ∷ 105 ∷ 110 ∷ []

abbrev int : Ty
int = Int (kind_of lp64 rank.Int true)

abbrev function : List LocalView → ℕ → FunctionView
function locals parameters = record { name = main; at = at 1; returns = int; parameters = parameters; locals = locals; scope = []; body = []; labels = 0 }

abbrev object : Ty → LocalView
object t = record { name = 97 ∷ []; at = at 5; ctype = t }

-- without a function of its name a unit has no entry
no_function : judged [] main [] ≡ refused first_place refusal.NoEntry
unfolding entry_from
no_function = refl

-- a parameter of the entry is an integer; other objects may be pointers
pointer_parameter : judged (function (object (Pointer int) ∷ []) 1 ∷ []) main [] ≡ refused first_place refusal.NoEntry
unfolding entry_from integers_from
pointer_parameter = refl

pointer_object : entry_number (function (object int ∷ object (Pointer int) ∷ []) 1 ∷ []) main ≡ Some 0
unfolding entry_from integers_from
pointer_object = refl

-- `extern int x;` defines nothing, and `int x;` an object
extern_object : is_definition (storage_of (StorageWord (at 1) storage.Extern ∷ TypeOf (at 8) word.Int ∷ [])) ≡ false
unfolding last_storage
extern_object = refl

plain_object : is_definition (storage_of (TypeOf (at 1) word.Int ∷ [])) ≡ true
unfolding last_storage
plain_object = refl
