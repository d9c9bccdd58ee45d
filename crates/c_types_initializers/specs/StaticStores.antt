-- The stores of static initializers, which are constant (6.7.9p4).
use Rattle.std.specs.Prelude.{ℕ, List, [], ◌∷◌, ◌++◌, map, Option, Some, None, Ok, Err, Vec}
use Rattle.std.specs.Global.{Global}
use Rattle.cc_base.specs.declared.diagnostics.Place.{Place}
use Rattle.c_layout.specs.CheckedTrees.{TermTree, StoreTree, StoreValue, StoreCopy, StoreText}
use Rattle.c_layout.specs.CheckedUnits.{StaticStoreView, SetValue, SetText, static_store_view}
use Rattle.c_layout.specs.declared.checked_tree.checked_units.StaticValue.{StaticValue}
use Rattle.c_layout.specs.declared.checked_tree.checked_units.StaticStore.{StaticStore}
use Rattle.c_types_scopes.specs.Known.{Known}
use Rattle.c_types_scopes.specs.Refusals.{Ruled, type_fault, constant_needed}
use Rattle.c_types_scopes.specs.Answers.{kept}
use Rattle.c_types_scopes.specs.States.{State, with_constant}
use Rattle.c_types_initializers.specs.Addresses.{static_value}
use Rattle.c_types_initializers.specs.Initialized.{InitializedView, ByTerm, ByLvalue, ByStores}

abbrev pub stores_view : Vec StaticStore Global → List StaticStoreView
stores_view v = map static_store_view v.items

abbrev pub value_at : Place → ℕ → Option StaticValue → Ruled StaticStoreView
value_at at offset None = constant_needed at
value_at at offset (Some v) = Ok (SetValue offset v)

-- one store
abbrev pub static_store : Known → Place → StoreTree → Ruled StaticStoreView
static_store k at (StoreValue offset e) = value_at at offset (static_value k e)
static_store k at (StoreCopy offset l) = type_fault at
static_store k at (StoreText offset room text) = Ok (SetText offset room text)

abbrev pub behind : Ruled StaticStoreView → (StaticStoreView → Ruled (List StaticStoreView)) → Ruled (List StaticStoreView)
behind (Ok s) rest = rest s
behind (Err f) rest = Err f

-- stores behind those that are made
unfoldable pub stores_from : Known → Place → List StaticStoreView → List StoreTree → Ruled (List StaticStoreView)
stores_from k at made [] = Ok made
stores_from k at made (s ∷ stores) = behind (static_store k at s) (λ v. stores_from k at (made ++ v ∷ []) stores)

abbrev pub list_stores : Known → Place → List StoreTree → Ruled (List StaticStoreView)
list_stores k at stores = stores_from k at [] stores

abbrev pub one_store : Ruled StaticStoreView → Ruled (List StaticStoreView)
one_store (Ok s) = Ok (s ∷ [])
one_store (Err f) = Err f

-- the store of a scalar
abbrev pub scalar_store : Known → Place → TermTree → Ruled (List StaticStoreView)
scalar_store k at e = one_store (value_at at 0 (static_value k e))

-- the stores of an initializer
abbrev pub constant_stores : Known → Place → InitializedView → Ruled (List StaticStoreView)
constant_stores k at (ByTerm e) = scalar_store k at e
constant_stores k at (ByLvalue l) = type_fault at
constant_stores k at (ByStores stores) = list_stores k at stores

abbrev pub with_expression : State → StoreTree → State
with_expression s (StoreValue offset e) = with_constant s e
with_expression s (StoreCopy offset l) = s
with_expression s (StoreText offset room text) = s

unfoldable pub with_list : State → List StoreTree → State
with_list s [] = s
with_list s (x ∷ stores) = with_list (with_expression s x) stores

-- the expressions of an initializer are kept: no run evaluates them
abbrev pub with_expressions : State → InitializedView → State
with_expressions s (ByTerm e) = with_constant s e
with_expressions s (ByLvalue l) = s
with_expressions s (ByStores stores) = with_list s stores

-- a static initializer
abbrev pub static_stores : Place → InitializedView → State → Ruled (List StaticStoreView × State)
static_stores at made s = kept (with_expressions s made) (constant_stores s.known at made)
