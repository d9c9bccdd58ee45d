-- Lists whose items rules give.
use Rattle.std.specs.Prelude.{List, ◌∷◌, ◌++◌, Ok, Err}
use Rattle.c_types_scopes.specs.Refusals.{Ruled}

-- a list with an item in front
abbrev pub with_first : {V : Type 0} → V → Ruled (List V) → Ruled (List V)
with_first v (Ok vs) = Ok (v ∷ vs)
with_first v (Err f) = Err f

-- a list with an item in front, where both have no refusal; that of the item comes first
abbrev pub if_first : {V : Type 0} → Ruled V → Ruled (List V) → Ruled (List V)
if_first (Ok v) vs = with_first v vs
if_first (Err f) vs = Err f

-- a list behind items
abbrev pub behind : {V : Type 0} → List V → Ruled (List V) → Ruled (List V)
behind first (Ok vs) = Ok (first ++ vs)
behind first (Err f) = Err f
