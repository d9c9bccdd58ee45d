-- The steps that may be stuck for a value, whatever kinds and objects there are.
use Rattle.std.specs.Prelude.{Bool, false, not, ◌&&◌, pos, List, [], ◌∷◌, is_some}
use Rattle.std.specs.Ordering.{int_eq}
use Rattle.memory_model.specs.Memory.Scalars.{Scalar, integer, pointer}
use Rattle.semantics.specs.SourceMachine.Items as item
use Rattle.semantics.specs.SourceMachine.Items.{Item}
use Rattle.semantics.specs.SourceMachine.SourceStates.{State}
use Rattle.source_items.specs.Operations.TakenKinds.{makes_pointer}

-- the newest value is a number that becomes no pointer
abbrev pub is_other_number : List Scalar → Bool
is_other_number [] = false
is_other_number (integer n labels ∷ vs) = not (int_eq n (pos 0))
is_other_number (pointer p ∷ vs) = false

-- a test or a switch asks memory for the value of an object that it names, and a number that is made a pointer has to be 0
abbrev pub is_open : List Scalar → Item → Bool
is_open vs (item.Choose at test held failed) = is_some test
is_open vs (item.Select at object labels statement) = is_some object
is_open vs (item.Do at operation) = makes_pointer operation && is_other_number vs
is_open vs i = false

abbrev pub opens : List Scalar → List Item → Bool
opens vs [] = false
opens vs (i ∷ items) = is_open vs i

-- the next item is such a step
abbrev pub stands_open : State → Bool
stands_open s = opens s.values s.control
