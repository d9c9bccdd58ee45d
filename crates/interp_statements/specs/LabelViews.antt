-- Labels that are looked for in a program, as those of the machine.
use Rattle.std.specs.Prelude.{◌≡◌, Bool, true, false, List, Option, Some, None}
use Rattle.semantics.specs.SourceMachine.Items.{Item}
use Rattle.semantics.specs.SourceMachine.LabelSearch as search
use Rattle.semantics.specs.SourceMachine.LabelSearch.{Sought}
use Rattle.interp_statements.specs.declared.label_search.Sought7.{Sought7}
use Rattle.interp_statements.specs.declared.label_search.Sought7.TheVariants as sought

abbrev pub sought_view : Sought7 → Sought
sought_view (sought.Label n) = search.label n
sought_view (sought.Case n) = search.case n
sought_view sought.Other = search.other

-- the labels of a switch do not stand in the switches in its body
abbrev pub looks_into_switches : Sought → Bool
looks_into_switches (search.label n) = true
looks_into_switches _ = false

-- what is found, where anything is
abbrev pub Finds : Option (List Item) → List Item → Type 0
Finds None items = Unit {0}
Finds (Some found) items = items ≡ found
