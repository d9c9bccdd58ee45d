-- What follows a condition that holds or not.
use Rattle.std.specs.Prelude.{◌≡◌, Bool, true, false, cond, List, ◌++◌, Option, Some, None, Result, IfOk}
use Rattle.c_layout.specs.CheckedUnits.{UnitView}
use Rattle.semantics.specs.SourceMachine.Items.{Item}
use Rattle.interp_stack.specs.StackViews.{StackView, standing}
use Rattle.interp_stack.specs.declared.items.Item7.{Item7}
use Rattle.interp_stack.specs.declared.items.Item7.TheVariants as held
use Rattle.interp_stack.specs.declared.items.Use7.{Use7}
use Rattle.interp_stack.specs.declared.items.Use7.TheVariants as use_of
use Rattle.interp_stack.specs.declared.items.Way7.{Way7}
use Rattle.interp_stack.specs.declared.items.Way7.TheVariants as way

abbrev pub followed : Bool → StackView → List Item
followed holds s = cond holds s.yes s.no ++ s.items

-- whether an entry of a stack is what follows a condition
abbrev pub is_target_term : Use7 → Bool
is_target_term (use_of.After arm) = true
is_target_term _ = false

abbrev pub is_target_statement : Way7 → Bool
is_target_statement (way.After next) = true
is_target_statement _ = false

abbrev pub is_target : Item7 → Bool
is_target held.AfterNothing = true
is_target (held.AfterTruth holds) = true
is_target (held.Term how e) = is_target_term how
is_target (held.Statement how s) = is_target_statement how
is_target _ = false

-- what follows is there, or it is what follows another condition
abbrev pub IsMet : UnitView → List Item → List Item7 → Option Bool → Type 0
IsMet u items new None = (standing u new).items ≡ items
IsMet u items new (Some holds) = followed holds (standing u new) ≡ items

-- an entry more, with which a condition holds or not, is done away with
abbrev pub Meets : {E : Type 0} → UnitView → (StackView → StackView) → Bool → List Item7 → Result (Option Bool) E → List Item7 → Type 0
Meets u more holds old result new = IfOk result (IsMet u (followed holds (more (standing u old))) new)

-- where another condition follows, no entry has been added
abbrev pub Stays : List Item7 → Option Bool → List Item7 → Type 0
Stays old None new = Unit {0}
Stays old (Some holds) new = new ≡ old
