-- Where `break` and `continue` stand.
use Rattle.std.specs.Prelude.{◌≡◌, ℕ, Bool, true, false, Some}
use Rattle.c_layout.specs.CheckedTrees as tree
use Rattle.c_layout.specs.CheckedTrees.{StatementTree, StatementTrees, statement_trees}
use Rattle.c_layout.specs.CheckedUnits.{FunctionView, UnitView}
use Rattle.semantics.specs.SourceMachine.SourceStates.{function_at}

abbrev mutual
  -- each `break` of a statement has a loop or switch around it, and each `continue` a loop; the statement may stand in such
  pub JumpsStand : Bool → Bool → StatementTree → Type 0
  JumpsStand breaks continues (tree.Value e) = Unit {0}
  JumpsStand breaks continues tree.Nothing = Unit {0}
  JumpsStand breaks continues (tree.Forget at local) = Unit {0}
  JumpsStand breaks continues (tree.Start at local e) = Unit {0}
  JumpsStand breaks continues (tree.StartCopy at local l) = Unit {0}
  JumpsStand breaks continues (tree.StartList at local stores) = Unit {0}
  JumpsStand breaks continues (tree.Block objects items) = AllJumpsStand breaks continues items
  JumpsStand breaks continues (tree.If c body) = JumpsStand breaks continues body
  JumpsStand breaks continues (tree.IfElse c first second) = JumpsStand breaks continues first × JumpsStand breaks continues second
  JumpsStand breaks continues (tree.While c body) = JumpsStand true true body
  JumpsStand breaks continues (tree.Do body c) = JumpsStand true true body
  JumpsStand breaks continues (tree.For objects first c step body) = AllJumpsStand false false first × JumpsStand true true body
  JumpsStand breaks continues (tree.Switch at e labels has_default enumerators body) = JumpsStand true continues body
  JumpsStand breaks continues (tree.Case n body) = JumpsStand breaks continues body
  JumpsStand breaks continues (tree.Default body) = JumpsStand breaks continues body
  JumpsStand breaks continues (tree.Label n body) = JumpsStand breaks continues body
  JumpsStand breaks continues (tree.Goto n) = Unit {0}
  JumpsStand breaks continues tree.Break = breaks ≡ true
  JumpsStand breaks continues tree.Continue = continues ≡ true
  JumpsStand breaks continues (tree.Return at e) = Unit {0}

  -- so it is in each of these statements
  pub AllJumpsStand : Bool → Bool → StatementTrees → Type 0
  AllJumpsStand breaks continues tree.NoMore = Unit {0}
  AllJumpsStand breaks continues (tree.And first rest) = JumpsStand breaks continues first × AllJumpsStand breaks continues rest

-- so it is in each function of a unit
abbrev pub UnitJumpsStand : UnitView → Type 0
UnitJumpsStand u = (g : ℕ) (f : FunctionView) → function_at u g ≡ Some f → AllJumpsStand false false (statement_trees f.body)
