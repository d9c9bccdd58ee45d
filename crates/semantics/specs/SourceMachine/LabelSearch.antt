-- Where a label stands: what is left to do from there.
use Rattle.std.specs.Prelude.{ℕ, ◌+◌, ◌==◌, ℤ, Bool, true, false, cond, List, [], ◌∷◌, ◌++◌, Option, Some, None}
use Rattle.std.specs.Ordering.{int_eq}
use Rattle.c_layout.specs.CheckedTrees as tree
use Rattle.c_layout.specs.CheckedTrees.{TermTree, StatementTree, StatementTrees}
use Rattle.c_layout.specs.CheckedUnits.{UnitView, FunctionView}
use Rattle.c_layout.specs.declared.checked_tree.checked_statements.CaseLabel.{CaseLabel}
use Rattle.semantics.specs.SourceMachine.Items.{Item, Statement, WhileIteration, IterationEnd, LoopEnd, Leaves, Hop, EndBody}
use Rattle.semantics.specs.SourceMachine.StatementItems.{statements, list_statements, do_test, for_step}

-- a label of the function, or one of the innermost switch
pub data Sought : Type 0 where
  label : (number : ℕ) → Sought
  case : (number : ℕ) → Sought
  other : Sought

abbrev pub is_label : Sought → ℕ → Bool
is_label (label n) m = n == m
is_label _ m = false

abbrev pub is_case : Sought → ℕ → Bool
is_case (case n) m = n == m
is_case _ m = false

abbrev pub is_other : Sought → Bool
is_other other = true
is_other _ = false

-- the labels of a switch do not stand in the switches in its body
abbrev pub inside_switch : Sought → Option (List Item) → Option (List Item)
inside_switch (label n) found = found
inside_switch _ found = None

abbrev pub first : Option (List Item) → Option (List Item) → Option (List Item)
first (Some items) later = Some items
first None later = later

abbrev pub here_or : Bool → List Item → Option (List Item) → Option (List Item)
here_or true items later = Some items
here_or false items later = later

unfoldable mutual
  -- from a label in a statement on, where so many items follow the statement; what is entered on the way
  -- is entered by the jump
  pub found : UnitView → Sought → StatementTree → List Item → Option (List Item)
  found u l (tree.Value e) rest = None
  found u l tree.Nothing rest = None
  found u l (tree.Forget at local) rest = None
  found u l (tree.Start at local e) rest = None
  found u l (tree.StartCopy at local source) rest = None
  found u l (tree.StartList at local stores) rest = None
  found u l (tree.Block objects items) rest = found_in u l items (Leaves objects ∷ rest)
  found u l (tree.If c body) rest = found u l body rest
  found u l (tree.IfElse c one two) rest = first (found u l one (Hop ∷ rest)) (found u l two rest)
  found u l (tree.While c body) rest = found u l body (Hop ∷ (IterationEnd ∷ (WhileIteration c body ∷ (LoopEnd ∷ rest))))
  found u l (tree.Do body c) rest = found u l body (do_test u body c ++ LoopEnd ∷ rest)
  found u l (tree.For objects start c step body) rest = found u l body (for_step c step body ++ (LoopEnd ∷ (Leaves objects ∷ rest)))
  found u l (tree.Switch at e labels has_default enumerators body) rest = inside_switch l (found u l body (LoopEnd ∷ rest))
  found u l (tree.Case n body) rest = here_or (is_case l n) (Statement body ∷ rest) (found u l body rest)
  found u l (tree.Default body) rest = here_or (is_other l) (Statement body ∷ rest) (found u l body rest)
  found u l (tree.Label n body) rest = here_or (is_label l n) (Statement body ∷ rest) (found u l body rest)
  found u l (tree.Goto n) rest = None
  found u l tree.Break rest = None
  found u l tree.Continue rest = None
  found u l (tree.Return at e) rest = None

  pub found_in : UnitView → Sought → StatementTrees → List Item → Option (List Item)
  found_in u l tree.NoMore rest = None
  found_in u l (tree.And s ss) rest = first (found u l s (statements ss ++ rest)) (found_in u l ss rest)

abbrev pub found_among : UnitView → Sought → List StatementTree → List Item → Option (List Item)
found_among u l [] rest = None
found_among u l (s ∷ ss) rest = first (found u l s (list_statements ss ++ rest)) (found_among u l ss rest)

-- from a label of a function on
abbrev pub from_label : UnitView → FunctionView → ℕ → Option (List Item)
from_label u f n = found_among u (label n) f.body (Leaves f.scope ∷ (EndBody ∷ []))

-- the label that a value selects: the case of that value
abbrev pub case_of : List CaseLabel → ℕ → ℤ → Sought
case_of [] n value = other
case_of (c ∷ cs) n value = cond (int_eq c.value value) (case n) (case_of cs (n + 1) value)
