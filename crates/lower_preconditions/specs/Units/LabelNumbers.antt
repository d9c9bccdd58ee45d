-- Whether the labels of a function, and the case labels of each of its switches, have the numbers in which they stand in
-- the text, and whether a switch has a default label where it says so.
use Rattle.std.specs.Prelude.{ℕ, ◌+◌, ◌-◌, ◌^◌, ◌==◌, Bool, true, false, not, ◌&&◌, cond, nat_lt, length, Option, Some, None, option_map, option_and_then}
use Rattle.c_layout.specs.CheckedTrees as tree
use Rattle.c_layout.specs.CheckedTrees.{StatementTree, StatementTrees, statement_trees}
use Rattle.c_layout.specs.CheckedUnits.{FunctionView}
use Rattle.lower_preconditions.specs.declared.units.label_numbers.Numbers.{Numbers}

-- the number behind one that is met where it is due, as far as it has 32 bits
abbrev pub behind_number : ℕ → ℕ → Option ℕ
behind_number due number = cond (due == number && nat_lt due (2 ^ 32 - 1)) (Some (due + 1)) None

abbrev pub with_labels : Numbers → ℕ → Numbers
with_labels n labels = record n { labels = labels }

abbrev pub with_cases : Numbers → ℕ → Numbers
with_cases n cases = record n { cases = cases }

-- behind a label of the function
abbrev pub behind_label : ℕ → Numbers → Option Numbers
behind_label l n = option_map (with_labels n) (behind_number n.labels l)

-- behind a case label of the innermost switch
abbrev pub behind_case : ℕ → Numbers → Option Numbers
behind_case l n = option_map (with_cases n) (behind_number n.cases l)

-- behind its default label, of which it has one at most
abbrev pub behind_default : Numbers → Option Numbers
behind_default n = cond n.has_default None (Some (record n { has_default = true }))

-- nothing was met of a switch that begins
abbrev pub in_switch : Numbers → Numbers
in_switch n = record n { cases = 0; has_default = false }

abbrev pub same_truth : Bool → Bool → Bool
same_truth true b = b
same_truth false b = not b

-- behind a switch which has so many case labels and a default label or not; the labels of the one around it go on
abbrev pub behind_switch : Numbers → ℕ → Bool → Numbers → Option Numbers
behind_switch around count has_default n = cond (n.cases == count && same_truth n.has_default has_default) (Some (with_labels around n.labels)) None

abbrev mutual
  -- what was met behind a statement, from what was met before it; nothing where a label has another number
  pub numbered : StatementTree → Numbers → Option Numbers
  numbered (tree.Value e) n = Some n
  numbered tree.Nothing n = Some n
  numbered (tree.Forget at local) n = Some n
  numbered (tree.Start at local e) n = Some n
  numbered (tree.StartCopy at local l) n = Some n
  numbered (tree.StartList at local stores) n = Some n
  numbered (tree.Block objects items) n = all_numbered items n
  numbered (tree.If e body) n = numbered body n
  numbered (tree.IfElse e first second) n = option_and_then (numbered second) (numbered first n)
  numbered (tree.While e body) n = numbered body n
  numbered (tree.Do body e) n = numbered body n
  numbered (tree.For objects first e step body) n = option_and_then (numbered body) (all_numbered first n)
  numbered (tree.Switch at e labels has_default values body) n = option_and_then (behind_switch n (length labels) has_default) (numbered body (in_switch n))
  numbered (tree.Case l body) n = option_and_then (numbered body) (behind_case l n)
  numbered (tree.Default body) n = option_and_then (numbered body) (behind_default n)
  numbered (tree.Label l body) n = option_and_then (numbered body) (behind_label l n)
  numbered (tree.Goto l) n = Some n
  numbered tree.Break n = Some n
  numbered tree.Continue n = Some n
  numbered (tree.Return at e) n = Some n

  pub all_numbered : StatementTrees → Numbers → Option Numbers
  all_numbered tree.NoMore n = Some n
  all_numbered (tree.And first rest) n = option_and_then (all_numbered rest) (numbered first n)

abbrev pub none_met : Numbers
none_met = record { labels = 0; cases = 0; has_default = false }

-- a body has so many labels, and none of a switch outside of switches
abbrev pub ends_with : ℕ → Option Numbers → Bool
ends_with labels None = false
ends_with labels (Some n) = n.labels == labels && (n.cases == 0 && not n.has_default)

abbrev pub is_numbered : FunctionView → Bool
is_numbered f = ends_with f.labels (all_numbered (statement_trees f.body) none_met)
