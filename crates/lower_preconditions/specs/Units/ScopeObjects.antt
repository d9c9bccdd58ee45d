-- Whether the objects of the scopes of a function are its own, none of them a parameter and none in two scopes.
use Rattle.std.specs.Prelude.{ℕ, ◌-◌, Bool, true, false, ◌&&◌, nat_le, List, [], ◌∷◌, ◌++◌, length, replicate, slice_get, slice_set, is_some, Option, Some, None, option_and_then}
use Rattle.c_layout.specs.CheckedTrees as tree
use Rattle.c_layout.specs.CheckedTrees.{StatementTree, StatementTrees, statement_trees}
use Rattle.c_layout.specs.CheckedUnits.{FunctionView}

abbrev pub marked_by : ℕ → List Bool → Option Bool → Option (List Bool)
marked_by n seen None = None
marked_by n seen (Some true) = None
marked_by n seen (Some false) = Some (slice_set seen n true)

-- an object is marked, which is there and was not marked before
abbrev pub marked : ℕ → List Bool → Option (List Bool)
marked n seen = marked_by n seen (slice_get seen n)

abbrev pub all_marked : List ℕ → List Bool → Option (List Bool)
all_marked [] seen = Some seen
all_marked (n ∷ ns) seen = option_and_then (all_marked ns) (marked n seen)

abbrev mutual
  -- the objects of the scopes in a statement are marked
  pub scopes_marked : StatementTree → List Bool → Option (List Bool)
  scopes_marked (tree.Value e) seen = Some seen
  scopes_marked tree.Nothing seen = Some seen
  scopes_marked (tree.Forget at local) seen = Some seen
  scopes_marked (tree.Start at local e) seen = Some seen
  scopes_marked (tree.StartCopy at local l) seen = Some seen
  scopes_marked (tree.StartList at local stores) seen = Some seen
  scopes_marked (tree.Block objects items) seen = option_and_then (all_scopes_marked items) (all_marked objects seen)
  scopes_marked (tree.If e body) seen = scopes_marked body seen
  scopes_marked (tree.IfElse e first second) seen = option_and_then (scopes_marked second) (scopes_marked first seen)
  scopes_marked (tree.While e body) seen = scopes_marked body seen
  scopes_marked (tree.Do body e) seen = scopes_marked body seen
  scopes_marked (tree.For objects first e step body) seen = option_and_then (scopes_marked body) (option_and_then (all_scopes_marked first) (all_marked objects seen))
  scopes_marked (tree.Switch at e labels has_default values body) seen = scopes_marked body seen
  scopes_marked (tree.Case l body) seen = scopes_marked body seen
  scopes_marked (tree.Default body) seen = scopes_marked body seen
  scopes_marked (tree.Label l body) seen = scopes_marked body seen
  scopes_marked (tree.Goto l) seen = Some seen
  scopes_marked tree.Break seen = Some seen
  scopes_marked tree.Continue seen = Some seen
  scopes_marked (tree.Return at e) seen = Some seen

  pub all_scopes_marked : StatementTrees → List Bool → Option (List Bool)
  all_scopes_marked tree.NoMore seen = Some seen
  all_scopes_marked (tree.And first rest) seen = option_and_then (all_scopes_marked rest) (scopes_marked first seen)

-- so many objects are marked, and so many others are not
abbrev pub so_many_marked : ℕ → ℕ → List Bool
so_many_marked marks others = replicate marks true ++ replicate others false

-- the first objects are the parameters, and marked from the beginning
abbrev pub parameters_marked : FunctionView → List Bool
parameters_marked f = so_many_marked f.parameters (length f.locals - f.parameters)

abbrev pub function_marked : FunctionView → Option (List Bool)
function_marked f = option_and_then (all_scopes_marked (statement_trees f.body)) (all_marked f.scope (parameters_marked f))

abbrev pub has_own_objects : FunctionView → Bool
has_own_objects f = nat_le f.parameters (length f.locals) && is_some (function_marked f)
