-- The parts of small units and of their control-flow programs: all on one line, in int.
use Rattle.std.specs.Prelude.{ℕ, pos, true, false, Bool, List, [], ◌∷◌, Option, Some, None}
use Rattle.cc_base.specs.declared.diagnostics.Place.{Place}
use Rattle.cc_base.specs.declared.diagnostics.Rule.{Rule}
use Rattle.cc_base.specs.declared.integer_operators.Rel.{Rel}
use Rattle.cc_base.specs.declared.int_types.IntType.{IntType}
use Rattle.c_layout.specs.Models.{lp64}
use Rattle.c_layout.specs.Types.{Int}
use Rattle.c_layout.specs.CheckedTrees as tree
use Rattle.c_layout.specs.CheckedTrees.{TermTree, Typed, LvalueTree, Designates, FormTree, StatementTree, StatementTrees, statement_trees}
use Rattle.c_layout.specs.CheckedUnits.{LocalView, FunctionView, UnitView}
use Rattle.c_layout.specs.declared.checked_tree.checked_terms.ObjectRef.TheVariants.{Local}
use Rattle.c_layout.specs.declared.leaf_lists.Class.TheVariants as class
use Rattle.c_layout.specs.declared.shapes.BaseInfo.{BaseInfo}
use Rattle.c_layout.specs.declared.shapes.BaseKind.TheVariants.{Automatic}
use Rattle.c_layout.specs.declared.syntax_tree.expressions.BinaryOp.{BinaryOp}
use Rattle.cfg.specs.declared.flow_edges.Test.{Test}
use Rattle.cfg.specs.declared.flow_edges.Side.TheVariants as side
use Rattle.cfg.specs.declared.machine_instructions.Scalar.TheVariants as scalar
use Rattle.cfg.specs.declared.programs.ParameterInput.{ParameterInput}
use Rattle.lower_templates.specs.Worklist.Acts.{Act, Step}
use Rattle.lower_templates.specs.Worklist.Acts as act
use Rattle.lower_templates.specs.Worklist.Pieces.{Always, When}
use Rattle.lower_templates.specs.Views.ProgramViews.{BlockView, EdgeView, FlowView}
use Rattle.memory_model.specs.Effects.Worlds.{Violation}

abbrev pub at : ℕ → Place
at column = record { file = 0; line = 1; col = column }

abbrev pub found_at : ℕ → Rule → List Violation
found_at column rule = record { at = at column; rule = rule } ∷ []

abbrev pub int : IntType
int = record { bytes = 4; signed = true; rank = 3 }

-- ---- units

abbrev pub term : ℕ → FormTree → TermTree
term column form = Typed (at column) (Int int) 0 None form

abbrev pub number : ℕ → ℕ → TermTree
number column n = Typed (at column) (Int int) 0 (Some (pos n)) (tree.Number (pos n))

abbrev pub object : ℕ → ℕ → LvalueTree
object column n = Designates (at column) (Int int) 0 (tree.Object (Local n))

abbrev pub value : ℕ → ℕ → TermTree
value column n = term column (tree.Load (object column n))

abbrev pub binary : ℕ → BinaryOp → TermTree → TermTree → TermTree
binary column op left right = term column (tree.Integer op left right)

abbrev pub give_back : ℕ → TermTree → StatementTree
give_back column e = tree.Return (at column) (Some e)

abbrev pub block : List ℕ → List StatementTree → StatementTree
block objects items = tree.Block objects (statement_trees items)

abbrev pub local : ℕ → LocalView
local column = record { name = []; at = at column; ctype = Int int }

-- a function with some int parameters, which are its first locals; some of the others live in all its body
abbrev pub function : ℕ → List LocalView → List ℕ → ℕ → List StatementTree → FunctionView
function parameters locals scope labels body = record { name = []; at = at 1; returns = Int int; parameters = parameters; locals = locals; scope = scope; body = body; labels = labels }

-- the first function is the entry
abbrev pub unit : List FunctionView → UnitView
unit fs = record { functions = fs; constants = []; objects = []; structs = []; literals = []; entry = 0; model = lp64 }

-- ---- programs

abbrev pub int_base : BaseInfo
int_base = record { kind = Automatic; size = 4; first = 0; shape = record { cells = record { offset = 0; class = class.Int; signed = true; stride = 4; count = 1 } ∷ []; zeros = []; heap = false } }

abbrev pub step : ℕ → Act → Step
step column does = record { at = at column; does = does }

abbrev pub constant : ℕ → ℕ → ℕ → Step
constant column to n = step column (act.Constant to (pos n) int)

abbrev pub load : ℕ → ℕ → ℕ → Step
load column to from = step column (act.Load to from (scalar.Int int))

abbrev pub store : ℕ → ℕ → ℕ → Step
store column to from = step column (act.Store to from (scalar.Int int) None)

abbrev pub basic_block : ℕ → ℕ → List Step → BlockView
basic_block first_edge edges steps = record { steps = steps; first_edge = first_edge; edges = edges; is_head = false }

abbrev pub jump : ℕ → ℕ → EdgeView
jump from to = record { from = from; to = to; taken = Always }

abbrev pub when : Bool → Option Test → ℕ → ℕ → EdgeView
when truth test from to = record { from = from; to = to; taken = When truth test None }

-- an int base and a number
abbrev pub test : ℕ → Rel → ℕ → Option Test
test base rel n = Some (record { left = side.Object base (scalar.Int int); rel = rel; right = side.Number (pos n); common = Some int })

abbrev pub parameter : ℕ → ParameterInput
parameter base = record { base = base; kind = int }

abbrev pub program : List BaseInfo → List ParameterInput → List BlockView → List EdgeView → FlowView
program bases parameters blocks edges = record { blocks = blocks; edges = edges; bases = bases; temps = 4; initial = []; parameters = parameters; entry = at 1; structs = []; width = 9; model = lp64 }
