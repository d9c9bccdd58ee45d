-- Small units, all on one line and in int, and the templates of their functions.
use Rattle.std.specs.Prelude.{ℕ, pos, true, Bool, List, [], ◌∷◌, Some, None}
use Rattle.cc_base.specs.declared.diagnostics.Place.{Place}
use Rattle.cc_base.specs.declared.diagnostics.Rule.{Rule}
use Rattle.cc_base.specs.declared.int_types.IntType.{IntType}
use Rattle.c_layout.specs.Models.{lp64}
use Rattle.c_layout.specs.Types.{Int}
use Rattle.c_layout.specs.CheckedTrees as tree
use Rattle.c_layout.specs.CheckedTrees.{TermTree, Typed, LvalueTree, Designates, FormTree, StatementTree}
use Rattle.c_layout.specs.CheckedUnits.{LocalView, FunctionView, UnitView}
use Rattle.c_layout.specs.declared.checked_tree.checked_terms.ObjectRef.TheVariants.{Local}
use Rattle.c_layout.specs.declared.syntax_tree.expressions.BinaryOp.{BinaryOp}
use Rattle.memory_model.specs.Effects.Worlds.{Violation}
use Rattle.cfg.specs.declared.machine_instructions.Scalar.TheVariants as scalar
use Rattle.lower_templates.specs.Worklist.Acts as act
use Rattle.lower_templates.specs.Worklist.Acts.{Act}
use Rattle.lower_templates.specs.Worklist.Pieces.{PieceView, Do, End, ExitView}
use Rattle.lower_functions.specs.Functions.Functions.{function, setting_of, no_plan}
use Rattle.lower_functions.specs.Functions.Turns.{Going, after, begun}

abbrev pub at : ℕ → Place
at column = record { file = 0; line = 1; col = column }

abbrev pub found_at : ℕ → Rule → List Violation
found_at column rule = record { at = at column; rule = rule } ∷ []

abbrev pub int : IntType
int = record { bytes = 4; signed = true; rank = 3 }

abbrev pub term : ℕ → FormTree → TermTree
term column form = Typed (at column) (Int int) 0 None form

abbrev pub number : ℕ → ℕ → TermTree
number column n = Typed (at column) (Int int) 0 (Some (pos n)) (tree.Number (pos n))

abbrev pub object : ℕ → ℕ → LvalueTree
object column n = Designates (at column) (Int int) 0 (tree.Object (Local n))

abbrev pub value : ℕ → ℕ → TermTree
value column n = term column (tree.Load (object column n))

abbrev pub binary : ℕ → BinaryOp → TermTree → TermTree → TermTree
binary column op left right = term column (tree.Integer op left right)

abbrev pub local : ℕ → LocalView
local column = record { name = []; at = at column; ctype = Int int }

abbrev pub function_of : ℕ → List LocalView → List ℕ → List StatementTree → FunctionView
function_of parameters locals scope body = record { name = []; at = at 1; returns = Int int; parameters = parameters; locals = locals; scope = scope; body = body; labels = 0 }

-- the first function is the entry
abbrev pub unit_of : List FunctionView → UnitView
unit_of fs = record { functions = fs; constants = []; objects = []; structs = []; literals = []; entry = 0; model = lp64 }

-- the works of a function after so many turns
abbrev pub made : FunctionView → Bool → ℕ → Going
made f is_entry turns = after (setting_of [] 8 4 f is_entry) turns (begun (function (setting_of [] 8 4 f is_entry) f (no_plan f.labels)))

-- ---- pieces

abbrev pub done : ℕ → Act → PieceView
done column a = Do (record { at = at column; does = a })

abbrev pub ends : ℕ → Act → List ExitView → PieceView
ends column a exits = End (record { at = at column; does = a }) exits

abbrev pub address : ℕ → ℕ → ℕ → PieceView
address column to base = done column (act.Address to base 0)

abbrev pub load : ℕ → ℕ → ℕ → PieceView
load column to from = done column (act.Load to from (scalar.Int int))

abbrev pub store : ℕ → ℕ → ℕ → PieceView
store column to from = done column (act.Store to from (scalar.Int int) None)

abbrev pub constant : ℕ → ℕ → ℕ → PieceView
constant column to n = done column (act.Constant to (pos n) int)
