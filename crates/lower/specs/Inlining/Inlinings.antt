-- The template of the entry, opened: every call is put in at its place. One turn is one piece of the copy
-- on top of the stack.
use Rattle.std.specs.Prelude.{ℕ, ℤ, zero, suc, ◌+◌, ◌-◌, ◌^◌, Bool, true, false, cond, nat_le, List, [], ◌∷◌, ◌++◌, length, map, drop, replicate, reverse, slice_get, slice_set, get_or, Option, Some, None}
use Rattle.cc_base.specs.declared.diagnostics.Place.{Place}
use Rattle.c_layout.specs.CheckedUnits.{FunctionView, function_view, UnitView}
use Rattle.cfg.specs.declared.flow_edges.CaseTest.{CaseTest}
use Rattle.cfg.specs.declared.flow_edges.Side.{Side}
use Rattle.cfg.specs.declared.flow_edges.Side.TheVariants as side
use Rattle.cfg.specs.declared.flow_edges.Test.{Test}
use Rattle.lower_templates.specs.Worklist.Acts.{Act, Jump, Step, step}
use Rattle.lower_templates.specs.Worklist.Pieces.{NameView, Local, Outcome, name_view, Way, Always, When, Case, Other, NoLine, Line, ExitView, PieceView, Do, DoIfUsed, End, Mark, Call, piece_view, TemplateView}
use Rattle.lower_templates.specs.declared.worklist.template_pieces.OwnCall.{OwnCall}
use Rattle.lower_templates.specs.Worklist.Works.{behind}
use Rattle.lower_templates.specs.Views.ProgramViews.{BlockView, block, EdgeView, edge}
use Rattle.lower.specs.Inlining.MovedActs.{own_base, put_moved, moved}
use Rattle.lower_tables.specs.Bases.BaseTables.{TableView, table, Named, base}
use Rattle.lower.specs.declared.inlining.inlined_program.CallCopy.{CallCopy}
use Rattle.lower.specs.declared.inlining.inlined_program.Making.{Making}
use Rattle.lower.specs.declared.inlining.inlined_program.Inlining.{Inlining}
use Rattle.lower.specs.declared.inlining.inlined_program.InlinedProgram.{InlinedProgram}

-- the program as far as it is made: the blocks that ended, the instructions of the current one, the
-- edges, which lead to labels, the blocks of the labels, and the bases
pub record Made : Type 0 where
  pub blocks : List BlockView
  pub ready : List Step
  pub edges : List EdgeView
  pub labels : List ℕ
  pub bases : TableView

abbrev pub made : Making → Made
made m = record { blocks = map block m.blocks.items; ready = map step m.ready.items; edges = map edge m.edges.items; labels = m.labels.items; bases = table m.bases }

-- a call that is put in: the function, the names of its template, the pieces that are still to come, the
-- first temporary, the first label, the bases of the local objects, the place of the call, and whether
-- its value is used
pub record CopyView : Type 0 where
  pub function : FunctionView
  pub names : List NameView
  pub rest : List PieceView
  pub depth : ℕ
  pub labels : ℕ
  pub locals : List (Option ℕ)
  pub at : Place
  pub used : Bool

abbrev pub copy_view : CallCopy → CopyView
copy_view c = record {
  function = function_view c.function.now;
  names = map name_view c.template.now.names.items;
  rest = map piece_view (drop c.at c.template.now.pieces.items);
  depth = c.depth;
  labels = c.labels;
  locals = c.locals.items;
  at = c.place;
  used = c.used;
}

-- the program, and the copy whose piece is added
pub record Placed : Type 0 where
  pub program : Made
  pub within : CopyView

abbrev pub placed : Made → CopyView → Placed
placed m c = record { program = m; within = c }

abbrev pub with_bases : TableView → Made → Made
with_bases b m = record { blocks = m.blocks; ready = m.ready; edges = m.edges; labels = m.labels; bases = b }

abbrev pub with_locals : List (Option ℕ) → CopyView → CopyView
with_locals locals c = record { function = c.function; names = c.names; rest = c.rest; depth = c.depth; labels = c.labels; locals = locals; at = c.at; used = c.used }

abbrev pub after_naming : Named → Placed → Placed
after_naming n p = placed (with_bases n.after p.program) (with_locals n.locals p.within)

abbrev pub name_at : List NameView → ℕ → NameView
name_at names n = get_or names n Outcome

-- the base that a number of the copy's template stands for
abbrev pub naming : UnitView → ℕ → Placed → Named
naming u n p = base u p.within.function (name_at p.within.names n) p.within.locals p.program.bases

abbrev pub base_number : UnitView → ℕ → Placed → ℕ
base_number u n p = (naming u n p).number

abbrev pub with_base : UnitView → ℕ → Placed → Placed
with_base u n p = after_naming (naming u n p) p

abbrev pub own_number : UnitView → Option ℕ → Placed → ℕ
own_number u None p = 0
own_number u (Some n) p = base_number u n p

abbrev pub with_own : UnitView → Option ℕ → Placed → Placed
with_own u None p = p
with_own u (Some n) p = with_base u n p

abbrev pub instruction : Place → Act → Step
instruction at a = record { at = at; does = a }

abbrev pub with_ready : Step → Made → Made
with_ready s m = record { blocks = m.blocks; ready = m.ready ++ s ∷ []; edges = m.edges; labels = m.labels; bases = m.bases }

abbrev pub with_step : Step → Placed → Placed
with_step s p = placed (with_ready s p.program) p.within

-- an instruction of the copy's template: its temporaries are counted from the copy's first one
abbrev pub with_act : UnitView → Place → Act → Placed → Placed
with_act u at a p = with_step (instruction at (moved p.within.depth (own_number u (own_base a) p) a)) (with_own u (own_base a) p)

abbrev pub ended_block : List Step → ℕ → ℕ → BlockView
ended_block steps first count = record { steps = steps; first_edge = first; edges = count; is_head = false }

-- the current block ends; its edges are those from a number on
abbrev pub ended : ℕ → Made → Made
ended first m = record { blocks = m.blocks ++ ended_block m.ready first (length m.edges - first) ∷ []; ready = []; edges = m.edges; labels = m.labels; bases = m.bases }

abbrev pub edge_to : ℕ → ℕ → Way → EdgeView
edge_to from to taken = record { from = from; to = to; taken = taken }

abbrev pub with_edge : EdgeView → Made → Made
with_edge e m = record { blocks = m.blocks; ready = m.ready; edges = m.edges ++ e ∷ []; labels = m.labels; bases = m.bases }

abbrev pub jumped : Place → ℕ → Made → Made
jumped at label m = ended (length m.edges) (with_edge (edge_to (length m.blocks) label Always) (with_ready (instruction at Jump) m))

abbrev pub is_none : List Step → Bool
is_none [] = true
is_none (s ∷ ss) = false

-- a jump ends a block that has instructions
abbrev pub jumped_if : Place → ℕ → Made → Made
jumped_if at label m = cond (is_none m.ready) m (jumped at label m)

abbrev pub labelled : ℕ → Made → Made
labelled label m = record { blocks = m.blocks; ready = m.ready; edges = m.edges; labels = slice_set m.labels label (length m.blocks); bases = m.bases }

-- a block begins at a label
abbrev pub marked : Place → ℕ → Made → Made
marked at label m = labelled label (jumped_if at label m)

abbrev pub with_mark : ℕ → Placed → Placed
with_mark label p = placed (marked p.within.at (label + p.within.labels) p.program) p.within

-- what the edges of a copy know is said of the bases of the program
abbrev pub side_moved : UnitView → Side → Placed → Side
side_moved u (side.Object n kind) p = side.Object (base_number u n p) kind
side_moved u (side.Number n) p = side.Number n
side_moved u side.Null p = side.Null

abbrev pub with_side : UnitView → Side → Placed → Placed
with_side u (side.Object n kind) p = with_base u n p
with_side u (side.Number n) p = p
with_side u side.Null p = p

abbrev pub both_moved : UnitView → Test → Placed → Test
both_moved u t p = record { left = side_moved u t.left p; rel = t.rel; right = side_moved u t.right (with_side u t.left p); common = t.common }

abbrev pub test_moved : UnitView → Option Test → Placed → Option Test
test_moved u None p = None
test_moved u (Some t) p = Some (both_moved u t p)

abbrev pub with_test : UnitView → Option Test → Placed → Placed
with_test u None p = p
with_test u (Some t) p = with_side u t.right (with_side u t.left p)

abbrev pub case_of : ℤ → Option ℕ → CaseTest
case_of value object = record { value = value; object = object }

abbrev pub object_moved : UnitView → Option ℕ → Placed → Option ℕ
object_moved u None p = None
object_moved u (Some n) p = Some (base_number u n p)

abbrev pub case_moved : UnitView → CaseTest → Placed → CaseTest
case_moved u c p = case_of c.value (object_moved u c.object p)

abbrev pub way_moved : UnitView → Way → Placed → Way
way_moved u Always p = Always
way_moved u (When truth test puts) p = When truth (test_moved u test p) (put_moved p.within.depth puts)
way_moved u (Case c) p = Case (case_moved u c p)
way_moved u (Other values) p = Other values
way_moved u NoLine p = NoLine
way_moved u Line p = Line

abbrev pub with_way : UnitView → Way → Placed → Placed
with_way u Always p = p
with_way u (When truth test puts) p = with_test u test p
with_way u (Case c) p = with_own u c.object p
with_way u (Other values) p = p
with_way u NoLine p = p
with_way u Line p = p

abbrev pub add_edge : EdgeView → Placed → Placed
add_edge e p = placed (with_edge e p.program) p.within

-- an edge of the copy's template, which leads to one of the copy's labels
abbrev pub with_exit : UnitView → ℕ → ExitView → Placed → Placed
with_exit u from e p = add_edge (edge_to from (e.to + p.within.labels) (way_moved u e.taken p)) (with_way u e.taken p)

abbrev pub with_exits : UnitView → ℕ → List ExitView → Placed → Placed
with_exits u from [] p = p
with_exits u from (e ∷ es) p = with_exits u from es (with_exit u from e p)

abbrev pub block_ended : ℕ → Placed → Placed
block_ended first p = placed (ended first p.program) p.within

-- an instruction that ends its block, with the edges of the block
abbrev pub closed : UnitView → Step → List ExitView → Placed → Placed
closed u s exits p = block_ended (length p.program.edges) (with_exits u (length p.program.blocks) exits (with_act u s.at s.does p))

abbrev pub with_act_if_used : UnitView → Act → Placed → Placed
with_act_if_used u a p = cond p.within.used (with_act u p.within.at a p) p

-- a piece that is no call
abbrev pub with_piece : UnitView → PieceView → Placed → Placed
with_piece u (Do s) p = with_act u s.at s.does p
with_piece u (DoIfUsed s) p = with_act_if_used u s.does p
with_piece u (End s exits) p = closed u s exits p
with_piece u (Mark label) p = with_mark label p
with_piece u (Call c) p = p

-- the copies that are not finished, the innermost first, and the program
pub record Inlined : Type 0 where
  pub stack : List CopyView
  pub program : Made

abbrev pub inlining : Inlining → Inlined
inlining o = record { stack = reverse (map copy_view o.stack.items); program = made o.making }

abbrev pub inlined : List CopyView → Made → Inlined
inlined stack m = record { stack = stack; program = m }

abbrev pub with_labels : ℕ → Made → Made
with_labels count m = record { blocks = m.blocks; ready = m.ready; edges = m.edges; labels = m.labels ++ replicate count 0; bases = m.bases }

-- a copy of a function's pieces, whose labels are new
abbrev pub copied : OwnCall → ℕ → FunctionView → TemplateView → CopyView
copied c first f t = record { function = f; names = t.names; rest = t.pieces; depth = c.depth; labels = first; locals = replicate (length f.locals + 1) None; at = c.place; used = c.used }

abbrev pub joined : Option (Option TemplateView) → Option TemplateView
joined None = None
joined (Some t) = t

abbrev pub template_at : List (Option TemplateView) → ℕ → Option TemplateView
template_at ts n = joined (slice_get ts n)

-- the copy for a call comes on the stack
abbrev pub entered : OwnCall → List CopyView → Made → Option FunctionView → Option TemplateView → Inlined
entered c stack m None t = inlined stack m
entered c stack m (Some f) None = inlined stack m
entered c stack m (Some f) (Some t) = inlined (copied c (length m.labels) f t ∷ stack) (with_labels t.labels m)

abbrev pub with_call : UnitView → List (Option TemplateView) → OwnCall → List CopyView → Made → Inlined
with_call u ts c stack m = entered c stack m (slice_get u.functions c.function) (template_at ts c.function)

-- a call's first temporary is counted from that of the copy in which it stands
abbrev pub inner : OwnCall → CopyView → OwnCall
inner c caller = record { place = c.place; function = c.function; depth = behind c.depth caller.depth; used = c.used }

abbrev pub back_in : List CopyView → Placed → Inlined
back_in stack p = inlined (p.within ∷ stack) p.program

abbrev pub turn : UnitView → List (Option TemplateView) → PieceView → CopyView → List CopyView → Made → Inlined
turn u ts (Do s) c stack m = back_in stack (with_piece u (Do s) (placed m c))
turn u ts (DoIfUsed s) c stack m = back_in stack (with_piece u (DoIfUsed s) (placed m c))
turn u ts (End s exits) c stack m = back_in stack (with_piece u (End s exits) (placed m c))
turn u ts (Mark label) c stack m = back_in stack (with_piece u (Mark label) (placed m c))
turn u ts (Call call) c stack m = with_call u ts (inner call c) (c ∷ stack) m

abbrev pub with_rest : List PieceView → CopyView → CopyView
with_rest rest c = record { function = c.function; names = c.names; rest = rest; depth = c.depth; labels = c.labels; locals = c.locals; at = c.at; used = c.used }

-- the next piece of the innermost copy; a copy without further pieces is finished
abbrev pub next_piece : UnitView → List (Option TemplateView) → List PieceView → CopyView → List CopyView → Made → Inlined
next_piece u ts [] c stack m = inlined stack m
next_piece u ts (p ∷ ps) c stack m = turn u ts p (with_rest ps c) stack m

abbrev pub next : UnitView → List (Option TemplateView) → CopyView → List CopyView → Made → Inlined
next u ts c stack m = next_piece u ts c.rest c stack m

-- so many turns, until no copy is left
abbrev pub run : UnitView → List (Option TemplateView) → ℕ → List CopyView → Made → Inlined
run u ts zero stack m = inlined stack m
run u ts (suc n) [] m = inlined [] m
run u ts (suc n) (c ∷ stack) m = run u ts n (next u ts c stack m).stack (next u ts c stack m).program

abbrev pub with_local : UnitView → ℕ → Placed → Placed
with_local u n p = after_naming (base u p.within.function (Local n) p.within.locals p.program.bases) p

-- the bases of the entry's parameters come first
abbrev pub with_parameters : UnitView → ℕ → Placed → Placed
with_parameters u zero p = p
with_parameters u (suc n) p = with_local u n (with_parameters u n p)

abbrev pub entry_call : Place → ℕ → OwnCall
entry_call at f = record { place = at; function = f; depth = 0; used = false }

abbrev pub nothing_made : UnitView → Made
nothing_made u = record { blocks = []; ready = []; edges = []; labels = []; bases = record { bases = []; width = 0; objects = replicate (length u.objects) None; literals = replicate (length u.literals) None } }

abbrev pub all_run : UnitView → List (Option TemplateView) → List CopyView → Placed → Inlined
all_run u ts stack p = run u ts (2 ^ 64 - 1) (p.within ∷ stack) p.program

abbrev pub entry_run : UnitView → List (Option TemplateView) → List CopyView → Made → Inlined
entry_run u ts [] m = inlined [] m
entry_run u ts (c ∷ stack) m = all_run u ts stack (with_parameters u c.function.parameters (placed m c))

-- all is opened, and edges lead to labels
abbrev pub unresolved : UnitView → List (Option TemplateView) → Inlined → Inlined
unresolved u ts o = entry_run u ts o.stack o.program

abbrev pub whole : UnitView → List (Option TemplateView) → Place → Inlined
whole u ts at = unresolved u ts (with_call u ts (entry_call at u.entry) [] (nothing_made u))

-- the copies that are not finished when all turns are made
abbrev pub unfinished : UnitView → List (Option TemplateView) → Place → List CopyView
unfinished u ts at = (whole u ts at).stack

-- each edge leads to a block in place of a label
abbrev pub resolved_edge : List ℕ → EdgeView → EdgeView
resolved_edge labels e = edge_to e.from (get_or labels e.to 0) e.taken

abbrev pub resolved : List ℕ → List EdgeView → List EdgeView
resolved labels es = map (resolved_edge labels) es

abbrev pub as_head : BlockView → BlockView
as_head b = record { steps = b.steps; first_edge = b.first_edge; edges = b.edges; is_head = true }

abbrev pub head_set : List BlockView → ℕ → List BlockView
head_set [] n = []
head_set (b ∷ bs) zero = as_head b ∷ bs
head_set (b ∷ bs) (suc n) = b ∷ head_set bs n

abbrev pub head_if : EdgeView → List BlockView → List BlockView
head_if e bs = cond (nat_le e.to e.from) (head_set bs e.to) bs

-- the heads: the blocks that an edge from the same or a later block leads to
abbrev pub with_heads : List EdgeView → List BlockView → List BlockView
with_heads [] bs = bs
with_heads (e ∷ es) bs = with_heads es (head_if e bs)

-- the blocks, edges and bases of a program
pub record ProgramView : Type 0 where
  pub blocks : List BlockView
  pub edges : List EdgeView
  pub bases : TableView

abbrev pub program_view : InlinedProgram → ProgramView
program_view p = record { blocks = map block p.blocks.items; edges = map edge p.edges.items; bases = table p.bases }

abbrev pub finished : Made → ProgramView
finished m = record { blocks = with_heads (resolved m.labels m.edges) m.blocks; edges = resolved m.labels m.edges; bases = m.bases }

-- the entry's program with every call put in at its place
abbrev pub program : UnitView → List (Option TemplateView) → Place → ProgramView
program u ts at = finished (whole u ts at).program
