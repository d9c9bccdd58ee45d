-- Which edge a run takes at the end of a block, and what it does there.
use Rattle.std.specs.Prelude.{ℕ, ℤ, Bool, true, false, not, cond, ◌||◌, List, [], ◌∷◌, take, drop, Option, Some, None, slice_get}
use Rattle.std.specs.Ordering.{int_eq}
use Rattle.cc_base.specs.declared.int_types.IntType.{IntType}
use Rattle.c_layout.specs.declared.leaf_lists.Leaf.{Leaf}
use Rattle.c_layout.specs.declared.shapes.BaseInfo.{BaseInfo}
use Rattle.cfg.specs.declared.flow_edges.Side.{Side}
use Rattle.cfg.specs.declared.flow_edges.Side.TheVariants as side
use Rattle.cfg.specs.declared.flow_edges.Test.{Test}
use Rattle.memory_model.specs.Memory.Labels.{no_labels}
use Rattle.memory_model.specs.Memory.Scalars.{Scalar, integer, pointer, is_false}
use Rattle.memory_model.specs.Effects.Worlds.{Reply, goes, behind}
use Rattle.memory_model.specs.Effects.Tests.{TestedSide, object, constant, nothing, pass_test, pass_case}
use Rattle.lower_templates.specs.Worklist.Pieces.{Way, Always, When, Case, Other, NoLine, Line}
use Rattle.lower_templates.specs.Views.ProgramViews.{BlockView, EdgeView, FlowView}
use Rattle.semantics.specs.CfgMachine.FlowStates.{ProgramState, stuck_at, if_some, with_instance, put}

-- ---- which edge is taken

abbrev pub same_truth : Bool → Bool → Bool
same_truth true b = b
same_truth false b = not b

abbrev pub is_number : Scalar → ℤ → Bool
is_number (integer n labels) value = int_eq n value
is_number (pointer p) value = false

abbrev pub is_among : Scalar → List ℤ → Bool
is_among v [] = false
is_among v (n ∷ ns) = is_number v n || is_among v ns

-- whether an edge is taken with what its block's last instruction looks at
abbrev pub is_taken : Scalar → Way → Bool
is_taken v Always = true
is_taken v (When truth test puts) = same_truth truth (not (is_false v))
is_taken v (Case test) = is_number v test.value
is_taken v (Other values) = not (is_among v values)
is_taken v NoLine = is_false v
is_taken v Line = not (is_false v)

abbrev pub edge_taken : Scalar → List EdgeView → Option EdgeView
edge_taken v [] = None
edge_taken v (e ∷ es) = cond (is_taken v e.taken) (Some e) (edge_taken v es)

abbrev pub edges_of : FlowView → BlockView → List EdgeView
edges_of f b = take b.edges (drop b.first_edge f.edges)

-- ---- tests

abbrev pub with_side : ProgramState → Side → (TestedSide → Reply ProgramState) → Reply ProgramState
with_side s (side.Object base kind) use_it = with_instance s base (λ i. use_it (object i kind))
with_side s (side.Number n) use_it = use_it (constant n)
with_side s side.Null use_it = use_it nothing

abbrev pub in_world : ProgramState → Reply (Unit {0}) → Reply ProgramState
in_world s reply = behind reply (λ _ w. goes (record s { world = w }) w)

-- the run goes on where the test of an edge agrees with memory
abbrev pub testing : FlowView → ProgramState → Option Test → Reply ProgramState
testing f s None = goes s s.world
testing f s (Some t) = with_side s t.left (λ left. with_side s t.right (λ right. in_world s (pass_test f.model (record { left = left; rel = t.rel; right = right; common = t.common }) s.world)))

-- ---- cases

abbrev pub first_signed : List Leaf → Bool
first_signed [] = false
first_signed (leaf ∷ leaves) = leaf.signed

-- the type of an object that is an integer
abbrev pub integer_in : BaseInfo → IntType
integer_in b = record { bytes = b.size; signed = first_signed b.shape.cells; rank = 0 }

-- the run goes on where the object that is switched on has the label's value
abbrev pub matching : FlowView → ProgramState → ℤ → Option ℕ → Reply ProgramState
matching f s value None = goes s s.world
matching f s value (Some base) = if_some s (slice_get f.bases base) (λ b. with_instance s base (λ i. in_world s (pass_case f.model i (integer_in b) value s.world)))

-- ---- what an edge does

abbrev pub with_put : Option (ℕ × ℤ) → ProgramState → ProgramState
with_put None s = s
with_put (Some p) s = put s p.0 (integer p.1 no_labels) s.world

abbrev pub on_way : FlowView → ProgramState → Way → Reply ProgramState
on_way f s (When truth test puts) = behind (testing f s test) (λ s w. goes (with_put puts s) w)
on_way f s (Case test) = matching f s test.value test.object
on_way f s other = goes s s.world

-- the run goes on at the start of the block that the edge enters
abbrev pub at_block : ℕ → ProgramState → ProgramState
at_block to s = record s { block = to; at = 0 }

abbrev pub along : FlowView → ProgramState → Option EdgeView → Reply ProgramState
along f s None = stuck_at s
along f s (Some e) = behind (on_way f s e.taken) (λ s w. goes (at_block e.to s) w)
