-- Which edge a run of templates takes at the end of a block: it goes on behind the label to which the edge leads.
use Rattle.std.specs.Prelude.{ℕ, ℤ, ◌==◌, pos, cond, List, [], ◌∷◌, Option, Some, None}
use Rattle.cc_base.specs.declared.int_types.IntType.{IntType}
use Rattle.c_layout.specs.Types.{Ty}
use Rattle.cfg.specs.declared.flow_edges.Side.{Side}
use Rattle.cfg.specs.declared.flow_edges.Side.TheVariants as side
use Rattle.cfg.specs.declared.flow_edges.Test.{Test}
use Rattle.memory_model.specs.Memory.Labels.{no_labels}
use Rattle.memory_model.specs.Memory.Scalars.{Scalar, integer}
use Rattle.memory_model.specs.Effects.Worlds.{Ended, Reply, goes, stops, behind}
use Rattle.memory_model.specs.Effects.Operands.{with_number}
use Rattle.memory_model.specs.Effects.LibraryCalls.{fgets}
use Rattle.memory_model.specs.Effects.Tests.{TestedSide, object, constant, nothing, pass_test, pass_case}
use Rattle.lower_templates.specs.Worklist.Acts as act
use Rattle.lower_templates.specs.Worklist.Acts.{Act}
use Rattle.lower_templates.specs.Worklist.Pieces.{Way, Always, When, Case, Other, NoLine, Line, ExitView, PieceView, Mark, NameView}
use Rattle.lower_templates.specs.Worklist.TermKinds.{integer_type}
use Rattle.semantics.specs.CfgMachine.FlowStates.{values_of}
use Rattle.semantics.specs.CfgMachine.FlowEdges.{is_taken}
use Rattle.semantics.specs.SourceMachine.SourceStates.{type_of}
use Rattle.semantics.specs.TemplateMachine.TemplateStates.{Templates, TemplateState, stuck_at, if_some, with_temp, on, put, with_world, going_on, with_name, object_of, with_instance, scene}

-- ---- labels

-- the pieces behind the mark of a label
abbrev pub behind_mark : ℕ → List PieceView → Option (List PieceView)
behind_mark l [] = None
behind_mark l (Mark m ∷ ps) = cond (l == m) (Some ps) (behind_mark l ps)
behind_mark l (p ∷ ps) = behind_mark l ps

abbrev pub at_label : Templates → TemplateState → ℕ → Reply TemplateState
at_label t s l = if_some s (behind_mark l (t.of s.function).pieces) (λ rest. on (going_on s rest))

-- ---- tests

abbrev pub with_side : Templates → TemplateState → Side → (TestedSide → Reply TemplateState) → Reply TemplateState
with_side t s (side.Object base kind) use_it = with_instance t s base (λ i. use_it (object i kind))
with_side t s (side.Number n) use_it = use_it (constant n)
with_side t s side.Null use_it = use_it nothing

abbrev pub in_world : TemplateState → Reply (Unit {0}) → Reply TemplateState
in_world s reply = behind reply (λ _ w. on (with_world s w))

abbrev pub testing : Templates → TemplateState → Option Test → Reply TemplateState
testing t s None = on s
testing t s (Some test) = with_side t s test.left (λ left. with_side t s test.right (λ right. in_world s (pass_test t.unit.model (record { left = left; rel = test.rel; right = right; common = test.common }) s.world)))

-- the type of an object that is switched on
abbrev pub with_kind : Templates → TemplateState → Option Ty → (IntType → Reply TemplateState) → Reply TemplateState
with_kind t s found use_it = if_some s found (λ ctype. use_it (integer_type ctype))

abbrev pub typed_object : Templates → TemplateState → NameView → (IntType → Reply TemplateState) → Reply TemplateState
typed_object t s name use_it = if_some s (object_of t s name) (λ o. with_kind t s (type_of t.unit (scene s) o) use_it)

abbrev pub matching : Templates → TemplateState → ℤ → Option ℕ → Reply TemplateState
matching t s value None = on s
matching t s value (Some base) = with_instance t s base (λ i. with_name t s base (λ name. typed_object t s name (λ kind. in_world s (pass_case t.unit.model i kind value s.world))))

-- ---- edges

abbrev pub with_put : Option (ℕ × ℤ) → TemplateState → TemplateState
with_put None s = s
with_put (Some p) s = put s p.0 (integer p.1 no_labels) s.world

abbrev pub on_way : Templates → TemplateState → Way → Reply TemplateState
on_way t s (When truth test puts) = behind (testing t s test) (λ s w. on (with_put puts s))
on_way t s (Case test) = matching t s test.value test.object
on_way t s way = on s

abbrev pub exit_taken : Scalar → List ExitView → Option ExitView
exit_taken v [] = None
exit_taken v (e ∷ es) = cond (is_taken v e.taken) (Some e) (exit_taken v es)

abbrev pub along : Templates → TemplateState → Option ExitView → Reply TemplateState
along t s None = stuck_at s
along t s (Some e) = behind (on_way t s e.taken) (λ s w. at_label t s e.to)

abbrev pub on_exit : Templates → TemplateState → List ExitView → Scalar → Reply TemplateState
on_exit t s exits v = along t s (exit_taken v exits)

-- ---- the instructions that end a block

abbrev pub put_if : Option ℕ → Scalar → TemplateState → TemplateState
put_if None v s = s
put_if (Some to) v s = put s to v s.world

abbrev pub line_read : Templates → List ExitView → Option ℕ → TemplateState → List Scalar → Reply TemplateState
line_read t exits to s arguments = behind (fgets t.unit.model arguments s.world) (λ v w. on_exit t (put_if to v (with_world s w)) exits v)

abbrev pub end_block : Templates → Act → List ExitView → TemplateState → Reply TemplateState
end_block t act.Jump exits s = on_exit t s exits (integer (pos 0) no_labels)
end_block t (act.Branch from kind) exits s = with_temp s from (on_exit t s exits)
end_block t (act.Switch from kind) exits s = with_temp s from (λ v. with_number v s.world (λ n labels w. on_exit t s exits v))
end_block t (act.ReadLine to text count stream) exits s = if_some s (values_of s.temps (text ∷ (count ∷ (stream ∷ [])))) (line_read t exits to s)
end_block t act.Stop exits s = stops Ended s.world
end_block t a exits s = stuck_at s
