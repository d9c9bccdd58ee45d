-- The numbers that a program speaks of hang on its view.
use Rattle.std.specs.Prelude.{◌≡◌, ℤ, pos, negsuc, true, List, [], ◌∷◌, ◌++◌, map, refl}
use Rattle.std.proofs.Common.{sym, ap, ap₂, subst₂, ◌∙◌}
use Rattle.cc_base.specs.Ascending.{is_ascending}
use Rattle.cfg.specs.FlowNumbers.{operation_numbers, edge_numbers, instructions_numbers, blocks_numbers, edges_numbers, bases_numbers}
use Rattle.cfg.specs.Nearest.{AreThresholds}
use Rattle.cfg.specs.StructNumbers.{structs_numbers, flow_numbers}
use Rattle.cfg.specs.ThresholdNumbers.{neighbours, limits_of}
use Rattle.cfg.specs.declared.basic_blocks.BasicBlock.{BasicBlock}
use Rattle.cfg.specs.declared.flow_edges.Edge.{Edge}
use Rattle.cfg.specs.declared.flow_edges.EdgeKind.{EdgeKind}
use Rattle.cfg.specs.declared.flow_edges.EdgeKind.TheVariants as kind
use Rattle.cfg.specs.declared.machine_instructions.Instruction.{Instruction}
use Rattle.cfg.specs.declared.machine_instructions.Operation.{Operation}
use Rattle.cfg.specs.declared.machine_instructions.Operation.TheVariants as op
use Rattle.cfg.specs.declared.programs.Flow.{Flow}
use Rattle.lower_templates.specs.Worklist.Acts.{Act, act, Step, step}
use Rattle.lower_templates.specs.Worklist.Acts as acts
use Rattle.lower_templates.specs.Worklist.Pieces.{Way, way}
use Rattle.lower_templates.specs.Worklist.Pieces as ways
use Rattle.lower_templates.specs.Views.ProgramViews.{BlockView, block, EdgeView, edge, FlowView, flow_view}
use Rattle.analysis_determined.proofs.program_views.OneList.{one_thresholds}

-- ---- operations and edges

abbrev act_numbers : Act → List ℤ
act_numbers (acts.Constant to n kind) = neighbours n
act_numbers (acts.Narrow to from offset size) = pos size ∷ []
act_numbers _ = []

act_is : (p : Operation) → operation_numbers p ≡ act_numbers (act p)
act_is (op.Constant to n kind) = refl
act_is (op.Narrow to from offset size) = refl
act_is _ = refl

abbrev way_numbers : Way → List ℤ
way_numbers (ways.Case test) = neighbours test.value
way_numbers _ = []

way_is : (k : EdgeKind) → edge_numbers k ≡ way_numbers (way k)
way_is (kind.Case test) = refl
way_is _ = refl

-- ---- lists of them

abbrev steps_numbers : List Step → List ℤ
steps_numbers [] = []
steps_numbers (s ∷ ss) = act_numbers s.does ++ steps_numbers ss

steps_are : (is : List Instruction) → instructions_numbers is ≡ steps_numbers (map step is)
steps_are [] = refl
steps_are (i ∷ is) = ap₂ (λ (a b : List ℤ). a ++ b) (act_is i.operation) (steps_are is)

abbrev block_views_numbers : List BlockView → List ℤ
block_views_numbers [] = []
block_views_numbers (b ∷ bs) = steps_numbers b.steps ++ block_views_numbers bs

blocks_are : (bs : List BasicBlock) → blocks_numbers bs ≡ block_views_numbers (map block bs)
blocks_are [] = refl
blocks_are (b ∷ bs) = ap₂ (λ (x y : List ℤ). x ++ y) (steps_are b.instructions.items) (blocks_are bs)

abbrev edge_views_numbers : List EdgeView → List ℤ
edge_views_numbers [] = []
edge_views_numbers (e ∷ es) = way_numbers e.taken ++ edge_views_numbers es

edges_are : (es : List Edge) → edges_numbers es ≡ edge_views_numbers (map edge es)
edges_are [] = refl
edges_are (e ∷ es) = ap₂ (λ (x y : List ℤ). x ++ y) (way_is e.kind) (edges_are es)

-- ---- programs

abbrev view_numbers : FlowView → List ℤ
view_numbers v = ((block_views_numbers v.blocks ++ edge_views_numbers v.edges) ++ bases_numbers v.bases) ++ structs_numbers v.structs v.model.pointer v.structs ++ (negsuc 0 ∷ (pos 0 ∷ (pos 1 ∷ [])))

numbers_are : (f : Flow) → flow_numbers f ≡ view_numbers (flow_view f)
numbers_are f =
    let v : FlowView = flow_view f in
    ap₂ (λ (x y : List ℤ). ((x ++ y) ++ bases_numbers v.bases) ++ structs_numbers v.structs v.model.pointer v.structs ++ (negsuc 0 ∷ (pos 0 ∷ (pos 1 ∷ [])))) (blocks_are f.blocks.items) (edges_are f.edges.items)

pub same_numbers : (f g : Flow) → flow_view f ≡ flow_view g → flow_numbers f ≡ flow_numbers g
same_numbers f g h = numbers_are f ∙ (ap view_numbers h ∙ sym (numbers_are g))

pub same_limits : (f g : Flow) → flow_view f ≡ flow_view g → limits_of f.model ≡ limits_of g.model
same_limits f g h = ap (λ (v : FlowView). limits_of v.model) h

pub one_list_of_views : (f g : Flow) → flow_view f ≡ flow_view g → (xs ys : List ℤ) → AreThresholds (limits_of f.model) (flow_numbers f) xs → AreThresholds (limits_of g.model) (flow_numbers g) ys → is_ascending xs ≡ true → is_ascending ys ≡ true → xs ≡ ys
one_list_of_views f g h xs ys a b =
    one_thresholds (limits_of g.model) (flow_numbers g) xs ys (subst₂ (λ (l n : List ℤ). AreThresholds l n xs) (same_limits f g h) (same_numbers f g h) a) b
