-- What an edge makes of a row hangs on its view, on that of the instruction before it and on the parts of its program.
use Rattle.std.specs.Prelude.{◌≡◌, ℕ, cond, Option, Some, None, List, option_map, refl}
use Rattle.std.proofs.Common.{sym, ap, ap₂, ◌∙◌}
use Rattle.cc_base.specs.Lattices.{LatticeOf}
use Rattle.cc_base.specs.IntegerDomains.{IntegersOf}
use Rattle.cfg.specs.declared.programs.Flow.{Flow}
use Rattle.cfg.specs.declared.flow_edges.EdgeKind.{EdgeKind}
use Rattle.cfg.specs.declared.flow_edges.EdgeKind.TheVariants as kind
use Rattle.cfg.specs.declared.machine_instructions.Instruction.{Instruction}
use Rattle.cfg.specs.declared.machine_instructions.Operation.{Operation}
use Rattle.cfg.specs.declared.machine_instructions.Operation.TheVariants as op
use Rattle.lower_templates.specs.Worklist.Acts.{Act, act, Step, step}
use Rattle.lower_templates.specs.Worklist.Acts as acts
use Rattle.lower_templates.specs.Worklist.Pieces.{Way, way}
use Rattle.lower_templates.specs.Worklist.Pieces as ways
use Rattle.value_domain.specs.declared.values.row_cells.Cell.{Cell}
use Rattle.transfer_system.specs.CallSteps.{write_line}
use Rattle.transfer_system.specs.Refinements.{put_side, refine_one, refine_two, refine_sides, refine_values, refine_integers, refine_pointer, refine_named, refine, refine_case}
use Rattle.transfer_system.specs.Edges.{deciding_operand, deciding_of, line_of, line_call_of, put_null, last_instruction, is_other_than, switched, put_kept, refine_if, behind_test, branch_edge, refine_object, case_edge, no_line_edge, line_edge, follow}
use Rattle.analysis_determined.specs.UnrolledDiagnostics.SameParts.{SameParts}
use Rattle.analysis_determined.proofs.unrolled_diagnostics.SameOperations.{core, core_is, write_core}

-- ---- the instruction that ends a block

abbrev deciding_act : Act → Option ℕ
deciding_act (acts.Branch temp scalar) = Some temp
deciding_act (acts.Switch temp int_type) = Some temp
deciding_act _ = None

deciding_is : (p : Operation) → deciding_operand p ≡ deciding_act (act p)
deciding_is op.Stop = refl
deciding_is _ = refl

abbrev deciding_step : Option Step → Option ℕ
deciding_step None = None
deciding_step (Some s) = deciding_act s.does

deciding_of_is : (i : Option Instruction) → deciding_of i ≡ deciding_step (option_map step i)
deciding_of_is None = refl
deciding_of_is (Some i) = deciding_is i.operation

-- ---- edges by their views

module _ {I : Type 0} (l : LatticeOf I) (n : IntegersOf I) where
  -- the edges behind a call of `fgets`
  abbrev line_act : Flow → List (Cell I) → Act → Option (List (Cell I))
  line_act flow row (acts.ReadLine to line count stream) = write_line l n flow row to line count stream
  line_act flow row _ = None

  abbrev line_step : Flow → List (Cell I) → Option Step → Option (List (Cell I))
  line_step flow row None = None
  line_step flow row (Some s) = line_act flow row s.does

  abbrev no_line_act : Flow → List (Cell I) → Act → Option (List (Cell I))
  no_line_act flow row (acts.ReadLine to line count stream) = Some (put_null l flow to row)
  no_line_act flow row _ = None

  abbrev no_line_step : Flow → List (Cell I) → Option Step → Option (List (Cell I))
  no_line_step flow row None = None
  no_line_step flow row (Some s) = no_line_act flow row s.does

  line_is : (flow : Flow) (row : List (Cell I)) (p : Operation) → line_edge l n flow row (line_of p) ≡ line_act flow row (act p)
  unfolding line_edge
  line_is flow row op.Stop = refl
  line_is flow row _ = refl

  no_line_is : (flow : Flow) (row : List (Cell I)) (p : Operation) → no_line_edge l flow row (line_of p) ≡ no_line_act flow row (act p)
  unfolding no_line_edge
  no_line_is flow row op.Stop = refl
  no_line_is flow row _ = refl

  line_of_is : (flow : Flow) (row : List (Cell I)) (i : Option Instruction) → line_edge l n flow row (line_call_of i) ≡ line_step flow row (option_map step i)
  unfolding line_edge
  line_of_is flow row None = refl
  line_of_is flow row (Some i) = line_is flow row i.operation

  no_line_of_is : (flow : Flow) (row : List (Cell I)) (i : Option Instruction) → no_line_edge l flow row (line_call_of i) ≡ no_line_step flow row (option_map step i)
  unfolding no_line_edge
  no_line_of_is flow row None = refl
  no_line_of_is flow row (Some i) = no_line_is flow row i.operation

  -- an edge behind a block with a last instruction
  abbrev go : Flow → List (Cell I) → Option Step → Way → Option (List (Cell I))
  go flow row last ways.Always = Some row
  go flow row last (ways.When truth test kept) = branch_edge l n flow row (deciding_step last) truth test kept
  go flow row last (ways.Case test) = case_edge l n flow row (deciding_step last) test
  go flow row last (ways.Other labels) = cond (is_other_than (switched l n flow row (deciding_step last)) labels) (Some row) None
  go flow row last ways.NoLine = no_line_step flow row last
  go flow row last ways.Line = line_step flow row last

  go_is : (flow : Flow) (row : List (Cell I)) (from : ℕ) (k : EdgeKind) → follow l n flow row from k ≡ go flow row (option_map step (last_instruction flow from)) (way k)
  unfolding follow
  go_is flow row from kind.Jump = refl
  go_is flow row from (kind.When truth test kept) = ap (λ t. branch_edge l n flow row t truth test kept) (deciding_of_is (last_instruction flow from))
  go_is flow row from (kind.Case test) = ap (λ t. case_edge l n flow row t test) (deciding_of_is (last_instruction flow from))
  go_is flow row from (kind.Other labels) = ap (λ t. cond (is_other_than (switched l n flow row t) labels.items) (Some row) None) (deciding_of_is (last_instruction flow from))
  go_is flow row from kind.NoLine = no_line_of_is flow row (last_instruction flow from)
  go_is flow row from kind.Line = line_of_is flow row (last_instruction flow from)

  module _ (f g : Flow) (h : SameParts f g) where
    line_act_core : (row : List (Cell I)) (a : Act) → line_act (core f g h) row a ≡ line_act f row a
    line_act_core row (acts.ReadLine to line count stream) = write_core l n f g h row to line count stream
    line_act_core row _ = refl

    line_core : (row : List (Cell I)) (last : Option Step) → line_step (core f g h) row last ≡ line_step f row last
    line_core row None = refl
    line_core row (Some s) = line_act_core row s.does

    go_core : (row : List (Cell I)) (last : Option Step) (w : Way) → go (core f g h) row last w ≡ go f row last w
    unfolding branch_edge behind_test refine_if put_kept case_edge refine_object refine refine_case refine_integers refine_values refine_sides refine_one refine_two put_side refine_pointer refine_named
    go_core row last ways.Line = line_core row last
    go_core row last _ = refl

    -- behind blocks whose last instructions are alike, edges that are alike make the same of a row
    pub follow_same : (row : List (Cell I)) (from source : ℕ) (k j : EdgeKind) → way k ≡ way j → option_map step (last_instruction f from) ≡ option_map step (last_instruction g source) → follow l n g row source j ≡ follow l n f row from k
    follow_same row from source k j e s =
        go_is g row source j
        ∙ (ap (λ z. go z row (option_map step (last_instruction g source)) (way j)) (sym (core_is f g h))
        ∙ (go_core row (option_map step (last_instruction g source)) (way j)
        ∙ (ap₂ (λ x y. go f row x y) (sym s) (sym e) ∙ sym (go_is f row from k))))
