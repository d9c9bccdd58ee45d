-- The pieces of a template, as contracts see them.
use Rattle.std.specs.Prelude.{ℕ, ℤ, Bool, List, map, Option, Some, None}
use Rattle.std.specs.Borrow.{Bor}
use Rattle.c_layout.specs.Types.{Ty, view}
use Rattle.c_layout.specs.declared.type_terms.CType.{CType}
use Rattle.cfg.specs.declared.flow_edges.Test.{Test}
use Rattle.cfg.specs.declared.flow_edges.CaseTest.{CaseTest}
use Rattle.cfg.specs.declared.flow_edges.EdgeKind.{EdgeKind}
use Rattle.cfg.specs.declared.flow_edges.EdgeKind.TheVariants as edge
use Rattle.lower_templates.specs.declared.worklist.template_pieces.BaseName.{BaseName}
use Rattle.lower_templates.specs.declared.worklist.template_pieces.BaseName.TheVariants as base
use Rattle.lower_templates.specs.declared.worklist.template_pieces.Exit.{Exit}
use Rattle.lower_templates.specs.declared.worklist.template_pieces.OwnCall.{OwnCall}
use Rattle.lower_templates.specs.declared.worklist.template_pieces.Piece.{Piece}
use Rattle.lower_templates.specs.declared.worklist.template_pieces.Piece.TheVariants as piece
use Rattle.lower_templates.specs.declared.worklist.template_pieces.Template.{Template}
use Rattle.lower_templates.specs.Worklist.Acts.{Step, step}

-- what a base of a template is
pub data NameView : Type 0 where
  Local : (number : ℕ) → NameView
  Outcome : NameView
  Static : (number : ℕ) → NameView
  Literal : (number : ℕ) → NameView
  Allocation : (target : Option Ty) → NameView

abbrev pub target_view : Option (Bor CType) → Option Ty
target_view None = None
target_view (Some t) = Some (view t.now)

abbrev pub name_view : BaseName → NameView
name_view (base.Local n) = Local n
name_view base.Outcome = Outcome
name_view (base.Static n) = Static n
name_view (base.Literal n) = Literal n
name_view (base.Allocation target) = Allocation (target_view target)

-- when an edge is taken, and what it does
pub data Way : Type 0 where
  Always : Way
  When : (truth : Bool) (test : Option Test) (puts : Option (ℕ × ℤ)) → Way
  Case : (test : CaseTest) → Way
  Other : (values : List ℤ) → Way
  NoLine : Way
  Line : Way

abbrev pub way : EdgeKind → Way
way edge.Jump = Always
way (edge.When truth test puts) = When truth test puts
way (edge.Case test) = Case test
way (edge.Other values) = Other values.items
way edge.NoLine = NoLine
way edge.Line = Line

-- an edge to a label of the template
pub record ExitView : Type 0 where
  pub to : ℕ
  pub taken : Way

abbrev pub exit_view : Exit → ExitView
exit_view e = record { to = e.to; taken = way e.kind }

abbrev pub exits_view : List Exit → List ExitView
exits_view es = map exit_view es

pub data PieceView : Type 0 where
  Do : (step : Step) → PieceView
  DoIfUsed : (step : Step) → PieceView
  End : (step : Step) (exits : List ExitView) → PieceView
  Mark : (label : ℕ) → PieceView
  Call : (call : OwnCall) → PieceView

abbrev pub piece_view : Piece → PieceView
piece_view (piece.Do i) = Do (step i)
piece_view (piece.DoIfUsed i) = DoIfUsed (step i)
piece_view (piece.End i exits) = End (step i) (exits_view exits.items)
piece_view (piece.Mark label) = Mark label
piece_view (piece.Call call) = Call call

-- a function's pieces, bases and labels
pub record TemplateView : Type 0 where
  pub pieces : List PieceView
  pub names : List NameView
  pub labels : ℕ

abbrev pub template_view : Template → TemplateView
template_view t = record { pieces = map piece_view t.pieces.items; names = map name_view t.names.items; labels = t.labels }
