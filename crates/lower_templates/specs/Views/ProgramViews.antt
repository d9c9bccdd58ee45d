-- Control-flow programs, as contracts see them: without the memory in which they stand.
use Rattle.std.specs.Prelude.{ℕ, Bool, List, map, Option}
use Rattle.cc_base.specs.declared.diagnostics.Place.{Place}
use Rattle.c_layout.specs.CheckedUnits.{StaticStoreView, static_store_view}
use Rattle.c_layout.specs.StructViews.{StructView, structs_view}
use Rattle.c_layout.specs.declared.checked_tree.checked_units.StaticBase.{StaticBase}
use Rattle.c_layout.specs.declared.data_model.Model.{Model}
use Rattle.c_layout.specs.declared.shapes.BaseInfo.{BaseInfo}
use Rattle.cfg.specs.declared.basic_blocks.BasicBlock.{BasicBlock}
use Rattle.cfg.specs.declared.flow_edges.Edge.{Edge}
use Rattle.cfg.specs.declared.programs.Flow.{Flow}
use Rattle.cfg.specs.declared.programs.InitialObject.{InitialObject}
use Rattle.cfg.specs.declared.programs.InitialValue.{InitialValue}
use Rattle.cfg.specs.declared.programs.InitialValue.TheVariants as value
use Rattle.cfg.specs.declared.programs.ParameterInput.{ParameterInput}
use Rattle.lower_templates.specs.Worklist.Acts.{Step, step}
use Rattle.lower_templates.specs.Worklist.Pieces.{Way, way}

pub record BlockView : Type 0 where
  pub steps : List Step
  pub first_edge : ℕ
  pub edges : ℕ
  pub is_head : Bool

abbrev pub block : BasicBlock → BlockView
block b = record { steps = map step b.instructions.items; first_edge = b.first_edge; edges = b.edges; is_head = b.is_head }

pub record EdgeView : Type 0 where
  pub from : ℕ
  pub to : ℕ
  pub taken : Way

abbrev pub edge : Edge → EdgeView
edge e = record { from = e.from; to = e.to; taken = way e.kind }

-- all zero and then stores, or the characters of a literal
pub data BytesView : Type 0 where
  Stored : (stores : List StaticStoreView) → BytesView
  Spelled : (text : List ℕ) → BytesView

abbrev pub bytes : InitialValue → BytesView
bytes (value.Stores stores) = Stored (map static_store_view stores.items)
bytes (value.Literal text) = Spelled text

pub record InitialView : Type 0 where
  pub object : StaticBase
  pub size : ℕ
  pub base : Option ℕ
  pub first : BytesView

abbrev pub initial : InitialObject → InitialView
initial o = record { object = o.object; size = o.size; base = o.base; first = bytes o.value }

pub record FlowView : Type 0 where
  pub blocks : List BlockView
  pub edges : List EdgeView
  pub bases : List BaseInfo
  pub temps : ℕ
  pub initial : List InitialView
  pub parameters : List ParameterInput
  pub entry : Place
  pub structs : List StructView
  pub width : ℕ
  pub model : Model

abbrev pub flow_view : Flow → FlowView
flow_view f = record {
  blocks = map block f.blocks.items;
  edges = map edge f.edges.items;
  bases = f.bases.items;
  temps = f.temps;
  initial = map initial f.initial.items;
  parameters = f.parameters.items;
  entry = f.entry;
  structs = structs_view f.structs;
  width = f.width;
  model = f.model;
}
