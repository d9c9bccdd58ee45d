-- A small unit, opened: main has an object, calls f and stops; f has an object too, and a label.
use Rattle.std.proofs.Common.{◌≡◌, ℕ, true, false, List, [], ◌∷◌, Option, Some, None, refl}
use Rattle.cc_base.specs.declared.diagnostics.Place.{Place}
use Rattle.c_layout.specs.Types.{Ty, Int, Pointer, Void}
use Rattle.c_layout.specs.CheckedUnits.{FunctionView, LocalView, StaticView, SetValue, UnitView}
use Rattle.c_layout.specs.declared.checked_tree.checked_units.StaticBase.TheVariants as shared
use Rattle.c_layout.specs.declared.checked_tree.checked_units.StaticValue.TheVariants as value
use Rattle.c_layout.specs.declared.data_model.Model.{Model}
use Rattle.c_layout.specs.declared.shapes.BaseInfo.{BaseInfo}
use Rattle.c_layout.specs.declared.shapes.BaseKind.{BaseKind}
use Rattle.c_layout.specs.declared.shapes.BaseKind.TheVariants as kind
use Rattle.lower_templates.specs.Worklist.Acts.{Act, Enter, Leave, Jump, Stop, Step}
use Rattle.lower_templates.specs.Worklist.Pieces.{Local, Static, Allocation, Always, Do, End, Mark, Call, TemplateView}
use Rattle.lower_templates.specs.declared.worklist.template_pieces.OwnCall.{OwnCall}
use Rattle.lower_tables.specs.Bases.BaseTables.{TableView, base}
use Rattle.lower_templates.specs.Views.ProgramViews.{BlockView}
use Rattle.lower.specs.Inlining.Inlinings.{edge_to, nothing_made, program}

abbrev int_type : Ty
int_type = Int (record { bytes = 4; signed = true; rank = 3 })

abbrev local : Place → LocalView
local at = record { name = []; at = at; ctype = int_type }

abbrev function : Place → FunctionView
function at = record { name = []; at = at; returns = Void; parameters = 0; locals = local at ∷ []; scope = 0 ∷ []; body = []; labels = 0 }

-- char *text = "ab";
abbrev text : Place → StaticView
text at = record { name = []; at = at; ctype = Pointer int_type; stores = SetValue 0 (value.Address (shared.Literal 0) 0 0 3) ∷ [] }

abbrev unit : Place → Model → UnitView
unit at m = record { functions = function at ∷ function at ∷ []; constants = []; objects = text at ∷ []; structs = []; literals = record { at = at; bytes = 97 ∷ 98 ∷ [] } ∷ []; entry = 0; model = m }

abbrev does : Place → Act → Step
does at a = record { at = at; does = a }

abbrev call : Place → OwnCall
call at = record { place = at; function = 1; depth = 0; used = false }

abbrev main : Place → TemplateView
main at = record { pieces = Do (does at (Enter 0)) ∷ Call (call at) ∷ Call (call at) ∷ End (does at Stop) [] ∷ []; names = Local 0 ∷ []; labels = 0 }

abbrev called : Place → TemplateView
called at = record { pieces = Do (does at (Enter 0)) ∷ Mark 0 ∷ Do (does at (Leave 1)) ∷ []; names = Local 0 ∷ Local 0 ∷ []; labels = 1 }

abbrev templates : Place → List (Option TemplateView)
templates at = Some (main at) ∷ Some (called at) ∷ []

abbrev made : List Step → ℕ → ℕ → BlockView
made steps first edges = record { steps = steps; first_edge = first; edges = edges; is_head = false }

-- each copy has an object and a label of its own
inlined_blocks : (at : Place) (m : Model) → (program (unit at m) (templates at) at).blocks ≡
    made (does at (Enter 0) ∷ does at (Enter 1) ∷ does at Jump ∷ []) 0 1
    ∷ made (does at (Leave 1) ∷ does at (Enter 2) ∷ does at Jump ∷ []) 1 1
    ∷ made (does at (Leave 2) ∷ does at Stop ∷ []) 2 0
    ∷ []
inlined_blocks at m = refl

inlined_edges : (at : Place) (m : Model) → (program (unit at m) (templates at) at).edges ≡ edge_to 0 1 Always ∷ edge_to 1 2 Always ∷ []
inlined_edges at m = refl

abbrev kinds : List BaseInfo → List BaseKind
kinds [] = []
kinds (b ∷ bs) = b.kind ∷ kinds bs

abbrev start : Place → Model → TableView
start at m = (nothing_made (unit at m)).bases

-- the literal to which an object points comes behind it
static_kinds : (at : Place) (m : Model) → kinds (base (unit at m) (function at) (Static 0) (None ∷ None ∷ []) (start at m)).after.bases ≡ kind.Static ∷ kind.Literal ∷ []
static_kinds at m = refl

static_number : (at : Place) (m : Model) → (base (unit at m) (function at) (Static 0) (None ∷ None ∷ []) (start at m)).number ≡ 0
static_number at m = refl

static_noted : (at : Place) (m : Model) → (base (unit at m) (function at) (Static 0) (None ∷ None ∷ []) (start at m)).after.literals ≡ Some 1 ∷ []
static_noted at m = refl

-- an object that is named a second time has the base that it had
named_again : (at : Place) (m : Model) → (base (unit at m) (function at) (Local 0) (Some 5 ∷ None ∷ []) (start at m)).number ≡ 5
named_again at m = refl

-- an allocation is named by the newest of its bases
allocated_kinds : (at : Place) (m : Model) → kinds (base (unit at m) (function at) (Allocation None) (None ∷ None ∷ []) (start at m)).after.bases ≡ kind.Newest ∷ kind.Older ∷ []
allocated_kinds at m = refl

allocated_number : (at : Place) (m : Model) → (base (unit at m) (function at) (Allocation None) (None ∷ None ∷ []) (start at m)).number ≡ 0
allocated_number at m = refl
