-- How programs come to have types: from templates that keep to what is known.
use Rattle.std.specs.Prelude.{◌≡◌, ◌≤◌, ◌<◌, ℕ, suc, Bool, true, List, [], ◌∷◌, length, Option, Some, None, slice_get}
use Rattle.std.specs.List.{Contains, list_all}
use Rattle.cc_base.specs.declared.diagnostics.Place.{Place}
use Rattle.c_layout.specs.CheckedUnits.{FunctionView, UnitView}
use Rattle.c_layout.specs.Types.{Ty}
use Rattle.lower.specs.Inlining.Inlinings.{ProgramView, template_at, program}
use Rattle.lower_tables.specs.Counts.Preparations.{are_counted, AreCounts}
use Rattle.lower_tables.specs.Counts.NormalizedTemplates.{normalized}
use Rattle.lower_objects.specs.declared.counts.function_counts.FunctionCounts.{FunctionCounts}
use Rattle.typed_programs.specs.PlainUnits.ShortArrays.{has_short_objects}
use Rattle.typed_lowering.specs.LoopedUnits.CalmTemplates.{IsCalm}
use Rattle.typed_lowering.specs.LoopedUnits.LoopedUnits.{is_looped_function}
use Rattle.lower_template_theorems.specs.PendingLabels.Marks.{all_marked}
use Rattle.lower_template_theorems.specs.PendingLabels.Marks.{below as label_is_below}
use Rattle.typed_programs.specs.PlainWorklists.LeadingPieces.{Marked, NoLabel}
use Rattle.lower_templates.specs.Worklist.Acts.{Step}
use Rattle.lower_templates.specs.Worklist.Pieces.{PieceView, Call, TemplateView}
use Rattle.typed_programs.specs.Types.StandingTypes.{AreLaidOut, Stands}
use Rattle.typed_programs.specs.Types.TypedPrograms.{IsTypedWay, HasTypedObjects}
use Rattle.typed_programs.specs.Types.TypedStates.{Temporaries}
use Rattle.lower_templates.specs.Views.ProgramViews.{BlockView, EdgeView}
use Rattle.simulation_layout.specs.Copies.LowTemporaries.{IsActLow}
use Rattle.typed_lowering.specs.Conversions.TypedActs.{IsTypedAct}
use Rattle.typed_lowering.specs.Conversions.TypedBases.{HasTypes, HasOwnTypes, HasOwnLocals}
use Rattle.typed_lowering.specs.Conversions.TypedObjects.{begins, is_typed_object, is_own_function}
use Rattle.typed_lowering.specs.Conversions.TypedPieces.{IsTypedTemplate}
use Rattle.typed_lowering.specs.Conversions.TypedUnits.{has_own_types}

-- ---- types

-- a type stands where it begins
abbrev pub TypesStandWhereTheyBegin : Type 0
TypesStandWhereTheyBegin = (u : UnitView) → AreLaidOut u.model u.structs → (outer t : Ty) (x : ℕ) → begins u outer t x ≡ true → Stands u.structs u.model.pointer outer t x

abbrev pub TypedObjectsAreTyped : Type 0
TypedObjectsAreTyped = (u : UnitView) → AreLaidOut u.model u.structs → list_all (is_typed_object u) u.objects ≡ true → HasTypedObjects u

abbrev pub ShortTypesAreOwn : Type 0
ShortTypesAreOwn = (u : UnitView) → has_short_objects u ≡ true → has_own_types u ≡ true → HasOwnTypes u

abbrev pub LoopedLocalsAreOwn : Type 0
LoopedLocalsAreOwn = (u : UnitView) (calls : ℕ → Bool) (f : FunctionView) → is_looped_function u calls f ≡ true → is_own_function u f ≡ true → HasOwnLocals u f

-- ---- settled templates

-- each of a template's labels is marked once at most, and all are numbers below their count
abbrev pub NormalizedTemplatesAreTyped : Type 0
NormalizedTemplatesAreTyped = (u : UnitView) (f : FunctionView) (calls : ℕ → Bool) (used : Bool) (t : TemplateView) (table : List (Option FunctionCounts)) → AreCounts u table → are_counted table t.pieces ≡ true → IsCalm calls t → ((l : ℕ) → all_marked l t.pieces ≤ label_is_below l t.labels)
    → IsTypedTemplate u f used t → IsTypedTemplate u f used (normalized table t)

-- and stay calm
abbrev pub NormalizedTemplatesAreCalm : Type 0
NormalizedTemplatesAreCalm = (calls : ℕ → Bool) (t : TemplateView) (table : List (Option FunctionCounts)) → ((l : ℕ) → all_marked l t.pieces ≤ label_is_below l t.labels) → IsCalm calls t → IsCalm calls (normalized table t)

-- ---- programs

abbrev pub steps_of : Option BlockView → List Step
steps_of None = []
steps_of (Some b) = b.steps

abbrev pub steps_in : ProgramView → ℕ → List Step
steps_in p block = steps_of (slice_get p.blocks block)

-- no step names the last temporary that there is
abbrev pub HasLowSteps : ProgramView → Type 0
HasLowSteps p = (block at : ℕ) (x : Step) → slice_get (steps_in p block) at ≡ Some x → IsActLow x.does

-- the types of bases, and what is known before each step of each block; each step and each edge keeps to them
pub record IsTypedInlining (u : UnitView) (p : ProgramView) : Type 0 where
  pub types : List Ty
  pub bases : HasTypes u types p.bases
  pub known : ℕ → ℕ → Temporaries
  pub begins : (t : ℕ) → known 0 0 t ≡ None
  pub steps : (block at : ℕ) (x : Step) → slice_get (steps_in p block) at ≡ Some x → IsTypedAct u.structs u.model.pointer (slice_get types) (known block at) (known block (suc at)) x.does
  pub edges : (e : EdgeView) → Contains p.edges e → IsTypedWay e.taken (known e.from (length (steps_in p e.from))) (known e.to 0)

-- the functions that pieces call have templates
abbrev pub AreThere : UnitView → List (Option TemplateView) → List PieceView → Type 0
AreThere u ts [] = Unit {0}
AreThere u ts (Call c ∷ ps) = ((f : FunctionView) × (t : TemplateView) × (slice_get u.functions c.function ≡ Some f) × (template_at ts c.function ≡ Some t)) × AreThere u ts ps
AreThere u ts (p ∷ ps) = AreThere u ts ps

pub record IsTypedFunction (u : UnitView) (ts : List (Option TemplateView)) (f : FunctionView) (t : TemplateView) : Type 0 where
  pub calls : ℕ → Bool
  pub pieces : (used : Bool) → IsTypedTemplate u f used t
  pub calm : IsCalm calls t
  pub room : (l : ℕ) → Marked t.pieces NoLabel l → l < t.labels
  pub there : AreThere u ts t.pieces
  pub locals : HasOwnLocals u f

-- all templates that there are
abbrev pub AreTypedFunctions : UnitView → List (Option TemplateView) → Type 0
AreTypedFunctions u ts = (n : ℕ) (f : FunctionView) (t : TemplateView) → slice_get u.functions n ≡ Some f → template_at ts n ≡ Some t → IsTypedFunction u ts f t

-- the entry, which takes nothing, is opened to a program whose pointers have types
abbrev pub InlinedProgramsAreTyped : Type 0
InlinedProgramsAreTyped = (u : UnitView) (ts : List (Option TemplateView)) (at : Place) → HasOwnTypes u → AreTypedFunctions u ts → (f : FunctionView) → slice_get u.functions u.entry ≡ Some f → f.parameters ≡ 0
    → HasLowSteps (program u ts at) → IsTypedInlining u (program u ts at)
