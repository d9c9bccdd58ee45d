-- What works of typed terms come to: pieces that keep to what is known.
use Rattle.std.specs.Prelude.{◌≡◌, ◌≤◌, ◌<◌, ◌-◌, ◌^◌, ℕ, Bool, true, false, List, [], ◌∷◌, Some, None, slice_get}
use Rattle.c_layout.specs.CheckedTrees.{statement_trees}
use Rattle.c_layout.specs.CheckedUnits.{FunctionView, UnitView}
use Rattle.lower_functions.specs.Functions.Functions.{IsTemplate}
use Rattle.lower_templates.specs.Worklist.Pieces.{NameView, PieceView, TemplateView}
use Rattle.lower_templates.specs.Worklist.Works as jobs
use Rattle.lower_templates.specs.Worklist.Works.{Job}
use Rattle.lower_templates.specs.Worklist.Plans.{Plan}
use Rattle.lower_templates.specs.Worklist.Settings.{SettingView}
use Rattle.typed_programs.specs.PlainUnits.PlainTerms.{is_plain_term, is_plain_place}
use Rattle.typed_lowering.specs.LoopedUnits.LoopedStatements.{are_looped_statements}
use Rattle.lower_preconditions.specs.Units.RegularTerms.{is_regular_term, is_regular_place}
use Rattle.lower_preconditions.specs.Units.RegularUnits.{is_regular_function}
use Rattle.lower_template_theorems.specs.Worklists.Derivations.{Makes}
use Rattle.typed_programs.specs.Types.StandingTypes.{AreLaidOut}
use Rattle.typed_programs.specs.Types.TypedPrograms.{IsKept}
use Rattle.typed_programs.specs.Types.TypedStates.{Temporaries}
use Rattle.typed_lowering.specs.Conversions.TypedTerms.{is_typed_term, is_typed_place}
use Rattle.typed_lowering.specs.Conversions.TypedStatements.{is_typed_function}
use Rattle.typed_lowering.specs.Conversions.KnownValues.{term_known, place_known, below, with_value}
use Rattle.typed_lowering.specs.Conversions.TypedPieces.{AreTypedPieces, IsTypedTemplate}

-- names that were given away keep their numbers
abbrev pub Extends : List NameView → List NameView → Type 0
Extends few names = (n : ℕ) (x : NameView) → slice_get few n ≡ Some x → slice_get names n ≡ Some x

-- for some knowledge at the labels from a number on to another one, whatever is known at others
pub record Labelled (from to : ℕ) (holds : (ℕ → Temporaries) → Type 0) : Type 0 where
  pub own : ℕ → Temporaries
  pub is : (labels : ℕ → Temporaries) → ((l : ℕ) → from ≤ l → l < to → labels l ≡ own l) → holds labels

-- the setting of a function of the unit
pub record IsSettingOf (u : UnitView) (s : SettingView) : Type 0 where
  pub laid : AreLaidOut u.model u.structs
  pub structs : s.structs ≡ u.structs
  pub pointer : s.pointer ≡ u.model.pointer

-- a work that passes the looks
module _ (u : UnitView) (f : FunctionView) (calls : ℕ → Bool) where
  abbrev pub IsLookedAt : Job → Type 0
  IsLookedAt (jobs.Value e depth) = (is_typed_term u f e ≡ true) × (is_plain_term calls e ≡ true) × (is_regular_term u f true depth e ≡ true)
  IsLookedAt (jobs.Unused e depth) = (is_typed_term u f e ≡ true) × (is_plain_term calls e ≡ true) × (is_regular_term u f false depth e ≡ true)
  IsLookedAt (jobs.Address l depth) = (is_typed_place u f l ≡ true) × (is_plain_place calls l ≡ true) × (is_regular_place u f depth l ≡ true)
  IsLookedAt (jobs.Condition e decision) = (is_typed_term u f e ≡ true) × (is_plain_term calls e ≡ true) × (is_regular_term u f true decision.depth e ≡ true)
  IsLookedAt (jobs.Statement i around) = ⊥
  IsLookedAt (jobs.Ready q) = ⊥

module _ (u : UnitView) (f : FunctionView) (used : Bool) (names : List NameView) where
  -- from what is known before: pending values are kept, and a value is what its term says
  abbrev pub KeepsTo : Temporaries → (ℕ → Temporaries) → Job → List PieceView → Type 0
  KeepsTo before labels (jobs.Value e depth) ps = AreTypedPieces u f used names labels (Some before) ps (Some (with_value depth (term_known e) before))
  KeepsTo before labels (jobs.Unused e depth) ps = AreTypedPieces u f used names labels (Some before) ps (Some (below depth before))
  KeepsTo before labels (jobs.Address l depth) ps = AreTypedPieces u f used names labels (Some before) ps (Some (with_value depth (place_known l) before))
  KeepsTo before labels (jobs.Condition e decision) ps = IsKept (below decision.depth before) (labels decision.targets.yes) → IsKept (below decision.depth before) (labels decision.targets.no) → AreTypedPieces u f used names labels (Some before) ps None
  KeepsTo before labels (jobs.Statement i around) ps = ⊥
  KeepsTo before labels (jobs.Ready q) ps = ⊥

-- ---- the laws

abbrev pub WorksAreTyped : Type 0
WorksAreTyped = (u : UnitView) (f : FunctionView) (calls : ℕ → Bool) (s : SettingView) → IsSettingOf u s → (p : Plan) (j : Job) (ps : List PieceView) (q : Plan) → Makes s p (j ∷ []) ps q → p.jobs ≡ [] → IsLookedAt u f calls j
    → (used : Bool) (names : List NameView) → Extends q.names names → (before : Temporaries) → Labelled p.labels q.labels (λ labels. KeepsTo u f used names before labels j ps)

-- the template of a function that passes the looks keeps to what is known
abbrev pub TemplatesAreTyped : Type 0
TemplatesAreTyped = (u : UnitView) (f : FunctionView) (calls : ℕ → Bool) (is_entry : Bool) (t : TemplateView) → AreLaidOut u.model u.structs
    → IsTemplate u.structs u.model.pointer u.model.int f is_entry t → t.labels ≤ 2 ^ 32 - 1 → is_typed_function u f ≡ true → is_regular_function u f ≡ true → are_looped_statements calls (statement_trees f.body) ≡ true
    → (used : Bool) → IsTypedTemplate u f used t
