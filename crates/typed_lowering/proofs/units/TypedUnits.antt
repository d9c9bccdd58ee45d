-- A plain unit that passes the look at types has a program that has types, so that accesses of its run are typed.
use Rattle.std.proofs.Common.{◌≡◌, ◌≤◌, ◌<◌, ℕ, zero, suc, ◌-◌, ◌^◌, ◌==◌, Bool, true, false, ◌&&◌, List, [], ◌∷◌, length, Option, Some, None, slice_get, refl, ap, sym, subst, ◌∙◌, arith}
use Rattle.std.specs.List.{list_all}
use Rattle.std.proofs.lemmas.Bool.{and_parts, eqb-true, true≢false}
use Rattle.cc_base.specs.declared.limit_table.Limits.{Limits}
use Rattle.c_layout.specs.Leaves.{leaves_of}
use Rattle.c_layout.specs.declared.leaf_lists.Leaf.{Leaf}
use Rattle.c_layout.specs.declared.library_functions.LibFn.{LibFn}
use Rattle.c_layout.specs.declared.library_functions.LibFn.TheVariants.{Isalpha, Isdigit, Isspace, Isupper, Islower, Isalnum, Toupper, Tolower, Putchar, Exit, Abort}
use Rattle.cfg.specs.declared.machine_instructions.Operation.{Operation}
use Rattle.cfg.specs.declared.machine_instructions.Operation.TheVariants as op
use Rattle.lower.specs.Inlining.Lowerings.{inputs}
use Rattle.typed_lowering.specs.LoopedUnits.CalmTemplates.{IsMarkedIn, IsCalm, LoopedTemplatesAreCalm}
use Rattle.typed_lowering.specs.LoopedUnits.LoopedStatements.{are_looped_statements}
use Rattle.typed_lowering.specs.LoopedUnits.LoopedUnits.{is_looped_function, is_looped_if_there, is_looped_from, is_looped_unit}
use Rattle.typed_lowering.proofs.looped_units.PlainIsLooped.{plain_function_looped}
use Rattle.typed_programs.specs.PlainUnits.PlainTerms.{is_plain_library}
use Rattle.typed_lowering.specs.PlainPrograms.PlainBases.{AreAlone}
use Rattle.typed_lowering.proofs.plain_programs.SmallLeaves.{alone_leaves}
use Rattle.lower_tables.specs.Counts.NormalizedTemplates.{normalized}
use Rattle.typed_programs.specs.Types.TypedStates.{Temporaries}
use Rattle.typed_programs.specs.Types.TypedPrograms as program
use Rattle.typed_programs.specs.SingleLaws.{IsPlainFunction}
use Rattle.typed_programs.specs.SingleRuns.{IsPlainOperation}
use Rattle.c_layout.specs.CheckedTrees.{statement_trees}
use Rattle.c_layout.specs.CheckedUnits.{FunctionView, UnitView}
use Rattle.c_layout.specs.Layout.{size_of_type}
use Rattle.c_layout.specs.StructViews.{StructView}
use Rattle.c_layout.specs.Types.{Ty}
use Rattle.c_layout.specs.declared.data_model.Model.{Model}
use Rattle.c_layout.specs.declared.shapes.BaseInfo.{BaseInfo}
use Rattle.c_layout.specs.declared.shapes.Shape.{Shape}
use Rattle.cfg.specs.declared.programs.Flow.{Flow}
use Rattle.lower_templates.specs.Views.ProgramViews.{BlockView, FlowView, flow_view}
use Rattle.lower.specs.Inlining.Inlinings.{ProgramView, joined, template_at, program}
use Rattle.lower_tables.specs.Counts.Preparations.{IsTemplateOf, called, Reaches, begun, further, IsNormalized, IsPrepared}
use Rattle.lower_functions.specs.Functions.Functions.{setting_of, function, no_plan}
use Rattle.lower_functions.proofs.functions.OneTemplate.{one_finish}
use Rattle.lower_template_theorems.specs.LabelDefinitions.MarkedLabels.{LabelsAreMarkedBelow}
use Rattle.typed_programs.specs.PlainUnits.PlainUnits.{is_plain_function, is_plain_if_there, is_plain_from, takes_nothing, is_plain_unit}
use Rattle.typed_programs.specs.PlainUnits.ShortArrays.{has_short_arrays, is_short_local, has_short_objects}
use Rattle.typed_lowering.proofs.plain_programs.NormalizedLeads.{normalized_below}
use Rattle.typed_programs.specs.PlainWorklists.LeadingPieces.{LeadOn}
use Rattle.lower_objects.specs.Shapes.FirstZeros.{object_shape}
use Rattle.lower_templates.specs.Worklist.Pieces.{PieceView, Do, DoIfUsed, End, Mark, Call, TemplateView}
use Rattle.lower_preconditions.specs.Units.RegularUnits.{is_regular_function}
use Rattle.lower_preconditions.specs.Units.LabelNumbers.{is_numbered}
use Rattle.lower_preconditions.specs.Units.ScopeObjects.{has_own_objects}
use Rattle.lower_preconditions.specs.Units.RegularStatements.{are_regular_statements}
use Rattle.simulation_layout.specs.FunctionChecks.LabelsOnce.{FunctionsAreLabelled}
use Rattle.simulation_layout.specs.FunctionChecks.UnitParts.{FunctionsAreRegular}
use Rattle.semantics.specs.CfgMachine.FlowStarts.{start_names}
use Rattle.store_structs.specs.LaidApart.{has_class_bytes}
use Rattle.simulation_layout.specs.Copies.LowTemporaries.{IsActLow}
use Rattle.simulation_layout.specs.Temporaries.LowPrograms.{WellFormedProgramsAreLow}
use Rattle.simulation_layout.specs.Normalized.NormalizedRuns.{LabelsStandOnce}
use Rattle.simulation_units.specs.Units.UnitRuns.{IsProgramOf}
use Rattle.typed_programs.specs.SingleRuns.{HasTypedAccesses}
use Rattle.store_sound.proofs.operations.Slices.{get_there}
use Rattle.typed_programs.specs.Types.StandingTypes.{AreLaidOut}
use Rattle.typed_programs.specs.Types.TypedPrograms.{structs_of, IsObjectOf, first_types, IsTypedOperation, IsTypedProgram}
use Rattle.typed_programs.specs.Runs.TypedRuns.{TypedProgramsHaveTypedAccesses}
use Rattle.typed_lowering.specs.Conversions.TypedBases.{IsMadeOf}
use Rattle.typed_lowering.specs.Conversions.TypedObjects.{is_typed_object, is_own_function}
use Rattle.typed_lowering.specs.Conversions.TypedStatements.{is_typed_function}
use Rattle.typed_lowering.specs.Conversions.TypedUnits.{is_typed_and_calls, is_typed_if_there, is_typed_from, has_own_types, is_typed_unit}
use Rattle.typed_lowering.specs.Conversions.WorkLaws.{TemplatesAreTyped}
use Rattle.typed_lowering.specs.Conversions.ProgramLaws.{TypedObjectsAreTyped, ShortTypesAreOwn, LoopedLocalsAreOwn, NormalizedTemplatesAreTyped, NormalizedTemplatesAreCalm, HasLowSteps, steps_of, IsTypedInlining, AreThere, IsTypedFunction, AreTypedFunctions, InlinedProgramsAreTyped}
use Rattle.typed_lowering.specs.Bases.FirstObjects.{FirstObjectsAreTyped}
use Rattle.typed_lowering.specs.Units.TypedUnitLaws.{TypedUnitsHaveTypedAccesses, IsLoopedFlow, LoopedUnitsHaveTypedPrograms}
use Rattle.typed_lowering.proofs.units.TypedFlows.{type_at, type_is, typed_steps, typed_edges}

-- all that is composed
pub record Laws : Type 0 where
  pub regular : FunctionsAreRegular
  pub labelled : FunctionsAreLabelled
  pub marked : LabelsAreMarkedBelow
  pub calm : LoopedTemplatesAreCalm
  pub low : WellFormedProgramsAreLow
  pub typed : TemplatesAreTyped
  pub normalized : NormalizedTemplatesAreTyped
  pub normalized_calm : NormalizedTemplatesAreCalm
  pub own_types : ShortTypesAreOwn
  pub own_locals : LoopedLocalsAreOwn
  pub objects : TypedObjectsAreTyped
  pub inlined : InlinedProgramsAreTyped
  pub first : FirstObjectsAreTyped
  pub programs : TypedProgramsHaveTypedAccesses

-- ---- options

same_function : (f g : FunctionView) → Some f ≡ Some g → f ≡ g
same_function f g e = cc

joined_there : (o : Option (Option TemplateView)) (t : TemplateView) → joined o ≡ Some t → o ≡ Some (Some t)
joined_there None t e = absurd (cc)
joined_there (Some x) t e = ap Some e

plain_function : (name : LibFn) → is_plain_library name ≡ true → IsPlainFunction name
plain_function Isalpha e = tt
plain_function Isdigit e = tt
plain_function Isspace e = tt
plain_function Isupper e = tt
plain_function Islower e = tt
plain_function Isalnum e = tt
plain_function Toupper e = tt
plain_function Tolower e = tt
plain_function Putchar e = tt
plain_function Exit e = tt
plain_function Abort e = tt
plain_function other e = absurd (cc)

-- ---- bases

get_less : {X : Type 0} (xs : List X) (n : ℕ) (x : X) → slice_get xs n ≡ Some x → n < length xs
get_less [] n x is = absurd (cc)
get_less (y ∷ xs) zero x is = omega arith
get_less (y ∷ xs) (suc n) x is = let less = get_less xs n x is in omega (arith, less)

record IsMade (structs : List StructView) (m : Model) (t : Ty) (b : BaseInfo) : Type 0 where
  size : b.size ≡ size_of_type structs m.pointer t
  shape : b.shape ≡ object_shape structs m.pointer t
  kinds : has_class_bytes m t ≡ true
  small : has_short_arrays structs t ≡ true

made_of : (flow : Flow) (t : Ty) (b : BaseInfo) → IsMade (structs_of flow) flow.model t b → IsObjectOf flow t b
made_of flow t b made = record { leaves = ap (λ (s : Shape). s.cells) made.shape; size = made.size; kinds = made.kinds; small = made.small }

object_of : (flow : Flow) (u : UnitView) → u.structs ≡ structs_of flow → u.model ≡ flow.model → (t : Ty) (b : BaseInfo) → IsMadeOf u t b → IsObjectOf flow t b
object_of flow u structures model t b made = made_of flow t b (subst (λ (m : Model). IsMade (structs_of flow) m t b) model
    (subst (λ (structs : List StructView). IsMade structs u.model t b) structures (record { size = made.size; shape = made.shape; kinds = made.own.kinds; small = made.own.small })))

-- ---- calls of pieces

has_template : List (Option TemplateView) → ℕ → Bool
has_template ts n = elim (template_at ts n) [ None ↦ false | Some t ↦ true ]

template_there : (ts : List (Option TemplateView)) (n : ℕ) → has_template ts n ≡ true → (t : TemplateView) × (template_at ts n ≡ Some t)
unfolding has_template
template_there ts n is = by (template_at ts n) refl is
  where
    by : (o : Option TemplateView) → template_at ts n ≡ o → elim o [ None ↦ false | Some t ↦ true ] ≡ true → (t : TemplateView) × (template_at ts n ≡ Some t)
    by None there e = absurd (cc)
    by (Some t) there e = (t, there)

there_template : (ts : List (Option TemplateView)) (n : ℕ) (t : TemplateView) → slice_get ts n ≡ Some (Some t) → has_template ts n ≡ true
unfolding has_template
there_template ts n t is = ap (λ (o : Option (Option TemplateView)). elim (joined o) [ None ↦ false | Some t ↦ true ]) is

-- what leads on calls whatever all its calls pass
module _ (calls more : ℕ → Bool) where
  lead_more : (L : ℕ → Type 0) (ps : List PieceView) → ((m at : ℕ) (p : PieceView) → slice_get ps at ≡ Some p → called p ≡ Some m → more m ≡ true) → LeadOn calls L ps → LeadOn more L ps
  lead_more L [] all leads = tt
  lead_more L (Do x ∷ ps) all (one, rest) = (one, lead_more L ps (λ m at. all m (suc at)) rest)
  lead_more L (DoIfUsed x ∷ ps) all (one, rest) = (one, lead_more L ps (λ m at. all m (suc at)) rest)
  lead_more L (End x exits ∷ ps) all (one, rest) = (one, lead_more L ps (λ m at. all m (suc at)) rest)
  lead_more L (Mark l ∷ ps) all (one, rest) = (one, lead_more L ps (λ m at. all m (suc at)) rest)
  lead_more L (Call c ∷ ps) all (one, rest) = (all c.function 0 (Call c) refl refl, lead_more L ps (λ m at. all m (suc at)) rest)

-- a call that is led on passes the test
led_call : (calls : ℕ → Bool) (L : ℕ → Type 0) (ps : List PieceView) → LeadOn calls L ps → (m at : ℕ) (p : PieceView) → slice_get ps at ≡ Some p → called p ≡ Some m → calls m ≡ true
led_call calls L [] leads m at p is call = absurd (cc)
led_call calls L (x ∷ ps) (one, rest) m (suc at) p is call = led_call calls L ps rest m at p is call
led_call calls L (Do x ∷ ps) (one, rest) m zero p is call = absurd (cc)
led_call calls L (DoIfUsed x ∷ ps) (one, rest) m zero p is call = absurd (cc)
led_call calls L (End x exits ∷ ps) (one, rest) m zero p is call = absurd (cc)
led_call calls L (Mark l ∷ ps) (one, rest) m zero p is call = absurd (cc)
led_call calls L (Call c ∷ ps) (one, rest) m zero p is call = subst (λ n. calls n ≡ true) (same c.function m (ap called (some c p is) ∙ call)) one
  where
    same : (a b : ℕ) → Some a ≡ Some b → a ≡ b
    same a b e = cc

    some : (c : _) (p : PieceView) → Some (Call c) ≡ Some p → Call c ≡ p
    some c p e = cc

-- ---- looks

-- a look at functions, through calls that nest at most so deep
pub record IsReachedBy (u : UnitView) (from : ℕ → ℕ → Bool) : Type 0 where
  pub takes : takes_nothing (slice_get u.functions u.entry) ≡ true
  pub short : has_short_objects u ≡ true
  pub begins : from (length u.functions) u.entry ≡ true
  pub none : (n : ℕ) → from 0 n ≡ false
  pub looped : (depth n : ℕ) (f : FunctionView) → from (suc depth) n ≡ true → slice_get u.functions n ≡ Some f → is_looped_function u (from depth) f ≡ true

pub looped_reached : (u : UnitView) → is_looped_unit u ≡ true → IsReachedBy u (is_looped_from u)
looped_reached u looped =
    let first = and_parts (takes_nothing (slice_get u.functions u.entry)) _ looped in
    let rest = and_parts (has_short_objects u) _ first.1 in
    record { takes = first.0; short = rest.0; begins = rest.1; none = λ n. refl; looped = λ depth n f is there. by depth (slice_get u.functions n) f there is }
  where
    by : (depth : ℕ) (x : Option FunctionView) (f : FunctionView) → x ≡ Some f → is_looped_if_there u (is_looped_from u depth) x ≡ true → is_looped_function u (is_looped_from u depth) f ≡ true
    by depth None f there e = absurd (cc)
    by depth (Some g) f there e = subst (λ h. is_looped_function u (is_looped_from u depth) h ≡ true) (same_function g f there) e

pub plain_reached : (u : UnitView) → is_plain_unit u ≡ true → IsReachedBy u (is_plain_from u)
plain_reached u plain =
    let first = and_parts (takes_nothing (slice_get u.functions u.entry)) _ plain in
    let rest = and_parts (has_short_objects u) _ first.1 in
    record { takes = first.0; short = rest.0; begins = rest.1; none = λ n. refl; looped = λ depth n f is there. by depth (slice_get u.functions n) f there is }
  where
    by : (depth : ℕ) (x : Option FunctionView) (f : FunctionView) → x ≡ Some f → is_plain_if_there u (is_plain_from u depth) x ≡ true → is_looped_function u (is_plain_from u depth) f ≡ true
    by depth None f there e = absurd (cc)
    by depth (Some g) f there e = plain_function_looped u (is_plain_from u depth) f (subst (λ h. is_plain_function u (is_plain_from u depth) h ≡ true) (same_function g f there) e)

module _ (laws : Laws) (u : UnitView) (limits : Limits) (flow : Flow) (o : IsProgramOf u limits flow) (laid : AreLaidOut u.model u.structs) (from : ℕ → ℕ → Bool) (reached_by : IsReachedBy u from) (looked : is_typed_unit u ≡ true) where
  abbrev ts : List (Option TemplateView)
  ts = o.is.templates

  prepared : IsPrepared u ts o.is.is_counted.table
  prepared = o.is.is_counted.is_prepared

  -- ---- looks

  objects_typed : list_all (is_typed_object u) u.objects ≡ true
  objects_typed = (and_parts (list_all (is_typed_object u) u.objects) _ (and_parts (is_typed_from u (length u.functions) u.entry) _ looked).1).0

  own_types : has_own_types u ≡ true
  own_types = (and_parts (list_all (is_typed_object u) u.objects) _ (and_parts (is_typed_from u (length u.functions) u.entry) _ looked).1).1

  takes_none : (x : Option FunctionView) (f : FunctionView) → x ≡ Some f → takes_nothing x ≡ true → f.parameters ≡ 0
  takes_none None f is e = absurd (cc)
  takes_none (Some g) f is e = ap (λ (h : FunctionView). h.parameters) (sym (same_function g f is)) ∙ eqb-true g.parameters 0 e

  -- ---- functions that the entry reaches

  abbrev IsLooped : ℕ → Type 0
  IsLooped n = (depth : ℕ) × ((f : FunctionView) → slice_get u.functions n ≡ Some f → is_looped_function u (from depth) f ≡ true)

  looped_from : (depth n : ℕ) → from depth n ≡ true → IsLooped n
  looped_from zero n is = absurd (true≢false (sym is ∙ reached_by.none n))
  looped_from (suc depth) n is = (depth, λ f there. reached_by.looped depth n f is there)

  abbrev IsTyped : ℕ → Type 0
  IsTyped n = (depth : ℕ) × ((f : FunctionView) → slice_get u.functions n ≡ Some f → is_typed_and_calls u (is_typed_from u depth) f ≡ true)

  typed_from : (depth n : ℕ) → is_typed_from u depth n ≡ true → IsTyped n
  typed_from zero n is = absurd (cc)
  typed_from (suc depth) n is = (depth, λ f there. by (slice_get u.functions n) f there is)
    where
      by : (x : Option FunctionView) (f : FunctionView) → x ≡ Some f → is_typed_if_there u (is_typed_from u depth) x ≡ true → is_typed_and_calls u (is_typed_from u depth) f ≡ true
      by None f there e = absurd (cc)
      by (Some g) f there e = subst (λ h. is_typed_and_calls u (is_typed_from u depth) h ≡ true) (same_function g f there) e

  statements_looped : (calls : ℕ → Bool) (f : FunctionView) → is_looped_function u calls f ≡ true → are_looped_statements calls (statement_trees f.body) ≡ true
  statements_looped calls f e = (and_parts (list_all (is_short_local u.structs) f.locals && has_short_arrays u.structs f.returns) (are_looped_statements calls (statement_trees f.body)) e).1

  statements_typed : (calls : ℕ → Bool) (f : FunctionView) → is_typed_and_calls u calls f ≡ true → are_looped_statements calls (statement_trees f.body) ≡ true
  statements_typed calls f e = (and_parts (is_typed_function u f && is_own_function u f) (are_looped_statements calls (statement_trees f.body)) e).1

  numbered : (f : FunctionView) → is_regular_function u f ≡ true → is_numbered f ≡ true
  numbered f e = (and_parts (is_numbered f) (has_own_objects f && are_regular_statements u f false false (statement_trees f.body)) e).0

  -- what a template of such a function is
  record Known (calls : ℕ → Bool) (n : ℕ) (f : FunctionView) (t : TemplateView) : Type 0 where
    once : LabelsStandOnce t
    calm : IsCalm calls t

  known_of : (calls : ℕ → Bool) (n : ℕ) (f : FunctionView) (t : TemplateView) → IsTemplateOf u n f t → t.labels ≤ 2 ^ 32 - 1 → are_looped_statements calls (statement_trees f.body) ≡ true → Known calls n f t
  known_of calls n f t is few statements =
      let regular = laws.regular u n f o.regular is.stands in
      let labelled = laws.labelled f (numbered f regular) in
      record {
        once = laws.marked u.structs u.model.pointer u.model.int f (n == u.entry) t is.is_template labelled few;
        calm = laws.calm u calls f (n == u.entry) t is.is_template few regular statements;
      }

  -- a function has one template, which has labels of 32 bits where the entry reaches it
  few_labels : (n : ℕ) (f : FunctionView) (t : TemplateView) → Reaches u n → IsTemplateOf u n f t → t.labels ≤ 2 ^ 32 - 1
  few_labels n f t reached is =
      let (s, c, there, counted) = prepared.all n reached in
      let k = prepared.are_normalized n s there in
      let same : k.function ≡ f = same_function k.function f (sym k.is_template.stands ∙ is.stands) in
      let one = one_finish (setting_of u.structs u.model.pointer u.model.int f (n == u.entry)) (function (setting_of u.structs u.model.pointer u.model.int f (n == u.entry)) f (no_plan f.labels)) k.template t (subst (λ (g : FunctionView). IsTemplateOf u n g k.template) same k.is_template).is_template is.is_template in
      subst (λ (x : TemplateView). x.labels ≤ 2 ^ 32 - 1) one k.few

  reached_looped : (n : ℕ) → Reaches u n → IsLooped n
  reached_looped n begun = looped_from (length u.functions) u.entry reached_by.begins
  reached_looped m (further n _ f t reached is calls) =
      let (depth, own) = reached_looped n reached in
      let (at, p, there, call) = calls in
      let k = known_of (from depth) n f t is (few_labels n f t reached is) (statements_looped (from depth) f (own f is.stands)) in
      looped_from depth m (led_call (from depth) (IsMarkedIn t) t.pieces k.calm.pieces m at p there call)

  reached_typed : (n : ℕ) → Reaches u n → IsTyped n
  reached_typed n begun = typed_from (length u.functions) u.entry (and_parts (is_typed_from u (length u.functions) u.entry) _ looked).0
  reached_typed m (further n _ f t reached is calls) =
      let (depth, own) = reached_typed n reached in
      let (at, p, there, call) = calls in
      let k = known_of (is_typed_from u depth) n f t is (few_labels n f t reached is) (statements_typed (is_typed_from u depth) f (own f is.stands)) in
      typed_from depth m (led_call (is_typed_from u depth) (IsMarkedIn t) t.pieces k.calm.pieces m at p there call)

  -- ---- typed functions

  pieces_there : (L : ℕ → Type 0) (ps : List PieceView) → LeadOn (has_template ts) L ps → AreThere u ts ps
  pieces_there L [] leads = tt
  pieces_there L (Do x ∷ ps) (one, rest) = pieces_there L ps rest
  pieces_there L (DoIfUsed x ∷ ps) (one, rest) = pieces_there L ps rest
  pieces_there L (End x exits ∷ ps) (one, rest) = pieces_there L ps rest
  pieces_there L (Mark l ∷ ps) (one, rest) = pieces_there L ps rest
  pieces_there L (Call c ∷ ps) (one, rest) =
      let (t, there) = template_there ts c.function one in
      let k = prepared.are_normalized c.function t (joined_there (slice_get ts c.function) t there) in
      ((k.function, t, k.is_template.stands, there), pieces_there L ps rest)

  -- of a function that is settled
  normalized_typed : (n : ℕ) (t : TemplateView) → IsNormalized u n t → (f : FunctionView) → slice_get u.functions n ≡ Some f → IsTypedFunction u ts f t
  normalized_typed n t k f there =
      let same : k.function ≡ f = same_function k.function f (sym k.is_template.stands ∙ there) in
      let is : IsTemplateOf u n f k.template = subst (λ (g : FunctionView). IsTemplateOf u n g k.template) same k.is_template in
      let (depth, own) = reached_looped n k.reached in
      let calls = from depth in
      let known = known_of calls n f k.template is k.few (statements_looped calls f (own f there)) in
      let regular = laws.regular u n f o.regular there in
      let (inner, passes) = reached_typed n k.reached in
      let both = and_parts (is_typed_function u f) (is_own_function u f) (and_parts (is_typed_function u f && is_own_function u f) _ (passes f there)).0 in
      let pieces = λ (used : Bool). laws.normalized u f calls used k.template k.table k.are_counts k.all_counted known.calm known.once
      (laws.typed u f calls (n == u.entry) k.template laid is.is_template k.few both.0 regular (statements_looped calls f (own f there)) used) in
      let all_there = λ (m at : ℕ) (p : PieceView) (is_at : slice_get k.template.pieces at ≡ Some p) (call : called p ≡ Some m). reached_there m (further n m f k.template k.reached is (at, p, is_at, call)) in
      let calm_there : IsCalm (has_template ts) k.template = record { pieces = lead_more calls (has_template ts) (IsMarkedIn k.template) k.template.pieces all_there known.calm.pieces; names = known.calm.names } in
      subst (IsTypedFunction u ts f) (sym k.settles) (record {
        calls = calls;
        pieces = pieces;
        calm = laws.normalized_calm calls k.template k.table known.once known.calm;
        room = normalized_below k.table k.template known.once;
        there = pieces_there (IsMarkedIn (normalized k.table k.template)) (normalized k.table k.template).pieces (laws.normalized_calm (has_template ts) k.template k.table known.once calm_there).pieces;
        locals = laws.own_locals u calls f (own f there) both.1;
      })
    where
      reached_there : (m : ℕ) → Reaches u m → has_template ts m ≡ true
      reached_there m reached = let (s, c, is, counted) = prepared.all m reached in there_template ts m s is

  functions_are_typed : AreTypedFunctions u ts
  functions_are_typed n f t there is = normalized_typed n t (prepared.are_normalized n t (joined_there (slice_get ts n) t is)) f there

  -- ---- the program

  abbrev p : ProgramView
  p = program u ts o.is.entry.at

  low_steps : HasLowSteps p
  low_steps b at x there =
      let low = laws.low limits flow o.good o.room in
      by (slice_get p.blocks b) refl there (λ v is there. low.steps b at v x (ap (λ bs. slice_get bs b) (ap (λ (w : FlowView). w.blocks) o.is.opens) ∙ is) there)
    where
      by : (v : Option BlockView) → slice_get p.blocks b ≡ v → slice_get (steps_of v) at ≡ Some x → ((w : BlockView) → slice_get p.blocks b ≡ Some w → slice_get w.steps at ≡ Some x → IsActLow x.does) → IsActLow x.does
      by None e is low = absurd (cc)
      by (Some w) e is low = low w e is

  inlining : IsTypedInlining u p
  inlining = laws.inlined u ts o.is.entry.at (laws.own_types u reached_by.short own_types) functions_are_typed o.is.entry o.is.is_counted.is_entry
      (takes_none (slice_get u.functions u.entry) o.is.entry o.is.is_counted.is_entry reached_by.takes) low_steps

  structures : u.structs ≡ structs_of flow
  structures = sym (ap (λ (w : FlowView). w.structs) o.is.opens)

  model : u.model ≡ flow.model
  model = sym (ap (λ (w : FlowView). w.model) o.is.opens)

  parameters : flow.parameters.items ≡ []
  parameters = ap (λ (w : FlowView). w.parameters) o.is.opens ∙ ap (inputs o.is.entry) (takes_none (slice_get u.functions u.entry) o.is.entry o.is.is_counted.is_entry reached_by.takes)

  base_typed : (b : ℕ) (base : BaseInfo) → slice_get flow.bases.items b ≡ Some base → IsObjectOf flow (type_at inlining.types b) base
  base_typed b base there =
      let here : slice_get p.bases.bases b ≡ Some base = ap (λ (bs : List BaseInfo). slice_get bs b) (sym (ap (λ (w : FlowView). w.bases) o.is.opens)) ∙ there in
      let (t, is) = get_there inlining.types b (subst (λ n. b < n) (sym inlining.bases.numbered) (get_less p.bases.bases b base here)) in
      subst (λ s. IsObjectOf flow s base) (type_is inlining.types b t is) (object_of flow u structures model t base (inlining.bases.made b t base is here))

  named : (b i : ℕ) → start_names u (flow_view flow) b ≡ Some i → first_types u i ≡ Some (type_at inlining.types b)
  named b i is =
      let (t, there, first) = laws.first u limits flow o parameters inlining.types inlining.bases b i is in
      first ∙ ap Some (type_is inlining.types b t there)

  typed_program : IsTypedProgram flow u (record { objects = type_at inlining.types; known = inlining.known })
  typed_program = record {
    laid = subst (λ (m : Model). AreLaidOut m (structs_of flow)) model (subst (AreLaidOut u.model) structures laid);
    structures = structures;
    model = model;
    bases = base_typed;
    first = laws.objects u laid objects_typed;
    named = named;
    parameters = parameters;
    begins = inlining.begins;
    steps = typed_steps flow p (ap (λ (w : FlowView). w.blocks) o.is.opens) u structures model inlining;
    edges = typed_edges flow p (ap (λ (w : FlowView). w.blocks) o.is.opens) u structures model inlining limits o.good (ap (λ (w : FlowView). w.edges) o.is.opens);
  }

  pub typed_accesses : HasTypedAccesses flow u
  typed_accesses = laws.programs flow u _ typed_program

  -- ---- bases and calls

  alone : (ls : List Leaf) (j : ℕ) (leaf : Leaf) → AreAlone ls → slice_get ls j ≡ Some leaf → leaf.count ≡ 1
  alone [] j leaf all is = absurd (cc)
  alone (x ∷ ls) zero leaf (one, all) is = subst (λ (l : Leaf). l.count ≡ 1) (same x leaf is) one
    where
      same : (x l : Leaf) → Some x ≡ Some l → x ≡ l
      same x l is = cc
  alone (x ∷ ls) (suc j) leaf (one, all) is = alone ls j leaf all is

  -- a base is made of a type without long arrays
  base_made : (b : ℕ) (base : BaseInfo) → slice_get flow.bases.items b ≡ Some base → (t : Ty) × IsMadeOf u t base
  base_made b base there =
      let here : slice_get p.bases.bases b ≡ Some base = ap (λ (bs : List BaseInfo). slice_get bs b) (sym (ap (λ (w : FlowView). w.bases) o.is.opens)) ∙ there in
      let (t, is) = get_there inlining.types b (subst (λ n. b < n) (sym inlining.bases.numbered) (get_less p.bases.bases b base here)) in
      (t, inlining.bases.made b t base is here)

  leaf_alone : (b j : ℕ) (base : BaseInfo) (leaf : Leaf) → slice_get flow.bases.items b ≡ Some base → slice_get base.shape.cells j ≡ Some leaf → leaf.count ≡ 1
  leaf_alone b j base leaf there at =
      let (t, made) = base_made b base there in
      alone (leaves_of u.structs u.model.pointer t) j leaf (alone_leaves u.structs u.model.pointer t made.own.small) (ap (λ (x : Shape). slice_get x.cells j) (sym made.shape) ∙ at)

  no_heap : (b : ℕ) (base : BaseInfo) → slice_get flow.bases.items b ≡ Some base → base.shape.heap ≡ false
  no_heap b base there = let (t, made) = base_made b base there in ap (λ (x : Shape). x.heap) made.shape

  plain_call : (before after : Temporaries) (x : Operation) → IsTypedOperation flow (type_at inlining.types) before after x → IsPlainOperation x
  plain_call before after (op.Library to name arguments newest size) (program.calls _ _ _ _ _ plain g) = plain_function name plain
  plain_call before after (op.ReadLine to text count stream) is = elim is [ ]
  plain_call before after x is = tt

  pub looped_flow : IsLoopedFlow flow u
  looped_flow = record {
    plain = record { apart = leaf_alone; no_heap = no_heap };
    parameters = parameters;
    calls = λ x done. subst IsPlainOperation done.does (plain_call (inlining.known done.block done.at) (inlining.known done.block (suc done.at)) done.instruction.operation (typed_program.steps done.block done.at done.instruction done.is));
    steps = typed_accesses;
  }

-- ---- units

unit_laid : (u : UnitView) (limits : Limits) (flow : Flow) → IsProgramOf u limits flow → AreLaidOut flow.model (structs_of flow) → AreLaidOut u.model u.structs
unit_laid u limits flow o laid =
    let structures : structs_of flow ≡ u.structs = ap (λ (w : FlowView). w.structs) o.is.opens in
    let model : flow.model ≡ u.model = ap (λ (w : FlowView). w.model) o.is.opens in
    subst (λ (m : Model). AreLaidOut m u.structs) model (subst (AreLaidOut flow.model) structures laid)

pub typed_units : Laws → TypedUnitsHaveTypedAccesses
typed_units laws u limits flow o laid plain looked = typed_accesses laws u limits flow o (unit_laid u limits flow o laid) (is_plain_from u) (plain_reached u plain) looked

pub looped_units : Laws → LoopedUnitsHaveTypedPrograms
looped_units laws u limits flow o laid looped looked = looped_flow laws u limits flow o (unit_laid u limits flow o laid) (is_looped_from u) (looped_reached u looped) looked
