-- The unit is lowered to the worked program.
use Rattle.std.proofs.Common.{◌≡◌, ◌&&◌, ℕ, zero, suc, pos, Bool, true, false, List, [], ◌∷◌, Option, Some, None, is_none, slice_get, ap, sym, subst, refl, arith}
use Rattle.std.specs.List.{list_all}
use Rattle.cc_base.specs.Standard.{standard_limits}
use Rattle.cc_base.specs.declared.limit_table.Limits.{Limits}
use Rattle.cc_base.specs.declared.integer_operators.IntOp.TheVariants as operator
use Rattle.c_layout.specs.CheckedUnits.{FunctionView, UnitView}
use Rattle.c_layout.specs.StructViews.{StructView}
use Rattle.cfg.specs.declared.machine_instructions.Amount.TheVariants.{Temp}
use Rattle.cfg.specs.declared.programs.Flow.{Flow}
use Rattle.lower_templates.specs.Worklist.Acts as act
use Rattle.lower_templates.specs.Worklist.Acts.{Act}
use Rattle.lower_templates.specs.Worklist.Pieces.{PieceView, Do, End, TemplateView}
use Rattle.lower_templates.specs.Worklist.Plans.{with_work, with_name, with_labels, with_scope, with_dispatch}
use Rattle.lower_templates.specs.Worklist.Scopes.{with_new_scope}
use Rattle.lower_functions.specs.Functions.Functions.{IsTemplate}
use Rattle.lower_tables.specs.Counts.FirstOver.{unit_counts}
use Rattle.lower_tables.specs.Counts.Preparations.{Calls, called, IsTemplateOf, Reaches, begun, further, Counts, counts, counts_from, AreCounts, IsNormalized, IsPrepared}
use Rattle.lower_tables.specs.Counts.NormalizedTemplates.{normalized, with_if}
use Rattle.lower_objects.specs.Counts.SharedObjects.{shared_bases}
use Rattle.lower_objects.specs.declared.counts.function_counts.FunctionCounts.{FunctionCounts}
use Rattle.lower_tables.specs.declared.counts.count_limits.UnitCounts.{UnitCounts}
use Rattle.lower.specs.Inlining.Lowerings.{IsCounted, IsLowering}
use Rattle.lower_templates.specs.Views.ProgramViews.{FlowView, flow_view}
use Rattle.cli_examples.specs.Units.WorkedPlaces.{at}
use Rattle.cli_examples.specs.Units.WorkedTrees.{int, main_function, checked_unit}
use Rattle.cli_examples.specs.Analyses.WorkedAnalyses.{IsLoweredTo}
use Rattle.cli_examples.proofs.analyses.WorkedProgram.{program}

-- ---- the template

abbrev done : ℕ → Act → PieceView
done column a = Do (record { at = at column; does = a })

abbrev stops : ℕ → PieceView
stops column = End (record { at = at column; does = act.Stop }) []

abbrev template : TemplateView
template = record {
  pieces = done 23 (act.Constant 0 (pos 1) int) ∷ (done 25 (act.Constant 1 (pos 0) int) ∷ (done 24 (act.Binary 0 operator.Div 0 (Temp 1) int) ∷ (stops 16 ∷ (stops 5 ∷ []))));
  names = [];
  labels = 1;
}

is_template : IsTemplate checked_unit.structs 8 4 main_function true template
unfolding with_work with_name with_labels with_scope with_dispatch with_new_scope
is_template = record { turns = 40; ended = refl; comes_to = refl }

template_of : IsTemplateOf checked_unit 0 main_function template
template_of = record { stands = refl; is_template = is_template }

-- ---- the entry alone is reached

first_of : (a b : Bool) → (a && b) ≡ true → a ≡ true
first_of true b h = refl
first_of false b h = cc

last_of : (a b : Bool) → (a && b) ≡ true → b ≡ true
last_of true b h = h
last_of false b h = cc

none_there : {X : Type 0} (x : X) (at : ℕ) → slice_get [] at ≡ Some x → ⊥
none_there x at e = cc

some_inj : {X : Type 0} {x y : X} → Some x ≡ Some y → x ≡ y
some_inj {X} {x} {y} e = ap (λ (p : Option X). elim p [ None ↦ x | Some z ↦ z ]) e

not_called : (o : Option ℕ) (m : ℕ) → is_none o ≡ true → o ≡ Some m → ⊥
not_called None m h e = cc
not_called (Some n) m h e = cc

no_calls : (ps : List PieceView) → list_all (λ p. is_none (called p)) ps ≡ true → (at m : ℕ) (p : PieceView) → slice_get ps at ≡ Some p → called p ≡ Some m → ⊥
no_calls [] h at m p there is = none_there p at there
no_calls (q ∷ qs) h zero m p there is =
    not_called (called q) m (first_of (is_none (called q)) (list_all (λ p. is_none (called p)) qs) h) (subst (λ x. called x ≡ Some m) (sym (some_inj there)) is)
no_calls (q ∷ qs) h (suc at) m p there is = no_calls qs (last_of (is_none (called q)) (list_all (λ p. is_none (called p)) qs) h) at m p there is

abbrev OneTemplate : Type 0
OneTemplate =
    (structs : List StructView) (pointer int_bytes : ℕ) (f : FunctionView) (is_entry : Bool) (t u : TemplateView) →
    IsTemplate structs pointer int_bytes f is_entry t → IsTemplate structs pointer int_bytes f is_entry u → t ≡ u

module _ (one_template : OneTemplate) where
  no_further : (n m : ℕ) (f : FunctionView) (t : TemplateView) → n ≡ 0 → IsTemplateOf checked_unit n f t → Calls t.pieces m → ⊥
  no_further n m f t zero_is is (at, p, there, called_there) =
      let entry = subst (λ k. IsTemplateOf checked_unit k f t) zero_is is in
      let main = subst (λ g. IsTemplate checked_unit.structs 8 4 g true t) (sym (some_inj entry.stands)) entry.is_template in
      let same = one_template checked_unit.structs 8 4 main_function true t template main is_template in
      no_calls template.pieces refl at m p (subst (λ s. slice_get s.pieces at ≡ Some p) same there) called_there

  only_entry : (n : ℕ) → Reaches checked_unit n → n ≡ 0
  only_entry n begun = refl
  only_entry n (further before m f t reached is calls) = absurd (no_further before m f t (only_entry before reached) is calls)

  -- ---- the counts

  abbrev entry_counts : FunctionCounts
  entry_counts = counts_from checked_unit 0 main_function template []

  abbrev table : List (Option FunctionCounts)
  table = Some entry_counts ∷ []

  abbrev templates : List (Option TemplateView)
  templates = Some (normalized [] template) ∷ []

  nothing_counted : AreCounts checked_unit []
  nothing_counted m c at = absurd (none_there (Some c) m at)

  is_counted : Counts checked_unit 0 entry_counts
  is_counted = counts 0 main_function template [] template_of refl nothing_counted

  are_counts : AreCounts checked_unit table
  are_counts zero c at = subst (λ x. Counts checked_unit 0 x) (some_inj (some_inj at)) is_counted
  are_counts (suc m) c at = absurd (none_there (Some c) m at)

  is_normalized : IsNormalized checked_unit 0 (normalized [] template)
  is_normalized = record {
    function = main_function;
    template = template;
    table = [];
    is_template = template_of;
    few = omega arith;
    reached = begun;
    all_counted = refl;
    are_counts = nothing_counted;
    settles = refl;
  }

  are_normalized : (n : ℕ) (s : TemplateView) → slice_get templates n ≡ Some (Some s) → IsNormalized checked_unit n s
  are_normalized zero s at = subst (λ x. IsNormalized checked_unit 0 x) (some_inj (some_inj at)) is_normalized
  are_normalized (suc n) s at = absurd (none_there (Some s) n at)

  abbrev IsMade : ℕ → Type 0
  IsMade n = (s : TemplateView) × (c : FunctionCounts) × (slice_get templates n ≡ Some (Some s)) × (slice_get table n ≡ Some (Some c))

  prepared : IsPrepared checked_unit templates table
  prepared = record {
    numbered = refl;
    are_normalized = are_normalized;
    are_counts = are_counts;
    all = λ n reached. subst IsMade (sym (only_entry n reached)) (normalized [] template, entry_counts, refl, refl);
  }

  abbrev all_counts : UnitCounts
  all_counts = unit_counts entry_counts (shared_bases checked_unit templates)

  counted : IsCounted checked_unit main_function templates all_counts
  counted = record { table = table; is_entry = refl; is_prepared = prepared; are_counts = record { entry = entry_counts; is_counted = refl; are_counts = refl } }

  pub lowered : (some : Flow) → IsLowering checked_unit standard_limits (flow_view (program some))
  unfolding with_if
  lowered some = record { entry = main_function; templates = templates; counts = all_counts; is_counted = counted; fits = refl; ends = refl; opens = refl }

  pub lowered_to : ((u : UnitView) (limits : Limits) (f g : FlowView) → IsLowering u limits f → IsLowering u limits g → f ≡ g) → (some : Flow) → IsLoweredTo (program some)
  lowered_to one_lowering some = record {
    there = lowered some;
    no_other = λ f is. one_lowering checked_unit standard_limits f (flow_view (program some)) is (lowered some);
  }
