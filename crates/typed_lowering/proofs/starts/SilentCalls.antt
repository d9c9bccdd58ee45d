-- A call that adds nothing keeps what is known.
use Rattle.std.proofs.Common.{◌≡◌, ℕ, ◌==◌, Bool, true, false, cond, ◌&&◌, nat_lt, List, Option, Some, None, slice_get, refl, ap, sym, subst, ◌∙◌}
use Rattle.std.proofs.lemmas.Bool.{and_parts}
use Rattle.c_layout.specs.CheckedUnits.{FunctionView, UnitView}
use Rattle.c_layout.specs.Types.{Ty, Int, Pointer, Array, Struct, Void}
use Rattle.lower_templates.specs.Worklist.Pieces.{NameView}
use Rattle.lower_templates.specs.Worklist.TermKinds.{is_void}
use Rattle.lower_templates.specs.declared.worklist.template_pieces.OwnCall.{OwnCall}
use Rattle.lower_objects.specs.declared.counts.function_counts.BlockExtent.{BlockExtent}
use Rattle.lower_objects.specs.declared.counts.function_counts.FunctionCounts.{FunctionCounts}
use Rattle.lower_objects.specs.Counts.PieceCounts.{counts_of, counted, extent}
use Rattle.lower_tables.specs.Counts.NormalizedTemplates.{is_silent, normalized}
use Rattle.lower_tables.specs.Counts.Preparations.{Counts, counts, AreCounts}
use Rattle.typed_programs.specs.Types.PointedTypes.{Known}
use Rattle.typed_programs.specs.Types.TypedPrograms.{IsKept}
use Rattle.typed_programs.specs.Types.TypedStates.{Temporaries}
use Rattle.typed_lowering.specs.Conversions.KnownValues.{type_known, with_value, if_used}
use Rattle.typed_lowering.specs.Conversions.TypedPieces.{State, Leads, IsTypedCall}
use Rattle.typed_lowering.proofs.conversions.KeptKnowledge.{IsLessIf, less_if_same, kept_if, kept_trans}
use Rattle.typed_lowering.proofs.conversions.JoinedPieces.{leads_on}

no_silence : (c : FunctionCounts) → c.is_silent ≡ false → c.is_silent ≡ true → ⊥
no_silence c loud silent = by (sym loud ∙ silent)
  where
    by : false ≡ true → ⊥
    by e = cc

-- nothing is known of a result of no type
void_known : (t : Ty) → is_void t ≡ true → type_known t ≡ None
void_known Void is = refl
void_known (Int k) is = cc
void_known (Pointer t) is = cc
void_known (Array t n) is = cc
void_known (Struct i) is = cc

-- a function that adds nothing has no result
silent_count : (u : UnitView) (n : ℕ) (c : FunctionCounts) → Counts u n c → c.is_silent ≡ true → (g : FunctionView) → slice_get u.functions n ≡ Some g → type_known g.returns ≡ None
silent_count u n c (counts _ f t table is all each) silent g stands =
    let at : BlockExtent = extent table (normalized table t).pieces true in
    let parts = and_parts (f.parameters == 0) (is_void f.returns) (and_parts (at.instructions == 0) (f.parameters == 0 && is_void f.returns) silent).1 in
    ap (λ (h : FunctionView). type_known h.returns) (same g f (sym stands ∙ is.stands)) ∙ void_known f.returns parts.1
  where
    same : (a b : FunctionView) → Some a ≡ Some b → a ≡ b
    same a b e = cc

silent_result : (u : UnitView) (table : List (Option FunctionCounts)) (n : ℕ) → AreCounts u table → is_silent table n ≡ true → (g : FunctionView) → slice_get u.functions n ≡ Some g → type_known g.returns ≡ None
silent_result u table n are silent g stands = by (slice_get table n) refl
  where
    by : (o : Option (Option FunctionCounts)) → slice_get table n ≡ o → type_known g.returns ≡ None
    by None is = absurd (no_silence (counted table n) (ap (λ o. (counts_of o).is_silent) is) silent)
    by (Some None) is = absurd (no_silence (counted table n) (ap (λ o. (counts_of o).is_silent) is) silent)
    by (Some (Some c)) is = silent_count u n c (are n c is) (ap (λ o. (counts_of o).is_silent) (sym is) ∙ silent) g stands

-- what is known of fewer temporaries
fewer : (depth : ℕ) (known : Temporaries) → IsKept known (with_value depth None known)
fewer depth known = kept_if known (with_value depth None known) (λ t. by (t == depth) (nat_lt t depth) t)
  where
    by : (b c : Bool) (t : ℕ) → IsLessIf (known t) (elim b [ true ↦ None | false ↦ cond c (known t) None ])
    by true c t = tt
    by false true t = less_if_same (known t)
    by false false t = tt

unused : (used : Bool) (known : Option Known) → known ≡ None → if_used used known ≡ None
unused true known is = is
unused false known is = refl

pub silent_leads : (u : UnitView) (f : FunctionView) (used : Bool) (names : List NameView) (labels : ℕ → Temporaries) (table : List (Option FunctionCounts)) → AreCounts u table → (c : OwnCall) → is_silent table c.function ≡ true
    → (s : State) (after : Temporaries) → IsTypedCall u f used names labels s c after → Leads s after
silent_leads u f used names labels table are c silent s after call =
    let none : if_used c.used (type_known call.callee.returns) ≡ None = unused c.used (type_known call.callee.returns) (silent_result u table c.function are silent call.callee call.stands) in
    let behind : IsKept (with_value c.depth None call.before) after = subst (λ v. IsKept (with_value c.depth v call.before) after) none call.behind in
    leads_on s call.before after call.leads (kept_trans call.before (with_value c.depth None call.before) after (fewer c.depth call.before) behind)
