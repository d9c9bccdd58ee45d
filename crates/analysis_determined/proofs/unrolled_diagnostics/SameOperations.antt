-- What an operation makes of a row, and what it may violate, hang on its view and on the parts of its program.
use Rattle.std.specs.Prelude.{◌≡◌, ℕ, min, Bool, true, false, cond, Option, Some, None, List, option_map, slice_get, length, refl}
use Rattle.std.specs.Global.{Vec}
use Rattle.std.proofs.Common.{sym, ap, ap₂, ◌∙◌}
use Rattle.std.proofs.lemmas.Option.{slice_get-map}
use Rattle.std.proofs.Math.Nat.{ℕ_set}
use mathlib.Core.HLevel.{Σ_prop_path}
use Rattle.cc_base.specs.Lattices.{LatticeOf}
use Rattle.cc_base.specs.IntegerDomains.{IntegersOf}
use Rattle.cc_base.specs.declared.integer_operators.Rel.{Rel}
use Rattle.cc_base.specs.declared.integer_operators.Rel.TheVariants.{Ne}
use Rattle.c_layout.specs.StructViews.{StructView, struct_view}
use Rattle.c_layout.specs.declared.struct_table.StructType.{StructType}
use Rattle.c_layout.specs.declared.library_functions.LibFn.{LibFn}
use Rattle.c_layout.specs.declared.library_functions.LibFn.TheVariants as fn_of
use Rattle.c_layout.specs.declared.shapes.BaseInfo.{BaseInfo}
use Rattle.cfg.specs.declared.programs.Flow.{Flow}
use Rattle.cfg.specs.declared.machine_instructions.Operation.{Operation}
use Rattle.cfg.specs.declared.machine_instructions.Operation.TheVariants as op
use Rattle.lower_templates.specs.Worklist.Acts.{Act, act}
use Rattle.lower_templates.specs.Worklist.Acts as acts
use Rattle.pointer_domain.specs.PointerTables.{longest}
use Rattle.value_domain.specs.declared.values.row_cells.Cell.{Cell}
use Rattle.store_objects.specs.ObjectLives.{forget, leave, clear}
use Rattle.store.specs.Spelling.{spell}
use Rattle.store_structs.specs.StructCopies.{copy_struct}
use Rattle.transfer_checks.specs.declared.touches.Touched.{Touched}
use Rattle.transfer_checks.specs.declared.violation_sets.Violations.{Violations}
use Rattle.transfer_checks.specs.ViolationSets.{no_violations}
use Rattle.transfer_checks.specs.Touches.{touch}
use Rattle.transfer_checks.specs.Temporaries.{temp_value}
use Rattle.transfer_system.specs.ResultTemps.{put_number, put_truth, put_pointer}
use Rattle.transfer_system.specs.IntegerSteps.{constant_step, binary_step, binary_checks, unary_step, unary_checks, compare_step, not_step, put_converted, convert_value, convert_step}
use Rattle.transfer_system.specs.PointerSteps.{address_step, narrow_touched, narrow_step, narrow_violations, put_moved, shift_by, shift_step, shift_checks, difference_step, comparison_violations, relation_step}
use Rattle.transfer_library_plans.specs.declared.call_plans.Effect.{Effect}
use Rattle.transfer_library_plans.specs.declared.call_plans.Plan.{Plan}
use Rattle.transfer_library_plans.specs.Arguments.{argument_value}
use Rattle.transfer_library.specs.Effects.{apply}
use Rattle.transfer_library_writes.specs.TextWrites.{write_text}
use Rattle.transfer_library_writes.specs.FillWrites.{write_fill}
use Rattle.transfer_library_writes.specs.CopyWrites.{write_copy}
use Rattle.transfer_library_plans.specs.Allocations.{plan_malloc, plan_calloc, plan_realloc, plan_free}
use Rattle.transfer_library.specs.MemoryCalls.{plan_copy, plan_fill}
use Rattle.transfer_library_plans.specs.Outputs.{plan_puts, plan_printf, plan_strlen, plan_strcmp}
use Rattle.transfer_library.specs.StringCalls.{plan_strcpy, plan_strncpy, plan_strcat, plan_fgets}
use Rattle.transfer_library.specs.Planning.{plan_call}
use Rattle.transfer_system.specs.CallSteps.{call_of, call_step, call_violations, planned_line, goes_on, line_goes_on, line_violations, write_line}
use Rattle.transfer_system.specs.MemorySteps.{struct_size, size_of_struct, put_read, load_violations, load_step, move_temp, store_violations, store_to, store_step, both_touched, copy_violations, copy_touched, kept_target, copy_between, copy_step}
use Rattle.transfer_system.specs.StepViolations.{relation_violations, operation_violations}
use Rattle.transfer_system.specs.Steps.{operate}
use Rattle.analysis_determined.specs.UnrolledDiagnostics.SameParts.{SameParts}

-- ---- programs with parts of others

-- other items in the memory of a vector of the same length
abbrev pub held : {X : Type 0} (v : Vec X) (xs : List X) → v.len ≡ length xs → Vec X
held v xs e = record { ptr = v.ptr; len = v.len; cap = v.cap; alloc = v.alloc; items = xs; ok = (e, v.ok.1); small = v.small }

length_prop : {X : Type 0} (n : ℕ) (xs : List X) → IsProp (n ≡ length xs)
length_prop n xs = hlevel ℕ_set

module _ (f g : Flow) (h : SameParts f g) where
  pub long : g.bases.len ≡ length f.bases.items
  long = g.bases.ok.0 ∙ ap length (sym h.bases)

  -- the second program with the parts of the first one that steps look at, but for structs
  abbrev pub core : Flow
  core = record g { model = f.model; bases = held (g.bases) f.bases.items long; temps = f.temps; width = f.width }

  pub core_is : core ≡ g
  core_is =
      let m = h.model in
      let t = h.temps in
      let w = h.width in
      let b : ◌≡◌ {A = (xs : List BaseInfo) × (g.bases.len ≡ length xs)} (f.bases.items, long) (g.bases.items, g.bases.ok.0) = Σ_prop_path (λ xs. length_prop g.bases.len xs) h.bases in
      λ i. record g { model = m i; bases = held (g.bases) (b i).0 (b i).1; temps = t i; width = w i }

module _ {I : Type 0} (l : LatticeOf I) (n : IntegersOf I) where
  -- ---- operations by their views

  abbrev perform : Flow → List (Cell I) → Act → Option (List (Cell I))
  perform flow row (acts.Constant to number kind) = constant_step l n flow row to number
  perform flow row (acts.Binary to o left right kind) = binary_step l n flow row to o left right kind
  perform flow row (acts.Unary to o operand kind) = unary_step l n flow row to o operand kind
  perform flow row (acts.Compare to rel left right) = compare_step l n flow row to rel left right
  perform flow row (acts.Not to operand kind) = not_step l n flow row to operand
  perform flow row (acts.Convert to operand from kind) = convert_step l n flow row to operand from kind
  perform flow row (acts.Address to base offset) = address_step l n flow row to base offset
  perform flow row (acts.Narrow to pointer offset size) = narrow_step l n flow row to pointer offset size
  perform flow row (acts.Shift to pointer amount scale backwards) = shift_step l n flow row to pointer amount scale backwards
  perform flow row (acts.Difference to left right size) = difference_step l n flow row to left right size
  perform flow row (acts.ComparePointers to rel left right) = relation_step l n flow row to rel left right
  perform flow row (acts.Load to pointer kind) = load_step l n flow row to pointer kind
  perform flow row (acts.Store pointer value kind kept) = store_step l n flow row pointer value kind kept
  perform flow row (acts.Copy to from index) = copy_step l n flow row to from index
  perform flow row (acts.Library to function arguments newest wanted) = call_step l n flow row to function arguments newest wanted
  perform flow row (acts.ReadLine to line count stream) = cond (line_goes_on l n flow row line count stream) (Some row) None
  perform flow row (acts.Enter base) = Some (forget l n flow.bases.items base row)
  perform flow row (acts.Leave base) = Some (leave l flow.bases.items base row)
  perform flow row (acts.Forget base) = Some (forget l n flow.bases.items base row)
  perform flow row (acts.Clear base) = Some (clear l n flow.bases.items base row)
  perform flow row (acts.Spell base offset room text) = Some (spell l n flow.bases.items base offset room text row)
  perform flow row acts.Jump = Some row
  perform flow row (acts.Branch temp kind) = Some row
  perform flow row (acts.Switch temp kind) = Some row
  perform flow row acts.Stop = None

  perform_is : (flow : Flow) (row : List (Cell I)) (p : Operation) → operate l n flow row p ≡ perform flow row (act p)
  unfolding operate
  perform_is flow row op.Stop = refl
  perform_is flow row _ = refl

  abbrev violated : Flow → List (Cell I) → Act → Violations
  violated flow row (acts.Binary to o left right kind) = binary_checks l n flow row o left right kind
  violated flow row (acts.Unary to o operand kind) = unary_checks l n flow row o operand kind
  violated flow row (acts.Narrow to pointer offset size) = narrow_violations l n flow row pointer offset size
  violated flow row (acts.Shift to pointer amount scale backwards) = shift_checks l n flow row pointer amount scale backwards
  violated flow row (acts.Difference to left right size) = comparison_violations l n flow row left right
  violated flow row (acts.ComparePointers to rel left right) = relation_violations l n flow row rel left right
  violated flow row (acts.Load to pointer kind) = load_violations l n flow row pointer kind
  violated flow row (acts.Store pointer value kind kept) = store_violations l n flow row pointer kind
  violated flow row (acts.Copy to from index) = copy_violations l n flow row to from index
  violated flow row (acts.Library to function arguments newest wanted) = call_violations l n flow row function arguments wanted
  violated flow row (acts.ReadLine to line count stream) = line_violations l n flow row line count stream
  violated flow row _ = no_violations

  violated_is : (flow : Flow) (row : List (Cell I)) (p : Operation) → operation_violations l n flow row p ≡ violated flow row (act p)
  unfolding operation_violations
  violated_is flow row op.Stop = refl
  violated_is flow row _ = refl

  module _ (f g : Flow) (h : SameParts f g) where
    abbrev mid : Flow
    mid = core f g h

    -- ---- library calls

    plan_core : (function : LibFn) (arguments : List ℕ) (wanted : Option ℕ) (row : List (Cell I)) → plan_call l n function (call_of mid arguments wanted) row ≡ plan_call l n function (call_of f arguments wanted) row
    unfolding plan_call argument_value plan_malloc plan_calloc plan_realloc plan_free plan_copy plan_fill plan_puts plan_printf plan_strlen plan_strcmp plan_strcpy plan_strncpy plan_strcat
    plan_core fn_of.Tolower arguments wanted row = refl
    plan_core _ arguments wanted row = refl

    line_core : (line count stream : ℕ) (row : List (Cell I)) → planned_line l n mid row line count stream ≡ planned_line l n f row line count stream
    unfolding argument_value plan_fgets
    line_core line count stream row = refl

    apply_core : (to newest : Option ℕ) (e : Effect I) (row : List (Cell I)) → apply l n mid to newest e row ≡ apply l n f to newest e row
    unfolding apply write_text write_fill write_copy
    apply_core to newest e row = refl

    call_core : (row : List (Cell I)) (to : Option ℕ) (function : LibFn) (arguments : List ℕ) (newest wanted : Option ℕ) → call_step l n mid row to function arguments newest wanted ≡ call_step l n f row to function arguments newest wanted
    unfolding call_step
    call_core row to function arguments newest wanted =
        apply_core to newest (plan_call l n function (call_of mid arguments wanted) row).effect row
        ∙ ap (λ (p : Plan I). apply l n f to newest p.effect row) (plan_core function arguments wanted row)

    pub write_core : (row : List (Cell I)) (to : Option ℕ) (line count stream : ℕ) → write_line l n mid row to line count stream ≡ write_line l n f row to line count stream
    unfolding write_line
    write_core row to line count stream =
        apply_core to None (planned_line l n mid row line count stream).effect row
        ∙ ap (λ (p : Plan I). apply l n f to None p.effect row) (line_core line count stream row)

    -- ---- copies of structs

    size_same : (s t : Option StructType) → option_map struct_view s ≡ option_map struct_view t → size_of_struct s ≡ size_of_struct t
    size_same None None e = refl
    size_same None (Some t) e = absurd (cc)
    size_same (Some s) None e = absurd (cc)
    size_same (Some s) (Some t) e = ap (λ (v : StructView). min v.size longest) (view_same (struct_view s) (struct_view t) e)
      where
        view_same : (v w : StructView) → Some v ≡ Some w → v ≡ w
        view_same v w e = cc

    struct_size_same : (index : ℕ) → struct_size g index ≡ struct_size f index
    struct_size_same index = size_same (slice_get g.structs.items.items index) (slice_get f.structs.items.items index)
        (sym (slice_get-map struct_view g.structs.items.items index) ∙ (ap (λ vs. slice_get vs index) (sym h.structs) ∙ slice_get-map struct_view f.structs.items.items index))

    abbrev touched_by : List (Cell I) → ℕ → Bool → ℕ → Touched I
    touched_by row pointer write size = touch l n f.bases.items row (temp_value l n f row pointer).pointer 0 size write

    abbrev copied_by : List (Cell I) → ℕ → ℕ → ℕ → List StructView → ℕ → Option (List (Cell I))
    copied_by row to from index structs size = kept_target l f to (touched_by row to true size).rest (copy_struct l n f.model f.bases.items structs index (touched_by row to true size).rest (touched_by row from false size).rest row)

    copy_core : (row : List (Cell I)) (to from index : ℕ) → copy_step l n mid row to from index ≡ copy_step l n f row to from index
    unfolding copy_step copy_between copy_touched
    copy_core row to from index = ap₂ (copied_by row to from index) (sym h.structs) (struct_size_same index)

    copies_core : (row : List (Cell I)) (to from index : ℕ) → copy_violations l n mid row to from index ≡ copy_violations l n f row to from index
    copies_core row to from index = ap (λ size. both_touched (touched_by row from false size) (touched_by row to true size)) (struct_size_same index)

    -- ---- all operations

    perform_core : (row : List (Cell I)) (a : Act) → perform mid row a ≡ perform f row a
    unfolding constant_step binary_step unary_step compare_step not_step put_converted convert_value convert_step address_step narrow_touched narrow_step put_moved shift_by shift_step difference_step relation_step put_number put_truth put_pointer put_read load_step move_temp store_to store_step
    perform_core row (acts.Copy to from index) = copy_core row to from index
    perform_core row (acts.Library to function arguments newest wanted) = call_core row to function arguments newest wanted
    perform_core row (acts.ReadLine to line count stream) = ap (λ (p : Plan I). cond (goes_on p.effect) (Some row) None) (line_core line count stream row)
    perform_core row _ = refl

    pub operate_same : (row : List (Cell I)) (p q : Operation) → act p ≡ act q → operate l n g row q ≡ operate l n f row p
    operate_same row p q e =
        ap (λ z. operate l n z row q) (sym (core_is f g h)) ∙ (perform_is mid row q ∙ (perform_core row (act q) ∙ (ap (perform f row) (sym e) ∙ sym (perform_is f row p))))

    relation_core : (row : List (Cell I)) (rel : Rel) (left right : ℕ) → relation_violations l n mid row rel left right ≡ relation_violations l n f row rel left right
    relation_core row Ne left right = refl
    relation_core row _ left right = refl

    violated_core : (row : List (Cell I)) (a : Act) → violated mid row a ≡ violated f row a
    violated_core row (acts.ComparePointers to rel left right) = relation_core row rel left right
    violated_core row (acts.Copy to from index) = copies_core row to from index
    violated_core row (acts.Library to function arguments newest wanted) = ap (λ (p : Plan I). p.violations) (plan_core function arguments wanted row)
    violated_core row (acts.ReadLine to line count stream) = ap (λ (p : Plan I). p.violations) (line_core line count stream row)
    violated_core row _ = refl

    pub violations_same : (row : List (Cell I)) (p q : Operation) → act p ≡ act q → operation_violations l n g row q ≡ operation_violations l n f row p
    violations_same row p q e =
        ap (λ z. operation_violations l n z row q) (sym (core_is f g h)) ∙ (violated_is mid row q ∙ (violated_core row (act q) ∙ (ap (violated f row) (sym e) ∙ sym (violated_is f row p))))
