-- Calls that give a result alone, in rising rows.
use Rattle.std.specs.Prelude.{◌≡◌, ℕ, ◌^◌, ◌-◌, ℤ, pos, negsuc, ◌≤ℤ◌, int_lt, Bool, true, false, cond, ◌||◌, Option, Some, None, is_none, List, slice_get, refl}
use Rattle.std.proofs.Common.{arith}
use Rattle.std.proofs.lemmas.Int.{ints}
use Rattle.cc_base.specs.Lattices.{LatticeOf, OrderLaws}
use Rattle.cc_base.specs.NumberRanges.{Range}
use Rattle.cc_base.specs.IntegerDomains.{IntegersOf, BoundLaws, RangeLaws, between_or_least}
use Rattle.cc_base.specs.IntegerLaws.{MonotoneLaws}
use Rattle.c_layout.specs.declared.leaf_lists.Class.TheVariants.{Char, Int}
use Rattle.c_layout.specs.declared.library_functions.LibFn.{LibFn}
use Rattle.c_layout.specs.declared.library_functions.LibFn.TheVariants as f
use Rattle.cfg.specs.declared.programs.Flow.{Flow}
use Rattle.pointer_domain.specs.declared.base_sets.Bases.{Bases}
use Rattle.value_domain.specs.declared.values.values.Value as values
use Rattle.value_domain.specs.declared.values.row_cells.Cell.{Cell}
use Rattle.value_domain.specs.Values.LabelSets.{input_labels, labels_order}
use Rattle.value_domain.specs.Values.ValueTables.{number_value}
use Rattle.store_cells.specs.ScalarTypes.{kind_of}
use Rattle.domain_theorems.proofs.values.Flags.{Sets, or_sets}
use Rattle.domain_theorems.proofs.values.Ranges.{RangeBelow}
use Rattle.store_monotone.specs.Operations.TopCells.{top_number}
use Rattle.store_monotone.specs.Operations.TopRows.{top_row}
use Rattle.store_monotone.proofs.operations.CellReads.{size_is}
use Rattle.store_monotone.proofs.operations.StorePlaces.{bounds_some}
use Rattle.transfer_checks.specs.ViolationSets.{no_violations}
use Rattle.transfer_checks.specs.IntegerChecks.{is_no_character}
use Rattle.transfer_library_plans.specs.declared.call_plans.Effect.{Effect}
use Rattle.transfer_library_plans.specs.declared.call_plans.Effect.TheVariants as effect
use Rattle.transfer_library_plans.specs.declared.call_plans.Plan.{Plan}
use Rattle.transfer_library_plans.specs.Plans.{harmless}
use Rattle.transfer_library_plans.specs.Arguments.{value_of_argument, argument_value}
use Rattle.transfer_library_plans.specs.Outputs.{putchar_of}
use Rattle.transfer_system.specs.Effects.{put_result, apply}
use Rattle.transfer_system.specs.Planning.{plan_call}
use Rattle.transfer_system.specs.CallSteps.{call_of, call_step}
use Rattle.transfer_monotone.specs.Values.RisingRows.{LeftRise, ValuesRise}
use Rattle.transfer_monotone.specs.Values.LaidOut.{IsLaidOut}
use Rattle.transfer_monotone.specs.Values.ViolationsBelow.{ViolationsBelow}
use Rattle.transfer_monotone.specs.Values.StepLaws.{FlowRows}
use Rattle.transfer_monotone.proofs.values.RisingCells.{near_least_rises}
use Rattle.transfer_monotone.proofs.values.Results.{num_rises, labels_rise, number_rises, temp_rises, put_temp_rises}
use Rattle.transfer_monotone.proofs.values.Touches.{range_near}
use Rattle.transfer_monotone.proofs.values.IntegerSteps.{type_near}
use Rattle.transfer_monotone.proofs.values.ViolationOrder.{same_below}
use Rattle.transfer_monotone.specs.Edges.FilledRows.{AreFilled, LeavesFilled}
use Rattle.transfer_monotone.specs.Edges.CallLaws.{CallRises}
use Rattle.transfer_monotone.proofs.edges.FilledSteps.{fill_set}

-- ---- numbers

lies_more : (a b c d : ℤ) → c ≤ℤ a → b ≤ℤ d → Sets (int_lt a (negsuc 0) || int_lt (pos 255) b) (int_lt c (negsuc 0) || int_lt (pos 255) d)
lies_more a b c d h k = or_sets (int_lt a (negsuc 0)) (int_lt (pos 255) b) (int_lt c (negsuc 0)) (int_lt (pos 255) d) (λ e. grind (arith, ints)) (λ e. grind (arith, ints))

pub character_more : (x u : Range) → RangeBelow x u → Sets (is_no_character x) (is_no_character u)
character_more None u h e = absurd (cc)
character_more (Some p) None h e = absurd h
character_more (Some p) (Some q) h e = lies_more p.0 p.1 q.0 q.1 h.0 h.1 e

module _ {I : Type 0} (l : LatticeOf I) (n : IntegersOf I) (all : Bases) where
  -- results alone, the smaller below the larger
  abbrev pub ResultRises : Effect I → Effect I → Type 0
  ResultRises effect.Unreached e = Unit {0}
  ResultRises (effect.Result v) (effect.Result w) = ValuesRise l n all v w
  ResultRises _ e = ⊥

  pub record PlanRises (x y : Plan I) : Type 0 where
    pub checks : ViolationsBelow x.violations y.violations
    pub effect : ResultRises x.effect y.effect

  -- a result or none
  abbrev pub IsResult : Effect I → Type 0
  IsResult effect.Unreached = Unit {0}
  IsResult (effect.Result v) = Unit {0}
  IsResult _ = ⊥

module _ {I : Type 0} {l : LatticeOf I} {n : IntegersOf I} {stands : I → ℤ → Type 0} (o : OrderLaws l) (b : BoundLaws l n stands) (g : MonotoneLaws l n) (r : RangeLaws l n) (all : Bases) (flow : Flow) (k : IsLaidOut all flow) where
  -- ---- effects

  pub result_rises : (to : Option ℕ) (v w : values.Value I) → ValuesRise l n all v w → (x y : List (Cell I)) → FlowRows l n all flow x y → FlowRows l n all flow (put_result flow to v x) (put_result flow to w y)
  result_rises None v w j x y h = h
  result_rises (Some temp) v w j x y h = put_temp_rises o b all flow k x y h temp v w j

  apply_rises : (to newest : Option ℕ) (e d : Effect I) → ResultRises l n all e d → (x y : List (Cell I)) → FlowRows l n all flow x y → LeftRise l n (top_row n all flow.bases.items flow.temps) (apply l n flow to newest e x) (apply l n flow to newest d y)
  unfolding apply
  apply_rises to newest effect.Unreached d j x y h = tt
  apply_rises to newest (effect.Result v) (effect.Result w) j x y h = result_rises to v w j x y h
  apply_rises to newest (effect.Result v) effect.Unreached j x y h = absurd j
  apply_rises to newest (effect.Result v) (effect.Text write w) j x y h = absurd j
  apply_rises to newest (effect.Result v) (effect.Fill write w) j x y h = absurd j
  apply_rises to newest (effect.Result v) (effect.Copy write w) j x y h = absurd j
  apply_rises to newest (effect.Result v) (effect.Allocate size zero) j x y h = absurd j
  apply_rises to newest (effect.Result v) (effect.Reallocate size old) j x y h = absurd j
  apply_rises to newest (effect.Result v) (effect.Free p) j x y h = absurd j
  apply_rises to newest (effect.Text write v) d j x y h = absurd j
  apply_rises to newest (effect.Fill write v) d j x y h = absurd j
  apply_rises to newest (effect.Copy write v) d j x y h = absurd j
  apply_rises to newest (effect.Allocate size zero) d j x y h = absurd j
  apply_rises to newest (effect.Reallocate size old) d j x y h = absurd j
  apply_rises to newest (effect.Free p) d j x y h = absurd j

  pub put_fills : (to : Option ℕ) (v : values.Value I) (x : List (Cell I)) → AreFilled x → AreFilled (put_result flow to v x)
  put_fills None v x h = h
  put_fills (Some temp) v x h = fill_set x _ _ tt h

  apply_fills : (to newest : Option ℕ) (e : Effect I) → IsResult l n all e → LeavesFilled (apply l n flow to newest e)
  unfolding apply
  apply_fills to newest effect.Unreached j x h = tt
  apply_fills to newest (effect.Result v) j x h = put_fills to v x h
  apply_fills to newest (effect.Text write v) j x h = absurd j
  apply_fills to newest (effect.Fill write v) j x h = absurd j
  apply_fills to newest (effect.Copy write v) j x h = absurd j
  apply_fills to newest (effect.Allocate size zero) j x h = absurd j
  apply_fills to newest (effect.Reallocate size old) j x h = absurd j
  apply_fills to newest (effect.Free p) j x h = absurd j

  -- ---- arguments

  pub argument_rises : (arguments : List ℕ) (wanted : Option ℕ) (x y : List (Cell I)) → FlowRows l n all flow x y → (at : ℕ) → ValuesRise l n all (argument_value l n (call_of flow arguments wanted) x at) (argument_value l n (call_of flow arguments wanted) y at)
  unfolding argument_value
  argument_rises arguments wanted x y h at = of (slice_get arguments at)
    where
      of : (temp : Option ℕ) → ValuesRise l n all (value_of_argument l n flow x temp) (value_of_argument l n flow y temp)
      of None = near_least_rises o b all k.words (top_row n all flow.bases.items flow.temps)
      of (Some temp) = temp_rises o b all flow k x y h temp

  -- ---- calls whose plans rise

  pub record IsPlanned (function : LibFn) : Type 0 where
    pub rises : (arguments : List ℕ) (wanted : Option ℕ) (x y : List (Cell I)) → FlowRows l n all flow x y → PlanRises l n all (plan_call l n function (call_of flow arguments wanted) x) (plan_call l n function (call_of flow arguments wanted) y)
    pub results : (arguments : List ℕ) (wanted : Option ℕ) (x : List (Cell I)) → IsResult l n all (plan_call l n function (call_of flow arguments wanted) x).effect

  pub planned_call : (function : LibFn) → IsPlanned function → CallRises l n all flow function
  unfolding call_step
  planned_call function p = record {
    step = λ to arguments newest wanted site x y h. apply_rises to newest (plan_call l n function (call_of flow arguments wanted) x).effect (plan_call l n function (call_of flow arguments wanted) y).effect (p.rises arguments wanted x y h).effect x y h;
    checks = λ arguments wanted x y h. (p.rises arguments wanted x y h).checks;
    fills = λ to arguments newest wanted x h. apply_fills to newest (plan_call l n function (call_of flow arguments wanted) x).effect (p.results arguments wanted x) x h;
  }

  -- ---- no way on

  none_rises : PlanRises l n all (harmless effect.Unreached) (harmless effect.Unreached)
  none_rises = record { checks = same_below no_violations; effect = tt }

  exit_planned : IsPlanned f.Exit
  unfolding plan_call
  exit_planned = record { rises = λ arguments wanted x y h. none_rises; results = λ arguments wanted x. tt }

  abort_planned : IsPlanned f.Abort
  unfolding plan_call
  abort_planned = record { rises = λ arguments wanted x y h. none_rises; results = λ arguments wanted x. tt }

  -- ---- characters of input and output

  between_near : (c d : ℤ) → negsuc (2 ^ 64 - 1) ≤ℤ c → d ≤ℤ pos (2 ^ 64) → l.leq (between_or_least l n c d) (top_number n) ≡ true
  between_near c d h j = range_near o b all (Some (c, d)) (h, j)

  getchar_planned : IsPlanned f.Getchar
  unfolding plan_call
  getchar_planned = record {
    rises = λ arguments wanted x y h. record {
      checks = same_below no_violations;
      effect = number_rises o b all (between_or_least l n (negsuc 0) (pos 255)) (between_or_least l n (negsuc 0) (pos 255)) (input_labels (kind_of flow.model Int true)) (input_labels (kind_of flow.model Int true))
          (o.reflexive (between_or_least l n (negsuc 0) (pos 255))) (between_near (negsuc 0) (pos 255) (omega (arith, ints)) (omega (arith, ints))) (labels_order.reflexive (input_labels (kind_of flow.model Int true)));
    };
    results = λ arguments wanted x. tt;
  }

  putchar_rises : (c d : values.Value I) → ValuesRise l n all c d → (x y : I) → l.leq x y ≡ true → l.leq y (top_number n) ≡ true → PlanRises l n all (putchar_of l n c x) (putchar_of l n d y)
  putchar_rises c d j x y i m = by_none (is_none (n.bounds x)) (is_none (n.bounds y)) (bounds_some o b x y (n.bounds x) (n.bounds y) refl refl i)
    where
      by_none : (a e : Bool) → Sets e a → PlanRises l n all (cond a (harmless effect.Unreached) (harmless (effect.Result (number_value l x c.labels)))) (cond e (harmless effect.Unreached) (harmless (effect.Result (number_value l y d.labels))))
      by_none true true q = record { checks = same_below no_violations; effect = tt }
      by_none true false q = record { checks = same_below no_violations; effect = tt }
      by_none false true q = absurd (let z : false ≡ true = q refl in cc)
      by_none false false q = record { checks = same_below no_violations; effect = number_rises o b all x y c.labels d.labels i m (labels_rise o b all j) }

  putchar_result : (c : values.Value I) (x : I) → IsResult l n all (putchar_of l n c x).effect
  putchar_result c x = by_none (is_none (n.bounds x))
    where
      by_none : (a : Bool) → IsResult l n all (cond a (harmless effect.Unreached) (harmless (effect.Result (number_value l x c.labels)))).effect
      by_none true = tt
      by_none false = tt

  putchar_planned : IsPlanned f.Putchar
  unfolding plan_call
  putchar_planned = record {
    rises = λ arguments wanted x y h.
        let c : values.Value I = argument_value l n (call_of flow arguments wanted) x 0 in
        let d : values.Value I = argument_value l n (call_of flow arguments wanted) y 0 in
        let j = argument_rises arguments wanted x y h 0 in
        putchar_rises c d j (n.convert c.num (kind_of flow.model Char false)) (n.convert d.num (kind_of flow.model Char false)) (g.convert_monotone (kind_of flow.model Char false) c.num d.num (size_is flow.model Char) (num_rises o b all j))
        (type_near o b (n.convert d.num (kind_of flow.model Char false)) (kind_of flow.model Char false) (size_is flow.model Char) (λ a e z. r.convert_fits d.num (kind_of flow.model Char false) a e (size_is flow.model Char) z));
    results = λ arguments wanted x. putchar_result (argument_value l n (call_of flow arguments wanted) x 0) (n.convert (argument_value l n (call_of flow arguments wanted) x 0).num (kind_of flow.model Char false));
  }

  pub getchar_rises : CallRises l n all flow f.Getchar
  getchar_rises = planned_call f.Getchar getchar_planned

  pub putchar_call : CallRises l n all flow f.Putchar
  putchar_call = planned_call f.Putchar putchar_planned

  pub exit_rises : CallRises l n all flow f.Exit
  exit_rises = planned_call f.Exit exit_planned

  pub abort_rises : CallRises l n all flow f.Abort
  abort_rises = planned_call f.Abort abort_planned
