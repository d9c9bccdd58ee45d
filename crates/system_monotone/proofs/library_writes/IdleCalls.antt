-- Calls that write nothing, below larger ones.
use Rattle.std.specs.Prelude.{◌≡◌, ◌⊎◌, ℕ, ℤ, pos, ◌≤ℤ◌, int_le, Bool, true, false, cond, Option, Some, None, is_some, List, refl}
use Rattle.std.proofs.Common.{arith, inl, inr, sym, subst}
use Rattle.std.proofs.lemmas.Int.{ints}
use Rattle.std.proofs.lemmas.Bool.{false_from_ne_true}
use Rattle.cc_base.specs.Lattices.{LatticeOf, OrderLaws}
use Rattle.cc_base.specs.IntegerDomains.{IntegersOf, BoundLaws, RangeLaws}
use Rattle.cc_base.specs.IntegerLaws.{MonotoneLaws}
use Rattle.cc_base.specs.NumberRanges.{Range}
use Rattle.cfg.specs.declared.programs.Flow.{Flow}
use Rattle.pointer_domain.specs.declared.base_sets.Bases.{Bases}
use Rattle.value_domain.specs.declared.values.row_cells.Cell.{Cell}
use Rattle.value_domain.specs.Values.ValueTables.{pointer_value}
use Rattle.domain_theorems.proofs.values.Flags.{Sets}
use Rattle.domain_theorems.proofs.values.Ranges.{RangeBelow}
use Rattle.store_monotone.specs.Operations.TopRows.{top_row}
use Rattle.transfer_library_plans.specs.declared.call_plans.Effect.{Effect}
use Rattle.transfer_library_plans.specs.declared.call_plans.Effect.TheVariants as effect
use Rattle.transfer_library.specs.declared.memory_calls.Target.{Target}
use Rattle.transfer_library.specs.MemoryCalls.{lower_of, nothing_written}
use Rattle.transfer_library.specs.Effects.{put_result, apply}
use Rattle.transfer_system.specs.CallSteps.{goes_on}
use Rattle.transfer_monotone.specs.Values.RisingRows.{LeftRise, PointersRise}
use Rattle.transfer_monotone.specs.Values.LaidOut.{IsLaidOut}
use Rattle.transfer_monotone.specs.Values.StepLaws.{FlowRows}
use Rattle.transfer_monotone.proofs.values.Results.{pointer_rises}
use Rattle.transfer_monotone.proofs.library.ResultCalls.{result_rises}

-- where a larger count surely is of a byte, so is a smaller one
pub sure_less : (x u : Range) → is_some x ≡ true → RangeBelow x u → Sets (int_le (pos 1) (lower_of u)) (int_le (pos 1) (lower_of x))
sure_less None u c h e = absurd (cc)
sure_less (Some p) None c h e = absurd h
sure_less (Some p) (Some q) c h e = more p.0 q.0 h.0 e
  where
    more : (a c : ℤ) → c ≤ℤ a → int_le (pos 1) c ≡ true → int_le (pos 1) a ≡ true
    more a c h e = grind (arith, ints)

module _ {I : Type 0} {l : LatticeOf I} {n : IntegersOf I} {stands : I → ℤ → Type 0} (o : OrderLaws l) (b : BoundLaws l n stands) (g : MonotoneLaws l n) (r : RangeLaws l n) (all : Bases) (flow : Flow) (k : IsLaidOut all flow) (x y : Target I) where
  -- no byte of the smaller target need be written
  abbrev pub IsIdle : Type 0
  IsIdle = int_le (pos 1) (lower_of x.count) ≡ false

  pub larger_idle : is_some x.count ≡ true → RangeBelow x.count y.count → IsIdle → int_le (pos 1) (lower_of y.count) ≡ false
  larger_idle some count e = false_from_ne_true (int_le (pos 1) (lower_of y.count)) (λ (z : int_le (pos 1) (lower_of y.count) ≡ true). let t = sure_less x.count y.count some count z in cc)

  module _ (some : is_some x.count ≡ true) (count : RangeBelow x.count y.count) (d : Effect I) where
    -- the larger call goes on too, where it writes nothing or goes on in any case
    pub idle_on : (d ≡ nothing_written l y) ⊎ (goes_on d ≡ true) → Sets (goes_on (nothing_written l x)) (goes_on d)
    idle_on h = by_need (int_le (pos 1) (lower_of x.count)) refl
      where
        rest_on : IsIdle → goes_on d ≡ true
        rest_on e = elim h [
          | inl f ↦ subst (λ c. goes_on c ≡ true) (sym f) (subst (λ z. goes_on (cond z effect.Unreached (effect.Result (pointer_value l y.rest))) ≡ true) (sym (larger_idle some count e)) refl)
          | inr f ↦ f
        ]

        by_need : (z : Bool) → int_le (pos 1) (lower_of x.count) ≡ z → Sets (goes_on (cond z effect.Unreached (effect.Result (pointer_value l x.rest)))) (goes_on d)
        by_need true e f = absurd (cc)
        by_need false e f = rest_on e

    module _ (rest : PointersRise l n all x.rest y.rest) (to newest : Option ℕ) (p q : List (Cell I)) where
      abbrev done : Effect I → List (Cell I) → Option (List (Cell I))
      done e row = apply l n flow to newest e row

      pub both_left : (a e : List (Cell I)) → FlowRows l n all flow a e → FlowRows l n all flow (put_result flow to (pointer_value l x.rest) a) (put_result flow to (pointer_value l y.rest) e)
      both_left a e h = result_rises o b g r all flow k to (pointer_value l x.rest) (pointer_value l y.rest) (pointer_rises o b all x.rest y.rest rest) a e h

      -- what the larger call leaves lies above the row as it was, where it writes nothing or nothing that lies below
      pub idle_left : FlowRows l n all flow p q → (d ≡ nothing_written l y) ⊎ (IsIdle → LeftRise l n (top_row n all flow.bases.items flow.temps) (done (effect.Result (pointer_value l x.rest)) p) (done d q))
          → LeftRise l n (top_row n all flow.bases.items flow.temps) (done (nothing_written l x) p) (done d q)
      unfolding apply
      idle_left rows h = by_need (int_le (pos 1) (lower_of x.count)) refl
        where
          rest_left : (z : Bool) → z ≡ false → LeftRise l n (top_row n all flow.bases.items flow.temps) (done (effect.Result (pointer_value l x.rest)) p) (done (cond z effect.Unreached (effect.Result (pointer_value l y.rest))) q)
          rest_left true e = absurd (cc)
          rest_left false e = both_left p q rows

          larger_left : IsIdle → LeftRise l n (top_row n all flow.bases.items flow.temps) (done (effect.Result (pointer_value l x.rest)) p) (done d q)
          larger_left e = elim h [
            | inl f ↦ subst (λ c. LeftRise l n (top_row n all flow.bases.items flow.temps) (done (effect.Result (pointer_value l x.rest)) p) (done c q)) (sym f) (rest_left (int_le (pos 1) (lower_of y.count)) (larger_idle some count e))
            | inr f ↦ f e
          ]

          by_need : (z : Bool) → int_le (pos 1) (lower_of x.count) ≡ z → LeftRise l n (top_row n all flow.bases.items flow.temps) (done (cond z effect.Unreached (effect.Result (pointer_value l x.rest))) p) (done d q)
          by_need true e = tt
          by_need false e = larger_left e
