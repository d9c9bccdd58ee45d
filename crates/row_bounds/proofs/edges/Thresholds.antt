-- The thresholds of a well-formed program reach the least number of any type.
use Rattle.std.specs.Prelude.{◌≡◌, ℕ, ◌*◌, ◌-◌, ◌^◌, ◌==◌, ◌||◌, ℤ, negsuc, int_le, true, List, slice_index_or}
use Rattle.std.proofs.Common.{arith, ap, inl, inr}
use Rattle.std.proofs.lemmas.Int.{ints}
use Rattle.std.proofs.lemmas.Bool.{and_parts, eqb-true}
use Rattle.std.proofs.lemmas.List.Elements.{Contains-append_left}
use Rattle.std.proofs.lemmas.List.Folds.{list_any_at}
use Rattle.c_layout.specs.Models.{is_model}
use Rattle.c_layout.specs.declared.data_model.Model.{Model}
use Rattle.cfg.specs.ThresholdNumbers.{limits_of}
use Rattle.cfg.specs.Nearest.{nearest_of, AreThresholds}
use Rattle.interval_domain.specs.Intervals.IntervalRound.{contains_from}
use Rattle.interval_domain.specs.Numbers.Nearest.{Has}
use Rattle.row_bounds.specs.Stores.Floors.{least_number}
use Rattle.row_bounds.specs.Edges.OwnLists.{ReachesTypes}

-- the least number of the widest type is a limit of each model
limits_least : (m : Model) → is_model m ≡ true → Has (limits_of m) least_number
limits_least m h =
    let a = and_parts (m.short == 2) _ h in
    let c = and_parts (m.int == 2 || m.int == 4) _ a.1 in
    let d = and_parts (m.long == 4 || m.long == 8) _ c.1 in
    let e = and_parts (m.long_long == 8) _ d.1 in
    inr (inr (inr (inr (inr (inr (inr (inr (inr (inr (inr (inr (inr (inr (inr (inr (inl (least_is m.long_long (eqb-true m.long_long 8 e.0))))))))))))))))))
  where
    least_is : (bytes : ℕ) → bytes ≡ 8 → negsuc (2 ^ (8 * bytes - 1) - 1) ≡ least_number
    least_is bytes e = ap (λ k. negsuc (2 ^ (8 * k - 1) - 1)) e

le_same : (a c : ℤ) → a ≡ c → int_le a c ≡ true
le_same a c h = grind (arith, ints)

pub thresholds_reach : (m : Model) (numbers list : List ℤ) → is_model m ≡ true → AreThresholds (limits_of m) numbers list → ReachesTypes list
thresholds_reach m numbers list h t =
    let c = t.kept least_number (Contains-append_left (limits_of m) (nearest_of t.others) least_number (contains_from (limits_of m) least_number (limits_least m h))) in
    list_any_at (λ m. int_le m least_number) list c.0 least_number c.1 (le_same (slice_index_or list c.0 least_number) least_number c.2)
