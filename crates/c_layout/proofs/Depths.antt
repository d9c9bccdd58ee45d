-- Leaves at a depth above 0.
use Rattle.std.proofs.Common.{◌≡◌, ◌≤◌, ◌<◌, ◌-◌, ◌+◌, ◌++◌, ℕ, List, zero, suc, arith, ap, ap₂, sym, ◌∙◌, append_assoc}
use Rattle.std.proofs.lemmas.List.{append-nil}
use Rattle.c_layout.specs.declared.leaf_lists.Leaf.{Leaf}
use Rattle.c_layout.specs.declared.leaf_lists.Places.{Places}
use Rattle.c_layout.specs.Types.{Ty}
use Rattle.c_layout.specs.StructViews.{StructView}
use Rattle.c_layout.specs.Layout.{size_of_type}
use Rattle.c_layout.specs.Leaves.{plain_leaves, plain_unit, repeats, repeated, full_count, behind_all, folded_leaves, folded_unit, short_count, behind_short}

pub plain_at : (depth : ℕ) (structs : List StructView) (pointer : ℕ) (places : Places) (t : Ty) (at : ℕ) → 0 < depth
    → plain_leaves depth structs pointer places t at ≡ repeated (full_count t) at (size_of_type structs pointer (behind_all t)) (plain_unit structs places (plain_leaves (depth - 1) structs pointer places) (behind_all t))
plain_at zero structs pointer places t at some = absurd (omega arith)
plain_at (suc depth) structs pointer places t at some =
    let e : depth ≡ suc depth - 1 = omega arith in
    ap (λ d. repeated (full_count t) at (size_of_type structs pointer (behind_all t)) (plain_unit structs places (plain_leaves d structs pointer places) (behind_all t))) e

pub folded_at : (depth : ℕ) (structs : List StructView) (pointer : ℕ) (t : Ty) (at : ℕ) → 0 < depth
    → folded_leaves depth structs pointer t at ≡ repeated (short_count t) at (size_of_type structs pointer (behind_short t)) (folded_unit depth structs pointer (folded_leaves (depth - 1) structs pointer) (behind_short t))
folded_at zero structs pointer t at some = absurd (omega arith)
folded_at (suc depth) structs pointer t at some =
    let e : depth ≡ suc depth - 1 = omega arith in
    ap (λ d. repeated (short_count t) at (size_of_type structs pointer (behind_short t)) (folded_unit (suc depth) structs pointer (folded_leaves d structs pointer) (behind_short t))) e

repeats_by : {X : Type 0} (n at step : ℕ) (unit : ℕ → List X) (left : ℕ) → n ≡ suc left → repeats n at step unit ≡ unit at ++ repeats left (at + step) step unit
repeats_by n at step unit left is = ap (λ k. repeats k at step unit) is

-- a turn of a loop over repeated lists
pub turn : {X : Type 0} (out out_now whole : List X) (unit : ℕ → List X) (count i from from_now step : ℕ) → i < count → out_now ≡ out ++ unit from → from_now ≡ from + step
    → out ++ repeats (count - i) from step unit ≡ whole → out_now ++ repeats (count - (i + 1)) from_now step unit ≡ whole
turn out out_now whole unit count i from from_now step some is_out is_from before =
    let left : count - i ≡ suc (count - (i + 1)) = omega arith in
    ap₂ (λ o f. o ++ repeats (count - (i + 1)) f step unit) is_out is_from
    ∙ append_assoc out (unit from) _
    ∙ sym (ap (λ r. out ++ r) (repeats_by (count - i) from step unit (count - (i + 1)) left))
    ∙ before

pub all_turns : {X : Type 0} (out whole : List X) (unit : ℕ → List X) (count i from step : ℕ) → count ≤ i → out ++ repeats (count - i) from step unit ≡ whole → out ≡ whole
all_turns out whole unit count i from step done before =
    let none : count - i ≡ 0 = omega arith in
    sym (append-nil out) ∙ sym (ap (λ k. out ++ repeats k from step unit) none) ∙ before

-- what a loop over all elements adds is the leaves of the type
pub plain_whole : (before : List Leaf) (depth : ℕ) (structs : List StructView) (pointer : ℕ) (places : Places) (t unit : Ty) (count step at : ℕ) → 0 < depth → unit ≡ behind_all t → count ≡ full_count t → step ≡ size_of_type structs pointer unit
    → before ++ repeated count at step (plain_unit structs places (plain_leaves (depth - 1) structs pointer places) unit) ≡ before ++ plain_leaves depth structs pointer places t at
plain_whole before depth structs pointer places t unit count step at some is_unit is_count is_step =
    let size : step ≡ size_of_type structs pointer (behind_all t) = is_step ∙ ap (size_of_type structs pointer) is_unit in
    let same : repeated count at step (plain_unit structs places (plain_leaves (depth - 1) structs pointer places) unit) ≡ repeated (full_count t) at (size_of_type structs pointer (behind_all t)) (plain_unit structs places (plain_leaves (depth - 1) structs pointer places) (behind_all t)) =
    λ i. repeated (is_count i) at (size i) (plain_unit structs places (plain_leaves (depth - 1) structs pointer places) (is_unit i)) in
    ap (λ r. before ++ r) (same ∙ sym (plain_at depth structs pointer places t at some))

pub folded_whole : (before : List Leaf) (depth : ℕ) (structs : List StructView) (pointer : ℕ) (t unit : Ty) (count step at : ℕ) → 0 < depth → unit ≡ behind_short t → count ≡ short_count t → step ≡ size_of_type structs pointer unit
    → before ++ repeated count at step (folded_unit depth structs pointer (folded_leaves (depth - 1) structs pointer) unit) ≡ before ++ folded_leaves depth structs pointer t at
folded_whole before depth structs pointer t unit count step at some is_unit is_count is_step =
    let size : step ≡ size_of_type structs pointer (behind_short t) = is_step ∙ ap (size_of_type structs pointer) is_unit in
    let same : repeated count at step (folded_unit depth structs pointer (folded_leaves (depth - 1) structs pointer) unit) ≡ repeated (short_count t) at (size_of_type structs pointer (behind_short t)) (folded_unit depth structs pointer (folded_leaves (depth - 1) structs pointer) (behind_short t)) =
    λ i. repeated (is_count i) at (size i) (folded_unit depth structs pointer (folded_leaves (depth - 1) structs pointer) (is_unit i)) in
    ap (λ r. before ++ r) (same ∙ sym (folded_at depth structs pointer t at some))
