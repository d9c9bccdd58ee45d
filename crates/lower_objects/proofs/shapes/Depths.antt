-- First zeros at a depth above 0.
use Rattle.std.proofs.Common.{◌≡◌, ◌<◌, ◌-◌, ◌+◌, ◌++◌, ℕ, List, zero, suc, arith, ap, sym, ◌∙◌}
use Rattle.c_layout.specs.declared.shapes.ZeroPart.{ZeroPart}
use Rattle.c_layout.specs.Types.{Ty}
use Rattle.c_layout.specs.StructViews.{StructView}
use Rattle.c_layout.specs.Layout.{size_of_type}
use Rattle.c_layout.specs.Leaves.{repeats}
use Rattle.lower_objects.specs.Shapes.FirstZeros.{zeros_within, unit_zeros, unit_count, unit_of}

pub zeros_at : (depth : ℕ) (structs : List StructView) (pointer : ℕ) (t : Ty) (at : ℕ) → 0 < depth
    → zeros_within depth structs pointer t at ≡ repeats (unit_count t) at (size_of_type structs pointer (unit_of t)) (unit_zeros structs (zeros_within (depth - 1) structs pointer) (unit_of t))
zeros_at zero structs pointer t at some = absurd (omega arith)
zeros_at (suc depth) structs pointer t at some =
    let e : depth ≡ suc depth - 1 = omega arith in
    ap (λ d. repeats (unit_count t) at (size_of_type structs pointer (unit_of t)) (unit_zeros structs (zeros_within d structs pointer) (unit_of t))) e

-- what a loop over all elements adds is the zeros of the type
pub zeros_whole : (before : List ZeroPart) (depth : ℕ) (structs : List StructView) (pointer : ℕ) (t unit : Ty) (count step at : ℕ) → 0 < depth → unit ≡ unit_of t → count ≡ unit_count t → step ≡ size_of_type structs pointer unit
    → before ++ repeats count at step (unit_zeros structs (zeros_within (depth - 1) structs pointer) unit) ≡ before ++ zeros_within depth structs pointer t at
zeros_whole before depth structs pointer t unit count step at some is_unit is_count is_step =
    let size : step ≡ size_of_type structs pointer (unit_of t) = is_step ∙ ap (size_of_type structs pointer) is_unit in
    let same : repeats count at step (unit_zeros structs (zeros_within (depth - 1) structs pointer) unit) ≡ repeats (unit_count t) at (size_of_type structs pointer (unit_of t)) (unit_zeros structs (zeros_within (depth - 1) structs pointer) (unit_of t)) =
    λ i. repeats (is_count i) at (size i) (unit_zeros structs (zeros_within (depth - 1) structs pointer) (is_unit i)) in
    ap (λ r. before ++ r) (same ∙ sym (zeros_at depth structs pointer t at some))
