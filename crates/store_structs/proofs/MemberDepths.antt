-- Members at a depth above 0.
use Rattle.std.proofs.Common.{◌≡◌, ◌<◌, ◌-◌, ℕ, List, true, false, zero, suc, arith, ap}
use Rattle.c_layout.specs.StructViews.{StructView}
use Rattle.store_structs.specs.declared.leaf_numbers.Places.{Places}
use Rattle.store_structs.specs.LeafNumbers.{at_element, member_at, plain_leaf_by, plain_member, folded_leaf_by, folded_member}

pub plain_deep : (depth : ℕ) (structs : List StructView) (pointer : ℕ) (places : Places) (i number at : ℕ) → 0 < depth
    → plain_member depth structs pointer places i number at ≡ at_element (plain_leaf_by (plain_member (depth - 1) structs pointer places) structs pointer places) (member_at structs false i number at)
plain_deep zero structs pointer places i number at some = absurd (omega arith)
plain_deep (suc depth) structs pointer places i number at some =
    let e : depth ≡ suc depth - 1 = omega arith in
    ap (λ d. at_element (plain_leaf_by (plain_member d structs pointer places) structs pointer places) (member_at structs false i number at)) e

pub folded_deep : (depth : ℕ) (structs : List StructView) (pointer : ℕ) (i number at : ℕ) → 0 < depth
    → folded_member depth structs pointer i number at ≡ at_element (folded_leaf_by (depth - 1) (folded_member (depth - 1) structs pointer) structs pointer) (member_at structs true i number at)
folded_deep zero structs pointer i number at some = absurd (omega arith)
folded_deep (suc depth) structs pointer i number at some =
    let e : depth ≡ suc depth - 1 = omega arith in
    ap (λ d. at_element (folded_leaf_by d (folded_member d structs pointer) structs pointer) (member_at structs true i number at)) e
