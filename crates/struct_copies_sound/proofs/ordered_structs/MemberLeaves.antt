-- Sizes and members.
use Rattle.std.specs.Prelude.{◌≡◌, ℕ, zero, suc, ◌+◌, ◌-◌, ◌*◌, ◌^◌, ◌≤◌, ◌<◌, Bool, true, false, cond, nat_lt, Option, List, [], ◌∷◌, ◌++◌, length, slice_get, get_or, refl}
use Rattle.std.specs.List.{list_all}
use Rattle.std.proofs.Common.{arith, sym, ap, ◌∙◌}
use Rattle.std.proofs.lemmas.Bool.{and_parts, ltb-true, ltb-false}
use Rattle.std.proofs.lemmas.List.{length-append}
use Rattle.std.proofs.lemmas.Nat.{mul-le}
use Rattle.c_layout.specs.declared.data_model.Model.{Model}
use Rattle.c_layout.specs.declared.leaf_lists.Leaf.{Leaf}
use Rattle.c_layout.specs.Layout.{size_of_type}
use Rattle.c_layout.specs.Leaves.{of_fields}
use Rattle.c_layout.specs.StructViews.{FieldView, StructView}
use Rattle.c_layout.specs.Types.{Ty, Int, Pointer, Array, Struct, Void}
use Rattle.store_cells.specs.RowPositions.{capped}
use Rattle.store_structs.specs.LeafCounts.{bytes_in}
use Rattle.store_structs.specs.LeafNumbers.{count_of, member_with, at_element, found_at}
use Rattle.store_structs.specs.LaidApart.{has_class_bytes, is_member_in, are_members_in}
use Rattle.store_monotone.proofs.layouts.Extents.{member_leaf, all_members_as}
use Rattle.store_monotone.proofs.tags.TypeTags.{member_is}
use Rattle.struct_copies_sound.proofs.ordered_structs.RepeatedLeaves.{AreLeaves, left_of, right_of}

-- what holds of all structs holds where there is none, if it holds of the empty one
pub at_each : {X : Type 0} (p : X → Bool) (none : X) → p none ≡ true → (xs : List X) → list_all p xs ≡ true → (i : ℕ) → p (get_or xs i none) ≡ true
at_each p none e [] h i = e
at_each p none e (x ∷ xs) h zero = (and_parts (p x) (list_all p xs) h).0
at_each p none e (x ∷ xs) h (suc i) = at_each p none e xs (and_parts (p x) (list_all p xs) h).1 i

-- ---- sizes

-- an element is no larger than an array of some
pub no_larger : (n size : ℕ) → size ≤ suc n * size
no_larger n size = let a : 1 * size ≤ suc n * size = mul-le 1 size (suc n) size (omega arith) (omega arith) in omega (arith, a)

module _ (structs : List StructView) (pointer : ℕ) where
  -- sizes in 64 bits are exact where they are small
  pub by_size : (t : Ty) → size_of_type structs pointer t ≤ 2 ^ 30 → bytes_in structs pointer t ≡ size_of_type structs pointer t
  by_size (Int k) h = refl
  by_size (Pointer t) h = refl
  by_size (Array t zero) h = omega arith
  by_size (Array t (suc n)) h =
      let a = no_larger n (size_of_type structs pointer t) in
      let b = by_size t (omega (arith, a, h)) in
      let c : suc n * bytes_in structs pointer t ≡ suc n * size_of_type structs pointer t = ap (λ z. suc n * z) b in
      omega (arith, c, h)
  by_size (Struct i) h = refl
  by_size Void h = refl

-- ---- members

abbrev pub sum_of : (Ty → ℕ) → List FieldView → ℕ
sum_of count [] = 0
sum_of count (f ∷ fs) = count f.ctype + sum_of count fs

module _ (m : Model) (structs : List StructView) (folded : Bool) (leaf : Ty → ℕ → ℕ → Option Leaf) (list : Ty → ℕ → List Leaf) (recorded : Ty → ℕ) (passes : Ty → Bool) (of_type : (t : Ty) → passes t ≡ true → has_class_bytes m t ≡ true → size_of_type structs m.pointer t ≤ 2 ^ 30 → AreLeaves (leaf t) (list t) (size_of_type structs m.pointer t) (recorded t) (count_of structs folded t)) where
  abbrev total : List FieldView → ℕ
  total = sum_of (count_of structs folded)

  record AreMembers (room from : ℕ) (fs : List FieldView) : Type 0 where
    kept : sum_of recorded fs ≡ total fs
    few : from + total fs ≤ room
    long : (at : ℕ) → length (of_fields fs at list) ≡ total fs
    each : (number at : ℕ) → at + room ≤ 2 ^ 30 → slice_get (of_fields fs at list) number ≡ member_leaf m structs folded leaf fs number at

  are_members : (room from : ℕ) (fs : List FieldView) → room ≤ 2 ^ 30 → from ≤ room → are_members_in m structs room from fs ≡ true → list_all (λ f. passes f.ctype) fs ≡ true → AreMembers room from fs
  are_members room from [] small within h k = record { kept = refl; few = omega (arith, within); long = λ at. refl; each = λ number at near. refl }
  are_members room from (f ∷ fs) small within h k =
      let p = and_parts (is_member_in m structs room from f) (are_members_in m structs room (f.offset + bytes_in structs m.pointer f.ctype) fs) h in
      let q = and_parts (passes f.ctype) (list_all (λ f. passes f.ctype) fs) k in
      let member = member_is m structs room from f small p.0 in
      let to = member.to in
      let from_on = member.from in
      let size = member.same in
      let own = of_type f.ctype q.0 member.kind (omega (arith, to, small)) in
      let others = are_members room (f.offset + bytes_in structs m.pointer f.ctype) fs small (omega (arith, to, size)) p.1 q.1 in
      let own_kept = own.kept in
      let others_kept = others.kept in
      let own_few = own.few in
      let others_few = others.few in
      record {
        kept = omega (arith, own_kept, others_kept);
        few = omega (arith, own_few, others_few, from_on, size);
        long = λ at.
            let a = length-append (list f.ctype (at + f.offset)) (of_fields fs at list) in
            let b = own.long (at + f.offset) in
            let c = others.long at in
            omega (arith, a, b, c);
        each = λ number at near.
            let long = own.long (at + f.offset) in
            let same : at + f.offset ≡ capped (at + f.offset) = omega (arith, near, to) in
            by_test number at long (nat_lt number (count_of structs folded f.ctype)) refl
            (λ below. own.each number (at + f.offset) below (omega (arith, near, to, size)) ∙ ap (leaf f.ctype number) same)
            (others.each (number - count_of structs folded f.ctype) at near);
      }
    where
      by_test : (number at : ℕ) → length (list f.ctype (at + f.offset)) ≡ count_of structs folded f.ctype → (c : Bool) → nat_lt number (count_of structs folded f.ctype) ≡ c
          → (number < count_of structs folded f.ctype → slice_get (list f.ctype (at + f.offset)) number ≡ leaf f.ctype number (capped (at + f.offset)))
          → slice_get (of_fields fs at list) (number - count_of structs folded f.ctype) ≡ member_leaf m structs folded leaf fs (number - count_of structs folded f.ctype) at
          → slice_get (list f.ctype (at + f.offset) ++ of_fields fs at list) number ≡ cond c (leaf f.ctype number (capped (at + f.offset))) (member_leaf m structs folded leaf fs (number - count_of structs folded f.ctype) at)
      by_test number at long true e own others =
          let below = ltb-true number (count_of structs folded f.ctype) e in
          left_of (list f.ctype (at + f.offset)) (of_fields fs at list) number (omega (arith, below, long)) ∙ own below
      by_test number at long false e own others =
          let past = ltb-false number (count_of structs folded f.ctype) e in
          right_of (list f.ctype (at + f.offset)) (of_fields fs at list) number (number - count_of structs folded f.ctype) (omega (arith, past, long)) ∙ others

  -- the leaves of all members, whatever the number
  pub record AreAll (fields : List FieldView) (room : ℕ) : Type 0 where
    pub leaves : AreLeaves (λ number at. at_element leaf (found_at fields at (member_with structs folded fields 0 number))) (λ at. of_fields fields at list) room (sum_of recorded fields) (sum_of recorded fields)
    pub all : (number at : ℕ) → at + room ≤ 2 ^ 30 → slice_get (of_fields fields at list) number ≡ at_element leaf (found_at fields at (member_with structs folded fields 0 number))

  pub all_members : (room : ℕ) (fields : List FieldView) → room ≤ 2 ^ 30 → are_members_in m structs room 0 fields ≡ true → list_all (λ f. passes f.ctype) fields ≡ true → AreAll fields room
  all_members room fields small h k =
      let a = are_members room 0 fields small (omega arith) h k in
      let kept = a.kept in
      let few = a.few in
      let all : (number at : ℕ) → at + room ≤ 2 ^ 30 → slice_get (of_fields fields at list) number ≡ at_element leaf (found_at fields at (member_with structs folded fields 0 number)) =
      λ number at near. a.each number at near ∙ sym (all_members_as m structs folded leaf fields number at) in
      record {
        leaves = record { kept = refl; few = omega (arith, kept, few); long = λ at. a.long at ∙ sym kept; each = λ number at below near. all number at near };
        all = all;
      }
