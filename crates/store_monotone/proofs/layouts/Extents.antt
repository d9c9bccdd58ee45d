-- Leaves by number whose bytes lie in an extent, and no byte is of two of them: arrays and members keep this.
use Rattle.std.specs.Prelude.{◌≡◌, ℕ, suc, ◌+◌, ◌-◌, ◌*◌, ◌/◌, ◌%◌, ◌^◌, ◌≤◌, ◌<◌, Bool, true, false, cond, ◌==◌, nat_le, nat_lt, Option, Some, None, List, [], ◌∷◌, slice_get, refl, ◌⊎◌}
use Rattle.std.proofs.Common.{arith, sym, subst, ap, ◌∙◌, inl, inr}
use Rattle.std.proofs.lemmas.Bool.{and_parts, cases_lt, leb-true, ltb-true, ltb-false, eqb-false}
use Rattle.std.proofs.lemmas.Nat.{div-add-mod', mul-le}
use Rattle.std.proofs.Math.Nat.{lt-div-mul-add}
use Rattle.c_layout.specs.declared.data_model.Model.{Model}
use Rattle.c_layout.specs.declared.leaf_lists.Leaf.{Leaf}
use Rattle.c_layout.specs.StructViews.{FieldView, StructView}
use Rattle.c_layout.specs.Types.{Ty}
use Rattle.cfg.specs.BaseShapes.{ends_by}
use Rattle.store_cells.specs.RowPositions.{capped}
use Rattle.store_structs.specs.LeafCounts.{bytes_in}
use Rattle.store_structs.specs.LeafNumbers.{Element, count_of, member_with, element_with, behind, at_element, field_at, found_at}
use Rattle.store_structs.specs.LaidApart.{has_class_bytes, is_member_in, are_members_in}

-- leaves by number at an offset, up to a count: each is as wanted, its bytes lie among so many from the offset on, and no byte
-- is of two of them
pub record AreExtents (Q : Leaf → Type 0) (R : Leaf → ℕ → Type 0) (leaf : ℕ → ℕ → Option Leaf) (size count : ℕ) : Type 0 where
  pub made : (number at : ℕ) (l : Leaf) → at + size ≤ 2 ^ 30 → leaf number at ≡ Some l → Q l
  pub inside : (number at x : ℕ) (l : Leaf) → at + size ≤ 2 ^ 30 → leaf number at ≡ Some l → R l x → (at ≤ x) × (x < at + size)
  pub one : (a b at x : ℕ) (k l : Leaf) → at + size ≤ 2 ^ 30 → a < count → b < count → leaf a at ≡ Some k → leaf b at ≡ Some l → R k x → R l x → a ≡ b

pub some_same : {X : Type 0} (a b : X) → Some a ≡ Some b → a ≡ b
some_same a b e = cc

pub none_some : {X : Type 0} (a : X) → None ≡ Some a → ⊥
none_some a e = cc

module _ {Q : Leaf → Type 0} {R : Leaf → ℕ → Type 0} where
  -- the same leaves
  pub extents_as : (leaf other : ℕ → ℕ → Option Leaf) (size count : ℕ) → ((number at : ℕ) → leaf number at ≡ other number at) → AreExtents Q R other size count → AreExtents Q R leaf size count
  extents_as leaf other size count same x = record {
    made = λ number at l room e. x.made number at l room (sym (same number at) ∙ e);
    inside = λ number at y l room e r. x.inside number at y l room (sym (same number at) ∙ e) r;
    one = λ a b at y k l room below less e f r s. x.one a b at y k l room below less (sym (same a at) ∙ e) (sym (same b at) ∙ f) r s;
  }

  -- no leaves
  pub no_extents : (leaf : ℕ → ℕ → Option Leaf) (size count : ℕ) → ((number at : ℕ) → leaf number at ≡ None) → AreExtents Q R leaf size count
  no_extents leaf size count none = record {
    made = λ number at l room e. absurd (none_some l (sym (none number at) ∙ e));
    inside = λ number at y l room e r. absurd (none_some l (sym (none number at) ∙ e));
    one = λ a b at y k l room below less e f r s. absurd (none_some k (sym (none a at) ∙ e));
  }

-- ---- elements of arrays

-- the leaf of an element
abbrev pub in_element : (ℕ → ℕ → Option Leaf) → ℕ → ℕ → Option (ℕ × ℕ) → Option Leaf
in_element leaf at size None = None
in_element leaf at size (Some p) = leaf p.1 (capped (at + capped (p.0 * size)))

pub behind_as : (leaf : Ty → ℕ → ℕ → Option Leaf) (inner : ℕ → ℕ → Option Element) (at size : ℕ) (found : Option (ℕ × ℕ)) → at_element leaf (behind inner at size found) ≡ in_element (λ number at. at_element leaf (inner number at)) at size found
behind_as leaf inner at size None = refl
behind_as leaf inner at size (Some p) = refl

record IsElement (number n count index left : ℕ) : Type 0 where
  below : index < n
  rest : left < count
  sum : number ≡ index * count + left

element_is : (number n count : ℕ) (p : ℕ × ℕ) → element_with number n count ≡ Some p → IsElement number n count p.0 p.1
element_is number n count p = by_tests (count == 0) (nat_lt (number / count) n) refl refl
  where
    by_tests : (c d : Bool) → (count == 0) ≡ c → nat_lt (number / count) n ≡ d → cond c None (cond d (Some (number / count, number % count)) None) ≡ Some p → IsElement number n count p.0 p.1
    by_tests true d f g e = absurd (none_some p e)
    by_tests false false f g e = absurd (none_some p e)
    by_tests false true f g e =
        let some : 0 < count = (let z = eqb-false count 0 f in omega arith) in
        let sum = div-add-mod' number count in
        let less = lt-div-mul-add {a = number} some in
        let below = ltb-true (number / count) n g in
        subst (λ (q : ℕ × ℕ). IsElement number n count q.0 q.1) (some_same (number / count, number % count) p e) (record { below = below; rest = omega arith; sum = omega arith })

record InElement (leaf : ℕ → ℕ → Option Leaf) (number at n size count : ℕ) (l : Leaf) : Type 0 where
  index : ℕ
  left : ℕ
  rest : left < count
  sum : number ≡ index * count + left
  room : (at + index * size) + size ≤ at + n * size
  is : leaf left (at + index * size) ≡ Some l

in_element_is : (leaf : ℕ → ℕ → Option Leaf) (number at n size count : ℕ) (l : Leaf) → at + capped (n * size) ≤ 2 ^ 30 → in_element leaf at size (element_with number n count) ≡ Some l → InElement leaf number at n size count l
in_element_is leaf number at n size count l room = by_found (element_with number n count) refl
  where
    by_found : (found : Option (ℕ × ℕ)) → element_with number n count ≡ found → in_element leaf at size found ≡ Some l → InElement leaf number at n size count l
    by_found None f e = absurd (none_some l e)
    by_found (Some p) f e =
        let i = element_is number n count p f in
        let below = i.below in
        let step : (p.0 + 1) * size ≤ n * size = mul-le (p.0 + 1) size n size (omega arith) (omega arith) in
        let same : capped (at + capped (p.0 * size)) ≡ at + p.0 * size = omega arith in
        record { index = p.0; left = p.1; rest = i.rest; sum = i.sum; room = omega arith; is = ap (λ z. leaf p.1 z) (sym same) ∙ e }

-- places of one size that share an offset
same_index : (at size x i j : ℕ) → at + i * size ≤ x → x < (at + i * size) + size → at + j * size ≤ x → x < (at + j * size) + size → i ≡ j
same_index at size x i j a b c d = elim (cases_lt i j) [
  | inl h ↦ (let q = mul-le (i + 1) size j size (omega arith) (omega arith) in absurd (omega arith))
  | inr h ↦ elim (cases_lt j i) [
    | inl k ↦ (let q = mul-le (j + 1) size i size (omega arith) (omega arith) in absurd (omega arith))
    | inr k ↦ omega arith
  ]
]

module _ {Q : Leaf → Type 0} {R : Leaf → ℕ → Type 0} where
  pub array_extents : (leaf : ℕ → ℕ → Option Leaf) (size count : ℕ) → AreExtents Q R leaf size count → (n wanted : ℕ) → AreExtents Q R (λ number at. in_element leaf at size (element_with number n count)) (capped (n * size)) wanted
  array_extents leaf size count x n wanted = record {
    made = λ number at l room e.
        let i = in_element_is leaf number at n size count l room e in
        let r = i.room in
        x.made i.left (at + i.index * size) l (omega arith) i.is;
    inside = λ number at y l room e r.
        let i = in_element_is leaf number at n size count l room e in
        let t = i.room in
        let p = x.inside i.left (at + i.index * size) y l (omega arith) i.is r in
        let q = p.0 in let u = p.1 in
        (omega arith, omega arith);
    one = λ a b at y k l room below less e f r s.
        let i = in_element_is leaf a at n size count k room e in
        let j = in_element_is leaf b at n size count l room f in
        let t = i.room in let u = j.room in
        let p = x.inside i.left (at + i.index * size) y k (omega arith) i.is r in
        let q = x.inside j.left (at + j.index * size) y l (omega arith) j.is s in
        let same = same_index at size y i.index j.index p.0 p.1 q.0 q.1 in
        let there : leaf j.left (at + i.index * size) ≡ Some l = ap (λ z. leaf j.left (at + z * size)) same ∙ j.is in
        let left = x.one i.left j.left (at + i.index * size) y k l (omega arith) i.rest j.rest i.is there r s in
        let times : i.index * count ≡ j.index * count = ap (λ z. z * count) same in
        let v = i.sum in let w = j.sum in
        omega arith;
  }

-- ---- members of structs

module _ (m : Model) (structs : List StructView) (folded : Bool) (leaf : Ty → ℕ → ℕ → Option Leaf) where
  -- the leaf with a number among those of members
  abbrev pub member_leaf : List FieldView → ℕ → ℕ → Option Leaf
  member_leaf [] left at = None
  member_leaf (f ∷ fs) left at = cond (nat_lt left (count_of structs folded f.ctype)) (leaf f.ctype left (capped (at + f.offset))) (member_leaf fs (left - count_of structs folded f.ctype) at)

  -- it is that of the member that holds it
  members_as : (all fs : List FieldView) (k : ℕ) → ((j : ℕ) → slice_get all (k + j) ≡ slice_get fs j) → (left at : ℕ) → at_element leaf (found_at all at (member_with structs folded fs k left)) ≡ member_leaf fs left at
  members_as all [] k h left at = refl
  members_as all (f ∷ fs) k h left at = by_test (members_as all fs (k + 1) rest (left - count_of structs folded f.ctype) at) (nat_lt left (count_of structs folded f.ctype))
    where
      here : slice_get all k ≡ Some f
      here = ap (λ z. slice_get all z) (let e : k ≡ k + 0 = omega arith in e) ∙ h 0

      rest : (j : ℕ) → slice_get all ((k + 1) + j) ≡ slice_get fs j
      rest j = ap (λ z. slice_get all z) (let e : (k + 1) + j ≡ k + suc j = omega arith in e) ∙ h (suc j)

      by_test : at_element leaf (found_at all at (member_with structs folded fs (k + 1) (left - count_of structs folded f.ctype))) ≡ member_leaf fs (left - count_of structs folded f.ctype) at → (c : Bool) → at_element leaf (found_at all at (cond c (Some (k, left)) (member_with structs folded fs (k + 1) (left - count_of structs folded f.ctype)))) ≡ cond c (leaf f.ctype left (capped (at + f.offset))) (member_leaf fs (left - count_of structs folded f.ctype) at)
      by_test later true = ap (λ z. at_element leaf (field_at all (k, left) at z)) here
      by_test later false = later

  pub all_members_as : (fields : List FieldView) (left at : ℕ) → at_element leaf (found_at fields at (member_with structs folded fields 0 left)) ≡ member_leaf fields left at
  all_members_as fields left at = members_as fields fields 0 (λ j. ap (λ z. slice_get fields z) (let e : 0 + j ≡ j = omega arith in e)) left at

  choice : (left count : ℕ) (first second : Option Leaf) (l : Leaf) → cond (nat_lt left count) first second ≡ Some l → ((left < count) × (first ≡ Some l)) ⊎ ((count ≤ left) × (second ≡ Some l))
  choice left count first second l = by_test (nat_lt left count) refl
    where
      by_test : (c : Bool) → nat_lt left count ≡ c → cond c first second ≡ Some l → ((left < count) × (first ≡ Some l)) ⊎ ((count ≤ left) × (second ≡ Some l))
      by_test true f e = inl (ltb-true left count f, e)
      by_test false f e = inr (ltb-false left count f, e)

  record IsMember (room start : ℕ) (f : FieldView) : Type 0 where
    kind : has_class_bytes m f.ctype ≡ true
    from : start ≤ f.offset
    to : f.offset + bytes_in structs m.pointer f.ctype ≤ room

  member_is : (room from : ℕ) (f : FieldView) → is_member_in m structs room from f ≡ true → IsMember room from f
  member_is room from f h =
      let a = and_parts (has_class_bytes m f.ctype) _ h in
      let b = and_parts (nat_le from f.offset) (ends_by f.offset (bytes_in structs m.pointer f.ctype) room) a.1 in
      let c = and_parts (nat_le f.offset room) (nat_le (bytes_in structs m.pointer f.ctype) (room - f.offset)) b.1 in
      let d = leb-true f.offset room c.0 in
      let e = leb-true (bytes_in structs m.pointer f.ctype) (room - f.offset) c.1 in
      record { kind = a.0; from = leb-true from f.offset b.0; to = omega arith }

  module _ {Q : Leaf → Type 0} {R : Leaf → ℕ → Type 0} (each : (t : Ty) → has_class_bytes m t ≡ true → AreExtents Q R (leaf t) (bytes_in structs m.pointer t) (count_of structs folded t)) where
    record AreMembers (room from : ℕ) (fs : List FieldView) : Type 0 where
      made : (number at : ℕ) (l : Leaf) → at + room ≤ 2 ^ 30 → member_leaf fs number at ≡ Some l → Q l
      inside : (number at x : ℕ) (l : Leaf) → at + room ≤ 2 ^ 30 → member_leaf fs number at ≡ Some l → R l x → (at + from ≤ x) × (x < at + room)
      one : (a b at x : ℕ) (k l : Leaf) → at + room ≤ 2 ^ 30 → member_leaf fs a at ≡ Some k → member_leaf fs b at ≡ Some l → R k x → R l x → a ≡ b

    module _ (room from : ℕ) (f : FieldView) (fs : List FieldView) (member : IsMember room from f) (others : AreMembers room (f.offset + bytes_in structs m.pointer f.ctype) fs) where
      abbrev count : ℕ
      count = count_of structs folded f.ctype

      own : AreExtents Q R (leaf f.ctype) (bytes_in structs m.pointer f.ctype) (count_of structs folded f.ctype)
      own = each f.ctype member.kind

      fits : (at : ℕ) → at + room ≤ 2 ^ 30 → (at + f.offset) + bytes_in structs m.pointer f.ctype ≤ 2 ^ 30
      fits at in_room = let to = member.to in omega arith

      there : (number at : ℕ) (l : Leaf) → at + room ≤ 2 ^ 30 → leaf f.ctype number (capped (at + f.offset)) ≡ Some l → leaf f.ctype number (at + f.offset) ≡ Some l
      there number at l in_room e = let to = member.to in ap (λ z. leaf f.ctype number z) (let same : at + f.offset ≡ capped (at + f.offset) = omega arith in same) ∙ e

      choices : (number at : ℕ) (l : Leaf) → member_leaf (f ∷ fs) number at ≡ Some l → ((number < count) × (leaf f.ctype number (capped (at + f.offset)) ≡ Some l)) ⊎ ((count ≤ number) × (member_leaf fs (number - count) at ≡ Some l))
      choices number at l e = choice number count (leaf f.ctype number (capped (at + f.offset))) (member_leaf fs (number - count) at) l e

      inside_own : (number at x : ℕ) (l : Leaf) → at + room ≤ 2 ^ 30 → leaf f.ctype number (capped (at + f.offset)) ≡ Some l → R l x → (at + from ≤ x) × (x < at + room)
      inside_own number at x l in_room e r =
          let p = own.inside number (at + f.offset) x l (fits at in_room) (there number at l in_room e) r in
          let a = p.0 in let b = p.1 in let c = member.from in let to = member.to in
          (omega arith, omega arith)

      inside_others : (number at x : ℕ) (l : Leaf) → at + room ≤ 2 ^ 30 → member_leaf fs number at ≡ Some l → R l x → (at + from ≤ x) × (x < at + room)
      inside_others number at x l in_room e r =
          let p = others.inside number at x l in_room e r in
          let a = p.0 in let c = member.from in
          (omega arith, p.1)

      apart : (a b at x : ℕ) (k l : Leaf) → at + room ≤ 2 ^ 30 → leaf f.ctype a (capped (at + f.offset)) ≡ Some k → member_leaf fs b at ≡ Some l → R k x → R l x → ⊥
      apart a b at x k l in_room e g r s =
          let p = own.inside a (at + f.offset) x k (fits at in_room) (there a at k in_room e) r in
          let q = others.inside b at x l in_room g s in
          let less = p.1 in let more = q.0 in
          omega arith

      one_more : AreMembers room from (f ∷ fs)
      one_more = record {
        made = λ number at l in_room e. elim (choices number at l e) [
          | inl p ↦ own.made number (at + f.offset) l (fits at in_room) (there number at l in_room p.1)
          | inr p ↦ others.made (number - count) at l in_room p.1
        ];
        inside = λ number at x l in_room e r. elim (choices number at l e) [
          | inl p ↦ inside_own number at x l in_room p.1 r
          | inr p ↦ inside_others (number - count) at x l in_room p.1 r
        ];
        one = λ a b at x k l in_room e g r s. elim (choices a at k e) [
          | inl p ↦ elim (choices b at l g) [
            | inl q ↦ own.one a b (at + f.offset) x k l (fits at in_room) p.0 q.0 (there a at k in_room p.1) (there b at l in_room q.1) r s
            | inr q ↦ absurd (apart a (b - count) at x k l in_room p.1 q.1 r s)
          ]
          | inr p ↦ elim (choices b at l g) [
            | inl q ↦ absurd (apart b (a - count) at x l k in_room q.1 p.1 s r)
            | inr q ↦ (let less = p.0 in let more = q.0 in let same = others.one (a - count) (b - count) at x k l in_room p.1 q.1 r s in omega arith)
          ]
        ];
      }

    are_members : (room from : ℕ) (fs : List FieldView) → are_members_in m structs room from fs ≡ true → AreMembers room from fs
    are_members room from [] h = record {
      made = λ number at l in_room e. absurd (none_some l e);
      inside = λ number at x l in_room e r. absurd (none_some l e);
      one = λ a b at x k l in_room e f r s. absurd (none_some k e);
    }
    are_members room from (f ∷ fs) h =
        let p = and_parts (is_member_in m structs room from f) (are_members_in m structs room (f.offset + bytes_in structs m.pointer f.ctype) fs) h in
        one_more room from f fs (member_is room from f p.0) (are_members room (f.offset + bytes_in structs m.pointer f.ctype) fs p.1)

    -- the leaves of members that stand apart within a room
    pub members_extents : (room wanted : ℕ) (fields : List FieldView) → are_members_in m structs room 0 fields ≡ true → AreExtents Q R (λ number at. at_element leaf (found_at fields at (member_with structs folded fields 0 number))) room wanted
    members_extents room wanted fields h =
        let x = are_members room 0 fields h in
        extents_as _ (member_leaf fields) room wanted (all_members_as fields) (record {
          made = x.made;
          inside = λ number at y l in_room e r. (let p = x.inside number at y l in_room e r in let a = p.0 in (omega arith, p.1));
          one = λ a b at y k l in_room below less e f r s. x.one a b at y k l in_room e f r s;
        })
