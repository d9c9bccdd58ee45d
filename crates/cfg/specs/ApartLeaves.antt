-- What leaves that stand apart are good for: no byte belongs to two of them.
use Rattle.std.proofs.Common.{◌≡◌, ◌<◌, ◌≤◌, ◌⊎◌, inl, inr, ℕ, zero, suc, ◌+◌, ◌*◌, ◌==◌, true, false, cond, ◌&&◌, nat_eq, nat_le, nat_lt, List, [], ◌∷◌, length, slice_index_or, arith, ap, sym, ◌∙◌}
use Rattle.std.proofs.Math.Nat.{mul-le-mul_left}
use Rattle.std.proofs.lemmas.Bool.{leb-true, eqb-true}
use Rattle.std.proofs.lemmas.Bool.Decides.{leb_tells, eqb_tells}
use Rattle.cc_base.specs.RowLaws.{and_left, and_right}
use Rattle.c_layout.specs.declared.data_model.Model.{Model}
use Rattle.c_layout.specs.declared.leaf_lists.Leaf.{Leaf}
use Rattle.cfg.specs.ModelKinds.{class_bytes}
use Rattle.cfg.specs.BaseShapes.{leaf_end, array_end, has_extents, is_stride, is_beside, is_apart, follows, first_of, are_apart, nowhere, are_leaves}

-- a byte belongs to some place of a leaf
pub record HasByte (m : Model) (l : Leaf) (x : ℕ) : Type 0 where
  pub place : ℕ
  pub is_one : place < l.count
  pub from : l.offset + l.stride * place ≤ x
  pub to : x < l.offset + l.stride * place + class_bytes m l.class

-- ---- places side by side

-- two leaves of one element, the one before the other
apart_beside : (first stride a abytes b bbytes j k x : ℕ) → first ≤ a → a + abytes ≤ b → b + bbytes ≤ first + stride → a + stride * j ≤ x → x < a + stride * j + abytes → b + stride * k ≤ x → x < b + stride * k + bbytes → ⊥
apart_beside first stride a abytes b bbytes j k x fa ab bf aj ja bk kb = by_order (leb_tells j k)
  where
    by_order : ((nat_le j k ≡ true) × (j ≤ k)) ⊎ ((nat_le j k ≡ false) × (k < j)) → ⊥
    by_order (inl (is, le)) = let more : stride * j ≤ stride * k = mul-le-mul_left stride le in omega (arith, more, fa, ab, bf, aj, ja, bk, kb)
    by_order (inr (is, less)) =
        let more : stride * (k + 1) ≤ stride * j = mul-le-mul_left stride (omega (arith, less)) in
        let one : stride * (k + 1) ≡ stride * k + stride = grind arith in
        omega (arith, more, one, fa, ab, bf, aj, ja, bk, kb)

-- a leaf of an element of an array, and what stands behind the array
apart_behind : (first stride count a abytes b over j k x : ℕ) → a + abytes ≤ first + stride → first + stride * count ≤ b → j < count → x < a + stride * j + abytes → b + over * k ≤ x → ⊥
apart_behind first stride count a abytes b over j k x inside behind less ja bk =
    let more : stride * (j + 1) ≤ stride * count = mul-le-mul_left stride (omega (arith, less)) in
    let one : stride * (j + 1) ≡ stride * j + stride = grind arith in
    omega (arith, more, one, inside, behind, ja, bk)

-- ---- leaves in their order

-- where a later leaf stands: in the element of the first one, behind the bytes that are taken, or behind its array
data Stands (m : Model) (first : Leaf) (taken : ℕ) (l : Leaf) : Type 0 where
  beside : l.stride ≡ first.stride → l.count ≡ first.count → taken ≤ l.offset → leaf_end m l ≤ first.offset + first.stride → Stands m first taken l
  behind : array_end first ≤ l.offset → Stands m first taken l

-- how a leaf stands to those before it
data Follows (m : Model) (first : Leaf) (taken : ℕ) (l : Leaf) : Type 0 where
  begins : array_end first ≤ l.offset → first_of first l ≡ l → Follows m first taken l
  goes_on : l.stride ≡ first.stride → l.count ≡ first.count → taken ≤ l.offset → leaf_end m l ≤ first.offset + first.stride → first_of first l ≡ first → Follows m first taken l

module _ (m : Model) where
  follows_as : (room : ℕ) (first : Leaf) (taken : ℕ) (l : Leaf) → follows m room first taken l ≡ true → Follows m first taken l
  follows_as room first taken l h = by_place (leb_tells (array_end first) l.offset)
    where
      apart : is_apart m room first taken l ≡ true
      apart = and_right (has_extents l && is_stride m l) _ h

      by_place : ((nat_le (array_end first) l.offset ≡ true) × (array_end first ≤ l.offset)) ⊎ ((nat_le (array_end first) l.offset ≡ false) × (l.offset < array_end first)) → Follows m first taken l
      by_place (inl (is, le)) = begins le (ap (λ b. cond b l first) is)
      by_place (inr (is, less)) =
          let beside : is_beside m first taken l ≡ true = ap (λ b. cond b (nat_lt 0 l.count && nat_le (array_end l) room) (is_beside m first taken l)) (sym is) ∙ apart in
          let same = and_left ((l.stride == first.stride) && (l.count == first.count)) _ beside in
          let ends = and_right ((l.stride == first.stride) && (l.count == first.count)) _ beside in
          goes_on (eqb-true _ _ (and_left (l.stride == first.stride) _ same)) (eqb-true _ _ (and_right (l.stride == first.stride) _ same))
          (leb-true _ _ (and_left (nat_le taken l.offset) _ ends)) (leb-true _ _ (and_right (nat_le taken l.offset) _ ends)) (ap (λ b. cond b l first) is)

  -- a leaf is no longer than its stride
  bytes_within : (l : Leaf) → is_stride m l ≡ true → class_bytes m l.class ≤ l.stride
  bytes_within l h = by_count (eqb_tells l.count 1)
    where
      by_count : ((nat_eq l.count 1 ≡ true) × (l.count ≡ 1)) ⊎ ((nat_eq l.count 1 ≡ false) × (l.count ≡ 1 → ⊥)) → class_bytes m l.class ≤ l.stride
      by_count (inl (is, one)) =
          let same : l.stride ≡ class_bytes m l.class = eqb-true _ _ (ap (λ b. cond b (l.stride == class_bytes m l.class) (nat_le (class_bytes m l.class) l.stride)) (sym is) ∙ h) in
          omega (arith, same)
      by_count (inr (is, more)) = leb-true _ _ (ap (λ b. cond b (l.stride == class_bytes m l.class) (nat_le (class_bytes m l.class) l.stride)) (sym is) ∙ h)

  first_before : (first : Leaf) (taken : ℕ) (l : Leaf) → first.offset ≤ taken → Follows m first taken l → (first_of first l).offset ≤ leaf_end m l
  first_before first taken l le (begins b is) = let same : (first_of first l).offset ≡ l.offset = ap (λ f. f.offset) is in omega (arith, same)
  first_before first taken l le (goes_on s c t e is) = let same : (first_of first l).offset ≡ first.offset = ap (λ f. f.offset) is in omega (arith, same, le, t)

  stands_same : (f g : Leaf) (taken : ℕ) (x : Leaf) → f ≡ g → Stands m f taken x → Stands m g taken x
  stands_same f g taken x is (beside s c t e) =
      let stride : f.stride ≡ g.stride = ap (λ l. l.stride) is in
      let count : f.count ≡ g.count = ap (λ l. l.count) is in
      let offset : f.offset ≡ g.offset = ap (λ l. l.offset) is in
      beside (s ∙ stride) (c ∙ count) t (omega (arith, e, stride, offset))
  stands_same f g taken x is (behind b) = let end : array_end f ≡ array_end g = ap array_end is in behind (omega (arith, b, end))

  -- what stands behind a leaf stands behind those before it
  stands_later : (first : Leaf) (taken : ℕ) (l x : Leaf) → Follows m first taken l → Stands m (first_of first l) (leaf_end m l) x → Stands m first taken x
  stands_later first taken l x (begins b is) stands = later (stands_same (first_of first l) l (leaf_end m l) x is stands)
    where
      later : Stands m l (leaf_end m l) x → Stands m first taken x
      later (beside s c t e) = behind (omega (arith, b, t))
      later (behind a) = behind (omega (arith, b, a))
  stands_later first taken l x (goes_on s c t e is) stands = later (stands_same (first_of first l) first (leaf_end m l) x is stands)
    where
      later : Stands m first (leaf_end m l) x → Stands m first taken x
      later (beside xs xc xt xe) = beside xs xc (omega (arith, t, xt)) xe
      later (behind a) = behind a

  stands_itself : (first : Leaf) (taken : ℕ) (l : Leaf) → Follows m first taken l → Stands m first taken l
  stands_itself first taken l (begins b is) = behind b
  stands_itself first taken l (goes_on s c t e is) = beside s c t e

  abbrev pub leaf_at : List Leaf → ℕ → Leaf
  leaf_at ls k = slice_index_or ls k nowhere

  stands_at : (room : ℕ) (first : Leaf) (taken : ℕ) (ls : List Leaf) → are_apart m room first taken ls ≡ true → (k : ℕ) → k < length ls → Stands m first taken (leaf_at ls k)
  stands_at room first taken [] h k less = absurd (omega (arith, less))
  stands_at room first taken (l ∷ ls) h zero less = stands_itself first taken l (follows_as room first taken l (and_left (follows m room first taken l) _ h))
  stands_at room first taken (l ∷ ls) h (suc k) less =
      stands_later first taken l (leaf_at ls k) (follows_as room first taken l (and_left (follows m room first taken l) _ h))
      (stands_at room (first_of first l) (leaf_end m l) ls (and_right (follows m room first taken l) _ h) k (omega (arith, less)))

  -- a leaf and one that stands behind it
  two_apart : (first : Leaf) (taken : ℕ) (l x : Leaf) (byte : ℕ) → first.offset ≤ taken → class_bytes m l.class ≤ l.stride → Follows m first taken l → Stands m (first_of first l) (leaf_end m l) x → HasByte m l byte → HasByte m x byte → ⊥
  two_apart first taken l x byte le wide (begins b is) stands own other = apart (stands_same (first_of first l) l (leaf_end m l) x is stands)
    where
      apart : Stands m l (leaf_end m l) x → ⊥
      apart (beside s c t e) =
          let same : x.stride * other.place ≡ l.stride * other.place = ap (λ n. n * other.place) s in
          apart_beside l.offset l.stride l.offset (class_bytes m l.class) x.offset (class_bytes m x.class) own.place other.place byte
          (omega arith) t e own.from own.to (omega (arith, same, other.from)) (omega (arith, same, other.to))
      apart (behind a) =
          apart_behind l.offset l.stride l.count l.offset (class_bytes m l.class) x.offset x.stride own.place other.place byte
          (omega (arith, wide)) a own.is_one own.to other.from
  two_apart first taken l x byte le wide (goes_on s c t e is) stands own other = apart (stands_same (first_of first l) first (leaf_end m l) x is stands)
    where
      own_same : l.stride * own.place ≡ first.stride * own.place
      own_same = ap (λ n. n * own.place) s

      apart : Stands m first (leaf_end m l) x → ⊥
      apart (beside xs xc xt xe) =
          let same : x.stride * other.place ≡ first.stride * other.place = ap (λ n. n * other.place) xs in
          apart_beside first.offset first.stride l.offset (class_bytes m l.class) x.offset (class_bytes m x.class) own.place other.place byte
          (omega (arith, le, t)) xt xe (omega (arith, own_same, own.from)) (omega (arith, own_same, own.to)) (omega (arith, same, other.from)) (omega (arith, same, other.to))
      apart (behind a) =
          apart_behind first.offset first.stride first.count l.offset (class_bytes m l.class) x.offset x.stride own.place other.place byte
          e a (omega (arith, c, own.is_one)) (omega (arith, own_same, own.to)) other.from

  all_apart : (room : ℕ) (first : Leaf) (taken : ℕ) (ls : List Leaf) → first.offset ≤ taken → are_apart m room first taken ls ≡ true → (i k : ℕ) → i < k → k < length ls → (byte : ℕ) → HasByte m (leaf_at ls i) byte → HasByte m (leaf_at ls k) byte → ⊥
  all_apart room first taken [] le h i k before within byte own other = omega (arith, within)
  all_apart room first taken (l ∷ ls) le h i zero before within byte own other = omega (arith, before)
  all_apart room first taken (l ∷ ls) le h zero (suc k) before within byte own other =
      let here = and_left (follows m room first taken l) _ h in
      let as_it_is = follows_as room first taken l here in
      two_apart first taken l (leaf_at ls k) byte le (bytes_within l (and_right (has_extents l) _ (and_left (has_extents l && is_stride m l) _ here))) as_it_is
      (stands_at room (first_of first l) (leaf_end m l) ls (and_right (follows m room first taken l) _ h) k (omega (arith, within))) own other
  all_apart room first taken (l ∷ ls) le h (suc i) (suc k) before within byte own other =
      let here = follows_as room first taken l (and_left (follows m room first taken l) _ h) in
      all_apart room (first_of first l) (leaf_end m l) ls (first_before first taken l le here) (and_right (follows m room first taken l) _ h) i k (omega (arith, before)) (omega (arith, within)) byte own other

  -- no byte belongs to two leaves
  pub no_shared_byte : (room : ℕ) (ls : List Leaf) → are_leaves m room ls ≡ true → (i k : ℕ) → i < k → k < length ls → (byte : ℕ) → HasByte m (leaf_at ls i) byte → HasByte m (leaf_at ls k) byte → ⊥
  no_shared_byte room ls h i k before within byte own other = all_apart room nowhere 0 ls (omega arith) h i k before within byte own other
