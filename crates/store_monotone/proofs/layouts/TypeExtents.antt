-- The leaves of a type by number have extents, where the members of all structs stand apart.
use Rattle.std.specs.Prelude.{◌≡◌, ℕ, zero, suc, ◌+◌, ◌-◌, ◌*◌, ◌%◌, ◌^◌, ◌≤◌, ◌<◌, Bool, true, false, cond, Option, Some, List, [], ◌∷◌, get_or, refl}
use Rattle.std.specs.List.{list_all}
use Rattle.std.proofs.Common.{arith, sym, subst, ap, ◌∙◌}
use Rattle.std.proofs.lemmas.Bool.{and_parts, eqb-true, leb-true, leb-false}
use Rattle.std.proofs.lemmas.Nat.{mod-mul-add, mul-le}
use Rattle.c_layout.specs.declared.data_model.Model.{Model}
use Rattle.c_layout.specs.declared.leaf_lists.Class.{Class}
use Rattle.c_layout.specs.declared.leaf_lists.Class.TheVariants as class
use Rattle.c_layout.specs.declared.leaf_lists.Leaf.{Leaf}
use Rattle.c_layout.specs.Leaves.{class_of, is_short, behind_long}
use Rattle.c_layout.specs.StructViews.{StructView, no_struct, struct_at}
use Rattle.c_layout.specs.Types.{Ty, Int, Pointer, Array, Struct, Void}
use Rattle.cfg.specs.BaseShapes.{is_extent}
use Rattle.cfg.specs.ModelKinds.{class_bytes}
use Rattle.store_cells.specs.RowPositions.{capped}
use Rattle.store_structs.specs.LeafCounts.{bytes_in, plain_count, long_count, folded_count}
use Rattle.store_structs.specs.LeafNumbers.{leaf_at, alone, count_of, element, element_with, behind, behind_arrays, behind_short, at_element, member_at, plain_unit, plain_leaf_by, plain_member, plain_leaf, long_leaf, folded_unit, folded_leaf_by, folded_member}
use Rattle.store_monotone.proofs.shapes.LeafBytes.{Covers}
use Rattle.store_structs.specs.LaidApart.{has_class_bytes, are_members_in, is_laid_apart, are_laid_apart}
use Rattle.store_monotone.proofs.layouts.Extents.{AreExtents, some_same, extents_as, no_extents, in_element, behind_as, array_extents, members_extents}

-- ---- products in 64 bits

-- a number has one turn and one rest
same_rest : (p q s a c : ℕ) → a < s → c < s → p * s + a ≡ q * s + c → a ≡ c
same_rest p q s a c h k e = sym (mod-mul-add p s a h) ∙ ap (λ z. z % s) e ∙ mod-mul-add q s c k

-- the elements of long arrays one in another take no more bytes than those have, and so does one element
record AreLong (structs : List StructView) (pointer : ℕ) (t : Ty) : Type 0 where
  all : long_count t * bytes_in structs pointer (behind_long t) ≤ bytes_in structs pointer t
  one : bytes_in structs pointer (behind_long t) ≤ bytes_in structs pointer t

-- one element, the type itself
one_long : (n : ℕ) → 1 * n ≤ n
one_long n = omega arith

long_array : (structs : List StructView) (pointer : ℕ) (t : Ty) (n : ℕ) → 64 < n → capped (n * bytes_in structs pointer t) ≤ 2 ^ 62 → (bytes_in structs pointer t ≤ 2 ^ 62 → AreLong structs pointer t) → AreLong structs pointer t × (bytes_in structs pointer t ≤ capped (n * bytes_in structs pointer t)) × (capped (n * long_count t) * bytes_in structs pointer (behind_long t) ≤ capped (n * bytes_in structs pointer t))
long_array structs pointer t n more near inner =
    let a : 1 * bytes_in structs pointer t ≤ n * bytes_in structs pointer t = mul-le 1 (bytes_in structs pointer t) n (bytes_in structs pointer t) (omega arith) (omega arith) in
    let i = inner (omega arith) in
    let b = mul-le n (long_count t * bytes_in structs pointer (behind_long t)) n (bytes_in structs pointer t) (omega arith) i.all in
    let c : n * (long_count t * bytes_in structs pointer (behind_long t)) ≡ (n * long_count t) * bytes_in structs pointer (behind_long t) = grind arith in
    let d = mul-le (capped (n * long_count t)) (bytes_in structs pointer (behind_long t)) (n * long_count t) (bytes_in structs pointer (behind_long t)) (omega arith) (omega arith) in
    (i, omega arith, omega arith)

are_long : (structs : List StructView) (pointer : ℕ) (t : Ty) → bytes_in structs pointer t ≤ 2 ^ 62 → AreLong structs pointer t
are_long structs pointer (Int k) near = record { all = one_long k.bytes; one = omega arith }
are_long structs pointer (Pointer t) near = record { all = one_long pointer; one = omega arith }
are_long structs pointer (Struct i) near = record { all = one_long (struct_at structs i).size; one = omega arith }
are_long structs pointer Void near = record { all = omega arith; one = omega arith }
are_long structs pointer (Array t n) near = by_length (is_short n) refl (are_long structs pointer t)
  where
    by_length : (c : Bool) → is_short n ≡ c → (bytes_in structs pointer t ≤ 2 ^ 62 → AreLong structs pointer t) → AreLong structs pointer (Array t n)
    by_length true e inner =
        let count : long_count (Array t n) ≡ 1 = ap (λ c. cond c 1 (capped (n * long_count t))) e in
        let unit : behind_long (Array t n) ≡ Array t n = ap (λ c. cond c (Array t n) (behind_long t)) e in
        let bytes : bytes_in structs pointer (behind_long (Array t n)) ≡ bytes_in structs pointer (Array t n) = ap (bytes_in structs pointer) unit in
        let one : long_count (Array t n) * bytes_in structs pointer (behind_long (Array t n)) ≡ 1 * bytes_in structs pointer (Array t n) = ap (λ z. z * bytes_in structs pointer (behind_long (Array t n))) count ∙ ap (λ z. 1 * z) bytes in
        record { all = omega arith; one = omega arith }
    by_length false e inner =
        let more : 64 < n = leb-false n 64 e in
        let p = long_array structs pointer t n more near inner in
        let i = p.0 in
        let count : long_count (Array t n) ≡ capped (n * long_count t) = ap (λ c. cond c 1 (capped (n * long_count t))) e in
        let unit : behind_long (Array t n) ≡ behind_long t = ap (λ c. cond c (Array t n) (behind_long t)) e in
        let bytes : bytes_in structs pointer (behind_long (Array t n)) ≡ bytes_in structs pointer (behind_long t) = ap (bytes_in structs pointer) unit in
        let one : long_count (Array t n) * bytes_in structs pointer (behind_long (Array t n)) ≡ capped (n * long_count t) * bytes_in structs pointer (behind_long t) = ap (λ z. z * bytes_in structs pointer (behind_long (Array t n))) count ∙ ap (λ z. capped (n * long_count t) * z) bytes in
        let a = p.1 in let b = p.2 in let c = i.one in
        record { all = omega arith; one = omega arith }

-- ---- structs

apart_at : (m : Model) (all structs : List StructView) → list_all (is_laid_apart m all) structs ≡ true → (i : ℕ) → is_laid_apart m all (get_or structs i no_struct) ≡ true
apart_at m all [] h i = refl
apart_at m all (s ∷ structs) h zero = (and_parts (is_laid_apart m all s) (list_all (is_laid_apart m all) structs) h).0
apart_at m all (s ∷ structs) h (suc i) = apart_at m all structs (and_parts (is_laid_apart m all s) (list_all (is_laid_apart m all) structs) h).1 i

module _ (m : Model) (structs : List StructView) (apart : are_laid_apart m structs ≡ true) where
  struct_apart : (i : ℕ) → (is_extent (struct_at structs i).size ≡ true) × (are_members_in m structs (struct_at structs i).size 0 (struct_at structs i).fields ≡ true)
  struct_apart i = and_parts (is_extent (struct_at structs i).size) (are_members_in m structs (struct_at structs i).size 0 (struct_at structs i).fields) (apart_at m structs structs apart i)

  module _ {Q : Leaf → Type 0} {R : Leaf → ℕ → Type 0} where
    struct_extents : (folded : Bool) (leaf : Ty → ℕ → ℕ → Option Leaf) → ((t : Ty) → has_class_bytes m t ≡ true → AreExtents Q R (leaf t) (bytes_in structs m.pointer t) (count_of structs folded t)) → (i wanted : ℕ) → AreExtents Q R (λ number at. at_element leaf (member_at structs folded i number at)) (struct_at structs i).size wanted
    unfolding member_at
    struct_extents folded leaf each i wanted = members_extents m structs folded leaf each (struct_at structs i).size wanted (struct_at structs i).fields (struct_apart i).1

    -- one scalar, whose bytes are those of its size
    scalar_extents : (leaf : ℕ → ℕ → Option Leaf) (scalar : ℕ → Leaf) (size : ℕ) → ((number at : ℕ) → leaf number at ≡ Some (scalar at)) → ((at : ℕ) → at + size ≤ 2 ^ 30 → Q (scalar at)) → ((at x : ℕ) → R (scalar at) x → (at ≤ x) × (x < at + size)) → AreExtents Q R leaf size 1
    scalar_extents leaf scalar size is q r = record {
      made = λ number at l room e. subst Q (some_same (scalar at) l (sym (is number at) ∙ e)) (q at room);
      inside = λ number at x l room e s. r at x (subst (λ k. R k x) (sym (some_same (scalar at) l (sym (is number at) ∙ e))) s);
      one = λ a b at x k l room below less e f s t. omega arith;
    }

  -- ---- where no array is folded

  -- a byte of the first place
  abbrev IsFirst : Leaf → ℕ → Type 0
  IsFirst l x = (l.offset ≤ x) × (x < l.offset + class_bytes m l.class)

  -- each leaf stands at places so far apart, so many of them
  module _ (stride count : ℕ) where
    abbrev StandsSo : Leaf → Type 0
    StandsSo l = (l.stride ≡ stride) × (l.count ≡ count)

    abbrev leaf_by : (ℕ → ℕ → ℕ → Option Leaf) → Ty → ℕ → ℕ → Option Leaf
    leaf_by member = plain_leaf_by member structs m.pointer (record { stride = stride; count = count })

    abbrev member_by : ℕ → ℕ → ℕ → ℕ → Option Leaf
    member_by depth = plain_member depth structs m.pointer (record { stride = stride; count = count })

    plain_scalar : (c : Class) (signed : Bool) (size : ℕ) → size ≡ class_bytes m c → (leaf : ℕ → ℕ → Option Leaf) → ((number at : ℕ) → leaf number at ≡ Some (leaf_at at c signed (record { stride = stride; count = count }))) → AreExtents StandsSo IsFirst leaf size 1
    plain_scalar c signed size bytes leaf is = scalar_extents leaf (λ at. leaf_at at c signed (record { stride = stride; count = count })) size is (λ at room. (refl, refl)) (λ at x r. (let a = r.0 in let b = r.1 in (omega arith, omega arith)))

    plain_type : (member : ℕ → ℕ → ℕ → Option Leaf) → ((i wanted : ℕ) → AreExtents StandsSo IsFirst (member i) (struct_at structs i).size wanted) → (t : Ty) → has_class_bytes m t ≡ true → AreExtents StandsSo IsFirst (leaf_by member t) (bytes_in structs m.pointer t) (plain_count structs t)
    plain_type member each (Int k) h = plain_scalar (class_of k) k.signed k.bytes (eqb-true k.bytes (class_bytes m (class_of k)) h) (leaf_by member (Int k)) (λ number at. refl)
    plain_type member each (Pointer t) h = plain_scalar class.Pointer false m.pointer refl (leaf_by member (Pointer t)) (λ number at. refl)
    plain_type member each (Array t n) h =
        extents_as (leaf_by member (Array t n)) (λ number at. in_element (leaf_by member t) at (bytes_in structs m.pointer t) (element_with number n (plain_count structs t))) (bytes_in structs m.pointer (Array t n)) (plain_count structs (Array t n))
        (λ number at. behind_as (plain_unit member m.pointer (record { stride = stride; count = count })) (behind_arrays structs m.pointer t) at (bytes_in structs m.pointer t) (element_with number n (plain_count structs t)))
        (array_extents (leaf_by member t) (bytes_in structs m.pointer t) (plain_count structs t) (plain_type member each t h) n (plain_count structs (Array t n)))
    plain_type member each (Struct i) h = each i (plain_count structs (Struct i))
    plain_type member each Void h = no_extents (leaf_by member Void) 0 0 (λ number at. refl)

    plain_struct : (depth i wanted : ℕ) → AreExtents StandsSo IsFirst (member_by depth i) (struct_at structs i).size wanted
    plain_struct zero i wanted = no_extents (member_by zero i) (struct_at structs i).size wanted (λ number at. refl)
    plain_struct (suc depth) i wanted = struct_extents false (leaf_by (member_by depth)) (plain_type (member_by depth) (plain_struct depth)) i wanted

  -- ---- with long arrays folded

  -- a leaf that is no longer than its stride, of few places
  pub record IsFolded (l : Leaf) : Type 0 where
    pub fits : class_bytes m l.class ≤ l.stride
    pub few : l.count ≤ 2 ^ 30
    pub near : l.count * l.stride ≤ 2 ^ 30

  abbrev pub IsByte : Leaf → ℕ → Type 0
  IsByte l x = Covers l (class_bytes m l.class) x

  module _ (some : (c : Class) → 0 < class_bytes m c) where
    folded_scalar : (c : Class) (signed : Bool) (size : ℕ) → size ≡ class_bytes m c → (leaf : ℕ → ℕ → Option Leaf) → ((number at : ℕ) → leaf number at ≡ Some (leaf_at at c signed (alone size))) → AreExtents IsFolded IsByte leaf size 1
    folded_scalar c signed size bytes leaf is =
        scalar_extents leaf (λ at. leaf_at at c signed (alone size)) size is (λ at room. record { fits = omega arith; few = omega arith; near = omega arith })
        (λ at x r. (let a = r.at in let b = r.among in let d = r.within in
        let e : r.turn ≡ 0 = omega arith in
        let f : r.turn * size ≡ 0 = ap (λ z. z * size) e ∙ (omega arith) in
        (omega arith, omega arith)))

    -- a byte of a long array: its element, and the byte of the first place that is like it
    record InLong (at size count : ℕ) (l : Leaf) (x : ℕ) : Type 0 where
      turn : ℕ
      first : ℕ
      is : x ≡ turn * size + first
      below : (turn + 1) * size ≤ count * size
      from : at ≤ first
      to : first < at + size
      byte : IsFirst l first

    module _ (depth : ℕ) (t : Ty) (n : ℕ) (long : is_short n ≡ false) where
      abbrev size : ℕ
      size = bytes_in structs m.pointer (behind_long t)

      abbrev count : ℕ
      count = capped (n * long_count t)

      abbrev leaf : ℕ → ℕ → Option Leaf
      leaf = leaf_by size count (member_by size count depth) (behind_long t)

      in_long : (at x : ℕ) (l : Leaf) → at + size ≤ 2 ^ 30 → (number : ℕ) → AreExtents (StandsSo size count) IsFirst leaf size (plain_count structs (behind_long t)) → leaf number at ≡ Some l → IsByte l x → InLong at size count l x
      in_long at x l room number own e r =
          let q = own.made number at l room e in
          let a = r.at in let among = r.among in let within = r.within in
          let stride : r.turn * l.stride ≡ r.turn * size = ap (λ z. r.turn * z) q.0 in
          let byte : IsFirst l (l.offset + r.rest) = (omega arith, omega arith) in
          let p = own.inside number at (l.offset + r.rest) l room e byte in
          let below = mul-le (r.turn + 1) size count size (let c = q.1 in omega arith) (omega arith) in
          record { turn = r.turn; first = l.offset + r.rest; is = omega arith; below = below; from = p.0; to = p.1; byte = byte }

      long_unit : AreExtents (StandsSo size count) IsFirst leaf size (plain_count structs (behind_long t)) → AreExtents IsFolded IsByte (long_leaf depth structs m.pointer t n) (bytes_in structs m.pointer (Array t n)) (plain_count structs (behind_long t))
      unfolding long_leaf plain_leaf
      long_unit own = record {
        made = λ number at l room e.
            let b = bounds at room in
            let q = own.made number at l b.1 e in
            let p = own.inside number at l.offset l b.1 e (omega arith, (let s = some l.class in omega arith)) in
            let last = own.inside number at (l.offset + (class_bytes m l.class - 1)) l b.1 e (omega arith, (let s = some l.class in omega arith)) in
            let c = p.0 in let d = last.1 in let s = some l.class in
            let stride = q.0 in let times = q.1 in
            let near : l.count * l.stride ≡ count * size = ap (λ z. z * l.stride) times ∙ ap (λ z. count * z) stride in
            let f = b.0 in
            let g : count * 1 ≤ count * size = mul-le count 1 count size (omega arith) (omega arith) in
            record { fits = omega arith; few = omega arith; near = omega arith };
        inside = λ number at x l room e r.
            let b = bounds at room in
            let i = in_long at x l b.1 number own e r in
            let a = i.is in let c = i.below in let d = i.from in let f = i.to in let g = b.0 in
            let h : (i.turn + 1) * size ≡ i.turn * size + size = omega arith in
            (omega arith, omega arith);
        one = λ a b at x k l room below less e f r s.
            let c = bounds at room in
            let i = in_long at x k c.1 a own e r in
            let j = in_long at x l c.1 b own f s in
            let g = i.is in let h = j.is in let if = i.from in let it = i.to in let jf = j.from in let jt = j.to in
            let rest = same_rest i.turn j.turn size (i.first - at) (j.first - at) (omega arith) (omega arith) (omega arith) in
            let same : i.first ≡ j.first = omega arith in
            own.one a b at i.first k l c.1 below less e f i.byte (subst (λ z. IsFirst l z) (sym same) j.byte);
      }
        where
          bounds : (at : ℕ) → at + bytes_in structs m.pointer (Array t n) ≤ 2 ^ 30 → (capped (n * long_count t) * bytes_in structs m.pointer (behind_long t) ≤ bytes_in structs m.pointer (Array t n)) × (at + bytes_in structs m.pointer (behind_long t) ≤ 2 ^ 30)
          bounds at room =
              let p = long_array structs m.pointer t n (leb-false n 64 long) (omega arith) (are_long structs m.pointer t) in
              let a = p.1 in let b = (p.0).one in
              (p.2, omega arith)

    -- a type behind long arrays is of the same kind
    kind_behind : (t : Ty) → has_class_bytes m t ≡ true → has_class_bytes m (behind_long t) ≡ true
    kind_behind (Int k) h = h
    kind_behind (Pointer t) h = refl
    kind_behind (Struct i) h = refl
    kind_behind Void h = refl
    kind_behind (Array t n) h = by_length (is_short n) (kind_behind t h)
      where
        by_length : (c : Bool) → has_class_bytes m (behind_long t) ≡ true → has_class_bytes m (cond c (Array t n) (behind_long t)) ≡ true
        by_length true k = h
        by_length false k = k

    long_extents : (depth : ℕ) (t : Ty) (n : ℕ) → is_short n ≡ false → has_class_bytes m t ≡ true → AreExtents IsFolded IsByte (long_leaf depth structs m.pointer t n) (bytes_in structs m.pointer (Array t n)) (plain_count structs (behind_long t))
    long_extents depth t n long kind =
        let size = bytes_in structs m.pointer (behind_long t) in
        let count = capped (n * long_count t) in
        long_unit depth t n long (plain_type size count (member_by size count depth) (plain_struct size count depth) (behind_long t) (kind_behind t kind))

    module _ (depth : ℕ) (member : ℕ → ℕ → ℕ → Option Leaf) (each : (i wanted : ℕ) → AreExtents IsFolded IsByte (member i) (struct_at structs i).size wanted) where
      abbrev unit_leaf : Ty → ℕ → ℕ → Option Leaf
      unit_leaf = folded_unit depth member structs m.pointer

      -- an array, by its length
      array_leaf : (t : Ty) (n : ℕ) (short : Bool) → is_short n ≡ short → has_class_bytes m t ≡ true
          → AreExtents IsFolded IsByte (folded_leaf_by depth member structs m.pointer t) (bytes_in structs m.pointer t) (folded_count structs t)
          → AreExtents IsFolded IsByte (λ number at. at_element unit_leaf (cond short (behind (behind_short structs m.pointer t) at (bytes_in structs m.pointer t) (element_with number n (folded_count structs t))) (Some (element (Array t n) number at)))) (bytes_in structs m.pointer (Array t n)) (cond short (capped (n * folded_count structs t)) (plain_count structs (behind_long t)))
      array_leaf t n true e kind inner =
          extents_as _ (λ number at. in_element (folded_leaf_by depth member structs m.pointer t) at (bytes_in structs m.pointer t) (element_with number n (folded_count structs t))) (bytes_in structs m.pointer (Array t n)) (capped (n * folded_count structs t))
          (λ number at. behind_as unit_leaf (behind_short structs m.pointer t) at (bytes_in structs m.pointer t) (element_with number n (folded_count structs t)))
          (array_extents (folded_leaf_by depth member structs m.pointer t) (bytes_in structs m.pointer t) (folded_count structs t) inner n (capped (n * folded_count structs t)))
      array_leaf t n false e kind inner = long_extents depth t n e kind

      folded_type : (t : Ty) → has_class_bytes m t ≡ true → AreExtents IsFolded IsByte (folded_leaf_by depth member structs m.pointer t) (bytes_in structs m.pointer t) (folded_count structs t)
      folded_type (Int k) h = folded_scalar (class_of k) k.signed k.bytes (eqb-true k.bytes (class_bytes m (class_of k)) h) (folded_leaf_by depth member structs m.pointer (Int k)) (λ number at. refl)
      folded_type (Pointer t) h = folded_scalar class.Pointer false m.pointer refl (folded_leaf_by depth member structs m.pointer (Pointer t)) (λ number at. refl)
      folded_type (Array t n) h = array_leaf t n (is_short n) refl h (folded_type t h)
      folded_type (Struct i) h = each i (folded_count structs (Struct i))
      folded_type Void h = no_extents (folded_leaf_by depth member structs m.pointer Void) 0 0 (λ number at. refl)

    pub folded_struct : (depth i wanted : ℕ) → AreExtents IsFolded IsByte (folded_member depth structs m.pointer i) (struct_at structs i).size wanted
    folded_struct zero i wanted = no_extents (folded_member zero structs m.pointer i) (struct_at structs i).size wanted (λ number at. refl)
    folded_struct (suc depth) i wanted = struct_extents true (folded_leaf_by depth (folded_member depth structs m.pointer) structs m.pointer) (folded_type depth (folded_member depth structs m.pointer) (folded_struct depth)) i wanted

    -- at most 2^30 bytes
    pub struct_size : (i : ℕ) → (struct_at structs i).size ≤ 2 ^ 30
    struct_size i = leb-true (struct_at structs i).size (2 ^ 30) (struct_apart i).0
