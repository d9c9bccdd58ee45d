-- The leaves of a type by number are those of its list, where structs stand in no circle.
use Rattle.std.specs.Prelude.{◌≡◌, ℕ, zero, suc, ◌+◌, ◌*◌, ◌^◌, ◌≤◌, ◌<◌, Bool, true, false, cond, Option, Some, List, length, slice_get, refl}
use Rattle.std.proofs.Common.{arith, sym, ap, ◌∙◌}
use Rattle.std.proofs.lemmas.Bool.{eqb-true, leb-false}
use Rattle.std.proofs.lemmas.List.{append-nil}
use Rattle.std.proofs.lemmas.Nat.{mul-le}
use Rattle.c_layout.specs.declared.data_model.Model.{Model}
use Rattle.c_layout.specs.declared.leaf_lists.Class.{Class}
use Rattle.c_layout.specs.declared.leaf_lists.Class.TheVariants as class
use Rattle.c_layout.specs.declared.leaf_lists.Leaf.{Leaf}
use Rattle.c_layout.specs.Layout.{size_of_type}
use Rattle.c_layout.specs.Leaves.{class_of, is_short, short_count, behind_long, repeated, of_fields, folded_leaves, plain_leaves}
use Rattle.c_layout.specs.Leaves as lists
use Rattle.c_layout.specs.StructLayouts as layouts
use Rattle.c_layout.specs.StructViews.{StructView, struct_at}
use Rattle.c_layout.specs.Types.{Ty, Int, Pointer, Array, Struct, Void}
use Rattle.cfg.specs.ModelKinds.{class_bytes}
use Rattle.store_cells.specs.RowPositions.{capped}
use Rattle.store_structs.specs.LeafCounts.{bytes_in, plain_count, folded_count}
use Rattle.store_structs.specs.LeafCounts as counts
use Rattle.store_structs.specs.LeafNumbers.{leaf_at, alone, element, element_with, behind, behind_short, at_element, member_at, plain_leaf_by, plain_member, plain_leaf, long_leaf, folded_unit, folded_leaf_by, folded_member}
use Rattle.store_structs.specs.LaidApart.{has_class_bytes}
use Rattle.store_monotone.proofs.layouts.Extents.{in_element, behind_as}
use Rattle.analysis_preconditions.specs.StructNesting.OrderedStructs.{is_made_of, nests_within}
use Rattle.struct_copies_sound.proofs.ordered_structs.RepeatedLeaves.{AreLeaves, leaves_as, no_leaves, array_leaves, in_groups}
use Rattle.struct_copies_sound.proofs.ordered_structs.MemberLeaves.{no_larger, by_size, sum_of, all_members}
use Rattle.struct_copies_sound.proofs.ordered_structs.PlainLeaves.{IsSound, times, no_times, one_leaf, plain_type, plain_struct}

-- ---- long arrays one in another

short_size : (structs : List StructView) (pointer : ℕ) (t : Ty) → size_of_type structs pointer t ≡ short_count t * size_of_type structs pointer (lists.behind_short t)
short_size structs pointer (Int k) = omega arith
short_size structs pointer (Pointer t) = omega arith
short_size structs pointer (Struct i) = omega arith
short_size structs pointer Void = omega arith
short_size structs pointer (Array t n) = by_length (is_short n) (short_size structs pointer t)
  where
    by_length : (c : Bool) → size_of_type structs pointer t ≡ short_count t * size_of_type structs pointer (lists.behind_short t)
        → n * size_of_type structs pointer t ≡ cond {A = ℕ} c (n * short_count t) 1 * size_of_type structs pointer (cond c (lists.behind_short t) (Array t n))
    by_length true e = ap (λ z. n * z) e ∙ sym (times n (short_count t) (size_of_type structs pointer (lists.behind_short t)))
    by_length false e = omega arith

record IsLong (size count unit : ℕ) : Type 0 where
  some : 0 < count
  size_is : size ≡ count * unit

are_long : (structs : List StructView) (pointer : ℕ) (t : Ty) → IsLong (size_of_type structs pointer t) (lists.long_count t) (size_of_type structs pointer (behind_long t))
are_long structs pointer (Int k) = record { some = omega arith; size_is = omega arith }
are_long structs pointer (Pointer t) = record { some = omega arith; size_is = omega arith }
are_long structs pointer (Struct i) = record { some = omega arith; size_is = omega arith }
are_long structs pointer Void = record { some = omega arith; size_is = omega arith }
are_long structs pointer (Array t n) = by_length (is_short n) refl (are_long structs pointer t)
  where
    by_length : (c : Bool) → is_short n ≡ c → IsLong (size_of_type structs pointer t) (lists.long_count t) (size_of_type structs pointer (behind_long t))
        → IsLong (n * size_of_type structs pointer t) (cond {A = ℕ} c 1 (n * lists.long_count t)) (size_of_type structs pointer (cond c (Array t n) (behind_long t)))
    by_length true e i = record { some = omega arith; size_is = omega arith }
    by_length false e i =
        let more : 64 < n = leb-false n 64 e in
        let some = i.some in
        let m : 1 * 1 ≤ n * lists.long_count t = mul-le 1 1 n (lists.long_count t) (omega (arith, more)) (omega (arith, some)) in
        record {
          some = omega (arith, m);
          size_is = ap (λ z. n * z) i.size_is ∙ sym (times n (lists.long_count t) (size_of_type structs pointer (behind_long t)));
        }

-- counts in 64 bits are exact where they are small
same_count : (t : Ty) → lists.long_count t ≤ 2 ^ 30 → counts.long_count t ≡ lists.long_count t
same_count (Int k) h = refl
same_count (Pointer t) h = refl
same_count (Struct i) h = refl
same_count Void h = refl
same_count (Array t n) h = by_length (is_short n) refl (same_count t) h
  where
    by_length : (c : Bool) → is_short n ≡ c → (lists.long_count t ≤ 2 ^ 30 → counts.long_count t ≡ lists.long_count t) → cond {A = ℕ} c 1 (n * lists.long_count t) ≤ 2 ^ 30
        → cond {A = ℕ} c 1 (capped (n * counts.long_count t)) ≡ cond {A = ℕ} c 1 (n * lists.long_count t)
    by_length true e inner k = refl
    by_length false e inner k =
        let more : 64 < n = leb-false n 64 e in
        let a : 1 * lists.long_count t ≤ n * lists.long_count t = mul-le 1 (lists.long_count t) n (lists.long_count t) (omega (arith, more)) (omega arith) in
        let b = inner (omega (arith, a, k)) in
        let s : n * counts.long_count t ≡ n * lists.long_count t = ap (λ z. n * z) b in
        omega (arith, s, k)

made_behind : (passes : ℕ → Bool) (t : Ty) → is_made_of passes t ≡ true → is_made_of passes (behind_long t) ≡ true
made_behind passes (Int k) h = h
made_behind passes (Pointer t) h = h
made_behind passes (Struct i) h = h
made_behind passes Void h = h
made_behind passes (Array t n) h = by_length (is_short n) (made_behind passes t h)
  where
    by_length : (c : Bool) → is_made_of passes (behind_long t) ≡ true → is_made_of passes (cond c (Array t n) (behind_long t)) ≡ true
    by_length true k = h
    by_length false k = k

kind_behind : (m : Model) (t : Ty) → has_class_bytes m t ≡ true → has_class_bytes m (behind_long t) ≡ true
kind_behind m (Int k) h = h
kind_behind m (Pointer t) h = h
kind_behind m (Struct i) h = h
kind_behind m Void h = h
kind_behind m (Array t n) h = by_length (is_short n) (kind_behind m t h)
  where
    by_length : (c : Bool) → has_class_bytes m (behind_long t) ≡ true → has_class_bytes m (cond c (Array t n) (behind_long t)) ≡ true
    by_length true k = h
    by_length false k = k

module _ (m : Model) (some : (c : Class) → 0 < class_bytes m c) (structs : List StructView) (sound : (i : ℕ) → IsSound m structs (struct_at structs i)) where
  abbrev member : ℕ → ℕ → ℕ → ℕ → Option Leaf
  member depth = folded_member depth structs m.pointer

  abbrev unit : ℕ → Ty → ℕ → ℕ → Option Leaf
  unit depth = folded_unit depth (member depth) structs m.pointer

  abbrev leaf : ℕ → Ty → ℕ → ℕ → Option Leaf
  leaf depth = folded_leaf_by depth (member depth) structs m.pointer

  abbrev list : ℕ → Ty → ℕ → List Leaf
  list depth = folded_leaves depth structs m.pointer

  abbrev units : ℕ → Ty → ℕ → List Leaf
  units depth = lists.folded_unit (suc depth) structs m.pointer (list depth)

  abbrev size : Ty → ℕ
  size = size_of_type structs m.pointer

  abbrev IsFolded : ℕ → ℕ → Type 0
  IsFolded depth i = AreLeaves (member depth i) (λ at. of_fields (struct_at structs i).fields at (list depth)) (struct_at structs i).size (struct_at structs i).leaves (struct_at structs i).leaves

  abbrev AreOfType : ℕ → Ty → Type 0
  AreOfType depth t = AreLeaves (leaf depth t) (list (suc depth) t) (size t) (layouts.leaf_count structs t) (folded_count structs t)

  -- an array, by whether it is short
  abbrev AreOfArray : ℕ → Ty → ℕ → Bool → Type 0
  AreOfArray depth t n c = AreLeaves (λ number at. at_element (unit depth) (cond c (behind (behind_short structs m.pointer t) at (bytes_in structs m.pointer t) (element_with number n (folded_count structs t))) (Some (element (Array t n) number at))))
      (λ at. repeated (cond c (n * short_count t) 1) at (size (cond c (lists.behind_short t) (Array t n))) (units depth (cond c (lists.behind_short t) (Array t n))))
      (n * size t) (cond {A = ℕ} c (n * short_count t) 1 * layouts.folded_unit_count structs (cond c (lists.behind_short t) (Array t n))) (cond c (capped (n * folded_count structs t)) (plain_count structs (behind_long t)))

  short_array : (depth : ℕ) (t : Ty) (n : ℕ) → (size t ≤ 2 ^ 30 → AreOfType depth t) → n * size t ≤ 2 ^ 30 → AreOfArray depth t n true
  short_array depth t zero inner near =
      let e : 0 * short_count t ≡ 0 = omega arith in
      no_leaves (λ number at. at_element (unit depth) (behind (behind_short structs m.pointer t) at (bytes_in structs m.pointer t) (element_with number 0 (folded_count structs t))))
      (λ at. repeated (0 * short_count t) at (size (lists.behind_short t)) (units depth (lists.behind_short t)))
      (0 * size t) ((0 * short_count t) * layouts.folded_unit_count structs (lists.behind_short t)) (capped (0 * folded_count structs t))
      (no_times (short_count t) (layouts.folded_unit_count structs (lists.behind_short t))) (omega arith)
      (λ at. ap (λ z. repeated z at (size (lists.behind_short t)) (units depth (lists.behind_short t))) e)
  short_array depth t (suc n) inner near =
      let less = no_larger n (size t) in
      let close : size t ≤ 2 ^ 30 = omega (arith, less, near) in
      let bytes = by_size structs m.pointer t close in
      leaves_as (λ number at. at_element (unit depth) (behind (behind_short structs m.pointer t) at (bytes_in structs m.pointer t) (element_with number (suc n) (folded_count structs t))))
      (λ number at. in_element (leaf depth t) at (size t) (element_with number (suc n) (folded_count structs t)))
      (λ at. repeated (suc n * short_count t) at (size (lists.behind_short t)) (units depth (lists.behind_short t))) (λ at. repeated (suc n) at (size t) (list (suc depth) t))
      (suc n * size t) (suc n * size t)
      ((suc n * short_count t) * layouts.folded_unit_count structs (lists.behind_short t)) (suc n * layouts.leaf_count structs t) (capped (suc n * folded_count structs t)) (capped (suc n * folded_count structs t))
      (array_leaves (leaf depth t) (list (suc depth) t) (size t) (layouts.leaf_count structs t) (folded_count structs t) (inner close) (suc n) near)
      (λ number at room. behind_as (unit depth) (behind_short structs m.pointer t) at (bytes_in structs m.pointer t) (element_with number (suc n) (folded_count structs t))
      ∙ ap (λ z. in_element (leaf depth t) at z (element_with number (suc n) (folded_count structs t))) bytes)
      (λ at. in_groups (size (lists.behind_short t)) (units depth (lists.behind_short t)) (suc n) (short_count t) at
      ∙ ap (λ z. repeated (suc n) at z (list (suc depth) t)) (sym (short_size structs m.pointer t)))
      refl (times (suc n) (short_count t) (layouts.folded_unit_count structs (lists.behind_short t))) refl

  -- the leaves of the element of a long array, each at the places of all elements
  abbrev long_list : ℕ → Ty → ℕ → ℕ → List Leaf
  long_list depth t n = plain_leaves (suc depth) structs m.pointer (record { stride = size (behind_long t); count = n * lists.long_count t }) (behind_long t)

  long_array : (depth : ℕ) (t : Ty) (n : ℕ) → is_short n ≡ false → is_made_of (nests_within structs depth) t ≡ true → has_class_bytes m t ≡ true → n * size t ≤ 2 ^ 30 → AreOfArray depth t n false
  unfolding long_leaf plain_leaf
  long_array depth t n e made kind near = record {
    kept = omega (arith, kept);
    few = omega (arith, few, within);
    long = λ at. ap length (append-nil (long_list depth t n at)) ∙ own.long at;
    each = λ number at below room. ap (λ xs. slice_get xs number) (append-nil (long_list depth t n at)) ∙ own.each number at below (omega (arith, room, within)) ∙ leaf_as number at (omega (arith, below, few));
  }
    where
      more : 64 < n
      more = leb-false n 64 e

      long : IsLong (size t) (lists.long_count t) (size (behind_long t))
      long = are_long structs m.pointer t

      turns : (n * lists.long_count t) * size (behind_long t) ≡ n * size t
      turns = times n (lists.long_count t) (size (behind_long t)) ∙ ap (λ z. n * z) (sym long.size_is)

      some_turns : 1 ≤ n * lists.long_count t
      some_turns =
          let some_long = long.some in
          let a : 1 * 1 ≤ n * lists.long_count t = mul-le 1 1 n (lists.long_count t) (omega (arith, more)) (omega (arith, some_long)) in
          omega (arith, a)

      within : size (behind_long t) ≤ n * size t
      within =
          let some_are = some_turns in
          let all = turns in
          let a : 1 * size (behind_long t) ≤ (n * lists.long_count t) * size (behind_long t) = mul-le 1 (size (behind_long t)) (n * lists.long_count t) (size (behind_long t)) some_are (omega arith) in
          omega (arith, a, all)

      close : size (behind_long t) ≤ 2 ^ 30
      close = let w = within in omega (arith, w, near)

      own : AreLeaves (plain_leaf_by (plain_member depth structs m.pointer (record { stride = size (behind_long t); count = n * lists.long_count t })) structs m.pointer (record { stride = size (behind_long t); count = n * lists.long_count t }) (behind_long t))
          (long_list depth t n) (size (behind_long t)) (layouts.plain_count structs (behind_long t)) (plain_count structs (behind_long t))
      own = plain_type m some structs sound (size (behind_long t)) (n * lists.long_count t) depth (plain_struct m some structs sound (size (behind_long t)) (n * lists.long_count t) depth) (behind_long t) (made_behind (nests_within structs depth) t made) (kind_behind m t kind) close

      kept : layouts.plain_count structs (behind_long t) ≡ plain_count structs (behind_long t)
      kept = own.kept

      few : plain_count structs (behind_long t) ≤ size (behind_long t)
      few = own.few

      -- where the element has bytes, there are not many
      leaf_as : (number at : ℕ) → 0 < size (behind_long t)
          → plain_leaf_by (plain_member depth structs m.pointer (record { stride = size (behind_long t); count = n * lists.long_count t })) structs m.pointer (record { stride = size (behind_long t); count = n * lists.long_count t }) (behind_long t) number at
          ≡ plain_leaf_by (plain_member depth structs m.pointer (record { stride = bytes_in structs m.pointer (behind_long t); count = capped (n * counts.long_count t) })) structs m.pointer (record { stride = bytes_in structs m.pointer (behind_long t); count = capped (n * counts.long_count t) }) (behind_long t) number at
      leaf_as number at bytes =
          let all = turns in
          let a : (n * lists.long_count t) * 1 ≤ (n * lists.long_count t) * size (behind_long t) = mul-le (n * lists.long_count t) 1 (n * lists.long_count t) (size (behind_long t)) (omega arith) (omega (arith, bytes)) in
          let b : 1 * lists.long_count t ≤ n * lists.long_count t = mul-le 1 (lists.long_count t) n (lists.long_count t) (omega (arith, more)) (omega arith) in
          let c = same_count t (omega (arith, a, b, all, near)) in
          let d : n * counts.long_count t ≡ n * lists.long_count t = ap (λ z. n * z) c in
          let count : n * lists.long_count t ≡ capped (n * counts.long_count t) = omega (arith, d, a, all, near) in
          let stride = sym (by_size structs m.pointer (behind_long t) close) in
          λ i. plain_leaf_by (plain_member depth structs m.pointer (record { stride = stride i; count = count i })) structs m.pointer (record { stride = stride i; count = count i }) (behind_long t) number at

  folded_type : (depth : ℕ) → ((i : ℕ) → nests_within structs depth i ≡ true → IsFolded depth i) → (t : Ty) → is_made_of (nests_within structs depth) t ≡ true → has_class_bytes m t ≡ true → size t ≤ 2 ^ 30 → AreOfType depth t
  folded_type depth inner (Int k) made kind near =
      let e = eqb-true k.bytes (class_bytes m (class_of k)) kind in
      let s = some (class_of k) in
      one_leaf (leaf depth (Int k)) (list (suc depth) (Int k)) k.bytes (λ at. leaf_at at (class_of k) k.signed (alone k.bytes)) (omega (arith, e, s)) (λ number at. refl) (λ at. refl)
  folded_type depth inner (Pointer t) made kind near =
      one_leaf (leaf depth (Pointer t)) (list (suc depth) (Pointer t)) m.pointer (λ at. leaf_at at class.Pointer false (alone m.pointer)) (some class.Pointer) (λ number at. refl) (λ at. refl)
  folded_type depth inner (Array t n) made kind near = by_length (is_short n) refl (folded_type depth inner t made kind)
    where
      by_length : (c : Bool) → is_short n ≡ c → (size t ≤ 2 ^ 30 → AreOfType depth t) → AreOfArray depth t n c
      by_length true e own = short_array depth t n own near
      by_length false e own = long_array depth t n e made kind near
  folded_type depth inner (Struct i) made kind near =
      leaves_as (leaf depth (Struct i)) (member depth i) (list (suc depth) (Struct i)) (λ at. of_fields (struct_at structs i).fields at (list depth))
      (struct_at structs i).size (struct_at structs i).size (layouts.leaf_count structs (Struct i)) (struct_at structs i).leaves (struct_at structs i).leaves (struct_at structs i).leaves
      (inner i made) (λ number at room. refl) (λ at. append-nil (of_fields (struct_at structs i).fields at (list depth))) refl (omega arith) refl
  folded_type depth inner Void made kind near = absurd (cc)

  -- the leaves of a struct, whatever the number
  pub record IsStructOf (depth i : ℕ) : Type 0 where
    pub leaves : IsFolded depth i
    pub all : (number at : ℕ) → at + (struct_at structs i).size ≤ 2 ^ 30 → slice_get (of_fields (struct_at structs i).fields at (list depth)) number ≡ member depth i number at

  pub folded_struct : (depth i : ℕ) → nests_within structs depth i ≡ true → IsStructOf depth i
  unfolding member_at
  folded_struct zero i nests = absurd (cc)
  folded_struct (suc depth) i nests =
      let s = sound i in
      let a = all_members m structs true (leaf depth) (list (suc depth)) (layouts.leaf_count structs) (is_made_of (nests_within structs depth)) (folded_type depth (λ j h. (folded_struct depth j h).leaves)) (struct_at structs i).size (struct_at structs i).fields s.small s.members nests in
      record {
        leaves = leaves_as (member (suc depth) i) (member (suc depth) i) (λ at. of_fields (struct_at structs i).fields at (list (suc depth))) (λ at. of_fields (struct_at structs i).fields at (list (suc depth)))
            (struct_at structs i).size (struct_at structs i).size (struct_at structs i).leaves (sum_of (layouts.leaf_count structs) (struct_at structs i).fields) (struct_at structs i).leaves (sum_of (layouts.leaf_count structs) (struct_at structs i).fields)
            a.leaves (λ number at room. refl) (λ at. refl) refl s.leaves s.leaves;
        all = a.all;
      }
