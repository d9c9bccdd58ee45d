-- Structures in a type that has short arrays alone have short arrays alone.
use Rattle.std.proofs.Common.{◌≡◌, ℕ, zero, suc, ◌-◌, ◌≤◌, Bool, true, false, cond, ◌==◌, nat_lt, ◌&&◌, List, [], ◌∷◌, length, inl, inr, Option, Some, None, arith, sym, subst, refl, add-one}
use Rattle.std.proofs.lemmas.Bool.{and_parts, and_from, eqb-true, cases_lt}
use Rattle.std.proofs.lemmas.Option.{none-some}
use Rattle.c_layout.specs.Layout.{size_of_type}
use Rattle.c_layout.specs.Leaves.{is_short, behind_all}
use Rattle.c_layout.specs.StructViews.{FieldView, StructView, struct_at}
use Rattle.c_layout.specs.Types.{Ty, Int, Pointer, Array, Struct, Void}
use Rattle.typed_programs.specs.PlainUnits.ShortArrays.{are_short, have_short_arrays, has_short_members, has_short_arrays_within, has_short_arrays}
use Rattle.typed_programs.specs.Types.TypeBytes.{behind, repeated_bytes, member_bytes, bytes_with, struct_bytes, own_struct, struct_byte}
use Rattle.typed_programs.proofs.leaves.ByteEnds.{or_is, behind_is}

-- ---- structures may nest less deep

members_more : (p q : Ty → Bool) → ((t : Ty) → p t ≡ true → q t ≡ true) → (fs : List FieldView) → have_short_arrays p fs ≡ true → have_short_arrays q fs ≡ true
members_more p q more [] h = refl
members_more p q more (f ∷ fs) h =
    let a = and_parts (p f.ctype) (have_short_arrays p fs) h in
    and_from (q f.ctype) (have_short_arrays q fs) (more f.ctype a.0) (members_more p q more fs a.1)

type_more : (structs : List StructView) (p q : Ty → Bool) → ((t : Ty) → p t ≡ true → q t ≡ true) → (t : Ty) → has_short_members p structs t ≡ true → has_short_members q structs t ≡ true
type_more structs p q more (Int k) h = refl
type_more structs p q more (Pointer t) h = refl
type_more structs p q more (Array t n) h = refl
type_more structs p q more (Struct i) h = members_more p q more (struct_at structs i).fields h
type_more structs p q more Void h = refl

deeper : (structs : List StructView) (depth : ℕ) (t : Ty) → has_short_arrays_within depth structs t ≡ true → has_short_arrays_within (suc depth) structs t ≡ true
deeper structs zero t h = absurd (cc)
deeper structs (suc depth) t h =
    let a = and_parts (are_short t) (has_short_members (has_short_arrays_within depth structs) structs (behind_all t)) h in
    and_from (are_short t) (has_short_members (has_short_arrays_within (suc depth) structs) structs (behind_all t)) a.0
    (type_more structs (has_short_arrays_within depth structs) (has_short_arrays_within (suc depth) structs) (deeper structs depth) (behind_all t) a.1)

as_deep : (structs : List StructView) (depth more : ℕ) (t : Ty) → has_short_arrays_within depth structs t ≡ true → depth ≤ more → has_short_arrays_within more structs t ≡ true
as_deep structs depth zero t h less = let e : depth ≡ 0 = omega (arith, less) in subst (λ d. has_short_arrays_within d structs t ≡ true) e h
as_deep structs depth (suc more) t h less = elim (cases_lt more depth) [
  | inl k ↦ (let e : depth ≡ suc more = omega (arith, k, less) in subst (λ d. has_short_arrays_within d structs t ≡ true) e h)
  | inr k ↦ deeper structs more t (as_deep structs depth more t h k)
]

-- ---- parts

module _ (structs : List StructView) (pointer_size index top : ℕ) where
  abbrev IsShort : Type 0
  IsShort = has_short_arrays_within (suc top) structs (Struct index) ≡ true

  abbrev bytes_at : ℕ → Ty → ℕ → Option ℕ
  bytes_at depth = bytes_with structs pointer_size (own_struct structs pointer_size index) (struct_bytes structs pointer_size (own_struct structs pointer_size index) depth)

  in_elements : (bytes : ℕ → Option ℕ) → ((x k : ℕ) → bytes x ≡ Some k → IsShort) → (n size x k : ℕ) → repeated_bytes n size bytes x ≡ Some k → IsShort
  in_elements bytes each zero size x k e = absurd (none-some k e)
  in_elements bytes each (suc n) size x k e = elim (or_is (bytes x) (behind size (repeated_bytes n size bytes) x) k e) [
    | inl a ↦ each x k a
    | inr a ↦ in_elements bytes each n size (x - size) k (behind_is size (repeated_bytes n size bytes) x k a).1
  ]

  in_members : (bytes : Ty → ℕ → Option ℕ) (short : Ty → Bool) → ((t : Ty) → short t ≡ true → (x k : ℕ) → bytes t x ≡ Some k → IsShort) → (fs : List FieldView) → have_short_arrays short fs ≡ true → (x k : ℕ) → member_bytes bytes fs x ≡ Some k → IsShort
  in_members bytes short each [] h x k e = absurd (none-some k e)
  in_members bytes short each (f ∷ fs) h x k e =
      let p = and_parts (short f.ctype) (have_short_arrays short fs) h in
      elim (or_is (behind f.offset (bytes f.ctype) x) (member_bytes bytes fs x) k e) [
        | inl a ↦ each f.ctype p.0 (x - f.offset) k (behind_is f.offset (bytes f.ctype) x k a).1
        | inr a ↦ in_members bytes short each fs p.1 x k a
      ]

  in_type : (depth : ℕ) → ((i x k : ℕ) → has_short_arrays_within (suc depth) structs (Struct i) ≡ true → struct_bytes structs pointer_size (own_struct structs pointer_size index) depth i x ≡ Some k → IsShort)
      → (t : Ty) → has_short_arrays_within (suc depth) structs t ≡ true → (x k : ℕ) → bytes_at depth t x ≡ Some k → IsShort
  in_type depth each (Int kind) short x k e = absurd (none-some k e)
  in_type depth each (Pointer t) short x k e = absurd (none-some k e)
  in_type depth each (Array t n) short x k e =
      let p = and_parts (is_short n && are_short t) (has_short_members (has_short_arrays_within depth structs) structs (behind_all t)) short in
      let q = and_parts (is_short n) (are_short t) p.0 in
      in_elements (bytes_at depth t) (in_type depth each t (and_from (are_short t) (has_short_members (has_short_arrays_within depth structs) structs (behind_all t)) q.1 p.1)) n (size_of_type structs pointer_size t) x k e
  in_type depth each (Struct i) short x k e = each i x k short e
  in_type depth each Void short x k e = absurd (none-some k e)

  same_struct : (i x k : ℕ) → own_struct structs pointer_size index (Struct i) x ≡ Some k → i ≡ index
  same_struct i x k = by_test ((i == index) && nat_lt x (struct_at structs i).size) refl
    where
      by_test : (c : Bool) → ((i == index) && nat_lt x (struct_at structs i).size) ≡ c → cond c (Some x) None ≡ Some k → i ≡ index
      by_test true g e = eqb-true i index (and_parts (i == index) (nat_lt x (struct_at structs i).size) g).0
      by_test false g e = absurd (none-some k e)

  in_struct : (depth : ℕ) → depth ≤ top → (i x k : ℕ) → has_short_arrays_within (suc depth) structs (Struct i) ≡ true → struct_bytes structs pointer_size (own_struct structs pointer_size index) depth i x ≡ Some k → IsShort
  in_struct zero few i x k short e = absurd (none-some k e)
  in_struct (suc depth) few i x k short e = elim (or_is (own_struct structs pointer_size index (Struct i) x) (member_bytes (bytes_at depth) (struct_at structs i).fields x) k e) [
    | inl a ↦ as_deep structs (suc (suc depth)) (suc top) (Struct index) (subst (λ z. has_short_arrays_within (suc (suc depth)) structs (Struct z) ≡ true) (same_struct i x k a) short) (omega (arith, few))
    | inr a ↦ in_members (bytes_at depth) (has_short_arrays_within (suc depth) structs) (in_type depth (in_struct depth (omega (arith, few)))) (struct_at structs i).fields short x k a
  ]

-- where a structure has a byte in a type
pub part_short : (structs : List StructView) (pointer_size index : ℕ) (t : Ty) → has_short_arrays structs t ≡ true → (x k : ℕ) → struct_byte structs pointer_size index t x ≡ Some k → has_short_arrays structs (Struct index) ≡ true
unfolding struct_byte
part_short structs pointer_size index t short x k e =
    let d = add-one (length structs) in
    subst (λ z. has_short_arrays_within z structs (Struct index) ≡ true) (sym d)
    (in_type structs pointer_size index (length structs) (length structs) (in_struct structs pointer_size index (length structs) (length structs) (omega arith)) t (subst (λ z. has_short_arrays_within z structs t ≡ true) d short) x k e)
