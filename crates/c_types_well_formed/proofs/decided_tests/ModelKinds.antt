-- Integer types of a data model: their sizes, promotions and common types.
use Rattle.std.proofs.Common.{◌≡◌, inl, inr, ℕ, ◌==◌, Bool, true, false, ◌&&◌, ◌||◌, cond, nat_le, nat_lt, refl, ap, sym, subst}
use Rattle.std.proofs.lemmas.Bool.{eqb-true, eq-eqb}
use Rattle.cc_base.specs.IntegerTypes.{is_size}
use Rattle.cc_base.specs.declared.int_types.IntType.{IntType}
use Rattle.c_layout.specs.Models.{is_model, short_fits, int_fits, long_fits, long_long_fits}
use Rattle.c_layout.specs.Types.{Ty, Int, Pointer, Array, Struct, Void, same_kind, same_type}
use Rattle.c_layout.specs.CheckedUnits.{UnitView}
use Rattle.c_layout.specs.declared.data_model.Model.{Model}
use Rattle.c_types_rules.specs.Rules.IntegerKinds.{kind_of, promoted, common, joined, mixed}
use Rattle.c_types_rules.specs.declared.rules.integer_kinds.Rank.{Rank}
use Rattle.c_types_rules.specs.declared.rules.integer_kinds.Rank.TheVariants as rank
use Rattle.lower_templates.specs.Worklist.TermKinds.{common_with_int}
use Rattle.source_preservation.specs.Checks.LookedTypes.{is_kind, is_wider, has_truths, is_scalar_type}
use Rattle.source_preservation.proofs.checks.Truths.{both_true, either_true}
use Rattle.c_types_well_formed.specs.WellFormed.ModelTypes.{IsKindOf, IsTypeOf}

-- ---- the same types

both_hold : (a b : Bool) → a ≡ true → b ≡ true → (a && b) ≡ true
both_hold true b e f = f
both_hold false b e f = e

pub same_kind_self : (a : IntType) → same_kind a a ≡ true
same_kind_self a = by a.signed
  where
    by : (s : Bool) → same_kind (record { bytes = a.bytes; signed = s; rank = a.rank }) (record { bytes = a.bytes; signed = s; rank = a.rank }) ≡ true
    by true = both_hold (a.bytes == a.bytes) (a.rank == a.rank) (eq-eqb a.bytes a.bytes refl) (eq-eqb a.rank a.rank refl)
    by false = both_hold (a.bytes == a.bytes) (a.rank == a.rank) (eq-eqb a.bytes a.bytes refl) (eq-eqb a.rank a.rank refl)

pub same_type_self : (t : Ty) → same_type t t ≡ true
same_type_self (Int kind) = same_kind_self kind
same_type_self (Pointer t) = same_type_self t
same_type_self (Array t n) = both_hold (n == n) (same_type t t) (eq-eqb n n refl) (same_type_self t)
same_type_self (Struct i) = eq-eqb i i refl
same_type_self Void = refl

-- ---- models by their sizes

abbrev sized : ℕ → ℕ → ℕ → Bool → Model
sized int long pointer char_signed = record { short = 2; int = int; long = long; long_long = 8; pointer = pointer; char_signed = char_signed }

abbrev of_size : (Model → Bool) → ℕ → Bool → Bool
of_size look pointer char_signed = (look (sized 2 4 pointer char_signed) && look (sized 2 8 pointer char_signed)) && (look (sized 4 4 pointer char_signed) && look (sized 4 8 pointer char_signed))

-- what a look says of each model with such sizes
by_sizes : (look : Model → Bool) → ((pointer : ℕ) (char_signed : Bool) → of_size look pointer char_signed ≡ true) → (m : Model) → is_model m ≡ true → look m ≡ true
by_sizes look each m proper =
    let p = both_true (short_fits m.short) _ proper in
    let q = both_true (int_fits m.int) _ p.1 in
    let r = both_true (long_fits m.long) _ q.1 in
    let s = both_true (long_long_fits m.long_long) _ r.1 in
    let made : ℕ → ℕ → ℕ → ℕ → Model = λ short int long long_long. record { short = short; int = int; long = long; long_long = long_long; pointer = m.pointer; char_signed = m.char_signed } in
    let short : m.short ≡ 2 = eqb-true m.short 2 p.0 in
    let long_long : m.long_long ≡ 8 = eqb-true m.long_long 8 s.0 in
    let all = both_true (look (sized 2 4 m.pointer m.char_signed) && look (sized 2 8 m.pointer m.char_signed)) (look (sized 4 4 m.pointer m.char_signed) && look (sized 4 8 m.pointer m.char_signed)) (each m.pointer m.char_signed) in
    let two = both_true (look (sized 2 4 m.pointer m.char_signed)) (look (sized 2 8 m.pointer m.char_signed)) all.0 in
    let four = both_true (look (sized 4 4 m.pointer m.char_signed)) (look (sized 4 8 m.pointer m.char_signed)) all.1 in
    let by : (int long : ℕ) → m.int ≡ int → m.long ≡ long → look (sized int long m.pointer m.char_signed) ≡ true → look m ≡ true = λ int long e f h.
    subst (λ n. look (made n m.int m.long m.long_long) ≡ true) (sym short) (subst (λ n. look (made 2 n m.long m.long_long) ≡ true) (sym e) (subst (λ n. look (made 2 int n m.long_long) ≡ true) (sym f) (subst (λ n. look (made 2 int long n) ≡ true) (sym long_long) h))) in
    elim (either_true (m.int == 2) (m.int == 4) q.0) [
      | inl e ↦ elim (either_true (m.long == 4) (m.long == 8) r.0) [ inl f ↦ by 2 4 (eqb-true m.int 2 e) (eqb-true m.long 4 f) two.0 | inr f ↦ by 2 8 (eqb-true m.int 2 e) (eqb-true m.long 8 f) two.1 ]
      | inr e ↦ elim (either_true (m.long == 4) (m.long == 8) r.0) [ inl f ↦ by 4 4 (eqb-true m.int 4 e) (eqb-true m.long 4 f) four.0 | inr f ↦ by 4 8 (eqb-true m.int 4 e) (eqb-true m.long 8 f) four.1 ]
    ]

-- what a look says of each integer type of a model
by_rank : (m : Model) (look : IntType → Bool) → ((r : Rank) (s : Bool) → look (kind_of m r s) ≡ true) → (kind : IntType) → IsKindOf m kind → look kind ≡ true
by_rank m look each kind h = subst (λ k. look k ≡ true) (sym h.1) (each h.0 kind.signed)

either_kind : (m : Model) (b : Bool) (x y : IntType) → IsKindOf m x → IsKindOf m y → IsKindOf m (cond b x y)
either_kind m true x y h g = h
either_kind m false x y h g = g

abbrev unsigned_of : IntType → IntType
unsigned_of k = record { bytes = k.bytes; signed = false; rank = k.rank }

unsigned_kind : (m : Model) (k : IntType) → IsKindOf m k → IsKindOf m (unsigned_of k)
unsigned_kind m k h = (h.0, ap unsigned_of h.1)

mixed_kind : (m : Model) (s u : IntType) → IsKindOf m s → IsKindOf m u → IsKindOf m (mixed s u)
mixed_kind m s u h g = either_kind m (nat_le s.rank u.rank) u (cond (nat_lt u.bytes s.bytes) s (unsigned_of s)) g (either_kind m (nat_lt u.bytes s.bytes) s (unsigned_of s) h (unsigned_kind m s h))

joined_kind : (m : Model) (a b : IntType) → IsKindOf m a → IsKindOf m b → IsKindOf m (joined a b)
joined_kind m a b h g = either_kind m _ (cond (nat_le b.rank a.rank) a b) (cond a.signed (mixed a b) (mixed b a)) (either_kind m (nat_le b.rank a.rank) a b h g) (either_kind m a.signed (mixed a b) (mixed b a) (mixed_kind m a b h g) (mixed_kind m b a g h))

-- ---- types of the model

-- of each rank and sign
each_look : (look : Model → IntType → Bool) → ((r : Rank) (s : Bool) (pointer : ℕ) (char_signed : Bool) → of_size (λ m. look m (kind_of m r s)) pointer char_signed ≡ true) → (m : Model) → is_model m ≡ true → (kind : IntType) → IsKindOf m kind → look m kind ≡ true
each_look look each m proper kind h = by_rank m (look m) (λ r s. by_sizes (λ m. look m (kind_of m r s)) (each r s) m proper) kind h

kinds_each : (r : Rank) (s : Bool) (pointer : ℕ) (char_signed : Bool) → of_size (λ m. is_kind m (kind_of m r s)) pointer char_signed ≡ true
kinds_each rank.Char s pointer c = refl
kinds_each rank.Short s pointer c = refl
kinds_each rank.Int s pointer c = refl
kinds_each rank.Long s pointer c = refl
kinds_each rank.LongLong s pointer c = refl

sizes_each : (r : Rank) (s : Bool) (pointer : ℕ) (char_signed : Bool) → of_size (λ m. is_size (kind_of m r s).bytes) pointer char_signed ≡ true
sizes_each rank.Char s pointer c = refl
sizes_each rank.Short s pointer c = refl
sizes_each rank.Int s pointer c = refl
sizes_each rank.Long s pointer c = refl
sizes_each rank.LongLong s pointer c = refl

truths_each : (r : Rank) (s : Bool) (pointer : ℕ) (char_signed : Bool) → of_size (λ m. has_truths (kind_of m r s)) pointer char_signed ≡ true
truths_each rank.Char true pointer c = refl
truths_each rank.Short true pointer c = refl
truths_each rank.Int true pointer c = refl
truths_each rank.Long true pointer c = refl
truths_each rank.LongLong true pointer c = refl
truths_each rank.Char false pointer c = refl
truths_each rank.Short false pointer c = refl
truths_each rank.Int false pointer c = refl
truths_each rank.Long false pointer c = refl
truths_each rank.LongLong false pointer c = refl

promoted_each : (r : Rank) (s : Bool) (pointer : ℕ) (char_signed : Bool) → of_size (λ m. is_wider (kind_of m r s) (promoted m (kind_of m r s))) pointer char_signed ≡ true
promoted_each rank.Char true pointer c = refl
promoted_each rank.Short true pointer c = refl
promoted_each rank.Int true pointer c = refl
promoted_each rank.Long true pointer c = refl
promoted_each rank.LongLong true pointer c = refl
promoted_each rank.Char false pointer c = refl
promoted_each rank.Short false pointer c = refl
promoted_each rank.Int false pointer c = refl
promoted_each rank.Long false pointer c = refl
promoted_each rank.LongLong false pointer c = refl

with_int_each : (r : Rank) (s : Bool) (pointer : ℕ) (char_signed : Bool) → of_size (λ m. is_wider (kind_of m r s) (common_with_int (kind_of m r s) m.int)) pointer char_signed ≡ true
with_int_each rank.Char true pointer c = refl
with_int_each rank.Short true pointer c = refl
with_int_each rank.Int true pointer c = refl
with_int_each rank.Long true pointer c = refl
with_int_each rank.LongLong true pointer c = refl
with_int_each rank.Char false pointer c = refl
with_int_each rank.Short false pointer c = refl
with_int_each rank.Int false pointer c = refl
with_int_each rank.Long false pointer c = refl
with_int_each rank.LongLong false pointer c = refl

module _ (m : Model) (proper : is_model m ≡ true) where
  pub kind_there : (kind : IntType) → IsKindOf m kind → is_kind m kind ≡ true
  kind_there kind h = each_look is_kind kinds_each m proper kind h

  pub kind_size : (kind : IntType) → IsKindOf m kind → is_size kind.bytes ≡ true
  kind_size kind h = each_look (λ m k. is_size k.bytes) sizes_each m proper kind h

  pub kind_truths : (kind : IntType) → IsKindOf m kind → has_truths kind ≡ true
  kind_truths kind h = each_look (λ m k. has_truths k) truths_each m proper kind h

  pub promoted_kind : (kind : IntType) → IsKindOf m kind → IsKindOf m (promoted m kind)
  promoted_kind kind h = either_kind m (nat_lt kind.rank 3) (kind_of m rank.Int (kind.signed || nat_lt kind.bytes m.int)) kind (rank.Int, refl) h

  pub common_kind : (a b : IntType) → IsKindOf m a → IsKindOf m b → IsKindOf m (common m a b)
  common_kind a b h g = joined_kind m (promoted m a) (promoted m b) (promoted_kind a h) (promoted_kind b g)

  pub promoted_wider : (kind : IntType) → IsKindOf m kind → is_wider kind (promoted m kind) ≡ true
  promoted_wider kind h = each_look (λ m k. is_wider k (promoted m k)) promoted_each m proper kind h

  pub zero_kind : (kind : IntType) → IsKindOf m kind → IsKindOf m (common_with_int kind m.int)
  zero_kind kind h = either_kind m (nat_le 3 kind.rank) kind (kind_of m rank.Int (kind.signed || nat_lt kind.bytes m.int)) h (rank.Int, refl)

  pub zero_wider : (kind : IntType) → IsKindOf m kind → is_wider kind (common_with_int kind m.int) ≡ true
  zero_wider kind h = each_look (λ m k. is_wider k (common_with_int k m.int)) with_int_each m proper kind h

pub scalar_there : (u : UnitView) (t : Ty) → is_model u.model ≡ true → IsTypeOf u.model t → is_scalar_type u t ≡ true
scalar_there u (Int kind) proper h = kind_there u.model proper kind h
scalar_there u (Pointer t) proper h = refl
scalar_there u (Array t n) proper h = refl
scalar_there u (Struct i) proper h = refl
scalar_there u Void proper h = refl
