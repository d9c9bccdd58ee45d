-- What the rules of typing know grows: structs come behind those that are there, so that sizes and parts stay.
use Rattle.std.proofs.Common.{◌≡◌, ℕ, zero, suc, Bool, true, false, List, [], ◌∷◌, ◌++◌, length, Option, Some, None, slice_get, get_or, refl, ap, sym, ◌∙◌, inl, inr}
use Rattle.std.specs.Prelude.{◌⊎◌, ◌&&◌, cond, nat_lt, nat_le, option_and_then}
use Rattle.std.proofs.lemmas.Bool.{and_parts, lt-ltb, ltb-true}
use Rattle.std.proofs.lemmas.Option.{same_Some, slice_get-get_or, slice_get_within}
use Rattle.c_layout.specs.Layout.{most_bytes}
use Rattle.c_layout.specs.Types.{Ty, Int, Pointer, Array, Struct, Void}
use Rattle.c_layout.specs.StructViews.{StructView, struct_at, no_struct}
use Rattle.c_types_rules.specs.Rules.TypeSizes.{array_size, sized}
use Rattle.c_types_scopes.specs.Known.{Known, size_of}
use Rattle.c_types_scopes.specs.States.{State, is_evaluated}
use Rattle.c_types_initializers.specs.Subobjects.{SubobjectView, is_behind, element_of_size, member_in, following_of}
use Rattle.c_types_theorems.proofs.entries.Expressing.{HasSteps}
use Rattle.c_types_theorems.specs.Stores.PlacedStores.{within, part_of, IsPart, IsSettled}

-- structs of which something is known stay as they are
pub record Extends (k after : Known) : Type 0 where
  pub numbers : after.numbers ≡ k.numbers
  pub structs : (i : ℕ) (v : StructView) → slice_get k.structs i ≡ Some v → (v ≡ no_struct) ⊎ (slice_get after.structs i ≡ Some v)

pub extends_same : (k : Known) → Extends k k
extends_same k = record { numbers = refl; structs = λ i v is. inr is }

pub extends_twice : (k l m : Known) → Extends k l → Extends l m → Extends k m
extends_twice k l m g h = record {
  numbers = h.numbers ∙ g.numbers;
  structs = λ i v is. elim (g.structs i v is) [ inl none ↦ inl none | inr still ↦ h.structs i v still ];
}

slice_left : {A : Type 0} (xs ys : List A) (k : ℕ) (x : A) → slice_get xs k ≡ Some x → slice_get (xs ++ ys) k ≡ Some x
slice_left [] ys k x h = absurd (cc)
slice_left (y ∷ xs) ys zero x h = h
slice_left (y ∷ xs) ys (suc k) x h = slice_left xs ys k x h

-- ---- the steps of expressions

-- structs that are settled stay so, and become more
abbrev pub Grows : State → State → Type 0
Grows s t = IsSettled s → IsSettled t × Extends s.known t.known

stays : (s : State) → Grows s s
stays s is = (is, extends_same s.known)

either : (s : State) (b : Bool) (x y : State) → Grows s x → Grows s y → Grows s (cond b x y)
either s true x y g h = g
either s false x y g h = h

pub steps_grow : HasSteps Grows
steps_grow = record {
  same = stays;
  trans = λ s t u g h is. (let a = g is in let b = h a.0 in (b.0, extends_twice s.known t.known u.known a.1 b.1));
  named = λ s text is. (is, extends_same s.known);
  literal = λ s at bytes. either s (is_evaluated s) _ s (λ is. (is, extends_same s.known)) (stays s);
  constant = λ s e is. (is, extends_same s.known);
  called = λ s callee at. either s (is_evaluated s) _ s (λ is. (is, extends_same s.known)) (stays s);
  unevaluated = λ s n is. (is, extends_same s.known);
  tagged = λ s name is. (refl, record { numbers = refl; structs = λ i v at. inr (slice_left s.types.structs (no_struct ∷ []) i v (ap (λ l. slice_get l i) (sym is) ∙ at)) });
}

-- ---- sizes

get_of : {A : Type 0} (xs : List A) (k : ℕ) (d x : A) → slice_get xs k ≡ Some x → get_or xs k d ≡ x
get_of [] k d x h = absurd (cc)
get_of (y ∷ xs) zero d x h = same_Some y x h
get_of (y ∷ xs) (suc k) d x h = get_of xs k d x h

abbrev good : StructView → Bool
good s = (s.complete && nat_lt 0 s.align) && nat_le s.size most_bytes

if_true : {A : Type 0} (b : Bool) (x y : A) → cond b (Some x) None ≡ Some y → (b ≡ true) × (x ≡ y)
if_true true x y h = (refl, same_Some x y h)
if_true false x y h = absurd (cc)

both : (a b : Bool) → a ≡ true → b ≡ true → (a && b) ≡ true
both true true g h = refl
both true false g h = absurd (cc)
both false b g h = absurd (cc)

struct_more : (xs ys : List StructView) → ((i : ℕ) (v : StructView) → slice_get xs i ≡ Some v → (v ≡ no_struct) ⊎ (slice_get ys i ≡ Some v)) → (p i n : ℕ) → sized xs p (Struct i) ≡ Some n → sized ys p (Struct i) ≡ Some n
struct_more xs ys stay p i n h =
    let g = if_true (nat_lt i (length xs) && good (struct_at xs i)) (struct_at xs i).size n h in
    let parts = and_parts (nat_lt i (length xs)) (good (struct_at xs i)) g.0 in
    let there = slice_get-get_or xs i no_struct (ltb-true i (length xs) parts.0) in
    elim (stay i (struct_at xs i) there) [
      | inl none ↦ (let e : good no_struct ≡ true = ap good (sym none) ∙ parts.1 in absurd (cc))
      | inr still ↦ (
          let same : struct_at ys i ≡ struct_at xs i = get_of ys i no_struct (struct_at xs i) still in
          let all : (nat_lt i (length ys) && good (struct_at ys i)) ≡ true = both (nat_lt i (length ys)) (good (struct_at ys i)) (lt-ltb i (length ys) (slice_get_within ys i (struct_at xs i) still)) (ap good same ∙ parts.1) in
          ap (λ b. cond b (Some (struct_at ys i).size) None) all ∙ (ap (λ v. Some v.size) same ∙ ap Some g.1))
    ]

array_more : (count n : ℕ) (o q : Option ℕ) → ((m : ℕ) → o ≡ Some m → q ≡ Some m) → option_and_then (array_size count) o ≡ Some n → option_and_then (array_size count) q ≡ Some n
array_more count n None q more h = absurd (cc)
array_more count n (Some m) q more h = ap (option_and_then (array_size count)) (more m refl) ∙ h

sized_more : (t : Ty) (xs ys : List StructView) → ((i : ℕ) (v : StructView) → slice_get xs i ≡ Some v → (v ≡ no_struct) ⊎ (slice_get ys i ≡ Some v)) → (p n : ℕ) → sized xs p t ≡ Some n → sized ys p t ≡ Some n
sized_more (Int k) xs ys stay p n h = h
sized_more (Pointer t) xs ys stay p n h = h
sized_more (Array t count) xs ys stay p n h = array_more count n (sized xs p t) (sized ys p t) (λ m g. sized_more t xs ys stay p m g) h
sized_more (Struct i) xs ys stay p n h = struct_more xs ys stay p i n h
sized_more Void xs ys stay p n h = absurd (cc)

pub size_more : (k after : Known) (t : Ty) (n : ℕ) → Extends k after → size_of k t ≡ Some n → size_of after t ≡ Some n
size_more k after t n g h = ap (λ m. sized after.structs m.pointer t) g.numbers ∙ sized_more t k.structs after.structs g.structs k.numbers.pointer n h

-- ---- parts

element_more : (e : Ty) (offset n : ℕ) (s : SubobjectView) (behind : Bool) (o q : Option ℕ) → ((m : ℕ) → o ≡ Some m → q ≡ Some m) → cond behind None (element_of_size e offset n o) ≡ Some s → cond behind None (element_of_size e offset n q) ≡ Some s
element_more e offset n s true o q more h = absurd (cc)
element_more e offset n s false None q more h = absurd (cc)
element_more e offset n s false (Some m) q more h = ap (element_of_size e offset n) (more m refl) ∙ h

member_more : (offset n : ℕ) (s : SubobjectView) (o q : Option StructView) → ((v : StructView) → o ≡ Some v → (v ≡ no_struct) ⊎ (q ≡ Some v)) → member_in offset n o ≡ Some s → member_in offset n q ≡ Some s
member_more offset n s None q more h = absurd (cc)
member_more offset n s (Some v) q more h = elim (more v refl) [
  | inl none ↦ (let e : member_in offset n (Some no_struct) ≡ Some s = ap (λ x. member_in offset n (Some x)) (sym none) ∙ h in absurd (cc))
  | inr still ↦ ap (member_in offset n) still ∙ h
]

following_more : (k after : Known) → Extends k after → (t : Ty) (offset n : ℕ) (s : SubobjectView) → following_of k t offset n ≡ Some s → following_of after t offset n ≡ Some s
following_more k after g (Array e count) offset n s h = element_more e offset n s (is_behind count n) (size_of k e) (size_of after e) (λ m. size_more k after e m g) h
following_more k after g (Struct i) offset n s h = member_more offset n s (slice_get k.structs i) (slice_get after.structs i) (λ v is. g.structs i v is) h
following_more k after g (Int kind) offset n s h = absurd (cc)
following_more k after g (Pointer t) offset n s h = absurd (cc)
following_more k after g Void offset n s h = absurd (cc)

within_more : (k after : Known) → Extends k after → (o q : Option SubobjectView) (n : ℕ) (s : SubobjectView) → ((x : SubobjectView) → o ≡ Some x → q ≡ Some x) → within k o n ≡ Some s → within after q n ≡ Some s
within_more k after g None q n s more h = absurd (cc)
within_more k after g (Some x) q n s more h = ap (λ z. within after z n) (more x refl) ∙ following_more k after g x.ctype x.offset n s h

part_more : (k after : Known) → Extends k after → (t : Ty) (path : List ℕ) (s : SubobjectView) → part_of k t path ≡ Some s → part_of after t path ≡ Some s
part_more k after g t [] s h = h
part_more k after g t (n ∷ outer) s h = within_more k after g (part_of k t outer) (part_of after t outer) n s (λ x. part_more k after g t outer x) h

pub part_stays : (k after : Known) → Extends k after → (t : Ty) (s : SubobjectView) → IsPart k t s → IsPart after t s
part_stays k after g t s h = record { path = h.path; is = part_more k after g t h.path s h.is }

pub part_within : (k : Known) (t : Ty) (s x : SubobjectView) (n : ℕ) → IsPart k t s → following_of k s.ctype s.offset n ≡ Some x → IsPart k t x
part_within k t s x n h is = record { path = n ∷ h.path; is = ap (λ o. within k o n) h.is ∙ is }
