-- All objects of static storage and literals that templates and initializers name are counted.
use Rattle.std.proofs.Common.{◌≡◌, ◌≤◌, ◌<◌, ◌⊎◌, inl, inr, ℕ, zero, suc, ◌+◌, ◌-◌, ◌^◌, Bool, true, false, cond, List, [], ◌∷◌, ◌++◌, length, reverse, replicate, Option, Some, None, refl, arith, ap, sym, subst, ◌∙◌, length-append}
use Rattle.std.specs.List.{slice_get, slice_set}
use Rattle.std.proofs.lemmas.List.{reverse-append, length-reverse}
use Rattle.c_layout.specs.Types.{Ty}
use Rattle.c_layout.specs.CheckedUnits.{StaticStoreView, StaticView, LiteralView, UnitView}
use Rattle.c_layout.specs.declared.checked_tree.checked_units.StaticBase.{StaticBase}
use Rattle.c_layout.specs.declared.checked_tree.checked_units.StaticBase.TheVariants as shared
use Rattle.lower_templates.specs.Worklist.Pieces.{NameView, TemplateView}
use Rattle.lower_objects.specs.Counts.Extents.{capped}
use Rattle.lower_objects.specs.Counts.BaseCounts.{is_first, is_new}
use Rattle.lower_objects.specs.Counts.SharedObjects.{literal_type, pointed_into, before_all, all_pointed, Sharing, object_count, literal_count, object_counted, literal_counted, visited, pointed_from, brought, all_visited, name_base, bases_named, template_bases, all_bases, none_visited, shared_bases}
use Rattle.lower.specs.Inlining.AsCounted.{all_stores, names_of, all_names, all_mentions}
use Rattle.lower.proofs.inlining.PieceExtents.{capped_left}
use Rattle.lower.proofs.inlining.NotedSlots.{Within, within_same, within_set, not_new, set_noted, slots_weight, new_weight}
use Rattle.lower.proofs.inlining.WeighedBases.{Weights}

abbrev pub In : StaticBase → List StaticBase → Type 0
In x [] = ⊥
In x (y ∷ ys) = (x ≡ y) ⊎ In x ys

in_left : (x : StaticBase) (xs ys : List StaticBase) → In x xs → In x (xs ++ ys)
in_left x [] ys is = absurd is
in_left x (y ∷ xs) ys (inl is) = inl is
in_left x (y ∷ xs) ys (inr is) = inr (in_left x xs ys is)

in_right : (x : StaticBase) (xs ys : List StaticBase) → In x ys → In x (xs ++ ys)
in_right x [] ys is = is
in_right x (y ∷ xs) ys is = inr (in_right x xs ys is)

in_reverse : (x : StaticBase) (xs : List StaticBase) → In x xs → In x (reverse xs)
in_reverse x [] is = absurd is
in_reverse x (y ∷ xs) (inl is) = subst (In x) (sym (reverse-append (y ∷ []) xs)) (in_right x (reverse xs) (y ∷ []) (inl is))
in_reverse x (y ∷ xs) (inr is) = subst (In x) (sym (reverse-append (y ∷ []) xs)) (in_left x (reverse xs) (y ∷ []) (in_reverse x xs is))

abbrev pub AllOf : (StaticBase → Type 0) → List StaticBase → Type 0
AllOf P [] = Unit {0}
AllOf P (x ∷ xs) = P x × AllOf P xs

all_from : (P : StaticBase → Type 0) (xs : List StaticBase) → ((x : StaticBase) → In x xs → P x) → AllOf P xs
all_from P [] each = tt
all_from P (x ∷ xs) each = (each x (inl refl), all_from P xs (λ y is. each y (inr is)))

pub one_of : (P : StaticBase → Type 0) (xs : List StaticBase) (x : StaticBase) → In x xs → AllOf P xs → P x
one_of P [] x is all = absurd is
one_of P (y ∷ xs) x (inl is) (one, all) = subst P (sym is) one
one_of P (y ∷ xs) x (inr is) (one, all) = one_of P xs x is all

pub all_more : (P Q : StaticBase → Type 0) (xs : List StaticBase) → ((x : StaticBase) → P x → Q x) → AllOf P xs → AllOf Q xs
all_more P Q [] more all = tt
all_more P Q (x ∷ xs) more (one, all) = (more x one, all_more P Q xs more all)

pub all_append : (P : StaticBase → Type 0) (xs ys : List StaticBase) → AllOf P xs → AllOf P ys → AllOf P (xs ++ ys)
all_append P [] ys a b = b
all_append P (x ∷ xs) ys (one, a) b = (one, all_append P xs ys a b)

-- an object or a literal was counted, or is not there
abbrev pub Seen : Sharing → StaticBase → Type 0
Seen s (shared.Object n) = is_new s.objects n ≡ false
Seen s (shared.Literal n) = is_new s.literals n ≡ false

-- or is still to be visited
abbrev Met : Sharing → List StaticBase → StaticBase → Type 0
Met s stack x = Seen s x ⊎ In x stack

record Grows (s t : Sharing) : Type 0 where
  objects : Within s.objects t.objects
  literals : Within s.literals t.literals

still_seen : (s t : Sharing) (x : StaticBase) → Grows s t → Seen s x → Seen t x
still_seen s t (shared.Object n) g is = not_new s.objects t.objects n g.objects is
still_seen s t (shared.Literal n) g is = not_new s.literals t.literals n g.literals is

same_noted : (s : Sharing) → Grows s s
same_noted s = record { objects = within_same s.objects; literals = within_same s.literals }

grows : (u : UnitView) (x : StaticBase) (s : Sharing) → Grows s (visited u x s)
grows u (shared.Object n) s = by_new (is_new s.objects n)
  where
    by_new : (b : Bool) → Grows s (cond b (object_counted u n s) s)
    by_new true = record { objects = within_set s.objects n; literals = within_same s.literals }
    by_new false = same_noted s
grows u (shared.Literal n) s = by_new (is_new s.literals n)
  where
    by_new : (b : Bool) → Grows s (cond b (literal_counted u n s) s)
    by_new true = record { objects = within_same s.objects; literals = within_set s.literals n }
    by_new false = same_noted s

seen_now : (u : UnitView) (x : StaticBase) (s : Sharing) → Seen (visited u x s) x
seen_now u (shared.Object n) s = by_new (is_new s.objects n) refl
  where
    by_new : (b : Bool) → is_new s.objects n ≡ b → is_new (cond b (object_counted u n s) s).objects n ≡ false
    by_new true is = set_noted s.objects n
    by_new false is = is
seen_now u (shared.Literal n) s = by_new (is_new s.literals n) refl
  where
    by_new : (b : Bool) → is_new s.literals n ≡ b → is_new (cond b (literal_counted u n s) s).literals n ≡ false
    by_new true is = set_noted s.literals n
    by_new false is = is

-- what the visited ones name, and what is asked for
record Visiting (u : UnitView) (roots : List StaticBase) (s : Sharing) (stack : List StaticBase) : Type 0 where
  roots_met : AllOf (Met s stack) roots
  named_met : (n : ℕ) → slice_get s.objects n ≡ Some true → AllOf (Met s stack) (pointed_from (slice_get u.objects n))

met_on : (u : UnitView) (x : StaticBase) (xs : List StaticBase) (s : Sharing) (y : StaticBase) → Met s (x ∷ xs) y → Met (visited u x s) (brought u x s ++ xs) y
met_on u x xs s y (inl seen) = inl (still_seen s (visited u x s) y (grows u x s) seen)
met_on u x xs s y (inr (inl is)) = inl (subst (Seen (visited u x s)) (sym is) (seen_now u x s))
met_on u x xs s y (inr (inr is)) = inr (in_right y (brought u x s) xs is)

-- an object that is visited is the one that is noted now, or was noted before
noted_set : (a : List Bool) (n m : ℕ) → slice_get (slice_set a n true) m ≡ Some true → (m ≡ n) ⊎ (slice_get a m ≡ Some true)
noted_set [] n m is = inr is
noted_set (b ∷ bs) zero zero is = inl refl
noted_set (b ∷ bs) zero (suc m) is = inr is
noted_set (b ∷ bs) (suc n) zero is = inr is
noted_set (b ∷ bs) (suc n) (suc m) is = by_case (noted_set bs n m is)
  where
    by_case : (m ≡ n) ⊎ (slice_get bs m ≡ Some true) → (suc m ≡ suc n) ⊎ (slice_get bs m ≡ Some true)
    by_case (inl same) = inl (ap suc same)
    by_case (inr there) = inr there

visiting_on : (u : UnitView) (roots : List StaticBase) (x : StaticBase) (xs : List StaticBase) (s : Sharing) → Visiting u roots s (x ∷ xs) → Visiting u roots (visited u x s) (brought u x s ++ xs)
visiting_on u roots x xs s v = record {
  roots_met = all_more (Met s (x ∷ xs)) (Met (visited u x s) (brought u x s ++ xs)) roots (met_on u x xs s) v.roots_met;
  named_met = λ m is. named x v m is;
}
  where
    old : (y : StaticBase) (w : Visiting u roots s (y ∷ xs)) (m : ℕ) → slice_get s.objects m ≡ Some true → AllOf (Met (visited u y s) (brought u y s ++ xs)) (pointed_from (slice_get u.objects m))
    old y w m is = all_more (Met s (y ∷ xs)) (Met (visited u y s) (brought u y s ++ xs)) (pointed_from (slice_get u.objects m)) (met_on u y xs s) (w.named_met m is)

    fresh : (n m : ℕ) → m ≡ n → is_new s.objects n ≡ true → AllOf (Met (visited u (shared.Object n) s) (brought u (shared.Object n) s ++ xs)) (pointed_from (slice_get u.objects m))
    fresh n m same new =
        let named = pointed_from (slice_get u.objects n) in
        let now = Met (visited u (shared.Object n) s) (brought u (shared.Object n) s ++ xs) in
        let is_brought : brought u (shared.Object n) s ≡ reverse named = ap (λ b. cond b (reverse named) []) new in
        subst (λ k. AllOf now (pointed_from (slice_get u.objects k))) (sym same) (all_from now named (λ y is. inr (in_left y (brought u (shared.Object n) s) xs (subst (In y) (sym is_brought) (in_reverse y named is)))))

    of_object : (n : ℕ) (w : Visiting u roots s (shared.Object n ∷ xs)) (m : ℕ) (b : Bool) → is_new s.objects n ≡ b → slice_get (cond b (object_counted u n s) s).objects m ≡ Some true → AllOf (Met (visited u (shared.Object n) s) (brought u (shared.Object n) s ++ xs)) (pointed_from (slice_get u.objects m))
    of_object n w m true new is = by_case (noted_set s.objects n m is)
      where
        by_case : (m ≡ n) ⊎ (slice_get s.objects m ≡ Some true) → AllOf (Met (visited u (shared.Object n) s) (brought u (shared.Object n) s ++ xs)) (pointed_from (slice_get u.objects m))
        by_case (inl same) = fresh n m same new
        by_case (inr there) = old (shared.Object n) w m there
    of_object n w m false new is = old (shared.Object n) w m is

    of_literal : (n : ℕ) (w : Visiting u roots s (shared.Literal n ∷ xs)) (m : ℕ) (b : Bool) → is_new s.literals n ≡ b → slice_get (cond b (literal_counted u n s) s).objects m ≡ Some true → AllOf (Met (visited u (shared.Literal n) s) (brought u (shared.Literal n) s ++ xs)) (pointed_from (slice_get u.objects m))
    of_literal n w m true new is = old (shared.Literal n) w m is
    of_literal n w m false new is = old (shared.Literal n) w m is

    named : (y : StaticBase) (w : Visiting u roots s (y ∷ xs)) (m : ℕ) → slice_get (visited u y s).objects m ≡ Some true → AllOf (Met (visited u y s) (brought u y s ++ xs)) (pointed_from (slice_get u.objects m))
    named (shared.Object n) w m is = of_object n w m (is_new s.objects n) refl is
    named (shared.Literal n) w m is = of_literal n w m (is_new s.literals n) refl is

-- how many turns are left at most
abbrev pointed_count : UnitView → ℕ → ℕ
pointed_count u n = length (pointed_from (slice_get u.objects n))

abbrev left_over : (ℕ → ℕ) → ℕ → List Bool → ℕ
left_over weight k [] = 0
left_over weight k (b ∷ bs) = cond b 0 (weight k) + left_over weight (suc k) bs

left_set : (weight : ℕ → ℕ) (k : ℕ) (a : List Bool) (n : ℕ) → is_new a n ≡ true → left_over weight k (slice_set a n true) + weight (k + n) ≡ left_over weight k a
left_set weight k [] n is = cc
left_set weight k (true ∷ bs) zero is = cc
left_set weight k (false ∷ bs) zero is = let here : k + 0 ≡ k = omega arith in let same = ap weight here in omega (arith, same)
left_set weight k (b ∷ bs) (suc n) is =
    let there : suc k + n ≡ k + suc n = omega arith in
    let same = ap weight there in
    let more = left_set weight (suc k) bs n is in
    omega (arith, same, more)

abbrev turns_left : UnitView → List StaticBase → Sharing → ℕ
turns_left u stack s = length stack + left_over (pointed_count u) 0 s.objects

one_turn : (u : UnitView) (x : StaticBase) (xs : List StaticBase) (s : Sharing) → suc (turns_left u (brought u x s ++ xs) (visited u x s)) ≡ turns_left u (x ∷ xs) s
one_turn u (shared.Object n) xs s = by_new (is_new s.objects n) refl
  where
    by_new : (b : Bool) → is_new s.objects n ≡ b → suc (turns_left u (cond b (reverse (pointed_from (slice_get u.objects n))) [] ++ xs) (cond b (object_counted u n s) s)) ≡ suc (length xs) + left_over (pointed_count u) 0 s.objects
    by_new true is =
        let here : 0 + n ≡ n = omega arith in
        let same = ap (pointed_count u) here in
        let less = left_set (pointed_count u) 0 s.objects n is in
        let all = length-append (reverse (pointed_from (slice_get u.objects n))) xs in
        let turned = length-reverse (pointed_from (slice_get u.objects n)) in
        omega (arith, same, less, all, turned)
    by_new false is = omega arith
one_turn u (shared.Literal n) xs s = by_new (is_new s.literals n)
  where
    by_new : (b : Bool) → suc (turns_left u xs (cond b (literal_counted u n s) s)) ≡ suc (length xs) + left_over (pointed_count u) 0 s.objects
    by_new true = omega arith
    by_new false = omega arith

-- when all turns are made nothing is left
visited_all : (u : UnitView) (roots : List StaticBase) (n : ℕ) (stack : List StaticBase) (s : Sharing) → turns_left u stack s ≤ n → Visiting u roots s stack → Visiting u roots (all_visited u n stack s) []
visited_all u roots zero [] s le v = v
visited_all u roots zero (x ∷ xs) s le v = absurd (omega arith)
visited_all u roots (suc n) [] s le v = v
visited_all u roots (suc n) (x ∷ xs) s le v =
    let less = one_turn u x xs s in
    visited_all u roots n (brought u x s ++ xs) (visited u x s) (omega (arith, less)) (visiting_on u roots x xs s v)

-- at first nothing is visited
none_noted : (n m : ℕ) → slice_get (replicate n false) m ≡ Some true → ⊥
none_noted zero m is = cc
none_noted (suc n) zero is = cc
none_noted (suc n) (suc m) is = none_noted n m is

begun_visiting : (u : UnitView) (roots : List StaticBase) → Visiting u roots (none_visited u) (reverse roots)
begun_visiting u roots = record {
  roots_met = all_from (Met (none_visited u) (reverse roots)) roots (λ x is. inr (in_reverse x roots is));
  named_met = λ n is. absurd (none_noted (length u.objects) n is);
}

-- the lists keep their lengths
length_set : (a : List Bool) (n : ℕ) → length (slice_set a n true) ≡ length a
length_set [] n = refl
length_set (b ∷ bs) zero = refl
length_set (b ∷ bs) (suc n) = ap suc (length_set bs n)

record AsLong (u : UnitView) (s : Sharing) : Type 0 where
  objects : length s.objects ≡ length u.objects
  literals : length s.literals ≡ length u.literals

long_on : (u : UnitView) (x : StaticBase) (s : Sharing) → AsLong u s → AsLong u (visited u x s)
long_on u (shared.Object n) s l = by_new (is_new s.objects n)
  where
    by_new : (b : Bool) → AsLong u (cond b (object_counted u n s) s)
    by_new true = record { objects = length_set s.objects n ∙ l.objects; literals = l.literals }
    by_new false = l
long_on u (shared.Literal n) s l = by_new (is_new s.literals n)
  where
    by_new : (b : Bool) → AsLong u (cond b (literal_counted u n s) s)
    by_new true = record { objects = l.objects; literals = length_set s.literals n ∙ l.literals }
    by_new false = l

long_all : (u : UnitView) (n : ℕ) (stack : List StaticBase) (s : Sharing) → AsLong u s → AsLong u (all_visited u n stack s)
long_all u zero stack s l = l
long_all u (suc n) [] s l = l
long_all u (suc n) (x ∷ xs) s l = long_all u n (brought u x s ++ xs) (visited u x s) (long_on u x s l)

length_none : (n : ℕ) → length (replicate n false) ≡ n
length_none zero = refl
length_none (suc n) = ap suc (length_none n)

-- what the shared bases weigh
abbrev pub object_type_weight : (Ty → ℕ) → Option StaticView → ℕ
object_type_weight weight None = 0
object_type_weight weight (Some o) = weight o.ctype

abbrev pub literal_type_weight : UnitView → (Ty → ℕ) → Option LiteralView → ℕ
literal_type_weight u weight None = 0
literal_type_weight u weight (Some l) = weight (literal_type u.model.char_signed (length l.bytes))

module _ (u : UnitView) (w : Weights u) where
  abbrev pub object_weight : ℕ → ℕ
  object_weight n = object_type_weight w.object (slice_get u.objects n)

  abbrev pub literal_weight : ℕ → ℕ
  literal_weight n = literal_type_weight u w.object (slice_get u.literals n)

  abbrev pub noted_weight : List Bool → List Bool → ℕ
  noted_weight objects literals = slots_weight object_weight 0 objects + slots_weight literal_weight 0 literals

  picked_object : (o : Option StaticView) → w.pick (object_count u.structs o) ≡ object_type_weight w.object o
  picked_object None = w.picks_none
  picked_object (Some o) = w.picks_object o.ctype

  picked_literal : (l : Option LiteralView) → w.pick (literal_count u l) ≡ literal_type_weight u w.object l
  picked_literal None = w.picks_none
  picked_literal (Some l) = w.picks_object (literal_type u.model.char_signed (length l.bytes))

  counted_object : (n : ℕ) (s : Sharing) → is_new s.objects n ≡ true → w.pick s.count ≡ capped (noted_weight s.objects s.literals) → w.pick (object_counted u n s).count ≡ capped (noted_weight (object_counted u n s).objects (object_counted u n s).literals)
  counted_object n s new is =
      let here : 0 + n ≡ n = omega arith in
      let same = ap object_weight here in
      let more = new_weight object_weight 0 s.objects n new in
      w.picks s.count (object_count u.structs (slice_get u.objects n))
      ∙ ap (λ k. capped (k + w.pick (object_count u.structs (slice_get u.objects n)))) is
      ∙ ap (λ k. capped (capped (noted_weight s.objects s.literals) + k)) (picked_object (slice_get u.objects n))
      ∙ capped_left (noted_weight s.objects s.literals) (object_weight n)
      ∙ ap capped (sum _ _ _ _ _ more same)
    where
      sum : (a l x y t : ℕ) → t ≡ a + x → x ≡ y → (a + l) + y ≡ t + l
      sum a l x y t p q = omega arith

  counted_literal : (n : ℕ) (s : Sharing) → is_new s.literals n ≡ true → w.pick s.count ≡ capped (noted_weight s.objects s.literals) → w.pick (literal_counted u n s).count ≡ capped (noted_weight (literal_counted u n s).objects (literal_counted u n s).literals)
  counted_literal n s new is =
      let here : 0 + n ≡ n = omega arith in
      let same = ap literal_weight here in
      let more = new_weight literal_weight 0 s.literals n new in
      w.picks s.count (literal_count u (slice_get u.literals n))
      ∙ ap (λ k. capped (k + w.pick (literal_count u (slice_get u.literals n)))) is
      ∙ ap (λ k. capped (capped (noted_weight s.objects s.literals) + k)) (picked_literal (slice_get u.literals n))
      ∙ capped_left (noted_weight s.objects s.literals) (literal_weight n)
      ∙ ap capped (sum _ _ _ _ _ more same)
    where
      sum : (a l x y t : ℕ) → t ≡ l + x → x ≡ y → (a + l) + y ≡ a + t
      sum a l x y t p q = omega arith

  counted_on : (x : StaticBase) (s : Sharing) → w.pick s.count ≡ capped (noted_weight s.objects s.literals) → w.pick (visited u x s).count ≡ capped (noted_weight (visited u x s).objects (visited u x s).literals)
  counted_on (shared.Object n) s is = by_new (is_new s.objects n) refl
    where
      by_new : (b : Bool) → is_new s.objects n ≡ b → w.pick (cond b (object_counted u n s) s).count ≡ capped (noted_weight (cond b (object_counted u n s) s).objects (cond b (object_counted u n s) s).literals)
      by_new true new = counted_object n s new is
      by_new false new = is
  counted_on (shared.Literal n) s is = by_new (is_new s.literals n) refl
    where
      by_new : (b : Bool) → is_new s.literals n ≡ b → w.pick (cond b (literal_counted u n s) s).count ≡ capped (noted_weight (cond b (literal_counted u n s) s).objects (cond b (literal_counted u n s) s).literals)
      by_new true new = counted_literal n s new is
      by_new false new = is

  counted_all : (n : ℕ) (stack : List StaticBase) (s : Sharing) → w.pick s.count ≡ capped (noted_weight s.objects s.literals) → w.pick (all_visited u n stack s).count ≡ capped (noted_weight (all_visited u n stack s).objects (all_visited u n stack s).literals)
  counted_all zero stack s is = is
  counted_all (suc n) [] s is = is
  counted_all (suc n) (x ∷ xs) s is = counted_all n (brought u x s ++ xs) (visited u x s) (counted_on x s is)

  nothing_weighs : (weight : ℕ → ℕ) (k n : ℕ) → slots_weight weight k (replicate n false) ≡ 0
  nothing_weighs weight k zero = refl
  nothing_weighs weight k (suc n) = let e = nothing_weighs weight (suc k) n in omega (arith, e)

  pub all_counted : (ts : List (Option TemplateView)) → w.pick (shared_bases u ts) ≡ capped (noted_weight (all_visited u (2 ^ 64 - 1) (reverse (all_bases ts)) (none_visited u)).objects (all_visited u (2 ^ 64 - 1) (reverse (all_bases ts)) (none_visited u)).literals)
  all_counted ts =
      let a = nothing_weighs object_weight 0 (length u.objects) in
      let b = nothing_weighs literal_weight 0 (length u.literals) in
      counted_all (2 ^ 64 - 1) (reverse (all_bases ts)) (none_visited u) (w.picks_none ∙ ap capped (none _ _ a b))
    where
      none : (a b : ℕ) → a ≡ 0 → b ≡ 0 → 0 ≡ a + b
      none a b p q = omega arith

-- the number of turns that are made is enough
one_more : (b : Option StaticBase) (xs : List StaticBase) (n : ℕ) → length xs ≤ n → length (before_all b xs) ≤ suc n
one_more None xs n le = omega arith
one_more (Some b) xs n le = omega arith

pointed_stores : (ss : List StaticStoreView) → length (all_pointed ss) ≤ length ss
pointed_stores [] = omega arith
pointed_stores (s ∷ ss) = one_more (pointed_into s) (all_pointed ss) (length ss) (pointed_stores ss)

named_count : (ns : List NameView) → length (bases_named ns) ≤ length ns
named_count [] = omega arith
named_count (n ∷ ns) = one_more (name_base n) (bases_named ns) (length ns) (named_count ns)

template_count : (t : Option TemplateView) → length (template_bases t) ≤ names_of t
template_count None = omega arith
template_count (Some t) = named_count t.names

all_bases_count : (ts : List (Option TemplateView)) → length (all_bases ts) ≤ all_names ts
all_bases_count [] = omega arith
all_bases_count (t ∷ ts) =
    let a = length-append (template_bases t) (all_bases ts) in
    let b = template_count t in
    let c = all_bases_count ts in
    omega (arith, a, b, c)

left_at : (weight : ℕ → ℕ) (other : ℕ → ℕ) (k j n : ℕ) → ((m : ℕ) → weight (k + m) ≡ other (j + m)) → left_over weight k (replicate n false) ≡ left_over other j (replicate n false)
left_at weight other k j zero same = refl
left_at weight other k j (suc n) same =
    let here = same 0 in
    let a : k + 0 ≡ k = omega arith in
    let b : j + 0 ≡ j = omega arith in
    let x = ap weight a in
    let y = ap other b in
    let rest = left_at weight other (suc k) (suc j) n (λ m. next m) in
    omega (arith, here, x, y, rest)
  where
    next : (m : ℕ) → weight (suc k + m) ≡ other (suc j + m)
    next m =
        let p : suc k + m ≡ k + suc m = omega arith in
        let q : j + suc m ≡ suc j + m = omega arith in
        ap weight p ∙ same (suc m) ∙ ap other q

abbrev counts_of : List StaticView → ℕ → ℕ
counts_of os n = length (pointed_from (slice_get os n))

zero_plus : (m : ℕ) → 0 + m ≡ m
zero_plus m = omega arith

stores_count : (os : List StaticView) → left_over (counts_of os) 0 (replicate (length os) false) ≤ all_stores os
stores_count [] = omega arith
stores_count (o ∷ os) =
    let le = pointed_stores o.stores in
    let more = stores_count os in
    let rest = left_at (counts_of (o ∷ os)) (counts_of os) 1 0 (length os) (λ m. later m) in
    omega (arith, le, more, rest)
  where
    later : (m : ℕ) → counts_of (o ∷ os) (1 + m) ≡ counts_of os (0 + m)
    later m =
        let p : 1 + m ≡ suc m = omega arith in
        let q : m ≡ 0 + m = omega arith in
        ap (counts_of (o ∷ os)) p ∙ ap (counts_of os) q

-- all that templates name was counted, and all that what was counted names
pub record IsVisited (u : UnitView) (ts : List (Option TemplateView)) (s : Sharing) : Type 0 where
  pub roots : AllOf (Seen s) (all_bases ts)
  pub named : (n : ℕ) → is_new s.objects n ≡ false → AllOf (Seen s) (pointed_from (slice_get u.objects n))
  pub objects : length s.objects ≡ length u.objects
  pub literals : length s.literals ≡ length u.literals

seen_only : (s : Sharing) (x : StaticBase) → Met s [] x → Seen s x
seen_only s x (inl is) = is
seen_only s x (inr is) = absurd is

pub past_none : {A : Type 0} (xs : List A) (ys : List Bool) (n : ℕ) → length ys ≡ length xs → slice_get ys n ≡ None → slice_get xs n ≡ None
past_none [] ys n same is = refl
past_none (x ∷ xs) [] n same is = absurd (omega arith)
past_none (x ∷ xs) (y ∷ ys) zero same is = cc
past_none (x ∷ xs) (y ∷ ys) (suc n) same is = past_none xs ys n (omega arith) is

not_new_or : (o : Option Bool) → is_first o ≡ false → (o ≡ None) ⊎ (o ≡ Some true)
not_new_or None is = inl refl
not_new_or (Some true) is = inr refl
not_new_or (Some false) is = cc

pub all_seen : (u : UnitView) (ts : List (Option TemplateView)) → all_mentions u ts < 2 ^ 64 → IsVisited u ts (all_visited u (2 ^ 64 - 1) (reverse (all_bases ts)) (none_visited u))
all_seen u ts few =
    let roots = all_bases ts in
    let s = all_visited u (2 ^ 64 - 1) (reverse roots) (none_visited u) in
    let a = length-reverse roots in
    let b = all_bases_count ts in
    let c = stores_count u.objects in
    let enough : turns_left u (reverse roots) (none_visited u) ≤ 2 ^ 64 - 1 = omega (arith, a, b, c) in
    let v = visited_all u roots (2 ^ 64 - 1) (reverse roots) (none_visited u) enough (begun_visiting u roots) in
    let l = long_all u (2 ^ 64 - 1) (reverse roots) (none_visited u) (record { objects = length_none (length u.objects); literals = length_none (length u.literals) }) in
    record {
      roots = all_more (Met s []) (Seen s) roots (seen_only s) v.roots_met;
      named = λ n is. by_case s v l n (not_new_or (slice_get s.objects n) is);
      objects = l.objects;
      literals = l.literals;
    }
  where
    by_case : (s : Sharing) (v : Visiting u (all_bases ts) s []) (l : AsLong u s) (n : ℕ) → (slice_get s.objects n ≡ None) ⊎ (slice_get s.objects n ≡ Some true) → AllOf (Seen s) (pointed_from (slice_get u.objects n))
    by_case s v l n (inl none) = subst (λ o. AllOf (Seen s) (pointed_from o)) (sym (past_none u.objects s.objects n l.objects none)) tt
    by_case s v l n (inr there) = all_more (Met s []) (Seen s) (pointed_from (slice_get u.objects n)) (seen_only s) (v.named_met n there)
