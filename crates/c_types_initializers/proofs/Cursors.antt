-- Open aggregates, of which the code keeps the innermost last.
use Rattle.std.proofs.Common.{◌≡◌, ◌<◌, ◌≤◌, ℕ, Bool, true, false, List, [], ◌∷◌, ◌++◌, map, length, reverse, slice_get, Option, Some, None, is_some, option_map, refl, sym, ◌∙◌, ap, arith}
use Rattle.std.proofs.lemmas.List.{map-append, reverse-append, length-reverse, length-map}
use Rattle.c_types_scopes.specs.Known.{Known}
use Rattle.c_types_initializers.specs.Subobjects.{SubobjectView, OpenView, subobject_view, open_view, behind, following, step, next_or, next, passed, around}
use Rattle.c_types_initializers.specs.declared.subobjects.Subobject.{Subobject}
use Rattle.c_types_initializers.specs.declared.subobjects.OpenAggregate.{OpenAggregate}

-- the innermost one comes first
pub innermost : (items : List OpenAggregate) (a : OpenAggregate) → reverse (map open_view (items ++ a ∷ [])) ≡ open_view a ∷ reverse (map open_view items)
innermost items a = ap reverse (map-append open_view items (a ∷ [])) ∙ reverse-append (map open_view items) (open_view a ∷ [])

pub none_open : (items : List OpenAggregate) → length items ≡ 0 → reverse (map open_view items) ≡ []
none_open [] h = refl
none_open (a ∷ items) h = absurd (omega (arith, h))

last_passed : (outer : List OpenView) (a : OpenView) → passed (outer ++ a ∷ []) ≡ a.passed
unfolding passed
last_passed [] a = refl
last_passed (b ∷ []) a = refl
last_passed (b ∷ c ∷ outer) a = last_passed (c ∷ outer) a

abbrev first_passed : Option OpenAggregate → ℕ
first_passed None = 0
first_passed (Some a) = a.passed

passed_of : (items : List OpenAggregate) → first_passed (slice_get items 0) ≡ passed (reverse (map open_view items))
unfolding passed
passed_of [] = refl
passed_of (a ∷ items) = sym (ap passed (reverse-append (open_view a ∷ []) (map open_view items)) ∙ last_passed (reverse (map open_view items)) (open_view a))

pub outermost : (items : List OpenAggregate) (a : OpenAggregate) → slice_get items 0 ≡ Some a → a.passed ≡ passed (reverse (map open_view items))
outermost items a h = sym (ap first_passed h) ∙ passed_of items

pub no_outermost : (items : List OpenAggregate) → slice_get items 0 ≡ None → 0 ≡ passed (reverse (map open_view items))
no_outermost items h = sym (ap first_passed h) ∙ passed_of items

-- ---- a step that finds a subobject, that ends at the outermost aggregate, and after which the innermost one is left

-- what a step gives, and the aggregates that it leaves
abbrev Stepped : Type 0
Stepped = Option SubobjectView × List OpenView

abbrev Same : Stepped → Stepped → Type 0
Same p q = p ≡ q

clash : (b : Bool) → b ≡ true → b ≡ false → ⊥
clash b is never = cc

found_in : (a : OpenView) (outer new : List OpenView) (o s : Option SubobjectView) (further : Option SubobjectView × List OpenView) → Same (s, new) (o, behind a o ∷ outer) → is_some s ≡ true → Same (s, new) (next_or a outer o further)
found_in a outer new (Some x) s further h is = h
found_in a outer new None s further h is = absurd (clash (is_some s) is (ap (λ p. is_some p.0) h))

found_by : (k : Known) (had new : List OpenView) (s : Option SubobjectView) → (s, new) ≡ step k had → is_some s ≡ true → (s, new) ≡ next k had
unfolding next
found_by k [] new s h is = h
found_by k (a ∷ outer) new s h is = found_in a outer new (following k a) s (next k outer) h is

some_view : (n : Option Subobject) → is_some n ≡ is_some (option_map subobject_view n)
some_view None = refl
some_view (Some s) = refl

pub found : (k : Known) (start had new : List OpenView) (n : Option Subobject) → next k had ≡ next k start → (option_map subobject_view n, new) ≡ step k had → is_some n ≡ true → (option_map subobject_view n, new) ≡ next k start
found k start had new n before h is = found_by k had new (option_map subobject_view n) h (sym (some_view n) ∙ is) ∙ before

ended_in : (a : OpenView) (outer new : List OpenView) (o s : Option SubobjectView) (further : Option SubobjectView × List OpenView) → Same (s, new) (o, behind a o ∷ outer) → is_some s ≡ false → length new ≤ 1 → Same (s, new) (next_or a outer o further)
ended_in a outer new (Some x) s further h never few = absurd (clash (is_some s) (ap (λ p. is_some p.0) h) never)
ended_in a [] new None s further h never few = h
ended_in a (b ∷ outer) new None s further h never few = absurd (omega (arith, few, ap (λ p. length p.1) h))

ended_by : (k : Known) (had new : List OpenView) (s : Option SubobjectView) → (s, new) ≡ step k had → is_some s ≡ false → length new ≤ 1 → (s, new) ≡ next k had
unfolding next
ended_by k [] new s h never few = h
ended_by k (a ∷ outer) new s h never few = ended_in a outer new (following k a) s (next k outer) h never few

none_view : (n : Option Subobject) → is_some n ≡ false → option_map subobject_view n ≡ None
none_view None h = refl
none_view (Some s) h = absurd (clash true refl h)

as_long : (items : List OpenAggregate) → length (reverse (map open_view items)) ≡ length items
as_long items = length-reverse (map open_view items) ∙ length-map items open_view

pub ended : (k : Known) (start had : List OpenView) (items : List OpenAggregate) (n : Option Subobject) → next k had ≡ next k start → (option_map subobject_view n, reverse (map open_view items)) ≡ step k had → is_some n ≡ false → length items ≤ 1 → (None, reverse (map open_view items)) ≡ next k start
ended k start had items n before h never few =
    let same : Same (None, reverse (map open_view items)) (option_map subobject_view n, reverse (map open_view items)) = ap (λ s. (s, reverse (map open_view items))) (sym (none_view n never)) in
    same ∙ ended_by k had (reverse (map open_view items)) (option_map subobject_view n) h (sym (some_view n) ∙ never) (omega (arith, few, as_long items)) ∙ before

left_in : (a : OpenView) (outer new : List OpenView) (o s : Option SubobjectView) (further : Option SubobjectView × List OpenView) → Same (s, new) (o, behind a o ∷ outer) → is_some s ≡ false → 1 < length new → next_or a outer o further ≡ further
left_in a outer new (Some x) s further h never some = absurd (clash (is_some s) (ap (λ p. is_some p.0) h) never)
left_in a [] new None s further h never some = absurd (omega (arith, some, ap (λ p. length p.1) h))
left_in a (c ∷ outer) new None s further h never some = refl

left_by : (k : Known) (had new : List OpenView) (s : Option SubobjectView) → (s, new) ≡ step k had → is_some s ≡ false → 1 < length new → next k (around new) ≡ next k had
unfolding next
left_by k [] new s h never some = absurd (omega (arith, some, ap (λ p. length p.1) h))
left_by k (a ∷ outer) new s h never some = ap (λ p. next k (around p.1)) h ∙ sym (left_in a outer new (following k a) s (next k outer) h never some)

pub left : (k : Known) (start had after : List OpenView) (items : List OpenAggregate) (n : Option Subobject) → next k had ≡ next k start → (option_map subobject_view n, reverse (map open_view items)) ≡ step k had → is_some n ≡ false → 1 < length items → after ≡ around (reverse (map open_view items)) → next k after ≡ next k start
left k start had after items n before h never some is = ap (next k) is ∙ left_by k had (reverse (map open_view items)) (option_map subobject_view n) h (sym (some_view n) ∙ never) (omega (arith, some, as_long items)) ∙ before

pub around_last : (items : List OpenAggregate) (a : OpenAggregate) → reverse (map open_view items) ≡ around (reverse (map open_view (items ++ a ∷ [])))
around_last items a = ap around (sym (innermost items a))
