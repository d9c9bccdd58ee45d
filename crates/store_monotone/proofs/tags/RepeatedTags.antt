-- The tags of elements and of what stands behind an offset.
use Rattle.std.proofs.Common.{◌≡◌, ℕ, zero, suc, ◌+◌, ◌-◌, ◌*◌, ◌<◌, ◌≤◌, Bool, true, false, cond, nat_le, Option, Some, None, arith, ap, sym, subst, refl, ◌∙◌}
use Rattle.std.proofs.lemmas.Bool.{leb-true, leb-false, cases_Bool}
use Rattle.memory_model.specs.Memory.Bytes.{Tag}
use Rattle.memory_model.specs.Memory.Tags.{or_tag}
use Rattle.store_monotone.specs.Tags.TypeTags.{shifted, repeated_tags}

pub or_none : (o : Option Tag) → or_tag o None ≡ o
or_none None = refl
or_none (Some t) = refl

pub or_or : (a b c : Option Tag) → or_tag (or_tag a b) c ≡ or_tag a (or_tag b c)
or_or None b c = refl
or_or (Some t) b c = refl

-- nothing at a size or behind it
abbrev pub Ends : ℕ → (ℕ → Option Tag) → Type 0
Ends size f = (x : ℕ) → size ≤ x → f x ≡ None

-- ---- behind an offset

pub shifted_on : (o : ℕ) (f : ℕ → Option Tag) (x : ℕ) → o ≤ x → shifted o f x ≡ f (x - o)
shifted_on o f x h = by_test (nat_le o x) refl
  where
    by_test : (c : Bool) → nat_le o x ≡ c → cond c (f (x - o)) None ≡ f (x - o)
    by_test true e = refl
    by_test false e = absurd (let k = leb-false o x e in omega (arith, k, h))

pub shifted_before : (o : ℕ) (f : ℕ → Option Tag) (x : ℕ) → x < o → shifted o f x ≡ None
shifted_before o f x h = by_test (nat_le o x) refl
  where
    by_test : (c : Bool) → nat_le o x ≡ c → cond c (f (x - o)) None ≡ None
    by_test true e = absurd (let k = leb-true o x e in omega (arith, k, h))
    by_test false e = refl

pub shifted_same : (o : ℕ) (f g : ℕ → Option Tag) → ((x : ℕ) → f x ≡ g x) → (x : ℕ) → shifted o f x ≡ shifted o g x
shifted_same o f g h x = ap (λ v. cond (nat_le o x) v None) (h (x - o))

pub shifted_ends : (o size : ℕ) (f : ℕ → Option Tag) → Ends size f → Ends (o + size) (shifted o f)
shifted_ends o size f h x k = shifted_on o f x (omega (arith, k)) ∙ h (x - o) (omega (arith, k))

pub shifted_twice : (o p : ℕ) (f : ℕ → Option Tag) (x : ℕ) → shifted (o + p) f x ≡ shifted o (shifted p f) x
shifted_twice o p f x = by_tests (nat_le o x) (nat_le (o + p) x) refl refl
  where
    by_tests : (c d : Bool) → nat_le o x ≡ c → nat_le (o + p) x ≡ d → shifted (o + p) f x ≡ shifted o (shifted p f) x
    by_tests true true e g =
        let a = leb-true o x e in
        let b = leb-true (o + p) x g in
        shifted_on (o + p) f x b ∙ (ap f (omega (arith, a, b)) ∙ sym (shifted_on o (shifted p f) x a ∙ shifted_on p f (x - o) (omega (arith, a, b))))
    by_tests true false e g =
        let a = leb-true o x e in
        let b = leb-false (o + p) x g in
        shifted_before (o + p) f x b ∙ sym (shifted_on o (shifted p f) x a ∙ shifted_before p f (x - o) (omega (arith, a, b)))
    by_tests false d e g =
        let a = leb-false o x e in
        shifted_before (o + p) f x (omega (arith, a)) ∙ sym (shifted_before o (shifted p f) x a)

-- ---- elements

pub repeated_same : (n size : ℕ) (f g : ℕ → Option Tag) → ((x : ℕ) → f x ≡ g x) → (x : ℕ) → repeated_tags n size f x ≡ repeated_tags n size g x
repeated_same zero size f g h x = refl
repeated_same (suc n) size f g h x =
    ap (λ v. or_tag v (shifted size (repeated_tags n size f) x)) (h x)
    ∙ ap (or_tag (g x)) (shifted_same size (repeated_tags n size f) (repeated_tags n size g) (repeated_same n size f g h) x)

pub repeated_ends : (n size : ℕ) (f : ℕ → Option Tag) → Ends size f → Ends (n * size) (repeated_tags n size f)
repeated_ends zero size f h x k = refl
repeated_ends (suc n) size f h x k =
    let e : suc n * size ≡ size + n * size = grind arith in
    ap (λ v. or_tag v (shifted size (repeated_tags n size f) x)) (h x (omega (arith, k, e)))
    ∙ shifted_ends size (n * size) (repeated_tags n size f) (repeated_ends n size f h) x (omega (arith, k, e))

-- one element
pub one_element : (size : ℕ) (f : ℕ → Option Tag) (x : ℕ) → f x ≡ repeated_tags 1 size f x
one_element size f x = sym (ap (or_tag (f x)) (by_test (nat_le size x)) ∙ or_none (f x))
  where
    by_test : (c : Bool) → cond {A = Option Tag} c None None ≡ None
    by_test true = refl
    by_test false = refl

-- the tags of an element
pub element_tags : (n size : ℕ) (f : ℕ → Option Tag) → Ends size f → (i x : ℕ) → i < n → x < size → repeated_tags n size f (i * size + x) ≡ f x
element_tags zero size f h i x k l = absurd (omega (arith, k))
element_tags (suc n) size f h zero x k l =
    let e : 0 * size + x ≡ x = omega arith in
    ap (repeated_tags (suc n) size f) e ∙ (ap (or_tag (f x)) (shifted_before size (repeated_tags n size f) x l) ∙ or_none (f x))
element_tags (suc n) size f h (suc i) x k l =
    let e : suc i * size + x ≡ size + (i * size + x) = grind arith in
    let d : (suc i * size + x) - size ≡ i * size + x = omega (arith, e) in
    ap (λ v. or_tag v (shifted size (repeated_tags n size f) (suc i * size + x))) (h (suc i * size + x) (omega (arith, e)))
    ∙ (shifted_on size (repeated_tags n size f) (suc i * size + x) (omega (arith, e))
    ∙ (ap (repeated_tags n size f) d
    ∙ element_tags n size f h i x (omega (arith, k)) l))

-- some elements, and others behind them
pub repeated_more : (a b size : ℕ) (f : ℕ → Option Tag) (x : ℕ) → repeated_tags (a + b) size f x ≡ or_tag (repeated_tags a size f x) (shifted (a * size) (repeated_tags b size f) x)
repeated_more zero b size f x =
    let e : 0 * size ≡ 0 = omega arith in
    let g : 0 + b ≡ b = omega arith in
    let k : x - 0 ≡ x = omega arith in
    ap (λ z. repeated_tags z size f x) g ∙ sym (ap (λ o. shifted o (repeated_tags b size f) x) e ∙ (shifted_on 0 (repeated_tags b size f) x (omega arith) ∙ ap (repeated_tags b size f) k))
repeated_more (suc a) b size f x =
    let e : size + a * size ≡ suc a * size = grind arith in
    let g : suc a + b ≡ suc (a + b) = omega arith in
    let both : (y : ℕ) → repeated_tags (a + b) size f y ≡ or_tag (repeated_tags a size f y) (shifted (a * size) (repeated_tags b size f) y) = λ y. repeated_more a b size f y in
    ap (λ z. repeated_tags z size f x) g
    ∙ (ap (or_tag (f x)) (split x both)
    ∙ (sym (or_or (f x) (shifted size (repeated_tags a size f) x) (shifted size (shifted (a * size) (repeated_tags b size f)) x))
    ∙ ap (or_tag (or_tag (f x) (shifted size (repeated_tags a size f) x))) (sym (shifted_twice size (a * size) (repeated_tags b size f) x) ∙ ap (λ o. shifted o (repeated_tags b size f) x) e)))
  where
    shared : (c : Bool) (u v : Option Tag) → cond c (or_tag u v) None ≡ or_tag (cond c u None) (cond c v None)
    shared true u v = refl
    shared false u v = refl

    split : (x : ℕ) → ((y : ℕ) → repeated_tags (a + b) size f y ≡ or_tag (repeated_tags a size f y) (shifted (a * size) (repeated_tags b size f) y))
        → shifted size (repeated_tags (a + b) size f) x ≡ or_tag (shifted size (repeated_tags a size f) x) (shifted size (shifted (a * size) (repeated_tags b size f)) x)
    split x both =
        shifted_same size (repeated_tags (a + b) size f) (λ y. or_tag (repeated_tags a size f y) (shifted (a * size) (repeated_tags b size f) y)) both x
        ∙ shared (nat_le size x) (repeated_tags a size f (x - size)) (shifted (a * size) (repeated_tags b size f) (x - size))

-- elements of elements
pub repeated_twice : (n k size : ℕ) (f : ℕ → Option Tag) (x : ℕ) → repeated_tags n (k * size) (repeated_tags k size f) x ≡ repeated_tags (n * k) size f x
repeated_twice zero k size f x = (let e : 0 ≡ 0 * k = omega arith in ap (λ z. repeated_tags z size f x) e)
repeated_twice (suc n) k size f x =
    let e : k + n * k ≡ suc n * k = grind arith in
    ap (or_tag (repeated_tags k size f x)) (shifted_same (k * size) (repeated_tags n (k * size) (repeated_tags k size f)) (repeated_tags (n * k) size f) (repeated_twice n k size f) x)
    ∙ (sym (repeated_more k (n * k) size f x) ∙ ap (λ z. repeated_tags z size f x) e)
