-- The bytes of elements and of what stands behind an offset.
use Rattle.std.proofs.Common.{◌≡◌, ℕ, zero, suc, ◌+◌, ◌-◌, ◌*◌, ◌<◌, ◌≤◌, Bool, true, false, cond, nat_le, Option, Some, None, arith, ap, refl, ◌∙◌}
use Rattle.std.specs.Option.{option_or}
use Rattle.std.proofs.lemmas.Bool.{leb-true, leb-false}
use Rattle.typed_programs.specs.Types.TypeBytes.{behind, repeated_bytes}

module _ {A : Type 0} where
  pub or_none : (o : Option A) → option_or o None ≡ o
  or_none None = refl
  or_none (Some b) = refl

  -- nothing at a size or behind it
  abbrev pub Ends : ℕ → (ℕ → Option A) → Type 0
  Ends size f = (x : ℕ) → size ≤ x → f x ≡ None

  -- ---- behind an offset

  pub behind_on : (o : ℕ) (f : ℕ → Option A) (x : ℕ) → o ≤ x → behind o f x ≡ f (x - o)
  behind_on o f x h = by_test (nat_le o x) refl
    where
      by_test : (c : Bool) → nat_le o x ≡ c → cond c (f (x - o)) None ≡ f (x - o)
      by_test true e = refl
      by_test false e = absurd (let k = leb-false o x e in omega (arith, k, h))

  pub behind_before : (o : ℕ) (f : ℕ → Option A) (x : ℕ) → x < o → behind o f x ≡ None
  behind_before o f x h = by_test (nat_le o x) refl
    where
      by_test : (c : Bool) → nat_le o x ≡ c → cond c (f (x - o)) None ≡ None
      by_test true e = absurd (let k = leb-true o x e in omega (arith, k, h))
      by_test false e = refl

  pub behind_same : (o : ℕ) (f g : ℕ → Option A) → ((x : ℕ) → f x ≡ g x) → (x : ℕ) → behind o f x ≡ behind o g x
  behind_same o f g h x = ap (λ v. cond (nat_le o x) v None) (h (x - o))

  pub behind_ends : (o size : ℕ) (f : ℕ → Option A) → Ends size f → Ends (o + size) (behind o f)
  behind_ends o size f h x k = behind_on o f x (omega (arith, k)) ∙ h (x - o) (omega (arith, k))

  pub behind_none : (o : ℕ) (f : ℕ → Option A) → ((x : ℕ) → f x ≡ None) → (x : ℕ) → behind o f x ≡ None
  behind_none o f h x = ap (λ v. cond (nat_le o x) v None) (h (x - o)) ∙ by_test (nat_le o x)
    where
      by_test : (c : Bool) → cond {A = Option A} c None None ≡ None
      by_test true = refl
      by_test false = refl

  -- ---- elements

  pub repeated_same : (n size : ℕ) (f g : ℕ → Option A) → ((x : ℕ) → f x ≡ g x) → (x : ℕ) → repeated_bytes n size f x ≡ repeated_bytes n size g x
  repeated_same zero size f g h x = refl
  repeated_same (suc n) size f g h x =
      ap (λ v. option_or v (behind size (repeated_bytes n size f) x)) (h x)
      ∙ ap (option_or (g x)) (behind_same size (repeated_bytes n size f) (repeated_bytes n size g) (repeated_same n size f g h) x)

  pub repeated_ends : (n size : ℕ) (f : ℕ → Option A) → Ends size f → Ends (n * size) (repeated_bytes n size f)
  repeated_ends zero size f h x k = refl
  repeated_ends (suc n) size f h x k =
      let e : suc n * size ≡ size + n * size = grind arith in
      ap (λ v. option_or v (behind size (repeated_bytes n size f) x)) (h x (omega (arith, k, e)))
      ∙ behind_ends size (n * size) (repeated_bytes n size f) (repeated_ends n size f h) x (omega (arith, k, e))

  pub repeated_none : (n size : ℕ) (f : ℕ → Option A) → ((x : ℕ) → f x ≡ None) → (x : ℕ) → repeated_bytes n size f x ≡ None
  repeated_none zero size f h x = refl
  repeated_none (suc n) size f h x =
      ap (λ v. option_or v (behind size (repeated_bytes n size f) x)) (h x)
      ∙ behind_none size (repeated_bytes n size f) (repeated_none n size f h) x

  -- the bytes of an element
  pub element_bytes : (n size : ℕ) (f : ℕ → Option A) → Ends size f → (i x : ℕ) → i < n → x < size → repeated_bytes n size f (i * size + x) ≡ f x
  element_bytes zero size f h i x k l = absurd (omega (arith, k))
  element_bytes (suc n) size f h zero x k l =
      let e : 0 * size + x ≡ x = omega arith in
      ap (repeated_bytes (suc n) size f) e ∙ (ap (option_or (f x)) (behind_before size (repeated_bytes n size f) x l) ∙ or_none (f x))
  element_bytes (suc n) size f h (suc i) x k l =
      let e : suc i * size + x ≡ size + (i * size + x) = grind arith in
      let d : (suc i * size + x) - size ≡ i * size + x = omega (arith, e) in
      ap (λ v. option_or v (behind size (repeated_bytes n size f) (suc i * size + x))) (h (suc i * size + x) (omega (arith, e)))
      ∙ (behind_on size (repeated_bytes n size f) (suc i * size + x) (omega (arith, e))
      ∙ (ap (repeated_bytes n size f) d
      ∙ element_bytes n size f h i x (omega (arith, k)) l))
