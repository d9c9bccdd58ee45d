-- The subobjects that a list of initializers reaches are parts of its object.
use Rattle.std.proofs.Common.{◌≡◌, ◌≤◌, ◌+◌, ◌-◌, ◌^◌, ℕ, zero, suc, Bool, true, false, List, [], ◌∷◌, Option, Some, None, arith, refl, ap, subst, sym, ◌∙◌}
use Rattle.std.specs.Prelude.{min, cond}
use Rattle.std.proofs.lemmas.Option.{same_Some}
use Rattle.c_layout.specs.Types.{Ty}
use Rattle.c_types_scopes.specs.Known.{Known}
use Rattle.c_types_initializers.specs.Subobjects.{SubobjectView, OpenView, subobject, entered, following_of, following, one_more, next_or, next, passed}
use Rattle.c_types_initializers.specs.ListStores.{found_or, sought_within, sought}
use Rattle.c_types_theorems.proofs.stores.Growing.{Extends}

-- what holds of the subobjects of an object, where so many of its own are passed, from what is known at some time on
pub record HasParts (from : Known) (root : SubobjectView) (H : ℕ → Known → SubobjectView → Type 0) : Type 0 where
  pub raised : (b c : ℕ) (k : Known) (s : SubobjectView) → b ≤ c → H b k s → H c k s
  pub grown : (b : ℕ) (k after : Known) (s : SubobjectView) → Extends k after → H b k s → H b after s
  pub inner : (b : ℕ) (k : Known) (s x : SubobjectView) (n : ℕ) → H b k s → following_of k s.ctype s.offset n ≡ Some x → H b k x
  pub first : (k : Known) (n : ℕ) (x : SubobjectView) → n ≤ 2 ^ 64 - 1 → Extends from k → following_of k root.ctype root.offset n ≡ Some x → H (one_more n) k x

pub counted : (n : ℕ) → min (n + 1) (2 ^ 64 - 1) ≡ one_more n
counted n = omega arith

pub one_more_most : (n : ℕ) → one_more n ≤ 2 ^ 64 - 1
one_more_most n = subst (λ m. m ≤ 2 ^ 64 - 1) (counted n) (omega arith)

one_more_more : (n : ℕ) → n ≤ 2 ^ 64 - 1 → n ≤ one_more n
one_more_more n h = subst (λ m. n ≤ m) (counted n) (omega (arith, h))

none_is : {A : Type 0} (x : A) → None ≡ Some x → ⊥
none_is x h = cc

module _ (from : Known) (root : SubobjectView) (H : ℕ → Known → SubobjectView → Type 0) (has : HasParts from root H) where
  -- the aggregates that are opened: the outermost one is the object, and the others are parts of it
  abbrev pub AreOpen : Known → List OpenView → Type 0
  AreOpen k [] = ⊥
  AreOpen k (a ∷ []) = (a.ctype ≡ root.ctype) × (a.offset ≡ root.offset) × (a.passed ≤ 2 ^ 64 - 1)
  AreOpen k (a ∷ b ∷ outer) = H (passed (b ∷ outer)) k (subobject a.ctype a.offset) × AreOpen k (b ∷ outer)

  pub open_grown : (k after : Known) (had : List OpenView) → Extends k after → AreOpen k had → AreOpen after had
  open_grown k after [] g h = h
  open_grown k after (a ∷ []) g h = h
  open_grown k after (a ∷ b ∷ outer) g h = (has.grown (passed (b ∷ outer)) k after (subobject a.ctype a.offset) g h.0, open_grown k after (b ∷ outer) g h.1)

  -- a subobject that is found behind those that are passed
  pub record IsFound (k : Known) (had : List OpenView) (wanted : SubobjectView → Type 0) (r : Option SubobjectView × List OpenView) : Type 0 where
    pub opened : AreOpen k r.1
    pub more : passed had ≤ passed r.1
    pub found : (s : SubobjectView) → r.0 ≡ Some s → H (passed r.1) k s × wanted s

  abbrev any : SubobjectView → Type 0
  any s = Unit {0}

  last_found : (k : Known) → Extends from k → (a : OpenView) (o : Option SubobjectView) (further : Option SubobjectView × List OpenView) → following k a ≡ o → AreOpen k (a ∷ []) → IsFound k (a ∷ []) any (next_or a [] o further)
  unfolding passed
  last_found k later a (Some s) further is h = record {
    opened = (h.0, h.1, one_more_most a.passed);
    more = one_more_more a.passed h.2;
    found = λ x e. (subst (λ y. H (one_more a.passed) k y) (same_Some s x e) (has.first k a.passed s h.2 later (ap (λ t. following_of k t root.offset a.passed) (sym h.0) ∙ (ap (λ n. following_of k a.ctype n a.passed) (sym h.1) ∙ is))), tt);
  }
  last_found k later a None further is h = record { opened = h; more = omega arith; found = λ x e. absurd (none_is x e) }

  inner_found : (k : Known) (a b : OpenView) (outer : List OpenView) (o : Option SubobjectView) (further : Option SubobjectView × List OpenView) → following k a ≡ o → AreOpen k (a ∷ b ∷ outer) → IsFound k (b ∷ outer) any further → IsFound k (a ∷ b ∷ outer) any (next_or a (b ∷ outer) o further)
  unfolding passed
  inner_found k a b outer (Some s) further is h f = record {
    opened = (h.0, h.1);
    more = omega arith;
    found = λ x e. (subst (λ y. H (passed (b ∷ outer)) k y) (same_Some s x e) (has.inner (passed (b ∷ outer)) k (subobject a.ctype a.offset) s a.passed h.0 is), tt);
  }
  inner_found k a b outer None further is h f = record { opened = f.opened; more = f.more; found = f.found }

  pub next_found : (k : Known) → Extends from k → (had : List OpenView) → AreOpen k had → IsFound k had any (next k had)
  unfolding next
  next_found k later [] h = absurd h
  next_found k later (a ∷ []) h = last_found k later a (following k a) (next k []) refl h
  next_found k later (a ∷ b ∷ outer) h = inner_found k a b outer (following k a) (next k (b ∷ outer)) refl h (next_found k later (b ∷ outer) h.1)

  -- ---- what is sought

  abbrev pub OfType : (Ty → Bool) → SubobjectView → Type 0
  OfType wanted s = wanted s.ctype ≡ true

  open_entered : (k : Known) (s : SubobjectView) (left : List OpenView) → AreOpen k left → H (passed left) k s → AreOpen k (entered s ∷ left)
  open_entered k s [] h part = absurd h
  open_entered k s (b ∷ outer) h part = (part, h)

  passed_entered : (k : Known) (s : SubobjectView) (left : List OpenView) → AreOpen k left → passed (entered s ∷ left) ≡ passed left
  unfolding passed
  passed_entered k s [] h = absurd h
  passed_entered k s (b ∷ outer) h = refl

  module _ (k : Known) (later : Extends from k) (wanted : Ty → Bool) where
    entered_found : (had : List OpenView) (s : SubobjectView) (left : List OpenView) (r : Option SubobjectView × List OpenView) → passed had ≤ passed left → AreOpen k left → IsFound k (entered s ∷ left) (OfType wanted) r → IsFound k had (OfType wanted) r
    entered_found had s left r more opened f = record { opened = f.opened; more = (let a = f.more in let b = passed_entered k s left opened in omega (arith, a, b, more)); found = f.found }

    chosen_found : (had : List OpenView) (s : SubobjectView) (left : List OpenView) (inside : List OpenView → Option SubobjectView × List OpenView) (b : Bool) → wanted s.ctype ≡ b → IsFound k had any (Some s, left) → ((l : List OpenView) → AreOpen k l → IsFound k l (OfType wanted) (inside l)) → IsFound k had (OfType wanted) (cond b (Some s, left) (inside (entered s ∷ left)))
    chosen_found had s left inside true is f h = record {
      opened = f.opened;
      more = f.more;
      found = λ x e. ((f.found x e).0, ap (λ y. wanted y.ctype) (sym (same_Some s x e)) ∙ is);
    }
    chosen_found had s left inside false is f h = entered_found had s left (inside (entered s ∷ left)) f.more f.opened (h (entered s ∷ left) (open_entered k s left f.opened (f.found s refl).0))

    found_found : (had : List OpenView) (o : Option SubobjectView) (left : List OpenView) (inside : List OpenView → Option SubobjectView × List OpenView) → IsFound k had any (o, left) → ((l : List OpenView) → AreOpen k l → IsFound k l (OfType wanted) (inside l)) → IsFound k had (OfType wanted) (found_or wanted inside o left)
    found_found had None left inside f h = record { opened = f.opened; more = f.more; found = λ x e. absurd (none_is x e) }
    found_found had (Some s) left inside f h = chosen_found had s left inside (wanted s.ctype) refl f h

    within_found : (n : ℕ) (had : List OpenView) → AreOpen k had → IsFound k had (OfType wanted) (sought_within n k wanted had)
    unfolding sought_within
    within_found zero had h = record { opened = h; more = omega arith; found = λ x e. absurd (none_is x e) }
    within_found (suc n) had h = found_found had (next k had).0 (next k had).1 (λ l. sought_within n k wanted l) (next_found k later had h) (λ l opened. within_found n l opened)

    pub sought_found : (had : List OpenView) → AreOpen k had → IsFound k had (OfType wanted) (sought k wanted had)
    sought_found had h = within_found 4294967295 had h
