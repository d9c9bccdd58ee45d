-- Lists of names without repeats.
use Rattle.std.proofs.Common.{◌≡◌, ◌<◌, ◌+◌, ℕ, zero, suc, Bool, true, false, not, ◌&&◌, ◌||◌, cond, List, [], ◌∷◌, ◌++◌, map, length, get_or, slice_get, Some, None, refl, sym, ◌∙◌, ap, subst, drop, ◌≤◌, arith, nat_eq}
use Rattle.std.specs.Cmp.Lexicographic.{pointwise, same_text, other_text}
use Rattle.c_preproc_macros.specs.Numbering.{number_in, with_text}
use Rattle.c_preproc.specs.Names.{is_among, is_distinct, position_from}
use Rattle.c_preproc.proofs.Searches.{drop_at}

some_none : (k : ℕ) → Some k ≡ None → ⊥
some_none k e = cc

some_same : (j k : ℕ) → Some j ≡ Some k → j ≡ k
some_same j k e = cc

pub get_at : {A B : Type 0} (f : A → B) (xs : List A) (k : ℕ) (x : A) → k < length xs → x ≡ get_or xs k x → slice_get (map f xs) k ≡ Some (f x)
get_at f [] k x h e = absurd (omega arith)
get_at f (y ∷ ys) zero x h e = ap (λ v. Some (f v)) (sym e)
get_at f (y ∷ ys) (suc k) x h e = get_at f ys k x (omega arith) e

pub last_at : {A B : Type 0} (f : A → B) (xs ys : List A) (x : A) (k : ℕ) → ys ≡ xs ++ x ∷ [] → k ≡ length xs → slice_get (map f ys) k ≡ Some (f x)
last_at f xs ys x k e h = rw e (rw h (go f xs x))
  where
    go : {A B : Type 0} (f : A → B) (xs : List A) (x : A) → slice_get (map f (xs ++ x ∷ [])) (length xs) ≡ Some (f x)
    go f [] x = refl
    go f (y ∷ ys) x = go f ys x

other_way : (m n : List ℕ) → pointwise nat_eq m n ≡ false → pointwise nat_eq n m ≡ false
other_way m n h = is (pointwise nat_eq n m) refl
  where
    is : (p : Bool) → pointwise nat_eq n m ≡ p → p ≡ false
    is true e = absurd (other_text m n (sym h) (sym (same_text n m (sym e))))
    is false e = refl

or_false : (p q : Bool) → (p || q) ≡ false → (p ≡ false) × (q ≡ false)
or_false true q h = absurd (cc)
or_false false q h = (refl, h)

among_more : (m n : List ℕ) (ns : List (List ℕ)) → is_among m ns ≡ false → pointwise nat_eq m n ≡ false → is_among m (ns ++ n ∷ []) ≡ false
among_more m n [] h k = rw k refl
among_more m n (x ∷ ns) h k = let w = or_false (pointwise nat_eq m x) (is_among m ns) h in rw w.0 (among_more m n ns w.1 k)

and_both : (p q : Bool) → (p && q) ≡ true → (p ≡ true) × (q ≡ true)
and_both true q h = (refl, h)
and_both false q h = absurd (cc)

not_true : (p : Bool) → not p ≡ true → p ≡ false
not_true true h = absurd (cc)
not_true false h = refl

distinct_append : (n : List ℕ) (ns : List (List ℕ)) → is_among n ns ≡ false → is_distinct ns ≡ true → is_distinct (ns ++ n ∷ []) ≡ true
distinct_append n [] h k = refl
distinct_append n (m ∷ ns) h k =
    let w = or_false (pointwise nat_eq n m) (is_among n ns) h in
    let v = and_both (not (is_among m ns)) (is_distinct ns) k in
    rw (among_more m n ns (not_true (is_among m ns) v.0) (other_way n m w.0)) (distinct_append n ns w.1 v.1)

map-append : {A B : Type 0} (f : A → B) (xs ys : List A) → map f (xs ++ ys) ≡ map f xs ++ map f ys
map-append f [] ys = refl
map-append f (x ∷ xs) ys = ap (λ v. f x ∷ v) (map-append f xs ys)

pub distinct_more : {A : Type 0} (f : A → List ℕ) (xs ys : List A) (x : A) (name : List ℕ) → ys ≡ xs ++ x ∷ [] → f x ≡ name → is_among name (map f xs) ≡ false → is_distinct (map f xs) ≡ true → is_distinct (map f ys) ≡ true
distinct_more f xs ys x name e g h k = rw e (rw (map-append f xs (x ∷ [])) (rw g (distinct_append name (map f xs) h k)))

-- ---- where a name stands

behind_other : (at : ℕ) (name n : List ℕ) (ns : List (List ℕ)) → pointwise nat_eq name n ≡ false → position_from at name (n ∷ ns) ≡ position_from (at + 1) name ns
behind_other at name n ns t = ap (λ v. cond v (Some at) (position_from (at + 1) name ns)) t

-- a name that is not there
record Lacks (name : List ℕ) (ns : List (List ℕ)) : Type 0 where
  number : number_in ns name ≡ length ns
  among : is_among name ns ≡ false

lacks_more : (at : ℕ) (name n : List ℕ) (ns : List (List ℕ)) (b : Bool) → pointwise nat_eq name n ≡ b → (position_from (at + 1) name ns ≡ None → Lacks name ns) → position_from at name (n ∷ ns) ≡ None → Lacks name (n ∷ ns)
lacks_more at name n ns true t go e = absurd (some_none at (sym (ap (λ v. cond v (Some at) (position_from (at + 1) name ns)) t) ∙ e))
lacks_more at name n ns false t go e =
    let w : Lacks name ns = go (sym (behind_other at name n ns t) ∙ e) in
    let h : number_in ns name ≡ length ns = w.number in
    record { number = rw t (omega arith); among = rw t w.among }

no_name : (at : ℕ) (name : List ℕ) (ns : List (List ℕ)) → position_from at name ns ≡ None → Lacks name ns
no_name at name [] e = record { number = refl; among = refl }
no_name at name (n ∷ ns) e = lacks_more at name n ns (pointwise nat_eq name n) refl (no_name (at + 1) name ns) e

-- a name that is there
record Stands (at k : ℕ) (name : List ℕ) (ns : List (List ℕ)) : Type 0 where
  number : k ≡ at + number_in ns name
  among : is_among name ns ≡ true
  there : slice_get ns (number_in ns name) ≡ Some name

stands_more : (at k : ℕ) (name n : List ℕ) (ns : List (List ℕ)) (b : Bool) → pointwise nat_eq name n ≡ b → (position_from (at + 1) name ns ≡ Some k → Stands (at + 1) k name ns) → position_from at name (n ∷ ns) ≡ Some k → Stands at k name (n ∷ ns)
stands_more at k name n ns true t go e = record {
  number = rw t (let h : at ≡ k = some_same at k (sym (ap (λ v. cond v (Some at) (position_from (at + 1) name ns)) t) ∙ e) in omega arith);
  among = rw t refl;
  there = rw t (ap Some (sym (same_text name n (sym t))));
}
stands_more at k name n ns false t go e =
    let w : Stands (at + 1) k name ns = go (sym (behind_other at name n ns t) ∙ e) in
    let one : suc (number_in ns name) ≡ number_in (n ∷ ns) name = rw t (omega arith) in
    record {
      number = rw t (let h : k ≡ at + 1 + number_in ns name = w.number in omega arith);
      among = rw t w.among;
      there = subst (λ v. slice_get (n ∷ ns) v ≡ Some name) one w.there;
    }

a_name : (at k : ℕ) (name : List ℕ) (ns : List (List ℕ)) → position_from at name ns ≡ Some k → Stands at k name ns
a_name at k name [] e = absurd (some_none k (sym e))
a_name at k name (n ∷ ns) e = stands_more at k name n ns (pointwise nat_eq name n) refl (a_name (at + 1) k name ns) e

pub number_found : (k : ℕ) (name : List ℕ) (ns : List (List ℕ)) → Some k ≡ position_from 0 name ns → k ≡ number_in ns name
number_found k name ns e = let h = (a_name 0 k name ns (sym e)).number in omega arith

pub list_found : (k : ℕ) (name : List ℕ) (ns : List (List ℕ)) → Some k ≡ position_from 0 name ns → ns ≡ with_text ns name
list_found k name ns e = let h = (a_name 0 k name ns (sym e)).among in rw h refl

pub name_found : (k : ℕ) (name : List ℕ) (ns : List (List ℕ)) → Some k ≡ position_from 0 name ns → slice_get ns k ≡ Some name
name_found k name ns e = let w = a_name 0 k name ns (sym e) in rw (number_found k name ns e) w.there

pub is_new : (name : List ℕ) (ns : List (List ℕ)) → None ≡ position_from 0 name ns → is_among name ns ≡ false
is_new name ns e = (no_name 0 name ns (sym e)).among

pub number_new : (k : ℕ) (name : List ℕ) (ns : List (List ℕ)) → None ≡ position_from 0 name ns → k ≡ length ns → k ≡ number_in ns name
number_new k name ns e h = h ∙ sym ((no_name 0 name ns (sym e)).number)

pub list_new : (name : List ℕ) (ns behind : List (List ℕ)) → None ≡ position_from 0 name ns → behind ≡ ns ++ name ∷ [] → behind ≡ with_text ns name
list_new name ns behind e h = let w = is_new name ns e in rw w h

pub name_new : (k : ℕ) (name : List ℕ) (ns behind : List (List ℕ)) → k ≡ length ns → behind ≡ ns ++ name ∷ [] → slice_get behind k ≡ Some name
name_new k name ns behind h e = rw (e, h) (go ns name)
  where
    go : (ns : List (List ℕ)) (name : List ℕ) → slice_get (ns ++ name ∷ []) (length ns) ≡ Some name
    go [] name = refl
    go (n ∷ ns) name = go ns name

-- ---- along a list

pub position_here : {A : Type 0} (f : A → List ℕ) (xs : List A) (k : ℕ) (x : A) (known name : List ℕ) → k < length xs → x ≡ get_or xs k x → known ≡ f x → true ≡ pointwise nat_eq name known → position_from k name (map f (drop k xs)) ≡ Some k
position_here f xs k x known name h e i t =
    ap (position_from k name) (drop_at f xs k x h e) ∙ ap (λ v. cond v (Some k) (position_from (k + 1) name (map f (drop (k + 1) xs)))) (ap (pointwise nat_eq name) (sym i) ∙ sym t)

pub position_behind : {A : Type 0} (f : A → List ℕ) (xs : List A) (k : ℕ) (x : A) (known name : List ℕ) → k < length xs → x ≡ get_or xs k x → known ≡ f x → false ≡ pointwise nat_eq name known
    → position_from k name (map f (drop k xs)) ≡ position_from (k + 1) name (map f (drop (k + 1) xs))
position_behind f xs k x known name h e i t =
    ap (position_from k name) (drop_at f xs k x h e) ∙ ap (λ v. cond v (Some k) (position_from (k + 1) name (map f (drop (k + 1) xs)))) (ap (pointwise nat_eq name) (sym i) ∙ sym t)
