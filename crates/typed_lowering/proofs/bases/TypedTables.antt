-- Tables of bases keep to types as bases are added.
use Rattle.std.proofs.Common.{◌≡◌, ◌<◌, ◌⊎◌, inl, inr, ℕ, zero, suc, List, [], ◌∷◌, ◌++◌, length, Option, Some, None, refl, arith, ap, sym, subst, ◌∙◌, append_assoc}
use Rattle.std.specs.List.{slice_get}
use Rattle.std.proofs.lemmas.List.{append-nil}
use Rattle.c_layout.specs.CheckedUnits.{StaticView, LiteralView, UnitView}
use Rattle.c_layout.specs.Types.{Ty}
use Rattle.c_layout.specs.declared.checked_tree.checked_units.StaticBase.{StaticBase}
use Rattle.c_layout.specs.declared.checked_tree.checked_units.StaticBase.TheVariants as shared
use Rattle.c_layout.specs.declared.shapes.BaseInfo.{BaseInfo}
use Rattle.lower_tables.specs.Bases.BaseTables.{TableView, known, object_made, object_or, with_object, literal_made, literal_or, with_literal, with_shared, brought, with_all}
use Rattle.lower_objects.specs.Counts.SharedObjects.{literal_type}
use Rattle.typed_lowering.specs.Conversions.TypedBases.{IsMadeOf, HasTypes, HasOwnTypes}
use Rattle.simulation_layout.proofs.inlining.ListPlaces.{some_same, within, left_of, at_end, at_more, one_longer, set_here, set_cases, set_kept, set_length}

-- ---- one more base

-- a base of the types, or the newest one, which has a type of its own
abbrev pub IsOneOf : List Ty → Ty → ℕ → Ty → Type 0
IsOneOf types newest n t = (slice_get types n ≡ Some t) ⊎ ((n ≡ length types) × (newest ≡ t))

pub typed_more : (types : List Ty) (newest : Ty) (n : ℕ) (t : Ty) → IsOneOf types newest n t → slice_get (types ++ newest ∷ []) n ≡ Some t
typed_more types newest n t (inl old) = left_of types (newest ∷ []) n t old
typed_more types newest n t (inr p) = ap (slice_get (types ++ newest ∷ [])) p.0 ∙ at_end types newest [] ∙ ap Some p.1

module _ (u : UnitView) where
  made_more : (types : List Ty) (t : Ty) (b : TableView) (x : BaseInfo) → HasTypes u types b → IsMadeOf u t x → (n : ℕ) (s : Ty) (y : BaseInfo) → slice_get (types ++ t ∷ []) n ≡ Some s → slice_get (b.bases ++ x ∷ []) n ≡ Some y → IsMadeOf u s y
  made_more types t b x has made n s y at there = by (at_more types t s n at) (at_more b.bases x y n there)
    where
      past : (k n : ℕ) → k ≡ n → k < n → ⊥
      past k n e less = omega (arith, e, less)

      by : ((n ≡ length types) × (s ≡ t)) ⊎ (slice_get types n ≡ Some s) → ((n ≡ length b.bases) × (y ≡ x)) ⊎ (slice_get b.bases n ≡ Some y) → IsMadeOf u s y
      by (inl p) (inl q) = subst (λ z. IsMadeOf u z y) (sym p.1) (subst (λ z. IsMadeOf u t z) (sym q.1) made)
      by (inl p) (inr old) = absurd (past n (length b.bases) (p.0 ∙ has.numbered) (within b.bases n y old))
      by (inr old) (inl q) = absurd (past n (length types) (q.0 ∙ sym has.numbered) (within types n s old))
      by (inr old) (inr before) = has.made n s y old before

  -- the tables of objects and of literals may name the newest base
  pub base_more : (types : List Ty) (t : Ty) (x : BaseInfo) (b : TableView) → HasTypes u types b → IsMadeOf u t x → (width : ℕ) (objects literals : List (Option ℕ)) → length objects ≡ length u.objects → length literals ≡ length u.literals
      → ((i n : ℕ) (o : StaticView) → known objects i ≡ Some n → slice_get u.objects i ≡ Some o → IsOneOf types t n o.ctype)
      → ((i n : ℕ) (l : LiteralView) → known literals i ≡ Some n → slice_get u.literals i ≡ Some l → IsOneOf types t n (literal_type u.model.char_signed (length l.bytes)))
      → HasTypes u (types ++ t ∷ []) (record { bases = b.bases ++ x ∷ []; width = width; objects = objects; literals = literals })
  base_more types t x b has made width objects literals all_objects all_literals of_objects of_literals = record {
    numbered = one_longer types t ∙ ap suc has.numbered ∙ sym (one_longer b.bases x);
    all_objects = all_objects;
    all_literals = all_literals;
    made = made_more types t b x has made;
    objects = λ i n o is there. typed_more types t n o.ctype (of_objects i n o is there);
    literals = λ i n l is there. typed_more types t n (literal_type u.model.char_signed (length l.bytes)) (of_literals i n l is there);
  }

  -- ---- more bases

  pub record Grows (types : List Ty) (b c : TableView) : Type 0 where
    pub more : List Ty
    pub bases : HasTypes u (types ++ more) c
    pub objects : (n k : ℕ) → known b.objects n ≡ Some k → known c.objects n ≡ Some k
    pub literals : (n k : ℕ) → known b.literals n ≡ Some k → known c.literals n ≡ Some k

  grows_not : (types : List Ty) (b : TableView) → HasTypes u types b → Grows types b b
  grows_not types b has = record { more = []; bases = subst (λ ts. HasTypes u ts b) (sym (append-nil types)) has; objects = λ n k is. is; literals = λ n k is. is }

  grows_twice : (types : List Ty) (b c d : TableView) (x : Grows types b c) → Grows (types ++ x.more) c d → Grows types b d
  grows_twice types b c d x y = record {
    more = x.more ++ y.more;
    bases = subst (λ ts. HasTypes u ts d) (append_assoc types x.more y.more) y.bases;
    objects = λ n k is. y.objects n k (x.objects n k is);
    literals = λ n k is. y.literals n k (x.literals n k is);
  }

  module _ (own : HasOwnTypes u) where
    -- ---- objects of static storage and literals

    object_new : (n : ℕ) (types : List Ty) (b : TableView) (o : StaticView) → HasTypes u types b → known b.objects n ≡ None → slice_get u.objects n ≡ Some o → Grows types b (object_made u n b (Some o))
    object_new n types b o has free is =
        record {
          more = o.ctype ∷ [];
          bases = base_more types o.ctype _ b has (record { size = refl; shape = refl; own = own.objects n o is }) _ _ b.literals
              (set_length b.objects n (Some (length b.bases)) ∙ has.all_objects) has.all_literals
              (λ i k p at there. one i k p (set_cases b.objects n (length b.bases) i k at) there) (λ i k l at there. inl (has.literals i k l at there));
          objects = λ m k there. set_kept b.objects n (length b.bases) m k free there;
          literals = λ m k there. there;
        }
      where
        one : (i k : ℕ) (p : StaticView) → ((i ≡ n) × (k ≡ length b.bases)) ⊎ (known b.objects i ≡ Some k) → slice_get u.objects i ≡ Some p → IsOneOf types o.ctype k p.ctype
        one i k p (inl q) there = inr (q.1 ∙ sym has.numbered, ap (λ z. z.ctype) (some_same o p (sym is ∙ ap (λ j. slice_get u.objects j) (sym q.0) ∙ there)))
        one i k p (inr old) there = inl (has.objects i k p old there)

    literal_new : (n : ℕ) (types : List Ty) (b : TableView) (l : LiteralView) → HasTypes u types b → known b.literals n ≡ None → slice_get u.literals n ≡ Some l → Grows types b (literal_made u n b (Some l))
    literal_new n types b l has free is =
        record {
          more = literal_type u.model.char_signed (length l.bytes) ∷ [];
          bases = base_more types (literal_type u.model.char_signed (length l.bytes)) _ b has (record { size = refl; shape = refl; own = own.literals n l is }) _ b.objects _
              has.all_objects (set_length b.literals n (Some (length b.bases)) ∙ has.all_literals)
              (λ i k o at there. inl (has.objects i k o at there)) (λ i k p at there. one i k p (set_cases b.literals n (length b.bases) i k at) there);
          objects = λ m k there. there;
          literals = λ m k there. set_kept b.literals n (length b.bases) m k free there;
        }
      where
        one : (i k : ℕ) (p : LiteralView) → ((i ≡ n) × (k ≡ length b.bases)) ⊎ (known b.literals i ≡ Some k) → slice_get u.literals i ≡ Some p → IsOneOf types (literal_type u.model.char_signed (length l.bytes)) k (literal_type u.model.char_signed (length p.bytes))
        one i k p (inl q) there = inr (q.1 ∙ sym has.numbered, ap (λ z. literal_type u.model.char_signed (length z.bytes)) (some_same l p (sym is ∙ ap (λ j. slice_get u.literals j) (sym q.0) ∙ there)))
        one i k p (inr old) there = inl (has.literals i k p old there)

    object_typed : (n : ℕ) (types : List Ty) (b : TableView) → HasTypes u types b → Grows types b (with_object u n b)
    object_typed n types b has = by (known b.objects n) refl
      where
        make : known b.objects n ≡ None → (o : Option StaticView) → slice_get u.objects n ≡ o → Grows types b (object_made u n b o)
        make free None is = grows_not types b has
        make free (Some o) is = object_new n types b o has free is

        by : (o : Option ℕ) → known b.objects n ≡ o → Grows types b (object_or u n b o)
        by (Some k) is = grows_not types b has
        by None is = make is (slice_get u.objects n) refl

    literal_typed : (n : ℕ) (types : List Ty) (b : TableView) → HasTypes u types b → Grows types b (with_literal u n b)
    literal_typed n types b has = by (known b.literals n) refl
      where
        make : known b.literals n ≡ None → (o : Option LiteralView) → slice_get u.literals n ≡ o → Grows types b (literal_made u n b o)
        make free None is = grows_not types b has
        make free (Some l) is = literal_new n types b l has free is

        by : (o : Option ℕ) → known b.literals n ≡ o → Grows types b (literal_or u n b o)
        by (Some k) is = grows_not types b has
        by None is = make is (slice_get u.literals n) refl

    pub shared_typed : (x : StaticBase) (types : List Ty) (b : TableView) → HasTypes u types b → Grows types b (with_shared u x b)
    shared_typed (shared.Object n) types b has = object_typed n types b has
    shared_typed (shared.Literal n) types b has = literal_typed n types b has

    pub all_typed : (n : ℕ) (stack : List StaticBase) (types : List Ty) (b : TableView) → HasTypes u types b → Grows types b (with_all u n stack b)
    all_typed zero stack types b has = grows_not types b has
    all_typed (suc n) [] types b has = grows_not types b has
    all_typed (suc n) (x ∷ xs) types b has =
        let one = shared_typed x types b has in
        grows_twice types b (with_shared u x b) (with_all u n (brought u x b ++ xs) (with_shared u x b)) one (all_typed n (brought u x b ++ xs) (types ++ one.more) (with_shared u x b) one.bases)

    -- what is there has a base then
    pub object_known : (n : ℕ) (types : List Ty) (b : TableView) → HasTypes u types b → (o : StaticView) → slice_get u.objects n ≡ Some o → (k : ℕ) × (known (with_object u n b).objects n ≡ Some k)
    object_known n types b has o is = by (known b.objects n) refl
      where
        make : (found : Option StaticView) → found ≡ Some o → (k : ℕ) × (known (object_made u n b found).objects n ≡ Some k)
        make None e = absurd (cc)
        make (Some p) e = (length b.bases, set_here b.objects n (length b.bases) (subst (λ k. n < k) (sym has.all_objects) (within u.objects n o is)))

        by : (found : Option ℕ) → known b.objects n ≡ found → (k : ℕ) × (known (object_or u n b found).objects n ≡ Some k)
        by (Some k) there = (k, there)
        by None there = make (slice_get u.objects n) is

    pub literal_known : (n : ℕ) (types : List Ty) (b : TableView) → HasTypes u types b → (l : LiteralView) → slice_get u.literals n ≡ Some l → (k : ℕ) × (known (with_literal u n b).literals n ≡ Some k)
    literal_known n types b has l is = by (known b.literals n) refl
      where
        make : (found : Option LiteralView) → found ≡ Some l → (k : ℕ) × (known (literal_made u n b found).literals n ≡ Some k)
        make None e = absurd (cc)
        make (Some p) e = (length b.bases, set_here b.literals n (length b.bases) (subst (λ k. n < k) (sym has.all_literals) (within u.literals n l is)))

        by : (found : Option ℕ) → known b.literals n ≡ found → (k : ℕ) × (known (literal_or u n b found).literals n ≡ Some k)
        by (Some k) there = (k, there)
        by None there = make (slice_get u.literals n) is
