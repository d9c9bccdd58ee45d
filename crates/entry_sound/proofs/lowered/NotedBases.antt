-- Each naming of a base keeps the bases that were there, and that objects and literals have bases of their own.
use Rattle.std.proofs.Common.{◌≡◌, ℕ, zero, suc, ◌-◌, ◌<◌, ◌^◌, List, [], ◌∷◌, ◌++◌, length, Option, Some, None, slice_get, arith, subst, sym, refl, ap, ◌∙◌, ◌⊎◌, inl, inr}
use Rattle.std.specs.Prelude.{set}
use Rattle.std.proofs.lemmas.Bool.{cases_eq, cases_lt}
use Rattle.std.proofs.lemmas.List.{length-set}
use Rattle.std.proofs.lemmas.Option.{same_Some, slice_get_within, slice_get_past}
use Rattle.c_layout.specs.Types.{Ty}
use Rattle.c_layout.specs.Layout.{size_of_type}
use Rattle.c_layout.specs.CheckedUnits.{FunctionView, StaticView, LiteralView, UnitView}
use Rattle.c_layout.specs.declared.checked_tree.checked_units.StaticBase.{StaticBase}
use Rattle.c_layout.specs.declared.checked_tree.checked_units.StaticBase.TheVariants as shared
use Rattle.c_layout.specs.declared.shapes.BaseInfo.{BaseInfo}
use Rattle.c_layout.specs.declared.shapes.BaseKind.{BaseKind}
use Rattle.c_layout.specs.declared.shapes.BaseKind.TheVariants as kind
use Rattle.c_layout.specs.declared.shapes.Shape.{Shape}
use Rattle.lower_objects.specs.Shapes.FirstZeros.{object_shape}
use Rattle.lower_objects.specs.Shapes.HeapBases.{heap_shape}
use Rattle.lower_objects.specs.Counts.SharedObjects.{literal_type}
use Rattle.lower_templates.specs.Worklist.Pieces.{NameView, Local, Outcome, Static, Literal, Allocation}
use Rattle.lower_tables.specs.Bases.BaseTables.{TableView, found_in, known, info, added, object_added, object_noted, literal_noted, local_or, literal_made, literal_or, object_made, object_or, with_shared, brought, with_all, base}
use Rattle.store_sound.proofs.operations.Slices.{get_left, get_right, get_set_same, get_set_other}
use Rattle.entry_sound.specs.Tables.UnitStarts.{IsBaseOf, AreShared}

pub none_some : {A : Type 0} (x : A) → None ≡ Some x → ⊥
none_some x e = cc

-- the first bases stay
pub record BeginsWith (front bases : List BaseInfo) : Type 0 where
  pub rest : List BaseInfo
  pub is : bases ≡ front ++ rest

pub record IsNoted (u : UnitView) (bases : List BaseInfo) (kind : BaseKind) (found : Option Ty) (b : ℕ) : Type 0 where
  pub ctype : Ty
  pub is : found ≡ Some ctype
  pub base : IsBaseOf u bases kind ctype b

abbrev pub object_type : Option StaticView → Option Ty
object_type None = None
object_type (Some o) = Some o.ctype

abbrev pub text_type : UnitView → Option LiteralView → Option Ty
text_type u None = None
text_type u (Some l) = Some (literal_type u.model.char_signed (length l.bytes))

pub record AreNoted (u : UnitView) (front : List BaseInfo) (b : TableView) : Type 0 where
  pub begins : BeginsWith front b.bases
  pub objects : (k n : ℕ) → known b.objects k ≡ Some n → IsNoted u b.bases kind.Static (object_type (slice_get u.objects k)) n
  pub literals : (k n : ℕ) → known b.literals k ≡ Some n → IsNoted u b.bases kind.Literal (text_type u (slice_get u.literals k)) n
  pub own_objects : (j k n : ℕ) → known b.objects j ≡ Some n → known b.objects k ≡ Some n → j ≡ k
  pub own_literals : (j k n : ℕ) → known b.literals j ≡ Some n → known b.literals k ≡ Some n → j ≡ k

append_assoc_one : (xs ys : List BaseInfo) (z : BaseInfo) → (xs ++ ys) ++ z ∷ [] ≡ xs ++ (ys ++ z ∷ [])
append_assoc_one [] ys z = refl
append_assoc_one (x ∷ xs) ys z = ap (λ w. x ∷ w) (append_assoc_one xs ys z)

pub base_stays : (u : UnitView) (bases : List BaseInfo) (what : BaseKind) (t : Ty) (n : ℕ) (x : BaseInfo) → IsBaseOf u bases what t n → IsBaseOf u (bases ++ x ∷ []) what t n
base_stays u bases what t n x h = record {
  info = h.info;
  among = get_left bases (x ∷ []) n (slice_get_within bases n h.info h.among) ∙ h.among;
  kinds = h.kinds;
  sizes = h.sizes;
  shapes = h.shapes;
}

pub base_new : (u : UnitView) (bases : List BaseInfo) (what : BaseKind) (t : Ty) (first : ℕ) → IsBaseOf u (bases ++ info what (size_of_type u.structs u.model.pointer t) first (object_shape u.structs u.model.pointer t) ∷ []) what t (length bases)
base_new u bases what t first = record {
  info = info what (size_of_type u.structs u.model.pointer t) first (object_shape u.structs u.model.pointer t);
  among = get_right bases (info what (size_of_type u.structs u.model.pointer t) first (object_shape u.structs u.model.pointer t) ∷ []) (length bases) 0 (omega arith);
  kinds = refl;
  sizes = refl;
  shapes = refl;
}

-- what was noted, or is noted now
known_set : (list : List (Option ℕ)) (n m k b : ℕ) → known (set list n (Some m)) k ≡ Some b → (known list k ≡ Some b) ⊎ ((k ≡ n) × (m ≡ b))
known_set list n m k b e = elim (cases_eq k n) [
  | inr ne ↦ inl (sym (ap found_in (get_set_other list n k (Some m) ne)) ∙ e)
  | inl same ↦ elim (cases_lt n (length list)) [
    | inl within ↦ (
        let there : known (set list n (Some m)) n ≡ Some m = ap found_in (get_set_same list n (Some m) within) in
        inr (same, same_Some m b (sym there ∙ (sym (ap (known (set list n (Some m))) same) ∙ e))))
    | inr past ↦ absurd (none_some b (sym (ap found_in (slice_get_past (set list n (Some m)) n (let l = length-set list n (Some m) in omega (arith, past, l)))) ∙ (sym (ap (known (set list n (Some m))) same) ∙ e)))
  ]
]

module _ (u : UnitView) (front : List BaseInfo) where
  noted_stays : (bases : List BaseInfo) (x : BaseInfo) (what : BaseKind) (found : Option Ty) (n : ℕ) → IsNoted u bases what found n → IsNoted u (bases ++ x ∷ []) what found n
  noted_stays bases x what found n h = record { ctype = h.ctype; is = h.is; base = base_stays u bases what h.ctype n x h.base }

  begins_stays : (bases : List BaseInfo) (x : BaseInfo) → BeginsWith front bases → BeginsWith front (bases ++ x ∷ [])
  begins_stays bases x h = record { rest = h.rest ++ x ∷ []; is = ap (λ z. z ++ x ∷ []) h.is ∙ append_assoc_one front h.rest x }

  pub added_noted : (what : BaseKind) (size : ℕ) (s : Shape) (b : TableView) → AreNoted u front b → AreNoted u front (added what size s b)
  added_noted what size s b a = record {
    begins = begins_stays b.bases (info what size b.width s) a.begins;
    objects = λ k n e. noted_stays b.bases (info what size b.width s) kind.Static (object_type (slice_get u.objects k)) n (a.objects k n e);
    literals = λ k n e. noted_stays b.bases (info what size b.width s) kind.Literal (text_type u (slice_get u.literals k)) n (a.literals k n e);
    own_objects = a.own_objects;
    own_literals = a.own_literals;
  }

  within_bases : (bases : List BaseInfo) (what : BaseKind) (found : Option Ty) (n : ℕ) → IsNoted u bases what found n → n < length bases
  within_bases bases what found n h = slice_get_within bases n h.base.info h.base.among

  -- an object gets the base that is new
  object_noted_new : (n : ℕ) (b : TableView) (o : StaticView) → slice_get u.objects n ≡ Some o → AreNoted u front b → AreNoted u front (object_noted n (length b.bases) (object_added u kind.Static o.ctype b))
  object_noted_new n b o at a = record {
    begins = more.begins;
    objects = λ k m e. by_note k m (known_set b.objects n (length b.bases) k m e);
    literals = more.literals;
    own_objects = λ j k m e f. by_notes j k m (known_set b.objects n (length b.bases) j m e) (known_set b.objects n (length b.bases) k m f);
    own_literals = more.own_literals;
  }
    where
      more : AreNoted u front (object_added u kind.Static o.ctype b)
      more = added_noted kind.Static (size_of_type u.structs u.model.pointer o.ctype) (object_shape u.structs u.model.pointer o.ctype) b a

      by_note : (k m : ℕ) → (known b.objects k ≡ Some m) ⊎ ((k ≡ n) × (length b.bases ≡ m)) → IsNoted u (object_added u kind.Static o.ctype b).bases kind.Static (object_type (slice_get u.objects k)) m
      by_note k m (inl old) = more.objects k m old
      by_note k m (inr new) = record {
        ctype = o.ctype;
        is = ap object_type (ap (slice_get u.objects) new.0 ∙ at);
        base = subst (IsBaseOf u (object_added u kind.Static o.ctype b).bases kind.Static o.ctype) new.1 (base_new u b.bases kind.Static o.ctype b.width);
      }

      old_small : (k m : ℕ) → known b.objects k ≡ Some m → length b.bases ≡ m → ⊥
      old_small k m old is = let w = within_bases b.bases kind.Static (object_type (slice_get u.objects k)) m (a.objects k m old) in omega (arith, w, is)

      by_notes : (j k m : ℕ) → (known b.objects j ≡ Some m) ⊎ ((j ≡ n) × (length b.bases ≡ m)) → (known b.objects k ≡ Some m) ⊎ ((k ≡ n) × (length b.bases ≡ m)) → j ≡ k
      by_notes j k m (inl x) (inl y) = a.own_objects j k m x y
      by_notes j k m (inl x) (inr y) = absurd (old_small j m x y.1)
      by_notes j k m (inr x) (inl y) = absurd (old_small k m y x.1)
      by_notes j k m (inr x) (inr y) = x.0 ∙ sym y.0

  literal_noted_new : (n : ℕ) (b : TableView) (l : LiteralView) → slice_get u.literals n ≡ Some l → AreNoted u front b → AreNoted u front (literal_noted n (length b.bases) (object_added u kind.Literal (literal_type u.model.char_signed (length l.bytes)) b))
  literal_noted_new n b l at a = record {
    begins = more.begins;
    objects = more.objects;
    literals = λ k m e. by_note k m (known_set b.literals n (length b.bases) k m e);
    own_objects = more.own_objects;
    own_literals = λ j k m e f. by_notes j k m (known_set b.literals n (length b.bases) j m e) (known_set b.literals n (length b.bases) k m f);
  }
    where
      ctype : Ty
      ctype = literal_type u.model.char_signed (length l.bytes)

      more : AreNoted u front (object_added u kind.Literal (literal_type u.model.char_signed (length l.bytes)) b)
      more = added_noted kind.Literal (size_of_type u.structs u.model.pointer (literal_type u.model.char_signed (length l.bytes))) (object_shape u.structs u.model.pointer (literal_type u.model.char_signed (length l.bytes))) b a

      by_note : (k m : ℕ) → (known b.literals k ≡ Some m) ⊎ ((k ≡ n) × (length b.bases ≡ m)) → IsNoted u (object_added u kind.Literal (literal_type u.model.char_signed (length l.bytes)) b).bases kind.Literal (text_type u (slice_get u.literals k)) m
      by_note k m (inl old) = more.literals k m old
      by_note k m (inr new) = record {
        ctype = literal_type u.model.char_signed (length l.bytes);
        is = ap (text_type u) (ap (slice_get u.literals) new.0 ∙ at);
        base = subst (IsBaseOf u (object_added u kind.Literal (literal_type u.model.char_signed (length l.bytes)) b).bases kind.Literal (literal_type u.model.char_signed (length l.bytes))) new.1 (base_new u b.bases kind.Literal (literal_type u.model.char_signed (length l.bytes)) b.width);
      }

      old_small : (k m : ℕ) → known b.literals k ≡ Some m → length b.bases ≡ m → ⊥
      old_small k m old is = let w = within_bases b.bases kind.Literal (text_type u (slice_get u.literals k)) m (a.literals k m old) in omega (arith, w, is)

      by_notes : (j k m : ℕ) → (known b.literals j ≡ Some m) ⊎ ((j ≡ n) × (length b.bases ≡ m)) → (known b.literals k ≡ Some m) ⊎ ((k ≡ n) × (length b.bases ≡ m)) → j ≡ k
      by_notes j k m (inl x) (inl y) = a.own_literals j k m x y
      by_notes j k m (inl x) (inr y) = absurd (old_small j m x y.1)
      by_notes j k m (inr x) (inl y) = absurd (old_small k m y x.1)
      by_notes j k m (inr x) (inr y) = x.0 ∙ sym y.0

  -- ---- each naming

  local_noted : (f : FunctionView) (slot : ℕ) (locals : List (Option ℕ)) (b : TableView) (o : Option (Option ℕ)) → AreNoted u front b → AreNoted u front (local_or u f slot locals b o).after
  local_noted f slot locals b None a = a
  local_noted f slot locals b (Some (Some n)) a = a
  local_noted f slot locals b (Some None) a = added_noted _ _ _ b a

  literal_made_noted : (n : ℕ) (b : TableView) (l : Option LiteralView) → slice_get u.literals n ≡ l → AreNoted u front b → AreNoted u front (literal_made u n b l)
  literal_made_noted n b None at a = a
  literal_made_noted n b (Some l) at a = literal_noted_new n b l at a

  literal_kept : (n : ℕ) (b : TableView) (o : Option ℕ) → AreNoted u front b → AreNoted u front (literal_or u n b o)
  literal_kept n b (Some k) a = a
  literal_kept n b None a = literal_made_noted n b (slice_get u.literals n) refl a

  object_made_noted : (n : ℕ) (b : TableView) (o : Option StaticView) → slice_get u.objects n ≡ o → AreNoted u front b → AreNoted u front (object_made u n b o)
  object_made_noted n b None at a = a
  object_made_noted n b (Some o) at a = object_noted_new n b o at a

  object_kept : (n : ℕ) (b : TableView) (o : Option ℕ) → AreNoted u front b → AreNoted u front (object_or u n b o)
  object_kept n b (Some k) a = a
  object_kept n b None a = object_made_noted n b (slice_get u.objects n) refl a

  shared_noted : (x : StaticBase) (b : TableView) → AreNoted u front b → AreNoted u front (with_shared u x b)
  shared_noted (shared.Object n) b a = object_kept n b (known b.objects n) a
  shared_noted (shared.Literal n) b a = literal_kept n b (known b.literals n) a

  all_noted : (n : ℕ) (stack : List StaticBase) (b : TableView) → AreNoted u front b → AreNoted u front (with_all u n stack b)
  all_noted zero stack b a = a
  all_noted (suc n) [] b a = a
  all_noted (suc n) (x ∷ xs) b a = all_noted n (brought u x b ++ xs) (with_shared u x b) (shared_noted x b a)

  pub named_noted : (f : FunctionView) (n : NameView) (locals : List (Option ℕ)) (b : TableView) → AreNoted u front b → AreNoted u front (base u f n locals b).after
  named_noted f (Local n) locals b a = local_noted f n locals b (slice_get locals n) a
  named_noted f Outcome locals b a = local_noted f (length f.locals) locals b (slice_get locals (length f.locals)) a
  named_noted f (Static n) locals b a = all_noted (2 ^ 64 - 1) (shared.Object n ∷ []) b a
  named_noted f (Literal n) locals b a = all_noted (2 ^ 64 - 1) (shared.Literal n ∷ []) b a
  named_noted f (Allocation target) locals b a =
      let shape = heap_shape u.structs u.model.pointer target in
      added_noted kind.Older 0 shape (added kind.Newest 0 shape b) (added_noted kind.Newest 0 shape b a)

  -- the bases that objects and literals have in the end
  pub noted_shared : (b : TableView) → AreNoted u front b → AreShared u b.bases b
  noted_shared b a = record {
    objects = λ k n o at e. let h = a.objects k n e in subst (λ t. IsBaseOf u b.bases kind.Static t n) (sym (same_Some o.ctype h.ctype (sym (ap object_type at) ∙ h.is))) h.base;
    literals = λ k n l at e. let h = a.literals k n e in subst (λ t. IsBaseOf u b.bases kind.Literal t n) (sym (same_Some (literal_type u.model.char_signed (length l.bytes)) h.ctype (sym (ap (text_type u) at) ∙ h.is))) h.base;
    own_objects = a.own_objects;
    own_literals = a.own_literals;
  }
