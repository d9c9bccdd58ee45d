-- A name of a template is given a base of its type.
use Rattle.std.proofs.Common.{◌≡◌, ◌<◌, ◌⊎◌, inl, inr, ℕ, zero, suc, ◌+◌, ◌-◌, ◌^◌, List, [], ◌∷◌, ◌++◌, length, Option, Some, None, refl, arith, ap, sym, subst, ◌∙◌}
use Rattle.std.specs.List.{slice_get, slice_set}
use Rattle.std.proofs.lemmas.List.{append-nil}
use Rattle.c_layout.specs.CheckedUnits.{FunctionView, LocalView, StaticView, LiteralView, UnitView}
use Rattle.c_layout.specs.Types.{Ty}
use Rattle.c_layout.specs.declared.checked_tree.checked_units.StaticBase.{StaticBase}
use Rattle.c_layout.specs.declared.checked_tree.checked_units.StaticBase.TheVariants as shared
use Rattle.c_layout.specs.declared.shapes.BaseKind.TheVariants as kind
use Rattle.lower_tables.specs.Bases.BaseTables.{TableView, known, found_in, number_of, local_or, local, with_object, with_literal, with_shared, brought, with_all, with_pointed, object_named, literal_named}
use Rattle.lower_functions.specs.Functions.Functions.{type_or, local_type}
use Rattle.lower_templates.specs.Worklist.Pieces.{NameView, Local, Outcome, Static, Literal, Allocation}
use Rattle.lower_preconditions.specs.Units.RegularStatements as regular
use Rattle.typed_lowering.specs.Conversions.TypedTerms as typed
use Rattle.typed_lowering.specs.Conversions.TypedBases.{HasTypes, HasLocalTypes, HasOwnTypes, HasOwnLocals, IsNamedIn, NamesAreTyped}
use Rattle.typed_lowering.specs.Conversions.TypedPieces.{name_type}
use Rattle.simulation_layout.proofs.inlining.ListPlaces.{some_same, within, left_of, set_cases, set_length}
use Rattle.typed_lowering.proofs.bases.TypedTables.{IsOneOf, typed_more, base_more, Grows, shared_typed, all_typed, object_known, literal_known}

missing : {A : Type 0} (xs : List A) (n : ℕ) → n < length xs → slice_get xs n ≡ None → ⊥
missing [] n less is = omega (arith, less)
missing (x ∷ xs) zero less is = cc
missing (x ∷ xs) (suc n) less is = missing xs n (omega (arith, less)) is

-- nothing stands behind the end
past_end : {A : Type 0} (xs : List A) → slice_get xs (length xs) ≡ None
past_end [] = refl
past_end (x ∷ xs) = past_end xs

one_behind : (n : ℕ) → n < n + 1
one_behind n = omega arith

further : (n k : ℕ) → n < k → n < k + 1
further n k less = omega (arith, less)

module _ (u : UnitView) (own : HasOwnTypes u) (f : FunctionView) (own_locals : HasOwnLocals u f) where
  locals_on : (types more : List Ty) (locals : List (Option ℕ)) → HasLocalTypes f types locals → HasLocalTypes f (types ++ more) locals
  locals_on types more locals have slot n is = left_of types more n (local_type f slot) (have slot n is)

  -- ---- objects of a function

  -- a slot that there is has the name's type
  abbrev IsSlotOf : NameView → ℕ → Type 0
  IsSlotOf name slot = (t : Ty) → name_type u f name ≡ Some t → (slot < length f.locals + 1) × (local_type f slot ≡ t)

  slot_of_local : (n : ℕ) → IsSlotOf (Local n) n
  slot_of_local n t is = by (slice_get f.locals n) refl is
    where
      by : (o : Option LocalView) → slice_get f.locals n ≡ o → regular.local_type o ≡ Some t → (n < length f.locals + 1) × (type_or o f.returns ≡ t)
      by None there is = absurd (cc)
      by (Some l) there is = (further n (length f.locals) (within f.locals n l there), some_same l.ctype t is)

  slot_of_outcome : IsSlotOf Outcome (length f.locals)
  slot_of_outcome t is = (one_behind (length f.locals), ap (λ o. type_or o f.returns) (past_end f.locals) ∙ some_same f.returns t is)

  local_new : (slot : ℕ) (types : List Ty) (locals : List (Option ℕ)) (b : TableView) → HasTypes u types b → HasLocalTypes f types locals → HasLocalTypes f (types ++ local_type f slot ∷ []) (slice_set locals slot (Some (length b.bases)))
  local_new slot types locals b has have m k is = typed_more types (local_type f slot) k (local_type f m) (one (set_cases locals slot (length b.bases) m k is))
    where
      one : ((m ≡ slot) × (k ≡ length b.bases)) ⊎ (known locals m ≡ Some k) → IsOneOf types (local_type f slot) k (local_type f m)
      one (inl p) = inr (p.1 ∙ sym has.numbered, ap (local_type f) (sym p.0))
      one (inr old) = inl (have m k old)

  unchanged : (name : NameView) (types : List Ty) (locals : List (Option ℕ)) (b : TableView) (number : ℕ) → HasTypes u types b → HasLocalTypes f types locals → length locals ≡ length f.locals + 1 → ((t : Ty) → name_type u f name ≡ Some t → slice_get types number ≡ Some t)
      → IsNamedIn u f name types (record { number = number; after = b; locals = locals })
  unchanged name types locals b number has have there is = record {
    more = [];
    bases = subst (λ ts. HasTypes u ts b) (sym (append-nil types)) has;
    locals = locals_on types [] locals have;
    there = there;
    is = λ t e. left_of types [] number t (is t e);
  }

  local_named : (name : NameView) (slot : ℕ) → IsSlotOf name slot → (types : List Ty) (locals : List (Option ℕ)) (b : TableView) → HasTypes u types b → HasLocalTypes f types locals → length locals ≡ length f.locals + 1 → IsNamedIn u f name types (local u f slot locals b)
  local_named name slot slot_of types locals b has have there = by (slice_get locals slot) refl
    where
      in_range : slot < length f.locals + 1 → slot < length locals
      in_range less = subst (λ k. slot < k) (sym there) less

      by : (o : Option (Option ℕ)) → slice_get locals slot ≡ o → IsNamedIn u f name types (local_or u f slot locals b o)
      by None is = unchanged name types locals b 0 has have there (λ t e. absurd (missing locals slot (in_range (slot_of t e).0) is))
      by (Some (Some n)) is = unchanged name types locals b n has have there (λ t e. have slot n (ap found_in is) ∙ ap Some (slot_of t e).1)
      by (Some None) is = record {
        more = local_type f slot ∷ [];
        bases = base_more u types (local_type f slot) _ b has (record { size = refl; shape = refl; own = own_locals slot }) _ b.objects b.literals has.all_objects has.all_literals (λ i n o at found. inl (has.objects i n o at found)) (λ i n l at found. inl (has.literals i n l at found));
        locals = local_new slot types locals b has have;
        there = set_length locals slot (Some (length b.bases)) ∙ there;
        is = λ t e. typed_more types (local_type f slot) (length b.bases) t (inr (sym has.numbered, (slot_of t e).1));
      }

  -- ---- objects of static storage and literals

  -- the first turn gives a base to what is named
  first_turn : (n : ℕ) → 0 < n → (x : StaticBase) (types : List Ty) (b : TableView) (has : HasTypes u types b) → Grows u (types ++ (shared_typed u own x types b has).more) (with_shared u x b) (with_all u n (x ∷ []) b)
  first_turn zero less x types b has = absurd (omega (arith, less))
  first_turn (suc n) less x types b has = let one = shared_typed u own x types b has in all_typed u own n (brought u x b ++ []) (types ++ one.more) (with_shared u x b) one.bases

  pointed : (x : StaticBase) (name : NameView) (number : ℕ) (types : List Ty) (locals : List (Option ℕ)) (b : TableView) (grown : Grows u types b (with_pointed u x b)) → HasLocalTypes f types locals → length locals ≡ length f.locals + 1 → ((t : Ty) → name_type u f name ≡ Some t → slice_get (types ++ grown.more) number ≡ Some t)
      → IsNamedIn u f name types (record { number = number; after = with_pointed u x b; locals = locals })
  pointed x name number types locals b grown have there is = record { more = grown.more; bases = grown.bases; locals = locals_on types grown.more locals have; there = there; is = is }

  static_named : (n : ℕ) (types : List Ty) (locals : List (Option ℕ)) (b : TableView) → HasTypes u types b → HasLocalTypes f types locals → length locals ≡ length f.locals + 1 → IsNamedIn u f (Static n) types (object_named n locals (with_pointed u (shared.Object n) b))
  static_named n types locals b has have there = pointed (shared.Object n) (Static n) (number_of (known after.objects n)) types locals b grown have there (λ t e. by t (slice_get u.objects n) refl e)
    where
      after : TableView
      after = with_pointed u (shared.Object n) b

      grown : Grows u types b after
      grown = all_typed u own (2 ^ 64 - 1) (shared.Object n ∷ []) types b has

      found : (o : StaticView) → slice_get u.objects n ≡ Some o → (k : ℕ) × (known (with_object u n b).objects n ≡ Some k) → slice_get (types ++ grown.more) (number_of (known after.objects n)) ≡ Some o.ctype
      found o is (k, stands) =
          let now = (first_turn (2 ^ 64 - 1) (omega arith) (shared.Object n) types b has).objects n k stands in
          ap (λ z. slice_get (types ++ grown.more) (number_of z)) now ∙ grown.bases.objects n k o now is

      by : (t : Ty) (o : Option StaticView) → slice_get u.objects n ≡ o → regular.static_type o ≡ Some t → slice_get (types ++ grown.more) (number_of (known after.objects n)) ≡ Some t
      by t None is e = absurd (cc)
      by t (Some o) is e = found o is (object_known u own n types b has o is) ∙ e

  literal_is_named : (n : ℕ) (types : List Ty) (locals : List (Option ℕ)) (b : TableView) → HasTypes u types b → HasLocalTypes f types locals → length locals ≡ length f.locals + 1 → IsNamedIn u f (Literal n) types (literal_named n locals (with_pointed u (shared.Literal n) b))
  literal_is_named n types locals b has have there = pointed (shared.Literal n) (Literal n) (number_of (known after.literals n)) types locals b grown have there (λ t e. by t (slice_get u.literals n) refl e)
    where
      after : TableView
      after = with_pointed u (shared.Literal n) b

      grown : Grows u types b after
      grown = all_typed u own (2 ^ 64 - 1) (shared.Literal n ∷ []) types b has

      found : (l : LiteralView) (t : Ty) → typed.literal_or u (Some l) ≡ Some t → slice_get u.literals n ≡ Some l → (k : ℕ) × (known (with_literal u n b).literals n ≡ Some k) → slice_get (types ++ grown.more) (number_of (known after.literals n)) ≡ Some t
      found l t e is (k, stands) =
          let now = (first_turn (2 ^ 64 - 1) (omega arith) (shared.Literal n) types b has).literals n k stands in
          ap (λ z. slice_get (types ++ grown.more) (number_of z)) now ∙ grown.bases.literals n k l now is ∙ e

      by : (t : Ty) (o : Option LiteralView) → slice_get u.literals n ≡ o → typed.literal_or u o ≡ Some t → slice_get (types ++ grown.more) (number_of (known after.literals n)) ≡ Some t
      by t None is e = absurd (cc)
      by t (Some l) is e = found l t e is (literal_known u own n types b has l is)

pub names_typed : NamesAreTyped
names_typed u own f own_locals (Local n) is types locals b has have there = local_named u own f own_locals (Local n) n (slot_of_local u own f own_locals n) types locals b has have there
names_typed u own f own_locals Outcome is types locals b has have there = local_named u own f own_locals Outcome (length f.locals) (slot_of_outcome u own f own_locals) types locals b has have there
names_typed u own f own_locals (Static n) is types locals b has have there = static_named u own f own_locals n types locals b has have there
names_typed u own f own_locals (Literal n) is types locals b has have there = literal_is_named u own f own_locals n types locals b has have there
names_typed u own f own_locals (Allocation target) is types locals b has have there = absurd (cc)
