-- A state before a function's name is declared is part of the units that come of the state behind its type.
use Rattle.std.proofs.Common.{◌≡◌, ◌<◌, ◌≤◌, ℕ, zero, suc, Bool, true, false, List, [], ◌∷◌, ◌++◌, Option, Some, None, slice_get, length, refl, arith, ap, sym, ◌∙◌, inl, inr}
use Rattle.std.specs.Prelude.{◌⊎◌, cond, is_some, nat_le, slice_set}
use Rattle.std.proofs.lemmas.Bool.{cases_eq, leb-true, le-leb}
use Rattle.std.proofs.lemmas.Option.{slice_get_within}
use Rattle.c_layout.specs.Types.{Ty, same_type}
use Rattle.c_layout.specs.CheckedUnits.{UnitView}
use Rattle.c_types_scopes.specs.DeclaredTypes.{DeclaredView, SignatureView, same_types, is_same_signature}
use Rattle.c_types_scopes.specs.States.{State}
use Rattle.c_types_declarations.specs.FunctionHeads.{HeadView}
use Rattle.c_types_statement_rules.specs.Objects.Changes.{changed, changed_at}
use Rattle.c_types.specs.FileScope.FunctionDeclarations as functions
use Rattle.c_types_rules.proofs.SameTypes.{type_is}
use Rattle.c_types_theorems.proofs.units.Kept.{front_stays, set_other}
use Rattle.c_types_well_formed.specs.WellFormed.UnitParts.{IsHeadOf, IsThere}
use Rattle.c_types_well_formed.proofs.initializers.Going.{IsPassed}
use Rattle.c_types_well_formed_units.proofs.units.HeadSteps.{IsSameFile}

-- ---- lists

set_here : {A : Type 0} (xs : List A) (n : ℕ) (v : A) → n < length xs → slice_get (slice_set xs n v) n ≡ Some v
set_here [] n v h = absurd (omega (arith, h))
set_here (x ∷ xs) zero v h = refl
set_here (x ∷ xs) (suc n) v h = set_here xs n v (omega (arith, h))

other_at : {A : Type 0} (f : A → A) (k i : ℕ) (xs : List A) (o : Option A) → (i ≡ k → ⊥) → slice_get (changed_at f k xs o) i ≡ slice_get xs i
other_at f k i xs None apart = refl
other_at f k i xs (Some x) apart = set_other xs k i (f x) apart

-- an item that is not changed
pub changed_other : {A : Type 0} (f : A → A) (k i : ℕ) (xs : List A) → (i ≡ k → ⊥) → slice_get (changed f k xs) i ≡ slice_get xs i
changed_other f k i xs apart = other_at f k i xs (slice_get xs k) apart

here_at : {A : Type 0} (f : A → A) (k : ℕ) (xs : List A) (x : A) (o : Option A) → slice_get xs k ≡ o → o ≡ Some x → slice_get (changed_at f k xs o) k ≡ Some (f x)
here_at f k xs x None is at = absurd (none at)
  where
    none : None ≡ Some x → ⊥
    none e = cc
here_at f k xs x (Some y) is at = set_here xs k (f y) (slice_get_within xs k y is) ∙ ap (λ z. Some (f z)) (same at)
  where
    same : Some y ≡ Some x → y ≡ x
    same e = cc

-- the item that is
pub changed_here : {A : Type 0} (f : A → A) (k : ℕ) (xs : List A) (x : A) → slice_get xs k ≡ Some x → slice_get (changed f k xs) k ≡ Some (f x)
changed_here f k xs x at = here_at f k xs x (slice_get xs k) refl at

-- ---- states

literals_stay : (s t : State) (u : UnitView) → length s.literals ≤ length t.literals → nat_le (length t.literals) (length u.literals) ≡ true → nat_le (length s.literals) (length u.literals) ≡ true
literals_stay s t u h g = (let a = leb-true (length t.literals) (length u.literals) g in le-leb (length s.literals) (length u.literals) (omega (arith, a, h)))

-- the type of a function that had none yet, behind all others
pub given_passes : (s t : State) (new : SignatureView) (d : DeclaredView) (ts : List Ty) → IsSameFile (record s { functions = s.functions ++ new ∷ [] }) t → IsPassed s (functions.with_given (length s.functions) d ts t)
given_passes s t new d ts file u p = record {
  model = p.model ∙ file.model;
  objects = λ i o n is. p.objects i o n (ap (λ xs. slice_get xs i) file.objects ∙ is);
  literals = literals_stay s t u file.literals p.literals;
  functions = λ i f n is numbered.
      let near = slice_get_within s.functions i f is in
      let apart : i ≡ length s.functions → ⊥ = λ e. omega (arith, near, e) in
      p.functions i f n (changed_other (functions.given_signature d ts) (length s.functions) i t.functions apart ∙ (ap (λ xs. slice_get xs i) file.functions ∙ front_stays s.functions (new ∷ []) i f is)) numbered;
}

-- the type of a function that was declared before, which is the same
head_stays : (u : UnitView) (f : SignatureView) (d : DeclaredView) (n : ℕ) → d.ctype ≡ f.result.ctype → IsThere u (functions.resulting_signature d f) n → IsThere u f n
head_stays u f d n same h = record { function = h.function; found = h.found; head = record { returns = h.head.returns ∙ same; counted = h.head.counted; parameters = h.head.parameters } }

and_first : (a b : Bool) → cond a b false ≡ true → a ≡ true
and_first true b h = refl
and_first false b h = absurd (let d : ⊥ = cc in d)

same_result : (h : HeadView) (o : Option SignatureView) (f : SignatureView) → o ≡ Some f → functions.same_as h o ≡ true → h.declared.ctype ≡ f.result.ctype
same_result h None f is same = absurd (let d : ⊥ = cc in d)
same_result h (Some g) f is same = sym (type_is g.result.ctype h.declared.ctype (and_first (same_type g.result.ctype h.declared.ctype) (same_types g.parameters h.parameters) same)) ∙ ap (λ x. x.result.ctype) (some_is is)
  where
    some_is : Some g ≡ Some f → g ≡ f
    some_is e = cc

pub result_passes : (s t : State) (k : ℕ) (h : HeadView) → IsSameFile s t → functions.has_signature t k h ≡ true → IsPassed s (functions.with_result k h.declared t)
result_passes s t k h file same u p = record {
  model = p.model ∙ file.model;
  objects = λ i o n is. p.objects i o n (ap (λ xs. slice_get xs i) file.objects ∙ is);
  literals = literals_stay s t u file.literals p.literals;
  functions = λ i f n is numbered.
      let at : slice_get t.functions i ≡ Some f = ap (λ xs. slice_get xs i) file.functions ∙ is in
      elim (cases_eq i k) [
        | inl e ↦ (
            let here : slice_get t.functions k ≡ Some f = ap (slice_get t.functions) (sym e) ∙ at in
            head_stays u f h.declared n (same_result h (slice_get t.functions k) f here same) (p.functions k (functions.resulting_signature h.declared f) n (changed_here (functions.resulting_signature h.declared) k t.functions f here) numbered))
        | inr apart ↦ p.functions i f n (changed_other (functions.resulting_signature h.declared) k i t.functions apart ∙ at) numbered
      ];
}

-- a function whose definition was met
pub met_passes : (t : State) (k : ℕ) → IsPassed t (functions.with_defined t k)
met_passes t k u p = record {
  model = p.model;
  objects = p.objects;
  literals = p.literals;
  functions = λ i f n is numbered.
      elim (cases_eq i k) [
        | inl e ↦ (
            let here : slice_get t.functions k ≡ Some f = ap (slice_get t.functions) (sym e) ∙ is in
            let x : IsThere u (functions.defined_signature f) n = p.functions k (functions.defined_signature f) n (changed_here functions.defined_signature k t.functions f here) numbered in
            record { function = x.function; found = x.found; head = record { returns = x.head.returns; counted = x.head.counted; parameters = x.head.parameters } })
        | inr apart ↦ p.functions i f n (changed_other functions.defined_signature k i t.functions apart ∙ is) numbered
      ];
}
