-- Steps of typing that keep layouts, one after another.
use Rattle.std.proofs.Common.{◌≡◌, ℕ, [], ◌∷◌, Option, Some, None, Ok, Err, slice_get, refl, ap, subst, sym, ◌∙◌, inl, inr}
use Rattle.std.specs.Prelude.{◌⊎◌, ◌&&◌, ◌||◌, ◌==◌, Bool, true, false, cond}
use Rattle.std.proofs.lemmas.Bool.{cases_eq, and_parts, eqb-true}
use Rattle.c_layout.specs.Models.{is_model, short_fits, int_fits, long_fits, long_long_fits, pointer_fits}
use Rattle.c_layout.specs.StructViews.{FieldView, StructView, no_struct}
use Rattle.c_layout.specs.declared.data_model.Model.{Model}
use Rattle.c_types_scopes.specs.Answers.{after, kept}
use Rattle.c_types_scopes.specs.Known.{Known}
use Rattle.c_types_scopes.specs.Refusals.{Ruled}
use Rattle.c_types_scopes.specs.StructTables as types
use Rattle.c_types_scopes.specs.StructTables.{TypesView}
use Rattle.c_types_scopes.specs.States.{State, is_evaluated}
use Rattle.c_types_declarations.specs.ContextSteps.{with_types, with_struct, with_body, with_member, with_complete}
use Rattle.c_types_theorems.proofs.entries.Leading.{Leads}
use Rattle.c_types_theorems.proofs.entries.Expressing.{HasSteps}
use Rattle.c_types_theorems.proofs.stores.Growing.{Extends, extends_twice, size_more}
use Rattle.c_types_theorems.proofs.units.Kept.{appended_is, front_stays, set_other, set_there, keys_more, key_there, apart_bodies, IsLaterBy, later_same, later_twice}
use Rattle.c_types_well_formed.specs.Layouts.LaidStructs.{IsInside, HasLayouts}

pub none_is : {A B : Type 0} (x : A) → None ≡ Some x → B
none_is x h = absurd (let e : None ≡ Some x = h in cc)

either_is : (a b : Bool) → (a || b) ≡ true → (a ≡ true) ⊎ (b ≡ true)
either_is true b h = inl refl
either_is false b h = inr h

-- pointers have 4 or 8 bytes
pub pointer_is : (m : Model) → is_model m ≡ true → (m.pointer ≡ 4) ⊎ (m.pointer ≡ 8)
pointer_is m h =
    let a = and_parts (short_fits m.short) (int_fits m.int && (long_fits m.long && (long_long_fits m.long_long && pointer_fits m.int m.long m.long_long m.pointer))) h in
    let b = and_parts (int_fits m.int) (long_fits m.long && (long_long_fits m.long_long && pointer_fits m.int m.long m.long_long m.pointer)) a.1 in
    let c = and_parts (long_fits m.long) (long_long_fits m.long_long && pointer_fits m.int m.long m.long_long m.pointer) b.1 in
    let d = and_parts (long_long_fits m.long_long) (pointer_fits m.int m.long m.long_long m.pointer) c.1 in
    let e = and_parts (m.pointer == 4 || m.pointer == 8) ((m.pointer == m.int || m.pointer == m.long) || m.pointer == m.long_long) d.1 in
    elim (either_is (m.pointer == 4) (m.pointer == 8) e.0) [ inl four ↦ inl (eqb-true m.pointer 4 four) | inr eight ↦ inr (eqb-true m.pointer 8 eight) ]

pub inside_grown : (k later : Known) (v : StructView) (f : FieldView) → Extends k later → IsInside k v f → IsInside later v f
inside_grown k later v f g h = record { size = h.size; is = size_more k later f.ctype h.size g h.is; within = h.within }

-- a state behind a step, where structs are laid out and what was known still is
pub record Lays (s t : State) : Type 0 where
  pub layouts : HasLayouts t
  pub later : IsLaterBy s.known s.types t.known t.types

pub lays_same : (s : State) → HasLayouts s → Lays s s
lays_same s h = record { layouts = h; later = later_same s.known s.types }

pub lays_twice : (s t u : State) → Lays s t → Lays t u → Lays s u
lays_twice s t u g h = record { layouts = h.layouts; later = later_twice s.known t.known u.known s.types t.types u.types g.later h.later }

-- a step of a state in which structs are laid out
abbrev pub MayLay : State → State → Type 0
MayLay s t = HasLayouts s → Lays s t

abbrev pub LaidTo : {V : Type 0} → State → (V → State → Type 0) → Ruled (V × State) → Type 0
LaidTo s P (Ok p) = Lays s p.1 × P p.0 p.1
LaidTo s P (Err f) = Unit {0}

abbrev pub any : {V : Type 0} → V → State → Type 0
any v t = Unit {0}

pub onward : {V : Type 0} (s t : State) (P : V → State → Type 0) (r : Ruled (V × State)) → Lays s t → LaidTo t P r → LaidTo s P r
onward s t P (Ok p) g h = (lays_twice s t p.1 g h.0, h.1)
onward s t P (Err f) g h = tt

pub then : {U V : Type 0} (s : State) (P : U → State → Type 0) (Q : V → State → Type 0) (r : Ruled (U × State)) (next : U → State → Ruled (V × State)) → LaidTo s P r → ((x : U) (t : State) → Lays s t → P x t → LaidTo t Q (next x t)) → LaidTo s Q (after r next)
then s P Q (Ok p) next h go = onward s p.1 Q (next p.0 p.1) h.0 (go p.0 p.1 h.0 h.1)
then s P Q (Err f) next h go = tt

pub stays : {V : Type 0} (t : State) (r : Ruled V) → HasLayouts t → LaidTo t any (kept t r)
stays t (Ok v) h = (lays_same t h, tt)
stays t (Err f) h = tt

pub cond_laid : {V : Type 0} (s : State) (P : V → State → Type 0) (b : Bool) (x y : Ruled (V × State)) → LaidTo s P x → LaidTo s P y → LaidTo s P (cond b x y)
cond_laid s P true x y g h = g
cond_laid s P false x y g h = h

pub led : {V : Type 0} (s : State) (r : Ruled (V × State)) → HasLayouts s → Leads MayLay s r → LaidTo s any r
led s (Ok p) h g = (g h, tt)
led s (Err f) h g = tt

-- ---- steps that leave structs alone

pub same_structs : (s t : State) → t.known ≡ s.known → t.types ≡ s.types → HasLayouts s → Lays s t
same_structs s t known table h = record {
  layouts = record {
    proper = subst (λ k. is_model k.numbers ≡ true) (sym known) h.proper;
    settled = ap (λ k. k.structs) known ∙ (h.settled ∙ ap (λ x. x.structs) (sym table));
    bodies = subst (λ x. (n : ℕ) (v : StructView) → slice_get x.structs n ≡ Some v → (v ≡ no_struct) ⊎ (types.has_body x n ≡ true)) (sym table) h.bodies;
    laid = subst (λ k. (n i : ℕ) (v : StructView) (f : FieldView) → slice_get k.structs n ≡ Some v → slice_get v.fields i ≡ Some f → IsInside k v f) (sym known) h.laid;
  };
  later = subst (λ k. IsLaterBy s.known s.types k t.types) (sym known) (subst (λ x. IsLaterBy s.known s.types s.known x) (sym table) (later_same s.known s.types));
}

-- ---- structs that change

lays_structs : (s : State) (table : TypesView) → HasLayouts s → ((n : ℕ) (v : StructView) → slice_get table.structs n ≡ Some v → (v ≡ no_struct) ⊎ (types.has_body table n ≡ true)) → IsLaterBy s.known s.types (record s.known { structs = table.structs }) table
    → ((n i : ℕ) (v : StructView) (f : FieldView) → slice_get table.structs n ≡ Some v → slice_get v.fields i ≡ Some f → IsInside s.known v f) → Lays s (with_types s table)
lays_structs s table h bodies later laid = record {
  layouts = record { proper = h.proper; settled = refl; bodies = bodies; laid = λ n i v f there at. inside_grown s.known (record s.known { structs = table.structs }) v f later.extends (laid n i v f there at) };
  later = later;
}

-- a struct that was there
old_laid : (s : State) → HasLayouts s → (n i : ℕ) (v : StructView) (f : FieldView) → slice_get s.types.structs n ≡ Some v → slice_get v.fields i ≡ Some f → IsInside s.known v f
old_laid s h n i v f there at = h.laid n i v f (ap (λ l. slice_get l n) h.settled ∙ there) at

-- one of which nothing is known has no members
unknown_laid : (k : Known) (i : ℕ) (v : StructView) (f : FieldView) → v ≡ no_struct → slice_get v.fields i ≡ Some f → IsInside k v f
unknown_laid k i v f none at = none_is f (sym (ap (λ x. slice_get x.fields i) none) ∙ at)

pub struct_more : (s : State) → MayLay s (with_struct s)
struct_more s h = lays_structs s (types.with_struct s.types) h
    (λ n v is. elim (appended_is s.types.structs no_struct n v is) [ inl old ↦ h.bodies n v old | inr new ↦ inl new.1 ])
    (record {
      extends = record { numbers = refl; structs = λ i v is. inr (front_stays s.types.structs (no_struct ∷ []) i v (ap (λ l. slice_get l i) (sym h.settled) ∙ is)) };
      met = λ n met. met;
      open_still = λ n v met is. elim (appended_is s.types.structs no_struct n v is) [ inl old ↦ inr old | inr new ↦ inl new.1 ];
    })
    (λ n i v f there at. elim (appended_is s.types.structs no_struct n v there) [ inl old ↦ old_laid s h n i v f old at | inr new ↦ unknown_laid s.known i v f new.1 at ])

pub body_met : (s : State) (owner : ℕ) → MayLay s (with_body s owner)
body_met s owner h = lays_structs s (types.with_body s.types owner) h
    (λ n v is. elim (h.bodies n v is) [ inl none ↦ inl none | inr met ↦ inr (keys_more n owner s.types.bodies met) ])
    (record {
      extends = record { numbers = refl; structs = λ i v is. inr (ap (λ l. slice_get l i) (sym h.settled) ∙ is) };
      met = λ n met. keys_more n owner s.types.bodies met;
      open_still = λ n v met is. inr is;
    })
    (old_laid s h)

pub member_named : (s : State) (owner name field : ℕ) (e : Option ℕ) → MayLay s (with_member s owner name field e)
member_named s owner name field e h = lays_structs s (types.with_member s.types owner name field e) h
    h.bodies
    (record {
      extends = record { numbers = refl; structs = λ i v is. inr (ap (λ l. slice_get l i) (sym h.settled) ∙ is) };
      met = λ n met. met;
      open_still = λ n v met is. inr is;
    })
    (old_laid s h)

-- a struct whose body is met for the first time is complete behind its end
pub struct_completed : (s t : State) (owner : ℕ) (made : StructView) → types.has_body s.types owner ≡ false → HasLayouts s → Lays (with_body s owner) t → ((i : ℕ) (f : FieldView) → slice_get made.fields i ≡ Some f → IsInside t.known made f) → Lays s (with_complete t owner made)
struct_completed s t owner made first h g inside =
    let b = body_met s owner h in
    let from_start = later_twice s.known (with_body s owner).known t.known s.types (with_body s owner).types t.types b.later g.later in
    let u : State = with_complete t owner made in
    let unknown : (v : StructView) → slice_get s.types.structs owner ≡ Some v → v ≡ no_struct = λ v is. elim (h.bodies owner v is) [ inl none ↦ none | inr met ↦ absurd (apart_bodies (types.has_body s.types owner) first met) ] in
    let still : (v : StructView) → slice_get t.types.structs owner ≡ Some v → v ≡ no_struct = λ v is. elim (g.later.open_still owner v (key_there owner s.types.bodies) is) [ inl none ↦ none | inr old ↦ unknown v old ] in
    let there : (n : ℕ) (v : StructView) → slice_get t.types.structs n ≡ Some v → (v ≡ no_struct) ⊎ (slice_get u.types.structs n ≡ Some v) = λ n v is. elim (cases_eq n owner) [
      | inl same ↦ inl (still v (ap (slice_get t.types.structs) (sym same) ∙ is))
      | inr other ↦ inr (set_other t.types.structs owner n made other ∙ is)
    ] in
    let grown : Extends t.known u.known = record { numbers = refl; structs = λ i v is. there i v (ap (λ l. slice_get l i) (sym g.layouts.settled) ∙ is) } in
    record {
      layouts = record {
        proper = g.layouts.proper;
        settled = refl;
        bodies = λ n v is. elim (cases_eq n owner) [
          | inl same ↦ inr (subst (λ m. types.has_body t.types m ≡ true) (sym same) (g.later.met owner (key_there owner s.types.bodies)))
          | inr other ↦ g.layouts.bodies n v (sym (set_other t.types.structs owner n made other) ∙ is)
        ];
        laid = λ n i v f is at. elim (cases_eq n owner) [
          | inl same ↦ (
              let here : v ≡ made = set_there t.types.structs owner made v (ap (slice_get u.types.structs) (sym same) ∙ is) in
              inside_grown t.known u.known v f grown (subst (λ x. IsInside t.known x f) (sym here) (inside i f (sym (ap (λ x. slice_get x.fields i) here) ∙ at))))
          | inr other ↦ inside_grown t.known u.known v f grown (old_laid t g.layouts n i v f (sym (set_other t.types.structs owner n made other) ∙ is) at)
        ];
      };
      later = record {
        extends = extends_twice s.known t.known u.known from_start.extends grown;
        met = λ n met. from_start.met n met;
        open_still = λ n v met is. elim (cases_eq n owner) [
          | inl same ↦ absurd (apart_bodies (types.has_body s.types owner) first (subst (λ m. types.has_body s.types m ≡ true) same met))
          | inr other ↦ from_start.open_still n v met (sym (set_other t.types.structs owner n made other) ∙ is)
        ];
      };
    }

-- ---- the steps of expressions

either : (s : State) (b : Bool) (x y : State) → MayLay s x → MayLay s y → MayLay s (cond b x y)
either s true x y g h = g
either s false x y g h = h

pub steps_lay : HasSteps MayLay
steps_lay = record {
  same = lays_same;
  trans = λ s t u g h is. (let a = g is in lays_twice s t u a (h a.layouts));
  named = λ s text h. same_structs s _ refl refl h;
  literal = λ s at bytes. either s (is_evaluated s) _ s (λ h. same_structs s _ refl refl h) (lays_same s);
  constant = λ s e h. same_structs s _ refl refl h;
  called = λ s callee at. either s (is_evaluated s) _ s (λ h. same_structs s _ refl refl h) (lays_same s);
  unevaluated = λ s n h. same_structs s _ refl refl h;
  tagged = λ s name h. (let g = struct_more s h in lays_twice s (with_struct s) _ g (same_structs (with_struct s) _ refl refl g.layouts));
}
