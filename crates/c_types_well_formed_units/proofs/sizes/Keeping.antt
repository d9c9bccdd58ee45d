-- Steps of typing keep the types of what is declared fit.
use Rattle.std.proofs.Common.{◌≡◌, ◌≤◌, ◌^◌, ◌⊎◌, inl, inr, ℕ, List, [], ◌∷◌, Option, Some, None, Ok, Err, slice_get, arith, refl, ap, subst, sym, ◌∙◌}
use Rattle.std.specs.Prelude.{Bool, true, false, cond, nat_le}
use Rattle.std.proofs.lemmas.Bool.{cases_eq, leb-true}
use Rattle.std.proofs.lemmas.Option.{same_Some}
use Rattle.c_layout.specs.Layout.{most_bytes, round_up}
use Rattle.c_layout.specs.StructLayouts.{Partial, finished}
use Rattle.c_layout.specs.StructViews.{StructView, no_struct}
use Rattle.c_layout.specs.CheckedUnits.{LocalView, StaticView}
use Rattle.c_types_scopes.specs.Answers.{after, kept}
use Rattle.c_types_scopes.specs.DeclaredTypes.{DeclaredView, ObjectView}
use Rattle.c_types_scopes.specs.Known.{Known}
use Rattle.c_types_scopes.specs.Refusals.{Ruled}
use Rattle.c_types_scopes.specs.StructTables as types
use Rattle.c_types_scopes.specs.StructTables.{TypesView}
use Rattle.c_types_scopes.specs.States.{State, is_evaluated}
use Rattle.c_types_scopes.specs.declared.context.StaticInitializer.{StaticInitializer}
use Rattle.c_types_declarations.specs.ContextSteps.{with_types, with_struct, with_body, with_member, with_complete}
use Rattle.c_types_theorems.proofs.entries.Leading.{Leads}
use Rattle.c_types_theorems.proofs.entries.Expressing.{HasSteps}
use Rattle.c_types_theorems.proofs.entries.Specifying.{HasSpecifiers}
use Rattle.c_types_theorems.proofs.stores.Growing.{Extends, extends_twice}
use Rattle.c_types_theorems.proofs.units.Kept.{appended_is, front_stays, set_other, set_there, keys_more, key_there, apart_bodies, IsLaterBy, later_same, later_twice}
use Rattle.c_types_well_formed.specs.WellFormed.ModelTypes.{Each}
use Rattle.c_types_well_formed_units.specs.Sizes.FitTypes.{HasElements, IsFit}
use Rattle.c_types_well_formed_units.proofs.sizes.FitTypes.{elements_grown, fit_grown}
use Rattle.c_types_well_formed_units.proofs.sizes.Listed.{AreListed}

-- ---- what is kept

-- the types of typedef names, of objects that were declared, of local objects and of those of the run, by structs
-- of which none is large; and where the stores of the latter come from
pub record IsSized (k : Known) (table : TypesView) (typedefs : List DeclaredView) (objects : List ObjectView) (locals : List LocalView) (statics : List StaticView) (initializers : List StaticInitializer) : Type 0 where
  pub settled : k.structs ≡ table.structs
  pub bodies : (n : ℕ) (v : StructView) → slice_get table.structs n ≡ Some v → (v ≡ no_struct) ⊎ (types.has_body table n ≡ true)
  pub small : (n : ℕ) (v : StructView) → slice_get table.structs n ≡ Some v → v.size ≤ 2 ^ 30
  pub named : Each (λ (d : DeclaredView). HasElements k d.ctype) typedefs
  pub declared : Each (λ (o : ObjectView). IsFit k o.declared.ctype) objects
  pub local : Each (λ (l : LocalView). IsFit k l.ctype) locals
  pub static : Each (λ (o : StaticView). IsFit k o.ctype) statics
  pub listed : AreListed initializers statics

abbrev pub Sized : State → Type 0
Sized s = IsSized s.known s.types s.typedefs s.objects s.body.locals s.statics s.initializers

abbrev pub IsLater : State → State → Type 0
IsLater s t = IsLaterBy s.known s.types t.known t.types

abbrev pub Keeps : State → State → Type 0
Keeps s t = Sized s → Sized t × IsLater s t

pub keeps_same : (s : State) → Keeps s s
keeps_same s h = (h, later_same s.known s.types)

pub keeps_twice : (s t u : State) → Keeps s t → Keeps t u → Keeps s u
keeps_twice s t u g h sized = (let a = g sized in let b = h a.0 in (b.0, later_twice s.known t.known u.known s.types t.types u.types a.1 b.1))

-- ---- other lists

module _ (k : Known) (table : TypesView) (typedefs : List DeclaredView) (objects : List ObjectView) (locals : List LocalView) (statics : List StaticView) (initializers : List StaticInitializer) (h : IsSized k table typedefs objects locals statics initializers) where
  pub with_named : (xs : List DeclaredView) → Each (λ (d : DeclaredView). HasElements k d.ctype) xs → IsSized k table xs objects locals statics initializers
  with_named xs each = record { settled = h.settled; bodies = h.bodies; small = h.small; named = each; declared = h.declared; local = h.local; static = h.static; listed = h.listed }

  pub with_declared : (xs : List ObjectView) → Each (λ (o : ObjectView). IsFit k o.declared.ctype) xs → IsSized k table typedefs xs locals statics initializers
  with_declared xs each = record { settled = h.settled; bodies = h.bodies; small = h.small; named = h.named; declared = each; local = h.local; static = h.static; listed = h.listed }

  pub with_local : (xs : List LocalView) → Each (λ (l : LocalView). IsFit k l.ctype) xs → IsSized k table typedefs objects xs statics initializers
  with_local xs each = record { settled = h.settled; bodies = h.bodies; small = h.small; named = h.named; declared = h.declared; local = each; static = h.static; listed = h.listed }

  pub with_static : (xs : List StaticView) (ys : List StaticInitializer) → Each (λ (o : StaticView). IsFit k o.ctype) xs → AreListed ys xs → IsSized k table typedefs objects locals xs ys
  with_static xs ys each listed = record { settled = h.settled; bodies = h.bodies; small = h.small; named = h.named; declared = h.declared; local = h.local; static = each; listed = listed }

-- ---- other structs

abbrev AreMet : TypesView → Type 0
AreMet table = (n : ℕ) (v : StructView) → slice_get table.structs n ≡ Some v → (v ≡ no_struct) ⊎ (types.has_body table n ≡ true)

abbrev AreSmall : TypesView → Type 0
AreSmall table = (n : ℕ) (v : StructView) → slice_get table.structs n ≡ Some v → v.size ≤ 2 ^ 30

sized_with : (k later : Known) (table new : TypesView) (typedefs : List DeclaredView) (objects : List ObjectView) (locals : List LocalView) (statics : List StaticView) (initializers : List StaticInitializer) → Extends k later → later.structs ≡ new.structs → AreMet new → AreSmall new
    → IsSized k table typedefs objects locals statics initializers → IsSized later new typedefs objects locals statics initializers
sized_with k later table new typedefs objects locals statics initializers g settled met small h = record {
  settled = settled;
  bodies = met;
  small = small;
  named = λ i d at. elements_grown k later d.ctype g (h.named i d at);
  declared = λ i o at. fit_grown k later o.declared.ctype g (h.declared i o at);
  local = λ i l at. fit_grown k later l.ctype g (h.local i l at);
  static = λ i o at. fit_grown k later o.ctype g (h.static i o at);
  listed = h.listed;
}

keeps_structs : (s : State) (table : TypesView) → (Sized s → AreMet table × AreSmall table × IsLaterBy s.known s.types (record s.known { structs = table.structs }) table) → Keeps s (with_types s table)
keeps_structs s table h sized =
    let g = h sized in
    let later : Known = record s.known { structs = table.structs } in
    (sized_with s.known later s.types table s.typedefs s.objects s.body.locals s.statics s.initializers g.2.extends refl g.0 g.1 sized, g.2)

none_small : (v : StructView) → v ≡ no_struct → v.size ≤ 2 ^ 30
none_small v is = let e : v.size ≡ 0 = ap (λ x. x.size) is in omega (arith, e)

pub structs_more : (s : State) → Keeps s (with_struct s)
structs_more s = keeps_structs s (types.with_struct s.types) (λ h. (
  λ n v is. elim (appended_is s.types.structs no_struct n v is) [ inl old ↦ h.bodies n v old | inr new ↦ inl new.1 ],
  λ n v is. elim (appended_is s.types.structs no_struct n v is) [ inl old ↦ h.small n v old | inr new ↦ none_small v new.1 ],
  record {
    extends = record { numbers = refl; structs = λ i v is. inr (front_stays s.types.structs (no_struct ∷ []) i v (ap (λ l. slice_get l i) (sym h.settled) ∙ is)) };
    met = λ n met. met;
    open_still = λ n v met is. elim (appended_is s.types.structs no_struct n v is) [ inl old ↦ inr old | inr new ↦ inl new.1 ];
  },
))

body_met : (s : State) (owner : ℕ) → Keeps s (with_body s owner)
body_met s owner = keeps_structs s (types.with_body s.types owner) (λ h. (
  λ n v is. elim (h.bodies n v is) [ inl none ↦ inl none | inr met ↦ inr (keys_more n owner s.types.bodies met) ],
  h.small,
  record {
    extends = record { numbers = refl; structs = λ i v is. inr (ap (λ l. slice_get l i) (sym h.settled) ∙ is) };
    met = λ n met. keys_more n owner s.types.bodies met;
    open_still = λ n v met is. inr is;
  },
))

member_named : (s : State) (owner name field : ℕ) (e : Option ℕ) → Keeps s (with_member s owner name field e)
member_named s owner name field e = keeps_structs s (types.with_member s.types owner name field e) (λ h. (
  h.bodies,
  h.small,
  record {
    extends = record { numbers = refl; structs = λ i v is. inr (ap (λ l. slice_get l i) (sym h.settled) ∙ is) };
    met = λ n met. met;
    open_still = λ n v met is. inr is;
  },
))

finished_small : (p : Partial) (made : StructView) → finished p ≡ Some made → made.size ≤ 2 ^ 30
finished_small p made is = by_size (nat_le (round_up p.end p.align) most_bytes) refl is
  where
    whole : StructView
    whole = record { fields = p.fields; complete = true; size = round_up p.end p.align; align = p.align; leaves = p.leaves; plain_leaves = p.plain_leaves }

    by_size : (c : Bool) → nat_le (round_up p.end p.align) most_bytes ≡ c → cond c (Some whole) None ≡ Some made → made.size ≤ 2 ^ 30
    by_size true fits e = subst (λ x. x.size ≤ 2 ^ 30) (same_Some whole made e) (leb-true (round_up p.end p.align) most_bytes fits)
    by_size false fits e = absurd (cc)

-- a struct whose body is met for the first time is not complete before its end
struct_completed : (s t : State) (owner : ℕ) (made : StructView) → types.has_body s.types owner ≡ false → made.size ≤ 2 ^ 30 → Keeps (with_body s owner) t → Keeps s (with_complete t owner made)
struct_completed s t owner made first fits g h =
    let b = body_met s owner h in
    let x = g b.0 in
    let from_start = later_twice s.known (with_body s owner).known t.known s.types (with_body s owner).types t.types b.1 x.1 in
    let u : State = with_complete t owner made in
    let unknown : (v : StructView) → slice_get s.types.structs owner ≡ Some v → v ≡ no_struct = λ v is. elim (h.bodies owner v is) [ inl none ↦ none | inr met ↦ absurd (apart_bodies (types.has_body s.types owner) first met) ] in
    let still : (v : StructView) → slice_get t.types.structs owner ≡ Some v → v ≡ no_struct = λ v is. elim (x.1.open_still owner v (key_there owner s.types.bodies) is) [ inl none ↦ none | inr old ↦ unknown v old ] in
    let there : (n : ℕ) (v : StructView) → slice_get t.types.structs n ≡ Some v → (v ≡ no_struct) ⊎ (slice_get u.types.structs n ≡ Some v) = λ n v is. elim (cases_eq n owner) [
      | inl same ↦ inl (still v (ap (slice_get t.types.structs) (sym same) ∙ is))
      | inr other ↦ inr (set_other t.types.structs owner n made other ∙ is)
    ] in
    let grown : Extends t.known u.known = record { numbers = refl; structs = λ i v is. there i v (ap (λ l. slice_get l i) (sym x.0.settled) ∙ is) } in (
      sized_with t.known u.known t.types u.types t.typedefs t.objects t.body.locals t.statics t.initializers grown refl
          (λ n v is. elim (cases_eq n owner) [
            | inl same ↦ inr (subst (λ m. types.has_body t.types m ≡ true) (sym same) (x.1.met owner (key_there owner s.types.bodies)))
            | inr other ↦ x.0.bodies n v (sym (set_other t.types.structs owner n made other) ∙ is)
          ])
          (λ n v is. elim (cases_eq n owner) [
            | inl same ↦ subst (λ z. z.size ≤ 2 ^ 30) (sym (set_there t.types.structs owner made v (ap (slice_get u.types.structs) (sym same) ∙ is))) fits
            | inr other ↦ x.0.small n v (sym (set_other t.types.structs owner n made other) ∙ is)
          ])
          x.0,
      record {
        extends = extends_twice s.known t.known u.known from_start.extends grown;
        met = λ n met. from_start.met n met;
        open_still = λ n v met is. elim (cases_eq n owner) [
          | inl same ↦ absurd (apart_bodies (types.has_body s.types owner) first (subst (λ m. types.has_body s.types m ≡ true) same met))
          | inr other ↦ from_start.open_still n v met (sym (set_other t.types.structs owner n made other) ∙ is)
        ];
      },
    )

-- ---- expressions and specifiers

either : (s : State) (b : Bool) (x y : State) → Keeps s x → Keeps s y → Keeps s (cond b x y)
either s true x y g h = g
either s false x y g h = h

pub steps_keep : HasSteps Keeps
steps_keep = record {
  same = keeps_same;
  trans = keeps_twice;
  named = λ s text. keeps_same s;
  literal = λ s at bytes. either s (is_evaluated s) _ s (keeps_same s) (keeps_same s);
  constant = λ s e. keeps_same s;
  called = λ s callee at. either s (is_evaluated s) _ s (keeps_same s) (keeps_same s);
  unevaluated = λ s n. keeps_same s;
  tagged = λ s name. structs_more s;
}

pub specifiers_keep : HasSpecifiers Keeps
specifiers_keep = record {
  steps = steps_keep;
  tagged = λ s name t. keeps_same s;
  enumerated = λ s name value. keeps_same s;
  struct_more = structs_more;
  body = body_met;
  member = member_named;
  completed = λ s t owner p made first laid g. struct_completed s t owner made first (finished_small p made laid) g;
  enumerations = λ s x. keeps_same s;
}

-- ---- steps one after another

-- the state behind a step, and what is known of what it gives
abbrev pub To : {V : Type 0} → State → (V → State → Type 0) → Ruled (V × State) → Type 0
To s P (Ok p) = (Sized p.1 × IsLater s p.1) × P p.0 p.1
To s P (Err f) = Unit {0}

abbrev pub any : {V : Type 0} → V → State → Type 0
any x t = Unit {0}

abbrev pub Holds : {V : Type 0} → (V → Type 0) → Ruled V → Type 0
Holds P (Ok v) = P v
Holds P (Err f) = Unit {0}

pub here : {V : Type 0} (s : State) (P : V → State → Type 0) (x : V) → Sized s → P x s → To s P (Ok (x, s))
here s P x h p = ((h, later_same s.known s.types), p)

pub onward : {V : Type 0} (s t : State) (P : V → State → Type 0) (r : Ruled (V × State)) → Sized t × IsLater s t → To t P r → To s P r
onward s t P (Ok p) g h = ((h.0.0, later_twice s.known t.known p.1.known s.types t.types p.1.types g.1 h.0.1), h.1)
onward s t P (Err f) g h = tt

pub then : {U V : Type 0} (s : State) (P : U → State → Type 0) (Q : V → State → Type 0) (r : Ruled (U × State)) (next : U → State → Ruled (V × State)) → To s P r → ((x : U) (t : State) → Sized t → IsLater s t → P x t → To t Q (next x t)) → To s Q (after r next)
then s P Q (Ok p) next h go = onward s p.1 Q (next p.0 p.1) h.0 (go p.0 p.1 h.0.0 h.0.1 h.1)
then s P Q (Err f) next h go = tt

pub cond_to : {V : Type 0} (s : State) (P : V → State → Type 0) (b : Bool) (x y : Ruled (V × State)) → (b ≡ true → To s P x) → To s P y → To s P (cond b x y)
cond_to s P true x y g h = g refl
cond_to s P false x y g h = h

pub stays : {V : Type 0} (t : State) (P : V → State → Type 0) (r : Ruled V) → Sized t → Holds (λ v. P v t) r → To t P (kept t r)
stays t P (Ok v) h p = ((h, later_same t.known t.types), p)
stays t P (Err f) h p = tt

pub led : {V : Type 0} (s : State) (r : Ruled (V × State)) → Sized s → Leads Keeps s r → To s any r
led s (Ok p) h g = (g h, tt)
led s (Err f) h g = tt

pub leads_of : {V : Type 0} (s : State) (P : V → State → Type 0) (r : Ruled (V × State)) → (Sized s → To s P r) → Leads Keeps s r
leads_of s P (Ok p) h = λ sized. (h sized).0
leads_of s P (Err f) h = tt
