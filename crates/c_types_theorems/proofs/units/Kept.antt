-- What typing keeps: the objects of static storage have their stores at parts of their types, and structs of which
-- something is known stay as they are.
use Rattle.std.proofs.Common.{◌≡◌, ◌<◌, ◌≤◌, ◌+◌, ◌-◌, ◌^◌, ℕ, zero, suc, Bool, true, false, List, [], ◌∷◌, ◌++◌, length, Option, Some, None, Ok, Err, slice_get, arith, refl, ap, subst, sym, ◌∙◌, inl, inr, eq-eqb}
use Rattle.std.specs.Prelude.{◌⊎◌, ◌||◌, cond, nat_eq, is_some, slice_set, if◌then◌else◌}
use Rattle.std.specs.List.{list_any}
use Rattle.std.proofs.lemmas.Bool.{cases_eq}
use Rattle.std.proofs.lemmas.List.{length-append}
use Rattle.std.proofs.lemmas.List.Folds.{list_any-append}
use Rattle.std.proofs.lemmas.Option.{same_Some, slice_get_within}
use Rattle.indexmap.specs.IndexSet.{insert_key}
use Rattle.cc_base.specs.declared.diagnostics.Place.{Place}
use Rattle.c_layout.specs.Types.{Ty}
use Rattle.c_layout.specs.StructViews.{StructView, no_struct}
use Rattle.c_layout.specs.CheckedUnits.{StaticView, StaticStoreView, SetValue, SetText}
use Rattle.c_layout.specs.DeclarationTrees.{NameView, InitializerTree}
use Rattle.c_types_scopes.specs.DeclaredTypes.{DeclaredView, ObjectView}
use Rattle.c_types_scopes.specs.Known.{Known, size_of}
use Rattle.c_types_scopes.specs.StructTables as types
use Rattle.c_types_scopes.specs.StructTables.{TypesView}
use Rattle.c_types_scopes.specs.States.{State, is_evaluated, with_name}
use Rattle.c_types_initializers.specs.Subobjects.{SubobjectView}
use Rattle.c_types_declarations.specs.ContextSteps.{with_struct, with_body, with_complete}
use Rattle.c_types_statement_rules.specs.Objects.LocalObjects.{static_declaration, with_static_object}
use Rattle.c_types_theorems.proofs.entries.Expressing.{HasSteps}
use Rattle.c_types_theorems.proofs.entries.Declaring.{HasDeclarations}
use Rattle.c_types_theorems.specs.Stores.PlacedStores.{IsPart}
use Rattle.c_types_theorems.proofs.stores.Growing.{Extends, extends_same, extends_twice, size_more, part_stays}
use Rattle.c_types_theorems.specs.Units.PlacedUnits.{IsPlacedStore, ArePlacedStores, HasNoBytes, IsPlacedObject}

-- ---- lists

pub some_none : {A : Type 0} (x : A) → None ≡ Some x → ⊥
some_none x h = cc

pub get_front : {A : Type 0} (xs ys : List A) (k : ℕ) → k < length xs → slice_get (xs ++ ys) k ≡ slice_get xs k
get_front [] ys k h = absurd (omega (arith, h))
get_front (x ∷ xs) ys zero h = refl
get_front (x ∷ xs) ys (suc k) h = get_front xs ys k (omega (arith, h))

-- an element of a list with one more
pub appended_is : {A : Type 0} (xs : List A) (y : A) (k : ℕ) (x : A) → slice_get (xs ++ y ∷ []) k ≡ Some x → (slice_get xs k ≡ Some x) ⊎ ((k ≡ length xs) × (x ≡ y))
appended_is [] y zero x h = inr (refl, sym (same_Some y x h))
appended_is [] y (suc k) x h = absurd (some_none x h)
appended_is (z ∷ xs) y zero x h = inl h
appended_is (z ∷ xs) y (suc k) x h = elim (appended_is xs y k x h) [ inl old ↦ inl old | inr new ↦ inr (ap suc new.0, new.1) ]

pub front_stays : {A : Type 0} (xs ys : List A) (k : ℕ) (x : A) → slice_get xs k ≡ Some x → slice_get (xs ++ ys) k ≡ Some x
front_stays xs ys k x h = get_front xs ys k (slice_get_within xs k x h) ∙ h

pub set_long : {A : Type 0} (xs : List A) (k : ℕ) (v : A) → length (slice_set xs k v) ≡ length xs
set_long [] k v = refl
set_long (x ∷ xs) zero v = refl
set_long (x ∷ xs) (suc k) v = ap suc (set_long xs k v)

pub set_other : {A : Type 0} (xs : List A) (k n : ℕ) (v : A) → (n ≡ k → ⊥) → slice_get (slice_set xs k v) n ≡ slice_get xs n
set_other [] k n v h = refl
set_other (x ∷ xs) zero zero v h = absurd (h refl)
set_other (x ∷ xs) zero (suc n) v h = refl
set_other (x ∷ xs) (suc k) zero v h = refl
set_other (x ∷ xs) (suc k) (suc n) v h = set_other xs k n v (λ e. h (ap suc e))

pub set_there : {A : Type 0} (xs : List A) (k : ℕ) (v x : A) → slice_get (slice_set xs k v) k ≡ Some x → x ≡ v
set_there [] k v x h = absurd (some_none x h)
set_there (y ∷ xs) zero v x h = sym (same_Some v x h)
set_there (y ∷ xs) (suc k) v x h = set_there xs k v x h

-- ---- bodies that were met

or_true : (b : Bool) → (b || true) ≡ true
or_true true = refl
or_true false = refl

pub keys_more : (n owner : ℕ) (ks : List ℕ) → list_any (nat_eq n) ks ≡ true → list_any (nat_eq n) (insert_key nat_eq ks owner) ≡ true
keys_more n owner ks h = by_known (list_any (nat_eq owner) ks)
  where
    by_known : (b : Bool) → list_any (nat_eq n) (if b then ks else ks ++ owner ∷ []) ≡ true
    by_known true = h
    by_known false = list_any-append (nat_eq n) ks (owner ∷ []) ∙ ap (λ b. b || list_any (nat_eq n) (owner ∷ [])) h

pub key_there : (owner : ℕ) (ks : List ℕ) → list_any (nat_eq owner) (insert_key nat_eq ks owner) ≡ true
key_there owner ks = by_known (list_any (nat_eq owner) ks) refl
  where
    self : list_any (nat_eq owner) (owner ∷ []) ≡ true
    self = ap (λ b. b || false) (eq-eqb owner owner refl)

    by_known : (b : Bool) → list_any (nat_eq owner) ks ≡ b → list_any (nat_eq owner) (if b then ks else ks ++ owner ∷ []) ≡ true
    by_known true is = is
    by_known false is = list_any-append (nat_eq owner) ks (owner ∷ []) ∙ (ap (λ b. list_any (nat_eq owner) ks || b) self ∙ or_true (list_any (nat_eq owner) ks))

-- ---- objects by more structs

store_grown : (k later : Known) (t : Ty) (s : StaticStoreView) → Extends k later → IsPlacedStore k t s → IsPlacedStore later t s
store_grown k later t (SetValue offset v) g h = (h.0, part_stays k later g t h.0 h.1, h.2, h.3)
store_grown k later t (SetText offset room text) g h = (h.0, part_stays k later g t h.0 h.1, h.2, h.3)

pub stores_grown : (k later : Known) (t : Ty) (ss : List StaticStoreView) → Extends k later → ArePlacedStores k t ss → ArePlacedStores later t ss
stores_grown k later t [] g h = tt
stores_grown k later t (s ∷ ss) g h = (store_grown k later t s g h.0, stores_grown k later t ss g h.1)

pub bytes_grown : (k later : Known) (t : Ty) → Extends k later → HasNoBytes k t → HasNoBytes later t
bytes_grown k later t g h = record { element = h.element; count = h.count; is = h.is; none = size_more k later h.element 0 g h.none }

is_size : (k later : Known) (t : Ty) (o : Option ℕ) → Extends k later → size_of k t ≡ o → is_some o ≡ true → is_some (size_of later t) ≡ true
is_size k later t None g is h = absurd (cc)
is_size k later t (Some n) g is h = ap is_some (size_more k later t n g is)

pub sized_grown : (k later : Known) (t : Ty) → Extends k later → is_some (size_of k t) ≡ true → is_some (size_of later t) ≡ true
sized_grown k later t g h = is_size k later t (size_of k t) g refl h

pub object_grown : (k later : Known) (o : StaticView) → Extends k later → IsPlacedObject k o → IsPlacedObject later o
object_grown k later o g (inl none) = inl none
object_grown k later o g (inr (sized, inl placed)) = inr (sized_grown k later o.ctype g sized, inl (stores_grown k later o.ctype o.stores g placed))
object_grown k later o g (inr (sized, inr none)) = inr (sized_grown k later o.ctype g sized, inr (bytes_grown k later o.ctype g none))

-- ---- states

-- an object that was declared has the type of its object of the run, which is its own
pub record AreLinked (objects : List ObjectView) (statics : List StaticView) : Type 0 where
  pub few : (i n : ℕ) (x : ObjectView) → slice_get objects i ≡ Some x → x.number ≡ Some n → n < length statics
  pub typed : (i n : ℕ) (x : ObjectView) (o : StaticView) → slice_get objects i ≡ Some x → x.number ≡ Some n → slice_get statics n ≡ Some o → o.ctype ≡ x.declared.ctype
  pub apart : (i j n : ℕ) (x y : ObjectView) → slice_get objects i ≡ Some x → slice_get objects j ≡ Some y → x.number ≡ Some n → y.number ≡ Some n → i ≡ j

pub record IsGoodBy (k : Known) (table : TypesView) (objects : List ObjectView) (statics : List StaticView) : Type 0 where
  pub settled : k.structs ≡ table.structs
  pub bodies : (n : ℕ) (v : StructView) → slice_get table.structs n ≡ Some v → (v ≡ no_struct) ⊎ (types.has_body table n ≡ true)
  pub placed : (n : ℕ) (o : StaticView) → slice_get statics n ≡ Some o → IsPlacedObject k o
  pub linked : AreLinked objects statics

-- structs whose bodies were met become no others
pub record IsLaterBy (k : Known) (table : TypesView) (later : Known) (after : TypesView) : Type 0 where
  pub extends : Extends k later
  pub met : (n : ℕ) → types.has_body table n ≡ true → types.has_body after n ≡ true
  pub open_still : (n : ℕ) (v : StructView) → types.has_body table n ≡ true → slice_get after.structs n ≡ Some v → (v ≡ no_struct) ⊎ (slice_get table.structs n ≡ Some v)

-- numbers of objects are below 2^32
abbrev pub most : ℕ
most = 4294967295

abbrev pub Keeps : State → State → Type 0
Keeps s t = (length s.statics ≤ length t.statics) × (length t.statics ≤ most → IsGoodBy s.known s.types s.objects s.statics → IsGoodBy t.known t.types t.objects t.statics × IsLaterBy s.known s.types t.known t.types)

pub later_same : (k : Known) (table : TypesView) → IsLaterBy k table k table
later_same k table = record { extends = extends_same k; met = λ n h. h; open_still = λ n v met is. inr is }

pub later_twice : (k l m : Known) (a b c : TypesView) → IsLaterBy k a l b → IsLaterBy l b m c → IsLaterBy k a m c
later_twice k l m a b c g h = record {
  extends = extends_twice k l m g.extends h.extends;
  met = λ n met. h.met n (g.met n met);
  open_still = λ n v met is. elim (h.open_still n v (g.met n met) is) [ inl none ↦ inl none | inr still ↦ g.open_still n v met still ];
}

pub at_most : (n : ℕ) → n ≤ n
at_most n = omega arith

pub keeps_same : (s : State) → Keeps s s
keeps_same s = (at_most (length s.statics), λ few good. (good, later_same s.known s.types))

pub keeps_twice : (s t u : State) → Keeps s t → Keeps t u → Keeps s u
keeps_twice s t u g h =
    let a = g.0 in let b = h.0 in (
      omega (arith, a, b),
      λ few good.
          let x = g.1 (omega (arith, b, few)) good in
          let y = h.1 few x.0 in
          (y.0, later_twice s.known t.known u.known s.types t.types u.types x.1 y.1),
    )

-- a state with other structs, by which what is known grows
pub keeps_structs : (s : State) (table : TypesView) → (IsGoodBy s.known s.types s.objects s.statics → ((n : ℕ) (v : StructView) → slice_get table.structs n ≡ Some v → (v ≡ no_struct) ⊎ (types.has_body table n ≡ true)) × IsLaterBy s.known s.types (record s.known { structs = table.structs }) table)
    → Keeps s (record s { known = record s.known { structs = table.structs }; types = table })
keeps_structs s table h = (
  at_most (length s.statics),
  λ few good.
      let g = h good in
      (record { settled = refl; bodies = g.0; placed = λ n o is. object_grown s.known (record s.known { structs = table.structs }) o g.1.extends (good.placed n o is); linked = good.linked }, g.1),
)

structs_more : (s : State) → Keeps s (with_struct s)
structs_more s = keeps_structs s (types.with_struct s.types) (λ good. (
  λ n v is. elim (appended_is s.types.structs no_struct n v is) [ inl old ↦ good.bodies n v old | inr new ↦ inl new.1 ],
  record {
    extends = record { numbers = refl; structs = λ i v is. inr (front_stays s.types.structs (no_struct ∷ []) i v (ap (λ l. slice_get l i) (sym good.settled) ∙ is)) };
    met = λ n h. h;
    open_still = λ n v met is. elim (appended_is s.types.structs no_struct n v is) [ inl old ↦ inr old | inr new ↦ inl new.1 ];
  },
))

body_met : (s : State) (owner : ℕ) → Keeps s (with_body s owner)
body_met s owner = keeps_structs s (types.with_body s.types owner) (λ good. (
  λ n v is. elim (good.bodies n v is) [ inl none ↦ inl none | inr met ↦ inr (keys_more n owner s.types.bodies met) ],
  record {
    extends = record { numbers = refl; structs = λ i v is. inr (ap (λ l. slice_get l i) (sym good.settled) ∙ is) };
    met = λ n h. keys_more n owner s.types.bodies h;
    open_still = λ n v met is. inr is;
  },
))

member_named : (s : State) (owner name field : ℕ) (e : Option ℕ) → Keeps s (record s { known = record s.known { structs = s.types.structs }; types = types.with_member s.types owner name field e })
member_named s owner name field e = keeps_structs s (types.with_member s.types owner name field e) (λ good. (
  good.bodies,
  record {
    extends = record { numbers = refl; structs = λ i v is. inr (ap (λ l. slice_get l i) (sym good.settled) ∙ is) };
    met = λ n h. h;
    open_still = λ n v met is. inr is;
  },
))

pub apart_bodies : (b : Bool) → b ≡ false → b ≡ true → ⊥
apart_bodies true f t = cc
apart_bodies false f t = cc

-- a struct whose body is met for the first time is not complete before its end
struct_completed : (s t : State) (owner : ℕ) (made : StructView) → types.has_body s.types owner ≡ false → Keeps (with_body s owner) t → Keeps s (with_complete t owner made)
struct_completed s t owner made first g = (
  g.0,
  λ few good.
      let b = (body_met s owner).1 (let a = g.0 in omega (arith, a, few)) good in
      let x = g.1 few b.0 in
      let from_start = later_twice s.known (with_body s owner).known t.known s.types (with_body s owner).types t.types b.1 x.1 in
      let u : State = with_complete t owner made in
      let unknown : (v : StructView) → slice_get s.types.structs owner ≡ Some v → v ≡ no_struct = λ v is. elim (good.bodies owner v is) [ inl none ↦ none | inr met ↦ absurd (apart_bodies (types.has_body s.types owner) first met) ] in
      let still : (v : StructView) → slice_get t.types.structs owner ≡ Some v → v ≡ no_struct = λ v is. elim (x.1.open_still owner v (key_there owner s.types.bodies) is) [ inl none ↦ none | inr old ↦ unknown v old ] in
      let there : (n : ℕ) (v : StructView) → slice_get t.types.structs n ≡ Some v → (v ≡ no_struct) ⊎ (slice_get u.types.structs n ≡ Some v) = λ n v is. elim (cases_eq n owner) [
        | inl same ↦ inl (still v (ap (slice_get t.types.structs) (sym same) ∙ is))
        | inr other ↦ inr (set_other t.types.structs owner n made other ∙ is)
      ] in
      let grown : Extends t.known u.known = record { numbers = refl; structs = λ i v is. there i v (ap (λ l. slice_get l i) (sym x.0.settled) ∙ is) } in (
        record {
          settled = refl;
          bodies = λ n v is. elim (cases_eq n owner) [
            | inl same ↦ inr (subst (λ m. types.has_body t.types m ≡ true) (sym same) (x.1.met owner (key_there owner s.types.bodies)))
            | inr other ↦ x.0.bodies n v (sym (set_other t.types.structs owner n made other) ∙ is)
          ];
          placed = λ n o is. object_grown t.known u.known o grown (x.0.placed n o is);
          linked = x.0.linked;
        },
        record {
          extends = extends_twice s.known t.known u.known from_start.extends grown;
          met = λ n met. from_start.met n met;
          open_still = λ n v met is. elim (cases_eq n owner) [
            | inl same ↦ absurd (apart_bodies (types.has_body s.types owner) first (subst (λ m. types.has_body s.types m ≡ true) same met))
            | inr other ↦ from_start.open_still n v met (sym (set_other t.types.structs owner n made other) ∙ is)
          ];
        },
      ),
)

either : (s : State) (b : Bool) (x y : State) → Keeps s x → Keeps s y → Keeps s (cond b x y)
either s true x y g h = g
either s false x y g h = h

pub steps_keep : HasSteps Keeps
steps_keep = record {
  same = keeps_same;
  trans = keeps_twice;
  named = λ s text. keeps_same s;
  literal = λ s at bytes. either s (is_evaluated s) _ s (keeps_same s) (keeps_same s);
  constant = λ s e. keeps_same s;
  called = λ s callee at. either s (is_evaluated s) _ s (keeps_same s) (keeps_same s);
  unevaluated = λ s n. keeps_same s;
  tagged = λ s name. structs_more s;
}

pub declarations_keep : HasDeclarations Keeps
declarations_keep = record {
  steps = steps_keep;
  scoped = λ s x. keeps_same s;
  enumerations = λ s x. keeps_same s;
  struct_more = structs_more;
  body = body_met;
  member = member_named;
  completed = struct_completed;
}
