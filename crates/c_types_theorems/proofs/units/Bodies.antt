-- Objects of bodies, and initializers, keep what is kept.
use Rattle.std.proofs.Common.{◌≡◌, ◌<◌, ◌≤◌, ◌+◌, ◌-◌, ◌^◌, ℕ, zero, suc, Bool, true, false, List, [], ◌∷◌, ◌++◌, length, Option, Some, None, Ok, Err, slice_get, arith, refl, ap, subst, sym, ◌∙◌, inl, inr}
use Rattle.std.specs.Prelude.{◌⊎◌, cond, is_some, slice_set}
use Rattle.std.proofs.lemmas.Bool.{cases_eq}
use Rattle.std.proofs.lemmas.List.{length-append}
use Rattle.std.proofs.lemmas.Option.{same_Some, slice_get_within}
use Rattle.cc_base.specs.declared.diagnostics.Place.{Place}
use Rattle.c_layout.specs.Types.{Ty}
use Rattle.c_layout.specs.CheckedTrees.{StoreTree, StoreValue, StoreCopy, StoreText}
use Rattle.c_layout.specs.CheckedUnits.{StaticView, StaticStoreView}
use Rattle.c_layout.specs.DeclarationTrees.{NameView, InitializerTree}
use Rattle.c_types_scopes.specs.DeclaredTypes.{DeclaredView, ObjectView}
use Rattle.c_types_scopes.specs.Known.{Known, size_of}
use Rattle.c_types_scopes.specs.StructTables.{TypesView}
use Rattle.c_types_scopes.specs.States.{State, is_evaluated, with_name, with_constant}
use Rattle.c_types_initializers.specs.Initialized.{InitializedView, ByTerm, ByLvalue, ByStores}
use Rattle.c_types_initializers.specs.StaticStores.{with_list, with_expressions, constant_stores}
use Rattle.c_types_expressions.specs.BracedLists.Initializers.{initializer_of}
use Rattle.c_types_statement_rules.specs.Objects.Changes.{changed, changed_at}
use Rattle.c_types_statement_rules.specs.Objects.FileObjects.{number_or}
use Rattle.c_types_statement_rules.specs.Objects.LocalObjects.{typed_object, typed_static, static_declaration, with_static_object, with_static_type}
use Rattle.c_types_statements.specs.StaticInitializers.{stored_static, with_stores, has_size}
use Rattle.c_types_theorems.proofs.entries.Leading.{Leads}
use Rattle.c_types_theorems.proofs.entries.Expressing.{HasSteps}
use Rattle.c_types_theorems.proofs.entries.Initializing.{initializer_leads}
use Rattle.c_types_theorems.proofs.entries.Stating.{HasBodies, IsNumbered}
use Rattle.c_types_theorems.proofs.stores.Growing.{Extends}
use Rattle.c_types_theorems.proofs.stores.Initials.{stores_placed}
use Rattle.c_types_theorems.specs.Units.PlacedUnits.{ArePlacedStores, HasNoBytes, IsPlacedObject}
use Rattle.c_types_theorems.proofs.units.Constants.{IsStored, initializer_stored}
use Rattle.c_types_theorems.proofs.units.Kept.{get_front, appended_is, set_long, set_other, set_there, stores_grown, bytes_grown, sized_grown, AreLinked, IsGoodBy, IsLaterBy, most, Keeps, later_same, later_twice, keeps_same, declarations_keep}

-- ---- an object of static storage more

-- with its object of the run
module _ (k : Known) (table : TypesView) (objects : List ObjectView) (statics : List StaticView) (object : ObjectView) (new : StaticView) (number : object.number ≡ Some (length statics)) (typed : new.ctype ≡ object.declared.ctype) (zero_first : new.stores ≡ []) where
  number_is : (x : ObjectView) (m : ℕ) → x ≡ object → x.number ≡ Some m → length statics ≡ m
  number_is x m is num = same_Some (length statics) m (sym number ∙ (sym (ap (λ z. z.number) is) ∙ num))

  linked_more : AreLinked objects statics → AreLinked (objects ++ object ∷ []) (statics ++ new ∷ [])
  linked_more h = record {
    few = λ i m x is num.
        let long = length-append statics (new ∷ []) in
        elim (appended_is objects object i x is) [
          | inl old ↦ (let a = h.few i m x old num in omega (arith, a, long))
          | inr last ↦ (let e = number_is x m last.1 num in omega (arith, e, long))
        ];
    typed = λ i m x o is num at. elim (appended_is objects object i x is) [
      | inl old ↦ h.typed i m x o old num (sym (get_front statics (new ∷ []) m (h.few i m x old num)) ∙ at)
      | inr last ↦ elim (appended_is statics new m o at) [
        | inl first ↦ absurd (let e = number_is x m last.1 num in let w = slice_get_within statics m o first in omega (arith, e, w))
        | inr there ↦ ap (λ z. z.ctype) there.1 ∙ (typed ∙ sym (ap (λ z. z.declared.ctype) last.1))
      ]
    ];
    apart = λ i j m x y isx isy nx ny. elim (appended_is objects object i x isx) [
      | inl oldx ↦ elim (appended_is objects object j y isy) [
        | inl oldy ↦ h.apart i j m x y oldx oldy nx ny
        | inr lasty ↦ absurd (let a = h.few i m x oldx nx in let e = number_is y m lasty.1 ny in omega (arith, a, e))
      ]
      | inr lastx ↦ elim (appended_is objects object j y isy) [
        | inl oldy ↦ absurd (let a = h.few j m y oldy ny in let e = number_is x m lastx.1 nx in omega (arith, a, e))
        | inr lasty ↦ lastx.0 ∙ sym lasty.0
      ]
    ];
  }

  pub declared_good : IsGoodBy k table objects statics → IsGoodBy k table (objects ++ object ∷ []) (statics ++ new ∷ [])
  declared_good good = record {
    settled = good.settled;
    bodies = good.bodies;
    placed = λ n o is. elim (appended_is statics new n o is) [ inl old ↦ good.placed n o old | inr last ↦ inl (ap (λ z. z.stores) last.1 ∙ zero_first) ];
    linked = linked_more good.linked;
  }

-- without one
module _ (k : Known) (table : TypesView) (objects : List ObjectView) (statics : List StaticView) (object : ObjectView) (number : object.number ≡ None) where
  unnumbered : (x : ObjectView) (m : ℕ) → x ≡ object → x.number ≡ Some m → ⊥
  unnumbered x m is num = let e : None ≡ Some m = sym number ∙ (sym (ap (λ z. z.number) is) ∙ num) in cc

  pub undefined_good : IsGoodBy k table objects statics → IsGoodBy k table (objects ++ object ∷ []) statics
  undefined_good good = record {
    settled = good.settled;
    bodies = good.bodies;
    placed = good.placed;
    linked = record {
      few = λ i m x is num. elim (appended_is objects object i x is) [ inl old ↦ good.linked.few i m x old num | inr last ↦ absurd (unnumbered x m last.1 num) ];
      typed = λ i m x o is num at. elim (appended_is objects object i x is) [ inl old ↦ good.linked.typed i m x o old num at | inr last ↦ absurd (unnumbered x m last.1 num) ];
      apart = λ i j m x y isx isy nx ny. elim (appended_is objects object i x isx) [
        | inl oldx ↦ elim (appended_is objects object j y isy) [ inl oldy ↦ good.linked.apart i j m x y oldx oldy nx ny | inr lasty ↦ absurd (unnumbered y m lasty.1 ny) ]
        | inr lastx ↦ absurd (unnumbered x m lastx.1 nx)
      ];
    };
  }

static_kept : (n : NameView) (d : DeclaredView) (s : State) → Keeps s (with_static_object n d s)
static_kept n d s = (
  let long = length-append s.statics (record { name = n.text; at = n.at; ctype = d.ctype; stores = [] } ∷ []) in omega (arith, long),
  λ few good. (declared_good s.known s.types s.objects s.statics (static_declaration (with_name s n.text) d) (record { name = n.text; at = n.at; ctype = d.ctype; stores = [] }) refl refl refl good, later_same s.known s.types),
)

-- ---- changes in place

changed_by : {V : Type 0} (f : V → V) (i : ℕ) (vs : List V) (n : ℕ) (x : V) (there : Option V) → slice_get vs i ≡ there → slice_get (changed_at f i vs there) n ≡ Some x → (o : V) × (slice_get vs n ≡ Some o) × (((n ≡ i) × (x ≡ f o)) ⊎ ((n ≡ i → ⊥) × (x ≡ o)))
changed_by f i vs n x None is at = (x, at, inr (λ same. (let e : None ≡ Some x = sym is ∙ (ap (slice_get vs) (sym same) ∙ at) in cc), refl))
changed_by f i vs n x (Some v) is at = elim (cases_eq n i) [
  | inl same ↦ (v, ap (slice_get vs) same ∙ is, inl (same, set_there vs i (f v) x (ap (slice_get (slice_set vs i (f v))) (sym same) ∙ at)))
  | inr other ↦ (x, sym (set_other vs i n (f v) other) ∙ at, inr (other, refl))
]

pub changed_is : {V : Type 0} (f : V → V) (i : ℕ) (vs : List V) (n : ℕ) (x : V) → slice_get (changed f i vs) n ≡ Some x → (o : V) × (slice_get vs n ≡ Some o) × (((n ≡ i) × (x ≡ f o)) ⊎ ((n ≡ i → ⊥) × (x ≡ o)))
changed_is f i vs n x is = changed_by f i vs n x (slice_get vs i) refl is

changed_at_long : {V : Type 0} (f : V → V) (i : ℕ) (vs : List V) (o : Option V) → length (changed_at f i vs o) ≡ length vs
changed_at_long f i vs None = refl
changed_at_long f i vs (Some v) = set_long vs i (f v)

pub changed_long : {V : Type 0} (f : V → V) (i : ℕ) (vs : List V) → length (changed f i vs) ≡ length vs
changed_long f i vs = changed_at_long f i vs (slice_get vs i)

-- ---- an object with another type

-- the objects of the run where the one with a number is another one, of a type
pub record AreRetyped (k : Known) (number : ℕ) (t : Ty) (before after : List StaticView) : Type 0 where
  pub long : length after ≡ length before
  pub each : (n : ℕ) (x : StaticView) → slice_get after n ≡ Some x → (o : StaticView) × (slice_get before n ≡ Some o) × (((n ≡ number) × (x.ctype ≡ t) × IsPlacedObject k x) ⊎ ((n ≡ number → ⊥) × (x ≡ o)))

module _ (k : Known) (table : TypesView) (objects : List ObjectView) (before after : List StaticView) (index number : ℕ) (t : Ty) (retyped : AreRetyped k number t before after) (here : ObjectView) (at : slice_get objects index ≡ Some here) (numbered : number_or here.number ≡ number) (few : length before ≤ most) (good : IsGoodBy k table objects before) where
  -- an object of the list with its number
  object_is : (i m : ℕ) (x : ObjectView) → slice_get (changed (typed_object t) index objects) i ≡ Some x → x.number ≡ Some m → (o : ObjectView) × (slice_get objects i ≡ Some o) × (o.number ≡ Some m) × (((i ≡ index) × (x.declared.ctype ≡ t)) ⊎ ((i ≡ index → ⊥) × (x ≡ o)))
  object_is i m x is num =
      let c = changed_is (typed_object t) index objects i x is in
      elim c.2 [
        | inl same ↦ (c.0, c.1, sym (ap (λ z. z.number) same.1) ∙ num, inl (same.0, ap (λ z. z.declared.ctype) same.1))
        | inr other ↦ (c.0, c.1, sym (ap (λ z. z.number) other.1) ∙ num, inr other)
      ]

  -- the number is that of the object here alone
  only_here : (i : ℕ) (x : ObjectView) (o : Option ℕ) → here.number ≡ o → slice_get objects i ≡ Some x → x.number ≡ Some number → (i ≡ index → ⊥) → ⊥
  only_here i x (Some m) is there num other =
      let e : m ≡ number = sym (ap number_or is) ∙ numbered in
      other (good.linked.apart i index number x here there at num (is ∙ ap Some e))
  only_here i x None is there num other =
      let e : most ≡ number = sym (ap number_or is) ∙ numbered in
      let w = good.linked.few i number x there num in
      omega (arith, e, w, few)

  retyped_linked : AreLinked (changed (typed_object t) index objects) after
  retyped_linked = record {
    few = λ i m x is num. (let o = object_is i m x is num in let w = good.linked.few i m o.0 o.1 o.2 in let l = retyped.long in omega (arith, w, l));
    typed = λ i m x v is num there.
        let o = object_is i m x is num in
        let r = retyped.each m v there in
        elim o.3 [
          | inl same ↦ elim r.2 [
            | inl this ↦ this.1 ∙ sym same.1
            | inr other ↦ absurd (other.0 (
                let e : o.0 ≡ here = same_Some o.0 here (sym o.1 ∙ (ap (slice_get objects) same.0 ∙ at)) in
                let n : here.number ≡ Some m = ap (λ z. z.number) (sym e) ∙ o.2 in
                sym (ap number_or n) ∙ numbered))
          ]
          | inr other ↦ elim r.2 [
            | inl this ↦ absurd (only_here i o.0 here.number refl o.1 (o.2 ∙ ap Some this.0) other.0)
            | inr kept ↦ ap (λ z. z.ctype) kept.1 ∙ (good.linked.typed i m o.0 r.0 o.1 o.2 r.1 ∙ sym (ap (λ z. z.declared.ctype) other.1))
          ]
        ];
    apart = λ i j m x y isx isy nx ny. (let o = object_is i m x isx nx in let p = object_is j m y isy ny in good.linked.apart i j m o.0 p.0 o.1 p.1 o.2 p.2);
  }

  pub retyped_good : IsGoodBy k table (changed (typed_object t) index objects) after
  retyped_good = record {
    settled = good.settled;
    bodies = good.bodies;
    placed = λ n x is. (let r = retyped.each n x is in elim r.2 [ inl this ↦ this.2 | inr kept ↦ subst (IsPlacedObject k) (sym kept.1) (good.placed n r.0 r.1) ]);
    linked = retyped_linked;
  }

-- ---- initializers

placed_as : (k : Known) (made : Ty) (stores : List StaticStoreView) (o : StaticView) → o.ctype ≡ made → o.stores ≡ stores → is_some (size_of k made) ≡ true → ArePlacedStores k made stores ⊎ HasNoBytes k made → IsPlacedObject k o
placed_as k made stores o is all sized h = inr (
  subst (λ t. is_some (size_of k t) ≡ true) (sym is) sized,
  subst (λ t. ArePlacedStores k t o.stores ⊎ HasNoBytes k t) (sym is) (subst (λ ss. ArePlacedStores k made ss ⊎ HasNoBytes k made) (sym all) h),
)

stored_retyped : (k : Known) (number : ℕ) (made : Ty) (stores : List StaticStoreView) (before : List StaticView) → is_some (size_of k made) ≡ true → ArePlacedStores k made stores ⊎ HasNoBytes k made → AreRetyped k number made before (changed (stored_static stores) number (changed (typed_static made) number before))
stored_retyped k number made stores before sized h = record {
  long = changed_long (stored_static stores) number (changed (typed_static made) number before) ∙ changed_long (typed_static made) number before;
  each = λ n x is.
      let c = changed_is (stored_static stores) number (changed (typed_static made) number before) n x is in
      let b = changed_is (typed_static made) number before n c.0 c.1 in
      elim c.2 [
        | inl same ↦ elim b.2 [
          | inl typed ↦ (b.0, b.1, inl (same.0, ap (λ z. z.ctype) same.1 ∙ ap (λ z. z.ctype) typed.1, placed_as k made stores x (ap (λ z. z.ctype) same.1 ∙ ap (λ z. z.ctype) typed.1) (ap (λ z. z.stores) same.1) sized h))
          | inr other ↦ absurd (other.0 same.0)
        ]
        | inr apart ↦ elim b.2 [
          | inl typed ↦ absurd (apart.0 typed.0)
          | inr other ↦ (b.0, b.1, inr (apart.0, apart.1 ∙ other.1))
        ]
      ];
}

grown_either : (k later : Known) (made : Ty) (stores : List StaticStoreView) → Extends k later → ArePlacedStores k made stores ⊎ HasNoBytes k made → ArePlacedStores later made stores ⊎ HasNoBytes later made
grown_either k later made stores g (inl placed) = inl (stores_grown k later made stores g placed)
grown_either k later made stores g (inr none) = inr (bytes_grown k later made g none)

-- the objects stay as they are
abbrev pub Same : State → State → Type 0
Same s t = (t.objects ≡ s.objects) × (t.statics ≡ s.statics)

same_either : (s : State) (b : Bool) (x y : State) → Same s x → Same s y → Same s (cond b x y)
same_either s true x y g h = g
same_either s false x y g h = h

same_steps : HasSteps Same
same_steps = record {
  same = λ s. (refl, refl);
  trans = λ s t u g h. (h.0 ∙ g.0, h.1 ∙ g.1);
  named = λ s text. (refl, refl);
  literal = λ s at bytes. same_either s (is_evaluated s) _ s (refl, refl) (refl, refl);
  constant = λ s e. (refl, refl);
  called = λ s callee at. same_either s (is_evaluated s) _ s (refl, refl) (refl, refl);
  unevaluated = λ s n. (refl, refl);
  tagged = λ s name. (refl, refl);
}

list_same : (xs : List StoreTree) (s : State) → Same s (with_list s xs)
unfolding with_list
list_same [] s = (refl, refl)
list_same (StoreValue offset e ∷ xs) s = list_same xs (with_constant s e)
list_same (StoreCopy offset l ∷ xs) s = list_same xs s
list_same (StoreText offset room text ∷ xs) s = list_same xs s

expressions_same : (v : InitializedView) (s : State) → Same s (with_expressions s v)
expressions_same (ByTerm e) s = (refl, refl)
expressions_same (ByLvalue l) s = (refl, refl)
expressions_same (ByStores xs) s = list_same xs s

initial_kept : (s u : State) (equals : Place) (index number : ℕ) (t made : Ty) (i : InitializerTree) (v : InitializedView) (stores : List StaticStoreView) → IsNumbered s index number → initializer_of s equals t i ≡ Ok ((v, made), u) → Keeps s u
    → has_size u.known made ≡ true → constant_stores u.known equals v ≡ Ok stores → Keeps u (with_expressions u v) → Keeps s (with_stores equals number stores (with_static_type index number made (with_expressions u v)))
initial_kept s u equals index number t made i v stores numbered is g sized constant kept =
    let w : State = with_expressions u v in
    let same_u : Same s u = subst (λ r. Leads Same s r) is (initializer_leads Same same_steps s equals t i) in
    let same_w = expressions_same v u in
    let long : length (changed (stored_static stores) number (changed (typed_static made) number w.statics)) ≡ length w.statics = changed_long (stored_static stores) number (changed (typed_static made) number w.statics) ∙ changed_long (typed_static made) number w.statics in
    let more_u = g.0 in
    let more_w = kept.0 in (
      omega (arith, long, more_u, more_w),
      λ few good.
          let few_w : length w.statics ≤ most = omega (arith, few, long) in
          let x = g.1 (omega (arith, few_w, more_w)) good in
          let y = kept.1 few_w x.0 in
          let there : slice_get w.objects index ≡ Some numbered.0 = ap (λ l. slice_get l index) (same_w.0 ∙ same_u.0) ∙ numbered.1 in
          let placed : ArePlacedStores u.known made stores ⊎ HasNoBytes u.known made = subst (λ r. IsStored u.known made r) constant (initializer_stored u.known equals t made v sized (stores_placed s u equals t made i v good.settled is)) in (
            retyped_good w.known w.types w.objects w.statics (changed (stored_static stores) number (changed (typed_static made) number w.statics)) index number made
                (stored_retyped w.known number made stores w.statics (sized_grown u.known w.known made y.1.extends sized) (grown_either u.known w.known made stores y.1.extends placed))
                numbered.0 there numbered.2 few_w y.0,
            later_twice s.known u.known w.known s.types u.types w.types x.1 y.1,
          ),
    )

pub bodies_keep : HasBodies Keeps
bodies_keep = record {
  declares = declarations_keep;
  local = λ s text at d. keeps_same s;
  local_type = λ s number t. keeps_same s;
  static = static_kept;
  initial = initial_kept;
}
