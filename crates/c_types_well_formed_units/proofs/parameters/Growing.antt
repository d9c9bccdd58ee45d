-- What typing knows in a scope grows: names are declared in it, and each means what it is.
use Rattle.std.proofs.Common.{◌≡◌, ◌<◌, ◌≤◌, ◌+◌, ◌-◌, ◌⊎◌, inl, inr, ℕ, zero, suc, Bool, true, false, List, [], ◌∷◌, ◌++◌, length, take, slice_get, Option, Some, None, option_map, arith, refl, ap, subst, sym, ◌∙◌, eq-eqb}
use Rattle.std.specs.Prelude.{cond, nat_lt, ◌==◌}
use Rattle.std.proofs.Math.Seq.{take-append_seam}
use Rattle.std.proofs.lemmas.Bool.{eqb-true, ltb-true}
use Rattle.std.proofs.lemmas.List.{length-append}
use Rattle.std.proofs.lemmas.Option.{same_Some}
use Rattle.c_layout.specs.CheckedUnits.{StaticView}
use Rattle.c_layout.specs.declared.data_model.Model.{Model}
use Rattle.c_types_scopes.specs.DeclaredTypes.{ObjectView, SignatureView}
use Rattle.c_types_scopes.specs.Definitions.{DefinitionsView, function_of}
use Rattle.c_types_scopes.specs.Names as names
use Rattle.c_types_scopes.specs.ScopeTables as table
use Rattle.c_types_scopes.specs.ScopeTables.{TableView, newest, newest_from}
use Rattle.c_types_scopes.specs.States.{State}
use Rattle.c_types_scopes.specs.declared.meanings.Meaning.{Meaning}
use Rattle.c_types_scopes.specs.declared.meanings.Meaning.TheVariants as meaning
use Rattle.c_types_scopes.specs.declared.scope_table.NameDeclaration.{NameDeclaration}
use Rattle.c_types_statement_rules.specs.Objects.Changes.{changed}
use Rattle.c_types_theorems.proofs.units.Kept.{appended_is, front_stays}
use Rattle.c_types_theorems.proofs.units.Bodies.{changed_is}
use Rattle.c_types_well_formed_units.proofs.parameters.Longer.{Longer, longer_same, longer_by, longer_twice, longer_item, last_item}

-- ---- what names mean

-- a function that a name means has the number of the name's definition
abbrev pub IsMeant : List SignatureView → DefinitionsView → ℕ → Meaning → Type 0
IsMeant fs d name (meaning.Function i) = (f : SignatureView) × (slice_get fs i ≡ Some f) × (f.number ≡ function_of d name)
IsMeant fs d name (meaning.Static n) = Unit {0}
IsMeant fs d name (meaning.Local n) = Unit {0}
IsMeant fs d name (meaning.Typedef n) = Unit {0}
IsMeant fs d name (meaning.Enumerator v) = Unit {0}

pub record Means (t : TableView) (ms : List Meaning) (fs : List SignatureView) (d : DefinitionsView) : Type 0 where
  pub each : (i : ℕ) (e : NameDeclaration) → slice_get t.entries i ≡ Some e → (m : Meaning) × (slice_get ms e.meaning ≡ Some m) × IsMeant fs d e.name m

-- a name was declared
pub record HasName (entries : List NameDeclaration) (name : ℕ) : Type 0 where
  pub place : ℕ
  pub declaration : NameDeclaration
  pub there : slice_get entries place ≡ Some declaration
  pub named : declaration.name ≡ name

pub name_longer : (es fs : List NameDeclaration) (name : ℕ) → Longer es fs → HasName es name → HasName fs name
name_longer es fs name g h = record { place = h.place; declaration = h.declaration; there = longer_item es fs h.place h.declaration g h.there; named = h.named }

pub means_by : (a b : TableView) (x y : List Meaning) (f g : List SignatureView) (d e : DefinitionsView) → b ≡ a → y ≡ x → g ≡ f → e ≡ d → Means a x f d → Means b y g e
means_by a b x y f g d e p q r o h = subst (λ z. Means b y g z) (sym o) (subst (λ z. Means b y z d) (sym r) (subst (λ z. Means b z f d) (sym q) (subst (λ z. Means z x f d) (sym p) h)))

pub means_longer : (t : TableView) (x y : List Meaning) (fs : List SignatureView) (d : DefinitionsView) → Longer x y → Means t x fs d → Means t y fs d
means_longer t x y fs d g h = record { each = λ i e is. (let m = h.each i e is in (m.0, longer_item x y e.meaning m.0 g m.1, m.2)) }

-- a name more
pub means_more : (t : TableView) (ms : List Meaning) (fs : List SignatureView) (d : DefinitionsView) (name : ℕ) (m : Meaning) → IsMeant fs d name m → Means t ms fs d → Means (table.declared_in t name (length ms)) (ms ++ m ∷ []) fs d
means_more t ms fs d name m meant h = record { each = λ i e is. by_place i e (appended_is t.entries (record { name = name; meaning = length ms }) i e is) }
  where
    by_place : (i : ℕ) (e : NameDeclaration) → (slice_get t.entries i ≡ Some e) ⊎ ((i ≡ length t.entries) × (e ≡ record { name = name; meaning = length ms })) → (x : Meaning) × (slice_get (ms ++ m ∷ []) e.meaning ≡ Some x) × IsMeant fs d e.name x
    by_place i e (inl old) = let x = h.each i e old in (x.0, front_stays ms (m ∷ []) e.meaning x.0 x.1, x.2)
    by_place i e (inr new) = (m, ap (λ z. slice_get (ms ++ m ∷ []) z.meaning) new.1 ∙ last_item ms m, subst (λ z. IsMeant fs d z.name m) (sym new.1) meant)

-- functions of which none has another number, and more of them
pub record IsRenewed (fs gs : List SignatureView) : Type 0 where
  pub each : (i : ℕ) (f : SignatureView) → slice_get fs i ≡ Some f → (g : SignatureView) × (slice_get gs i ≡ Some g) × (g.number ≡ f.number)

meant_renewed : (fs gs : List SignatureView) (d : DefinitionsView) (name : ℕ) (m : Meaning) → IsRenewed fs gs → IsMeant fs d name m → IsMeant gs d name m
meant_renewed fs gs d name (meaning.Function i) renewed h = let g = renewed.each i h.0 h.1 in (g.0, g.1, g.2 ∙ h.2)
meant_renewed fs gs d name (meaning.Static n) renewed h = tt
meant_renewed fs gs d name (meaning.Local n) renewed h = tt
meant_renewed fs gs d name (meaning.Typedef n) renewed h = tt
meant_renewed fs gs d name (meaning.Enumerator v) renewed h = tt

pub means_renewed : (t : TableView) (ms : List Meaning) (fs gs : List SignatureView) (d : DefinitionsView) → IsRenewed fs gs → Means t ms fs d → Means t ms gs d
means_renewed t ms fs gs d renewed h = record { each = λ i e is. (let m = h.each i e is in (m.0, m.1, meant_renewed fs gs d e.name m.0 renewed m.2)) }

pub renewed_longer : (fs gs : List SignatureView) → Longer fs gs → IsRenewed fs gs
renewed_longer fs gs g = record { each = λ i f is. (f, longer_item fs gs i f g is, refl) }

-- ---- names that are found

-- where the newest declaration of a name stands
newest_there : (at name i : ℕ) (es : List NameDeclaration) (found : Option ℕ) → newest_from at name es found ≡ Some i → (found ≡ Some i) ⊎ ((k : ℕ) × (e : NameDeclaration) × (i ≡ at + k) × (slice_get es k ≡ Some e) × (e.name ≡ name))
unfolding newest_from
newest_there at name i [] found is = inl is
newest_there at name i (d ∷ es) found is = behind (newest_there (at + 1) name i es (cond (d.name == name) (Some at) found) is)
  where
    first : (b : Bool) → (d.name == name) ≡ b → cond b (Some at) found ≡ Some i → (found ≡ Some i) ⊎ ((k : ℕ) × (e : NameDeclaration) × (i ≡ at + k) × (slice_get (d ∷ es) k ≡ Some e) × (e.name ≡ name))
    first true same h = inr (0, d, (let e = same_Some at i h in omega (arith, e)), refl, eqb-true d.name name same)
    first false same h = inl h

    behind : (cond (d.name == name) (Some at) found ≡ Some i) ⊎ ((k : ℕ) × (e : NameDeclaration) × (i ≡ at + 1 + k) × (slice_get es k ≡ Some e) × (e.name ≡ name)) → (found ≡ Some i) ⊎ ((k : ℕ) × (e : NameDeclaration) × (i ≡ at + k) × (slice_get (d ∷ es) k ≡ Some e) × (e.name ≡ name))
    behind (inl h) = first (d.name == name) refl h
    behind (inr h) = inr (suc h.0, h.1, (let e = h.2 in omega (arith, e)), h.3, h.4)

-- where none is found there is none
newest_none : (at name : ℕ) (es : List NameDeclaration) (found : Option ℕ) → newest_from at name es found ≡ None → (found ≡ None) × ((k : ℕ) (e : NameDeclaration) → slice_get es k ≡ Some e → e.name ≡ name → ⊥)
unfolding newest_from
newest_none at name [] found is = (is, λ k e there named. absurd (cc))
newest_none at name (d ∷ es) found is = both (newest_none (at + 1) name es (cond (d.name == name) (Some at) found) is)
  where
    first : (b : Bool) → (d.name == name) ≡ b → cond b (Some at) found ≡ None → (found ≡ None) × (d.name ≡ name → ⊥)
    first true same h = absurd (cc)
    first false same h = (h, λ e. (let t = eq-eqb d.name name e in cc))

    each : (d.name ≡ name → ⊥) → ((k : ℕ) (e : NameDeclaration) → slice_get es k ≡ Some e → e.name ≡ name → ⊥) → (k : ℕ) (e : NameDeclaration) → slice_get (d ∷ es) k ≡ Some e → e.name ≡ name → ⊥
    each here rest zero e there named = here (ap (λ z. z.name) (same_Some d e there) ∙ named)
    each here rest (suc k) e there named = rest k e there named

    both : (cond (d.name == name) (Some at) found ≡ None) × ((k : ℕ) (e : NameDeclaration) → slice_get es k ≡ Some e → e.name ≡ name → ⊥) → (found ≡ None) × ((k : ℕ) (e : NameDeclaration) → slice_get (d ∷ es) k ≡ Some e → e.name ≡ name → ⊥)
    both h = let x = first (d.name == name) refl h.0 in (x.0, each x.1 h.1)

not_before : (i : ℕ) (marks : List ℕ) → marks ≡ [] → nat_lt i (table.outer marks) ≡ false
not_before i marks none = by_test (nat_lt i 0) refl
  where
    by_test : (b : Bool) → nat_lt i 0 ≡ b → nat_lt i (table.outer marks) ≡ false
    by_test true is = absurd (let less = ltb-true i 0 is in omega (arith, less))
    by_test false is = ap (λ l. nat_lt i (table.outer l)) none ∙ is

-- the meaning that is found at a place of the table
abbrev at_place : List Meaning → TableView → ℕ → Option Meaning
at_place ms t i = names.meaning_of ms (table.inner_meaning t (Some i))

place_means : (t : TableView) (ms : List Meaning) (fs : List SignatureView) (d : DefinitionsView) (i : ℕ) (e : NameDeclaration) → t.marks ≡ [] → Means t ms fs d → slice_get t.entries i ≡ Some e → (m : Meaning) × (at_place ms t i ≡ Some m) × IsMeant fs d e.name m
place_means t ms fs d i e none h is =
    let m = h.each i e is in (
      m.0,
      ap (λ b. names.meaning_of ms (cond b None (option_map table.meaning (slice_get t.entries i)))) (not_before i t.marks none) ∙ (ap (λ o. names.meaning_of ms (option_map table.meaning o)) is ∙ m.1),
      m.2,
    )

-- at file scope a name that means nothing was not declared
pub none_declared : (s : State) (name : ℕ) → s.scopes.ordinary.marks ≡ [] → Means s.scopes.ordinary s.scopes.meanings s.functions s.definitions → names.found_here s.scopes name ≡ None → HasName s.scopes.ordinary.entries name → ⊥
none_declared s name outer h found has = by_place (newest s.scopes.ordinary.entries name) refl found
  where
    by_place : (o : Option ℕ) → newest s.scopes.ordinary.entries name ≡ o → names.meaning_of s.scopes.meanings (table.inner_meaning s.scopes.ordinary o) ≡ None → ⊥
    by_place None is e = (newest_none 0 name s.scopes.ordinary.entries None is).1 has.place has.declaration has.there has.named
    by_place (Some i) is e = elim (newest_there 0 name i s.scopes.ordinary.entries None is) [
      | inl none ↦ (let b : ⊥ = cc in b)
      | inr at ↦ (
          let here : slice_get s.scopes.ordinary.entries i ≡ Some at.1 = ap (slice_get s.scopes.ordinary.entries) (let j = at.2 in omega (arith, j)) ∙ at.3 in
          let m = place_means s.scopes.ordinary s.scopes.meanings s.functions s.definitions i at.1 outer h here in
          let both : None ≡ Some m.0 = sym e ∙ m.1 in
          let b : ⊥ = cc in b)
    ]

-- a function that a name means there has its number
pub function_found : (s : State) (name number : ℕ) → s.scopes.ordinary.marks ≡ [] → Means s.scopes.ordinary s.scopes.meanings s.functions s.definitions → names.found_here s.scopes name ≡ Some (meaning.Function number) → (f : SignatureView) × (slice_get s.functions number ≡ Some f) × (f.number ≡ function_of s.definitions name)
function_found s name number outer h found = by_place (newest s.scopes.ordinary.entries name) refl found
  where
    by_place : (o : Option ℕ) → newest s.scopes.ordinary.entries name ≡ o → names.meaning_of s.scopes.meanings (table.inner_meaning s.scopes.ordinary o) ≡ Some (meaning.Function number) → (f : SignatureView) × (slice_get s.functions number ≡ Some f) × (f.number ≡ function_of s.definitions name)
    by_place None is e = absurd (cc)
    by_place (Some i) is e = elim (newest_there 0 name i s.scopes.ordinary.entries None is) [
      | inl none ↦ absurd (cc)
      | inr at ↦ (
          let here : slice_get s.scopes.ordinary.entries i ≡ Some at.1 = ap (slice_get s.scopes.ordinary.entries) (let j = at.2 in omega (arith, j)) ∙ at.3 in
          let m = place_means s.scopes.ordinary s.scopes.meanings s.functions s.definitions i at.1 outer h here in
          let same : m.0 ≡ meaning.Function number = same_Some m.0 (meaning.Function number) (sym m.1 ∙ e) in
          let f = subst (IsMeant s.functions s.definitions at.1.name) same m.2 in
          (f.0, f.1, f.2 ∙ ap (function_of s.definitions) at.4))
    ]

-- ---- objects

-- the objects that were declared with a number are objects of the run
pub record AreFew (objects : List ObjectView) (statics : List StaticView) : Type 0 where
  pub each : (i n : ℕ) (o : ObjectView) → slice_get objects i ≡ Some o → o.number ≡ Some n → n < length statics

pub few_by : (a b : List ObjectView) (x y : List StaticView) → b ≡ a → length y ≡ length x → AreFew a x → AreFew b y
few_by a b x y p q h = record { each = λ i n o is number. (let less = h.each i n o (ap (λ l. slice_get l i) (sym p) ∙ is) number in omega (arith, less, q)) }

-- an object more, of the last number or of none
pub few_more : (objects : List ObjectView) (statics others : List StaticView) (object : ObjectView) → length statics ≤ length others → ((n : ℕ) → object.number ≡ Some n → n < length others) → AreFew objects statics → AreFew (objects ++ object ∷ []) others
few_more objects statics others object long few h = record {
  each = λ i n o is number. (elim (appended_is objects object i o is) [
    | inl old ↦ (let less = h.each i n o old number in omega (arith, less, long))
    | inr new ↦ few n (ap (λ z. z.number) (sym new.1) ∙ number)
  ]);
}

pub few_changed : (f : ObjectView → ObjectView) (index : ℕ) (objects : List ObjectView) (statics others : List StaticView) → ((o : ObjectView) → (f o).number ≡ o.number) → length others ≡ length statics → AreFew objects statics → AreFew (changed f index objects) others
few_changed f index objects statics others same long h = record {
  each = λ i n o is number.
      let c = changed_is f index objects i o is in
      let less : n < length statics = elim c.2 [
        | inl here ↦ h.each i n c.0 c.1 (sym (same c.0) ∙ (ap (λ z. z.number) (sym here.1) ∙ number))
        | inr other ↦ h.each i n c.0 c.1 (ap (λ z. z.number) (sym other.1) ∙ number)
      ] in omega (arith, less, long);
}

-- ---- scopes

-- what a scope has of the unit
pub record ScopeView : Type 0 where
  pub names : List (List ℕ)
  pub ordinary : TableView
  pub meanings : List Meaning
  pub functions : List SignatureView
  pub definitions : DefinitionsView
  pub model : Model
  pub objects : List ObjectView
  pub statics : List StaticView

abbrev pub scope : State → ScopeView
scope s = record { names = s.scopes.names; ordinary = s.scopes.ordinary; meanings = s.scopes.meanings; functions = s.functions; definitions = s.definitions; model = s.known.numbers; objects = s.objects; statics = s.statics }

abbrev pub IsMeaningful : ScopeView → Type 0
IsMeaningful v = Means v.ordinary v.meanings v.functions v.definitions

-- whatever becomes of the functions
pub record GoesOn (v w : ScopeView) : Type 0 where
  pub names : Longer v.names w.names
  pub marks : w.ordinary.marks ≡ v.ordinary.marks
  pub entries : Longer v.ordinary.entries w.ordinary.entries
  pub meanings : Longer v.meanings w.meanings
  pub definitions : w.definitions ≡ v.definitions
  pub model : w.model ≡ v.model
  pub few : AreFew v.objects v.statics → AreFew w.objects w.statics

pub record Grows (v w : ScopeView) : Type 0 where
  pub on : GoesOn v w
  pub functions : w.functions ≡ v.functions
  pub means : IsMeaningful v → IsMeaningful w

pub on_same : (v : ScopeView) → GoesOn v v
on_same v = record { names = longer_same v.names; marks = refl; entries = longer_same v.ordinary.entries; meanings = longer_same v.meanings; definitions = refl; model = refl; few = λ h. h }

pub on_twice : (v w x : ScopeView) → GoesOn v w → GoesOn w x → GoesOn v x
on_twice v w x g h = record {
  names = longer_twice v.names w.names x.names g.names h.names;
  marks = h.marks ∙ g.marks;
  entries = longer_twice v.ordinary.entries w.ordinary.entries x.ordinary.entries g.entries h.entries;
  meanings = longer_twice v.meanings w.meanings x.meanings g.meanings h.meanings;
  definitions = h.definitions ∙ g.definitions;
  model = h.model ∙ g.model;
  few = λ few. h.few (g.few few);
}

pub grows_same : (v : ScopeView) → Grows v v
grows_same v = record { on = on_same v; functions = refl; means = λ h. h }

pub grows_twice : (v w x : ScopeView) → Grows v w → Grows w x → Grows v x
grows_twice v w x g h = record { on = on_twice v w x g.on h.on; functions = h.functions ∙ g.functions; means = λ m. h.means (g.means m) }

-- names that were met, and objects of the run
pub grows_names : (v : ScopeView) (names : List (List ℕ)) → Longer v.names names → Grows v (record v { names = names })
grows_names v names longer = record { on = record { names = longer; marks = refl; entries = longer_same v.ordinary.entries; meanings = longer_same v.meanings; definitions = refl; model = refl; few = λ h. h }; functions = refl; means = λ h. h }

pub grows_objects : (v : ScopeView) (objects : List ObjectView) (statics : List StaticView) → (AreFew v.objects v.statics → AreFew objects statics) → Grows v (record v { objects = objects; statics = statics })
grows_objects v objects statics few = record { on = record { names = longer_same v.names; marks = refl; entries = longer_same v.ordinary.entries; meanings = longer_same v.meanings; definitions = refl; model = refl; few = few }; functions = refl; means = λ h. h }

-- a name is declared
pub grows_declared : (v : ScopeView) (name : ℕ) (m : Meaning) → IsMeant v.functions v.definitions name m → Grows v (record v { ordinary = table.declared_in v.ordinary name (length v.meanings); meanings = v.meanings ++ m ∷ [] })
grows_declared v name m meant = record {
  on = record { names = longer_same v.names; marks = refl; entries = longer_by v.ordinary.entries (record { name = name; meaning = length v.meanings } ∷ []); meanings = longer_by v.meanings (m ∷ []); definitions = refl; model = refl; few = λ h. h };
  functions = refl;
  means = λ h. means_more v.ordinary v.meanings v.functions v.definitions name m meant h;
}

-- ---- scopes that are closed again

last_is : {A : Type 0} (xs : List A) (x : A) → slice_get (xs ++ x ∷ []) (length (xs ++ x ∷ []) - 1) ≡ Some x
last_is xs x = ap (slice_get (xs ++ x ∷ [])) (let l = length-append xs (x ∷ []) in let e : length (xs ++ x ∷ []) - 1 ≡ length xs = omega (arith, l) in e) ∙ last_item xs x

but_last : {A : Type 0} (xs : List A) (x : A) → take (length (xs ++ x ∷ []) - 1) (xs ++ x ∷ []) ≡ xs
but_last xs x = ap (λ n. take n (xs ++ x ∷ [])) (let l = length-append xs (x ∷ []) in let e : length (xs ++ x ∷ []) - 1 ≡ length xs = omega (arith, l) in e) ∙ take-append_seam xs (x ∷ [])

closed_is : (entries more : List NameDeclaration) (marks : List ℕ) → table.closed (record { entries = entries ++ more; marks = marks ++ length entries ∷ [] }) ≡ record { entries = entries; marks = marks }
closed_is entries more marks =
    ap (table.closed_to (record { entries = entries ++ more; marks = marks ++ length entries ∷ [] })) (last_is marks (length entries))
    ∙ (ap (λ l. let t : TableView = record { entries = l; marks = take (length (marks ++ length entries ∷ []) - 1) (marks ++ length entries ∷ []) } in t) (take-append_seam entries more)
    ∙ ap (λ l. let t : TableView = record { entries = entries; marks = l } in t) (but_last marks (length entries)))

-- the names of a scope are let go
pub table_is : (had has : TableView) → has.marks ≡ (table.opened had).marks → Longer (table.opened had).entries has.entries → table.closed has ≡ had
table_is had has marks longer =
    let same : has ≡ record { entries = had.entries ++ longer.more; marks = had.marks ++ length had.entries ∷ [] } = ap (λ l. let t : TableView = record { entries = l; marks = has.marks } in t) longer.is ∙ ap (λ l. let t : TableView = record { entries = had.entries ++ longer.more; marks = l } in t) marks in
    ap table.closed same ∙ closed_is had.entries longer.more had.marks

abbrev pub opened : ScopeView → ScopeView
opened v = record v { ordinary = table.opened v.ordinary }

abbrev pub closed : ScopeView → ScopeView
closed v = record v { ordinary = table.closed v.ordinary }

pub on_closed : (v w : ScopeView) → GoesOn (opened v) w → (table.closed w.ordinary ≡ v.ordinary) × GoesOn v (closed w)
on_closed v w g =
    let same = table_is v.ordinary w.ordinary g.marks g.entries in (
      same,
      record {
        names = g.names;
        marks = ap (λ t. t.marks) same;
        entries = subst (λ t. Longer v.ordinary.entries t.entries) (sym same) (longer_same v.ordinary.entries);
        meanings = g.meanings;
        definitions = g.definitions;
        model = g.model;
        few = g.few;
      },
    )

pub grows_closed : (v w : ScopeView) → Grows (opened v) w → Grows v (closed w)
grows_closed v w g =
    let on = on_closed v w g.on in record {
      on = on.1;
      functions = g.functions;
      means = λ h. means_by v.ordinary (table.closed w.ordinary) w.meanings w.meanings v.functions w.functions v.definitions w.definitions on.0 refl g.functions g.on.definitions (means_longer v.ordinary v.meanings w.meanings v.functions v.definitions g.on.meanings h);
    }
