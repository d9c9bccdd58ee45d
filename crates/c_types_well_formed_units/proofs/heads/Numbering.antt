-- The numbers of definitions, which are read before all typing: those of different names differ, and each definition that
-- comes has one that is at most how many came before it.
use Rattle.std.proofs.Common.{◌≡◌, ◌<◌, ◌≤◌, ◌+◌, ◌⊎◌, inl, inr, ℕ, Bool, true, false, List, [], ◌∷◌, ◌++◌, Option, Some, None, arith, refl, ap, subst, sym, ◌∙◌, eq-eqb}
use Rattle.std.specs.Prelude.{cond, nat_eq, is_some, if◌then◌else◌}
use Rattle.std.specs.Map.{lookup}
use Rattle.std.proofs.lemmas.Bool.{eqb-true}
use Rattle.std.proofs.lemmas.Option.{same_Some}
use Rattle.indexmap.specs.IndexMap.{insert_entry}
use Rattle.c_layout.specs.DeclarationTrees.{NameView, InitDeclaratorView, Object, Initialized, Prototype, ExternalTree, Declared, Defined}
use Rattle.c_types_scopes.specs.Definitions as definitions
use Rattle.c_types_scopes.specs.Definitions.{DefinitionsView, function_of}
use Rattle.c_types_scopes.specs.Names.{number_in}
use Rattle.c_types_scopes.specs.States.{State}
use Rattle.c_types.specs.Units.UnitDefinitions.{with_object, with_function, with_named, with_declarator, with_declarators, with_external, with_externals, is_definition, storage_of}
use Rattle.c_types_well_formed_units.proofs.parameters.Longer.{Longer, longer_same, longer_twice, text_more, number_stays}

-- ---- names with their numbers

one_kept : (b : Bool) (v j : ℕ) (x y : Option ℕ) → (x ≡ Some j → y ≡ Some j) → cond b (Some v) x ≡ Some j → cond b (Some v) y ≡ Some j
one_kept true v j x y h e = e
one_kept false v j x y h e = h e

front_found : (es more : List (ℕ × ℕ)) (k j : ℕ) → lookup (nat_eq k) es ≡ Some j → lookup (nat_eq k) (es ++ more) ≡ Some j
front_found [] more k j h = absurd (cc)
front_found (e ∷ es) more k j h = one_kept (nat_eq k e.0) e.1 j (lookup (nat_eq k) es) (lookup (nat_eq k) (es ++ more)) (front_found es more k j) h

one_part : {P : Type 0} (b : Bool) (v j : ℕ) (x y : Option ℕ) → (y ≡ Some j → (x ≡ Some j) ⊎ P) → cond b (Some v) y ≡ Some j → (cond b (Some v) x ≡ Some j) ⊎ P
one_part true v j x y h e = inl e
one_part false v j x y h e = h e

parts_found : (es : List (ℕ × ℕ)) (name v k j : ℕ) → lookup (nat_eq k) (es ++ (name, v) ∷ []) ≡ Some j → (lookup (nat_eq k) es ≡ Some j) ⊎ ((k ≡ name) × (j ≡ v))
parts_found [] name v k j h = by_key (nat_eq k name) refl h
  where
    by_key : (b : Bool) → nat_eq k name ≡ b → cond b (Some v) None ≡ Some j → (lookup (nat_eq k) [] ≡ Some j) ⊎ ((k ≡ name) × (j ≡ v))
    by_key true is e = inr (eqb-true k name is, sym (same_Some v j e))
    by_key false is e = absurd (cc)
parts_found (e ∷ es) name v k j h = one_part (nat_eq k e.0) e.1 j (lookup (nat_eq k) es) (lookup (nat_eq k) (es ++ (name, v) ∷ [])) (parts_found es name v k j) h

one_new : (b : Bool) (v w : ℕ) (x y : Option ℕ) → (x ≡ None → y ≡ Some v) → cond b (Some w) x ≡ None → cond b (Some w) y ≡ Some v
one_new true v w x y h e = absurd (cc)
one_new false v w x y h e = h e

new_found : (es : List (ℕ × ℕ)) (name v : ℕ) → lookup (nat_eq name) es ≡ None → lookup (nat_eq name) (es ++ (name, v) ∷ []) ≡ Some v
new_found [] name v h = ap (λ b. cond b (Some v) None) (eq-eqb name name refl)
new_found (e ∷ es) name v h = one_new (nat_eq name e.0) v e.1 (lookup (nat_eq name) es) (lookup (nat_eq name) (es ++ (name, v) ∷ [])) (new_found es name v) h

one_last : (b : Bool) (e : ℕ × ℕ) (v : ℕ) (es ds fs : List (ℕ × ℕ)) (x : Option ℕ) → (x ≡ None → ds ≡ fs) → cond b (Some e.1) x ≡ None → (if b then (e.0, v) ∷ es else e ∷ ds) ≡ e ∷ fs
one_last true e v es ds fs x h is = absurd (cc)
one_last false e v es ds fs x h is = ap (λ l. e ∷ l) (h is)

new_last : (es : List (ℕ × ℕ)) (name v : ℕ) → lookup (nat_eq name) es ≡ None → insert_entry nat_eq es name v ≡ es ++ (name, v) ∷ []
new_last [] name v h = refl
new_last (e ∷ es) name v h = one_last (nat_eq name e.0) e v es (insert_entry nat_eq es name v) (es ++ (name, v) ∷ []) (lookup (nat_eq name) es) (new_last es name v) h

-- ---- a definition more

pub record IsNumbering (d : DefinitionsView) : Type 0 where
  pub below : (k j : ℕ) → function_of d k ≡ Some j → j < d.count
  pub apart : (k l j : ℕ) → function_of d k ≡ Some j → function_of d l ≡ Some j → k ≡ l

record IsNext (d : DefinitionsView) (name : ℕ) (e : DefinitionsView) : Type 0 where
  kept : (k j : ℕ) → function_of d k ≡ Some j → function_of e k ≡ Some j
  number : ℕ
  named : function_of e name ≡ Some number
  early : number ≤ d.count
  numbering : IsNumbering e

abbrev numbered_by : DefinitionsView → ℕ → Option ℕ → DefinitionsView
numbered_by d name o = record d { functions = cond (is_some o) d.functions (insert_entry nat_eq d.functions name d.count); count = d.count + 1 }

abbrev one_more : DefinitionsView → List (ℕ × ℕ) → DefinitionsView
one_more d fs = record d { functions = fs; count = d.count + 1 }

name_more : (d : DefinitionsView) (name : ℕ) → IsNumbering d → function_of d name ≡ None → IsNext d name (one_more d (d.functions ++ (name, d.count) ∷ []))
name_more d name good none = record {
  kept = λ k j is. front_found d.functions ((name, d.count) ∷ []) k j is;
  number = d.count;
  named = new_found d.functions name d.count none;
  early = omega arith;
  numbering = record {
    below = λ k j is. elim (parts_found d.functions name d.count k j is) [
      | inl old ↦ (let less = good.below k j old in omega (arith, less))
      | inr new ↦ (let same = new.1 in omega (arith, same))
    ];
    apart = λ k l j isk isl. elim (parts_found d.functions name d.count k j isk) [
      | inl oldk ↦ elim (parts_found d.functions name d.count l j isl) [
        | inl oldl ↦ good.apart k l j oldk oldl
        | inr newl ↦ absurd (let less = good.below k j oldk in let same = newl.1 in omega (arith, less, same))
      ]
      | inr newk ↦ elim (parts_found d.functions name d.count l j isl) [
        | inl oldl ↦ absurd (let less = good.below l j oldl in let same = newk.1 in omega (arith, less, same))
        | inr newl ↦ newk.0 ∙ sym newl.0
      ]
    ];
  };
}

next_by : (d : DefinitionsView) (name : ℕ) (o : Option ℕ) → IsNumbering d → function_of d name ≡ o → IsNext d name (numbered_by d name o)
next_by d name (Some j) good is = record {
  kept = λ k i h. h;
  number = j;
  named = is;
  early = (let less = good.below name j is in omega (arith, less));
  numbering = record { below = λ k i h. (let less = good.below k i h in omega (arith, less)); apart = good.apart };
}
next_by d name None good is = subst (λ fs. IsNext d name (one_more d fs)) (sym (new_last d.functions name d.count is)) (name_more d name good is)

-- ---- definitions of a unit

-- names more, and definitions of them
pub record Prepares (s t : State) : Type 0 where
  pub names : Longer s.scopes.names t.scopes.names
  pub kept : (k j : ℕ) → function_of s.definitions k ≡ Some j → function_of t.definitions k ≡ Some j
  pub numbering : IsNumbering s.definitions → IsNumbering t.definitions
  pub table : t.scopes.ordinary ≡ s.scopes.ordinary
  pub functions : t.functions ≡ s.functions
  pub objects : t.objects ≡ s.objects
  pub model : t.known.numbers ≡ s.known.numbers

prepares_same : (s : State) → Prepares s s
prepares_same s = record { names = longer_same s.scopes.names; kept = λ k j h. h; numbering = λ h. h; table = refl; functions = refl; objects = refl; model = refl }

prepares_twice : (s t u : State) → Prepares s t → Prepares t u → Prepares s u
prepares_twice s t u g h = record {
  names = longer_twice s.scopes.names t.scopes.names u.scopes.names g.names h.names;
  kept = λ k j is. h.kept k j (g.kept k j is);
  numbering = λ good. h.numbering (g.numbering good);
  table = h.table ∙ g.table;
  functions = h.functions ∙ g.functions;
  objects = h.objects ∙ g.objects;
  model = h.model ∙ g.model;
}

-- objects change no function
abbrev Skips : State → State → Type 0
Skips s t = Prepares s t × (t.definitions.count ≡ s.definitions.count)

skips_same : (s : State) → Skips s s
skips_same s = (prepares_same s, refl)

object_skips : (n : NameView) (s : State) → Skips s (with_object n s)
object_skips n s = (
  record {
    names = text_more s.scopes.names n.text;
    kept = λ k j h. h;
    numbering = λ h. record { below = h.below; apart = h.apart };
    table = refl;
    functions = refl;
    objects = refl;
    model = refl;
  },
  refl,
)

named_skips : (n : Option NameView) (s : State) → Skips s (with_named n s)
named_skips None s = skips_same s
named_skips (Some n) s = object_skips n s

cond_skips : (s : State) (b : Bool) (t : State) → Skips s t → Skips s (cond b t s)
cond_skips s true t h = h
cond_skips s false t h = skips_same s

declarator_skips : (defines : Bool) (d : InitDeclaratorView) (s : State) → Skips s (with_declarator defines d s)
declarator_skips defines (Object d) s = cond_skips s defines (with_named d.name s) (named_skips d.name s)
declarator_skips defines (Initialized d equals i) s = named_skips d.name s
declarator_skips defines (Prototype f) s = skips_same s

declarators_skip : (defines : Bool) (ds : List InitDeclaratorView) (s : State) → Skips s (with_declarators defines ds s)
unfolding with_declarators
declarators_skip defines [] s = skips_same s
declarators_skip defines (d ∷ ds) s =
    let t = with_declarator defines d s in
    let g = declarator_skips defines d s in
    let h = declarators_skip defines ds t in
    (prepares_twice s t (with_declarators defines ds t) g.0 h.0, h.1 ∙ g.1)

next_function : (n : NameView) (s : State) → IsNumbering s.definitions → IsNext s.definitions (number_in s.scopes.names n.text) (with_function n s).definitions
next_function n s good = next_by s.definitions (number_in s.scopes.names n.text) (function_of s.definitions (number_in s.scopes.names n.text)) good refl

function_prepares : (n : NameView) (s : State) → IsNumbering s.definitions → Prepares s (with_function n s)
function_prepares n s good =
    let next = next_function n s good in record {
      names = text_more s.scopes.names n.text;
      kept = next.kept;
      numbering = λ h. next.numbering;
      table = refl;
      functions = refl;
      objects = refl;
      model = refl;
    }

external_prepares : (e : ExternalTree) (s : State) → IsNumbering s.definitions → Prepares s (with_external e s)
external_prepares (Declared at words ds) s good = (declarators_skip (is_definition (storage_of words)) ds s).0
external_prepares (Defined at words f body) s good = function_prepares f.name s good

pub externals_prepare : (es : List ExternalTree) (s : State) → IsNumbering s.definitions → Prepares s (with_externals es s)
unfolding with_externals
externals_prepare [] s good = prepares_same s
externals_prepare (e ∷ es) s good =
    let g = external_prepares e s good in
    prepares_twice s (with_external e s) (with_externals es (with_external e s)) g (externals_prepare es (with_external e s) (g.numbering good))

-- ---- definitions that come

-- a function whose number is that of its place among the definitions, or an earlier one
pub record IsComing (d : DefinitionsView) (names : List (List ℕ)) (place : ℕ) (text : List ℕ) : Type 0 where
  pub number : ℕ
  pub is : (longer : List (List ℕ)) → Longer names longer → function_of d (number_in longer text) ≡ Some number
  pub early : number ≤ place

abbrev pub Comes : DefinitionsView → List (List ℕ) → ℕ → ExternalTree → Type 0
Comes d names place (Declared at words ds) = Unit {0}
Comes d names place (Defined at words f body) = IsComing d names place f.name.text

abbrev pub behind : ℕ → ExternalTree → ℕ
behind place (Declared at words ds) = place
behind place (Defined at words f body) = place + 1

-- the definitions of external declarations from a place on, and there is none behind them
abbrev pub AllCome : DefinitionsView → List (List ℕ) → ℕ → List ExternalTree → Type 0
AllCome d names place [] = (k j : ℕ) → function_of d k ≡ Some j → j < place
AllCome d names place (e ∷ es) = Comes d names place e × AllCome d names (behind place e) es

comes_first : (e : ExternalTree) (s t : State) → IsNumbering s.definitions → Prepares (with_external e s) t → Comes t.definitions t.scopes.names s.definitions.count e
comes_first (Declared at words ds) s t good g = tt
comes_first (Defined at words f body) s t good g =
    let next = next_function f.name s good in record {
      number = next.number;
      is = λ longer more. ap (function_of t.definitions) (number_stays s.scopes.names longer f.name.text (longer_twice (with_function f.name s).scopes.names t.scopes.names longer g.names more)) ∙ g.kept (number_in s.scopes.names f.name.text) next.number next.named;
      early = next.early;
    }

counted : (e : ExternalTree) (s : State) → (with_external e s).definitions.count ≡ behind s.definitions.count e
counted (Declared at words ds) s = (declarators_skip (is_definition (storage_of words)) ds s).1
counted (Defined at words f body) s = refl

pub externals_come : (es : List ExternalTree) (s : State) → IsNumbering s.definitions → AllCome (with_externals es s).definitions (with_externals es s).scopes.names s.definitions.count es
unfolding with_externals
externals_come [] s good = good.below
externals_come (e ∷ es) s good =
    let t = with_external e s in
    let g = (external_prepares e s good).numbering good in
    let all = with_externals es t in (
      comes_first e s all good (externals_prepare es t g),
      subst (λ n. AllCome all.definitions all.scopes.names n es) (counted e s) (externals_come es t g),
    )
