-- Steps of typing in a scope grow it; the types of local objects stay, but for that of an object with its own initializer.
use Rattle.std.proofs.Common.{◌≡◌, ◌+◌, ℕ, Bool, true, false, List, [], ◌∷◌, ◌++◌, length, slice_get, Option, Some, None, arith, refl, ◌∙◌}
use Rattle.std.specs.Prelude.{cond}
use Rattle.std.proofs.lemmas.List.{length-append}
use Rattle.std.proofs.lemmas.Option.{same_Some, slice_get_within}
use Rattle.cc_base.specs.declared.diagnostics.Place.{Place}
use Rattle.c_layout.specs.Types.{Ty}
use Rattle.c_layout.specs.CheckedUnits.{LocalView, StaticStoreView}
use Rattle.c_layout.specs.DeclarationTrees.{NameView}
use Rattle.c_types_scopes.specs.DeclaredTypes.{DeclaredView}
use Rattle.c_types_scopes.specs.Names as names
use Rattle.c_types_scopes.specs.Names.{number_in}
use Rattle.c_types_scopes.specs.States.{State, is_evaluated, with_name}
use Rattle.c_types_scopes.specs.declared.meanings.Meaning.TheVariants as meaning
use Rattle.c_types_initializers.specs.StaticStores.{with_expressions}
use Rattle.c_types_statement_rules.specs.Objects.Changes.{changed, changed_at}
use Rattle.c_types_statement_rules.specs.Objects.LocalObjects.{typed_local, typed_object, typed_static, with_automatic, with_static_object, with_local_type, with_static_type, static_declaration}
use Rattle.c_types_statements.specs.StaticInitializers.{stored_static, with_stores}
use Rattle.c_types_theorems.proofs.entries.Expressing.{HasSteps}
use Rattle.c_types_theorems.proofs.entries.Specifying.{HasSpecifiers}
use Rattle.c_types_theorems.proofs.entries.Blocks.{HasBlocks}
use Rattle.c_types_theorems.proofs.units.Kept.{front_stays, set_other}
use Rattle.c_types_theorems.proofs.units.Bodies.{changed_long}
use Rattle.c_types_well_formed_units.specs.Parameters.BodyObjects.{AreLike}
use Rattle.c_types_well_formed_units.proofs.parameters.Longer.{text_more}
use Rattle.c_types_well_formed_units.proofs.parameters.Growing.{scope, Grows, grows_same, grows_twice, grows_names, grows_objects, grows_declared, grows_closed, few_more, few_changed}

-- ---- what becomes of local objects

pub record IsPassed (P : List LocalView → List LocalView → Type 0) : Type 0 where
  pub same : (ls : List LocalView) → P ls ls
  pub trans : (xs ys zs : List LocalView) → P xs ys → P ys zs → P xs zs

abbrev pub Goes : (List LocalView → List LocalView → Type 0) → State → State → Type 0
Goes P s t = Grows (scope s) (scope t) × P s.body.locals t.body.locals

module _ (P : List LocalView → List LocalView → Type 0) (passed : IsPassed P) where
  pub goes_same : (s : State) → Goes P s s
  goes_same s = (grows_same (scope s), passed.same s.body.locals)

  pub goes_twice : (s t u : State) → Goes P s t → Goes P t u → Goes P s u
  goes_twice s t u g h = (grows_twice (scope s) (scope t) (scope u) g.0 h.0, passed.trans s.body.locals t.body.locals u.body.locals g.1 h.1)

  pub goes_named : (s : State) (text : List ℕ) → Goes P s (with_name s text)
  goes_named s text = (grows_names (scope s) (names.with_text s.scopes.names text) (text_more s.scopes.names text), passed.same s.body.locals)

  either : (s : State) (b : Bool) (x y : State) → Goes P s x → Goes P s y → Goes P s (cond b x y)
  either s true x y g h = g
  either s false x y g h = h

  pub steps_go : HasSteps (Goes P)
  steps_go = record {
    same = goes_same;
    trans = goes_twice;
    named = goes_named;
    literal = λ s at bytes. either s (is_evaluated s) _ s (goes_same s) (goes_same s);
    constant = λ s e. goes_same s;
    called = λ s callee at. either s (is_evaluated s) _ s (goes_same s) (goes_same s);
    unevaluated = λ s n. goes_same s;
    tagged = λ s name. goes_same s;
  }

  pub specifiers_go : HasSpecifiers (Goes P)
  specifiers_go = record {
    steps = steps_go;
    tagged = λ s name t. goes_same s;
    enumerated = λ s name value. (grows_declared (scope s) name (meaning.Enumerator value) tt, passed.same s.body.locals);
    struct_more = λ s. goes_same s;
    body = λ s owner. goes_same s;
    member = λ s owner name field e. goes_same s;
    completed = λ s t owner p made first laid g. g;
    enumerations = λ s x. goes_same s;
  }

-- ---- no local object changes

abbrev pub IsSame : List LocalView → List LocalView → Type 0
IsSame xs ys = ys ≡ xs

pub same_passes : IsPassed IsSame
same_passes = record { same = λ ls. refl; trans = λ xs ys zs g h. h ∙ g }

-- ---- types stay

pub like_passes : IsPassed AreLike
like_passes = record {
  same = λ ls. record { each = λ i l is. (l, is, refl) };
  trans = λ xs ys zs g h. record { each = λ i l is. (let b = g.each i l is in let c = h.each i b.0 b.1 in (c.0, c.1, c.2 ∙ b.2)) };
}

like_more : (ls : List LocalView) (l : LocalView) → AreLike ls (ls ++ l ∷ [])
like_more ls l = record { each = λ i m is. (m, front_stays ls (l ∷ []) i m is, refl) }

-- another object gets a type
retyped_other : (ls : List LocalView) (number i : ℕ) (t : Ty) → (i ≡ number → ⊥) → slice_get (changed (typed_local t) number ls) i ≡ slice_get ls i
retyped_other ls number i t other = by_there (slice_get ls number)
  where
    by_there : (o : Option LocalView) → slice_get (changed_at (typed_local t) number ls o) i ≡ slice_get ls i
    by_there None = refl
    by_there (Some l) = set_other ls number i (typed_local t l) other

automatic_like : (n : NameView) (d : DeclaredView) (s : State) → Goes AreLike s (with_automatic n d s)
automatic_like n d s = (
  grows_twice (scope s) (scope (with_name s n.text)) (scope (with_automatic n d s)) (goes_named AreLike like_passes s n.text).0 (grows_declared (scope (with_name s n.text)) (number_in s.scopes.names n.text) (meaning.Local (length s.body.locals)) tt),
  like_more s.body.locals (record { name = n.text; at = n.at; ctype = d.ctype }),
)

started_like : (n : NameView) (d : DeclaredView) (s t : State) (made : Ty) → Goes AreLike (with_automatic n d s) t → Goes AreLike s (with_local_type (length s.body.locals) made t)
started_like n d s t made g =
    let a = goes_twice AreLike like_passes s (with_automatic n d s) t (automatic_like n d s) g in (
      a.0,
      record {
        each = λ i l is.
            let m = a.1.each i l is in
            let less = slice_get_within s.body.locals i l is in
            (m.0, retyped_other t.body.locals (length s.body.locals) i made (λ e. omega (arith, e, less)) ∙ m.1, m.2);
      },
    )

static_like : (n : NameView) (d : DeclaredView) (s : State) → Goes AreLike s (with_static_object n d s)
static_like n d s =
    let t = with_name s n.text in
    let long = length-append s.statics (record { name = n.text; at = n.at; ctype = d.ctype; stores = [] } ∷ []) in
    let u : State = record t { objects = (with_static_object n d s).objects; statics = (with_static_object n d s).statics } in (
      grows_twice (scope s) (scope t) (scope (with_static_object n d s)) (goes_named AreLike like_passes s n.text).0
          (grows_twice (scope t) (scope u) (scope (with_static_object n d s))
          (grows_objects (scope t) u.objects u.statics (few_more s.objects s.statics u.statics (static_declaration t d) (omega (arith, long)) (λ k is. (let e = same_Some (length s.statics) k is in omega (arith, e, long)))))
          (grows_declared (scope u) (number_in s.scopes.names n.text) (meaning.Static (length s.objects)) tt)),
      like_passes.same s.body.locals,
    )

initial_like : (u : State) (equals : Place) (index number : ℕ) (made : Ty) (stores : List StaticStoreView) → Goes AreLike u (with_stores equals number stores (with_static_type index number made u))
initial_like u equals index number made stores = (
  grows_objects (scope u) (with_stores equals number stores (with_static_type index number made u)).objects (with_stores equals number stores (with_static_type index number made u)).statics (few_changed (typed_object made) index u.objects u.statics (with_stores equals number stores (with_static_type index number made u)).statics (λ o. refl) (changed_long (stored_static stores) number (changed (typed_static made) number u.statics) ∙ changed_long (typed_static made) number u.statics)),
  like_passes.same u.body.locals,
)

pub blocks_go : HasBlocks (Goes AreLike)
blocks_go = record {
  specifies = specifiers_go AreLike like_passes;
  in_block = λ s t g. (grows_closed (scope s) (scope t) g.0, g.1);
  automatic = automatic_like;
  started = started_like;
  static = static_like;
  initial = λ s u equals index number t made i v stores numbered is g sized constant kept.
      let w = with_expressions u v in
      let x = with_stores equals number stores (with_static_type index number made w) in
      goes_twice AreLike like_passes s u x g (goes_twice AreLike like_passes u w x kept (initial_like w equals index number made stores));
}
