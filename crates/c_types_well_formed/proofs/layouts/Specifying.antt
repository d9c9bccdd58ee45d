-- Specifiers lay out the structs that they complete.
use Rattle.std.proofs.Common.{◌≡◌, ◌+◌, ℕ, ℤ, List, [], ◌∷◌, Option, Some, None, Ok, Err, length, refl}
use Rattle.std.specs.Prelude.{Bool, true, false, is_some}
use Rattle.cc_base.specs.declared.diagnostics.Place.{Place}
use Rattle.c_layout.specs.StructViews.{StructView}
use Rattle.c_layout.specs.StructLayouts.{Partial, no_members, added, finished}
use Rattle.c_layout.specs.SyntaxTrees.{Tree}
use Rattle.c_layout.specs.DeclarationTrees as tree
use Rattle.c_layout.specs.DeclarationTrees.{NameView, DeclaratorLayerView, DeclaratorView, EnumeratorView, SpecTree, SpecTrees, MemberTree, MemberTrees}
use Rattle.c_layout.specs.declared.syntax_tree.declarations.Storage.{Storage}
use Rattle.c_types_rules.specs.Rules.ConstantFolding.{has_number}
use Rattle.c_types_rules.specs.Rules.IntegerKinds.{kind_of}
use Rattle.c_types_rules.specs.declared.rules.integer_kinds.Rank.TheVariants as rank
use Rattle.c_types_scopes.specs.Refusals.{Ruled}
use Rattle.c_types_scopes.specs.Answers.{after}
use Rattle.c_types_scopes.specs.DeclaredTypes.{DeclaredView}
use Rattle.c_types_scopes.specs.Known.{size_of}
use Rattle.c_types_scopes.specs.Names.{number_in, found_tag_here}
use Rattle.c_types_scopes.specs.StructTables as types
use Rattle.c_types_scopes.specs.States.{State, with_name, with_constant}
use Rattle.c_types_scopes.specs.declared.meanings.Tag.{Tag}
use Rattle.c_types_scopes.specs.declared.meanings.Tag.TheVariants as tag
use Rattle.c_types_operands.specs.Operands.{term_of}
use Rattle.c_types_primary.specs.TypeNames as names
use Rattle.c_types_expressions.specs.Expressions.Expressions.{typed}
use Rattle.c_types_expressions.specs.Expressions.Expressions as expressions
use Rattle.c_types_declarations.specs.ContextSteps.{with_struct, with_body}
use Rattle.c_types_declarations.specs.Declarators.{declared_type}
use Rattle.c_types_declarations.specs.Enumerations as enumerations
use Rattle.c_types_declarations.specs.StructBodies as bodies
use Rattle.c_types_declarations.specs.Specifiers.{SpecifiedView, ReadingView, nothing_read, said}
use Rattle.c_types_declarations.specs.SpecifierTrees as spec
use Rattle.c_types_theorems.proofs.entries.Expressing.{struct_tag_leads, enumeration_tag_leads}
use Rattle.c_types_well_formed.specs.Layouts.LaidStructs.{HasLayouts, SpecifiersLay}
use Rattle.c_types_well_formed.proofs.layouts.Laying.{Lays, MayLay, LaidTo, any, lays_same, lays_twice, onward, then, stays, cond_laid, led, same_structs, struct_more, body_met, member_named, struct_completed, steps_lay}
use Rattle.c_types_well_formed.proofs.layouts.Expressing.{laid_behind, typed_lays}
use Rattle.c_types_well_formed.proofs.layouts.Declaring.{declared_lays}
use Rattle.c_types_well_formed.proofs.layouts.Inside.{AreLaid, laid_nothing, laid_grown, laid_more, laid_finished}

named_lays : (s : State) (text : List ℕ) → HasLayouts s → Lays s (with_name s text)
named_lays s text h = same_structs s (with_name s text) refl refl h

-- ---- enumerations

given_lays : (s : State) (e : Tree) → HasLayouts s → LaidTo s any (enumerations.given s e)
given_lays s e h = then s any any (typed s e) enumerations.kept_value (typed_lays s e h) (λ x t g u. (same_structs t (with_constant t (term_of x)) refl refl g.layouts, tt))

enumerator_lays : (s : State) (e : Option Tree) (last : ℤ) → HasLayouts s → LaidTo s any (enumerations.enumerator_value s e last)
enumerator_lays s None last h = (lays_same s h, tt)
enumerator_lays s (Some e) last h = given_lays s e h

value_if_lays : (at : Place) (name : ℕ) (value : ℤ) (s : State) (b : Bool) → HasLayouts s → LaidTo s any (enumerations.value_if at name value s b)
value_if_lays at name value s true h = (same_structs s _ refl refl h, tt)
value_if_lays at name value s false h = tt

value_of_lays : (at : Place) (name : ℕ) (s : State) (v : Option ℤ) → HasLayouts s → LaidTo s any (enumerations.value_of at name s v)
value_of_lays at name s None h = tt
value_of_lays at name s (Some value) h = value_if_lays at name value s (has_number (kind_of s.known.numbers rank.Int true) value) h

value_lays : (n : NameView) (value : Option ℤ) (s : State) → HasLayouts s → LaidTo s any (enumerations.declare_value n value s)
value_lays n value s h =
    let t : State = with_name s n.text in
    let g = named_lays s n.text h in
    let name : ℕ = number_in s.scopes.names n.text in
    onward s t any (enumerations.declare_value n value s) g (cond_laid t any (enumerations.is_free t name n.text) (enumerations.value_of n.at name t value) _ (value_of_lays n.at name t value g.layouts) tt)

declare_lays : (s : State) (e : EnumeratorView) (last : ℤ) → HasLayouts s → LaidTo s any (enumerations.declare_enumerator s e last)
declare_lays s e last h = then s any any (enumerations.enumerator_value s e.value last) (enumerations.declare_value e.name) (enumerator_lays s e.value last h) (λ v t g u. value_lays e.name v t g.layouts)

enumerators_lay : (es : List EnumeratorView) (s : State) (last : ℤ) → HasLayouts s → LaidTo s any (enumerations.enumerator_values s es last)
enumerators_lay [] s last h = (lays_same s h, tt)
enumerators_lay (e ∷ es) s last h = then s any any (enumerations.declare_enumerator s e last) _ (declare_lays s e last h) (λ n t g u. then t any any (enumerations.enumerator_values t es n) (expressions.before n) (enumerators_lay es t n g.layouts) (λ ns v k w. (lays_same v k.layouts, tt)))

tag_of_lays : (at : Place) (number name : ℕ) (s : State) (t : Option Tag) → HasLayouts s → LaidTo s any (enumerations.tag_of at number name s t)
tag_of_lays at number name s (Some t) h = tt
tag_of_lays at number name s None h = (same_structs s _ refl refl h, tt)

tagged_lays : (t : Option NameView) (number : ℕ) (s : State) → HasLayouts s → LaidTo s any (enumerations.tagged t number s)
tagged_lays None number s h = (lays_same s h, tt)
tagged_lays (Some t) number s h =
    let g = named_lays s t.text h in
    onward s (with_name s t.text) any (enumerations.declare_tag t number s) g (tag_of_lays t.at number (number_in s.scopes.names t.text) (with_name s t.text) (found_tag_here s.scopes (number_in s.scopes.names t.text)) g.layouts)

enumeration_lays : (s : State) (t : Option NameView) (es : List EnumeratorView) → HasLayouts s → LaidTo s any (enumerations.enumeration s t es)
enumeration_lays s t es h =
    let s1 : State = enumerations.with_enumeration s in
    let g = same_structs s s1 refl refl h in
    onward s s1 any (enumerations.enumeration s t es) g
    (then s1 any any (enumerations.enumerator_values s1 es _) (enumerations.enumerated_by t (length s.enumerations)) (enumerators_lay es s1 _ g.layouts)
    (λ values v k u. then v any any (enumerations.tagged t (length s.enumerations) v) (enumerations.valued (length s.enumerations) values) (tagged_lays t (length s.enumerations) v k.layouts) (λ x w l y. (same_structs w _ refl refl l.layouts, tt))))

-- ---- tags and bodies of structs

alone_of_lays : (at : Place) (name : ℕ) (s : State) (t : Option Tag) → HasLayouts s → LaidTo s any (bodies.alone_of at name s t)
alone_of_lays at name s (Some (tag.Struct number)) h = (lays_same s h, tt)
alone_of_lays at name s (Some (tag.Enumeration number)) h = tt
alone_of_lays at name s None h = let g = struct_more s h in (lays_twice s (with_struct s) (bodies.new_tag name s).1 g (same_structs (with_struct s) (bodies.new_tag name s).1 refl refl g.layouts), tt)

alone_lays : (t : NameView) (s : State) → HasLayouts s → LaidTo s any (bodies.alone_tag t s)
alone_lays t s h =
    let g = named_lays s t.text h in
    onward s (with_name s t.text) any (bodies.alone_tag t s) g (alone_of_lays t.at (number_in s.scopes.names t.text) (with_name s t.text) (found_tag_here s.scopes (number_in s.scopes.names t.text)) g.layouts)

owned_lays : (s : State) (at : Place) (r : Ruled (ℕ × State)) → LaidTo s any r → LaidTo s any (bodies.owned_at at r)
owned_lays s at (Ok p) h = h
owned_lays s at (Err f) h = tt

owner_lays : (at : Place) (t : Option NameView) (s : State) → HasLayouts s → LaidTo s any (bodies.owner_of at t s)
owner_lays at None s h = (struct_more s h, tt)
owner_lays at (Some t) s h = owned_lays s t.at (bodies.alone_tag t s) (alone_lays t s h)

-- members that are laid out in what is known then
abbrev AreIn : Partial → State → Type 0
AreIn p t = AreLaid t.known p

-- a body whose members are laid out
laid_body : (owner : ℕ) (at : Place) (u : State) (lay : State → ℕ → Ruled (Partial × State)) (b : Bool) → types.has_body u.types owner ≡ b → HasLayouts u → ((s1 : State) (n : ℕ) → HasLayouts s1 → LaidTo s1 AreIn (lay s1 n))
    → LaidTo u any (after (lay (bodies.begun_by b owner at (with_body u owner)).1 (bodies.begun_by b owner at (with_body u owner)).0.number) (bodies.ended (bodies.begun_by b owner at (with_body u owner)).0))
laid_body owner at u lay true is h g = of_laid (lay (with_struct (with_body u owner)) (length (with_body u owner).types.structs))
  where
    of_laid : (r : Ruled (Partial × State)) → LaidTo u any (after r (bodies.ended (record { owner = owner; at = at; is_repeated = true; number = length (with_body u owner).types.structs })))
    of_laid (Ok p) = tt
    of_laid (Err f) = tt
laid_body owner at u lay false is h g = of_laid (lay (with_body u owner) owner) (g (with_body u owner) owner (body_met u owner h).layouts)
  where
    of_made : (p : Partial) (t : State) (made : Option StructView) → finished p ≡ made → Lays (with_body u owner) t → AreLaid t.known p → LaidTo u any (bodies.completed at owner made t)
    of_made p t None made_is k l = tt
    of_made p t (Some made) made_is k l = (struct_completed u t owner made is h k (laid_finished t.known p made made_is l), tt)

    of_laid : (r : Ruled (Partial × State)) → LaidTo (with_body u owner) AreIn r → LaidTo u any (after r (bodies.ended (record { owner = owner; at = at; is_repeated = false; number = owner })))
    of_laid (Ok p) k = of_made p.0 p.1 (finished p.0) refl k.0 k.1
    of_laid (Err f) k = tt

body_lays : (s : State) (at : Place) (t : Option NameView) (lay : State → ℕ → Ruled (Partial × State)) → HasLayouts s → ((s1 : State) (n : ℕ) → HasLayouts s1 → LaidTo s1 AreIn (lay s1 n)) → LaidTo s any (after (bodies.begun_body s at t) (λ b s1. after (lay s1 b.number) (bodies.ended b)))
body_lays s at t lay h g = of_owner (bodies.owner_of at t s) (owner_lays at t s h)
  where
    of_owner : (r : Ruled ((ℕ × Place) × State)) → LaidTo s any r → LaidTo s any (after (after r bodies.begun_of) (λ b s1. after (lay s1 b.number) (bodies.ended b)))
    of_owner (Ok p) k = onward s p.1 any (after (lay (bodies.begun p.0.0 p.0.1 p.1).1 (bodies.begun p.0.0 p.0.1 p.1).0.number) (bodies.ended (bodies.begun p.0.0 p.0.1 p.1).0)) k.0 (laid_body p.0.0 p.0.1 p.1 lay (types.has_body p.1.types p.0.0) refl k.0.layouts g)
    of_owner (Err f) k = tt

-- ---- members

beside_lays : (p : Partial) (s : State) (r : Ruled (Unit {0} × State)) → AreLaid s.known p → LaidTo s any r → LaidTo s AreIn (bodies.beside p r)
beside_lays p s (Ok q) l h = (h.0, laid_grown s.known q.1.known p h.0.later.extends l)
beside_lays p s (Err f) l h = tt

name_member_lays : (owner : ℕ) (n : NameView) (field : ℕ) (e : Option ℕ) (s : State) → HasLayouts s → LaidTo s any (bodies.name_member owner n field e s)
name_member_lays owner n field e s h =
    let t : State = with_name s n.text in
    let g = named_lays s n.text h in
    let name : ℕ = number_in s.scopes.names n.text in
    onward s t any (bodies.name_member owner n field e s) g (cond_laid t any (types.has_member t.types owner name) _ _ tt (member_named t owner name field e g.layouts, tt))

field_lays : (owner : ℕ) (n : NameView) (d : DeclaredView) (field : ℕ) (p : Partial) (s : State) (size : Option ℕ) → size_of s.known d.ctype ≡ size → HasLayouts s → AreLaid s.known p → LaidTo s AreIn (bodies.field_by owner n d field p s size)
field_lays owner n d field p s None is h l = tt
field_lays owner n d field p s (Some size) is h l =
    beside_lays (added s.known.structs s.known.numbers.pointer p n.text d.ctype) s (bodies.name_member owner n field d.enumeration s) (laid_more s.known p n.text d.ctype size h.proper is l) (name_member_lays owner n field d.enumeration s h)

add_field_lays : (owner : ℕ) (stored : Option Storage) (n : NameView) (d : DeclaredView) (field : ℕ) (p : Partial) (s : State) → HasLayouts s → AreLaid s.known p → LaidTo s AreIn (bodies.add_field owner stored n d field p s)
add_field_lays owner stored n d field p s h l = cond_laid s AreIn (bodies.is_stored stored) _ (bodies.field_by owner n d field p s (size_of s.known d.ctype)) tt (field_lays owner n d field p s (size_of s.known d.ctype) refl h l)

member_lays : (owner : ℕ) (base : SpecifiedView) (layers : List DeclaratorLayerView) (field : ℕ) (p : Partial) (s : State) (n : Option NameView) → HasLayouts s → AreLaid s.known p → LaidTo s AreIn (bodies.add_named owner base layers field p s n)
member_lays owner base layers field p s None h l = (lays_same s h, l)
member_lays owner base layers field p s (Some n) h l = then s any AreIn (declared_type s n.at base.declared layers) (λ d t. bodies.add_field owner base.storage n d field p t) (declared_lays s n.at base.declared layers h) (λ d t g u. add_field_lays owner base.storage n d field p t g.layouts (laid_grown s.known t.known p g.later.extends l))

abbrev AreCountedIn : ℕ × Partial → State → Type 0
AreCountedIn q t = AreLaid t.known q.1

members_lay : (ds : List DeclaratorView) (owner : ℕ) (base : SpecifiedView) (count : ℕ) (p : Partial) (s : State) → HasLayouts s → AreLaid s.known p → LaidTo s AreCountedIn (bodies.declared_members owner base ds count p s)
members_lay [] owner base count p s h l = (lays_same s h, l)
members_lay (d ∷ ds) owner base count p s h l = then s AreIn AreCountedIn (bodies.add_member owner base d count p s) _ (member_lays owner base d.layers count p s d.name h l) (λ q t g k. members_lay ds owner base (count + 1) q t g.layouts k)

-- ---- specifiers

struct_alone_lays : (s : State) (alone : Bool) (at : Place) (t : Option NameView) → HasLayouts s → LaidTo s any (spec.struct_alone s alone at t)
struct_alone_lays s alone at None h = tt
struct_alone_lays s alone at (Some t) h = cond_laid s any alone (bodies.alone_tag t s) (names.struct_tag s (spec.name_of t)) (alone_lays t s h) (led s (names.struct_tag s (spec.name_of t)) h (struct_tag_leads MayLay steps_lay s (spec.name_of t)))

enumeration_alone_lays : (s : State) (at : Place) (t : Option NameView) → HasLayouts s → LaidTo s any (spec.enumeration_alone s at t)
enumeration_alone_lays s at None h = tt
enumeration_alone_lays s at (Some t) h = led s (names.enumeration_tag s at (spec.name_of t)) h (enumeration_tag_leads MayLay steps_lay s at (spec.name_of t))

mutual
  read_lays : (w : SpecTree) (s : State) (alone : Bool) (r : ReadingView) → HasLayouts s → LaidTo s any (spec.read s alone r w)
  read_lays (tree.StorageWord at word) s alone r h = (lays_same s h, tt)
  read_lays (tree.Qualifier at) s alone r h = (lays_same s h, tt)
  read_lays (tree.TypeOf at word) s alone r h = (lays_same s h, tt)
  read_lays (tree.StructTag at t) s alone r h = then s any any (spec.struct_alone s alone at t) (spec.struct_said r (is_some t)) (struct_alone_lays s alone at t h) (λ n v g u. (lays_same v g.layouts, tt))
  read_lays (tree.StructBody at t members) s alone r h =
      then s any any (spec.struct_body s at t members) (spec.struct_said r (is_some t))
      (body_lays s at t (λ s1 n. spec.laid_out s1 n at 0 no_members members) h (λ s1 n h1. laid_out_lays members s1 n at 0 no_members h1 (laid_nothing s1.known)))
      (λ n v g u. (lays_same v g.layouts, tt))
  read_lays (tree.EnumTag at t) s alone r h = then s any any (spec.enumeration_alone s at t) (spec.enumeration_said r) (enumeration_alone_lays s at t h) (λ n v g u. (lays_same v g.layouts, tt))
  read_lays (tree.EnumBody at t es) s alone r h = then s any any (enumerations.enumeration s t es) (spec.enumeration_said r) (enumeration_lays s t es h) (λ n v g u. (lays_same v g.layouts, tt))
  read_lays (tree.TypedefName name) s alone r h = stays s _ h

  read_all_lay : (ws : SpecTrees) (s : State) (alone : Bool) (r : ReadingView) → HasLayouts s → LaidTo s any (spec.read_all s alone r ws)
  read_all_lay tree.NoWord s alone r h = (lays_same s h, tt)
  read_all_lay (tree.MoreWords w ws) s alone r h = then s any any (spec.read s alone r w) _ (read_lays w s alone r h) (λ r1 s1 g u. read_all_lay ws s1 alone r1 g.layouts)

  add_members_lay : (x : MemberTree) (s : State) (owner : ℕ) (at : Place) (count : ℕ) (p : Partial) → HasLayouts s → AreLaid s.known p → LaidTo s AreCountedIn (spec.add_members s owner at count p x)
  add_members_lay (tree.Members ws ds) s owner at count p h l =
      then s any AreCountedIn (spec.specifiers s at false ws) (λ base t. bodies.declared_members owner base ds count p t)
      (then s any any (spec.read_all s false nothing_read ws) (spec.said_in at) (read_all_lay ws s false nothing_read h) (λ r t g u. stays t (said t.known at r) g.layouts))
      (λ base t g u. members_lay ds owner base count p t g.layouts (laid_grown s.known t.known p g.later.extends l))

  laid_out_lays : (xs : MemberTrees) (s : State) (owner : ℕ) (at : Place) (count : ℕ) (p : Partial) → HasLayouts s → AreLaid s.known p → LaidTo s AreIn (spec.laid_out s owner at count p xs)
  laid_out_lays tree.NoMember s owner at count p h l = (lays_same s h, l)
  laid_out_lays (tree.MoreMembers x xs) s owner at count p h l = then s AreCountedIn AreIn (spec.add_members s owner at count p x) _ (add_members_lay x s owner at count p h l) (λ q s1 g k. laid_out_lays xs s1 owner at q.0 q.1 g.layouts k)

pub specifiers_lays : (s : State) (at : Place) (alone : Bool) (ws : SpecTrees) → HasLayouts s → LaidTo s any (spec.specifiers s at alone ws)
specifiers_lays s at alone ws h = then s any any (spec.read_all s (spec.is_alone alone ws) nothing_read ws) (spec.said_in at) (read_all_lay ws s (spec.is_alone alone ws) nothing_read h) (λ r t g u. stays t (said t.known at r) g.layouts)

pub specifiers_lay : SpecifiersLay
specifiers_lay s at alone words h = laid_behind s any (spec.specifiers s at alone words) (specifiers_lays s at alone words h)
