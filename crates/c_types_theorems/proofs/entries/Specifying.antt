-- What typing a declaration's specifiers and declarators leads to, by what its steps do: of names they declare tags and
-- enumerators alone.
use Rattle.std.proofs.Common.{◌≡◌, ℕ, ◌+◌, ℤ, List, [], ◌∷◌, Option, Some, None, Ok, Err, length, refl}
use Rattle.std.specs.Prelude.{Bool, true, false, is_some}
use Rattle.cc_base.specs.declared.diagnostics.Place.{Place}
use Rattle.c_layout.specs.StructViews.{StructView}
use Rattle.c_layout.specs.StructLayouts.{Partial, no_members, added, finished}
use Rattle.c_layout.specs.SyntaxTrees.{Tree}
use Rattle.c_layout.specs.DeclarationTrees as tree
use Rattle.c_layout.specs.DeclarationTrees.{NameView, SuffixView, DeclaratorLayerView, DeclaratorView, EnumeratorView, SpecTree, SpecTrees, MemberTree, MemberTrees}
use Rattle.c_layout.specs.declared.syntax_tree.declarations.Storage.{Storage}
use Rattle.c_types_rules.specs.Rules.ConstantFolding.{has_number}
use Rattle.c_types_rules.specs.Rules.IntegerKinds.{kind_of}
use Rattle.c_types_rules.specs.declared.rules.integer_kinds.Rank.TheVariants as rank
use Rattle.c_types_scopes.specs.Refusals.{Ruled}
use Rattle.c_types_scopes.specs.Answers.{after, kept}
use Rattle.c_types_scopes.specs.DeclaredTypes.{DeclaredView}
use Rattle.c_types_scopes.specs.Known.{size_of}
use Rattle.c_types_scopes.specs.Names.{number_in, found_tag_here}
use Rattle.c_types_scopes.specs.StructTables as types
use Rattle.c_types_scopes.specs.States.{State, with_name}
use Rattle.c_types_scopes.specs.declared.meanings.Meaning.TheVariants as meaning
use Rattle.c_types_scopes.specs.declared.meanings.Tag.{Tag}
use Rattle.c_types_scopes.specs.declared.meanings.Tag.TheVariants as tag
use Rattle.c_types_operands.specs.Operands.{term_of}
use Rattle.c_types_primary.specs.TypeNames as names
use Rattle.c_types_expressions.specs.Expressions.Expressions.{typed}
use Rattle.c_types_expressions.specs.Expressions.Expressions as expressions
use Rattle.c_types_declarations.specs.ContextSteps.{with_struct, with_tag, with_meaning, with_body, with_member, with_complete}
use Rattle.c_types_declarations.specs.Declarators as declarators
use Rattle.c_types_declarations.specs.Declarators.{StepsView, declared_type}
use Rattle.c_types_declarations.specs.Enumerations as enumerations
use Rattle.c_types_declarations.specs.StructBodies as bodies
use Rattle.c_types_declarations.specs.Specifiers.{SpecifiedView, ReadingView, nothing_read, said}
use Rattle.c_types_declarations.specs.SpecifierTrees as spec
use Rattle.c_types_theorems.proofs.entries.Leading.{Leads, kept_leads, cond_leads, onward, then}
use Rattle.c_types_theorems.proofs.entries.Expressing.{HasSteps, typed_leads, length_leads, struct_tag_leads, enumeration_tag_leads}

-- a relation in which the steps of specifiers and declarators stand too
pub record HasSpecifiers (R : State → State → Type 0) : Type 0 where
  pub steps : HasSteps R
  pub tagged : (s : State) (name : ℕ) (t : Tag) → R s (with_tag s name t)
  pub enumerated : (s : State) (name : ℕ) (value : ℤ) → R s (with_meaning s name (meaning.Enumerator value))
  pub struct_more : (s : State) → R s (with_struct s)
  pub body : (s : State) (owner : ℕ) → R s (with_body s owner)
  pub member : (s : State) (owner name field : ℕ) (e : Option ℕ) → R s (with_member s owner name field e)
  pub completed : (s t : State) (owner : ℕ) (p : Partial) (made : StructView) → types.has_body s.types owner ≡ false → finished p ≡ Some made → R (with_body s owner) t → R s (with_complete t owner made)
  pub enumerations : (s : State) (x : List (List ℤ)) → R s (record s { enumerations = x })

module _ (R : State → State → Type 0) (has : HasSpecifiers R) where
  step : {U V : Type 0} (s : State) (r : Ruled (U × State)) (next : U → State → Ruled (V × State)) → Leads R s r → ((u : U) (t : State) → Leads R t (next u t)) → Leads R s (after r next)
  step s r next = then R has.steps.trans s r next

  go : {V : Type 0} (s t : State) (r : Ruled (V × State)) → R s t → Leads R t r → Leads R s r
  go s t r = onward R has.steps.trans s t r

  stays : {V : Type 0} (s : State) (rule : Ruled V) → Leads R s (kept s rule)
  stays s rule = kept_leads R s s rule (has.steps.same s)

  met : (s : State) (text : List ℕ) → R s (with_name s text)
  met s text = has.steps.named s text

  -- ---- declarators

  suffix_leads : (s : State) (l : Option Tree) → Leads R s (declarators.suffix_length s l)
  suffix_leads s None = has.steps.same s
  suffix_leads s (Some e) = length_leads R has.steps s e

  array_leads : (s : State) (v : StepsView) (a : SuffixView) → Leads R s (declarators.with_array s v a)
  array_leads s v a = step s (declarators.suffix_length s a.length) (declarators.lengthened v) (suffix_leads s a.length) (λ n t. has.steps.same t)

  arrays_lead : (more : List SuffixView) (s : State) (v : StepsView) → Leads R s (declarators.with_arrays s v more)
  arrays_lead [] s v = has.steps.same s
  arrays_lead (a ∷ more) s v = step s (declarators.with_array s v a) (λ w t. declarators.with_arrays t w more) (array_leads s v a) (λ w t. arrays_lead more t w)

  layer_leads : (s : State) (v : StepsView) (l : DeclaratorLayerView) → Leads R s (declarators.with_layer s v l)
  layer_leads s v l = step s (declarators.with_arrays s v l.arrays) (declarators.pointed (length l.stars)) (arrays_lead l.arrays s v) (λ w t. has.steps.same t)

  pub layers_lead : (layers : List DeclaratorLayerView) (s : State) → Leads R s (declarators.typed_steps s layers)
  layers_lead [] s = has.steps.same s
  layers_lead (l ∷ inner) s = step s (declarators.typed_steps s inner) (λ v t. declarators.with_layer t v l) (layers_lead inner s) (λ v t. layer_leads t v l)

  pub declared_leads : (s : State) (at : Place) (d : DeclaredView) (layers : List DeclaratorLayerView) → Leads R s (declared_type s at d layers)
  declared_leads s at d layers = step s (declarators.typed_steps s layers) (declarators.declared_in at d) (layers_lead layers s) (λ v t. stays t (declarators.declared_by t.known at d v))

  -- ---- enumerations

  given_leads : (s : State) (e : Tree) → Leads R s (enumerations.given s e)
  given_leads s e = step s (typed s e) enumerations.kept_value (typed_leads R has.steps s e) (λ x t. has.steps.constant t (term_of x))

  enumerator_leads : (s : State) (e : Option Tree) (last : ℤ) → Leads R s (enumerations.enumerator_value s e last)
  enumerator_leads s None last = has.steps.same s
  enumerator_leads s (Some e) last = given_leads s e

  value_if_leads : (at : Place) (name : ℕ) (value : ℤ) (s : State) (b : Bool) → Leads R s (enumerations.value_if at name value s b)
  value_if_leads at name value s true = has.enumerated s name value
  value_if_leads at name value s false = tt

  value_of_leads : (at : Place) (name : ℕ) (s : State) (v : Option ℤ) → Leads R s (enumerations.value_of at name s v)
  value_of_leads at name s None = tt
  value_of_leads at name s (Some value) = value_if_leads at name value s (has_number (kind_of s.known.numbers rank.Int true) value)

  value_by_leads : (name : ℕ) (n : NameView) (value : Option ℤ) (s : State) → Leads R s (enumerations.value_by name n value s)
  value_by_leads name n value s = cond_leads R s (enumerations.is_free s name n.text) (enumerations.value_of n.at name s value) _ (value_of_leads n.at name s value) tt

  value_leads : (n : NameView) (value : Option ℤ) (s : State) → Leads R s (enumerations.declare_value n value s)
  value_leads n value s = go s (with_name s n.text) (enumerations.declare_value n value s) (met s n.text) (value_by_leads (number_in s.scopes.names n.text) n value (with_name s n.text))

  declare_leads : (s : State) (e : EnumeratorView) (last : ℤ) → Leads R s (enumerations.declare_enumerator s e last)
  declare_leads s e last = step s (enumerations.enumerator_value s e.value last) (enumerations.declare_value e.name) (enumerator_leads s e.value last) (λ v t. value_leads e.name v t)

  enumerators_lead : (es : List EnumeratorView) (s : State) (last : ℤ) → Leads R s (enumerations.enumerator_values s es last)
  enumerators_lead [] s last = has.steps.same s
  enumerators_lead (e ∷ es) s last = step s (enumerations.declare_enumerator s e last) _ (declare_leads s e last) (λ n t. step t (enumerations.enumerator_values t es n) (expressions.before n) (enumerators_lead es t n) (λ ns u. has.steps.same u))

  tag_of_leads : (at : Place) (number name : ℕ) (s : State) (t : Option Tag) → Leads R s (enumerations.tag_of at number name s t)
  tag_of_leads at number name s (Some t) = tt
  tag_of_leads at number name s None = has.tagged s name (tag.Enumeration number)

  tagged_leads : (t : Option NameView) (number : ℕ) (s : State) → Leads R s (enumerations.tagged t number s)
  tagged_leads None number s = has.steps.same s
  tagged_leads (Some t) number s = go s (with_name s t.text) (enumerations.declare_tag t number s) (met s t.text) (tag_of_leads t.at number (number_in s.scopes.names t.text) (with_name s t.text) (found_tag_here s.scopes (number_in s.scopes.names t.text)))

  enumeration_leads : (s : State) (t : Option NameView) (es : List EnumeratorView) → Leads R s (enumerations.enumeration s t es)
  enumeration_leads s t es =
      go s (enumerations.with_enumeration s) (enumerations.enumeration s t es) (has.enumerations s _)
      (step (enumerations.with_enumeration s) (enumerations.enumerator_values (enumerations.with_enumeration s) es _) (enumerations.enumerated_by t (length s.enumerations)) (enumerators_lead es (enumerations.with_enumeration s) _)
      (λ values u. step u (enumerations.tagged t (length s.enumerations) u) (enumerations.valued (length s.enumerations) values) (tagged_leads t (length s.enumerations) u) (λ v w. has.enumerations w _)))

  -- ---- bodies of structs

  alone_of_leads : (at : Place) (name : ℕ) (s : State) (t : Option Tag) → Leads R s (bodies.alone_of at name s t)
  alone_of_leads at name s (Some (tag.Struct number)) = has.steps.same s
  alone_of_leads at name s (Some (tag.Enumeration number)) = tt
  alone_of_leads at name s None = has.steps.trans s (with_struct s) (bodies.new_tag name s).1 (has.struct_more s) (has.tagged (with_struct s) name (tag.Struct (length s.types.structs)))

  alone_leads : (t : NameView) (s : State) → Leads R s (bodies.alone_tag t s)
  alone_leads t s = go s (with_name s t.text) (bodies.alone_tag t s) (met s t.text) (alone_of_leads t.at (number_in s.scopes.names t.text) (with_name s t.text) (found_tag_here s.scopes (number_in s.scopes.names t.text)))

  owned_leads : (s : State) (at : Place) (r : Ruled (ℕ × State)) → Leads R s r → Leads R s (bodies.owned_at at r)
  owned_leads s at (Ok p) h = h
  owned_leads s at (Err f) h = tt

  owner_leads : (at : Place) (t : Option NameView) (s : State) → Leads R s (bodies.owner_of at t s)
  owner_leads at None s = has.struct_more s
  owner_leads at (Some t) s = owned_leads s t.at (bodies.alone_tag t s) (alone_leads t s)

  -- a body whose members are laid out
  laid_body : (owner : ℕ) (at : Place) (u : State) (lay : State → ℕ → Ruled (Partial × State)) (b : Bool) → types.has_body u.types owner ≡ b → ((s1 : State) (n : ℕ) → Leads R s1 (lay s1 n))
      → Leads R u (after (lay (bodies.begun_by b owner at (with_body u owner)).1 (bodies.begun_by b owner at (with_body u owner)).0.number) (bodies.ended (bodies.begun_by b owner at (with_body u owner)).0))
  laid_body owner at u lay true is h = of_laid (lay (with_struct (with_body u owner)) (length (with_body u owner).types.structs))
    where
      of_laid : (r : Ruled (Partial × State)) → Leads R u (after r (bodies.ended (record { owner = owner; at = at; is_repeated = true; number = length (with_body u owner).types.structs })))
      of_laid (Ok p) = tt
      of_laid (Err f) = tt
  laid_body owner at u lay false is h = of_laid (lay (with_body u owner) owner) (h (with_body u owner) owner)
    where
      of_made : (p : Partial) (t : State) (made : Option StructView) → finished p ≡ made → R (with_body u owner) t → Leads R u (bodies.completed at owner made t)
      of_made p t None laid g = tt
      of_made p t (Some made) laid g = has.completed u t owner p made is laid g

      of_laid : (r : Ruled (Partial × State)) → Leads R (with_body u owner) r → Leads R u (after r (bodies.ended (record { owner = owner; at = at; is_repeated = false; number = owner })))
      of_laid (Ok p) g = of_made p.0 p.1 (finished p.0) refl g
      of_laid (Err f) g = tt

  body_leads : (s : State) (at : Place) (t : Option NameView) (lay : State → ℕ → Ruled (Partial × State)) → ((s1 : State) (n : ℕ) → Leads R s1 (lay s1 n)) → Leads R s (after (bodies.begun_body s at t) (λ b s1. after (lay s1 b.number) (bodies.ended b)))
  body_leads s at t lay h = of_owner (bodies.owner_of at t s) (owner_leads at t s)
    where
      of_owner : (r : Ruled ((ℕ × Place) × State)) → Leads R s r → Leads R s (after (after r bodies.begun_of) (λ b s1. after (lay s1 b.number) (bodies.ended b)))
      of_owner (Ok p) g = go s p.1 (after (lay (bodies.begun p.0.0 p.0.1 p.1).1 (bodies.begun p.0.0 p.0.1 p.1).0.number) (bodies.ended (bodies.begun p.0.0 p.0.1 p.1).0)) g (laid_body p.0.0 p.0.1 p.1 lay (types.has_body p.1.types p.0.0) refl h)
      of_owner (Err f) g = tt

  beside_leads : (p : Partial) (s : State) (r : Ruled (Unit {0} × State)) → Leads R s r → Leads R s (bodies.beside p r)
  beside_leads p s (Ok q) h = h
  beside_leads p s (Err f) h = tt

  named_member_leads : (at : Place) (owner name field : ℕ) (e : Option ℕ) (s : State) → Leads R s (bodies.named_by at owner name field e s)
  named_member_leads at owner name field e s = cond_leads R s (types.has_member s.types owner name) _ _ tt (has.member s owner name field e)

  name_member_leads : (owner : ℕ) (n : NameView) (field : ℕ) (e : Option ℕ) (s : State) → Leads R s (bodies.name_member owner n field e s)
  name_member_leads owner n field e s = go s (with_name s n.text) (bodies.name_member owner n field e s) (met s n.text) (named_member_leads n.at owner (number_in s.scopes.names n.text) field e (with_name s n.text))

  field_leads : (owner : ℕ) (n : NameView) (d : DeclaredView) (field : ℕ) (p : Partial) (s : State) (size : Option ℕ) → Leads R s (bodies.field_by owner n d field p s size)
  field_leads owner n d field p s None = tt
  field_leads owner n d field p s (Some size) = beside_leads (added s.known.structs s.known.numbers.pointer p n.text d.ctype) s (bodies.name_member owner n field d.enumeration s) (name_member_leads owner n field d.enumeration s)

  add_field_leads : (owner : ℕ) (stored : Option Storage) (n : NameView) (d : DeclaredView) (field : ℕ) (p : Partial) (s : State) → Leads R s (bodies.add_field owner stored n d field p s)
  add_field_leads owner stored n d field p s = cond_leads R s (bodies.is_stored stored) _ (bodies.field_by owner n d field p s (size_of s.known d.ctype)) tt (field_leads owner n d field p s (size_of s.known d.ctype))

  member_leads : (owner : ℕ) (base : SpecifiedView) (layers : List DeclaratorLayerView) (field : ℕ) (p : Partial) (s : State) (n : Option NameView) → Leads R s (bodies.add_named owner base layers field p s n)
  member_leads owner base layers field p s None = has.steps.same s
  member_leads owner base layers field p s (Some n) = step s (declared_type s n.at base.declared layers) (λ d t. bodies.add_field owner base.storage n d field p t) (declared_leads s n.at base.declared layers) (λ d t. add_field_leads owner base.storage n d field p t)

  members_lead : (ds : List DeclaratorView) (owner : ℕ) (base : SpecifiedView) (count : ℕ) (p : Partial) (s : State) → Leads R s (bodies.declared_members owner base ds count p s)
  members_lead [] owner base count p s = has.steps.same s
  members_lead (d ∷ ds) owner base count p s = step s (bodies.add_member owner base d count p s) _ (member_leads owner base d.layers count p s d.name) (λ q t. members_lead ds owner base (count + 1) q t)

  -- ---- specifiers

  struct_alone_leads : (s : State) (alone : Bool) (at : Place) (t : Option NameView) → Leads R s (spec.struct_alone s alone at t)
  struct_alone_leads s alone at None = tt
  struct_alone_leads s alone at (Some t) = cond_leads R s alone (bodies.alone_tag t s) (names.struct_tag s (spec.name_of t)) (alone_leads t s) (struct_tag_leads R has.steps s (spec.name_of t))

  enumeration_alone_leads : (s : State) (at : Place) (t : Option NameView) → Leads R s (spec.enumeration_alone s at t)
  enumeration_alone_leads s at None = tt
  enumeration_alone_leads s at (Some t) = enumeration_tag_leads R has.steps s at (spec.name_of t)

  mutual
    pub read_leads : (s : State) (alone : Bool) (r : ReadingView) (w : SpecTree) → Leads R s (spec.read s alone r w)
    read_leads s alone r (tree.StorageWord at word) = has.steps.same s
    read_leads s alone r (tree.Qualifier at) = has.steps.same s
    read_leads s alone r (tree.TypeOf at word) = has.steps.same s
    read_leads s alone r (tree.StructTag at t) = step s (spec.struct_alone s alone at t) (spec.struct_said r (is_some t)) (struct_alone_leads s alone at t) (λ n u. has.steps.same u)
    read_leads s alone r (tree.StructBody at t members) =
        step s (spec.struct_body s at t members) (spec.struct_said r (is_some t))
        (body_leads s at t (λ s1 n. spec.laid_out s1 n at 0 no_members members) (λ s1 n. laid_out_leads s1 n at 0 no_members members))
        (λ n u. has.steps.same u)
    read_leads s alone r (tree.EnumTag at t) = step s (spec.enumeration_alone s at t) (spec.enumeration_said r) (enumeration_alone_leads s at t) (λ n u. has.steps.same u)
    read_leads s alone r (tree.EnumBody at t es) = step s (enumerations.enumeration s t es) (spec.enumeration_said r) (enumeration_leads s t es) (λ n u. has.steps.same u)
    read_leads s alone r (tree.TypedefName name) = stays s _

    read_all_lead : (s : State) (alone : Bool) (r : ReadingView) (ws : SpecTrees) → Leads R s (spec.read_all s alone r ws)
    read_all_lead s alone r tree.NoWord = has.steps.same s
    read_all_lead s alone r (tree.MoreWords w ws) = step s (spec.read s alone r w) _ (read_leads s alone r w) (λ r1 s1. read_all_lead s1 alone r1 ws)

    add_members_lead : (s : State) (owner : ℕ) (at : Place) (count : ℕ) (p : Partial) (m : MemberTree) → Leads R s (spec.add_members s owner at count p m)
    add_members_lead s owner at count p (tree.Members ws ds) =
        step s (spec.specifiers s at false ws) (λ base t. bodies.declared_members owner base ds count p t)
        (step s (spec.read_all s false nothing_read ws) (spec.said_in at) (read_all_lead s false nothing_read ws) (λ r t. stays t (said t.known at r)))
        (λ base t. members_lead ds owner base count p t)

    laid_out_leads : (s : State) (owner : ℕ) (at : Place) (count : ℕ) (p : Partial) (ms : MemberTrees) → Leads R s (spec.laid_out s owner at count p ms)
    laid_out_leads s owner at count p tree.NoMember = has.steps.same s
    laid_out_leads s owner at count p (tree.MoreMembers m ms) = step s (spec.add_members s owner at count p m) _ (add_members_lead s owner at count p m) (λ q s1. laid_out_leads s1 owner at q.0 q.1 ms)

  pub specifiers_lead : (s : State) (at : Place) (alone : Bool) (ws : SpecTrees) → Leads R s (spec.specifiers s at alone ws)
  specifiers_lead s at alone ws = step s (spec.read_all s (spec.is_alone alone ws) nothing_read ws) (spec.said_in at) (read_all_lead s (spec.is_alone alone ws) nothing_read ws) (λ r t. stays t (said t.known at r))
