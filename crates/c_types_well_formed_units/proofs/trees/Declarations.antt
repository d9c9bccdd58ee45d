-- Declarations over proper terminals are proper, and so is what stands behind them.
use Rattle.std.proofs.Common.{◌≡◌, ℕ, Bool, List, [], ◌∷◌, Option, Some, None, inl, inr, sym, subst}
use Rattle.std.specs.Prelude.{◌⊎◌}
use Rattle.c_layout.specs.SyntaxTrees.{Tree}
use Rattle.c_layout.specs.DeclarationTrees as tree
use Rattle.c_layout.specs.DeclarationTrees.{NameView, SuffixView, DeclaratorLayerView, DeclaratorView, EnumeratorView, SpecTree, SpecTrees, MemberTree, MemberTrees, ParameterView, ParametersView, FunctionDeclaratorView, InitializerTree, InitializerTrees, InitDeclaratorView, LocalView, spec_trees}
use Rattle.c_layout.specs.declared.data_model.Model.{Model}
use Rattle.c_parser_tokens.specs.declared.terminals.Terminal.{Terminal}
use Rattle.c_parser_tokens.specs.declared.terminals.Keyword.TheVariants as k
use Rattle.c_parser_tokens.specs.declared.terminals.Punctuator.TheVariants as p
use Rattle.c_parser_expression_grammar.specs.Fronts.{IsSign}
use Rattle.c_parser_expression_grammar.specs.Spans as spans
use Rattle.c_parser_expression_grammar.specs.Spans.{Span, Separated, Chain}
use Rattle.c_parser_declarations.specs.Grammar.Declarators.{Length, IsSuffix, Core, Layers, Shape, IsDeclarator}
use Rattle.c_parser_declarations.specs.Grammar.Declarations.{Optional, IsParameter, Parameters, IsFunction, IsDeclared, IsInitialized, Initializes, IsLocalDeclarator, LocalDeclarators, IsLocal}
use Rattle.c_parser_declarations.specs.Grammar.Initializers.{DeriveInitializer, DeriveItems}
use Rattle.c_parser_declarations.specs.Grammar.Lists.{Listed, Trailed}
use Rattle.c_parser_declarations.specs.Grammar.Specifiers.{Tag, Value, IsEnumerator, Enumerators, IsNamed, DeriveWord, DeriveWords, DeriveMember, DeriveMembers, IsSpec}
use Rattle.c_types_well_formed.specs.WellFormed.ProperStatements.{IsProperIf, AreProperSuffixes, AreProperLayers, AreProperDeclarators, IsProperDeclaratorIf, AreProperEnumerators, IsProperSpec, AreProperSpecs, IsProperMember, AreProperMembers, AreProperWords, IsProperParameter, AreProperItems, AreProperParameters, IsProperFunction, IsProperInitializer, AreProperInitializers, IsProperInitDeclarator, AreProperInitDeclarators, IsProperLocal}
use Rattle.c_types_well_formed_units.specs.Trees.ByteTokens.{AreProperTerminals}
use Rattle.c_types_well_formed_units.proofs.trees.Fronts as front
use Rattle.c_types_well_formed_units.proofs.trees.Expressions.{AllPass, AllFrom, separated, derived}

module _ (m : Model) where
  -- ---- declarators

  length_in : (known : List (List ℕ)) (e : Option Tree) (ts rest : List Terminal) → Length known e ts rest → AreProperTerminals m ts → IsProperIf m e × AreProperTerminals m rest
  length_in known None ts rest is h = (tt, front.same m ts rest is h)
  length_in known (Some e) ts rest is h = derived m e known 2 ts rest is h

  suffixes : (known : List (List ℕ)) (ss : List SuffixView) (ts rest : List Terminal) → Chain (IsSuffix known) ss ts rest → AreProperTerminals m ts → AreProperSuffixes m ss × AreProperTerminals m rest
  suffixes known [] ts rest is h = (tt, front.same m ts rest is h)
  suffixes known (s ∷ ss) ts rest (a, one, more) h =
      let x = length_in known s.length one.inside one.last one.length (front.sign m p.LeftBracket ts one.inside one.opens h) in
      let y = suffixes known ss a rest more (front.sign m p.RightBracket one.last a one.closes x.1) in
      ((x.0, y.0), y.1)

  core : (known : List (List ℕ)) (n : Option NameView) (ts rest : List Terminal) → Core known n ts rest → AreProperTerminals m ts → AreProperTerminals m rest
  core known None ts rest is h = front.same m ts rest is h
  core known (Some n) ts rest is h = front.name m known n.at n.text ts rest is h

  layers : (inner : List DeclaratorLayerView) (layer : DeclaratorLayerView) (known : List (List ℕ)) (n : Option NameView) (ts rest : List Terminal) → Layers inner layer known n ts rest → AreProperTerminals m ts → AreProperLayers m (layer ∷ inner) × AreProperTerminals m rest
  layers [] layer known n ts rest (some, a, b, stars, named, pairs) h =
      let x = suffixes known layer.arrays b rest pairs (core known n a b named (front.stars m layer.stars ts a stars h)) in
      ((x.0, tt), x.1)
  layers (next ∷ inner) layer known n ts rest (a, b, c, d, stars, opens, nested, shut, pairs) h =
      let x = layers inner next known n b c nested (front.sign m p.LeftParenthesis a b opens (front.stars m layer.stars ts a stars h)) in
      let y = suffixes known layer.arrays d rest pairs (front.sign m p.RightParenthesis c d shut x.1) in
      ((y.0, x.0), y.1)

  shape : (ls : List DeclaratorLayerView) (known : List (List ℕ)) (n : Option NameView) (ts rest : List Terminal) → Shape ls known n ts rest → AreProperTerminals m ts → AreProperLayers m ls × AreProperTerminals m rest
  shape [] known n ts rest is h = absurd is
  shape (layer ∷ inner) known n ts rest is h = layers inner layer known n ts rest is h

  declarator : (known : List (List ℕ)) (d : DeclaratorView) (ts rest : List Terminal) → IsDeclarator known d ts rest → AreProperTerminals m ts → AreProperLayers m d.layers × AreProperTerminals m rest
  declarator known d ts rest is h = shape d.layers known d.name ts rest is h

  declarators : (known : List (List ℕ)) (ds : List DeclaratorView) (ts rest : List Terminal) → Listed (IsNamed known) ds ts rest → AreProperTerminals m ts → AreProperDeclarators m ds × AreProperTerminals m rest
  declarators known [] ts rest is h = absurd is
  declarators known (d ∷ []) ts rest is h =
      let x = declarator known d ts rest is.derives h in
      ((x.0, tt), x.1)
  declarators known (d ∷ (next ∷ ds)) ts rest (a, b, one, comma, more) h =
      let x = declarator known d ts a one.derives h in
      let y = declarators known (next ∷ ds) b rest more (front.sign m p.Comma a b comma x.1) in
      ((x.0, y.0), y.1)

  -- ---- specifiers

  tag_in : (known : List (List ℕ)) (n : Option NameView) (ts rest : List Terminal) → Tag known n ts rest → AreProperTerminals m ts → AreProperTerminals m rest
  tag_in known None ts rest is h = front.same m ts rest is h
  tag_in known (Some n) ts rest is h = front.name m known n.at n.text ts rest is h

  value_in : (known : List (List ℕ)) (e : Option Tree) (ts rest : List Terminal) → Value known e ts rest → AreProperTerminals m ts → IsProperIf m e × AreProperTerminals m rest
  value_in known None ts rest is h = (tt, front.same m ts rest is h)
  value_in known (Some e) ts rest (a, is, one) h = derived m e known 2 a rest one (front.sign m p.Assign ts a is h)

  enumerator : (known : List (List ℕ)) (e : EnumeratorView) (ts rest : List Terminal) → IsEnumerator known e ts rest → AreProperTerminals m ts → IsProperIf m e.value × AreProperTerminals m rest
  enumerator known e ts rest is h = value_in known e.value is.behind rest is.value (front.name m known e.name.at e.name.text ts is.behind is.name h)

  listed_enumerators : (known : List (List ℕ)) (es : List EnumeratorView) (ts rest : List Terminal) → Listed (IsEnumerator known) es ts rest → AreProperTerminals m ts → AreProperEnumerators m es × AreProperTerminals m rest
  listed_enumerators known [] ts rest is h = absurd is
  listed_enumerators known (e ∷ []) ts rest is h =
      let x = enumerator known e ts rest is h in
      ((x.0, tt), x.1)
  listed_enumerators known (e ∷ (next ∷ es)) ts rest (a, b, one, comma, more) h =
      let x = enumerator known e ts a one h in
      let y = listed_enumerators known (next ∷ es) b rest more (front.sign m p.Comma a b comma x.1) in
      ((x.0, y.0), y.1)

  trailed_enumerators : (known : List (List ℕ)) (es : List EnumeratorView) (ts rest : List Terminal) → Trailed (IsEnumerator known) es ts rest → AreProperTerminals m ts → AreProperEnumerators m es × AreProperTerminals m rest
  trailed_enumerators known [] ts rest is h = (tt, front.same m ts rest is h)
  trailed_enumerators known (e ∷ es) ts rest (a, b, one, comma, more) h =
      let x = enumerator known e ts a one h in
      let y = trailed_enumerators known es b rest more (front.sign m p.Comma a b comma x.1) in
      ((x.0, y.0), y.1)

  enumerators : (known : List (List ℕ)) (es : List EnumeratorView) (ts rest : List Terminal) → Enumerators known es ts rest → AreProperTerminals m ts → AreProperEnumerators m es × AreProperTerminals m rest
  enumerators known [] ts rest is h = absurd is
  enumerators known (e ∷ es) ts rest (inl is) h = listed_enumerators known (e ∷ es) ts rest is h
  enumerators known (e ∷ es) ts rest (inr is) h = trailed_enumerators known (e ∷ es) ts rest is h

  mutual
    word_in : (w : SpecTree) (known : List (List ℕ)) (ts rest : List Terminal) → DeriveWord w known ts rest → AreProperTerminals m ts → IsProperSpec m w × AreProperTerminals m rest
    word_in (tree.StorageWord at class) known ts rest (place, w, class_is, is) h = (tt, front.word m w ts rest is h)
    word_in (tree.Qualifier at) known ts rest (place, w, class_is, is) h = (tt, front.word m w ts rest is h)
    word_in (tree.TypeOf at named) known ts rest (place, w, class_is, is) h = (tt, front.word m w ts rest is h)
    word_in (tree.StructTag at n) known ts rest (place, some, a, is, named) h = (tt, tag_in known n a rest named (front.word m k.Struct ts a is h))
    word_in (tree.StructBody at n members) known ts rest (place, some, a, b, c, d, is, named, opens, inside, shut) h =
        let x = members_in members known c d inside (front.sign m p.LeftBrace b c opens (tag_in known n a b named (front.word m k.Struct ts a is h))) in
        (x.0, front.sign m p.RightBrace d rest shut x.1)
    word_in (tree.EnumTag at n) known ts rest (place, some, a, is, named) h = (tt, tag_in known n a rest named (front.word m k.Enum ts a is h))
    word_in (tree.EnumBody at n es) known ts rest (place, a, b, c, d, is, named, opens, inside, shut) h =
        let x = enumerators known es c d inside (front.sign m p.LeftBrace b c opens (tag_in known n a b named (front.word m k.Enum ts a is h))) in
        (x.0, front.sign m p.RightBrace d rest shut x.1)
    word_in (tree.TypedefName n) known ts rest is h = (tt, front.typedef_name m known n.at n.text ts rest is h)

    words_in : (ws : SpecTrees) (known : List (List ℕ)) (ts rest : List Terminal) → DeriveWords ws known ts rest → AreProperTerminals m ts → AreProperSpecs m ws × AreProperTerminals m rest
    words_in tree.NoWord known ts rest is h = (tt, front.same m ts rest is h)
    words_in (tree.MoreWords w ws) known ts rest (a, one, more) h =
        let x = word_in w known ts a one h in
        let y = words_in ws known a rest more x.1 in
        ((x.0, y.0), y.1)

    member_in : (x : MemberTree) (known : List (List ℕ)) (ts rest : List Terminal) → DeriveMember x known ts rest → AreProperTerminals m ts → IsProperMember m x × AreProperTerminals m rest
    member_in (tree.Members words ds) known ts rest (a, b, one_type, named, listed, ends) h =
        let x = words_in words known ts a named h in
        let y = declarators known ds a b listed x.1 in
        ((x.0, y.0), front.sign m p.Semicolon b rest ends y.1)

    members_in : (xs : MemberTrees) (known : List (List ℕ)) (ts rest : List Terminal) → DeriveMembers xs known ts rest → AreProperTerminals m ts → AreProperMembers m xs × AreProperTerminals m rest
    members_in tree.NoMember known ts rest is h = (tt, front.same m ts rest is h)
    members_in (tree.MoreMembers x xs) known ts rest (a, one, more) h =
        let y = member_in x known ts a one h in
        let z = members_in xs known a rest more y.1 in
        ((y.0, z.0), z.1)

  pub specified : (known : List (List ℕ)) (ws : List SpecTree) (ts rest : List Terminal) → IsSpec known (spec_trees ws) ts rest → AreProperTerminals m ts → AreProperWords m ws × AreProperTerminals m rest
  specified known ws ts rest is h = words_in (spec_trees ws) known ts rest is.derive h

  -- ---- parameters

  optional : (known : List (List ℕ)) (d : Option DeclaratorView) (ts rest : List Terminal) → Optional known d ts rest → AreProperTerminals m ts → IsProperDeclaratorIf m d × AreProperTerminals m rest
  optional known None ts rest is h = (tt, front.same m ts rest is h)
  optional known (Some d) ts rest is h = declarator known d ts rest is h

  parameter : (known : List (List ℕ)) (x : ParameterView) (ts rest : List Terminal) → IsParameter known x ts rest → AreProperTerminals m ts → IsProperParameter m x × AreProperTerminals m rest
  parameter known x ts rest is h =
      let y = specified known x.words ts is.behind is.spec h in
      let z = optional known x.declarator is.behind rest is.declarator y.1 in
      ((y.0, z.0), z.1)

  items : (known : List (List ℕ)) (xs : List ParameterView) (ts rest : List Terminal) → Listed (IsParameter known) xs ts rest → AreProperTerminals m ts → AreProperItems m xs × AreProperTerminals m rest
  items known [] ts rest is h = absurd is
  items known (x ∷ []) ts rest is h =
      let y = parameter known x ts rest is h in
      ((y.0, tt), y.1)
  items known (x ∷ (next ∷ xs)) ts rest (a, b, one, comma, more) h =
      let y = parameter known x ts a one h in
      let z = items known (next ∷ xs) b rest more (front.sign m p.Comma a b comma y.1) in
      ((y.0, z.0), z.1)

  parameters : (known : List (List ℕ)) (xs : ParametersView) (ts rest : List Terminal) → Parameters known xs ts rest → AreProperTerminals m ts → AreProperParameters m xs × AreProperTerminals m rest
  parameters known tree.NoParameters ts rest is h = (tt, front.same m ts rest is h)
  parameters known tree.OnlyVoid ts rest is h = (tt, front.word m k.Void ts rest is h)
  parameters known (tree.ParameterList xs) ts rest is h = items known xs ts rest is.1 h

  pub function : (known : List (List ℕ)) (f : FunctionDeclaratorView) (ts rest : List Terminal) → IsFunction known f ts rest → AreProperTerminals m ts → IsProperFunction m f × AreProperTerminals m rest
  function known f ts rest is h =
      let named = front.name m known f.name.at f.name.text is.behind_stars is.behind_name is.name (front.stars m f.stars ts is.behind_stars is.stars h) in
      let x = parameters known f.parameters is.inside is.last is.parameters (front.sign m p.LeftParenthesis is.behind_name is.inside is.opens named) in
      (x.0, front.sign m p.RightParenthesis is.last rest is.closes x.1)

  -- ---- initializers

  trailed : (ss : List Span) (ts rest : List Terminal) → AllPass m ss → spans.Trailed ss ts rest → AreProperTerminals m ts → AllFrom m ss × AreProperTerminals m rest
  trailed [] ts rest pass is h = (tt, front.same m ts rest is h)
  trailed (s ∷ ss) ts rest pass (a, from, comma, more) h =
      let f : AreProperTerminals m s.from = subst (AreProperTerminals m) from h in
      let g = trailed ss a rest pass.1 more (front.sign m p.Comma s.to a comma (pass.0 f)) in
      ((f, g.0), g.1)

  either : (ss : List Span) (ts rest : List Terminal) → AllPass m ss → Separated ss ts rest ⊎ spans.Trailed ss ts rest → AreProperTerminals m ts → AllFrom m ss × AreProperTerminals m rest
  either ss ts rest pass (inl is) h = separated m ss ts rest pass is h
  either ss ts rest pass (inr is) h = trailed ss ts rest pass is h

  mutual
    initializer : (i : InitializerTree) (known : List (List ℕ)) (ts rest : List Terminal) → DeriveInitializer i known ts rest → AreProperTerminals m ts → IsProperInitializer m i × AreProperTerminals m rest
    initializer (tree.Single e) known ts rest is h = derived m e known 1 ts rest is h
    initializer (tree.Braces at list) known ts rest (place, some, ss, a, b, opens, parts, inside, shut) h =
        let x = initializers list known ss parts in
        let y = either ss a b x.0 inside (front.sign m p.LeftBrace ts a opens h) in
        (x.1 y.0, front.sign m p.RightBrace b rest shut y.1)

    initializers : (list : InitializerTrees) (known : List (List ℕ)) (ss : List Span) → DeriveItems list known ss → AllPass m ss × (AllFrom m ss → AreProperInitializers m list)
    initializers tree.NoInitializer known ss is = (subst (AllPass m) (sym is) tt, λ h. tt)
    initializers (tree.MoreInitializers i list) known ss (s, others, is, first, rest) =
        let x = initializer i known s.from s.to first in
        let y = initializers list known others rest in (
          subst (AllPass m) (sym is) ((λ h. (x h).1), y.0),
          λ from.
              let f : AllFrom m (s ∷ others) = subst (AllFrom m) is from in
              ((x f.0).0, y.1 f.1),
        )

  -- ---- declarators with initializers

  pub initializes : (known inside : List (List ℕ)) (d : InitDeclaratorView) (ts rest : List Terminal) → Initializes known inside d ts rest → AreProperTerminals m ts → IsProperInitDeclarator m d × AreProperTerminals m rest
  initializes known inside (tree.Object d) ts rest is h =
      let x = declarator known d ts is.behind is.declarator.derives h in
      (x.0, front.same m is.behind rest is.initializer x.1)
  initializes known inside (tree.Initialized d equals i) ts rest is h =
      let x = declarator known d ts is.behind is.declarator.derives h in
      let j = is.initializer in
      let y = initializer i inside j.1 rest j.3 (front.sign m p.Assign is.behind j.1 j.2 x.1) in
      ((x.0, y.0), y.1)
  initializes known inside (tree.Prototype f) ts rest is h =
      let x = function known f ts is.behind is.declarator h in
      (x.0, front.same m is.behind rest is.initializer x.1)

  listed_locals : (known : List (List ℕ)) (ds : List InitDeclaratorView) (ts rest : List Terminal) → Listed (IsLocalDeclarator known) ds ts rest → AreProperTerminals m ts → AreProperInitDeclarators m ds × AreProperTerminals m rest
  listed_locals known [] ts rest is h = absurd is
  listed_locals known (d ∷ []) ts rest is h =
      let x = initializes known known d ts rest is.initializes h in
      ((x.0, tt), x.1)
  listed_locals known (d ∷ (next ∷ ds)) ts rest (a, b, one, comma, more) h =
      let x = initializes known known d ts a one.initializes h in
      let y = listed_locals known (next ∷ ds) b rest more (front.sign m p.Comma a b comma x.1) in
      ((x.0, y.0), y.1)

  local_declarators : (known : List (List ℕ)) (ds : List InitDeclaratorView) (ts rest : List Terminal) → LocalDeclarators known ds ts rest → AreProperTerminals m ts → AreProperInitDeclarators m ds × AreProperTerminals m rest
  local_declarators known [] ts rest is h = (tt, front.same m ts rest is h)
  local_declarators known (d ∷ ds) ts rest is h = listed_locals known (d ∷ ds) ts rest is h

  pub local : (known : List (List ℕ)) (l : LocalView) (ts rest : List Terminal) → IsLocal known l ts rest → AreProperTerminals m ts → IsProperLocal m l × AreProperTerminals m rest
  local known l ts rest is h =
      let x = specified known l.words ts is.behind is.spec h in
      let y = local_declarators known l.declarators is.behind is.last is.declarators x.1 in
      ((x.0, y.0), front.sign m p.Semicolon is.last rest is.ends y.1)
