-- Expressions over proper terminals are proper, and so is what stands behind them.
use Rattle.std.proofs.Common.{◌≡◌, ℕ, Bool, true, false, List, [], ◌∷◌, ◌++◌, Option, Some, None, sym, subst}
use Rattle.cc_base.specs.declared.diagnostics.Place.{Place}
use Rattle.c_layout.specs.SyntaxTrees.{Tree, Trees, LayerView, TypeNameView, Name, Number, Literal, Paren, Subscript, Call, Member, Arrow, Postfix, Prefix, Unary, SizeofExpr, SizeofType, Cast, Binary, Logical, Conditional, Assign, Comma, End, More}
use Rattle.c_layout.specs.declared.data_model.Model.{Model}
use Rattle.c_layout.specs.declared.syntax_tree.expressions.Brackets.{Brackets}
use Rattle.c_layout.specs.declared.syntax_tree.expressions.Constant.{Constant}
use Rattle.c_layout.specs.declared.syntax_tree.expressions.TypeNameWord.{TypeNameWord}
use Rattle.c_layout.specs.declared.syntax_tree.expressions.TypeNameWord.TheVariants as word_of
use Rattle.c_parser_tokens.specs.declared.terminals.Terminal.{Terminal}
use Rattle.c_parser_tokens.specs.declared.terminals.Keyword.TheVariants as k
use Rattle.c_parser_tokens.specs.declared.terminals.Punctuator.TheVariants as p
use Rattle.c_parser_tokens.specs.declared.terminals.Symbol.{Symbol}
use Rattle.c_parser_tokens.specs.declared.terminals.Symbol.TheVariants as symbol
use Rattle.c_parser_expression_grammar.specs.Expressions.{Derives, DeriveEach}
use Rattle.c_parser_expression_grammar.specs.Fronts.{first_symbol, first_text, IsConstant, IsLiteral}
use Rattle.c_parser_expression_grammar.specs.Spans.{Span, Separated, Chain}
use Rattle.c_parser_expression_grammar.specs.TypeNames.{IsTypeNameWord, IsTypeName, IsBrackets, Arrays, Layers, Declarator, Length}
use Rattle.c_layout.specs.ByteTexts.{are_bytes}
use Rattle.c_types_well_formed.specs.WellFormed.ProperTrees.{IsProperConstant, IsProperLiteral, IsProperTree, AreProperTrees}
use Rattle.c_types_well_formed_units.specs.Trees.ByteTokens.{AreProperTerminals}
use Rattle.c_types_well_formed_units.proofs.trees.Fronts as front

module _ (m : Model) where
  -- ---- spans

  -- what stands behind each of them is proper where they are
  abbrev pub AllPass : List Span → Type 0
  AllPass [] = Unit {0}
  AllPass (s ∷ ss) = (AreProperTerminals m s.from → AreProperTerminals m s.to) × AllPass ss

  abbrev pub AllFrom : List Span → Type 0
  AllFrom [] = Unit {0}
  AllFrom (s ∷ ss) = AreProperTerminals m s.from × AllFrom ss

  pass_split : (xs ys : List Span) → AllPass (xs ++ ys) → AllPass xs × AllPass ys
  pass_split [] ys h = (tt, h)
  pass_split (x ∷ xs) ys h = let r = pass_split xs ys h.1 in ((h.0, r.0), r.1)

  from_both : (xs ys : List Span) → AllFrom xs → AllFrom ys → AllFrom (xs ++ ys)
  from_both [] ys h g = g
  from_both (x ∷ xs) ys h g = (h.0, from_both xs ys h.1 g)

  pub separated : (spans : List Span) (ts rest : List Terminal) → AllPass spans → Separated spans ts rest → AreProperTerminals m ts → AllFrom spans × AreProperTerminals m rest
  separated [] ts rest pass is h = (tt, front.same m ts rest is h)
  separated (s ∷ []) ts rest pass is h =
      let f : AreProperTerminals m s.from = subst (AreProperTerminals m) is.0 h in
      ((f, tt), subst (AreProperTerminals m) (sym is.1) (pass.0 f))
  separated (s ∷ (next ∷ more)) ts rest pass is h =
      let f : AreProperTerminals m s.from = subst (AreProperTerminals m) is.1 h in
      let g = separated (next ∷ more) is.0 rest pass.1 is.3 (front.sign m p.Comma s.to is.0 is.2 (pass.0 f)) in
      ((f, g.0), g.1)

  -- ---- type names

  named_word : (known : List (List ℕ)) (w : TypeNameWord) (ts rest : List Terminal) → IsTypeNameWord known w ts rest → AreProperTerminals m ts → AreProperTerminals m rest
  named_word known (word_of.Storage at class) ts rest is h = front.word m is.1 ts rest is.3 h
  named_word known (word_of.Qualifier at) ts rest is h = front.word m is.1 ts rest is.3 h
  named_word known (word_of.Type at named) ts rest is h = front.word m is.1 ts rest is.3 h
  named_word known (word_of.Struct at tag) ts rest is h = front.name m known tag.place tag.text is.1 rest is.3 (front.word m k.Struct ts is.1 is.2 h)
  named_word known (word_of.Enum at tag) ts rest is h = front.name m known tag.place tag.text is.1 rest is.3 (front.word m k.Enum ts is.1 is.2 h)
  named_word known (word_of.Typedef name) ts rest is h = front.typedef_name m known name.place name.text ts rest is h

  named_words : (known : List (List ℕ)) (ws : List TypeNameWord) (ts rest : List Terminal) → Chain (IsTypeNameWord known) ws ts rest → AreProperTerminals m ts → AreProperTerminals m rest
  named_words known [] ts rest is h = front.same m ts rest is h
  named_words known (w ∷ ws) ts rest is h = named_words known ws is.0 rest is.2 (named_word known w ts is.0 is.1 h)

  length_in : (has : Bool) (spans : List Span) (ts rest : List Terminal) → AllPass spans → Length has spans ts rest → AreProperTerminals m ts → AllFrom spans × AreProperTerminals m rest
  length_in false spans ts rest pass is h = (subst AllFrom (sym is.0) tt, front.same m ts rest is.1 h)
  length_in true spans ts rest pass is h =
      let one : AllPass ((record { from = ts; to = rest }) ∷ []) = subst AllPass is pass in
      (subst AllFrom (sym is) (h, tt), one.0 h)

  brackets : (b : Brackets) (spans : List Span) (ts rest : List Terminal) → AllPass spans → IsBrackets b spans ts rest → AreProperTerminals m ts → AllFrom spans × AreProperTerminals m rest
  brackets b spans ts rest pass is h =
      let g = length_in b.has_length spans is.inside is.last pass is.length (front.sign m p.LeftBracket ts is.inside is.opens h) in
      (g.0, front.sign m p.RightBracket is.last rest is.closes g.1)

  arrays : (bs : List Brackets) (spans : List Span) (ts rest : List Terminal) → AllPass spans → Arrays bs spans ts rest → AreProperTerminals m ts → AllFrom spans × AreProperTerminals m rest
  arrays [] spans ts rest pass is h = (subst AllFrom (sym is.0) tt, front.same m ts rest is.1 h)
  arrays (b ∷ bs) spans ts rest pass (own, others, both, a, first, more) h =
      let parts = pass_split own others (subst AllPass both pass) in
      let f = brackets b own ts a parts.0 first h in
      let g = arrays bs others a rest parts.1 more f.1 in
      (subst AllFrom (sym both) (from_both own others f.0 g.0), g.1)

  layers : (inner : List LayerView) (layer : LayerView) (spans : List Span) (ts rest : List Terminal) → AllPass spans → Layers inner layer spans ts rest → AreProperTerminals m ts → AllFrom spans × AreProperTerminals m rest
  layers [] layer spans ts rest pass (some, a, stars, pairs) h = arrays layer.arrays spans a rest pass pairs (front.stars m layer.stars ts a stars h)
  layers (next ∷ inner) layer spans ts rest pass (within, own, both, a, b, c, d, stars, opens, nested, shut, pairs) h =
      let parts = pass_split within own (subst AllPass both pass) in
      let f = layers inner next within b c parts.0 nested (front.sign m p.LeftParenthesis a b opens (front.stars m layer.stars ts a stars h)) in
      let g = arrays layer.arrays own d rest parts.1 pairs (front.sign m p.RightParenthesis c d shut f.1) in
      (subst AllFrom (sym both) (from_both within own f.0 g.0), g.1)

  declarator : (ls : List LayerView) (spans : List Span) (ts rest : List Terminal) → AllPass spans → Declarator ls spans ts rest → AreProperTerminals m ts → AllFrom spans × AreProperTerminals m rest
  declarator [] spans ts rest pass is h = (subst AllFrom (sym is.0) tt, front.same m ts rest is.1 h)
  declarator (layer ∷ inner) spans ts rest pass is h = layers inner layer spans ts rest pass is h

  type_name : (known : List (List ℕ)) (n : TypeNameView) (spans : List Span) (ts rest : List Terminal) → AllPass spans → IsTypeName known n spans ts rest → AreProperTerminals m ts → AllFrom spans × AreProperTerminals m rest
  type_name known n spans ts rest pass is h = declarator n.layers spans is.behind rest pass is.declarator (named_words known n.words ts is.behind is.words h)

  -- ---- leaves

  constant_in : (at : Place) (c : Constant) (ts rest : List Terminal) → IsConstant at c ts rest → AreProperTerminals m ts → IsProperConstant m c
  constant_in at c [] rest is h = absurd (none is.symbol)
    where
      none : symbol.End ≡ symbol.Constant c → ⊥
      none e = cc
  constant_in at c (t ∷ ts) rest is h = h.0.constant c is.symbol

  literal_in : (at : Place) (bytes : List ℕ) (ts rest : List Terminal) → IsLiteral at bytes ts rest → AreProperTerminals m ts → IsProperLiteral bytes
  literal_in at bytes [] rest is h = absurd (none is.symbol)
    where
      none : symbol.End ≡ symbol.Literal → ⊥
      none e = cc
  literal_in at bytes (t ∷ ts) rest is h = subst (λ s. are_bytes s ≡ true) (sym is.spelled) (h.0.literal is.symbol)

  -- ---- the way down

  mutual
    pub derived : (e : Tree) (known : List (List ℕ)) (l : ℕ) (ts rest : List Terminal) → Derives e known l ts rest → AreProperTerminals m ts → IsProperTree m e × AreProperTerminals m rest
    derived (Name at text) known l ts rest is h = (tt, front.name m known at text ts rest is h)
    derived (Number at c) known l ts rest is h = (constant_in at c ts rest is h, front.behind m ts rest is.behind h)
    derived (Literal at bytes) known l ts rest is h = (literal_in at bytes ts rest is h, front.behind m ts rest is.behind h)
    derived (Paren at e) known l ts rest (place, a, b, opens, inner, shut) h =
        let x = derived e known 0 a b inner (front.sign m p.LeftParenthesis ts a opens h) in
        (x.0, front.sign m p.RightParenthesis b rest shut x.1)
    derived (Subscript at e index) known l ts rest (level, a, b, c, place, first, opens, second, shut) h =
        let x = derived e known 15 ts a first h in
        let y = derived index known 0 b c second (front.sign m p.LeftBracket a b opens x.1) in
        ((x.0, y.0), front.sign m p.RightBracket c rest shut y.1)
    derived (Call at name es) known l ts rest (level, spans, a, b, c, is, opens, parts, sep, shut) h =
        let x = each es known 1 spans parts in
        let y = separated spans b c x.0 sep (front.sign m p.LeftParenthesis a b opens (front.name m known at name ts a is h)) in
        (x.1 y.0, front.sign m p.RightParenthesis c rest shut y.1)
    derived (Member at e name) known l ts rest (level, a, b, place, first, dot, is) h =
        let x = derived e known 15 ts a first h in
        (x.0, front.behind m b rest is.behind (front.sign m p.Dot a b dot x.1))
    derived (Arrow at e name) known l ts rest (level, a, b, place, first, arrow, is) h =
        let x = derived e known 15 ts a first h in
        (x.0, front.behind m b rest is.behind (front.sign m p.Arrow a b arrow x.1))
    derived (Postfix at op e) known l ts rest (level, a, place, first, is) h =
        let x = derived e known 15 ts a first h in
        (x.0, front.behind m a rest is.behind x.1)
    derived (Prefix at op e) known l ts rest (level, a, place, is, first) h = derived e known 14 a rest first (front.behind m ts a is.behind h)
    derived (Unary at op e) known l ts rest (level, a, place, is, first) h = derived e known 13 a rest first (front.behind m ts a is.behind h)
    derived (SizeofExpr at e) known l ts rest (level, a, place, is, first) h = derived e known 14 a rest first (front.behind m ts a is.behind h)
    derived (SizeofType at n es) known l ts rest (level, spans, a, b, c, place, is, opens, parts, named, shut) h =
        let x = each es known 2 spans parts in
        let y = type_name known n spans b c x.0 named (front.sign m p.LeftParenthesis a b opens (front.word m k.Sizeof ts a is h)) in
        (x.1 y.0, front.sign m p.RightParenthesis c rest shut y.1)
    derived (Cast at n es e) known l ts rest (level, spans, a, b, c, place, opens, parts, named, shut, first) h =
        let x = each es known 2 spans parts in
        let y = type_name known n spans a b x.0 named (front.sign m p.LeftParenthesis ts a opens h) in
        let z = derived e known 13 c rest first (front.sign m p.RightParenthesis b c shut y.1) in
        ((x.1 y.0, z.0), z.1)
    derived (Binary at op e f) known l ts rest (level, a, b, place, first, is, second) h =
        let x = derived e known _ ts a first h in
        let y = derived f known _ b rest second (front.behind m a b is.behind x.1) in
        ((x.0, y.0), y.1)
    derived (Logical at op e f) known l ts rest (level, a, b, place, first, is, second) h =
        let x = derived e known _ ts a first h in
        let y = derived f known _ b rest second (front.behind m a b is.behind x.1) in
        ((x.0, y.0), y.1)
    derived (Conditional at e f g) known l ts rest (level, a, b, c, d, place, first, question, second, colon, third) h =
        let x = derived e known 3 ts a first h in
        let y = derived f known 0 b c second (front.behind m a b question.behind x.1) in
        let z = derived g known 2 d rest third (front.behind m c d colon.behind y.1) in
        ((x.0, (y.0, z.0)), z.1)
    derived (Assign at op e f) known l ts rest (level, s, among, a, b, place, first, is, second) h =
        let x = derived e known 14 ts a first h in
        let y = derived f known 1 b rest second (front.behind m a b is.behind x.1) in
        ((x.0, y.0), y.1)
    derived (Comma at e f) known l ts rest (level, a, b, place, first, is, second) h =
        let x = derived e known 0 ts a first h in
        let y = derived f known 1 b rest second (front.behind m a b is.behind x.1) in
        ((x.0, y.0), y.1)

    each : (es : Trees) (known : List (List ℕ)) (l : ℕ) (spans : List Span) → DeriveEach es known l spans → AllPass spans × (AllFrom spans → AreProperTrees m es)
    each End known l spans is = (subst AllPass (sym is) tt, λ h. tt)
    each (More e es) known l spans (s, others, is, first, rest) =
        let x = derived e known l s.from s.to first in
        let y = each es known l others rest in (
          subst AllPass (sym is) ((λ h. (x h).1), y.0),
          λ from.
              let f : AllFrom (s ∷ others) = subst AllFrom is from in
              ((x f.0).0, y.1 f.1),
        )
