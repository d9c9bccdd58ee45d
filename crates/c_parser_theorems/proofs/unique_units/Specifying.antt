-- Specifiers are fixed by their terminals and by what ends them.
use Rattle.std.proofs.Common.{◌≡◌, ℕ, ◌≤◌, Bool, true, false, ◌&&◌, ◌||◌, not, cond, List, [], ◌∷◌, Option, Some, None, is_some, ◌⊎◌, inl, inr, refl, sym, ap, subst, ◌∙◌, arith}
use Rattle.c_layout.specs.SyntaxTrees.{Tree}
use Rattle.c_layout.specs.DeclarationTrees.{NameView, SuffixView, DeclaratorLayerView, DeclaratorView, EnumeratorView, SpecTree, SpecTrees, MemberTree, MemberTrees, StorageWord, Qualifier, TypeOf, StructTag, StructBody, EnumTag, EnumBody, TypedefName, NoWord, MoreWords, Members, NoMember, MoreMembers, spec_trees}
use Rattle.c_parser_tokens.specs.declared.terminals.Terminal.{Terminal}
use Rattle.c_parser_tokens.specs.declared.terminals.Symbol.{Symbol}
use Rattle.c_parser_tokens.specs.declared.terminals.Symbol.TheVariants as symbol
use Rattle.c_parser_tokens.specs.declared.terminals.Punctuator.{Punctuator}
use Rattle.c_parser_tokens.specs.declared.terminals.Punctuator.TheVariants as p
use Rattle.c_parser_expression_grammar.specs.Expressions.{Derives}
use Rattle.c_parser_expression_grammar.specs.Fronts.{first_symbol, first_text, is_typedef, is_identifier, IsSign, IsName}
use Rattle.c_parser_expression_grammar.specs.Spans.{Chain}
use Rattle.c_parser_expression_grammar.specs.TypeNames.{Stars}
use Rattle.c_parser_declarations.specs.Grammar.Declarations.{is_declarator_sign, begins_declarator}
use Rattle.c_parser_declarations.specs.Grammar.Declarators.{IsDeclarator, Shape, Core, IsSuffix, is_something}
use Rattle.c_parser_declarations.specs.Grammar.Lists.{Listed}
use Rattle.c_parser_declarations.specs.Grammar.Specifiers.{Tag, Value, IsEnumerator, Enumerators, IsNamed, DeriveWord, DeriveWords, DeriveMember, DeriveMembers, IsSpec}
use Rattle.c_parser_theorems.specs.UniqueExpressions.Endings.{EndsBefore}
use Rattle.c_parser_theorems.proofs.unique_expressions.Reading.{is_comma}
use Rattle.c_parser_theorems.proofs.unique_expressions.WordReading.{WordKind, OfStorage, OfQualifier, OfType, OfStruct, OfEnum, OfOther, word_kind, storage_kind, qualifier_kind, type_kind}
use Rattle.c_parser_theorems.proofs.unique_expressions.Unique.{one_expression}
use Rattle.c_parser_theorems.proofs.unique_units.Listing.{next, true_false, Fixes, all_fix, listed_fix, Rowed, listed_rowed, trailed_rowed, rowed_fix, AtBrace, at_brace, is_right_brace}
use Rattle.c_parser_theorems.proofs.unique_units.Fronts.{names_fix, is_end, Ends}
use Rattle.c_parser_theorems.proofs.unique_units.Declaring.{declarator_fix, ends_by}

-- ---- what a word is, by its first terminal

pub data Kind : Type 0 where
  OfWord : (kind : WordKind) → Kind
  OfName : Kind
  OfNone : Kind

abbrev pub kind_of_keyword : WordKind → Kind
kind_of_keyword OfOther = OfNone
kind_of_keyword kind = OfWord kind

abbrev pub kind_by : Symbol → Bool → Kind
kind_by (symbol.Keyword w) named = kind_of_keyword (word_kind w)
kind_by symbol.Identifier named = cond named OfName OfNone
kind_by _ named = OfNone

-- what begins at the front
abbrev pub kind_at : List (List ℕ) → List Terminal → Kind
kind_at known ts = kind_by (first_symbol ts) (is_typedef known (first_text ts))

abbrev pub kind_of : SpecTree → Kind
kind_of (StorageWord at class) = OfWord (OfStorage class)
kind_of (Qualifier at) = OfWord OfQualifier
kind_of (TypeOf at named) = OfWord (OfType named)
kind_of (StructTag at tag) = OfWord OfStruct
kind_of (StructBody at tag members) = OfWord OfStruct
kind_of (EnumTag at tag) = OfWord OfEnum
kind_of (EnumBody at tag enumerators) = OfWord OfEnum
kind_of (TypedefName name) = OfName

pub kind_is : (w : SpecTree) (known : List (List ℕ)) (ts r : List Terminal) → DeriveWord w known ts r → kind_at known ts ≡ kind_of w
kind_is (StorageWord at class) known ts r (place, w, is, front) = rw (front.symbol, storage_kind w class is)
kind_is (Qualifier at) known ts r (place, w, is, front) = rw (front.symbol, qualifier_kind w is)
kind_is (TypeOf at named) known ts r (place, w, is, front) = rw (front.symbol, type_kind w named is)
kind_is (StructTag at tag) known ts r (place, some, a, front, name) = rw front.symbol
kind_is (StructBody at tag members) known ts r d = rw d.6.symbol
kind_is (EnumTag at tag) known ts r (place, some, a, front, name) = rw front.symbol
kind_is (EnumBody at tag enumerators) known ts r d = rw d.5.symbol
kind_is (TypedefName name) known ts r is = rw (is.symbol, is.among)

-- ---- what ends specifiers: no word, and no `{`

abbrev pub is_left_brace : Symbol → Bool
is_left_brace (symbol.Punctuator p.LeftBrace) = true
is_left_brace _ = false

pub record NoWordAt (known : List (List ℕ)) (ts : List Terminal) : Type 0 where
  pub kind : kind_at known ts ≡ OfNone
  pub brace : is_left_brace (first_symbol ts) ≡ false

-- no terminal that begins a word is a `{`
brace_kind : (x : Symbol) (named : Bool) → is_left_brace x ≡ true → kind_by x named ≡ OfNone
brace_kind (symbol.Punctuator s) named is = refl
brace_kind (symbol.Keyword w) named is = cc
brace_kind symbol.Identifier named is = cc
brace_kind _ named is = refl

either : (b : Bool) → (b ≡ true) ⊎ (b ≡ false)
either true = inl refl
either false = inr refl

kind_none : (w : SpecTree) → kind_of w ≡ OfNone → ⊥
kind_none (StorageWord at class) h = cc
kind_none (Qualifier at) h = cc
kind_none (TypeOf at named) h = cc
kind_none (StructTag at tag) h = cc
kind_none (StructBody at tag members) h = cc
kind_none (EnumTag at tag) h = cc
kind_none (EnumBody at tag enumerators) h = cc
kind_none (TypedefName name) h = cc

pub no_word : (w : SpecTree) (known : List (List ℕ)) (ts r : List Terminal) → DeriveWord w known ts r → kind_at known ts ≡ OfNone → ⊥
no_word w known ts r d none = kind_none w (sym (kind_is w known ts r d) ∙ none)

word_brace : (w : SpecTree) (known : List (List ℕ)) (ts r : List Terminal) → DeriveWord w known ts r → is_left_brace (first_symbol ts) ≡ false
word_brace w known ts r d = by-brace (either (is_left_brace (first_symbol ts)))
  where
    by-brace : (is_left_brace (first_symbol ts) ≡ true) ⊎ (is_left_brace (first_symbol ts) ≡ false) → is_left_brace (first_symbol ts) ≡ false
    by-brace (inl brace) = absurd (no_word w known ts r d (brace_kind (first_symbol ts) (is_typedef known (first_text ts)) brace))
    by-brace (inr other) = other

words_brace : (ws : SpecTrees) (known : List (List ℕ)) (ts r : List Terminal) → DeriveWords ws known ts r → is_left_brace (first_symbol r) ≡ false → is_left_brace (first_symbol ts) ≡ false
words_brace NoWord known ts r same none = rw same at none
words_brace (MoreWords w ws) known ts r (a, one, more) none = word_brace w known ts a one

-- ---- tags and enumerators

tag_fix : (known : List (List ℕ)) (n m : Option NameView) (ts a b c d : List Terminal) → Tag known n ts a → IsSign p.LeftBrace a c → Tag known m ts b → IsSign p.LeftBrace b d → (n ≡ m) × (a ≡ b)
tag_fix known None None ts a b c d one opens two opens-too = (refl, one ∙ sym two)
tag_fix known None (Some m) ts a b c d one opens two opens-too = let at : symbol.Punctuator p.LeftBrace ≡ symbol.Identifier = sym (rw one at opens.symbol) ∙ two.symbol in absurd (cc at)
tag_fix known (Some n) None ts a b c d one opens two opens-too = let at : symbol.Punctuator p.LeftBrace ≡ symbol.Identifier = sym (rw two at opens-too.symbol) ∙ one.symbol in absurd (cc at)
tag_fix known (Some n) (Some m) ts a b c d one opens two opens-too = let same = names_fix n m one two in (ap Some same.0, same.1)

named_tag_fix : (known : List (List ℕ)) (n m : Option NameView) (ts a b : List Terminal) → is_some n ≡ true → Tag known n ts a → is_some m ≡ true → Tag known m ts b → (n ≡ m) × (a ≡ b)
named_tag_fix known None m ts a b some one some-too two = absurd (cc some)
named_tag_fix known (Some n) None ts a b some one some-too two = absurd (cc some-too)
named_tag_fix known (Some n) (Some m) ts a b some one some-too two = let same = names_fix n m one two in (ap Some same.0, same.1)

-- a tag alone is no tag with a body
tag_apart : (known : List (List ℕ)) (n m : Option NameView) (ts a b c : List Terminal) → is_some n ≡ true → Tag known n ts a → is_left_brace (first_symbol a) ≡ false → Tag known m ts b → IsSign p.LeftBrace b c → ⊥
tag_apart known None m ts a b c some one none two opens = cc some
tag_apart known (Some n) None ts a b c some one none two opens = let at : symbol.Punctuator p.LeftBrace ≡ symbol.Identifier = sym (rw two at opens.symbol) ∙ one.symbol in cc at
tag_apart known (Some n) (Some m) ts a b c some one none two opens =
    let same = names_fix n m one two in
    let at : is_left_brace (first_symbol a) ≡ true = rw (same.1, opens.symbol) refl in true_false at none

-- behind an enumerator stands a comma or the `}`
abbrev is_comma_or_brace : Symbol → Bool
is_comma_or_brace (symbol.Punctuator p.Comma) = true
is_comma_or_brace (symbol.Punctuator p.RightBrace) = true
is_comma_or_brace _ = false

abbrev pub EndsItem : List Terminal → Type 0
EndsItem r = is_comma_or_brace (first_symbol r) ≡ true

pub item_comma : (a b : List Terminal) → IsSign p.Comma a b → EndsItem a
item_comma a b comma = rw comma.symbol refl

item_brace_of : (x : Symbol) → is_right_brace x ≡ true → is_comma_or_brace x ≡ true
item_brace_of (symbol.Punctuator p.RightBrace) is = refl
item_brace_of _ is = cc

pub item_brace : (a : List Terminal) → AtBrace a → EndsItem a
item_brace a at = item_brace_of (first_symbol a) at

item_low : (x : Symbol) → is_comma_or_brace x ≡ true → (x ≡ symbol.Punctuator p.Comma) ⊎ (x ≡ symbol.Punctuator p.RightBrace)
item_low (symbol.Punctuator p.Comma) is = inl refl
item_low (symbol.Punctuator p.RightBrace) is = inr refl
item_low _ is = cc

pub item_ends : (l : ℕ) (r : List Terminal) → 1 ≤ l → EndsItem r → EndsBefore l r
item_ends l r positive ends = by (item_low (first_symbol r) ends)
  where
    by : (first_symbol r ≡ symbol.Punctuator p.Comma) ⊎ (first_symbol r ≡ symbol.Punctuator p.RightBrace) → EndsBefore l r
    by (inl at) = rw at (omega arith)
    by (inr at) = rw at (omega arith)

no_assign : (r a : List Terminal) → EndsItem r → IsSign p.Assign r a → ⊥
no_assign r a ends sign = let h : false ≡ true = rw sign.symbol at ends in cc

value_fix : (known : List (List ℕ)) (n m : Option Tree) (ts r s : List Terminal) → Value known n ts r → EndsItem r → Value known m ts s → EndsItem s → (n ≡ m) × (r ≡ s)
value_fix known None None ts r s d er e es = (refl, d ∙ sym e)
value_fix known None (Some y) ts r s d er (a, sign, more) es = absurd (no_assign ts a (rw d at er) sign)
value_fix known (Some x) None ts r s (a, sign, more) er e es = absurd (no_assign ts a (rw e at es) sign)
value_fix known (Some x) (Some y) ts r s (a, sign, more) er (b, sign-too, others) es =
    let from : Derives y known 2 a s = subst (λ (v : List Terminal). Derives y known 2 v s) (sym (next sign sign-too refl)) others in
    let same = one_expression x y known 2 a r s more (item_ends 2 r (omega arith) er) from (item_ends 2 s (omega arith) es) in (ap Some same.0, same.1)

enumerator_fix : (known : List (List ℕ)) (x : EnumeratorView) → Fixes (IsEnumerator known) EndsItem x
enumerator_fix known x y ts r s d er e es =
    let one = names_fix x.name y.name d.name e.name in
    let two = value_fix known x.value y.value d.behind r s d.value er (subst (λ (v : List Terminal). Value known y.value v s) (sym one.1) e.value) es in
    (λ i. record { name = one.0 i; value = two.0 i }, two.1)

enumerator_apart : (known : List (List ℕ)) (x : EnumeratorView) (ts r : List Terminal) → IsEnumerator known x ts r → EndsItem r → AtBrace ts → ⊥
enumerator_apart known x ts r d er at = let h : false ≡ true = rw d.name.symbol at at in cc

enumerators_row : (known : List (List ℕ)) (es : List EnumeratorView) (ts r : List Terminal) → Enumerators known es ts r → Rowed (IsEnumerator known) es ts r
enumerators_row known [] ts r d = absurd d
enumerators_row known (e ∷ es) ts r (inl d) = listed_rowed (IsEnumerator known) (e ∷ es) ts r d
enumerators_row known (e ∷ es) ts r (inr d) = trailed_rowed (IsEnumerator known) (e ∷ es) ts r d

enumerators_fix : (known : List (List ℕ)) (xs ys : List EnumeratorView) (ts r s : List Terminal) → Enumerators known xs ts r → AtBrace r → Enumerators known ys ts s → AtBrace s → (xs ≡ ys) × (r ≡ s)
enumerators_fix known xs ys ts r s d shut e shut-too =
    rowed_fix (IsEnumerator known) EndsItem item_comma item_brace (enumerator_apart known) xs ys (all_fix (IsEnumerator known) EndsItem (enumerator_fix known) xs) ts r s (enumerators_row known xs ts r d) shut (enumerators_row known ys ts s e) shut-too

-- ---- what begins a declarator ends specifiers

layer_begins : (known : List (List ℕ)) (qs : List ℕ) (xs : List SuffixView) (name : Option NameView) (ts a b r : List Terminal) → is_something (is_some name) (record { stars = qs; arrays = xs }) ≡ true → Stars qs ts a → Core known name a b → Chain (IsSuffix known) xs b r → begins_declarator known ts ≡ true
layer_begins known (q ∷ qs) xs name ts a b r some (c, star, more) core all = rw star.star.symbol refl
layer_begins known [] xs (Some n) ts a b r some same core all = rw same at (begins core)
  where
    begins : IsName known n.at n.text a b → begins_declarator known a ≡ true
    begins is = rw (is.symbol, is.other) refl
layer_begins known [] [] None ts a b r some same core all = absurd (cc some)
layer_begins known [] (x ∷ xs) None ts a b r some same core (c, one, more) =
    let at : first_symbol ts ≡ symbol.Punctuator p.LeftBracket = rw same at (rw core at one.opens.symbol) in rw at refl

enclosed_begins : (known : List (List ℕ)) (qs : List ℕ) (ts a b : List Terminal) → Stars qs ts a → IsSign p.LeftParenthesis a b → begins_declarator known ts ≡ true
enclosed_begins known (q ∷ qs) ts a b (c, star, more) opens = rw star.star.symbol refl
enclosed_begins known [] ts a b same opens = let at : first_symbol ts ≡ symbol.Punctuator p.LeftParenthesis = rw same at opens.symbol in rw at refl

shape_begins : (known : List (List ℕ)) (xs : List DeclaratorLayerView) (name : Option NameView) (ts r : List Terminal) → Shape xs known name ts r → begins_declarator known ts ≡ true
shape_begins known [] name ts r d = absurd d
shape_begins known (x ∷ []) name ts r (some, a, b, star, core, all) = layer_begins known x.stars x.arrays name ts a b r some star core all
shape_begins known (x ∷ (y ∷ ys)) name ts r (a, b, c, d, star, opens, inside, shut, all) = enclosed_begins known x.stars ts a b star opens

pub declarator_begins : (known : List (List ℕ)) (x : DeclaratorView) (ts r : List Terminal) → IsDeclarator known x ts r → begins_declarator known ts ≡ true
declarator_begins known x ts r d = shape_begins known x.layers x.name ts r d

begins_kind : (x : Symbol) (named : Bool) → (is_declarator_sign x || (is_identifier x && not named)) ≡ true → kind_by x named ≡ OfNone
begins_kind (symbol.Keyword w) named is = cc
begins_kind symbol.Identifier true is = cc
begins_kind symbol.Identifier false is = refl
begins_kind _ named is = refl

begins_brace : (x : Symbol) (named : Bool) → (is_declarator_sign x || (is_identifier x && not named)) ≡ true → is_left_brace x ≡ false
begins_brace (symbol.Punctuator p.LeftBrace) named is = cc
begins_brace _ named is = refl

pub begins_no_word : (known : List (List ℕ)) (ts : List Terminal) → begins_declarator known ts ≡ true → NoWordAt known ts
begins_no_word known ts is = record { kind = begins_kind (first_symbol ts) (is_typedef known (first_text ts)) is; brace = begins_brace (first_symbol ts) (is_typedef known (first_text ts)) is }

end_kind : (x : Symbol) (named : Bool) → is_end x ≡ true → kind_by x named ≡ OfNone
end_kind (symbol.Punctuator s) named is = refl
end_kind _ named is = cc

end_brace : (x : Symbol) → is_end x ≡ true → is_left_brace x ≡ false
end_brace (symbol.Punctuator p.LeftBrace) is = cc
end_brace _ is = refl

pub end_no_word : (known : List (List ℕ)) (ts : List Terminal) → Ends ts → NoWordAt known ts
end_no_word known ts end = record { kind = end_kind (first_symbol ts) (is_typedef known (first_text ts)) end; brace = end_brace (first_symbol ts) end }

-- ---- words

pub named_fix : (known : List (List ℕ)) (x : DeclaratorView) → Fixes (IsNamed known) Ends x
named_fix known x y ts r s d er e es = declarator_fix known x y ts r s d.derives er e.derives es

pub comma_ends : (a b : List Terminal) → IsSign p.Comma a b → Ends a
comma_ends a b comma = ends_by comma refl

listed_begins : (known : List (List ℕ)) (ds : List DeclaratorView) (ts r : List Terminal) → Listed (IsNamed known) ds ts r → NoWordAt known ts
listed_begins known [] ts r d = absurd d
listed_begins known (x ∷ []) ts r d = begins_no_word known ts (declarator_begins known x ts r d.derives)
listed_begins known (x ∷ (y ∷ ys)) ts r (a, b, one, comma, more) = begins_no_word known ts (declarator_begins known x ts a one.derives)

abbrev NoBrace : List Terminal → Type 0
NoBrace r = is_left_brace (first_symbol r) ≡ false

sign_no_comma : {sign : Punctuator} {r s : List Terminal} → IsSign sign r s → is_comma (symbol.Punctuator sign) ≡ false → is_comma (first_symbol r) ≡ false
sign_no_comma {sign} {r} {s} is other = rw is.symbol other

kinds_apart : (w v : SpecTree) (known : List (List ℕ)) (ts r s : List Terminal) → DeriveWord w known ts r → DeriveWord v known ts s → kind_of w ≡ kind_of v
kinds_apart w v known ts r s d e = sym (kind_is w known ts r d) ∙ kind_is v known ts s e

pub brace_no_kind : (x : Symbol) (named : Bool) → is_right_brace x ≡ true → kind_by x named ≡ OfNone
brace_no_kind (symbol.Punctuator s) named is = refl
brace_no_kind _ named is = cc

no_member : (m : MemberTree) (known : List (List ℕ)) (ts r : List Terminal) → DeriveMember m known ts r → AtBrace ts → ⊥
no_member (Members NoWord ds) known ts r d at = cc d.2
no_member (Members (MoreWords w ws) ds) known ts r (a, b, one, (c, word, words), listed, semi) at = no_word w known ts c word (brace_no_kind (first_symbol ts) (is_typedef known (first_text ts)) at)

mutual
  pub word_fix : (w v : SpecTree) (known : List (List ℕ)) (ts r s : List Terminal) → DeriveWord w known ts r → NoBrace r → DeriveWord v known ts s → NoBrace s → (w ≡ v) × (r ≡ s)
  word_fix (StorageWord at class) (StorageWord at-too other) known ts r s (place, w, is, front) er (place-too, v, is-too, front-too) es =
      let words : w ≡ v = cc in
      let same : class ≡ other = cc in
      (λ i. StorageWord ((place ∙ sym place-too) i) (same i), front.behind ∙ sym front-too.behind)
  word_fix (Qualifier at) (Qualifier at-too) known ts r s (place, w, is, front) er (place-too, v, is-too, front-too) es =
      (ap Qualifier (place ∙ sym place-too), front.behind ∙ sym front-too.behind)
  word_fix (TypeOf at named) (TypeOf at-too other) known ts r s (place, w, is, front) er (place-too, v, is-too, front-too) es =
      let words : w ≡ v = cc in
      let same : named ≡ other = cc in
      (λ i. TypeOf ((place ∙ sym place-too) i) (same i), front.behind ∙ sym front-too.behind)
  word_fix (StructTag at tag) (StructTag at-too other) known ts r s (place, some, a, front, name) er (place-too, some-too, b, front-too, name-too) es =
      let start : a ≡ b = front.behind ∙ sym front-too.behind in
      let same = named_tag_fix known tag other a r s some name some-too (subst (λ (z : List Terminal). Tag known other z s) (sym start) name-too) in
      (λ i. StructTag ((place ∙ sym place-too) i) (same.0 i), same.1)
  word_fix (StructTag at tag) (StructBody at-too other members) known ts r s (place, some, a, front, name) er (place-too, some-too, b, c, d, e, front-too, name-too, opens, all, shut) es =
      let start : a ≡ b = front.behind ∙ sym front-too.behind in
      absurd (tag_apart known tag other a r c d some name er (subst (λ (z : List Terminal). Tag known other z c) (sym start) name-too) opens)
  word_fix (StructBody at-too other members) (StructTag at tag) known ts r s (place-too, some-too, b, c, d, e, front-too, name-too, opens, all, shut) er (place, some, a, front, name) es =
      let start : a ≡ b = front.behind ∙ sym front-too.behind in
      absurd (tag_apart known tag other a s c d some name es (subst (λ (z : List Terminal). Tag known other z c) (sym start) name-too) opens)
  word_fix (StructBody at tag members) (StructBody at-too other members-too) known ts r s (place, some, a, b, c, d, front, name, opens, all, shut) er (place-too, some-too, e, f, g, h, front-too, name-too, opens-too, all-too, shut-too) es =
      let start : a ≡ e = front.behind ∙ sym front-too.behind in
      let tags = tag_fix known tag other a b f c g name opens (subst (λ (z : List Terminal). Tag known other z f) (sym start) name-too) opens-too in
      let bodies = members_fix members members-too known c d h all (at_brace shut) (subst (λ (z : List Terminal). DeriveMembers members-too known z h) (sym (next opens opens-too tags.1)) all-too) (at_brace shut-too) in
      (λ i. StructBody ((place ∙ sym place-too) i) (tags.0 i) (bodies.0 i), next shut shut-too bodies.1)
  word_fix (EnumTag at tag) (EnumTag at-too other) known ts r s (place, some, a, front, name) er (place-too, some-too, b, front-too, name-too) es =
      let start : a ≡ b = front.behind ∙ sym front-too.behind in
      let same = named_tag_fix known tag other a r s some name some-too (subst (λ (z : List Terminal). Tag known other z s) (sym start) name-too) in
      (λ i. EnumTag ((place ∙ sym place-too) i) (same.0 i), same.1)
  word_fix (EnumTag at tag) (EnumBody at-too other members) known ts r s (place, some, a, front, name) er (place-too, b, c, d, e, front-too, name-too, opens, all, shut) es =
      let start : a ≡ b = front.behind ∙ sym front-too.behind in
      absurd (tag_apart known tag other a r c d some name er (subst (λ (z : List Terminal). Tag known other z c) (sym start) name-too) opens)
  word_fix (EnumBody at-too other members) (EnumTag at tag) known ts r s (place-too, b, c, d, e, front-too, name-too, opens, all, shut) er (place, some, a, front, name) es =
      let start : a ≡ b = front.behind ∙ sym front-too.behind in
      absurd (tag_apart known tag other a s c d some name es (subst (λ (z : List Terminal). Tag known other z c) (sym start) name-too) opens)
  word_fix (EnumBody at tag members) (EnumBody at-too other members-too) known ts r s (place, a, b, c, d, front, name, opens, all, shut) er (place-too, e, f, g, h, front-too, name-too, opens-too, all-too, shut-too) es =
      let start : a ≡ e = front.behind ∙ sym front-too.behind in
      let tags = tag_fix known tag other a b f c g name opens (subst (λ (z : List Terminal). Tag known other z f) (sym start) name-too) opens-too in
      let bodies = enumerators_fix known members members-too c d h all (at_brace shut) (subst (λ (z : List Terminal). Enumerators known members-too z h) (sym (next opens opens-too tags.1)) all-too) (at_brace shut-too) in
      (λ i. EnumBody ((place ∙ sym place-too) i) (tags.0 i) (bodies.0 i), next shut shut-too bodies.1)
  word_fix (TypedefName n) (TypedefName m) known ts r s d er e es =
      let same : n ≡ m = λ i. record { at = (d.place ∙ sym e.place) i; text = (d.spelled ∙ sym e.spelled) i } in
      (ap TypedefName same, d.behind ∙ sym e.behind)
  word_fix w v known ts r s d er e es = let h : kind_of w ≡ kind_of v = kinds_apart w v known ts r s d e in absurd (cc h)

  pub words_fix : (ws vs : SpecTrees) (known : List (List ℕ)) (ts r s : List Terminal) → DeriveWords ws known ts r → NoWordAt known r → DeriveWords vs known ts s → NoWordAt known s → (ws ≡ vs) × (r ≡ s)
  words_fix NoWord NoWord known ts r s d er e es = (refl, d ∙ sym e)
  words_fix NoWord (MoreWords v vs) known ts r s d er (b, two, others) es = let none : kind_at known ts ≡ OfNone = rw d at er.kind in absurd (no_word v known ts b two none)
  words_fix (MoreWords w ws) NoWord known ts r s (a, one, more) er e es = let none : kind_at known ts ≡ OfNone = rw e at es.kind in absurd (no_word w known ts a one none)
  words_fix (MoreWords w ws) (MoreWords v vs) known ts r s (a, one, more) er (b, two, others) es =
      let same = word_fix w v known ts a b one (words_brace ws known a r more er.brace) two (words_brace vs known b s others es.brace) in
      let tail = words_fix ws vs known a r s more er (subst (λ (z : List Terminal). DeriveWords vs known z s) (sym same.1) others) es in
      (λ i. MoreWords (same.0 i) (tail.0 i), tail.1)

  member_fix : (m n : MemberTree) (known : List (List ℕ)) (ts r s : List Terminal) → DeriveMember m known ts r → DeriveMember n known ts s → (m ≡ n) × (r ≡ s)
  member_fix (Members ws xs) (Members vs ys) known ts r s (a, b, one, words, listed, semi) (c, d, one-too, words-too, listed-too, semi-too) =
      let same = words_fix ws vs known ts a c words (listed_begins known xs a b listed) words-too (listed_begins known ys c d listed-too) in
      let from : Listed (IsNamed known) ys a d = subst (λ (z : List Terminal). Listed (IsNamed known) ys z d) (sym same.1) listed-too in
      let names = listed_fix (IsNamed known) Ends (named_fix known) comma_ends xs ys a b d listed (ends_by semi refl) (sign_no_comma semi refl) from (ends_by semi-too refl) (sign_no_comma semi-too refl) in
      (λ i. Members (same.0 i) (names.0 i), next semi semi-too names.1)

  pub members_fix : (ms ns : MemberTrees) (known : List (List ℕ)) (ts r s : List Terminal) → DeriveMembers ms known ts r → AtBrace r → DeriveMembers ns known ts s → AtBrace s → (ms ≡ ns) × (r ≡ s)
  members_fix NoMember NoMember known ts r s d er e es = (refl, d ∙ sym e)
  members_fix NoMember (MoreMembers n ns) known ts r s d er (b, two, others) es = absurd (no_member n known ts b two (rw d at er))
  members_fix (MoreMembers m ms) NoMember known ts r s (a, one, more) er e es = absurd (no_member m known ts a one (rw e at es))
  members_fix (MoreMembers m ms) (MoreMembers n ns) known ts r s (a, one, more) er (b, two, others) es =
      let same = member_fix m n known ts a b one two in
      let tail = members_fix ms ns known a r s more er (subst (λ (z : List Terminal). DeriveMembers ns known z s) (sym same.1) others) es in
      (λ i. MoreMembers (same.0 i) (tail.0 i), tail.1)

-- ---- specifiers

spec_list : SpecTrees → List SpecTree
spec_list NoWord = []
spec_list (MoreWords w ws) = w ∷ spec_list ws

list_of_trees : (ws : List SpecTree) → spec_list (spec_trees ws) ≡ ws
unfolding spec_list
list_of_trees [] = refl
list_of_trees (w ∷ ws) = ap (λ (v : List SpecTree). w ∷ v) (list_of_trees ws)

pub spec_fix : (ws vs : List SpecTree) (known : List (List ℕ)) (ts r s : List Terminal) → IsSpec known (spec_trees ws) ts r → NoWordAt known r → IsSpec known (spec_trees vs) ts s → NoWordAt known s → (ws ≡ vs) × (r ≡ s)
spec_fix ws vs known ts r s d er e es =
    let same = words_fix (spec_trees ws) (spec_trees vs) known ts r s d.derive er e.derive es in
    (sym (list_of_trees ws) ∙ ap spec_list same.0 ∙ list_of_trees vs, same.1)

-- specifiers begin with a word
pub spec_word : (ws : SpecTrees) (known : List (List ℕ)) (ts r : List Terminal) → IsSpec known ws ts r → kind_at known ts ≡ OfNone → ⊥
spec_word NoWord known ts r d none = cc d.one_type
spec_word (MoreWords w ws) known ts r d none = let all : DeriveWords (MoreWords w ws) known ts r = d.derive in no_word w known ts all.0 all.1 none
