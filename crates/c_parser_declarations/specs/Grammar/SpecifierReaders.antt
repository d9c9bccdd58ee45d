-- The readers of declaration specifiers (6.7), with the bodies of structures and enumerations, as definitions.
use Rattle.std.specs.Prelude.{◌+◌, ℕ, zero, suc, Bool, true, false, cond, max, length, nat_lt, List, Option, Some, None, is_some}
use Rattle.cc_base.specs.declared.diagnostics.Place.{Place}
use Rattle.c_layout.specs.DeclarationTrees.{NameView, DeclaratorView, EnumeratorView, SpecTree, SpecTrees, MemberTree, StorageWord, Qualifier, TypeOf, StructTag, StructBody, EnumTag, EnumBody, TypedefName, NoWord, MoreWords, Members, member_trees}
use Rattle.c_layout.specs.declared.syntax_tree.declarations.Storage.{Storage}
use Rattle.c_layout.specs.declared.syntax_tree.declarations.TypeWord.{TypeWord}
use Rattle.c_parser_tokens.specs.declared.terminals.Keyword.{Keyword}
use Rattle.c_parser_tokens.specs.declared.terminals.Keyword.TheVariants as k
use Rattle.c_parser_tokens.specs.declared.terminals.Punctuator.TheVariants as p
use Rattle.c_parser_tokens.specs.declared.terminals.Symbol.{Symbol}
use Rattle.c_parser_tokens.specs.declared.terminals.Symbol.TheVariants as symbol
use Rattle.c_parser_tokens.specs.declared.terminals.Terminal.{Terminal}
use Rattle.c_parser_expression_grammar.specs.Fronts.{first_symbol, first_place, behind_first, is_identifier_first, is_typedef_first, begins_specifiers}
use Rattle.c_parser_expression_grammar.specs.TypeNames.{type_word_of, storage_class, is_qualifier, is_one_type}
use Rattle.c_parser_declarations.specs.Grammar.Specifiers.{counts_of}
use Rattle.c_parser_expression_grammar.specs.Readings.{Reading, is_left_brace}
use Rattle.c_parser_expression_grammar.specs.TypeNameReaders.{readers_inside}
use Rattle.c_parser_declarations.specs.Grammar.Items.{Item, GotItem, item_of, after_item, braced, chained}
use Rattle.c_parser_declarations.specs.Grammar.DeclaratorReaders.{name_at, above, declarator_list}

-- a tree above parts of a height, within the budget
abbrev pub raised : {X : Type 0} → ℕ → X → ℕ → List Terminal → Option (GotItem X)
raised b x h rest = cond (nat_lt h b) (Some (item_of x (h + 1) rest)) None

-- ---- tags

pub record GotTag : Type 0 where
  pub tag : Option NameView
  pub rest : List Terminal

-- the tag that stands next, if one does
abbrev pub optional_tag : List (List ℕ) → List Terminal → GotTag
optional_tag known ts = cond (is_identifier_first known ts) (record { tag = Some (name_at ts); rest = behind_first ts }) (record { tag = None; rest = ts })

-- a word with a tag alone
abbrev pub tag_alone : ℕ → SpecTree → GotTag → Option (GotItem SpecTree)
tag_alone b w g = cond (is_some g.tag) (raised b w 0 g.rest) None

-- ---- enumerations

abbrev pub is_assign : Symbol → Bool
is_assign (symbol.Punctuator p.Assign) = true
is_assign _ = false

abbrev pub valued : ℕ → NameView → Reading → Option (GotItem EnumeratorView)
valued b name None = None
valued b name (Some g) = raised b (record { name = name; value = Some g.tree }) g.height g.rest

abbrev pub enumerator_named : List (List ℕ) → ℕ → NameView → Item EnumeratorView
enumerator_named known b name ts =
    cond (is_assign (first_symbol ts)) (valued b name ((readers_inside known b).conditional (behind_first ts))) (Some (item_of (record { name = name; value = None }) 0 ts))

abbrev pub enumerator : List (List ℕ) → ℕ → Item EnumeratorView
enumerator known b ts = cond (is_identifier_first known ts) (enumerator_named known b (name_at ts) (behind_first ts)) None

-- the enumerators behind `{`, with the `}`
abbrev pub enumerators : List (List ℕ) → ℕ → Item (List EnumeratorView)
enumerators known b ts = braced (enumerator known b) (length ts) ts

abbrev pub enumerators_inside : List (List ℕ) → ℕ → Item (List EnumeratorView)
enumerators_inside known zero = λ ts. None
enumerators_inside known (suc b) = enumerators known b

abbrev pub enumeration_behind : List (List ℕ) → ℕ → Place → GotTag → Option (GotItem SpecTree)
enumeration_behind known b at g =
    cond (is_left_brace (first_symbol g.rest)) (after_item (enumerators_inside known b (behind_first g.rest)) (λ es. raised b (EnumBody at g.tag es.item) es.height es.rest)) (tag_alone b (EnumTag at g.tag) g)

-- `enum` with a tag, a body or both
abbrev pub enumeration : List (List ℕ) → ℕ → Item SpecTree
enumeration known b ts = enumeration_behind known b (first_place ts) (optional_tag known (behind_first ts))

-- ---- structures. `m` is the reader of a member inside.

-- the members behind `{`, with the `}`
abbrev pub members : Item MemberTree → Item (List MemberTree)
members m ts = chained m (length ts) ts

abbrev pub structure_behind : ℕ → Item MemberTree → Place → GotTag → Option (GotItem SpecTree)
structure_behind b m at g =
    cond (is_left_brace (first_symbol g.rest)) (after_item (members m (behind_first g.rest)) (λ ms. raised b (StructBody at g.tag (member_trees ms.item)) ms.height ms.rest)) (tag_alone b (StructTag at g.tag) g)

-- `struct` with a tag, a body or both
abbrev pub structure : List (List ℕ) → ℕ → Item MemberTree → Item SpecTree
structure known b m ts = structure_behind b m (first_place ts) (optional_tag known (behind_first ts))

-- ---- words

abbrev pub plain : SpecTree → List Terminal → Option (GotItem SpecTree)
plain w ts = Some (item_of w 0 (behind_first ts))

-- a word without parts
abbrev pub plain_by : List Terminal → Keyword → Option TypeWord → Option Storage → Option (GotItem SpecTree)
plain_by ts w (Some named) class = plain (TypeOf (first_place ts) named) ts
plain_by ts w None (Some class) = plain (StorageWord (first_place ts) class) ts
plain_by ts w None None = cond (is_qualifier w) (plain (Qualifier (first_place ts)) ts) None

-- a word without parts, or a typedef name
abbrev pub simple_by : List (List ℕ) → List Terminal → Symbol → Option (GotItem SpecTree)
simple_by known ts (symbol.Keyword w) = plain_by ts w (type_word_of w) (storage_class w)
simple_by known ts _ = cond (is_typedef_first known ts) (plain (TypedefName (name_at ts)) ts) None

abbrev pub simple_word : List (List ℕ) → Item SpecTree
simple_word known ts = simple_by known ts (first_symbol ts)

abbrev pub keyword_word : List (List ℕ) → ℕ → Item MemberTree → List Terminal → Keyword → Option (GotItem SpecTree)
keyword_word known b m ts k.Struct = structure known b m ts
keyword_word known b m ts k.Enum = enumeration known b ts
keyword_word known b m ts w = plain_by ts w (type_word_of w) (storage_class w)

abbrev pub word_by : List (List ℕ) → ℕ → Item MemberTree → List Terminal → Symbol → Option (GotItem SpecTree)
word_by known b m ts (symbol.Keyword w) = keyword_word known b m ts w
word_by known b m ts _ = cond (is_typedef_first known ts) (plain (TypedefName (name_at ts)) ts) None

-- one word of specifiers
abbrev pub word : List (List ℕ) → ℕ → Item MemberTree → Item SpecTree
word known b m ts = word_by known b m ts (first_symbol ts)

abbrev pub no_word : List Terminal → Option (GotItem SpecTrees)
no_word ts = Some (item_of NoWord 0 ts)

abbrev pub more_words : GotItem SpecTree → GotItem SpecTrees → Option (GotItem SpecTrees)
more_words w ws = Some (item_of (MoreWords w.item ws.item) (max w.height ws.height) ws.rest)

-- so many words at most, by the reader of one
abbrev pub words : List (List ℕ) → Item SpecTree → ℕ → Item SpecTrees
words known one zero ts = no_word ts
words known one (suc turns) ts = cond (begins_specifiers known ts) (after_item (one ts) (λ w. after_item (words known one turns w.rest) (more_words w))) (no_word ts)

-- one word alone adds nothing to the height
abbrev pub list_height : ℕ → SpecTrees → ℕ → Option ℕ
list_height b NoWord parts = above b parts
list_height b (MoreWords w NoWord) parts = Some parts
list_height b (MoreWords w (MoreWords v more)) parts = above b parts

abbrev pub at_height : {X : Type 0} → X → List Terminal → Option ℕ → Option (GotItem X)
at_height x rest None = None
at_height x rest (Some h) = Some (item_of x h rest)

-- the words judged as a list
abbrev pub judged : ℕ → GotItem SpecTrees → Option (GotItem SpecTrees)
judged b ws = cond (is_one_type (counts_of ws.item)) (at_height ws.item ws.rest (list_height b ws.item ws.height)) None

abbrev pub specifiers_by : List (List ℕ) → ℕ → Item MemberTree → Item SpecTrees
specifiers_by known b m ts = after_item (words known (word known b m) (length ts) ts) (judged b)

-- ---- members. `s` is the reader of specifiers inside.

abbrev pub is_semicolon : Symbol → Bool
is_semicolon (symbol.Punctuator p.Semicolon) = true
is_semicolon _ = false

abbrev pub closed_member : ℕ → GotItem SpecTrees → GotItem (List DeclaratorView) → Option (GotItem MemberTree)
closed_member b ws ds = cond (is_semicolon (first_symbol ds.rest)) (raised b (Members ws.item ds.item) (max ws.height ds.height) (behind_first ds.rest)) None

abbrev pub member_by : ℕ → Item SpecTrees → Item (List DeclaratorView) → Item MemberTree
member_by b s ds ts = after_item (s ts) (λ ws. after_item (ds ws.rest) (closed_member b ws))

abbrev pub declarators_of_members : List (List ℕ) → ℕ → Item (List DeclaratorView)
declarators_of_members known zero = λ ts. None
declarators_of_members known (suc b) = declarator_list known b

-- ---- all of one budget

pub record SpecifierReaders : Type 0 where
  pub specifiers : Item SpecTrees
  pub member : Item MemberTree

abbrev pub no_specifiers : SpecifierReaders
no_specifiers = record { specifiers = λ ts. None; member = λ ts. None }

abbrev pub readers_at : List (List ℕ) → ℕ → SpecifierReaders → SpecifierReaders
readers_at known b i = record { specifiers = specifiers_by known b i.member; member = member_by b i.specifiers (declarators_of_members known b) }

-- those of what stands inside
abbrev pub specifiers_inside : List (List ℕ) → ℕ → SpecifierReaders
specifiers_inside known zero = no_specifiers
specifiers_inside known (suc b) = readers_at known b (specifiers_inside known b)

abbrev pub specifier_readers : List (List ℕ) → ℕ → SpecifierReaders
specifier_readers known b = readers_at known b (specifiers_inside known b)

-- the specifiers within a budget
abbrev pub specifiers : List (List ℕ) → ℕ → Item SpecTrees
specifiers known b = (specifier_readers known b).specifiers
