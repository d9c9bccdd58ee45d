-- Type names keep what typing knows, and name types of the data model.
use Rattle.std.proofs.Common.{◌≡◌, ℕ, List, [], ◌∷◌, Option, Some, None, Ok, Err, slice_get, refl, subst, ◌∙◌}
use Rattle.cc_base.specs.declared.diagnostics.Place.{Place}
use Rattle.c_layout.specs.Types.{Ty}
use Rattle.c_layout.specs.StructViews.{no_struct}
use Rattle.c_layout.specs.SyntaxTrees.{LayerView, TypeNameView}
use Rattle.c_layout.specs.declared.data_model.Model.{Model}
use Rattle.c_layout.specs.declared.syntax_tree.declarations.Storage.{Storage}
use Rattle.c_layout.specs.declared.syntax_tree.declarations.Storage.TheVariants as storage
use Rattle.c_layout.specs.declared.syntax_tree.expressions.Name.{Name}
use Rattle.c_layout.specs.declared.syntax_tree.expressions.TypeNameWord.{TypeNameWord}
use Rattle.c_layout.specs.declared.syntax_tree.expressions.TypeNameWord.TheVariants as word
use Rattle.c_types_rules.specs.Rules.TypeWords as counts
use Rattle.c_types_rules.specs.declared.rules.integer_kinds.Rank.TheVariants as rank
use Rattle.c_types_rules.specs.declared.rules.type_words.NamedKind.{NamedKind}
use Rattle.c_types_rules.specs.declared.rules.type_words.NamedKind.TheVariants as named
use Rattle.c_types_rules.specs.declared.rules.type_words.WordCounts.{WordCounts}
use Rattle.c_types_scopes.specs.Refusals.{Ruled}
use Rattle.c_types_scopes.specs.Answers.{kept}
use Rattle.c_types_scopes.specs.DeclaredTypes.{DeclaredView}
use Rattle.c_types_scopes.specs.Known.{Known}
use Rattle.c_types_scopes.specs.Names.{number_in, found_tag}
use Rattle.c_types_scopes.specs.States.{State, with_name}
use Rattle.c_types_scopes.specs.TypeSteps.{declarator_type}
use Rattle.c_types_scopes.specs.declared.meanings.Meaning.{Meaning}
use Rattle.c_types_scopes.specs.declared.meanings.Meaning.TheVariants as meaning
use Rattle.c_types_scopes.specs.declared.meanings.Tag.{Tag}
use Rattle.c_types_scopes.specs.declared.meanings.Tag.TheVariants as tag
use Rattle.c_types_primary.specs.Primaries.{meaning_of}
use Rattle.c_types_primary.specs.TypeNames as names
use Rattle.c_types_primary.specs.TypeNames.{WordsView, with_struct_tag}
use Rattle.c_types_well_formed.specs.WellFormed.KnownTypes.{HasTypes, HasFields}
use Rattle.c_types_well_formed.specs.WellFormed.ModelTypes.{IsTypeOf}
use Rattle.c_types_well_formed.specs.WellFormed.TypingLaws.{Keeps, LeadsOn}
use Rattle.c_types_well_formed.proofs.terms.Steps.{IsAt, keeps_same, keeps_by, at_later, onward, then, stays, Holds, named_keeps}
use Rattle.c_types_well_formed.proofs.terms.Parts.{HoldsIf, or_fault_holds, there_if, each_none, each_more, kind_is, in_model, IsNamedOf, words_hold, steps_hold}

abbrev pub IsDeclaredOf : Model → DeclaredView → Type 0
IsDeclaredOf m d = IsTypeOf m d.ctype

-- nothing is said of what a step gives
abbrev pub Anything : {V : Type 0} → V → State → Type 0
Anything v t = Unit {0}

-- ---- tags

struct_more : (s : State) (name : ℕ) → HasTypes s → Keeps s (with_struct_tag s name)
struct_more s name h = keeps_by s (with_struct_tag s name) refl refl refl refl refl (record {
  proper = h.proper;
  objects = h.objects;
  locals = h.locals;
  statics = h.statics;
  typedefs = h.typedefs;
  literals = h.literals;
  stores = h.stores;
  results = h.results;
  parameters = h.parameters;
  fields = each_more (HasFields s.known.numbers) s.types.structs no_struct h.fields (each_none (λ f. IsTypeOf s.known.numbers f.ctype));
  meanings = h.meanings;
})

struct_by_on : (s : State) (n : Name) (name : ℕ) (found : Option Tag) → HasTypes s → LeadsOn s Anything (names.struct_by s n name found)
struct_by_on s n name (Some (tag.Struct number)) h = (keeps_same s h, tt)
struct_by_on s n name (Some (tag.Enumeration number)) h = tt
struct_by_on s n name None h = (struct_more s name h, tt)

pub struct_tag_on : (s : State) (n : Name) → HasTypes s → LeadsOn s Anything (names.struct_tag s n)
struct_tag_on s n h = onward s (with_name s n.text) Anything (names.struct_tag s n) (named_keeps s n.text h) (struct_by_on (with_name s n.text) n (number_in s.scopes.names n.text) (found_tag s.scopes (number_in s.scopes.names n.text)) (named_keeps s n.text h).types)

anything : {V : Type 0} (t : State) (r : Ruled V) → HasTypes t → LeadsOn t Anything (kept t r)
anything t (Ok v) h = (keeps_same t h, tt)
anything t (Err f) h = tt

pub enumeration_tag_on : (s : State) (at : Place) (n : Name) → HasTypes s → LeadsOn s Anything (names.enumeration_tag s at n)
enumeration_tag_on s at n h = onward s (with_name s n.text) Anything (names.enumeration_tag s at n) (named_keeps s n.text h) (anything (with_name s n.text) (names.enumeration_numbered (with_name s n.text) at n (number_in s.scopes.names n.text)) (named_keeps s n.text h).types)

-- ---- typedef names

found_holds : (m : Model) (at : Place) (o : Option DeclaredView) → HoldsIf (IsDeclaredOf m) o → Holds (IsDeclaredOf m) (names.typedef_found at o)
found_holds m at None h = tt
found_holds m at (Some d) h = h

typedef_by_holds : (m : Model) (s : State) (at : Place) (o : Option Meaning) → IsAt m s → Holds (IsDeclaredOf m) (names.typedef_by s at o)
typedef_by_holds m s at (Some (meaning.Typedef number)) a = found_holds m at (slice_get s.typedefs number) (there_if (IsDeclaredOf m) s.typedefs number (λ i d is. in_model s.known.numbers m d.ctype a.same (a.types.typedefs i d is)))
typedef_by_holds m s at (Some (meaning.Static number)) a = tt
typedef_by_holds m s at (Some (meaning.Local number)) a = tt
typedef_by_holds m s at (Some (meaning.Function number)) a = tt
typedef_by_holds m s at (Some (meaning.Enumerator n)) a = tt
typedef_by_holds m s at None a = tt

pub typedef_holds : (m : Model) (s : State) (n : Name) → IsAt m s → Holds (IsDeclaredOf m) (names.typedef_named s n)
typedef_holds m s n a = typedef_by_holds m s n.place (meaning_of s n.text) a

-- ---- words

abbrev IsSaid : Model → Option DeclaredView → State → Type 0
IsSaid m o t = HoldsIf (IsDeclaredOf m) o

as_struct_on : (m : Model) (s : State) (r : Ruled (ℕ × State)) → LeadsOn s Anything r → LeadsOn s (IsSaid m) (names.as_struct r)
as_struct_on m s (Ok p) h = (h.0, tt)
as_struct_on m s (Err f) h = tt

pub enumerated_is : (m : Model) (k : Known) → k.numbers ≡ m → IsTypeOf m (names.enumerated k 0).ctype
enumerated_is m k e = in_model k.numbers m (names.enumerated k 0).ctype e (kind_is k.numbers rank.Int _)

as_enumeration_on : (m : Model) (s : State) (r : Ruled (ℕ × State)) → IsAt m s → LeadsOn s Anything r → LeadsOn s (IsSaid m) (names.as_enumeration r)
as_enumeration_on m s (Ok p) a h = (h.0, enumerated_is m p.1.known (h.0.model ∙ a.same))
as_enumeration_on m s (Err f) a h = tt

as_typedef_holds : (m : Model) (r : Ruled DeclaredView) → Holds (IsDeclaredOf m) r → Holds (HoldsIf (IsDeclaredOf m)) (names.as_typedef r)
as_typedef_holds m (Ok d) h = h
as_typedef_holds m (Err f) h = tt

storage_holds : (m : Model) (at : Place) (class : Storage) → Holds (HoldsIf (IsDeclaredOf m)) (names.storage_word at class)
storage_holds m at storage.Auto = tt
storage_holds m at storage.Register = tt
storage_holds m at storage.Typedef = tt
storage_holds m at storage.Extern = tt
storage_holds m at storage.Static = tt

word_on : (m : Model) (s : State) (at : Place) (w : TypeNameWord) → IsAt m s → LeadsOn s (IsSaid m) (names.word_type s at w)
word_on m s at (word.Storage p class) a = stays s (IsSaid m) (names.storage_word at class) a.types (storage_holds m at class)
word_on m s at (word.Qualifier p) a = (keeps_same s a.types, tt)
word_on m s at (word.Type p w) a = (keeps_same s a.types, tt)
word_on m s at (word.Struct p n) a = as_struct_on m s (names.struct_tag s n) (struct_tag_on s n a.types)
word_on m s at (word.Enum p n) a = as_enumeration_on m s (names.enumeration_tag s p n) a (enumeration_tag_on s p n a.types)
word_on m s at (word.Typedef n) a = stays s (IsSaid m) (names.typedef_word s n) a.types (as_typedef_holds m (names.typedef_named s n) (typedef_holds m s n a))

newest_holds : (m : Model) (old new : Option DeclaredView) → HoldsIf (IsDeclaredOf m) old → HoldsIf (IsDeclaredOf m) new → HoldsIf (IsDeclaredOf m) (names.newest old new)
newest_holds m old None g h = g
newest_holds m old (Some d) g h = h

abbrev HasSaid : Model → WordsView → State → Type 0
HasSaid m said t = HoldsIf (IsDeclaredOf m) said.named

said_on : (m : Model) (s : State) (said : WordsView) (w : TypeNameWord) (r : Ruled (Option DeclaredView × State)) → HasSaid m said s → LeadsOn s (IsSaid m) r → LeadsOn s (HasSaid m) (names.with_said_by said w r)
said_on m s said w (Ok p) g h = (h.0, newest_holds m said.named p.0 g h.1)
said_on m s said w (Err f) g h = tt

words_on : (m : Model) (ws : List TypeNameWord) (s : State) (at : Place) (said : WordsView) → IsAt m s → HasSaid m said s → LeadsOn s (HasSaid m) (names.words_from s at said ws)
unfolding names.words_from
words_on m [] s at said a g = (keeps_same s a.types, g)
words_on m (w ∷ more) s at said a g =
    then s (HasSaid m) (HasSaid m) (names.one_word s at said w) (λ said1 s1. names.words_from s1 at said1 more) (said_on m s said w (names.word_type s at w) g (word_on m s at w a))
    (λ said1 s1 k h. words_on m more s1 at said1 (at_later m s s1 a k) h)

abbrev IsOf : Model → Ty → State → Type 0
IsOf m t s = IsTypeOf m t

counted_by_holds : (m : Model) (o : Option NamedKind) → HoldsIf (IsNamedOf m) o → HoldsIf (IsTypeOf m) (names.counted_by o)
counted_by_holds m None h = tt
counted_by_holds m (Some named.Void) h = tt
counted_by_holds m (Some (named.Integer kind)) h = h

said_type_holds : (m : Model) (k : Known) (at : Place) (c : WordCounts) (o : Option DeclaredView) → k.numbers ≡ m → HoldsIf (IsDeclaredOf m) o → Holds (IsTypeOf m) (names.said_type k at c o)
said_type_holds m k at c (Some d) e h = h
said_type_holds m k at c None e h = or_fault_holds (IsTypeOf m) at (names.counted_type k c) (counted_by_holds m (counts.named k.numbers c) (subst (λ x. HoldsIf (IsNamedOf x) (counts.named k.numbers c)) e (words_hold k.numbers c)))

words_type_on : (m : Model) (s : State) (at : Place) (ws : List TypeNameWord) → IsAt m s → LeadsOn s (IsOf m) (names.words_type s at ws)
words_type_on m s at ws a =
    then s (HasSaid m) (IsOf m) (names.words_from s at names.nothing_said ws) (names.words_end at) (words_on m ws s at names.nothing_said a tt)
    (λ said t k h. stays t (IsOf m) (names.said_type t.known at said.counts said.named) k.types (said_type_holds m t.known at said.counts said.named (k.model ∙ a.same) h))

-- ---- abstract declarators

shaped_holds : (m : Model) (k : Known) (at : Place) (layers : List LayerView) (base : Ty) (r : Ruled (List ℕ)) → IsTypeOf m base → Holds (IsTypeOf m) (names.shaped_by k at layers base r)
shaped_holds m k at layers base (Err f) h = tt
shaped_holds m k at layers base (Ok lengths) h = or_fault_holds (IsTypeOf m) at (declarator_type k base (names.all_steps layers lengths)) (steps_hold m k.structs k.numbers.pointer base (names.all_steps layers lengths) h)

pub type_name_on : (m : Model) (s : State) (at : Place) (n : TypeNameView) (lengths : List (Option ℕ)) → IsAt m s → LeadsOn s (λ t u. IsTypeOf m t) (names.named_type s at n lengths)
type_name_on m s at n lengths a =
    then s (IsOf m) (IsOf m) (names.words_type s at n.words) (names.shaped_in at n.layers lengths) (words_type_on m s at n.words a)
    (λ base t k h. stays t (IsOf m) (names.shaped t.known at n.layers lengths base) k.types (shaped_holds m t.known at n.layers base (names.constant_lengths at lengths) h))
