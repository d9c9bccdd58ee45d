-- Tags, typedef names and type names (6.7.2.2, 6.7.2.3, 6.7.7, 6.7.8).
use Rattle.std.specs.Prelude.{ℕ, cond, List, [], ◌∷◌, ◌++◌, length, slice_get, Vec, Option, Some, None, Ok, Err}
use Rattle.std.specs.Global.{Global}
use Rattle.cc_base.specs.declared.diagnostics.Place.{Place}
use Rattle.c_layout.specs.Types.{Ty, Int, Struct, Void}
use Rattle.c_layout.specs.SyntaxTrees.{LayerView, TypeNameView}
use Rattle.c_layout.specs.declared.syntax_tree.declarations.Storage.{Storage}
use Rattle.c_layout.specs.declared.syntax_tree.declarations.Storage.TheVariants as storage
use Rattle.c_layout.specs.declared.syntax_tree.expressions.Name.{Name}
use Rattle.c_layout.specs.declared.syntax_tree.expressions.Brackets.{Brackets}
use Rattle.c_layout.specs.declared.syntax_tree.expressions.TypeNameWord.{TypeNameWord}
use Rattle.c_layout.specs.declared.syntax_tree.expressions.TypeNameWord.TheVariants as word
use Rattle.c_types_rules.specs.Rules.TypeWords as words
use Rattle.c_types_rules.specs.Rules.TypeWords.{no_words, with_word}
use Rattle.c_types_rules.specs.declared.rules.type_words.NamedKind.{NamedKind}
use Rattle.c_types_rules.specs.declared.rules.type_words.NamedKind.TheVariants as kind
use Rattle.c_types_rules.specs.declared.rules.type_words.WordCounts.{WordCounts}
use Rattle.c_types_scopes.specs.Answers.{kept, after}
use Rattle.c_types_scopes.specs.Known.{Known}
use Rattle.c_types_scopes.specs.DeclaredTypes.{DeclaredView, declared_view, plain}
use Rattle.c_types_scopes.specs.Names.{number_in, found_tag, declared_tag}
use Rattle.c_types_scopes.specs.StructTables.{TypesView, with_struct}
use Rattle.c_types_scopes.specs.States.{State, with_name}
use Rattle.c_types_scopes.specs.TypeSteps.{declarator_type}
use Rattle.c_types_scopes.specs.Refusals.{Ruled, type_fault, undeclared, redeclared, constant_needed, or_type_fault}
use Rattle.c_types_scopes.specs.declared.meanings.Meaning.{Meaning}
use Rattle.c_types_scopes.specs.declared.meanings.Meaning.TheVariants as meaning
use Rattle.c_types_scopes.specs.declared.meanings.Tag.{Tag}
use Rattle.c_types_scopes.specs.declared.meanings.Tag.TheVariants as tag
use Rattle.c_types_scopes.specs.declared.type_steps.TypeStep.{TypeStep}
use Rattle.c_types_scopes.specs.declared.type_steps.TypeStep.TheVariants as step
use Rattle.c_types_operands.specs.Arithmetic.{int_kind}
use Rattle.c_types_primary.specs.Lists.{with_first}
use Rattle.c_types_primary.specs.Primaries.{meaning_of}
use Rattle.c_types_primary.specs.declared.type_names.Tagged.{Tagged}
use Rattle.c_types_primary.specs.declared.type_names.Tagged.TheVariants as tagged
use Rattle.c_types_primary.specs.declared.type_names.Said.{Said}

-- ---- tags

abbrev pub same_number : ℕ → ℕ
same_number n = n

-- other structs
abbrev pub with_types : State → TypesView → State
with_types s t = record s { known = record s.known { structs = t.structs }; types = t }

-- a struct more, and its tag in the innermost scope
abbrev pub with_struct_tag : State → ℕ → State
with_struct_tag s name = record (with_types s (with_struct s.types)) { scopes = declared_tag s.scopes name (tag.Struct (length s.types.structs)) }

abbrev pub struct_by : State → Name → ℕ → Option Tag → Ruled (ℕ × State)
struct_by s n name (Some (tag.Struct number)) = Ok (number, s)
struct_by s n name (Some (tag.Enumeration number)) = redeclared n.place
struct_by s n name None = Ok (length s.types.structs, with_struct_tag s name)

abbrev pub struct_numbered : State → Name → ℕ → Ruled (ℕ × State)
struct_numbered s n name = struct_by s n name (found_tag s.scopes name)

-- the struct of a tag, which its first mention declares in the innermost scope
abbrev pub struct_tag : State → Name → Ruled (ℕ × State)
struct_tag s n = struct_numbered (with_name s n.text) n (number_in s.scopes.names n.text)

abbrev pub enumeration_by : Place → Name → Option Tag → Ruled ℕ
enumeration_by at n (Some (tag.Enumeration number)) = Ok number
enumeration_by at n (Some (tag.Struct number)) = redeclared n.place
enumeration_by at n None = undeclared at

abbrev pub enumeration_numbered : State → Place → Name → ℕ → Ruled ℕ
enumeration_numbered s at n name = enumeration_by at n (found_tag s.scopes name)

abbrev pub enumeration_known : State → Place → Name → ℕ → Ruled (ℕ × State)
enumeration_known s at n name = kept s (enumeration_numbered s at n name)

-- the enumerated type of a tag, which has to be declared
abbrev pub enumeration_tag : State → Place → Name → Ruled (ℕ × State)
enumeration_tag s at n = enumeration_known (with_name s n.text) at n (number_in s.scopes.names n.text)

-- ---- typedef names

abbrev pub typedef_found : Place → Option DeclaredView → Ruled DeclaredView
typedef_found at None = undeclared at
typedef_found at (Some d) = Ok d

abbrev pub typedef_numbered : State → Place → ℕ → Ruled DeclaredView
typedef_numbered s at number = typedef_found at (slice_get s.typedefs number)

abbrev pub typedef_by : State → Place → Option Meaning → Ruled DeclaredView
typedef_by s at (Some (meaning.Typedef number)) = typedef_numbered s at number
typedef_by s at (Some (meaning.Static number)) = undeclared at
typedef_by s at (Some (meaning.Local number)) = undeclared at
typedef_by s at (Some (meaning.Function number)) = undeclared at
typedef_by s at (Some (meaning.Enumerator n)) = undeclared at
typedef_by s at None = undeclared at

-- the type of a typedef name
abbrev pub typedef_named : State → Name → Ruled DeclaredView
typedef_named s n = typedef_by s n.place (meaning_of s n.text)

-- ---- the words of a type name

-- the type that a tag or a typedef name means, where a word says one
abbrev pub tagged_view : Tagged → Option DeclaredView
tagged_view tagged.Nothing = None
tagged_view (tagged.Type d) = Some (declared_view d)

-- an enumerated type is int
abbrev pub enumerated : Known → ℕ → DeclaredView
enumerated k number = record { ctype = Int (int_kind k); enumeration = Some number }

abbrev pub as_struct : Ruled (ℕ × State) → Ruled (Option DeclaredView × State)
as_struct (Ok p) = Ok (Some (plain (Struct p.0)), p.1)
as_struct (Err f) = Err f

abbrev pub as_enumeration : Ruled (ℕ × State) → Ruled (Option DeclaredView × State)
as_enumeration (Ok p) = Ok (Some (enumerated p.1.known p.0), p.1)
as_enumeration (Err f) = Err f

abbrev pub as_typedef : Ruled DeclaredView → Ruled (Option DeclaredView)
as_typedef (Ok d) = Ok (Some d)
as_typedef (Err f) = Err f

abbrev pub struct_word : State → Name → Ruled (Option DeclaredView × State)
struct_word s n = as_struct (struct_tag s n)

abbrev pub enumeration_word : State → Place → Name → Ruled (Option DeclaredView × State)
enumeration_word s at n = as_enumeration (enumeration_tag s at n)

abbrev pub typedef_word : State → Name → Ruled (Option DeclaredView)
typedef_word s n = as_typedef (typedef_named s n)

-- `auto` and `register` say nothing; other storage classes are refused at the place of the `sizeof` or the cast
abbrev pub storage_word : Place → Storage → Ruled (Option DeclaredView)
storage_word at storage.Auto = Ok None
storage_word at storage.Register = Ok None
storage_word at storage.Typedef = type_fault at
storage_word at storage.Extern = type_fault at
storage_word at storage.Static = type_fault at

-- what one word says
abbrev pub word_type : State → Place → TypeNameWord → Ruled (Option DeclaredView × State)
word_type s at (word.Storage p class) = kept s (storage_word at class)
word_type s at (word.Qualifier p) = Ok (None, s)
word_type s at (word.Type p w) = Ok (None, s)
word_type s at (word.Struct p n) = struct_word s n
word_type s at (word.Enum p n) = enumeration_word s p n
word_type s at (word.Typedef n) = kept s (typedef_word s n)

-- the words of integer types are counted
abbrev pub counted : WordCounts → TypeNameWord → WordCounts
counted c (word.Type p w) = with_word c w
counted c _ = c

-- what is said last
abbrev pub newest : Option DeclaredView → Option DeclaredView → Option DeclaredView
newest old None = old
newest old (Some d) = Some d

abbrev pub type_of_kind : NamedKind → Ty
type_of_kind kind.Void = Void
type_of_kind (kind.Integer k) = Int k

abbrev pub counted_by : Option NamedKind → Option Ty
counted_by None = None
counted_by (Some k) = Some (type_of_kind k)

-- the type that counted words name
abbrev pub counted_type : Known → WordCounts → Option Ty
counted_type k c = counted_by (words.named k.numbers c)

-- what words say so far: the counts, and the type of the newest tag or typedef name
pub record WordsView : Type 0 where
  pub counts : WordCounts
  pub named : Option DeclaredView

abbrev pub said_view : Said → WordsView
said_view s = record { counts = s.counts; named = tagged_view s.named }

abbrev pub nothing_said : WordsView
nothing_said = record { counts = no_words; named = None }

abbrev pub with_said : WordsView → TypeNameWord → Option DeclaredView → WordsView
with_said said w d = record { counts = counted said.counts w; named = newest said.named d }

abbrev pub with_said_by : WordsView → TypeNameWord → Ruled (Option DeclaredView × State) → Ruled (WordsView × State)
with_said_by said w (Ok p) = Ok (with_said said w p.0, p.1)
with_said_by said w (Err f) = Err f

-- what a word more says
abbrev pub one_word : State → Place → WordsView → TypeNameWord → Ruled (WordsView × State)
one_word s at said w = with_said_by said w (word_type s at w)

-- what words say
unfoldable pub words_from : State → Place → WordsView → List TypeNameWord → Ruled (WordsView × State)
words_from s at said [] = Ok (said, s)
words_from s at said (w ∷ more) = after (one_word s at said w) (λ said' s'. words_from s' at said' more)

abbrev pub said_type : Known → Place → WordCounts → Option DeclaredView → Ruled Ty
said_type k at c (Some d) = Ok d.ctype
said_type k at c None = or_type_fault at (counted_type k c)

abbrev pub words_end : Place → WordsView → State → Ruled (Ty × State)
words_end at said s = kept s (said_type s.known at said.counts said.named)

-- the type that the words of a type name name
abbrev pub words_type : State → Place → List TypeNameWord → Ruled (Ty × State)
words_type s at ws = after (words_from s at nothing_said ws) (words_end at)

-- ---- abstract declarators

-- the steps so far, and the lengths that are left
pub record StepsView : Type 0 where
  pub steps : List TypeStep
  pub lengths : List ℕ

abbrev pub steps_view : Vec TypeStep Global → List ℕ → StepsView
steps_view steps lengths = record { steps = steps.items; lengths = lengths }

abbrev pub no_steps : List ℕ → StepsView
no_steps lengths = record { steps = []; lengths = lengths }

abbrev pub with_step : StepsView → TypeStep → StepsView
with_step r s = record r { steps = r.steps ++ s ∷ [] }

-- an array of the first length that is left
abbrev pub with_length : List TypeStep → List ℕ → StepsView
with_length steps [] = record { steps = steps ++ step.Array 0 ∷ []; lengths = [] }
with_length steps (n ∷ more) = record { steps = steps ++ step.Array n ∷ []; lengths = more }

-- brackets; 0 stands for a length that is not written
abbrev pub with_brackets : StepsView → Brackets → StepsView
with_brackets r b = cond b.has_length (with_length r.steps r.lengths) (with_step r (step.Array 0))

unfoldable pub with_arrays : StepsView → List Brackets → StepsView
with_arrays r [] = r
with_arrays r (b ∷ more) = with_arrays (with_brackets r b) more

unfoldable pub with_stars : List TypeStep → List ℕ → List TypeStep
with_stars steps [] = steps
with_stars steps (star ∷ more) = with_stars (steps ++ step.Pointer ∷ []) more

abbrev pub starred : StepsView → List ℕ → StepsView
starred r stars = record r { steps = with_stars r.steps stars }

-- the steps of a layer, from its brackets outwards
abbrev pub with_layer : StepsView → LayerView → StepsView
with_layer r l = starred (with_arrays r l.arrays) l.stars

-- the steps of layers, from the innermost one, which is the last, outwards
unfoldable pub with_layers : StepsView → List LayerView → StepsView
with_layers r [] = r
with_layers r (l ∷ more) = with_layer (with_layers r more) l

-- the steps of an abstract declarator whose lengths are these, in the order in which they stand
abbrev pub all_steps : List LayerView → List ℕ → List TypeStep
all_steps layers lengths = (with_layers (no_steps lengths) layers).steps

-- lengths, each of which is a positive constant, or the refusal at a place
unfoldable pub constant_lengths : Place → List (Option ℕ) → Ruled (List ℕ)
constant_lengths at [] = Ok []
constant_lengths at (None ∷ more) = constant_needed at
constant_lengths at (Some n ∷ more) = with_first n (constant_lengths at more)

abbrev pub numbers_view : Vec ℕ Global → List ℕ
numbers_view v = v.items

-- the type that steps make of a type
abbrev pub stepped_type : Known → Place → Ty → List TypeStep → Ruled Ty
stepped_type k at base steps = or_type_fault at (declarator_type k base steps)

abbrev pub shaped_by : Known → Place → List LayerView → Ty → Ruled (List ℕ) → Ruled Ty
shaped_by k at layers base (Err f) = Err f
shaped_by k at layers base (Ok lengths) = stepped_type k at base (all_steps layers lengths)

-- the type that an abstract declarator makes of a type
abbrev pub shaped : Known → Place → List LayerView → List (Option ℕ) → Ty → Ruled Ty
shaped k at layers lengths base = shaped_by k at layers base (constant_lengths at lengths)

abbrev pub shaped_in : Place → List LayerView → List (Option ℕ) → Ty → State → Ruled (Ty × State)
shaped_in at layers lengths base s = kept s (shaped s.known at layers lengths base)

-- the type of a type name whose lengths have values, at the place of the `sizeof` or the cast, and what is known
-- behind it: its words may declare a struct
abbrev pub named_type : State → Place → TypeNameView → List (Option ℕ) → Ruled (Ty × State)
named_type s at n lengths = after (words_type s at n.words) (shaped_in at n.layers lengths)
