-- Declaration specifiers (6.7.1 to 6.7.3).
use Rattle.std.specs.Prelude.{ℕ, nat_eq, Bool, true, false, cond, List, length, Option, Some, None, is_some, option_map, Ok, Err}
use Rattle.std.specs.Str.Lossy.{utf8_valid_len}
use Rattle.cc_base.specs.declared.diagnostics.Place.{Place}
use Rattle.c_layout.specs.Types as ty
use Rattle.c_layout.specs.declared.data_model.Model.{Model}
use Rattle.c_layout.specs.declared.syntax_tree.declarations.Storage.{Storage}
use Rattle.c_library.specs.Headers.Library.{function_named}
use Rattle.c_types_rules.specs.Rules.IntegerKinds.{kind_of}
use Rattle.c_types_rules.specs.Rules.TypeWords as words
use Rattle.c_types_rules.specs.Rules.TypeWords.{no_words}
use Rattle.c_types_rules.specs.declared.rules.integer_kinds.Rank.TheVariants as rank
use Rattle.c_types_rules.specs.declared.rules.type_words.NamedKind.{NamedKind}
use Rattle.c_types_rules.specs.declared.rules.type_words.NamedKind.TheVariants as kind
use Rattle.c_types_rules.specs.declared.rules.type_words.WordCounts.{WordCounts}
use Rattle.c_types_scopes.specs.Known.{Known}
use Rattle.c_types_scopes.specs.Refusals.{Ruled, type_fault}
use Rattle.c_types_scopes.specs.DeclaredTypes.{DeclaredView, declared_view, plain}
use Rattle.c_types_declarations.specs.declared.specifiers.Specified.{Specified}
use Rattle.c_types_declarations.specs.declared.specifiers.Reading.{Reading}

-- what specifiers say, and whether they declare a tag or enumeration constants
pub record SpecifiedView : Type 0 where
  pub declared : DeclaredView
  pub storage : Option Storage
  pub declares : Bool

abbrev pub specified_view : Specified → SpecifiedView
specified_view s = record { declared = declared_view s.declared; storage = s.storage; declares = s.declares }

-- what they say as far as they are read: the words of a type, and the type that a tag or a typedef name means
pub record ReadingView : Type 0 where
  pub counts : WordCounts
  pub named : Option DeclaredView
  pub storage : Option Storage
  pub declares : Bool

abbrev pub reading_view : Reading → ReadingView
reading_view r = record { counts = r.counts; named = option_map declared_view r.named; storage = r.storage; declares = r.declares }

abbrev pub nothing_read : ReadingView
nothing_read = record { counts = no_words; named = None; storage = None; declares = false }

abbrev pub with_named : ReadingView → DeclaredView → Bool → ReadingView
with_named r d declares = record r { named = Some d; declares = declares }

-- a `struct`
abbrev pub with_struct : ReadingView → ℕ → Bool → ReadingView
with_struct r number declares = with_named r (plain (ty.Struct number)) declares

-- whether bytes are a text
abbrev pub is_utf8 : List ℕ → Bool
is_utf8 bytes = nat_eq (utf8_valid_len bytes) (length bytes)

-- whether the library has a function of this name
abbrev pub is_library_name : List ℕ → Bool
is_library_name name = cond (is_utf8 name) (is_some (function_named name)) false

-- an enumerated type is int
abbrev pub enumerated : Model → ℕ → DeclaredView
enumerated m number = record { ctype = ty.Int (kind_of m rank.Int true); enumeration = Some number }

-- an `enum`, which declares something by itself
abbrev pub with_enumeration : Model → ReadingView → ℕ → ReadingView
with_enumeration m r number = with_named r (enumerated m number) true

abbrev pub counted_as : Place → Option NamedKind → Ruled DeclaredView
counted_as at None = type_fault at
counted_as at (Some kind.Void) = Ok (plain ty.Void)
counted_as at (Some (kind.Integer k)) = Ok (plain (ty.Int k))

-- the type that counted words name
abbrev pub counted : Known → Place → WordCounts → Ruled DeclaredView
counted k at counts = counted_as at (words.named k.numbers counts)

-- a tag or a typedef name comes before words
abbrev pub declared_of : Known → Place → Option DeclaredView → WordCounts → Ruled DeclaredView
declared_of k at (Some d) counts = Ok d
declared_of k at None counts = counted k at counts

abbrev pub said_with : ReadingView → Ruled DeclaredView → Ruled SpecifiedView
said_with r (Ok d) = Ok (record { declared = d; storage = r.storage; declares = r.declares })
said_with r (Err f) = Err f

-- what specifiers say that were read
abbrev pub said : Known → Place → ReadingView → Ruled SpecifiedView
said k at r = said_with r (declared_of k at r.named r.counts)
