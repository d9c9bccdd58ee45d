-- The table of the library functions (7.4, 7.21, 7.22, 7.24): their names and prototypes, and what is special to some.
use Rattle.std.specs.Prelude.{ℕ, Bool, true, false, List, [], ◌∷◌, Option, Some, None, codes}
use Rattle.c_layout.specs.declared.library_functions.LibFn.{LibFn}
use Rattle.c_layout.specs.declared.library_functions.LibFn.TheVariants as f
use Rattle.c_layout.specs.declared.library_signatures.LibrarySignature.{LibrarySignature}
use Rattle.c_layout.specs.declared.library_signatures.Slot.{Slot}
use Rattle.c_layout.specs.declared.library_signatures.Slot.TheVariants as slot
use Rattle.c_layout.specs.declared.library_signatures.CharacterClass.{CharacterClass}
use Rattle.c_layout.specs.declared.library_signatures.CharacterClass.TheVariants as class
use Rattle.c_layout.specs.declared.library_signatures.SizeArguments.{SizeArguments}
use Rattle.c_layout.specs.declared.library_signatures.SizeArguments.TheVariants as sizes

pub record Signature : Type 0 where
  pub name : List ℕ
  pub result : Slot
  -- of `printf` none, since its format says what follows
  pub parameters : List Slot
  pub takes_format : Bool
  pub allocates : Bool
  -- which arguments are numbers of bytes
  pub sizes : SizeArguments
  pub reads_line : Bool
  -- what a function on characters tests or makes
  pub character : Option CharacterClass

abbrev pub signature_view : LibrarySignature → Signature
signature_view s = record { name = s.name.now; result = s.result; parameters = s.parameters.now; takes_format = s.takes_format; allocates = s.allocates; sizes = s.sizes; reads_line = s.reads_line; character = s.character }

abbrev pub plain : List ℕ → Slot → List Slot → Signature
plain name result parameters = record { name = name; result = result; parameters = parameters; takes_format = false; allocates = false; sizes = sizes.None; reads_line = false; character = None }

abbrev pub allocation : List ℕ → List Slot → Signature
allocation name parameters = record (plain name slot.Memory parameters) { allocates = true; sizes = sizes.All }

abbrev pub third_size : List ℕ → Slot → List Slot → Signature
third_size name result parameters = record (plain name result parameters) { sizes = sizes.Third }

abbrev pub character : List ℕ → CharacterClass → Signature
character name class = record (plain name slot.Int (slot.Int ∷ [])) { character = Some class }

abbrev pub signature_of : LibFn → Signature
signature_of f.Malloc = allocation (codes "malloc") (slot.Size ∷ [])
signature_of f.Calloc = allocation (codes "calloc") (slot.Size ∷ slot.Size ∷ [])
signature_of f.Realloc = allocation (codes "realloc") (slot.Memory ∷ slot.Size ∷ [])
signature_of f.Free = plain (codes "free") slot.Void (slot.Memory ∷ [])
signature_of f.Memcpy = third_size (codes "memcpy") slot.Memory (slot.Memory ∷ slot.Memory ∷ slot.Size ∷ [])
signature_of f.Memmove = third_size (codes "memmove") slot.Memory (slot.Memory ∷ slot.Memory ∷ slot.Size ∷ [])
signature_of f.Memset = third_size (codes "memset") slot.Memory (slot.Memory ∷ slot.Int ∷ slot.Size ∷ [])
signature_of f.Strlen = plain (codes "strlen") slot.Size (slot.Text ∷ [])
signature_of f.Strcpy = plain (codes "strcpy") slot.Text (slot.Text ∷ slot.Text ∷ [])
signature_of f.Strncpy = third_size (codes "strncpy") slot.Text (slot.Text ∷ slot.Text ∷ slot.Size ∷ [])
signature_of f.Strcat = plain (codes "strcat") slot.Text (slot.Text ∷ slot.Text ∷ [])
signature_of f.Strcmp = plain (codes "strcmp") slot.Int (slot.Text ∷ slot.Text ∷ [])
signature_of f.Isalpha = character (codes "isalpha") class.Letter
signature_of f.Isdigit = character (codes "isdigit") class.Digit
signature_of f.Isspace = character (codes "isspace") class.Space
signature_of f.Isupper = character (codes "isupper") class.Upper
signature_of f.Islower = character (codes "islower") class.Lower
signature_of f.Isalnum = character (codes "isalnum") class.LetterOrDigit
signature_of f.Toupper = character (codes "toupper") class.ToUpper
signature_of f.Tolower = character (codes "tolower") class.ToLower
signature_of f.Getchar = plain (codes "getchar") slot.Int []
signature_of f.Fgets = record (plain (codes "fgets") slot.Text (slot.Text ∷ slot.Int ∷ slot.Stream ∷ [])) { reads_line = true }
signature_of f.Putchar = plain (codes "putchar") slot.Int (slot.Int ∷ [])
signature_of f.Puts = plain (codes "puts") slot.Int (slot.Text ∷ [])
signature_of f.Printf = record (plain (codes "printf") slot.Int []) { takes_format = true }
signature_of f.Exit = plain (codes "exit") slot.Void (slot.Int ∷ [])
signature_of f.Abort = plain (codes "abort") slot.Void []

abbrev pub is_value : Slot → Bool
is_value slot.Void = false
is_value slot.Int = true
is_value slot.Size = true
is_value slot.Text = true
is_value slot.Memory = true
is_value slot.Stream = true

-- whether a call has a value
abbrev pub gives : LibFn → Bool
gives function = is_value (signature_of function).result
