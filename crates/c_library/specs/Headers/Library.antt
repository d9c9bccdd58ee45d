-- The names of the library functions.
use Rattle.std.specs.Prelude.{ℕ, List, [], ◌∷◌, Option, find, bytes_eq}
use Rattle.c_layout.specs.LibrarySignatures.{signature_of}
use Rattle.c_layout.specs.declared.library_functions.LibFn.{LibFn}
use Rattle.c_layout.specs.declared.library_functions.LibFn.TheVariants.{Malloc, Calloc, Realloc, Free, Memcpy, Memmove, Memset, Strlen, Strcpy, Strncpy, Strcat, Strcmp, Isalpha, Isdigit, Isspace, Isupper, Islower, Isalnum, Toupper, Tolower, Getchar, Fgets, Putchar, Puts, Printf, Exit, Abort}

abbrev pub all_functions : List LibFn
all_functions = Malloc ∷ (Calloc ∷ (Realloc ∷ (Free ∷ (Memcpy ∷ (Memmove ∷ (Memset ∷ (Strlen ∷ (Strcpy ∷ (Strncpy ∷ (Strcat ∷ (Strcmp ∷ (Isalpha ∷ (Isdigit ∷ (Isspace ∷ (Isupper ∷ (Islower ∷ (Isalnum ∷ (Toupper ∷ (Tolower ∷ (Getchar ∷ (Fgets ∷ (Putchar ∷ (Puts ∷ (Printf ∷ (Exit ∷ (Abort ∷ []))))))))))))))))))))))))))

-- the library function that has a name
abbrev pub function_named : List ℕ → Option LibFn
function_named name = find (λ function. bytes_eq name (signature_of function).name) all_functions
