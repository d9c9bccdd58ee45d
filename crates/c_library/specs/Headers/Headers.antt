-- The texts of the built-in headers.
use Rattle.std.specs.Prelude.{ℕ, Bool, true, false, ◌==◌, ◌+◌, ◌-◌, ◌*◌, ◌^◌, ◌/◌, ◌%◌, nat_lt, zero, suc, List, [], ◌∷◌, ◌++◌, Option, Some, None, codes, nat_eq, if◌then◌else◌}
use Rattle.std.specs.Cmp.Lexicographic.{pointwise}
use Rattle.c_layout.specs.declared.data_model.Model.{Model}
use Rattle.c_library.specs.declared.headers.headers.Width.{Width}
use Rattle.c_library.specs.declared.headers.headers.Width.TheVariants.{Long, Int, LongLong}

abbrev pub Bytes : Type 0
Bytes = List ℕ

-- the decimal digits of a number that has at most so many
abbrev pub digits : ℕ → ℕ → Bytes
digits zero n = []
digits (suc k) n = if nat_lt n 10 then (48 + n) ∷ [] else digits k (n / 10) ++ (48 + n % 10) ∷ []

abbrev pub decimal : ℕ → Bytes
decimal n = digits 20 n

-- an entry of a header: its line, read once however often the header is included
abbrev pub entry : Bytes → Bytes → Bytes
entry name line = codes "#ifndef __ccheck_" ++ name ++ codes "\n#define __ccheck_" ++ name ++ codes "\n" ++ line ++ codes "\n#endif\n"

abbrev pub macro_entry : Bytes → Bytes → Bytes
macro_entry name value = entry name (codes "#define " ++ name ++ codes " " ++ value)

abbrev pub type_entry : Bytes → Bytes → Bytes
type_entry name spelling = entry name (codes "typedef " ++ spelling ++ codes " " ++ name ++ codes ";")

-- the first of long, int and long long that is as wide as a pointer
abbrev pub width_of : Model → Width
width_of m = if m.long == m.pointer then Long else (if m.int == m.pointer then Int else LongLong)

abbrev pub width_word : Width → Bytes
width_word Long = codes "long"
width_word Int = codes "int"
width_word LongLong = codes "long long"

abbrev pub size_entry : Width → Bytes
size_entry w = type_entry (codes "size_t") (codes "unsigned " ++ width_word w)

abbrev pub null_entry : Bytes
null_entry = macro_entry (codes "NULL") (codes "((void*)0)")

unfoldable pub stddef_text : Width → Bytes
stddef_text w = size_entry w ++ type_entry (codes "ptrdiff_t") (width_word w) ++ null_entry

unfoldable pub stdlib_text : Width → Bytes
stdlib_text w = size_entry w ++ null_entry ++ macro_entry (codes "EXIT_SUCCESS") (codes "0") ++ macro_entry (codes "EXIT_FAILURE") (codes "1")

unfoldable pub string_text : Width → Bytes
string_text w = size_entry w ++ null_entry

unfoldable pub stdio_text : Width → Bytes
stdio_text w =
    size_entry w ++ null_entry ++ macro_entry (codes "EOF") (codes "(-1)")
    ++ entry (codes "__file") (codes "struct __file { char b; };")
    ++ type_entry (codes "FILE") (codes "struct __file")
    ++ entry (codes "__stdin") (codes "static struct __file __stdin;")
    ++ macro_entry (codes "stdin") (codes "(&__stdin)")

-- the least and the greatest value of a signed type of so many bytes, with the suffix of its promoted type
abbrev pub signed_entries : Bytes → ℕ → Bytes → Bytes
signed_entries name bytes suffix =
    let most = decimal (2 ^ (8 * bytes - 1) - 1) ++ suffix in
    macro_entry (name ++ codes "_MIN") (codes "(-" ++ most ++ codes "-1)") ++ macro_entry (name ++ codes "_MAX") most

-- the greatest value of an unsigned type
abbrev pub unsigned_entry : Bytes → ℕ → Bytes → Bytes
unsigned_entry name bytes suffix = macro_entry (name ++ codes "_MAX") (decimal (2 ^ (8 * bytes) - 1) ++ suffix)

abbrev pub char_entries : Bool → Bytes
char_entries true = signed_entries (codes "CHAR") 1 []
char_entries false = macro_entry (codes "CHAR_MIN") (codes "0") ++ unsigned_entry (codes "CHAR") 1 []

-- the size of long, which is 8 bytes or 4
abbrev pub long_bytes : Bool → ℕ
long_bytes true = 8
long_bytes false = 4

-- limits.h where int and long have so many bytes; an unsigned short promotes to int or, where int has 2 bytes, to unsigned int
unfoldable pub limits_text : ℕ → ℕ → Bool → Bytes
limits_text int long char_signed =
    macro_entry (codes "CHAR_BIT") (codes "8")
    ++ signed_entries (codes "SCHAR") 1 [] ++ char_entries char_signed
    ++ signed_entries (codes "SHRT") 2 [] ++ signed_entries (codes "INT") int []
    ++ signed_entries (codes "LONG") long (codes "l") ++ signed_entries (codes "LLONG") 8 (codes "ll")
    ++ unsigned_entry (codes "UCHAR") 1 [] ++ unsigned_entry (codes "USHRT") 2 (if int == 2 then codes "u" else [])
    ++ unsigned_entry (codes "UINT") int (codes "u") ++ unsigned_entry (codes "ULONG") long (codes "ul")
    ++ unsigned_entry (codes "ULLONG") 8 (codes "ull")

-- the text of the header that has a name
abbrev pub header_text : Bytes → Model → Option Bytes
header_text name m =
    if pointwise nat_eq name (codes "stddef.h") then Some (stddef_text (width_of m))
    else (if pointwise nat_eq name (codes "stdlib.h") then Some (stdlib_text (width_of m))
    else (if pointwise nat_eq name (codes "string.h") then Some (string_text (width_of m))
    else (if pointwise nat_eq name (codes "ctype.h") then Some []
    else (if pointwise nat_eq name (codes "stdio.h") then Some (stdio_text (width_of m))
    else (if pointwise nat_eq name (codes "limits.h") then Some (limits_text m.int m.long m.char_signed)
    else None)))))
