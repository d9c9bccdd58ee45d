-- Data models: which numbers a model may have, and the three that have names.
use Rattle.std.specs.Prelude.{ℕ, Bool, true, ◌==◌, ◌&&◌, ◌||◌, List, Option, Some, None, codes, if◌then◌else◌, nat_eq}
use Rattle.std.specs.Cmp.Lexicographic.{pointwise}
use Rattle.c_layout.specs.declared.data_model.Model.{Model}

-- the numbers of a model are such as a data model has
abbrev pub short_fits : ℕ → Bool
short_fits n = n == 2

abbrev pub int_fits : ℕ → Bool
int_fits n = n == 2 || n == 4

abbrev pub long_fits : ℕ → Bool
long_fits n = n == 4 || n == 8

abbrev pub long_long_fits : ℕ → Bool
long_long_fits n = n == 8

abbrev pub pointer_fits : ℕ → ℕ → ℕ → ℕ → Bool
pointer_fits int long long_long n = (n == 4 || n == 8) && ((n == int || n == long) || n == long_long)

abbrev pub is_model : Model → Bool
is_model m = short_fits m.short && (int_fits m.int && (long_fits m.long && (long_long_fits m.long_long && pointer_fits m.int m.long m.long_long m.pointer)))

abbrev pub lp64 : Model
lp64 = record { short = 2; int = 4; long = 8; long_long = 8; pointer = 8; char_signed = true }

abbrev pub ilp32 : Model
ilp32 = record { short = 2; int = 4; long = 4; long_long = 8; pointer = 4; char_signed = true }

abbrev pub llp64 : Model
llp64 = record { short = 2; int = 4; long = 4; long_long = 8; pointer = 8; char_signed = true }

-- the model that has a name
abbrev pub model_named : List ℕ → Option Model
model_named name =
    if pointwise nat_eq name (codes "lp64") then Some lp64
    else (if pointwise nat_eq name (codes "ilp32") then Some ilp32
    else (if pointwise nat_eq name (codes "llp64") then Some llp64
    else None))
