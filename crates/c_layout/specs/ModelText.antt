-- What a data model file says: a table with exactly the six keys of a model.
use Rattle.std.specs.Prelude.{ℕ, ℤ, pos, negsuc, Bool, ◌==◌, nat_lt, ◌+◌, List, Option, Some, None, Result, Ok, Err, codes, if◌then◌else◌, option_and_then, option_map}
use Rattle.toml.specs.Data.{Members, no_members, member, get_member, as_integer, as_bool}
use Rattle.c_layout.specs.declared.data_model.Model.{Model}
use Rattle.c_layout.specs.declared.model_file.Key.TheVariants as key
use Rattle.c_layout.specs.declared.model_file.ModelFault.{ModelFault}
use Rattle.c_layout.specs.declared.model_file.ModelFault.TheVariants.{Shape, Value}
use Rattle.c_layout.specs.Models.{short_fits, int_fits, long_fits, long_long_fits, pointer_fits}

-- how many keys a table has
abbrev pub count_of : Members → ℕ
count_of no_members = 0
count_of (member k d ms) = count_of ms + 1

-- a number as a byte; one that is none is 0, which no list has
abbrev pub byte_of : ℤ → ℕ
byte_of (pos n) = if nat_lt n 256 then n else 0
byte_of (negsuc n) = 0

abbrev pub byte_in : List ℕ → Members → Option ℕ
byte_in key table = option_map byte_of (option_and_then as_integer (get_member key table))

abbrev pub bool_in : List ℕ → Members → Option Bool
bool_in key table = option_and_then as_bool (get_member key table)

-- the six values, where each is there
abbrev pub given : Option ℕ → Option ℕ → Option ℕ → Option ℕ → Option ℕ → Option Bool → Option Model
given (Some s) (Some i) (Some l) (Some ll) (Some p) (Some c) = Some (record { short = s; int = i; long = l; long_long = ll; pointer = p; char_signed = c })
given _ _ _ _ _ _ = None

-- the values under the six keys, where each is there and of its kind
abbrev pub values_in : Members → Option Model
values_in table =
    given (byte_in (codes "short") table) (byte_in (codes "int") table) (byte_in (codes "long") table)
    (byte_in (codes "long_long") table) (byte_in (codes "pointer") table) (bool_in (codes "char_signed") table)

-- the values are a model, or the first key whose value is outside its list
abbrev pub judged : Model → Result Model ModelFault
judged m =
    if short_fits m.short
    then (if int_fits m.int
    then (if long_fits m.long
    then (if long_long_fits m.long_long
    then (if pointer_fits m.int m.long m.long_long m.pointer
    then Ok m
    else Err (Value key.Pointer))
    else Err (Value key.LongLong))
    else Err (Value key.Long))
    else Err (Value key.Int))
    else Err (Value key.Short)

abbrev pub judged_if : Option Model → Result Model ModelFault
judged_if None = Err Shape
judged_if (Some m) = judged m

-- what a text says, which `toml` reads as a table or not at all
abbrev pub model_in : Option Members → Result Model ModelFault
model_in None = Err Shape
model_in (Some table) = if count_of table == 6 then judged_if (values_in table) else Err Shape
