-- File names as uris, byte by byte.
use Rattle.std.specs.Prelude.{ℕ, ◌+◌, ◌-◌, ◌*◌, ◌/◌, ◌%◌, Bool, ◌&&◌, ◌||◌, nat_lt, nat_le, ◌==◌, if◌then◌else◌, List, [], ◌∷◌, ◌++◌, Option, Some, None, option_map, option_and_then}
use Rattle.std.specs.Str.{is_utf8}

abbrev pub Bytes : Type 0
Bytes = List ℕ

abbrev pub is_between : ℕ → ℕ → ℕ → Bool
is_between low high byte = nat_le low byte && nat_le byte high

-- letters, digits, and - . _ ~ /
abbrev pub is_plain : ℕ → Bool
is_plain byte =
    is_between 65 90 byte || (is_between 97 122 byte || (is_between 48 57 byte || (byte == 45 || (byte == 46 || (byte == 95 || (byte == 126 || byte == 47))))))

-- 0 to 9, then A to F
abbrev pub hex_digit : ℕ → ℕ
hex_digit n = if nat_lt n 10 then 48 + n else 65 + (n - 10)

-- a plain byte as it is, any other one as % and two digits
abbrev pub escaped : ℕ → Bytes
escaped byte = if is_plain byte then byte ∷ [] else 37 ∷ (hex_digit (byte / 16) ∷ (hex_digit (byte % 16) ∷ []))

-- the uri of a file name
abbrev pub uri_of : Bytes → Bytes
uri_of [] = []
uri_of (byte ∷ name) = escaped byte ++ uri_of name

-- the number of a hexadecimal digit of either case
abbrev pub hex_value : ℕ → Option ℕ
hex_value digit =
    if is_between 48 57 digit then Some (digit - 48)
    else (if is_between 65 70 digit then Some (digit - 65 + 10)
    else (if is_between 97 102 digit then Some (digit - 97 + 10) else None))

abbrev pub hex_pair : ℕ → ℕ → Option ℕ
hex_pair high low = option_and_then (λ h. option_map (λ l. 16 * h + l) (hex_value low)) (hex_value high)

-- the bytes that a uri stands for: none where a % lacks its digits
abbrev mutual
  pub uri_bytes : Bytes → Option Bytes
  uri_bytes [] = Some []
  uri_bytes (byte ∷ rest) = if byte == 37 then escaped_bytes rest else option_map (λ bytes. byte ∷ bytes) (uri_bytes rest)

  -- behind a %
  pub escaped_bytes : Bytes → Option Bytes
  escaped_bytes [] = None
  escaped_bytes (high ∷ []) = None
  escaped_bytes (high ∷ (low ∷ rest)) = option_and_then (λ byte. option_map (λ bytes. byte ∷ bytes) (uri_bytes rest)) (hex_pair high low)

-- what is UTF-8
abbrev pub utf8_alone : Bytes → Option Bytes
utf8_alone name = if is_utf8 name then Some name else None

-- the file name that a uri stands for
abbrev pub file_of_uri : Bytes → Option Bytes
file_of_uri uri = option_and_then utf8_alone (uri_bytes uri)
