-- Texts whose numbers are bytes.
use Rattle.std.specs.Prelude.{ℕ, Bool, nat_lt, List}
use Rattle.std.specs.List.{list_all}
use Rattle.cc_base.specs.declared.lexemes.Token.{Token}

abbrev pub is_byte : ℕ → Bool
is_byte b = nat_lt b 256

abbrev pub are_bytes : List ℕ → Bool
are_bytes text = list_all is_byte text

abbrev pub has_byte_text : Token → Bool
has_byte_text t = are_bytes t.text

abbrev pub have_byte_texts : List Token → Bool
have_byte_texts tokens = list_all has_byte_text tokens
