use Rattle.std.proofs.Common.{◌≡◌, ℕ, length, nat_eq, true, arith}
use Rattle.std.proofs.lemmas.Str.{utf8_valid_len-IsUtf8}
use Rattle.std.specs.Str.Lossy.{utf8_valid_len}
use Rattle.c_types_declarations.proofs.specifiers.as_text.Goals as goal

same_number : (n m : ℕ) → n ≡ m → nat_eq n m ≡ true
same_number n m e = grind arith

pub returns-in-Ok : goal.returns-in-Ok
returns-in-Ok c = (c.in-Ok.ensures.cases.0, same_number (utf8_valid_len c.args.bytes.now) (length c.args.bytes.now) (utf8_valid_len-IsUtf8 c.args.bytes.now c.in-Ok.ensures.cases.1))
