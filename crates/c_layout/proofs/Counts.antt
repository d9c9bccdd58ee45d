-- How many keys a table has.
use Rattle.std.proofs.Common.{◌≡◌, List, [], ◌∷◌, length, refl, arith}
use Rattle.std.specs.Prelude.{String}
use Rattle.std.specs.declared.alloc.Global.{Global}
use Rattle.toml.specs.declared.value.Value.{Value}
use Rattle.toml.specs.View.{members_view}
use Rattle.c_layout.specs.ModelText.{count_of}

pub count_entries : (es : List (String Global × Value)) → count_of (members_view es) ≡ length es
count_entries [] = refl
count_entries (e ∷ es) = omega (arith, count_entries es)
