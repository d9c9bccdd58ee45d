-- Adjacent literals joined at the end of a list of terminals.
use Rattle.std.proofs.Common.{◌≡◌, List, [], ◌∷◌, ◌++◌, refl, ap}
use Rattle.c_parser_tokens.specs.declared.terminals.Terminal.{Terminal}
use Rattle.c_parser_tokens.specs.Classes.{joined, joined_two}

pub joined_last : (front : List Terminal) (x t : Terminal) → joined (front ++ (x ∷ [])) t ≡ front ++ joined_two x t
joined_last [] x t = refl
joined_last (y ∷ []) x t = refl
joined_last (y ∷ (z ∷ more)) x t = ap (λ (ts : List Terminal). y ∷ ts) (joined_last (z ∷ more) x t)
