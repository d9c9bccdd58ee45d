-- Worked rows of the expansion of a list.
use Rattle.std.proofs.Common.{◌≡◌, ℕ, false, [], ◌∷◌, Some, None, refl}
use Rattle.cc_base.specs.declared.diagnostics.Place.{Place}
use Rattle.c_preproc_macros.specs.declared.lexeme.Mark.{Mark}
use Rattle.c_preproc_macros.specs.declared.lexeme.Lexeme.TheVariants.{Name, Painted, Open, Close, Comma}
use Rattle.c_preproc_macros.specs.declared.macro_table.Part.TheVariants.{Parameter, Word}
use Rattle.c_preproc_macros.specs.declared.trouble.Trouble.TheVariants.{Spill, Arguments, Unclosed}
use Rattle.c_preproc_macros.specs.Expanding.{Setting, repl, within, along, expansion}
use Rattle.c_preproc_macros.specs.Expanding.Outcome.{done, refused}

abbrev place : ℕ → Place
place k = record { file = 0; line = 1; col = k }

abbrev at : ℕ → Mark
at k = record { place = place k; first = false; space = false }

-- `#define a b` and `#define b a`: the name that comes back is painted, at the place of the outermost name
abbrev circle : Setting
circle = record { table = (1, record { parameters = None; body = Word (Name 2 (at 50)) ∷ [] }) ∷ ((2, record { parameters = None; body = Word (Name 1 (at 60)) ∷ [] }) ∷ []); limit = 100 }

painted : expansion circle (Name 1 (at 3) ∷ []) 0 ≡ done (Painted 1 (at 3) ∷ []) 2
unfolding repl within along
painted = refl

-- `#define f(x) x` and `#define g f`
abbrev calls : Setting
calls = record { table = (1, record { parameters = Some 1; body = Parameter 0 false ∷ [] }) ∷ ((2, record { parameters = None; body = Word (Name 1 (at 50)) ∷ [] }) ∷ []); limit = 100 }

-- f(f(9)): the inner call is an argument
nested : expansion calls (Name 1 (at 1) ∷ (Open (at 2) ∷ (Name 1 (at 3) ∷ (Open (at 4) ∷ (Name 9 (at 5) ∷ (Close (at 6) ∷ (Close (at 7) ∷ []))))))) 0 ≡ done (Name 9 (at 1) ∷ []) 2
unfolding repl within along
nested = refl

-- g(9): the name that ends a replacement stands before `(`
spilled : expansion calls (Name 2 (at 1) ∷ (Open (at 2) ∷ (Name 9 (at 3) ∷ (Close (at 4) ∷ [])))) 0 ≡ refused Spill (place 1)
unfolding repl within along
spilled = refl

-- f(9,9): a wrong number of arguments
wrong : expansion calls (Name 1 (at 1) ∷ (Open (at 2) ∷ (Name 9 (at 3) ∷ (Comma (at 4) ∷ (Name 9 (at 5) ∷ (Close (at 6) ∷ [])))))) 0 ≡ refused Arguments (place 1)
unfolding repl within along
wrong = refl

-- f(9 without its end
open_call : expansion calls (Name 1 (at 1) ∷ (Open (at 2) ∷ (Name 9 (at 3) ∷ []))) 0 ≡ refused Unclosed (place 1)
unfolding repl within along
open_call = refl

-- a function-like name without `(` stays
alone : expansion calls (Name 1 (at 1) ∷ (Name 9 (at 2) ∷ [])) 0 ≡ done (Name 1 (at 1) ∷ (Name 9 (at 2) ∷ [])) 0
unfolding repl within along
alone = refl
