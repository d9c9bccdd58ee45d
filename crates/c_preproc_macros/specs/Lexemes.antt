-- Tokens and where they stand.
use Rattle.std.specs.Prelude.{Option, Some, None}
use Rattle.cc_base.specs.declared.diagnostics.Place.{Place}
use Rattle.cc_base.specs.declared.lexemes.Kind.{Kind}
use Rattle.cc_base.specs.declared.lexemes.Kind.TheVariants as kind
use Rattle.c_preproc_macros.specs.declared.lexeme.Mark.{Mark}
use Rattle.c_preproc_macros.specs.declared.lexeme.Lexeme.{Lexeme}
use Rattle.c_preproc_macros.specs.declared.lexeme.Lexeme.TheVariants.{Name, Painted, Open, Close, Comma, Other}

abbrev pub mark_of : Lexeme → Mark
mark_of (Name n m) = m
mark_of (Painted n m) = m
mark_of (Open m) = m
mark_of (Close m) = m
mark_of (Comma m) = m
mark_of (Other k n m) = m

abbrev pub kind_of : Lexeme → Kind
kind_of (Name n m) = kind.Name
kind_of (Painted n m) = kind.Name
kind_of (Other k n m) = k
kind_of x = kind.Punct

abbrev pub mark_at : Place → Mark → Mark
mark_at place m = record m { place = place }

abbrev pub placed_at : Place → Lexeme → Lexeme
placed_at p (Name n m) = Name n (mark_at p m)
placed_at p (Painted n m) = Painted n (mark_at p m)
placed_at p (Open m) = Open (mark_at p m)
placed_at p (Close m) = Close (mark_at p m)
placed_at p (Comma m) = Comma (mark_at p m)
placed_at p (Other k n m) = Other k n (mark_at p m)

-- the place of the outermost macro name, or a token's own place where it stands in the text
abbrev pub place_by : Option Place → Place → Place
place_by None own = own
place_by (Some outer) own = outer

abbrev pub moved : Option Place → Lexeme → Lexeme
moved None x = x
moved (Some outer) x = placed_at outer x
