use Rattle.std.proofs.Common.{◌≡◌, Some, MatchResult, sym, subst}
use Rattle.c_preproc_macros.specs.Numbering.{texts_of}
use Rattle.c_preproc_directives.specs.Definitions.{is_barred, headed, Refuses}
use Rattle.c_preproc_directives.proofs.macro_definitions.parameters.Goals as goal

pub returns-in-len1-up : goal.returns-in-len1-up
returns-in-len1-up c =
    subst (λ l. MatchResult c.headed_by.result (λ p. headed (is_barred (texts_of c.args.spellings.now)) l ≡ Some (record { names = p.0.keys; list = p.1.now })) (Refuses (headed (is_barred (texts_of c.args.spellings.now)) l)))
    (sym c.headed_by.ensures.rest) c.headed_by.ensures.found
