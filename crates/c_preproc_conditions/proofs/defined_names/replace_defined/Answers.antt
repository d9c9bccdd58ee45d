use Rattle.std.proofs.Common.{◌∷◌, [], ◌++◌, sym, ◌∙◌, ap}
use Rattle.c_preproc_macros.specs.Numbering.{texts_of}
use Rattle.c_preproc_macros.specs.Rules.{macros_of}
use Rattle.c_preproc_conditions.specs.DefinedNames.{digit, is_defined, replaced}
use Rattle.c_preproc_conditions.proofs.DefinedNames.{goes_on, puts_digit}
use Rattle.c_preproc_conditions.proofs.defined_names.replace_defined.Goals as goal

pub tokens-preserved : goal.tokens-preserved
tokens-preserved c =
    goes_on (texts_of c.args.spellings.now) (macros_of c.args.macros.now) c.args.digits c.tokens.made.items c.push-else-is_defined_word.new.self.items c.tokens.rest.now c.in-Some.more.now c.in-Some.x.now
    (replaced (texts_of c.args.spellings.now) (macros_of c.args.macros.now) c.args.digits c.args.line.now) c.tokens.invariant c.in-Some.ensures.cases.0 (sym c.is_defined_word.ensures ∙ c.if-is_defined_word.false) c.in_ok-push.ensures.items

pub tokens-preserved-in-Some-named : goal.tokens-preserved-in-Some-named
tokens-preserved-in-Some-named c =
    puts_digit (texts_of c.args.spellings.now) (macros_of c.args.macros.now) c.args.digits c.tokens.made.items c.push.new.self.items c.tokens.rest.now c.in-Some.more.now c.in-Some-named.behind.now c.in-Some.x.now c.in-Some-named.name
    (replaced (texts_of c.args.spellings.now) (macros_of c.args.macros.now) c.args.digits c.args.line.now) c.tokens.invariant c.in-Some.ensures.cases.0 (sym c.is_defined_word.ensures ∙ c.if-is_defined_word.true) (sym c.in-Some-named.ensures)
    (c.in_ok-push-in-Some-named.ensures.items ∙ ap (λ d. c.tokens.made.items ++ d ∷ []) (c.digit.ensures ∙ ap (λ b. digit c.args.digits b c.mark.result) c.is_defined.ensures ∙ ap (digit c.args.digits (is_defined (macros_of c.args.macros.now) c.in-Some-named.name)) c.mark.ensures))
