use Rattle.std.proofs.Common.{◌≤◌, length, ◌∙◌, ap, arith}
use Rattle.std.proofs.lemmas.List.{drop_all}
use Rattle.c_preproc_conditions.specs.Lines.{symbols_of}
use Rattle.c_preproc_conditions.proofs.Lines.{any_lexeme, fails, goes_on, prepended, prepended-nil}
use Rattle.c_preproc_conditions.proofs.evaluation.symbols_of.Goals as goal

pub loop-x-preserved : goal.loop-x-preserved
loop-x-preserved c =
    goes_on c.args.spellings.now c.args.char_signed c.args.line.now c.loop-x.x-index any_lexeme c.loop-x.symbols.items c.push_symbol.new.symbols.items c.loop-x-test.true c.loop-x.invariant c.in-Ok.ensures

pub returns-in-Err : goal.returns-in-Err
returns-in-Err c =
    fails c.args.spellings.now c.args.char_signed c.args.line.now c.loop-x.x-index any_lexeme c.loop-x.symbols.items c.push_symbol.new.symbols.items c.in-Err.fault c.loop-x-test.true c.loop-x.invariant c.in-Err.ensures

pub returns : goal.returns
returns c =
    let past : length c.args.line.now ≤ c.loop-x.x-index = omega arith in
    c.loop-x.invariant ∙ ap (λ l. prepended c.loop-x.symbols.items (symbols_of c.args.spellings.now c.args.char_signed l)) (drop_all c.loop-x.x-index c.args.line.now past) ∙ prepended-nil c.loop-x.symbols.items
