use Rattle.c_lexer.proofs.Total.{gives}
use Rattle.c_lexer.proofs.cutting.lex.Goals as goal

pub returns-clause-given : goal.returns-clause-given
returns-clause-given c = gives c.args.file c.args.bytes.now c.cut_file.result c.cut_file.ensures.ok c.cut_file.ensures.refused
