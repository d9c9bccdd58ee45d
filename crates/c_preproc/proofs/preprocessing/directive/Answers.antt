use Rattle.std.proofs.Common.{map, string_bytes, nat_lt, sym, ◌∙◌}
use Rattle.c_preproc_directives.specs.OpenFiles.{opened_of}
use Rattle.c_preproc.specs.Known.{known_of, line_of}
use Rattle.c_preproc.specs.Units.{world_of, course}
use Rattle.c_preproc.specs.Units.Sought.{nothing}
use Rattle.c_preproc.proofs.Told.{find_by, find_by_is}
use Rattle.c_preproc.proofs.Steps.{conditional_step, directive_skipped, plain_step}
use Rattle.c_preproc.proofs.preprocessing.directive.Goals as goal

pub returns-then-is_conditional-clause-reads : goal.returns-then-is_conditional-clause-reads
returns-then-is_conditional-clause-reads g c = record {
  find = find_by (g.T.Tree.files c.args.tree.now) nothing;
  finds = find_by_is (g.T.Tree.files c.args.tree.now) nothing;
  gives = conditional_step (world_of (find_by (g.T.Tree.files c.args.tree.now) nothing) (map string_bytes c.args.dirs.now) c.args.model.now) (nat_lt 16 c.args.depth) c.args.place c.args.behind.now c.directive_of-directive.result.0 c.directive_of-directive.result.1.now (line_of (known_of c.args.state.now).texts c.args.behind.now) (opened_of c.args.top.now) (opened_of c.conditional_directive.new.top) (course (known_of c.args.state.now) c.args.files.now) (known_of c.conditional_directive.new.state) c.conditional_directive.result c.directive_of-directive.ensures (sym c.is_conditional.ensures ∙ c.if-is_conditional.true) c.conditional_directive.ensures.none c.conditional_directive.ensures.given;
}

pub returns-then-is_skipping-clause-reads : goal.returns-then-is_skipping-clause-reads
returns-then-is_skipping-clause-reads g c = record {
  find = find_by (g.T.Tree.files c.args.tree.now) nothing;
  finds = find_by_is (g.T.Tree.files c.args.tree.now) nothing;
  gives = directive_skipped (world_of (find_by (g.T.Tree.files c.args.tree.now) nothing) (map string_bytes c.args.dirs.now) c.args.model.now) (nat_lt 16 c.args.depth) c.args.place c.args.behind.now c.directive_of-directive.result.0 c.directive_of-directive.result.1.now (line_of (known_of c.args.state.now).texts c.args.behind.now) (opened_of c.args.top.now) (course (known_of c.args.state.now) c.args.files.now) c.directive_of-directive.ensures (sym c.is_conditional.ensures ∙ c.if-is_conditional.false) (sym c.is_skipping.ensures ∙ c.if-is_skipping.true);
}

pub returns-clause-reads : goal.returns-clause-reads
returns-clause-reads g c = record {
  find = find_by (g.T.Tree.files c.args.tree.now) nothing;
  finds = find_by_is (g.T.Tree.files c.args.tree.now) nothing;
  gives = plain_step (world_of (find_by (g.T.Tree.files c.args.tree.now) nothing) (map string_bytes c.args.dirs.now) c.args.model.now) (nat_lt 16 c.args.depth) c.args.place c.args.behind.now c.directive_of-directive.result.0 c.directive_of-directive.result.1.now (line_of (known_of c.args.state.now).texts c.args.behind.now) (opened_of c.args.top.now) (course (known_of c.args.state.now) c.args.files.now) (known_of c.plain_directive.new.state) c.plain_directive.result c.directive_of-directive.ensures (sym c.is_conditional.ensures ∙ c.if-is_conditional.false) (sym c.is_skipping.ensures ∙ c.if-is_skipping.false) (sym c.is_include.ensures ∙ c.if-is_include.false) c.plain_directive.ensures.none c.plain_directive.ensures.given;
}
