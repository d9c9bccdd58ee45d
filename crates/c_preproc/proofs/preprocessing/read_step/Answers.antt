use Rattle.std.proofs.Common.{map, string_bytes, nat_lt, not, sym, ◌∙◌, ap, rules}
use Rattle.cc_base.specs.declared.refusals.Refusal.TheVariants as refusal
use Rattle.c_lexer.specs.Cutting.{fault_of}
use Rattle.c_preproc_directives.specs.OpenFiles.{opened_of}
use Rattle.c_preproc.specs.Known.{known_of}
use Rattle.c_preproc.specs.Units.{world_of, course, step}
use Rattle.c_preproc.specs.Units.Sought.{nothing}
use Rattle.c_preproc.specs.Told.{step_as}
use Rattle.c_preproc.proofs.Told.{find_by, find_by_is}
use Rattle.c_preproc.proofs.Steps.{refused_as, step_ended, step_uneven, text_step}
use Rattle.c_preproc.proofs.preprocessing.read_step.Goals as goal

pub returns-in-None-clause-reads : goal.returns-in-None-clause-reads
returns-in-None-clause-reads g c = record {
  find = find_by (g.T.Tree.files c.args.tree.now) nothing;
  finds = find_by_is (g.T.Tree.files c.args.tree.now) nothing;
  gives = step_ended (world_of (find_by (g.T.Tree.files c.args.tree.now) nothing) (map string_bytes c.args.dirs.now) c.args.model.now) (nat_lt 16 c.args.depth) (opened_of c.args.top.now) (course (known_of c.args.state.now) c.args.files.now) c.next-next.result c.next-next.ensures (c.is_none.ensures ∙ ap not c.if-is_none.true) (sym c.first_open.ensures ∙ c.in-None.is);
}

pub returns-in-Some-clause-reads : goal.returns-in-Some-clause-reads
returns-in-Some-clause-reads g c = record {
  find = find_by (g.T.Tree.files c.args.tree.now) nothing;
  finds = find_by_is (g.T.Tree.files c.args.tree.now) nothing;
  gives = refused_as (step (world_of (find_by (g.T.Tree.files c.args.tree.now) nothing) (map string_bytes c.args.dirs.now) c.args.model.now) (nat_lt 16 c.args.depth) (opened_of c.args.top.now) (course (known_of c.args.state.now) c.args.files.now)) (step_as (opened_of c.args.top.now) (course (known_of c.args.state.now) c.args.files.now)) c.args.files.now c.refused.result (fault_of c.in-Some.place refusal.UnevenConditional) c.refused.ensures
      (step_uneven (world_of (find_by (g.T.Tree.files c.args.tree.now) nothing) (map string_bytes c.args.dirs.now) c.args.model.now) (nat_lt 16 c.args.depth) (opened_of c.args.top.now) (course (known_of c.args.state.now) c.args.files.now) c.next-next.result c.in-Some.place c.next-next.ensures (c.is_none.ensures ∙ ap not c.if-is_none.true) (sym c.first_open.ensures ∙ c.in-Some.is));
}

pub returns-in_default-clause-reads : goal.returns-in_default-clause-reads
returns-in_default-clause-reads g c = record {
  find = find_by (g.T.Tree.files c.args.tree.now) nothing;
  finds = find_by_is (g.T.Tree.files c.args.tree.now) nothing;
  gives = text_step (world_of (find_by (g.T.Tree.files c.args.tree.now) nothing) (map string_bytes c.args.dirs.now) c.args.model.now) (nat_lt 16 c.args.depth) (opened_of c.args.top.now) (opened_of c.text_step.new.top) (course (known_of c.args.state.now) c.args.files.now) c.next-next.result (known_of c.text_step.new.state) c.text_step.result c.next-next.ensures (c.is_none.ensures ∙ ap not c.if-is_none.false)
      (sym c.directive_place.ensures ∙ c.in_default.is) c.text_step.ensures.goes_on c.text_step.ensures.given;
}

pub returns-in_err-behind-clause-reads : goal.returns-in_err-behind-clause-reads
returns-in_err-behind-clause-reads g c = record {
  find = find_by (g.T.Tree.files c.args.tree.now) nothing;
  finds = find_by_is (g.T.Tree.files c.args.tree.now) nothing;
  gives = search rules;
}
