use Rattle.std.proofs.Common.{map, string_bytes, length, nat_lt, ◌+◌, sym, ◌∙◌, ap}
use Rattle.std.proofs.lemmas.List.{length-map}
use Rattle.c_preproc_directives.specs.OpenFiles.{opened_of}
use Rattle.c_preproc.specs.declared.preprocessing.Step.{Step}
use Rattle.c_preproc.specs.Known.{known_of}
use Rattle.c_preproc.specs.Units.{world_of, course, Course}
use Rattle.c_preproc.specs.Told.{step_as}
use Rattle.c_preproc.proofs.Searches.{caused_earlier, went_on}
use Rattle.c_preproc.proofs.Files.{stack_told, stack_told_refused}
use Rattle.c_preproc.proofs.FilesMet.{stack_goes, stack_ends}
use Rattle.c_preproc.proofs.preprocessing.read_all.Goals as goal

pub returns-in-Err-clause-cause : goal.returns-in-Err-clause-cause
returns-in-Err-clause-cause g c = caused_earlier _ _ (g.T.Tree.files c.read_step.new.tree) _ _ _ _ _ _ (map string_bytes c.args.dirs.now) c.args.model.now _ c.in-Err.stop c.steps.invariant.went c.in-Err.ensures.cause

pub steps-preserved : goal.steps-preserved
steps-preserved g c = record {
  went = went_on _ _ _ _ _ _ _ _ _ c.steps.invariant.went c.in-Ok.ensures.went;
  told = λ held e. stack_told (g.T.Tree.files c.steps.tree) held (map string_bytes c.args.dirs.now) c.args.model.now (nat_lt 16 (c.len-depth.result + 1)) (opened_of c.in-Some.top) (opened_of c.read_step.new.top) (map opened_of c.pop_front.new.self.items) (map opened_of c.steps.stack.items) (map opened_of c.put_back.new.stack.items) (course (known_of c.steps.state) c.steps.files) (course (known_of c.read_step.new.state) c.read_step.new.files) c.in-Ok.left _ c.in-Ok.ensures.reads.find
      (c.steps.invariant.went.same ∙ e) c.in-Ok.ensures.reads.finds c.in-Ok.ensures.reads.gives (ap (λ n. nat_lt 16 (n + 1)) (c.len-depth.ensures ∙ (c.pop_front.new.self.ok.0 ∙ sym (length-map c.pop_front.new.self.items opened_of)))) (ap (map opened_of) c.in-Some.ensures.items) c.in_ok-put_back-in-Ok.ensures.files (c.steps.invariant.told held e);
  placed = λ o k. stack_goes (world_of c.in-Ok.ensures.reads.find (map string_bytes c.args.dirs.now) c.args.model.now) (nat_lt 16 (c.len-depth.result + 1)) (length c.args.files.now) (opened_of c.in-Some.top) (map opened_of c.pop_front.new.self.items) (map opened_of c.steps.stack.items) (map opened_of c.put_back.new.stack.items) (course (known_of c.steps.state) c.steps.files) (opened_of c.read_step.new.top) (course (known_of c.read_step.new.state) c.read_step.new.files) c.in-Ok.left (c.steps.invariant.placed o k) (ap (map opened_of) c.in-Some.ensures.items) c.in_ok-put_back-in-Ok.ensures.files
      c.in-Ok.ensures.reads.gives;
}

pub returns-in-Err-clause-told : goal.returns-in-Err-clause-told
returns-in-Err-clause-told g c = λ held e. stack_told_refused {A = Step} {B = Course} (g.T.Tree.files c.steps.tree) held (map string_bytes c.args.dirs.now) c.args.model.now (nat_lt 16 (c.len-depth.result + 1)) (opened_of c.in-Some.top) (map opened_of c.pop_front.new.self.items) (map opened_of c.steps.stack.items) (course (known_of c.steps.state) c.steps.files) _ (step_as (opened_of c.read_step.new.top) (course (known_of c.read_step.new.state) c.read_step.new.files)) (λ x. x) c.read_step.new.files c.in-Err.stop c.in-Err.ensures.reads.find
    (c.steps.invariant.went.same ∙ e) c.in-Err.ensures.reads.finds c.in-Err.ensures.reads.gives (ap (λ n. nat_lt 16 (n + 1)) (c.len-depth.ensures ∙ (c.pop_front.new.self.ok.0 ∙ sym (length-map c.pop_front.new.self.items opened_of)))) (ap (map opened_of) c.in-Some.ensures.items) (c.steps.invariant.told held e)

pub returns-in-Err-clause-placed : goal.returns-in-Err-clause-placed
returns-in-Err-clause-placed g c = λ o k. stack_ends {A = Step} (world_of c.in-Err.ensures.reads.find (map string_bytes c.args.dirs.now) c.args.model.now) (nat_lt 16 (c.len-depth.result + 1)) (length c.args.files.now) (opened_of c.in-Some.top) (map opened_of c.pop_front.new.self.items) (map opened_of c.steps.stack.items) (course (known_of c.steps.state) c.steps.files) (step_as (opened_of c.read_step.new.top) (course (known_of c.read_step.new.state) c.read_step.new.files)) c.read_step.new.files c.in-Err.stop (c.steps.invariant.placed o k) (ap (map opened_of) c.in-Some.ensures.items) c.in-Err.ensures.reads.gives
