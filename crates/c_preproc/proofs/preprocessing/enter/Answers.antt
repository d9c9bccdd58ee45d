use Rattle.std.proofs.Common.{sym, ◌∙◌, ap}
use Rattle.c_preproc_macros.specs.Numbering.{number_in, with_text}
use Rattle.c_preproc_directives.specs.OpenFiles.{opened_of}
use Rattle.c_preproc.specs.Known.{known_of}
use Rattle.c_preproc.specs.Reading.{found_as}
use Rattle.c_preproc.specs.Units.{opening, Entered}
use Rattle.c_preproc.proofs.Steps.{enter_refused}
use Rattle.c_preproc.proofs.preprocessing.enter.Goals as goal

pub returns-clause-given : goal.returns-clause-given
returns-clause-given c = enter_refused {A = Entered} (found_as c.args.found) (known_of c.args.state.now) c.args.files.now c.number.new.self c.in_ok-file.file c.as_slice.result.now (λ f. opening (known_of c.opened.new.state) (opened_of f)) (λ x. x) c.in-Err.stop
    (c.in_ok-file.ensures.number ∙ ap (number_in c.args.files.now) c.as_str.ensures.value) (c.in_ok-file.ensures.names ∙ ap (with_text c.args.files.now) c.as_str.ensures.value) (sym c.is_once.ensures ∙ c.if-is_once.false) c.as_slice.ensures.value c.in-Err.ensures.given
