use Rattle.std.proofs.Common.{◌≡◌, true, length, sym, subst}
use Rattle.c_preproc_directives.specs.OpenFiles.{opened_of}
use Rattle.c_preproc.specs.Known.{known_of}
use Rattle.c_preproc.specs.Units.{Opening}
use Rattle.c_preproc.specs.Placed.{all_in}
use Rattle.c_preproc.proofs.Whole.{main_in, opening_in, not_opened_in, stands_stop}
use Rattle.c_preproc.proofs.preprocessing.unit_of.Goals as goal

pub returns-in-Err-clause-placed : goal.returns-in-Err-clause-placed
returns-in-Err-clause-placed g c = stands_stop (length c.number.new.self) c.in-Err.stop
    (not_opened_in {A = Opening} (length c.number.new.self) c.in_ok-file.file c.args.bytes.now (known_of c.in_ok-state.state) (λ x. x) c.in-Err.stop (main_in c.args.main.now c.in_ok-file.file c.args.files.now c.number.new.self c.in_ok-file.ensures.number c.in_ok-file.ensures.names) c.in_ok-state.ensures c.in-Err.ensures.given)

pub returns-in-Ok-read_all-clause-placed : goal.returns-in-Ok-read_all-clause-placed
returns-in-Ok-read_all-clause-placed g c = subst (λ ts. all_in (length c.read_all.new.files) ts ≡ true) (sym c.into_tokens.ensures.tokens)
    (c.in-Ok-read_all.ensures.placed (opening_in (length c.number.new.self) c.in_ok-file.file c.args.bytes.now (known_of c.in_ok-state.state) (known_of c.opened.new.state) (opened_of c.in-Ok.open) (main_in c.args.main.now c.in_ok-file.file c.args.files.now c.number.new.self c.in_ok-file.ensures.number c.in_ok-file.ensures.names) c.in_ok-state.ensures c.in-Ok.ensures.given).1 (opening_in (length c.number.new.self) c.in_ok-file.file c.args.bytes.now (known_of c.in_ok-state.state) (known_of c.opened.new.state) (opened_of c.in-Ok.open) (main_in c.args.main.now c.in_ok-file.file c.args.files.now c.number.new.self c.in_ok-file.ensures.number c.in_ok-file.ensures.names) c.in_ok-state.ensures c.in-Ok.ensures.given).0)

pub returns-in-Err-read_all-clause-placed : goal.returns-in-Err-read_all-clause-placed
returns-in-Err-read_all-clause-placed g c = stands_stop (length c.read_all.new.files) c.in-Err-read_all.stop
    (c.in-Err-read_all.ensures.placed (opening_in (length c.number.new.self) c.in_ok-file.file c.args.bytes.now (known_of c.in_ok-state.state) (known_of c.opened.new.state) (opened_of c.in-Ok.open) (main_in c.args.main.now c.in_ok-file.file c.args.files.now c.number.new.self c.in_ok-file.ensures.number c.in_ok-file.ensures.names) c.in_ok-state.ensures c.in-Ok.ensures.given).1 (opening_in (length c.number.new.self) c.in_ok-file.file c.args.bytes.now (known_of c.in_ok-state.state) (known_of c.opened.new.state) (opened_of c.in-Ok.open) (main_in c.args.main.now c.in_ok-file.file c.args.files.now c.number.new.self c.in_ok-file.ensures.number c.in_ok-file.ensures.names) c.in_ok-state.ensures c.in-Ok.ensures.given).0)
