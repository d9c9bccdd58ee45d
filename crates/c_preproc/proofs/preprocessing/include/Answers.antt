use Rattle.std.proofs.Common.{map, string_bytes, nat_lt, rules}
use Rattle.c_preproc.specs.Known.{known_of, Asked, asked_as}
use Rattle.c_preproc.specs.Units.{world_of, Entered, entered_as}
use Rattle.c_preproc.specs.Units.Sought.{nothing}
use Rattle.c_preproc.specs.Told.{opened_if}
use Rattle.c_preproc.proofs.Told.{find_by, find_by_is}
use Rattle.c_preproc.proofs.Steps.{include_not_asked, sought_is, include_not_found, include_missing, include_entered}
use Rattle.c_preproc.proofs.Searches.{missing_is, names_kept}
use Rattle.c_preproc.proofs.preprocessing.include.Goals as goal

pub returns-in-Err-search-clause-cause : goal.returns-in-Err-search-clause-cause
returns-in-Err-search-clause-cause g c = c.in-Err-search.ensures.answer (map string_bytes c.args.dirs.now)

pub returns-in-None-clause-cause : goal.returns-in-None-clause-cause
returns-in-None-clause-cause g c = c.missing.ensures.cause _ _ _ _
    (missing_is string_bytes (g.T.Tree.files c.args.tree.now) (g.T.Tree.files c.search.new.tree) _ _ _ _ (map string_bytes c.args.dirs.now) c.args.model.now c.search.new.files _ _ _ _ _ _ _ c.args.files.now c.args.top _ c.in-Ok-search.held
    c.includer_of-includer.ensures (names_kept _ _ _ c.in-Ok-search.held c.in-Ok-search.ensures.seeks.gives c.in-None.is) c.as_slice.ensures.value c.in_ok-searched.ensures c.as_str.ensures.value c.as_str-2.ensures.value c.as_str-in-None.ensures.value
    (c.in-Ok-search.ensures.answer (map string_bytes c.args.dirs.now)) c.in-None.is)

pub returns-in-Err-clause-reads : goal.returns-in-Err-clause-reads
returns-in-Err-clause-reads g c = record {
  find = find_by (g.T.Tree.files c.args.tree.now) nothing;
  finds = find_by_is (g.T.Tree.files c.args.tree.now) nothing;
  gives = include_not_asked {A = Asked} {B = Entered} (world_of (find_by (g.T.Tree.files c.args.tree.now) nothing) (map string_bytes c.args.dirs.now) c.args.model.now) c.args.top (nat_lt 16 c.args.depth) c.args.place c.args.line.now (known_of c.args.state.now) c.args.files.now (λ a. a) (λ e. e) c.in-Err.stop c.in-Err.ensures.given;
}

pub returns-in_err-searched-clause-reads : goal.returns-in_err-searched-clause-reads
returns-in_err-searched-clause-reads g c = record {
  find = find_by (g.T.Tree.files c.args.tree.now) nothing;
  finds = find_by_is (g.T.Tree.files c.args.tree.now) nothing;
  gives = search rules;
}

pub returns-in-Err-search-clause-reads : goal.returns-in-Err-search-clause-reads
returns-in-Err-search-clause-reads g c = record {
  find = find_by (g.T.Tree.files c.args.tree.now) c.in-Err-search.ensures.seeks.sought;
  finds = find_by_is (g.T.Tree.files c.args.tree.now) c.in-Err-search.ensures.seeks.sought;
  gives = include_not_found {B = Entered} (world_of (find_by (g.T.Tree.files c.args.tree.now) c.in-Err-search.ensures.seeks.sought) (map string_bytes c.args.dirs.now) c.args.model.now) c.args.top (nat_lt 16 c.args.depth) c.args.place c.args.line.now (known_of c.args.state.now) c.args.files.now c.search.new.files (asked_as (known_of c.asked.new.state) c.in-Ok.wanted) c.in-Err-search.ensures.seeks.sought (λ e. e) c.in-Err-search.stop c.in-Ok.ensures.given
      (sought_is string_bytes (g.T.Tree.files c.args.tree.now) (map string_bytes c.args.dirs.now) c.args.model.now _ _ _ _ _ _ _ c.in-Err-search.ensures.seeks.sought c.as_slice.ensures.value c.in_ok-searched.ensures c.includer_of-includer.ensures c.as_str.ensures.value c.as_str-2.ensures.value c.in-Err-search.ensures.seeks.is) c.in-Err-search.ensures.seeks.gives;
}

pub returns-in-None-clause-reads : goal.returns-in-None-clause-reads
returns-in-None-clause-reads g c = record {
  find = find_by (g.T.Tree.files c.args.tree.now) c.in-Ok-search.ensures.seeks.sought;
  finds = find_by_is (g.T.Tree.files c.args.tree.now) c.in-Ok-search.ensures.seeks.sought;
  gives = include_missing {B = Entered} (world_of (find_by (g.T.Tree.files c.args.tree.now) c.in-Ok-search.ensures.seeks.sought) (map string_bytes c.args.dirs.now) c.args.model.now) c.args.top (nat_lt 16 c.args.depth) c.args.place c.args.line.now (known_of c.args.state.now) c.args.files.now c.search.new.files (asked_as (known_of c.asked.new.state) c.in-Ok.wanted) c.in-Ok-search.ensures.seeks.sought c.in-Ok-search.held c.as_str-in-None.result.now (λ e. e) c.missing.result c.in-Ok.ensures.given
      (sought_is string_bytes (g.T.Tree.files c.args.tree.now) (map string_bytes c.args.dirs.now) c.args.model.now _ _ _ _ _ _ _ c.in-Ok-search.ensures.seeks.sought c.as_slice.ensures.value c.in_ok-searched.ensures c.includer_of-includer.ensures c.as_str.ensures.value c.as_str-2.ensures.value c.in-Ok-search.ensures.seeks.is) c.in-Ok-search.ensures.seeks.gives c.in-None.is c.as_str-in-None.ensures.value c.missing.ensures.stop;
}

pub returns-clause-reads : goal.returns-clause-reads
returns-clause-reads g c = record {
  find = find_by (g.T.Tree.files c.args.tree.now) c.in-Ok-search.ensures.seeks.sought;
  finds = find_by_is (g.T.Tree.files c.args.tree.now) c.in-Ok-search.ensures.seeks.sought;
  gives = include_entered (world_of (find_by (g.T.Tree.files c.args.tree.now) c.in-Ok-search.ensures.seeks.sought) (map string_bytes c.args.dirs.now) c.args.model.now) c.args.top (nat_lt 16 c.args.depth) c.args.place c.args.line.now (known_of c.args.state.now) c.args.files.now c.search.new.files c.enter.new.files (asked_as (known_of c.asked.new.state) c.in-Ok.wanted) c.in-Ok-search.ensures.seeks.sought c.in-Ok-search.held c.in-Some.found (λ o. entered_as (known_of c.enter.new.state) c.enter.new.files (opened_if o)) c.enter.result c.in-Ok.ensures.given
      (sought_is string_bytes (g.T.Tree.files c.args.tree.now) (map string_bytes c.args.dirs.now) c.args.model.now _ _ _ _ _ _ _ c.in-Ok-search.ensures.seeks.sought c.as_slice.ensures.value c.in_ok-searched.ensures c.includer_of-includer.ensures c.as_str.ensures.value c.as_str-2.ensures.value c.in-Ok-search.ensures.seeks.is) c.in-Ok-search.ensures.seeks.gives c.in-Some.is c.enter.ensures.given;
}
