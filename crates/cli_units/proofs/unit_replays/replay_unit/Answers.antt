use Rattle.cli_units.proofs.unit_replays.replay_unit.Goals as goal

pub returns-clause-replayed : goal.returns-clause-replayed
returns-clause-replayed c = record {
  tree = c.in_ok-tree.tree;
  parsed = c.in_ok-tree.ensures.parsed;
  checked = c.in_ok-checked.checked;
  typed = c.in_ok-checked.ensures.typed;
  looked = c.in_ok-looked.ensures.looked;
  regular = c.in_ok-place.ensures.regular;
  flow = c.in_ok-place.ensures.lowered.0;
  lowered = c.in_ok-place.ensures.lowered.1;
  run = c.in_ok-replayed.ensures;
}
