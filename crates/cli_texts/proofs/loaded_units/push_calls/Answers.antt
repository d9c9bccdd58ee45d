use Rattle.std.proofs.Common.{◌≡◌, ◌<◌, ◌+◌, ◌≤◌, ◌++◌, arith, rules}
use Rattle.cli_texts.specs.LoadUnits.{call_of, calls_from}
use Rattle.cli_texts.proofs.Lines.{calls_grow}
use Rattle.cli_texts.proofs.loaded_units.push_calls.Goals as goal

pub loop-k-preserved : goal.loop-k-preserved
loop-k-preserved c =
    let more : c.loop-k.k < c.args.count = search rules in
    let added : c.extend_from_slice.new.self.items ≡ c.loop-k.text.items ++ call_of c.loop-k.k = search rules in
    let within : c.loop-k.k + 1 ≤ c.args.count = omega arith in
    (within, calls_grow c.loop-k.text.items c.extend_from_slice.new.self.items (c.args.text.now.items ++ calls_from 0 c.args.count) c.loop-k.k c.args.count more c.loop-k.invariant.1 added)
