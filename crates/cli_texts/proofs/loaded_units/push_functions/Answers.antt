use Rattle.std.proofs.Common.{◌≡◌, ◌∙◌, ◌<◌, ◌+◌, ◌-◌, ◌≤◌, ◌++◌, ap, arith, rules}
use Rattle.cli_texts.specs.LoadUnits.{next_seed, kind_of, function_line, function_lines}
use Rattle.cli_texts.proofs.Lines.{lines_grow}
use Rattle.cli_texts.proofs.loaded_units.push_functions.Goals as goal

pub loop-k-preserved : goal.loop-k-preserved
loop-k-preserved c =
    let more : c.loop-k.k < c.args.count = search rules in
    let added : c.extend_from_slice.new.self.items ≡ c.loop-k.text.items ++ function_line (kind_of (next_seed c.loop-k.s)) c.loop-k.k = search rules in
    let next = lines_grow c.loop-k.text.items c.extend_from_slice.new.self.items (c.args.text.now.items ++ function_lines c.args.seed 0 c.args.count) c.loop-k.s c.loop-k.k c.args.count more c.loop-k.invariant.1 added in
    let within : c.loop-k.k + 1 ≤ c.args.count = omega arith in
    (within, ap (λ s. c.extend_from_slice.new.self.items ++ function_lines s (c.loop-k.k + 1) (c.args.count - (c.loop-k.k + 1))) c.next_seed-s.ensures ∙ next)
