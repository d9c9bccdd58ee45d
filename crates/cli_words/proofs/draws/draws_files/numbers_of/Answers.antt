use Rattle.std.proofs.Common.{rules, ◌≡◌, true, ◌+◌, ◌<◌, ◌≤◌, length, get_or, arith, sym}
use Rattle.cli_words.specs.Draws.DrawsFiles.{is_gap}
use Rattle.cli_words.proofs.draws.Joining.{gap_kept, byte_kept, end_kept}
use Rattle.cli_words.proofs.draws.draws_files.numbers_of.Goals as goal
use Rattle.cli_words.proofs.draws.draws_files.numbers_of.Goals.{then-is_gap+in_ok-add_word, else-is_gap}

pub loop-at-preserved : goal.loop-at-preserved
loop-at-preserved c = elim c.if-is_gap.branch [
  | then-is_gap+in_ok-add_word w ↦
      let within : c.loop-at.at < length c.args.bytes.now = search (rules, arith) in
      let begins : c.if-is_gap.start ≤ c.loop-at.at + 1 = omega (arith, w.start-is) in
      let gap : is_gap (get_or c.args.bytes.now c.loop-at.at 0) ≡ true = sym w.if-is_gap.ensures in
      rw w.draws-is (begins, gap_kept c.loop-at.draws.items w.add_word.new.draws.items c.args.bytes.now _ c.loop-at.start c.loop-at.at c.if-is_gap.start within gap w.in_ok-add_word.ensures.added c.loop-at.invariant.1 w.start-is)
  | else-is_gap w ↦
      let within : c.loop-at.at < length c.args.bytes.now = search (rules, arith) in
      let begins : c.loop-at.start ≤ c.loop-at.at + 1 = omega (arith, c.loop-at.invariant.0) in
      rw (w.draws-is, w.start-is) (begins, byte_kept c.loop-at.draws.items c.args.bytes.now _ c.loop-at.start c.loop-at.at c.loop-at.invariant.0 within (sym w.if-is_gap.ensures) c.loop-at.invariant.1)
]

pub returns-clause-numbers : goal.returns-clause-numbers
returns-clause-numbers c =
    let ended : c.loop-at.at ≡ length c.args.bytes.now = search (rules, arith) in
    end_kept c.loop-at.draws.items c.add_word-2.new.draws.items c.args.bytes.now _ c.loop-at.start c.loop-at.at ended c.loop-at.invariant.1 c.in_ok-add_word-2.ensures.added
