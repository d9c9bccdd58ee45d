use Rattle.std.proofs.Common.{◌≡◌, ◌-◌, length, Some, refl, sym, ◌∙◌, arith, append-nil}
use Rattle.json.specs.Json.{read_key, value}
use Rattle.json.proofs.Grammar.{read_key-shorter}
use Rattle.serde_json.specs.Data.{no_members, put}
use Rattle.sarif.proofs.Reading.{member_read, member_refused, key_refused, members_over}
use Rattle.sarif.proofs.Turns.{run_turn}
use Rattle.sarif.proofs.streamed_results.push_run_members.Goals as goal

pub members-init : goal.members-init
members-init c = (length c.args.reader.now, no_members, omega arith, refl, sym (append-nil c.args.known.now.items), omega arith, grind arith)

pub returns-in_err-key-clause-shape : goal.returns-in_err-key-clause-shape
returns-in_err-key-clause-shape c refused =
    let l = c.members in
    l.invariant.3 ∙ key_refused (value c.args.depth) l.invariant.1 l.invariant.0 l.reader c.in_err-key.ensures.value

pub returns-in_err-push_run_member-clause-shape : goal.returns-in_err-push_run_member-clause-shape
returns-in_err-push_run_member-clause-shape c refused =
    let l = c.members in
    let k = c.in-Some.key.now in
    let s = c.next_key.new.self in
    let named : read_key l.reader ≡ Some (Some k, s) = grind arith in
    l.invariant.3 ∙ member_refused (value c.args.depth) l.invariant.1 l.invariant.0 k l.reader s named (c.push_run_member.ensures.shape (grind arith))

pub members-preserved : goal.members-preserved
members-preserved c =
    let p = value c.args.depth in
    let l = c.members in
    let n = l.invariant.0 in
    let found = l.invariant.1 in
    let k = c.in-Some.key.now in
    let s = c.next_key.new.self in
    let named : read_key l.reader ≡ Some (Some k, s) = grind arith in
    let done = c.in_ok-push_run_member.ensures in
    let d = done.ok.0 in
    let r = c.push_run_member.new.reader in
    let less = read_key-shorter l.reader (Some k) s named in
    let lesser = done.shorter in (
      n - 1,
      put k d found,
      omega (arith, l.invariant.2),
      l.invariant.3 ∙ member_read p found n k l.reader s r d (omega (arith, l.invariant.2)) named done.ok.1,
      run_turn k d found c.args.known.now.items l.known.items c.push_run_member.new.known.items c.len-start.result l.invariant.6 done.ok.2 l.invariant.4,
      omega (arith, l.invariant.5),
      l.invariant.6,
    )

pub returns-clause-ok : goal.returns-clause-ok
returns-clause-ok c =
    let l = c.members in (
      l.invariant.1,
      l.invariant.3 ∙ members_over (value c.args.depth) l.invariant.1 l.invariant.0 l.reader c.next_key.new.self l.invariant.2 (grind arith),
      l.invariant.4,
    )
