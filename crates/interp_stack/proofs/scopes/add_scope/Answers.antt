use Rattle.std.proofs.Common.{reverse, ap, sym, ◌∙◌}
use Rattle.interp_stack.proofs.Entries.{no_scope, entry_scopes, entry_objects}
use Rattle.interp_stack.proofs.scopes.add_scope.Goals as goal

pub returns-in_default : goal.returns-in_default
returns-in_default c = λ u s scans.
    let item = c.args.item.now in
    let plain = no_scope item c.in_default.not-Leaves c.in_default.not-LeavesBelow c.in_default.not-Also c.in_default.not-AlsoFrom in
    (scans.0 ∙ sym (entry_scopes u item s plain), ap reverse c.clear.ensures.items ∙ sym (entry_objects u item s plain))
