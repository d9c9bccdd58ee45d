use Rattle.std.proofs.Common.{◌≡◌, ◌||◌, ◌+◌, ◌∷◌, ◌∙◌, ap, sym, drop}
use Rattle.std.proofs.lemmas.List.{drop_more}
use Rattle.std.specs.BTreeSet.{contains}
use Rattle.sarif.specs.contracts.fresh_diagnostics.KeyOrd.TheImpl as order
use Rattle.sarif.specs.Comparing.{holds}
use Rattle.sarif.proofs.Keys.{keys_grow}
use Rattle.sarif.proofs.fresh_diagnostics.keys_of.Goals as goal

pub loop-entry-preserved : goal.loop-entry-preserved
loop-entry-preserved c =
    let split : drop c.loop-entry.entry-index c.args.known.now ≡ c.entry-item.result ∷ drop (c.loop-entry.entry-index + 1) c.args.known.now = drop_more c.args.known.now c.loop-entry.entry-index c.entry-item.result c.loop-entry-test.true ∙ ap (λ x. x ∷ drop (c.loop-entry.entry-index + 1) c.args.known.now) (sym c.entry-item.is) in
    λ key. keys_grow c.loop-entry.keys c.insert.new.self c.in_ok-key.key key c.entry-item.result (drop (c.loop-entry.entry-index + 1) c.args.known.now) c.args.known.now c.in_ok-key.ensures (c.in_ok-insert.ensures.updates.0 key)
    (ap (λ l. contains (order.cmp-value).it c.loop-entry.keys key || holds l key.file.items key.line key.col key.rule) (sym split) ∙ c.loop-entry.invariant key)
