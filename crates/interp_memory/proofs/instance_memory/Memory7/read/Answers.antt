use Rattle.std.proofs.Common.{◌≡◌, true, cond, sym, ap, ◌∙◌}
use Rattle.memory_model.specs.Effects.Worlds.{with_memory}
use Rattle.memory_model.specs.Effects.ScalarBytes.{contents}
use Rattle.memory_model.specs.Effects.Accesses as machine
use Rattle.interp_memory.specs.ByteViews.{bytes_view}
use Rattle.interp_memory.specs.AccessOutcomes.{scalar_kind}
use Rattle.interp_memory.proofs.instance_memory.Memory7.read.Goals as goal

pub returns-then-has_blank : goal.returns-then-has_blank
returns-then-has_blank c = λ w.
    let m = c.args.self.now.model in
    let v = with_memory w c.args.self.now.memory in
    let cs = contents (bytes_view c.args.bytes.now) in
    let kind = scalar_kind m c.args.class c.args.signed in
    let blank : machine.has_blank cs ≡ true = sym c.has_blank.ensures ∙ c.if-has_blank.true in
    ap (λ b. cond b (machine.read_blank v kind) (machine.given v (machine.scalar_in kind cs))) blank ∙ c.read_blank.ensures m v
