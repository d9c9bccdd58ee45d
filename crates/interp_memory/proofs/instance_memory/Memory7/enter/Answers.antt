use Rattle.std.proofs.Common.{◌≡◌, ◌+◌, length, map, sym, ap, ◌∙◌, arith}
use Rattle.memory_model.specs.Memory.Instances.{total_size}
use Rattle.interp_memory.specs.ByteViews.{bytes_view}
use Rattle.interp_memory.specs.InstanceViews.{instance_view}
use Rattle.interp_memory.specs.declared.byte_forms.InstState.TheVariants as state
use Rattle.interp_memory.specs.declared.instances.Instance as held
use Rattle.interp_memory.proofs.Totals.{total_more, length_blank}
use Rattle.interp_memory.proofs.instance_memory.Memory7.enter.Goals as goal

pub invariant_of-self-2 : goal.invariant_of-self-2
invariant_of-self-2 c =
    let xs = c.self.inside.instances.items in
    let x : held.Instance = record { kind = c.args.kind; state = state.Live; bytes = c.in_ok-bytes.bytes } in
    let long : length (bytes_view x.bytes.items) ≡ c.args.size = ap length c.in_ok-bytes.ensures ∙ length_blank c.self.inside.model c.args.tags.now 0 c.args.size in
    let sum : c.in-Some.total ≡ c.self.inside.total_bytes + c.args.size = omega (arith, c.in-Some.ensures) in
    sum
    ∙ ap (λ n. n + c.args.size) c.self.invariant
    ∙ ap (λ n. total_size (map instance_view xs) + n) (sym long)
    ∙ sym (total_more xs x)
    ∙ ap (λ l. total_size (map instance_view l)) (sym c.in_ok-push.ensures.items)
