use Rattle.std.proofs.Common.{◌≡◌, length, map, set, slice_get, Some, refl, sym, ap, subst, ◌∙◌, arith}
use Rattle.std.proofs.lemmas.List.{with_items_is}
use Rattle.std.proofs.lemmas.Option.{slice_get_read}
use Rattle.std.specs.Vec.{with_items}
use Rattle.memory_model.specs.Memory.Instances.{bytes_at}
use Rattle.memory_model.specs.Effects.Touches.{set_bytes}
use Rattle.memory_model.specs.Effects.ScalarBytes.{refilled}
use Rattle.interp_memory.specs.ByteViews.{bytes_view, contents_view}
use Rattle.interp_memory.specs.InstanceViews.{Instances, remembering, instance_view}
use Rattle.interp_memory.specs.declared.instances.Instance as held
use Rattle.interp_memory.proofs.InstanceSteps.{bytes_there, changed}
use Rattle.interp_memory.proofs.Totals.{total_written}
use Rattle.interp_memory.proofs.instance_memory.Memory7.rewrite.Goals as goal

pub returns-then-at-len : goal.returns-then-at-len
returns-then-at-len c =
    let xs = c.self.inside.instances.items in
    let i = c.args.at.inst in
    let x = c.index_mut-instance.result.now in
    let there : slice_get xs i ≡ Some x = slice_get_read xs (length xs) i x refl (omega arith) c.index_mut-instance.ensures.value in
    let y : held.Instance = record { kind = x.kind; state = x.state; bytes = with_items x.bytes c.refill.new.bytes } in
    let items : (with_items x.bytes c.refill.new.bytes).items ≡ c.refill.new.bytes = with_items_is x.bytes c.refill.new.bytes (c.refill.auto.bytes ∙ c.as_mut_slice.ensures.len) in
    let made : bytes_view (with_items x.bytes c.refill.new.bytes).items ≡ refilled (bytes_at (map instance_view xs) i) c.args.at.offset (contents_view c.args.contents.now) =
    ap bytes_view items
    ∙ c.refill.ensures
    ∙ ap (λ bs. refilled (bytes_view bs) c.args.at.offset (contents_view c.args.contents.now)) (c.as_mut_slice.ensures.value)
    ∙ ap (λ bs. refilled bs c.args.at.offset (contents_view c.args.contents.now)) (bytes_there xs i x there) in
    let now : Instances = record { model = c.self.inside.model; memory = map instance_view (set xs i y) } in
    subst (λ it. now ≡ remembering it (set_bytes it.memory i (refilled (bytes_at it.memory i) c.args.at.offset (contents_view c.args.contents.now)))) c.self.view_is
    (ap (λ m. record { model = c.self.inside.model; memory = m }) (changed xs i x y _ there refl refl made))

pub invariant_of-self : goal.invariant_of-self
invariant_of-self c =
    let xs = c.self.inside.instances.items in
    let x = c.index_mut-instance.result.now in
    let there : slice_get xs c.args.at.inst ≡ Some x = slice_get_read xs (length xs) c.args.at.inst x refl (omega arith) c.index_mut-instance.ensures.value in
    let y : held.Instance = record { kind = x.kind; state = x.state; bytes = with_items x.bytes c.refill.new.bytes } in
    let long : length c.refill.new.bytes ≡ x.bytes.len = c.refill.auto.bytes ∙ c.as_mut_slice.ensures.len in
    let items : (with_items x.bytes c.refill.new.bytes).items ≡ c.refill.new.bytes = with_items_is x.bytes c.refill.new.bytes long in
    c.self.invariant ∙ sym (total_written xs c.args.at.inst x y there (ap length items ∙ c.refill.auto.bytes ∙ ap length c.as_mut_slice.ensures.value))
