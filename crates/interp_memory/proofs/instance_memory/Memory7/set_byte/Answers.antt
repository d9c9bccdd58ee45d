use Rattle.std.proofs.Common.{◌≡◌, ◌<◌, length, map, set, slice_get, Some, refl, sym, ap, subst, ◌∙◌}
use Rattle.std.proofs.lemmas.List.{with_items_is}
use Rattle.std.proofs.lemmas.Option.{slice_get_read}
use Rattle.std.specs.Vec.{with_items}
use Rattle.memory_model.specs.Memory.Instances.{bytes_at}
use Rattle.memory_model.specs.Effects.Touches.{is_allocated, storage_at, set_bytes}
use Rattle.interp_memory.specs.ByteViews.{byte_view, bytes_view}
use Rattle.interp_memory.specs.InstanceViews.{Instances, remembering, instance_view, with_byte}
use Rattle.interp_memory.specs.declared.instances.Instance as held
use Rattle.interp_memory.proofs.InstanceSteps.{storage_there, bytes_there, changed, there_by}
use Rattle.interp_memory.proofs.Totals.{total_written}
use Rattle.interp_memory.proofs.instance_memory.Memory7.set_byte.Goals as goal

pub returns : goal.returns
returns c =
    let xs = c.self.inside.instances.items in
    let i = c.args.inst in
    let x = c.index_mut-instance.result.now in
    let b = byte_view c.args.byte in
    let at = c.args.at in
    let asked : at < length (bytes_at (map instance_view xs) i) = subst (λ it. at < length (bytes_at it.memory i)) (sym c.self.view_is) c.requires in
    let within : i < length xs = there_by xs i at asked in
    let there : slice_get xs i ≡ Some x = slice_get_read xs (length xs) i x refl within c.index_mut-instance.ensures.value in
    let y : held.Instance = record { kind = x.kind; state = x.state; bytes = with_items x.bytes c.put_byte.new.bytes } in
    let items : (with_items x.bytes c.put_byte.new.bytes).items ≡ c.put_byte.new.bytes = with_items_is x.bytes c.put_byte.new.bytes (c.put_byte.auto.bytes ∙ c.as_mut_slice.ensures.len) in
    let made : bytes_view (with_items x.bytes c.put_byte.new.bytes).items ≡ with_byte (is_allocated (storage_at (map instance_view xs) i)) b (bytes_at (map instance_view xs) i) at =
    ap bytes_view items
    ∙ c.put_byte.ensures
    ∙ ap (λ bs. with_byte c.is_heap-takes_tag.result b (bytes_view bs) at) c.as_mut_slice.ensures.value
    ∙ ap (λ t. with_byte t b (bytes_view x.bytes.items) at) (c.is_heap-takes_tag.ensures ∙ ap is_allocated (storage_there xs i x there))
    ∙ ap (λ bs. with_byte (is_allocated (storage_at (map instance_view xs) i)) b bs at) (bytes_there xs i x there) in
    let now : Instances = record { model = c.self.inside.model; memory = map instance_view (set xs i y) } in
    subst (λ it. now ≡ remembering it (set_bytes it.memory i (with_byte (is_allocated (storage_at it.memory i)) b (bytes_at it.memory i) at))) c.self.view_is
    (ap (λ m. record { model = c.self.inside.model; memory = m }) (changed xs i x y _ there refl refl made))

pub invariant_of-self : goal.invariant_of-self
invariant_of-self c =
    let xs = c.self.inside.instances.items in
    let x = c.index_mut-instance.result.now in
    let asked : c.args.at < length (bytes_at (map instance_view xs) c.args.inst) = subst (λ it. c.args.at < length (bytes_at it.memory c.args.inst)) (sym c.self.view_is) c.requires in
    let there : slice_get xs c.args.inst ≡ Some x = slice_get_read xs (length xs) c.args.inst x refl (there_by xs c.args.inst c.args.at asked) c.index_mut-instance.ensures.value in
    let y : held.Instance = record { kind = x.kind; state = x.state; bytes = with_items x.bytes c.put_byte.new.bytes } in
    let long : length c.put_byte.new.bytes ≡ x.bytes.len = c.put_byte.auto.bytes ∙ c.as_mut_slice.ensures.len in
    let items : (with_items x.bytes c.put_byte.new.bytes).items ≡ c.put_byte.new.bytes = with_items_is x.bytes c.put_byte.new.bytes long in
    c.self.invariant ∙ sym (total_written xs c.args.inst x y there (ap length items ∙ c.put_byte.auto.bytes ∙ ap length c.as_mut_slice.ensures.value))
