use Rattle.std.proofs.Common.{◌≡◌, length, map, set, slice_get, Some, refl, sym, ap, subst, ◌∙◌, arith}
use Rattle.std.proofs.lemmas.List.{with_items_is}
use Rattle.std.proofs.lemmas.Option.{slice_get_read}
use Rattle.std.specs.Vec.{with_items}
use Rattle.memory_model.specs.Memory.Instances.{bytes_at}
use Rattle.memory_model.specs.Effects.Touches.{set_bytes}
use Rattle.memory_model.specs.Effects.ObjectEffects.{all_of}
use Rattle.interp_memory.specs.ByteViews.{content_view, bytes_view}
use Rattle.interp_memory.specs.InstanceViews.{Instances, remembering, instance_view}
use Rattle.interp_memory.specs.declared.instances.Instance as held
use Rattle.interp_memory.proofs.InstanceSteps.{bytes_there, changed}
use Rattle.interp_memory.proofs.Totals.{total_written}
use Rattle.interp_memory.proofs.instance_memory.Memory7.fill.Goals as goal

pub returns-then-inst-len : goal.returns-then-inst-len
returns-then-inst-len c =
    let xs = c.self.inside.instances.items in
    let i = c.args.inst in
    let x = c.index_mut-instance.result.now in
    let there : slice_get xs i ≡ Some x = slice_get_read xs (length xs) i x refl (omega arith) c.index_mut-instance.ensures.value in
    let y : held.Instance = record { kind = x.kind; state = x.state; bytes = with_items x.bytes c.fill_all.new.bytes } in
    let items : (with_items x.bytes c.fill_all.new.bytes).items ≡ c.fill_all.new.bytes = with_items_is x.bytes c.fill_all.new.bytes (c.fill_all.auto.bytes ∙ c.as_mut_slice.ensures.len) in
    let made : bytes_view (with_items x.bytes c.fill_all.new.bytes).items ≡ all_of (content_view c.args.content) (bytes_at (map instance_view xs) i) =
    ap bytes_view items
    ∙ c.fill_all.ensures
    ∙ ap (λ bs. all_of (content_view c.args.content) (bytes_view bs)) (c.as_mut_slice.ensures.value)
    ∙ ap (λ bs. all_of (content_view c.args.content) bs) (bytes_there xs i x there) in
    let now : Instances = record { model = c.self.inside.model; memory = map instance_view (set xs i y) } in
    subst (λ it. now ≡ remembering it (set_bytes it.memory i (all_of (content_view c.args.content) (bytes_at it.memory i)))) c.self.view_is
    (ap (λ m. record { model = c.self.inside.model; memory = m }) (changed xs i x y _ there refl refl made))

pub invariant_of-self : goal.invariant_of-self
invariant_of-self c =
    let xs = c.self.inside.instances.items in
    let x = c.index_mut-instance.result.now in
    let there : slice_get xs c.args.inst ≡ Some x = slice_get_read xs (length xs) c.args.inst x refl (omega arith) c.index_mut-instance.ensures.value in
    let y : held.Instance = record { kind = x.kind; state = x.state; bytes = with_items x.bytes c.fill_all.new.bytes } in
    let long : length c.fill_all.new.bytes ≡ x.bytes.len = c.fill_all.auto.bytes ∙ c.as_mut_slice.ensures.len in
    let items : (with_items x.bytes c.fill_all.new.bytes).items ≡ c.fill_all.new.bytes = with_items_is x.bytes c.fill_all.new.bytes long in
    c.self.invariant ∙ sym (total_written xs c.args.inst x y there (ap length items ∙ c.fill_all.auto.bytes ∙ ap length c.as_mut_slice.ensures.value))
