use Rattle.std.proofs.Common.{◌≡◌, length, map, set, slice_get, Some, refl, sym, ap, ◌∙◌, subst, arith}
use Rattle.std.proofs.lemmas.Option.{slice_get_read}
use Rattle.memory_model.specs.Effects.ObjectEffects.{set_life}
use Rattle.interp_memory.specs.InstanceViews.{Instances, remembering, life_view, instance_view}
use Rattle.interp_memory.proofs.InstanceSteps.{life_set}
use Rattle.interp_memory.proofs.Totals.{total_written}
use Rattle.interp_memory.proofs.instance_memory.Memory7.set_state.Goals as goal

pub returns-then-inst-len : goal.returns-then-inst-len
returns-then-inst-len c =
    let xs = c.self.inside.instances.items in
    let x = c.index_mut-instance.result.now in
    let there : slice_get xs c.args.inst ≡ Some x = slice_get_read xs (length xs) c.args.inst x refl (omega arith) c.index_mut-instance.ensures.value in
    let now : Instances = record { model = c.self.inside.model; memory = map instance_view (set xs c.args.inst (record x { state = c.args.state })) } in
    subst (λ it. now ≡ remembering it (set_life it.memory c.args.inst (life_view c.args.state))) c.self.view_is
    (ap (λ m. record { model = c.self.inside.model; memory = m }) (life_set xs c.args.inst x c.args.state there))

pub invariant_of-self : goal.invariant_of-self
invariant_of-self c =
    let xs = c.self.inside.instances.items in
    let x = c.index_mut-instance.result.now in
    let there : slice_get xs c.args.inst ≡ Some x = slice_get_read xs (length xs) c.args.inst x refl (omega arith) c.index_mut-instance.ensures.value in
    c.self.invariant ∙ sym (total_written xs c.args.inst x (record x { state = c.args.state }) there refl)
