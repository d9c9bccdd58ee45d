use Rattle.std.proofs.Common.{◌≡◌, drop, sym, ap, subst, ◌∙◌}
use Rattle.memory_model.specs.Effects.Accesses as machine
use Rattle.interp_memory.specs.ByteViews.{pointer_view, scalar_view}
use Rattle.interp_memory.specs.AccessOutcomes.{scalar_kind, stored_reply}
use Rattle.interp_accesses.specs.WorldViews.{world_view, ComesTo}
use Rattle.interp_accesses.specs.ScalarKinds.{sign_of}
use Rattle.interp_accesses.proofs.ScalarTypes.{of_model, stored_behind}
use Rattle.interp_accesses.proofs.access_steps.store_through.Goals as goal

pub returns : goal.returns
returns c =
    let before = c.args.w.now in
    let after = c.store-stored.new.self in
    let w = world_view before in
    let v = scalar_view c.args.value in
    let p = pointer_view c.args.p in
    let m = c.args.model.now in
    let own = before.memory.model in
    let kind = c.args.kind in
    let same : machine.store_through m kind v p w ≡ stored_reply c.store-stored.result v after.memory (record { memory = after.memory; draws = drop before.taken before.draws.items; violated = before.violated.items }) =
    sym (ap (λ k. machine.store_through m k v p w) (of_model m kind c.requires.of_model))
    ∙ sym (ap (λ o. machine.store_through o (scalar_kind o (machine.class_in kind) (sign_of kind)) v p w) c.requires.model)
    ∙ sym (ap (λ d. machine.store_through own (scalar_kind own d (sign_of kind)) v p w) c.class_in.ensures)
    ∙ c.store-stored.ensures.outcome (sign_of kind) w
    ∙ stored_behind c.store-stored.result v before.memory after (drop before.taken before.draws.items) before.violated.items c.store-stored.ensures.halted in
    subst (λ reply. ComesTo scalar_view reply c.stored_in.result (world_view c.stored_in.new.w)) (sym same) c.stored_in.ensures
