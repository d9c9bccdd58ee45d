use Rattle.std.proofs.Common.{◌≡◌, sym, ap, subst, ◌∙◌}
use Rattle.memory_model.specs.Effects.Accesses as machine
use Rattle.interp_memory.specs.ByteViews.{pointer_view, scalar_view}
use Rattle.interp_memory.specs.AccessOutcomes.{scalar_kind, loaded_reply}
use Rattle.interp_accesses.specs.WorldViews.{world_view, ComesTo}
use Rattle.interp_accesses.specs.ScalarKinds.{sign_of}
use Rattle.interp_accesses.proofs.ScalarTypes.{of_model}
use Rattle.interp_accesses.proofs.access_steps.load_through.Goals as goal

pub returns : goal.returns
returns c =
    let w = world_view c.args.w.now in
    let p = pointer_view c.args.p in
    let m = c.args.model.now in
    let own = c.args.w.now.memory.model in
    let kind = c.args.kind in
    let same : machine.load_through m kind p w ≡ loaded_reply c.load-loaded.result w =
    sym (ap (λ k. machine.load_through m k p w) (of_model m kind c.requires.of_model))
    ∙ sym (ap (λ o. machine.load_through o (scalar_kind o (machine.class_in kind) (sign_of kind)) p w) c.requires.model)
    ∙ sym (ap (λ d. machine.load_through own (scalar_kind own d (sign_of kind)) p w) c.class_in.ensures)
    ∙ sym (ap (λ s. machine.load_through own (scalar_kind own c.class_in.result s) p w) c.is_signed.ensures)
    ∙ c.load-loaded.ensures w in
    subst (λ reply. ComesTo scalar_view reply c.loaded_in.result (world_view c.loaded_in.new.w)) (sym same) c.loaded_in.ensures
