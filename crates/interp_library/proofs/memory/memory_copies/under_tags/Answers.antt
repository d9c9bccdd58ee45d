use Rattle.std.proofs.Common.{None, get_or, option_map, ap, ◌∙◌}
use Rattle.interp_memory.specs.ByteViews.{byte_view}
use Rattle.interp_memory.specs.declared.byte_forms.Content7.TheVariants.{Blank}
use Rattle.interp_memory.specs.declared.byte_forms.Byte7.{Byte7}
use Rattle.interp_library.specs.Memory.Regions.{tagged_over}
use Rattle.interp_library.proofs.memory.Copies.{over_more}
use Rattle.interp_library.proofs.memory.memory_copies.under_tags.Goals as goal

pub loop-k-preserved : goal.loop-k-preserved
loop-k-preserved c =
    let d : Byte7 = record { content = Blank; tag = None } in
    over_more c.args.tos.now c.args.froms.now c.loop-k.all.items c.push.new.self.items c.loop-k.k d c.under_tag.result
    c.loop-k-test.true
    c.in_ok-push.ensures.items
    (c.under_tag.ensures ∙ ap (λ o. tagged_over (byte_view (get_or c.args.tos.now c.loop-k.k d)) (option_map byte_view o)) c.byte_at.ensures)
    ∙ c.loop-k.invariant
