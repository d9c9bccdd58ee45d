use Rattle.std.proofs.Common.{None, get_or, slice_get, option_map, ap, ◌∙◌}
use Rattle.interp_memory.specs.ByteViews.{byte_view, tag_view}
use Rattle.interp_memory.specs.declared.byte_forms.Content7.TheVariants.{Blank}
use Rattle.interp_memory.specs.declared.byte_forms.Byte7.{Byte7}
use Rattle.interp_library.specs.Memory.Regions.{copied_byte}
use Rattle.interp_library.proofs.memory.Copies.{copied_more}
use Rattle.interp_library.proofs.memory.struct_copies.copied_over.Goals as goal

pub loop-k-preserved : goal.loop-k-preserved
loop-k-preserved c =
    let d : Byte7 = record { content = Blank; tag = None } in
    let t = byte_view (get_or c.args.tos.now c.loop-k.k d) in
    copied_more c.args.model.now c.args.leaves.now c.args.allocated c.args.tos.now c.args.froms.now c.loop-k.all.items c.push.new.self.items c.loop-k.k d c.copied_byte.result
    c.loop-k-test.true
    c.in_ok-push.ensures.items
    (c.copied_byte.ensures
    ∙ ap (λ o. copied_byte c.args.allocated (tag_view c.tag_by_leaves-tag.result) t (option_map byte_view o)) c.byte_at.ensures
    ∙ ap (λ by. copied_byte c.args.allocated by t (option_map byte_view (slice_get c.args.froms.now c.loop-k.k))) c.tag_by_leaves-tag.ensures)
    ∙ c.loop-k.invariant
