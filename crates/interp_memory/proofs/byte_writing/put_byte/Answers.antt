use Rattle.std.proofs.Common.{◌<◌, length, get_or, set, None, ap, ◌∙◌, arith}
use Rattle.std.proofs.lemmas.List.{length-map, map-set, get_or-map}
use Rattle.interp_memory.specs.ByteViews.{byte_view, bytes_view}
use Rattle.interp_memory.specs.declared.byte_forms.Byte7.{Byte7}
use Rattle.interp_memory.specs.declared.byte_forms.Content7.TheVariants.{Blank}
use Rattle.interp_memory.proofs.InstanceSteps.{byte_set}
use Rattle.interp_memory.proofs.byte_writing.put_byte.Goals as goal

pub returns : goal.returns
returns c =
    let bs = c.args.bytes.now in
    let none : Byte7 = record { content = Blank; tag = None } in
    let old : Byte7 = get_or bs c.args.at none in
    let within : c.args.at < length bs = c.requires in
    map-set byte_view bs c.args.at c.put_over.result
    ∙ ap (set (bytes_view bs) c.args.at) c.put_over.ensures
    ∙ byte_set (bytes_view bs) c.args.at c.args.takes_tag (byte_view c.args.byte) (byte_view old) (let l = length-map bs byte_view in omega arith) (get_or-map byte_view bs c.args.at none (byte_view old) within)
