use Rattle.std.proofs.Common.{◌≤◌, length, sym, ap, ◌∙◌, arith}
use Rattle.std.proofs.lemmas.List.{length-map}
use Rattle.memory_model.specs.Effects.Worlds.{goes}
use Rattle.interp_memory.specs.ByteViews.{byte_view, bytes_view, scalar_view}
use Rattle.interp_accesses.specs.WorldViews.{world_view}
use Rattle.interp_library.proofs.memory.Resized.{resized_made}
use Rattle.interp_library.proofs.memory.reallocations.make_with.Goals as goal

pub returns-in_ok-fill_start-in-Some : goal.returns-in_ok-fill_start-in-Some
returns-in_ok-fill_start-in-Some c =
    let few : length (bytes_view c.args.bytes.now) ≤ c.args.size = (let l = length-map c.args.bytes.now byte_view in let h = c.if-bytes-size.false in omega arith) in
    resized_made (world_view c.args.w.now) (world_view c.make.new.w) c.args.size c.in-Some.inst (bytes_view c.args.bytes.now) (scalar_view c.in_ok-made.made)
    (sym c.pointed.ensures ∙ c.in-Some.is)
    few
    c.in_ok-made.ensures
    ∙ ap (goes (scalar_view c.in_ok-made.made)) c.in_ok-fill_start-in-Some.ensures
