use Rattle.std.proofs.Common.{◌<◌, ◌^◌, ◌*◌, pos, cond, length, sym, ap, ◌∙◌, subst, rules, SFits}
use Rattle.std.specs.Int.{w128}
use Rattle.std.proofs.lemmas.Int.{to_z-of_z}
use Rattle.std.proofs.lemmas.List.{length-map}
use Rattle.memory_model.specs.Memory.Numbers.{signed_of}
use Rattle.memory_model.specs.Effects.ScalarBytes.{contents}
use Rattle.interp_memory.specs.ByteViews.{labels_view, byte_view, bytes_view}
use Rattle.interp_memory.proofs.NumberSteps.{bytes_bits, integer_found}
use Rattle.interp_memory.proofs.byte_reading.integer_from.Goals as goal

pub number_value-number-requires-clause-small : goal.number_value-number-requires-clause-small
number_value-number-requires-clause-small c =
    subst (λ m. m < 2 ^ (8 * length c.args.bytes.now)) (sym c.from.ensures)
    (subst (λ n. c.in_ok-found.found.number < n) (bytes_bits (length c.args.bytes.now)) c.in_ok-found.ensures.small)

pub returns : goal.returns
returns c = λ size rank.
    let fits : SFits w128 c.number_value-number.result = search rules in
    integer_found size rank c.args.signed (contents (bytes_view c.args.bytes.now)) (length c.args.bytes.now) c.in_ok-found.found.number (labels_view c.in_ok-found.found.labels) _
    (sym (length-map (bytes_view c.args.bytes.now) (λ b. b.content) ∙ length-map c.args.bytes.now byte_view))
    c.in_ok-found.ensures.value
    (to_z-of_z w128 c.number_value-number.result fits
    ∙ c.number_value-number.ensures
    ∙ ap (λ m. cond c.args.signed (signed_of (8 * length c.args.bytes.now) m) (pos m)) c.from.ensures)
