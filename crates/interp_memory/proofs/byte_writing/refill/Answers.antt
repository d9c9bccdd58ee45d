use Rattle.std.proofs.Common.{◌≡◌, ◌+◌, ◌-◌, ◌<◌, ◌≤◌, min, length, inl, inr, ⊎_elim, sym, ◌∙◌, None, arith}
use Rattle.std.proofs.lemmas.Bool.{cases_lt}
use Rattle.std.proofs.lemmas.List.{length-map}
use Rattle.std.proofs.lemmas.Int.{clamps}
use Rattle.interp_memory.specs.ByteViews.{content_view, byte_view, bytes_view, contents_view}
use Rattle.interp_memory.specs.declared.byte_forms.Content7.TheVariants.{Blank}
use Rattle.interp_memory.proofs.ByteSteps.{fill_end, refill_more}
use Rattle.interp_memory.proofs.byte_writing.refill.Goals as goal

pub loop-k-preserved : goal.loop-k-preserved
loop-k-preserved c =
    let room : c.saturating_sub-room.result ≡ length c.args.bytes.now - c.args.offset = c.saturating_sub-room.ensures in
    let least : c.min-count.result ≡ min c.saturating_sub-room.result (length c.args.contents.now) = c.min-count.ensures in
    refill_more c.loop-k.bytes c.args.contents.now c.args.offset c.loop-k.k (record { content = Blank; tag = None }) Blank
    (omega (arith, clamps))
    (omega (arith, clamps))
    ∙ c.loop-k.invariant

pub returns : goal.returns
returns c =
    let room : c.saturating_sub-room.result ≡ length c.args.bytes.now - c.args.offset = c.saturating_sub-room.ensures in
    let least : c.min-count.result ≡ min c.saturating_sub-room.result (length c.args.contents.now) = c.min-count.ensures in
    let l = length-map c.loop-k.bytes byte_view in
    let m = length-map c.args.contents.now content_view in
    sym (fill_end (bytes_view c.loop-k.bytes) (contents_view c.args.contents.now) (c.args.offset + c.loop-k.k) c.loop-k.k
    (⊎_elim
    (λ (short : c.loop-k.k < length c.args.contents.now). inl (omega (arith, clamps)))
    (λ (all : length c.args.contents.now ≤ c.loop-k.k). inr (omega arith))
    (cases_lt c.loop-k.k (length c.args.contents.now))))
    ∙ c.loop-k.invariant
