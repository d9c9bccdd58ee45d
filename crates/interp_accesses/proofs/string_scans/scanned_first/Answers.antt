use Rattle.std.proofs.Common.{ℕ, ◌<◌, add-zero, sym, ap, ◌∙◌, ◌-◌, ◌+◌, drop, arith}
use Rattle.memory_model.specs.Memory.Bytes.{number}
use Rattle.memory_model.specs.Effects.LibraryChecks.{ends, scanned_first}
use Rattle.memory_model.specs.Effects.ScalarBytes.{contents}
use Rattle.interp_memory.specs.ByteViews.{labels_view, bytes_view, content_view}
use Rattle.interp_accesses.specs.Scans.{behind_characters, scan_step}
use Rattle.interp_accesses.proofs.FirstScans.{first_at, character_more}
use Rattle.interp_accesses.proofs.string_scans.scanned_first.Goals as goal

pub returns-in-Blank : goal.returns-in-Blank
returns-in-Blank c =
    let k = c.loop-k.k in
    let later = scanned_first (c.args.size - (k + 1)) (contents (bytes_view (drop (k + 1) c.args.bytes.now))) in
    let i : k < c.args.size = (let a = c.if-size-from.false in let b = c.from.ensures in omega arith) in
    sym (first_at c.args.bytes.now c.args.size k _ c.loop-k-test.true i ∙ ap (λ x. behind_characters k (scan_step (content_view x) later)) c.in-Blank.is) ∙ c.loop-k.invariant

pub returns-in-Part : goal.returns-in-Part
returns-in-Part c =
    let k = c.loop-k.k in
    let later = scanned_first (c.args.size - (k + 1)) (contents (bytes_view (drop (k + 1) c.args.bytes.now))) in
    let i : k < c.args.size = (let a = c.if-size-from.false in let b = c.from.ensures in omega arith) in
    sym (first_at c.args.bytes.now c.args.size k _ c.loop-k-test.true i ∙ ap (λ x. behind_characters k (scan_step (content_view x) later)) c.in-Part.is) ∙ c.loop-k.invariant

pub returns-then-n-eq0 : goal.returns-then-n-eq0
returns-then-n-eq0 c =
    let k = c.loop-k.k in
    let later = scanned_first (c.args.size - (k + 1)) (contents (bytes_view (drop (k + 1) c.args.bytes.now))) in
    let i : k < c.args.size = (let a = c.if-size-from.false in let b = c.from.ensures in omega arith) in
    sym
    (first_at c.args.bytes.now c.args.size k _ c.loop-k-test.true i
    ∙ ap (λ x. behind_characters k (scan_step (content_view x) later)) c.in-Number.is
    ∙ ap (λ (n : ℕ). behind_characters k (scan_step (number n (labels_view c.in-Number.field-1)) later)) c.if-n-eq0.true
    ∙ ap ends (add-zero k))
    ∙ c.loop-k.invariant

pub loop-k-preserved : goal.loop-k-preserved
loop-k-preserved c =
    let k = c.loop-k.k in
    let later = scanned_first (c.args.size - (k + 1)) (contents (bytes_view (drop (k + 1) c.args.bytes.now))) in
    let i : k < c.args.size = (let a = c.if-size-from.false in let b = c.from.ensures in omega arith) in
    sym
    (first_at c.args.bytes.now c.args.size k _ c.loop-k-test.true i
    ∙ ap (λ x. behind_characters k (scan_step (content_view x) later)) c.in-Number.is
    ∙ character_more k c.in-Number.n (labels_view c.in-Number.field-1) later c.if-n-eq0.false)
    ∙ c.loop-k.invariant
