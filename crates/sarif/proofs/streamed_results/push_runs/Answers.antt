use Rattle.std.proofs.Common.{◌≡◌, ◌-◌, ◌<◌, ◌++◌, length, None, sym, ap, ◌∙◌, arith, append_assoc, append-nil, refl}
use Rattle.json.specs.Json.{parse_map, after_end_array, items, value}
use Rattle.serde_json.specs.Data.{no_items, item}
use Rattle.serde_json.specs.Read.{of_items, converted}
use Rattle.sarif.specs.Baselines.{results_known, run_results, runs_known}
use Rattle.sarif.proofs.Reading.{item_read, item_refused, items_over}
use Rattle.sarif.proofs.Streaming.{after_both, unchanged}
use Rattle.sarif.proofs.streamed_results.push_runs.Goals as goal

pub runs-init : goal.runs-init
runs-init c =
    let all = converted of_items (items (value c.args.depth) (length c.args.reader.now) c.args.reader.now) in
    (length c.args.reader.now, λ rest. rest, omega arith, unchanged all, λ rest. refl, omega arith)

pub returns-in_err-push_run-clause-shape : goal.returns-in_err-push_run-clause-shape
returns-in_err-push_run-clause-shape c refused =
    let p = value c.args.depth in
    let l = c.runs in
    let n = l.invariant.0 in
    let f = l.invariant.1 in
    let going : (after_end_array l.reader ≡ None) × (c.take_end_array.new.self ≡ l.reader) = grind arith in
    l.invariant.3 ∙ ap (parse_map f) (item_refused p n l.reader going.0 (rw (← going.1) (c.push_run.ensures.shape (grind arith))))

pub runs-preserved : goal.runs-preserved
runs-preserved c =
    let p = value c.args.depth in
    let l = c.runs in
    let n = l.invariant.0 in
    let f = l.invariant.1 in
    let going : (after_end_array l.reader ≡ None) × (c.take_end_array.new.self ≡ l.reader) = grind arith in
    let done = c.in_ok-push_run.ensures in
    let d = done.ok.0 in
    let r = c.push_run.new.reader in
    let less : length r < length l.reader = rw (← going.1) done.shorter in
    let turn = item_read p n l.reader r d (omega (arith, l.invariant.2)) going.0 (rw (← going.1) done.ok.1) in (
      n - 1,
      λ rest. f (item d rest),
      omega (arith, l.invariant.2),
      l.invariant.3 ∙ ap (parse_map f) turn ∙ after_both f (item d) (converted of_items (items p (n - 1) r)),
      λ rest. l.invariant.4 (item d rest) ∙ sym (append_assoc l.known.items (results_known (run_results d)) (runs_known rest)) ∙ ap (λ k. k ++ runs_known rest) (sym done.ok.2),
      omega (arith, l.invariant.5),
    )

pub returns-clause-ok : goal.returns-clause-ok
returns-clause-ok c =
    let p = value c.args.depth in
    let l = c.runs in
    let n = l.invariant.0 in
    let f = l.invariant.1 in
    let r = c.take_end_array.new.self in (
      f no_items,
      l.invariant.3 ∙ ap (parse_map f) (items_over p n l.reader r l.invariant.2 (grind arith)),
      sym (l.invariant.4 no_items ∙ append-nil l.known.items),
    )
