use Rattle.std.proofs.Common.{◌≡◌, ◌-◌, ◌<◌, length, None, sym, ap, ◌∙◌, arith, append-nil, refl}
use Rattle.json.specs.Json.{parse_map, after_end_array, items, value}
use Rattle.serde_json.specs.Data.{no_items, item}
use Rattle.serde_json.specs.Read.{of_items, converted}
use Rattle.serde_json.specs.View.{view}
use Rattle.sarif.proofs.Reading.{item_refused, items_over}
use Rattle.sarif.proofs.Streaming.{items_turn, results_turn, unchanged}
use Rattle.sarif.proofs.streamed_results.push_results.Goals as goal

pub results-init : goal.results-init
results-init c =
    let all = converted of_items (items (value c.args.depth) (length c.args.reader.now) c.args.reader.now) in
    (length c.args.reader.now, λ rest. rest, omega arith, unchanged all, λ rest. refl, omega arith)

pub returns-in_err-one-clause-shape : goal.returns-in_err-one-clause-shape
returns-in_err-one-clause-shape c refused =
    let p = value c.args.depth in
    let l = c.results in
    let n = l.invariant.0 in
    let f = l.invariant.1 in
    let going : (after_end_array l.reader ≡ None) × (c.take_end_array.new.self ≡ l.reader) = grind arith in
    l.invariant.3 ∙ ap (parse_map f) (item_refused p n l.reader going.0 (rw (← going.1) (c.read_value.ensures.shape (grind arith))))

pub results-preserved : goal.results-preserved
results-preserved c =
    let p = value c.args.depth in
    let l = c.results in
    let n = l.invariant.0 in
    let f = l.invariant.1 in
    let going : (after_end_array l.reader ≡ None) × (c.take_end_array.new.self ≡ l.reader) = grind arith in
    let done = c.in_ok-one.ensures in
    let d = view c.in_ok-one.one in
    let r = c.read_value.new.reader in
    let less : length r < length l.reader = rw (← going.1) done.shorter in (
      n - 1,
      λ rest. f (item d rest),
      omega (arith, l.invariant.2),
      items_turn p n f d l.reader r _ (omega (arith, l.invariant.2)) going.0 (rw (← going.1) done.ok) l.invariant.3,
      results_turn f d c.args.known.now.items l.known.items c.push_known.new.known.items l.invariant.4 c.in_ok-push_known.ensures,
      omega (arith, l.invariant.5),
    )

pub results-preserved-in_ok-push_known : goal.results-preserved-in_ok-push_known
results-preserved-in_ok-push_known c =
    let p = value c.args.depth in
    let l = c.results in
    let n = l.invariant.0 in
    let f = l.invariant.1 in
    let going : (after_end_array l.reader ≡ None) × (c.take_end_array.new.self ≡ l.reader) = grind arith in
    let done = c.in_ok-one.ensures in
    let d = view c.in_ok-one.one in
    let r = c.read_value.new.reader in
    let less : length r < length l.reader = rw (← going.1) done.shorter in (
      n - 1,
      λ rest. f (item d rest),
      omega (arith, l.invariant.2),
      items_turn p n f d l.reader r _ (omega (arith, l.invariant.2)) going.0 (rw (← going.1) done.ok) l.invariant.3,
      results_turn f d c.args.known.now.items l.known.items c.push_known.new.known.items l.invariant.4 c.in_ok-push_known.ensures,
      omega (arith, l.invariant.5),
    )

pub results-preserved-in_ok-push_known-2 : goal.results-preserved-in_ok-push_known-2
results-preserved-in_ok-push_known-2 c =
    let p = value c.args.depth in
    let l = c.results in
    let n = l.invariant.0 in
    let f = l.invariant.1 in
    let going : (after_end_array l.reader ≡ None) × (c.take_end_array.new.self ≡ l.reader) = grind arith in
    let done = c.in_ok-one.ensures in
    let d = view c.in_ok-one.one in
    let r = c.read_value.new.reader in
    let less : length r < length l.reader = rw (← going.1) done.shorter in (
      n - 1,
      λ rest. f (item d rest),
      omega (arith, l.invariant.2),
      items_turn p n f d l.reader r _ (omega (arith, l.invariant.2)) going.0 (rw (← going.1) done.ok) l.invariant.3,
      results_turn f d c.args.known.now.items l.known.items c.push_known.new.known.items l.invariant.4 c.in_ok-push_known.ensures,
      omega (arith, l.invariant.5),
    )

pub results-preserved-in_ok-push_known-3 : goal.results-preserved-in_ok-push_known-3
results-preserved-in_ok-push_known-3 c =
    let p = value c.args.depth in
    let l = c.results in
    let n = l.invariant.0 in
    let f = l.invariant.1 in
    let going : (after_end_array l.reader ≡ None) × (c.take_end_array.new.self ≡ l.reader) = grind arith in
    let done = c.in_ok-one.ensures in
    let d = view c.in_ok-one.one in
    let r = c.read_value.new.reader in
    let less : length r < length l.reader = rw (← going.1) done.shorter in (
      n - 1,
      λ rest. f (item d rest),
      omega (arith, l.invariant.2),
      items_turn p n f d l.reader r _ (omega (arith, l.invariant.2)) going.0 (rw (← going.1) done.ok) l.invariant.3,
      results_turn f d c.args.known.now.items l.known.items c.push_known.new.known.items l.invariant.4 c.in_ok-push_known.ensures,
      omega (arith, l.invariant.5),
    )

pub returns-clause-ok : goal.returns-clause-ok
returns-clause-ok c =
    let p = value c.args.depth in
    let l = c.results in
    let n = l.invariant.0 in
    let f = l.invariant.1 in
    let r = c.take_end_array.new.self in (
      f no_items,
      l.invariant.3 ∙ ap (parse_map f) (items_over p n l.reader r l.invariant.2 (grind arith)),
      sym (l.invariant.4 no_items ∙ append-nil l.known.items),
    )
