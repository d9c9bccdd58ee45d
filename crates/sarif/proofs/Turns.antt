-- What a member that is read makes of what was kept.
use Rattle.std.proofs.Common.{◌≡◌, ℕ, List, ◌++◌, length, take, Bool, true, false, Option, Some, None, option_map, option_and_then, unwrap_or, bytes_eq, codes, refl, sym, ap, ◌∙◌, arith, true≢false, take_all}
use Rattle.std.proofs.lemmas.List.{take-append-le}
use Rattle.std.specs.Prelude.{if◌then◌else◌}
use Rattle.std.proofs.lemmas.Slice.Eq.{bytes_eq-Decides}
use Rattle.serde_json.specs.Data.{Data, object, no_items, Members, no_members, put}
use Rattle.serde_json.specs.Find.{as_str, as_array, get_member}
use Rattle.serde_json.proofs.Views.{get_member-put, get_member-put_other}
use Rattle.sarif.specs.declared.known_results.Known.{Known}
use Rattle.sarif.specs.declared.baseline.Report.{Report}
use Rattle.sarif.specs.Baselines.{results_known, run_results, runs_known, baseline_of, has_version}
use Rattle.sarif.specs.Streams.{is_version, list_known, Holds, known_in}

-- the member of a name, once another one was put
pub kept : (name key : List ℕ) (d : Data) (ms : Members) → bytes_eq key name ≡ false → get_member name (put key d ms) ≡ get_member name ms
kept name key d ms e = get_member-put_other name key d ms (λ same. true≢false (sym ((bytes_eq-Decides key name).1 (sym same)) ∙ e))

-- the member of a name, once it was put
pub replaced : (name key : List ℕ) (d : Data) (ms : Members) → bytes_eq key name ≡ true → get_member name (put key d ms) ≡ Some d
replaced name key d ms e = ap (λ k. get_member name (put k d ms)) ((bytes_eq-Decides key name).0 e) ∙ get_member-put name d ms

front : (old more : List Known) → take (length old) (old ++ more) ≡ old
front old more = take-append-le (length old) old more (omega arith) ∙ take_all (length old) old (omega arith)

abbrev listed : Option Data → List Known
listed o = results_known (unwrap_or (option_and_then as_array o) no_items)

run_turn_at : (b : Bool) (key : List ℕ) (d : Data) (ms : Members) (old known : List Known) → bytes_eq key (codes "results") ≡ b → known ≡ old ++ listed (get_member (codes "results") ms)
    → (if b then take (length old) known ++ results_known (unwrap_or (as_array d) no_items) else known) ≡ old ++ listed (get_member (codes "results") (put key d ms))
run_turn_at true key d ms old known is held =
    ap (λ l. l ++ results_known (unwrap_or (as_array d) no_items)) (ap (take (length old)) held ∙ front old _) ∙ ap (λ o. old ++ listed o) (sym (replaced (codes "results") key d ms is))
run_turn_at false key d ms old known is held = held ∙ ap (λ o. old ++ listed o) (sym (kept (codes "results") key d ms is))

-- what is known of a run, once a member was read
pub run_turn : (key : List ℕ) (d : Data) (ms : Members) (old known new : List Known) (start : ℕ) → start ≡ length old
    → new ≡ (if bytes_eq key (codes "results") then take start known ++ results_known (unwrap_or (as_array d) no_items) else known)
    → known ≡ old ++ results_known (run_results (object ms)) → new ≡ old ++ results_known (run_results (object (put key d ms)))
run_turn key d ms old known new start first turned held =
    turned ∙ ap (λ n. if bytes_eq key (codes "results") then take n known ++ results_known (unwrap_or (as_array d) no_items) else known) first ∙ run_turn_at _ key d ms old known refl held

-- ---- the members of a report

version_of : (o : Option Data) → unwrap_or (option_map (bytes_eq (codes "2.1.0")) (option_and_then as_str o)) false ≡ unwrap_or (option_map is_version o) false
version_of None = refl
version_of (Some d) = refl

version_in : (ms : Members) → has_version (object ms) ≡ unwrap_or (option_map is_version (get_member (codes "version") ms)) false
version_in ms = version_of (get_member (codes "version") ms)

other_name : (key one other : List ℕ) → bytes_eq key one ≡ true → bytes_eq one other ≡ false → bytes_eq key other ≡ false
other_name key one other e apart = ap (λ k. bytes_eq k other) ((bytes_eq-Decides key one).0 e) ∙ apart

version_kept : (key : List ℕ) (d : Data) (ms : Members) → bytes_eq key (codes "version") ≡ false → has_version (object ms) ≡ has_version (object (put key d ms))
version_kept key d ms e = version_in ms ∙ ap (λ o. unwrap_or (option_map is_version o) false) (sym (kept (codes "version") key d ms e)) ∙ sym (version_in (put key d ms))

runs_kept : (key : List ℕ) (d : Data) (ms : Members) → bytes_eq key (codes "runs") ≡ false → option_and_then list_known (get_member (codes "runs") ms) ≡ option_and_then list_known (get_member (codes "runs") (put key d ms))
runs_kept key d ms e = ap (option_and_then list_known) (sym (kept (codes "runs") key d ms e))

pub version_turn : (key : List ℕ) (d : Data) (ms : Members) (old new : Report) → bytes_eq key (codes "version") ≡ true → new.is_of_version ≡ is_version d → new.known ≡ old.known → Holds old ms → Holds new (put key d ms)
version_turn key d ms old new e read same held = (
  read ∙ sym (version_in (put key d ms) ∙ ap (λ o. unwrap_or (option_map is_version o) false) (replaced (codes "version") key d ms e)),
  ap (option_map (λ v. v.items)) same ∙ held.1 ∙ runs_kept key d ms (other_name key (codes "version") (codes "runs") e refl),
)

pub runs_turn : (key : List ℕ) (d : Data) (ms : Members) (old new : Report) → bytes_eq key (codes "runs") ≡ true → new.is_of_version ≡ old.is_of_version → option_map (λ v. v.items) new.known ≡ list_known d → Holds old ms
    → Holds new (put key d ms)
runs_turn key d ms old new e same read held = (
  same ∙ held.0 ∙ version_kept key d ms (other_name key (codes "runs") (codes "version") e refl),
  read ∙ sym (ap (option_and_then list_known) (replaced (codes "runs") key d ms e)),
)

pub other_turn : (key : List ℕ) (d : Data) (ms : Members) (old : Report) → bytes_eq key (codes "version") ≡ false → bytes_eq key (codes "runs") ≡ false → Holds old ms → Holds old (put key d ms)
other_turn key d ms old e f held = (held.0 ∙ version_kept key d ms e, held.1 ∙ runs_kept key d ms f)

pub none_yet : (report : Report) → report.is_of_version ≡ false → report.known ≡ None → Holds report no_members
none_yet report e f = (e, ap (option_map (λ v. v.items)) f)

known_by : (b : Bool) (o : Option Data) → (if b then option_and_then list_known o else None) ≡ option_map runs_known (if b then option_and_then as_array o else None)
known_by true None = refl
known_by true (Some d) = refl
known_by false o = refl

-- what is known, once all members were read
pub all_known : (report : Report) (ms : Members) → Holds report ms → known_in report ≡ baseline_of (object ms)
all_known report ms held = rw (held.0, held.1) (known_by (has_version (object ms)) (get_member (codes "runs") ms))
