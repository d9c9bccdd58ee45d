-- A report is read as the diagnostics that it was written for.
use Rattle.std.proofs.Common.{◌≡◌, ◌<◌, ◌≤◌, ◌^◌, ℕ, zero, suc, true, List, [], ◌∷◌, ◌++◌, map, Option, Some, option_and_then, option_to_list, refl, sym, ap, ◌∙◌, arith, append-nil, All, IsUtf8, subst}
use Rattle.std.proofs.lemmas.Bool.{le-leb, lt-ltb}
use Rattle.std.proofs.lemmas.List.Elements.{All-head, All-tail, All-nil}
use Rattle.std.proofs.lemmas.Str.{IsUtf8-append, is_utf8-from_IsUtf8, IsUtf8-nil}
use Rattle.cc_base.specs.declared.diagnostics.Diag.{Diag}
use Rattle.cc_base.specs.declared.diagnostics.Rule.{Rule}
use Rattle.cc_base.proofs.RuleOrder.{passes, rule_read}
use Rattle.cc_base.specs.Rules.{tag_of, text_of, rule_tagged}
use Rattle.json.specs.Token.{Token}
use Rattle.json.specs.Lex.{tokens}
use Rattle.json.specs.Json as json
use Rattle.json.specs.Tree.{json_tokens}
use Rattle.json.specs.Tree as tree
use Rattle.json.proofs.Printed.Trees.{ArePrintable-json_tokens, value-json_tokens}
use Rattle.json.proofs.Printed.Utf8.{are_ascii, IsUtf8-are_ascii}
use Rattle.serde_json.specs.Data.{Data, depth, items_depth}
use Rattle.serde_json.specs.Read.{of_json, of_items, read, max_depth}
use Rattle.serde_json.specs.View.{items_of}
use Rattle.serde_json.specs.Written.{outline, items_outline, compact_text}
use Rattle.serde_json.proofs.Numbers.{number_of-decimal}
use Rattle.serde_json.proofs.Texts.{print-outline}
use Rattle.sarif.specs.Uris.{Bytes, uri_of, file_of_uri}
use Rattle.sarif.specs.Reports.{name_of, result_data, results_data, report_data, sarif_of}
use Rattle.sarif.specs.Baselines.{position, known_from, known_of, results_known, baseline_of, value_of, baseline_read}
use Rattle.sarif.specs.Laws.{IsName, IsCounted, known_result}
use Rattle.sarif.proofs.Lines.{line_tokens}
use Rattle.sarif.proofs.Plain.{IsPlain, ArePlain, numbers_kept, depth_kept, text_utf8}
use Rattle.sarif.proofs.UriRound.{uri_read_back, uri_is_utf8}
use Rattle.sarif.proofs.Values.{value_read}

tag_ascii : (r : Rule) → are_ascii (tag_of r) ≡ true
tag_ascii = passes (λ r. are_ascii (tag_of r)) refl

text_ascii : (r : Rule) → are_ascii (text_of r) ≡ true
text_ascii = passes (λ r. are_ascii (text_of r)) refl

-- ---- what is read of a result

position_read : (n : ℕ) → 1 ≤ n → n < 2 ^ 32 → position n ≡ Some n
position_read n low high = rw (le-leb 1 n low, lt-ltb n (2 ^ 32) high) refl

file_read : (name : Bytes) → IsName name → file_of_uri (uri_of name) ≡ Some name
file_read name h = rw (uri_read_back name h.0, is_utf8-from_IsUtf8 name h.1) refl

known_read : (name : Bytes) (d : Diag) → IsName name → IsCounted d → known_of (result_data (uri_of name) d) ≡ Some (record { file = name; line = d.place.line; col = d.place.col; rule = d.rule })
known_read name d h c =
    ap (λ f. known_from f (position d.place.line) (position d.place.col) (rule_tagged (tag_of d.rule))) (file_read name h)
    ∙ ap (λ l. known_from (Some name) l (position d.place.col) (rule_tagged (tag_of d.rule))) (position_read d.place.line c.line_from_1 c.line_fits)
    ∙ ap (λ l. known_from (Some name) (Some d.place.line) l (rule_tagged (tag_of d.rule))) (position_read d.place.col c.col_from_1 c.col_fits)
    ∙ ap (λ r. known_from (Some name) (Some d.place.line) (Some d.place.col) r) (rule_read d.rule)

-- a name of the list, or no bytes
name_is : (names : List Bytes) (file : ℕ) → All IsName names → IsName (name_of names file)
name_is [] file h = (All-nil _, IsUtf8-nil)
name_is (name ∷ names) zero h = All-head IsName name names h
name_is (name ∷ names) (suc file) h = name_is names file (All-tail IsName name names h)

results_read : (names : List Bytes) (ds : List Diag) → All IsName names → All IsCounted ds → results_known (items_of (results_data names ds)) ≡ map (known_result names) ds
results_read names [] h c = refl
results_read names (d ∷ ds) h c =
    ap (λ o. option_to_list o ++ results_known (items_of (results_data names ds))) (known_read (name_of names d.place.file) d (name_is names d.place.file h) (All-head IsCounted d ds c))
    ∙ ap (λ l. known_result names d ∷ l) (results_read names ds h (All-tail IsCounted d ds c))

report_read : (names : List Bytes) (ds : List Diag) → All IsName names → All IsCounted ds → baseline_of (report_data (results_data names ds)) ≡ Some (map (known_result names) ds)
report_read names ds h c = ap (λ l. Some (l ++ [])) (results_read names ds h c) ∙ ap Some (append-nil (map (known_result names) ds))

-- ---- a report is printed and read as it is

ascii : (s : Bytes) → are_ascii s ≡ true → IsUtf8 s
ascii = IsUtf8-are_ascii

result_plain : (uri : Bytes) (d : Diag) → IsUtf8 uri → IsCounted d → IsPlain (result_data uri d)
result_plain uri d u c =
    let line : d.place.line < 2 ^ 64 = omega (arith, c.line_fits) in
    let col : d.place.col < 2 ^ 64 = omega (arith, c.col_fits) in
    (ascii _ refl, (((ascii _ refl, ((ascii _ refl, ((ascii _ refl, (u, tt)), (ascii _ refl, ((ascii _ refl, (col, (ascii _ refl, (line, tt)))), tt)))), tt)), tt), (ascii _ refl, ((ascii _ refl, (ascii _ (text_ascii d.rule), tt)), (ascii _ refl, (ascii _ (tag_ascii d.rule), tt))))))

results_plain : (names : List Bytes) (ds : List Diag) → All IsName names → All IsCounted ds → ArePlain (items_of (results_data names ds))
results_plain names [] h c = tt
results_plain names (d ∷ ds) h c =
    (result_plain (uri_of (name_of names d.place.file)) d (uri_is_utf8 (name_of names d.place.file) (name_is names d.place.file h).0) (All-head IsCounted d ds c), results_plain names ds h (All-tail IsCounted d ds c))

report_plain : (names : List Bytes) (ds : List Diag) → All IsName names → All IsCounted ds → IsPlain (report_data (results_data names ds))
report_plain names ds h c =
    (ascii _ refl, (((ascii _ refl, (results_plain names ds h c, (ascii _ refl, ((ascii _ refl, ((ascii _ refl, (ascii _ refl, tt)), tt)), tt)))), tt), (ascii _ refl, (ascii _ refl, tt))))

result_json : (uri : Bytes) (d : Diag) → IsCounted d → of_json (outline (result_data uri d)) ≡ Some (result_data uri d)
result_json uri d c =
    let line : d.place.line < 2 ^ 64 = omega (arith, c.line_fits) in
    let col : d.place.col < 2 ^ 64 = omega (arith, c.col_fits) in
    rw (number_of-decimal d.place.col col, number_of-decimal d.place.line line) refl

results_json : (names : List Bytes) (ds : List Diag) → All IsCounted ds → of_items (items_outline (items_of (results_data names ds))) ≡ Some (items_of (results_data names ds))
results_json names [] c = refl
results_json names (d ∷ ds) c =
    rw (result_json (uri_of (name_of names d.place.file)) d (All-head IsCounted d ds c), results_json names ds (All-tail IsCounted d ds c)) refl

report_json : (names : List Bytes) (ds : List Diag) → All IsCounted ds → of_json (outline (report_data (results_data names ds))) ≡ Some (report_data (results_data names ds))
report_json names ds c = rw (results_json names ds c) refl

results_shallow : (names : List Bytes) (ds : List Diag) → items_depth (items_of (results_data names ds)) ≤ 5
results_shallow names [] = omega arith
results_shallow names (d ∷ ds) = omega (arith, results_shallow names ds)

report_shallow : (names : List Bytes) (ds : List Diag) → depth (report_data (results_data names ds)) ≤ max_depth
report_shallow names ds = omega (arith, results_shallow names ds)

report_tokens : (names : List Bytes) (ds : List Diag) → All IsName names → All IsCounted ds → tokens (sarif_of names ds) ≡ json_tokens (outline (report_data (results_data names ds)))
report_tokens names ds h c =
    ap (λ t. tokens (t ++ 10 ∷ [])) (sym (print-outline (report_data (results_data names ds))))
    ∙ line_tokens (json_tokens (outline (report_data (results_data names ds)))) (ArePrintable-json_tokens (outline (report_data (results_data names ds))) (numbers_kept (report_data (results_data names ds)) (report_plain names ds h c)))

-- the value of what was read
abbrev whole : Option (json.Json × List Token) → Option Data
whole o = option_and_then of_json (option_and_then (λ p. json.if_last p.0 p.1) o)

text_read : (d : Data) (text : Bytes) → tokens text ≡ json_tokens (outline d) → tree.depth (outline d) ≤ max_depth → of_json (outline d) ≡ Some d → read text ≡ Some d
text_read d text same shallow back =
    ap whole (ap (json.value max_depth) (same ∙ sym (append-nil (json_tokens (outline d)))) ∙ value-json_tokens (outline d) max_depth [] shallow) ∙ back

report_value : (names : List Bytes) (ds : List Diag) → All IsName names → All IsCounted ds → value_of (sarif_of names ds) ≡ Some (report_data (results_data names ds))
report_value names ds h c =
    let report = report_data (results_data names ds) in
    let plain = report_plain names ds h c in
    let shallow : tree.depth (outline report) ≤ max_depth = subst (λ n. n ≤ max_depth) (sym (depth_kept report)) (report_shallow names ds) in
    value_read (sarif_of names ds) report (IsUtf8-append (compact_text report) (10 ∷ []) (text_utf8 report plain) (ascii _ refl))
    (text_read report (sarif_of names ds) (report_tokens names ds h c) shallow (report_json names ds c))

-- what a report of diagnostics says is known are the diagnostics
pub written_is_read : (names : List Bytes) (ds : List Diag) → All IsName names → All IsCounted ds → baseline_read (sarif_of names ds) ≡ Some (map (known_result names) ds)
written_is_read names ds h c = rw (report_value names ds h c) (report_read names ds h c)
