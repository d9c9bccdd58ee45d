-- Parts of a report, read one by one.
use Rattle.std.proofs.Common.{◌≡◌, ℕ, ◌<◌, ◌-◌, List, [], ◌∷◌, ◌++◌, length, true, false, Option, Some, None, option_map, option_and_then, refl, sym, ap, ◌∙◌, subst, append_assoc, option_to_list, true≢false}
use Rattle.std.specs.Prelude.{⊤}
use Rattle.json.specs.Token.{Token}
use Rattle.json.specs.Json as json
use Rattle.json.specs.Json.{parse_map, items, members, value}
use Rattle.json.proofs.Grammar.{value_is, value-begin_array, value-begin_object}
use Rattle.serde_json.specs.Data.{Data, null, boolean, number, string, array, object, Items, no_items, item, Members, no_members}
use Rattle.serde_json.specs.Find.{as_array, as_object}
use Rattle.serde_json.specs.Read.{of_json, of_items, of_members, converted, number_of}
use Rattle.sarif.specs.declared.known_results.Known.{Known}
use Rattle.sarif.specs.Baselines.{known_of, results_known, run_results, baseline_of}
use Rattle.sarif.specs.Streams.{begins_list, begins_object}
use Rattle.sarif.proofs.Reading.{item_read, whole, converted_object, converted_array}

pub after_both : {A B C : Type 0} (f : B → C) (g : A → B) (o : Option (A × List Token)) → parse_map f (parse_map g o) ≡ parse_map (λ x. f (g x)) o
after_both f g None = refl
after_both f g (Some p) = refl

pub unchanged : {A : Type 0} (o : Option (A × List Token)) → o ≡ parse_map (λ x. x) o
unchanged None = refl
unchanged (Some p) = refl

-- one more item was read, of which the rest is still to come
pub items_turn : (p : json.Parse json.Json) (n : ℕ) (f : Items → Items) (d : Data) (ts r : List Token) (all : Option (Items × List Token)) → 0 < n → json.after_end_array ts ≡ None → converted of_json (p ts) ≡ Some (d, r)
    → all ≡ parse_map f (converted of_items (items p n ts)) → all ≡ parse_map (λ rest. f (item d rest)) (converted of_items (items p (n - 1) r))
items_turn p n f d ts r all some going read held = held ∙ ap (parse_map f) (item_read p n ts r d some going read) ∙ after_both f (item d) (converted of_items (items p (n - 1) r))

pub results_turn : (f : Items → Items) (d : Data) (old known new : List Known) → ((rest : Items) → old ++ results_known (f rest) ≡ known ++ results_known rest) → new ≡ known ++ option_to_list (known_of d)
    → (rest : Items) → old ++ results_known (f (item d rest)) ≡ new ++ results_known rest
results_turn f d old known new held pushed rest = held (item d rest) ∙ sym (append_assoc known (option_to_list (known_of d)) (results_known rest)) ∙ ap (λ k. k ++ results_known rest) (sym pushed)

-- ---- a value whose first token opens nothing that is looked for

module _ {X : Type 0} (look : Data → Option X) where
  abbrev looked : Option (Data × List Token) → Option X
  looked None = None
  looked (Some p) = look p.0

  looked_number : (r : List Token) (n : Option _) → ((x : _) → look (number x) ≡ None) → looked (option_map (λ b. (b, r)) (option_map number n)) ≡ None
  looked_number r None h = refl
  looked_number r (Some x) h = h x

  looked_array : (o : Option (Items × List Token)) → ((ds : Items) → look (array ds) ≡ None) → looked (parse_map array o) ≡ None
  looked_array None h = refl
  looked_array (Some p) h = h p.0

  looked_object : (o : Option (Members × List Token)) → ((ms : Members) → look (object ms) ≡ None) → looked (parse_map object o) ≡ None
  looked_object None h = refl
  looked_object (Some p) h = h p.0

module _ (depth : ℕ) where
  abbrev taken : (t : Token) (ts : List Token) → Option (Data × List Token)
  taken t ts = converted of_json (value depth (t ∷ ts))

  list_at : (t : Token) (ts : List Token) → begins_list t ≡ false → looked as_array (taken t ts) ≡ None
  list_at Token.begin_object ts e = rw (value_is depth (Token.begin_object ∷ ts), converted_object _) (looked_object as_array _ (λ ms. refl))
  list_at Token.end_object ts e = rw (value_is depth (Token.end_object ∷ ts))
  list_at Token.begin_array ts e = absurd (true≢false e)
  list_at Token.end_array ts e = rw (value_is depth (Token.end_array ∷ ts))
  list_at (Token.key s) ts e = rw (value_is depth (Token.key s ∷ ts))
  list_at (Token.string s) ts e = rw (value_is depth (Token.string s ∷ ts))
  list_at (Token.number s) ts e = rw (value_is depth (Token.number s ∷ ts)) (looked_number as_array ts (number_of s) (λ x. refl))
  list_at (Token.boolean b) ts e = rw (value_is depth (Token.boolean b ∷ ts))
  list_at Token.null ts e = rw (value_is depth (Token.null ∷ ts))
  list_at Token.bad ts e = rw (value_is depth (Token.bad ∷ ts))

  object_at : (t : Token) (ts : List Token) → begins_object t ≡ false → looked as_object (taken t ts) ≡ None
  object_at Token.begin_object ts e = absurd (true≢false e)
  object_at Token.end_object ts e = rw (value_is depth (Token.end_object ∷ ts))
  object_at Token.begin_array ts e = rw (value_is depth (Token.begin_array ∷ ts), converted_array _) (looked_array as_object _ (λ ds. refl))
  object_at Token.end_array ts e = rw (value_is depth (Token.end_array ∷ ts))
  object_at (Token.key s) ts e = rw (value_is depth (Token.key s ∷ ts))
  object_at (Token.string s) ts e = rw (value_is depth (Token.string s ∷ ts))
  object_at (Token.number s) ts e = rw (value_is depth (Token.number s ∷ ts)) (looked_number as_object ts (number_of s) (λ x. refl))
  object_at (Token.boolean b) ts e = rw (value_is depth (Token.boolean b ∷ ts))
  object_at Token.null ts e = rw (value_is depth (Token.null ∷ ts))
  object_at Token.bad ts e = rw (value_is depth (Token.bad ∷ ts))

  pub no_list : (t : Token) (ts r : List Token) (d : Data) → begins_list t ≡ false → converted of_json (value depth (t ∷ ts)) ≡ Some (d, r) → as_array d ≡ None
  no_list t ts r d e read = sym (ap (looked as_array) read) ∙ list_at t ts e

  pub no_object : (t : Token) (ts r : List Token) (d : Data) → begins_object t ≡ false → converted of_json (value depth (t ∷ ts)) ≡ Some (d, r) → as_object d ≡ None
  no_object t ts r d e read = sym (ap (looked as_object) read) ∙ object_at t ts e

pub list_token : (t : Token) → begins_list t ≡ true → t ≡ Token.begin_array
list_token Token.begin_object e = absurd (true≢false (sym e))
list_token Token.end_object e = absurd (true≢false (sym e))
list_token Token.begin_array e = refl
list_token Token.end_array e = absurd (true≢false (sym e))
list_token (Token.key s) e = absurd (true≢false (sym e))
list_token (Token.string s) e = absurd (true≢false (sym e))
list_token (Token.number s) e = absurd (true≢false (sym e))
list_token (Token.boolean b) e = absurd (true≢false (sym e))
list_token Token.null e = absurd (true≢false (sym e))
list_token Token.bad e = absurd (true≢false (sym e))

pub object_token : (t : Token) → begins_object t ≡ true → t ≡ Token.begin_object
object_token Token.begin_object e = refl
object_token Token.end_object e = absurd (true≢false (sym e))
object_token Token.begin_array e = absurd (true≢false (sym e))
object_token Token.end_array e = absurd (true≢false (sym e))
object_token (Token.key s) e = absurd (true≢false (sym e))
object_token (Token.string s) e = absurd (true≢false (sym e))
object_token (Token.number s) e = absurd (true≢false (sym e))
object_token (Token.boolean b) e = absurd (true≢false (sym e))
object_token Token.null e = absurd (true≢false (sym e))
object_token Token.bad e = absurd (true≢false (sym e))

abbrev IsNone : {A : Type 0} → Option A → Type 0
IsNone None = ⊤
IsNone (Some a) = ⊥

-- a value that is no object has no results, and is no report
pub no_results : (d : Data) → as_object d ≡ None → run_results d ≡ no_items
no_results null e = refl
no_results (boolean b) e = refl
no_results (number n) e = refl
no_results (string s) e = refl
no_results (array ds) e = refl
no_results (object ms) e = absurd (subst IsNone (sym e) tt)

pub no_report : (d : Data) → as_object d ≡ None → baseline_of d ≡ None
no_report null e = refl
no_report (boolean b) e = refl
no_report (number n) e = refl
no_report (string s) e = refl
no_report (array ds) e = refl
no_report (object ms) e = absurd (subst IsNone (sym e) tt)

-- ---- a value by its first token

pub no_token : (depth : ℕ) → converted of_json (value depth []) ≡ None
no_token depth = ap (converted of_json) (value_is depth [])

pub list_opened : (depth : ℕ) (t : Token) (ts : List Token) → begins_list t ≡ true → 0 < depth
    → converted of_json (value depth (t ∷ ts)) ≡ parse_map array (converted of_items (items (value (depth - 1)) (length ts) ts))
list_opened depth t ts e some = ap (λ k. converted of_json (value depth (k ∷ ts))) (list_token t e) ∙ ap (converted of_json) (value-begin_array depth ts some) ∙ converted_array (items (value (depth - 1)) (length ts) ts)

pub object_opened : (depth : ℕ) (t : Token) (ts : List Token) → begins_object t ≡ true → 0 < depth
    → converted of_json (value depth (t ∷ ts)) ≡ parse_map object (converted (λ ms. of_members ms no_members) (members (value (depth - 1)) (length ts) ts))
object_opened depth t ts e some = ap (λ k. converted of_json (value depth (k ∷ ts))) (object_token t e) ∙ ap (converted of_json) (value-begin_object depth ts some) ∙ converted_object (members (value (depth - 1)) (length ts) ts)

list_too_deep_at : (ts : List Token) → converted of_json (value 0 (Token.begin_array ∷ ts)) ≡ None
unfolding value
list_too_deep_at ts = refl

object_too_deep_at : (ts : List Token) → converted of_json (value 0 (Token.begin_object ∷ ts)) ≡ None
unfolding value
object_too_deep_at ts = refl

pub list_too_deep : (depth : ℕ) (t : Token) (ts : List Token) → begins_list t ≡ true → depth ≡ 0 → converted of_json (value depth (t ∷ ts)) ≡ None
list_too_deep depth t ts e none = ap (λ n. converted of_json (value n (t ∷ ts))) none ∙ ap (λ k. converted of_json (value 0 (k ∷ ts))) (list_token t e) ∙ list_too_deep_at ts

pub object_too_deep : (depth : ℕ) (t : Token) (ts : List Token) → begins_object t ≡ true → depth ≡ 0 → converted of_json (value depth (t ∷ ts)) ≡ None
object_too_deep depth t ts e none = ap (λ n. converted of_json (value n (t ∷ ts))) none ∙ ap (λ k. converted of_json (value 0 (k ∷ ts))) (object_token t e) ∙ object_too_deep_at ts

reported : (x : Option Data) → ((d : Data) → x ≡ Some d → baseline_of d ≡ None) → option_and_then baseline_of x ≡ None
reported None h = refl
reported (Some d) h = h d refl

-- a text is no report where no value that it begins with is one
pub no_report_in : (o : Option (json.Json × List Token)) → ((d : Data) → (rest : List Token) → converted of_json o ≡ Some (d, rest) → baseline_of d ≡ None) → option_and_then baseline_of (whole o) ≡ None
no_report_in None h = refl
no_report_in (Some (j, [])) h = reported (of_json j) (λ d e. h d [] (ap (option_map (λ b. (b, []))) e))
no_report_in (Some (j, t ∷ r)) h = refl
