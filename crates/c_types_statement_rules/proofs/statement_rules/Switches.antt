-- The innermost of the open switches.
use Rattle.std.proofs.Common.{◌≡◌, ◌<◌, ◌-◌, ◌∙◌, ℕ, List, map, length, slice_get, slice_set, slice_index_or, Some, option_map, refl, sym, ap, arith}
use Rattle.std.proofs.lemmas.List.{map-set, length-map}
use Rattle.std.proofs.lemmas.Option.{slice_get-map, slice_get_read}
use Rattle.c_types_statement_rules.specs.declared.statement_rules.body_flow.OpenSwitch.{OpenSwitch}
use Rattle.c_types_statement_rules.specs.StatementRules.BodyFlow.{switch_view}

pub innermost_is : (xs : List OpenSwitch) (len : ℕ) (s : OpenSwitch) → len ≡ length xs → 0 < length xs → s ≡ slice_index_or xs (len - 1) s
    → slice_get (map switch_view xs) (length (map switch_view xs) - 1) ≡ Some (switch_view s)
innermost_is xs len s is some read =
    ap (λ n. slice_get (map switch_view xs) (n - 1)) (length-map xs switch_view)
    ∙ slice_get-map switch_view xs (length xs - 1)
    ∙ ap (option_map switch_view) (slice_get_read xs (length xs) (length xs - 1) s refl (omega (arith, some)) (read ∙ ap (λ n. slice_index_or xs (n - 1) s) is))

pub innermost_set : (xs : List OpenSwitch) (len : ℕ) (made : OpenSwitch) → len ≡ length xs
    → map switch_view (slice_set xs (len - 1) made) ≡ slice_set (map switch_view xs) (length (map switch_view xs) - 1) (switch_view made)
innermost_set xs len made is =
    map-set switch_view xs (len - 1) made
    ∙ ap (λ n. slice_set (map switch_view xs) (n - 1) (switch_view made)) (is ∙ sym (length-map xs switch_view))
