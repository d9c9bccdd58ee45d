-- The values that are pending, as lists whose newest value stands last.
use Rattle.std.proofs.Common.{◌≡◌, ℕ, ◌-◌, List, [], length, map, reverse, take, drop, sym, ap, ◌∙◌}
use Rattle.std.proofs.lemmas.List.{length-map, drop-map}
use Rattle.std.specs.List.{take-map}
use Rattle.interp_memory.specs.ByteViews.{scalar_view}
use Rattle.interp_memory.specs.declared.byte_forms.Value7.{Value7}
use Rattle.semantics.specs.SourceMachine.Operations.{newest}
use Rattle.interp_steps.specs.Operations.Pending.{pending}
use Rattle.interp_steps.proofs.operations.NewestValues.{newest_is, rest_is}

pub newest_values : (n : ℕ) (vs : List Value7) → map scalar_view (drop (length vs - n) vs) ≡ newest n (pending vs)
newest_values n vs =
    sym (drop-map scalar_view (length vs - n) vs)
    ∙ ap (λ k. drop (k - n) (map scalar_view vs)) (sym (length-map vs scalar_view))
    ∙ newest_is n (map scalar_view vs)

pub pending_rest : (n : ℕ) (vs : List Value7) → pending (take (length vs - n) vs) ≡ drop n (pending vs)
pending_rest n vs =
    ap reverse (sym (take-map scalar_view (length vs - n) vs))
    ∙ ap (λ k. reverse (take (k - n) (map scalar_view vs))) (sym (length-map vs scalar_view))
    ∙ rest_is n (map scalar_view vs)
