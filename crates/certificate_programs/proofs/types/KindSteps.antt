-- One more temporary has its types, and one more pass is done.
use Rattle.std.proofs.Common.{◌≡◌, ◌∙◌, ℕ, suc, ◌+◌, ◌-◌, ◌<◌, true, cond, List, [], ◌∷◌, ◌++◌, length, take, map, slice_set, sym, ap, add-one, arith}
use Rattle.std.specs.List.{range_with_len}
use Rattle.std.proofs.Math.Seq.{take-suc-set}
use Rattle.std.proofs.lemmas.List.FromFn.{map-range_with_len_more}
use Rattle.cfg.specs.declared.programs.Flow.{Flow}
use Rattle.certificate_programs.specs.Types.TypedTemps.{spread, settle}

pub entered_more : (f : ℕ → ℕ) (n : ℕ) (kinds : List ℕ) (made : ℕ) → n < length kinds → made ≡ f n → take n kinds ≡ map f (range_with_len 0 n) → take (n + 1) (slice_set kinds n made) ≡ map f (range_with_len 0 (n + 1))
entered_more f n kinds made less e is =
    ap (λ k. take k (slice_set kinds n made)) (add-one n)
    ∙ take-suc-set kinds n made less
    ∙ (λ i. is i ++ e i ∷ [])
    ∙ sym (map-range_with_len_more f 0 n n (omega arith))

gap : (count pass : ℕ) → pass < count → count - pass ≡ suc (count - (pass + 1))
gap count pass less = omega arith

pub settle_more : (flow : Flow) (temps count pass : ℕ) (all now goal : List ℕ) → pass < count → (spread flow temps all).grew ≡ true → now ≡ (spread flow temps all).all → settle flow temps (count - pass) all ≡ goal → settle flow temps (count - (pass + 1)) now ≡ goal
settle_more flow temps count pass all now goal less grew next is =
    ap (settle flow temps (count - (pass + 1))) next
    ∙ sym (ap (λ b. cond b (settle flow temps (count - (pass + 1)) (spread flow temps all).all) (spread flow temps all).all) grew)
    ∙ sym (ap (λ n. settle flow temps n all) (gap count pass less))
    ∙ is
