-- A sink in memory, and what a call of `put` makes of it.
use Rattle.std.specs.Prelude.{ℕ, Bool, List, ◌++◌, ◌+◌, ◌-◌, length, take, nat_le, cond}
use Rattle.std.specs.Coded.{Coded, code_by, coded×, coded_ℕ, coded_list}
use Rattle.std.specs.Prelude.{refl}
use Rattle.cc_base.specs.Outside.{next_count}

-- the bytes so far, the most that it takes, the faults and the calls so far
pub record Kept : Type 0 where
  pub bytes : List ℕ
  pub most : ℕ
  pub faults : ℕ
  pub calls : ℕ

abbrev pub kept_code : Coded Kept
kept_code =
    code_by (List ℕ × (ℕ × (ℕ × ℕ))) (coded× (coded_list coded_ℕ) (coded× coded_ℕ (coded× coded_ℕ coded_ℕ)))
    (λ k. (k.bytes, (k.most, (k.faults, k.calls)))) (λ p. record { bytes = p.0; most = p.1.0; faults = p.1.1.0; calls = p.1.1.1 }) (λ _. refl)

-- how many bytes it still takes
abbrev pub room : Kept → ℕ
room kept = kept.most - length kept.bytes

-- whether a piece still fits
abbrev pub fits : Kept → List ℕ → Bool
fits kept piece = nat_le (length kept.bytes + length piece) kept.most

-- the sink after a piece: its bytes as far as they fit, and a fault where they do not
abbrev pub after_piece : Kept → List ℕ → Kept
after_piece kept piece = record {
  bytes = kept.bytes ++ take (room kept) piece;
  most = kept.most;
  faults = cond (fits kept piece) kept.faults (next_count kept.faults);
  calls = next_count kept.calls;
}
