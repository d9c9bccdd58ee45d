use Rattle.std.proofs.Common.{ap₂, sym}
use Rattle.c_library.specs.Headers.Headers.{limits_text, long_bytes}
use Rattle.c_library.proofs.headers.headers.limits_4.Goals as goal

pub returns-in-true-true : goal.returns-in-true-true
unfolding limits_text
returns-in-true-true c = ap₂ (λ w s. limits_text 4 (long_bytes w) s) (sym c.in-true-true.is-0) (sym c.in-true-true.is-1)

pub returns-in-true-false : goal.returns-in-true-false
unfolding limits_text
returns-in-true-false c = ap₂ (λ w s. limits_text 4 (long_bytes w) s) (sym c.in-true-false.is-0) (sym c.in-true-false.is-1)

pub returns-in-false-true : goal.returns-in-false-true
unfolding limits_text
returns-in-false-true c = ap₂ (λ w s. limits_text 4 (long_bytes w) s) (sym c.in-false-true.is-0) (sym c.in-false-true.is-1)

pub returns-in-false-false : goal.returns-in-false-false
unfolding limits_text
returns-in-false-false c = ap₂ (λ w s. limits_text 4 (long_bytes w) s) (sym c.in-false-false.is-0) (sym c.in-false-false.is-1)
