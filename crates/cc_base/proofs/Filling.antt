-- What a loop that reads a file keeps.
use Rattle.std.proofs.Common.{◌≡◌, ◌≤◌, ◌+◌, ◌-◌, ◌^◌, min, ℕ}

-- the counts before and now, the bytes so far, and the turns so far
pub record Fills (taken_before taken faults_before faults total held turns : ℕ) : Type 0 where
  pub faults_stay : faults ≡ faults_before
  pub took : min (taken_before + total) (2 ^ 64 - 1) ≤ taken
  pub grew : taken_before ≤ taken
  pub same : held ≡ total
  pub short : total ≤ 1048576
  pub each : turns ≤ total
