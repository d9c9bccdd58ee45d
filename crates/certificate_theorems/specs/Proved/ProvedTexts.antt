-- What the texts that are written as certificates come to.
use Rattle.std.specs.Prelude.{◌≡◌, ℤ, List, None}
use Rattle.cc_base.specs.InductiveMap.{IsLeast}
use Rattle.cc_base.specs.declared.diagnostics.Diag.{Diag}
use Rattle.cfg.specs.declared.programs.Flow.{Flow}
use Rattle.analysis_determined.specs.Analyses.{row_lattice, machine_of, IsAnalysis}
use Rattle.certificate_text.specs.Lines.LineWords.{Bytes}
use Rattle.certificate_check.specs.declared.verdicts.verdicts.Verdict.TheVariants.{Yes}
use Rattle.certificate_check.specs.Verdicts.Verdicts.{IsVerdictOn}
use Rattle.certificate_programs.specs.declared.programs.checked_maps.Told.{Told}
use Rattle.certificate_programs.specs.declared.programs.checked_maps.Verified.{Verified}
use Rattle.certificate_programs.specs.declared.programs.checked_maps.Verified.TheVariants.{Found, Refused}
use Rattle.certificate_programs.specs.Programs.Certificates.{IsCertificate, IsLookedAt, IsShown, IsVerified}
use Rattle.certificate_programs.specs.Programs.ReadMaps.{IsToldOf}

-- they are those of least inductive maps
abbrev pub CertificatesAreLeast : Type 0
CertificatesAreLeast = (flow : Flow) (list : List ℤ) (text : Bytes) (c : IsCertificate flow list text) → IsLeast row_lattice (machine_of flow list) c.rows

-- they have the verdict yes
abbrev pub CertificatesAreAccepted : Type 0
CertificatesAreAccepted = (flow : Flow) (list : List ℤ) (text : Bytes) → IsCertificate flow list text → IsVerdictOn flow text Yes

-- their programs are such as `verify` asks before it reads a text
abbrev pub ProvedProgramsPass : Type 0
ProvedProgramsPass = (flow : Flow) (list : List ℤ) (text : Bytes) → IsCertificate flow list text → IsLookedAt flow

-- no row is cut, since operands lie within their types by the text's own rows
abbrev pub NothingIsCut : Type 0
NothingIsCut = (flow : Flow) (list : List ℤ) (text : Bytes) (told : Told) → IsCertificate flow list text → IsToldOf flow text told → told.smaller ≡ None

-- what is told is what an analysis finds, and no refusal
abbrev pub IsAnalysed : Flow → List ℤ → Verified → Type 0
IsAnalysed flow list (Found found) = IsAnalysis flow list found.items
IsAnalysed flow list (Refused why) = ⊥

abbrev pub CertificatesGiveAnalyses : Type 0
CertificatesGiveAnalyses = (flow : Flow) (list : List ℤ) (text : Bytes) (verified : Verified) → IsCertificate flow list text → IsVerified flow text verified → IsAnalysed flow list verified

-- so it is what every analysis finds
abbrev pub CertificatesShowWhatIsFound : Type 0
CertificatesShowWhatIsFound = (flow : Flow) (list : List ℤ) (text : Bytes) (shown found : List Diag) → IsCertificate flow list text → IsShown flow text shown → IsAnalysis flow list found → shown ≡ found
