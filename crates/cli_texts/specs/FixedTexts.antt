-- The texts of the command line itself, and those on files that are missing, too long or of another form.
use Rattle.std.specs.Prelude.{ℕ, ◌++◌, codes}
use Rattle.std.specs.Fmt.{decimal}
use Rattle.cli_texts.specs.Reports.{Bytes}

abbrev pub version_text : Bytes
version_text = codes "ccheck 0.1.0\n"

abbrev pub words_refused_text : Bytes
words_refused_text = codes "ccheck: words refused\n"

abbrev pub no_file_text : Bytes → Bytes
no_file_text name = codes "ccheck: no file " ++ (name ++ codes "\n")

abbrev pub too_long_text : Bytes → Bytes
too_long_text name = name ++ codes ":1:1: limit: FileTooLong 1048577/1048576\n"

abbrev pub no_model_text : Bytes → Bytes → Bytes
no_model_text name reason = codes "ccheck: " ++ (name ++ (codes ": " ++ (reason ++ codes "\n")))

abbrev pub no_baseline_text : Bytes → Bytes
no_baseline_text name = codes "ccheck: " ++ (name ++ codes ": BaseShape\n")

abbrev pub no_draws_text : Bytes → Bytes
no_draws_text name = codes "ccheck: " ++ (name ++ codes ": DrawsShape\n")

abbrev pub cert_too_long_text : Bytes → ℕ → Bytes
cert_too_long_text unit count = unit ++ (codes ":1:1: limit: CertTooLong " ++ (decimal count ++ codes "/1048576\n"))

abbrev pub cert_refused_text : Bytes → Bytes → Bytes
cert_refused_text name reason = name ++ (codes ": refused: " ++ (reason ++ codes "\n"))
