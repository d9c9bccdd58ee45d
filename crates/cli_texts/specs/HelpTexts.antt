-- The text of `--help`: how the command is called, a line for each rule, and the status.
use Rattle.std.specs.Prelude.{ℕ, ◌==◌, Bool, true, false, not, List, [], ◌∷◌, ◌++◌, length, codes, if◌then◌else◌}
use Rattle.cc_base.specs.declared.diagnostics.Rule.{Rule}
use Rattle.cc_base.specs.Rules.{all_rules, tag_of, help_of, is_on_text}
use Rattle.cli_texts.specs.Reports.{Bytes}

unfoldable pub head : Bytes
head = codes "ccheck: a static analyser for C\n\nUsage: ccheck VERB UNIT [DIR]... [OPTIONS]\n\nUNIT is one C file. Each DIR is a directory that is searched for headers: in\n`ccheck check a.c b.c`, b.c is taken for a directory and is not analysed.\n\nVerbs:\n  check   analyse UNIT and print the places where it may break a rule\n  gate    the same, without the diagnostics that are in the file of --base\n  load    make a unit from --seed and --count, analyse it under the name UNIT,\n          and print a summary (a benchmark)\n  prove   analyse UNIT and print the invariant map as a certificate\n  replay  execute one run of UNIT over the inputs of --draws, and print the\n          places where it breaks a rule and how it ends\n  verify  check the certificate of --cert for UNIT without the solver, and print\n          the places where UNIT may break a run-time rule\n\nOptions (each at most once; a verb ignores those that it does not use):\n  --model NAME_OR_FILE  lp64, ilp32, llp64, or a TOML file with a data model\n                        [default: lp64]\n  --format FORMAT       text, json or sarif, for check [default: text]\n  --entry NAME          the function at which runs begin [default: main]\n  --turns K             0 to 64: analyse the first K iterations one by one,\n                        counted over all loops, for check [default: none]\n  --base FILE           the baseline, a SARIF report; gate needs it\n  --cert FILE           the certificate; verify needs it\n  --draws FILE          the inputs of a run, for replay: whole numbers between\n                        blanks and line ends [default: none]\n  --steps N             0 to 1000000: the most steps of a run, for replay\n                        [default: 100000]\n  --seed N              0 to 2147483647, for load [default: 1]\n  --count N             1 to 300, for load [default: 10]\n  -h, --help            print this text\n  -V, --version         print the version\n\nIf the answer is `ccheck: words refused`: the verb is not one of these, UNIT is\nmissing, an option is unknown, abbreviated, given twice, or its value is missing\nor out of range, gate lacks --base, or verify lacks --cert. There are no options\n-I, -D, -v and -q.\n\nRun-time rules:\n"

unfoldable pub rules_on_text : Bytes
rules_on_text = codes "Rules on the text:\n"

unfoldable pub tail : Bytes
tail = codes "\nStatus:\n  0  accepted, no diagnostic           5  a read failed; nothing is printed\n  1  accepted, with diagnostics        6  a write failed\n  2  the unit is refused               7  out of memory; nothing is printed\n  3  command line or a file refused    8  a limit is exceeded\n  4  no such file                      9  the certificate is refused\n"

-- the blanks after a tag of so many bytes: tags have up to nine
abbrev pub blanks : ℕ → Bytes
blanks n =
    if n == 5 then codes "      "
    else (if n == 6 then codes "     "
    else (if n == 7 then codes "    "
    else (if n == 8 then codes "   " else codes "  ")))

-- TAG WORDS
abbrev pub help_line : Rule → Bytes
help_line rule = codes "  " ++ (tag_of rule ++ (blanks (length (tag_of rule)) ++ (help_of rule ++ codes "\n")))

-- whether a rule is of the kind asked for
abbrev pub is_asked : Bool → Rule → Bool
is_asked on_text rule = if on_text then is_on_text rule else not (is_on_text rule)

abbrev pub help_part : Bool → Rule → Bytes
help_part on_text rule = if is_asked on_text rule then help_line rule else []

abbrev pub help_parts : Bool → List Rule → Bytes
help_parts on_text [] = []
help_parts on_text (r ∷ rs) = help_part on_text r ++ help_parts on_text rs

-- the lines of all rules on runs, or of all on the text
unfoldable pub help_lines : Bool → Bytes
help_lines on_text = help_parts on_text all_rules

abbrev pub help_text : Bytes
help_text = head ++ (help_lines false ++ (rules_on_text ++ (help_lines true ++ tail)))
