-- The line that a refusal prints.
use Rattle.std.specs.Prelude.{ℕ, Bool, true, false, cond, [], ◌++◌, codes}
use Rattle.std.specs.Fmt.{decimal}
use Rattle.cc_base.specs.declared.diagnostics.Place.{Place}
use Rattle.cc_base.specs.declared.limit_table.Count.{Count}
use Rattle.cc_base.specs.declared.limit_table.Count.TheVariants.{Temps, Bases, Cells, Blocks, Instructions, Pool}
use Rattle.cc_base.specs.declared.refusals.Refusal.{Refusal}
use Rattle.cc_base.specs.declared.refusals.Refusal.TheVariants as refusal
use Rattle.cli_texts.specs.Reports.{Bytes}

-- the word of a refusal
abbrev pub word_of : Refusal → Bytes
word_of refusal.BadByte = codes "BadByte"
word_of refusal.OpenComment = codes "OpenComment"
word_of refusal.OpenLiteral = codes "OpenLiteral"
word_of (refusal.TooManyTokens count limit) = codes "TooManyTokens"
word_of (refusal.HeaderMissing name) = codes "HeaderMissing"
word_of refusal.BadDirective = codes "BadDirective"
word_of refusal.UnevenConditional = codes "UnevenConditional"
word_of refusal.ErrorDirective = codes "ErrorDirective"
word_of refusal.MacroSpill = codes "MacroSpill"
word_of refusal.MacroArguments = codes "MacroArguments"
word_of refusal.IncludeDepth = codes "IncludeDepth"
word_of refusal.MacroRedefined = codes "MacroRedefined"
word_of (refusal.FileTooLong count limit) = codes "FileTooLong"
word_of refusal.NumberForm = codes "NumberForm"
word_of (refusal.Unsupported name) = codes "Unsupported"
word_of refusal.Syntax = codes "Syntax"
word_of refusal.Undeclared = codes "Undeclared"
word_of refusal.Redeclared = codes "Redeclared"
word_of refusal.TypeFault = codes "TypeFault"
word_of refusal.PointerInteger = codes "PointerInteger"
word_of refusal.ConstantNeeded = codes "ConstantNeeded"
word_of refusal.FormatFault = codes "FormatFault"
word_of refusal.NoEntry = codes "NoEntry"
word_of refusal.Recursion = codes "Recursion"
word_of (refusal.TooLarge what count limit) = codes "TooLarge"

abbrev pub count_word : Count → Bytes
count_word Temps = codes "temps"
count_word Bases = codes "bases"
count_word Cells = codes "cells"
count_word Blocks = codes "blocks"
count_word Instructions = codes "instructions"
count_word Pool = codes "pool"

-- FILE:LINE:COL: refused: WORD
abbrev pub refused_line : Bytes → Place → Bytes → Bytes
refused_line file p word = file ++ (codes ":" ++ (decimal p.line ++ (codes ":" ++ (decimal p.col ++ (codes ": refused: " ++ (word ++ codes "\n"))))))

-- FILE:LINE:COL: refused: WORD NAME
abbrev pub named_line : Bytes → Place → Bytes → Bytes → Bytes
named_line file p word name = (file ++ (codes ":" ++ (decimal p.line ++ (codes ":" ++ (decimal p.col ++ (codes ": refused: " ++ (word ++ codes " "))))))) ++ (name ++ codes "\n")

-- FILE:LINE:COL: limit: WORD COUNT/LIMIT
abbrev pub limit_line : Bytes → Place → Bytes → ℕ → ℕ → Bytes
limit_line file p word count limit = file ++ (codes ":" ++ (decimal p.line ++ (codes ":" ++ (decimal p.col ++ (codes ": limit: " ++ (word ++ (codes " " ++ (decimal count ++ (codes "/" ++ (decimal limit ++ codes "\n"))))))))))

-- FILE:LINE:COL: limit: TooLarge WHAT COUNT/LIMIT
abbrev pub large_line : Bytes → Place → Bytes → ℕ → ℕ → Bytes
large_line file p what count limit = file ++ (codes ":" ++ (decimal p.line ++ (codes ":" ++ (decimal p.col ++ (codes ": limit: TooLarge " ++ (what ++ (codes " " ++ (decimal count ++ (codes "/" ++ (decimal limit ++ codes "\n"))))))))))

-- the line has the word alone: no name and no counts
abbrev pub is_plain : Refusal → Bool
is_plain (refusal.TooManyTokens count limit) = false
is_plain (refusal.FileTooLong count limit) = false
is_plain (refusal.TooLarge what count limit) = false
is_plain (refusal.HeaderMissing name) = false
is_plain (refusal.Unsupported name) = false
is_plain r = true

-- the line of a refusal with a name or with counts
abbrev pub detailed_line : Bytes → Place → Refusal → Bytes
detailed_line file p (refusal.TooManyTokens count limit) = limit_line file p (codes "TooManyTokens") count limit
detailed_line file p (refusal.FileTooLong count limit) = limit_line file p (codes "FileTooLong") count limit
detailed_line file p (refusal.TooLarge what count limit) = large_line file p (count_word what) count limit
detailed_line file p (refusal.HeaderMissing name) = named_line file p (codes "HeaderMissing") name
detailed_line file p (refusal.Unsupported name) = named_line file p (codes "Unsupported") name
detailed_line file p r = []

-- the line of a refusal
abbrev pub refusal_line : Bytes → Place → Refusal → Bytes
refusal_line file p r = cond (is_plain r) (refused_line file p (word_of r)) (detailed_line file p r)

-- 8 for a limit, 2 for every other refusal
abbrev pub refusal_status : Refusal → ℕ
refusal_status (refusal.TooManyTokens count limit) = 8
refusal_status (refusal.FileTooLong count limit) = 8
refusal_status (refusal.TooLarge what count limit) = 8
refusal_status r = 2
