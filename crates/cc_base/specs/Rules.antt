-- The table of the rules: the tag of each, the text of its diagnostics and its words in the help.
use Rattle.std.specs.Prelude.{ℕ, Bool, true, false, List, [], ◌∷◌, Option, codes, find, bytes_eq}
use Rattle.cc_base.specs.declared.diagnostics.Rule.{Rule}
use Rattle.cc_base.specs.declared.diagnostics.Rule.TheVariants.{Accfree, Boolasgn, Chrsgnext, Dblfree, Diverr, Insufmem, Intoflow, Invptr, Libptr, Nonnullcs, Nullref, Ptrobj, Sizeofptr, Strmod, Swtchdflt, Taintsink, Uninitref, Xfree}
use Rattle.cc_base.specs.declared.rule_table.RuleWords.{RuleWords}

pub record Words : Type 0 where
  pub tag : List ℕ
  pub text : List ℕ
  pub help : List ℕ
  -- whether the rule is on the text alone, not on runs
  pub on_text : Bool

abbrev pub words_view : RuleWords → Words
words_view w = record { tag = w.tag.now; text = w.text.now; help = w.help.now; on_text = w.on_text }

-- what is printed of a rule
abbrev pub words_of : Rule → Words
words_of Accfree = record { tag = codes "accfree"; text = codes "freed memory is used"; help = codes "freed memory is used"; on_text = false }
words_of Boolasgn = record { tag = codes "boolasgn"; text = codes "assignment stands as a condition"; help = codes "an assignment is used as a condition"; on_text = true }
words_of Chrsgnext = record { tag = codes "chrsgnext"; text = codes "character argument is out of range"; help = codes "a character function gets an argument outside its range"; on_text = false }
words_of Dblfree = record { tag = codes "dblfree"; text = codes "memory is freed twice"; help = codes "memory is freed twice"; on_text = false }
words_of Diverr = record { tag = codes "diverr"; text = codes "division is undefined"; help = codes "a division is undefined"; on_text = false }
words_of Insufmem = record { tag = codes "insufmem"; text = codes "allocation is too small for its type"; help = codes "an allocation is too small for its type"; on_text = false }
words_of Intoflow = record { tag = codes "intoflow"; text = codes "signed result is out of range"; help = codes "a signed result is out of range"; on_text = false }
words_of Invptr = record { tag = codes "invptr"; text = codes "pointer is out of bounds"; help = codes "a pointer is out of bounds"; on_text = false }
words_of Libptr = record { tag = codes "libptr"; text = codes "library call passes the end of an object"; help = codes "a library call passes the end of an object"; on_text = false }
words_of Nonnullcs = record { tag = codes "nonnullcs"; text = codes "string has no terminating zero"; help = codes "a string has no terminating zero"; on_text = false }
words_of Nullref = record { tag = codes "nullref"; text = codes "null or ended pointer is dereferenced"; help = codes "a null or dangling pointer is dereferenced"; on_text = false }
words_of Ptrobj = record { tag = codes "ptrobj"; text = codes "pointers into different objects"; help = codes "pointers into different objects are compared or subtracted"; on_text = false }
words_of Sizeofptr = record { tag = codes "sizeofptr"; text = codes "sizeof is taken of a pointer"; help = codes "sizeof is applied to a pointer"; on_text = true }
words_of Strmod = record { tag = codes "strmod"; text = codes "string literal is modified"; help = codes "a string literal is modified"; on_text = false }
words_of Swtchdflt = record { tag = codes "swtchdflt"; text = codes "switch has no default"; help = codes "a switch has no default"; on_text = true }
words_of Taintsink = record { tag = codes "taintsink"; text = codes "tainted value reaches a sink"; help = codes "a tainted value reaches a size or an index"; on_text = false }
words_of Uninitref = record { tag = codes "uninitref"; text = codes "uninitialized memory is read"; help = codes "uninitialized memory is read"; on_text = false }
words_of Xfree = record { tag = codes "xfree"; text = codes "memory was not allocated"; help = codes "memory that was not allocated is freed"; on_text = false }

-- the rules, in the order of their tags
abbrev pub all_rules : List Rule
all_rules = Accfree ∷ (Boolasgn ∷ (Chrsgnext ∷ (Dblfree ∷ (Diverr ∷ (Insufmem ∷ (Intoflow ∷ (Invptr ∷ (Libptr ∷ (Nonnullcs ∷ (Nullref ∷ (Ptrobj ∷ (Sizeofptr ∷ (Strmod ∷ (Swtchdflt ∷ (Taintsink ∷ (Uninitref ∷ (Xfree ∷ [])))))))))))))))))

-- the tag that is printed
abbrev pub tag_of : Rule → List ℕ
tag_of rule = (words_of rule).tag

-- the text of its diagnostics
abbrev pub text_of : Rule → List ℕ
text_of rule = (words_of rule).text

-- its words in the help
abbrev pub help_of : Rule → List ℕ
help_of rule = (words_of rule).help

abbrev pub is_on_text : Rule → Bool
is_on_text rule = (words_of rule).on_text

-- the rule that has a tag
abbrev pub rule_tagged : List ℕ → Option Rule
rule_tagged tag = find (λ rule. bytes_eq tag (tag_of rule)) all_rules
