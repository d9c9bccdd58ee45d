-- The steps of a replay that is asked for are in range.
use Rattle.std.proofs.Common.{◌≡◌, ◌≤◌, ℕ, Bool, true, false, ◌&&◌, nat_le, List, [], ◌∷◌, Option, Some, None, if◌then◌else◌, refl, codes}
use Rattle.std.proofs.lemmas.Bool.{leb-true}
use Rattle.clap.specs.Faults.{fault_of}
use Rattle.clap.specs.Kinds.{Kinds}
use Rattle.clap.specs.Simple.{matches_of}
use Rattle.clap.specs.Walk.{Row, first_of}
use Rattle.clap.specs.declared.error.kind.ErrorKind.{ErrorKind}
use Rattle.clap.specs.declared.error.kind.ErrorKind.TheVariants as kind
use Rattle.cli_words.specs.declared.words.commands.Format.{Format}
use Rattle.cli_words.specs.declared.words.reading.OptionValues.{OptionValues}
use Rattle.cli_words.specs.Numerals.{Bytes, plain_number}
use Rattle.cli_words.specs.Words.CommandLine.{command_app}
use Rattle.cli_words.specs.Words.Requests.{CommandView, Asked, Check, Load, Prove, Replay, Refused, in_range, values_of, values_in, gate_in, verify_in, certificate_verb, verb_of, command_in, text_in, is_text, asked_with, asked_by_kind, asked_by_kinds, asked}

abbrev AtMost : ℕ → Option ℕ → Type 0
AtMost most None = Unit {0}
AtMost most (Some n) = n ≤ most

in_most : (least most : ℕ) (o : Option ℕ) → AtMost most (in_range least most o)
in_most least most None = tt
in_most least most (Some n) = by (nat_le n most) refl (nat_le least n)
  where
    by : (b : Bool) → nat_le n most ≡ b → (a : Bool) → AtMost most (if a && b then Some n else None)
    by true e true = leb-true n most e
    by false e true = tt
    by b e false = tt

abbrev HasFewSteps : Option OptionValues → Type 0
HasFewSteps None = Unit {0}
HasFewSteps (Some v) = v.steps ≤ 1000000

few_steps : (form : Option Format) (turns : Option (Option ℕ)) (seed count steps : Option ℕ) → AtMost 1000000 steps → HasFewSteps (values_of form turns seed count steps)
few_steps (Some form) (Some turns) (Some seed) (Some count) (Some steps) h = h
few_steps _ _ _ _ _ h = tt

-- what is asked for, where it is a replay, has steps in range
abbrev pub HasSteps : Asked → Type 0
HasSteps (Replay c draws) = c.steps ≤ 1000000
HasSteps _ = Unit {0}

either : (b : Bool) (x y : Asked) → HasSteps x → HasSteps y → HasSteps (if b then x else y)
either true x y h k = h
either false x y h k = k

gated : (base : Option Bytes) (c : CommandView) → HasSteps (gate_in base c)
gated None c = tt
gated (Some base) c = tt

verified : (cert : Option Bytes) (c : CommandView) → HasSteps (verify_in cert c)
verified None c = tt
verified (Some cert) c = tt

certified : (verb : Bytes) (rows : List Row) (c : CommandView) → HasSteps (certificate_verb verb rows c)
certified verb rows c =
    let cert = verify_in (first_of (codes "cert") rows) c in
    either (is_text verb (codes "prove")) (Prove c) (if is_text verb (codes "verify") then cert else Refused) tt (either (is_text verb (codes "verify")) cert Refused (verified (first_of (codes "cert") rows) c) tt)

of_verb : (verb : Bytes) (rows : List Row) (c : CommandView) → c.steps ≤ 1000000 → HasSteps (verb_of verb rows c)
of_verb verb rows c h =
    let last = certificate_verb verb rows c in
    let run = if is_text verb (codes "replay") then Replay c (first_of (codes "draws") rows) else last in
    let base = gate_in (first_of (codes "base") rows) c in
    let compared = if is_text verb (codes "gate") then base else run in
    let made = if is_text verb (codes "load") then Load c else compared in
    either (is_text verb (codes "check")) (Check c) made tt
    (either (is_text verb (codes "load")) (Load c) compared tt
    (either (is_text verb (codes "gate")) base run (gated (first_of (codes "base") rows) c)
    (either (is_text verb (codes "replay")) (Replay c (first_of (codes "draws") rows)) last h (certified verb rows c))))

with_values : (rows : List Row) (o : Option OptionValues) → HasFewSteps o → HasSteps (asked_with rows o)
with_values rows None h = tt
with_values rows (Some v) h = of_verb (text_in rows (codes "verb")) rows (command_in rows v) h

of_kind : (k : ErrorKind) → HasSteps (asked_by_kind k)
of_kind kind.DisplayHelp = tt
of_kind kind.DisplayVersion = tt
of_kind _ = tt

of_kinds : (kinds : Kinds) (rows : List Row) → HasSteps (asked_by_kinds kinds rows)
of_kinds [] rows = with_values rows (values_in rows) (few_steps _ _ _ _ _ (in_most 0 1000000 (plain_number 32 (text_in rows (codes "steps")))))
of_kinds (k ∷ []) rows = of_kind k
of_kinds (k ∷ (l ∷ ks)) rows = tt

pub steps_in_range : (words : List Bytes) → HasSteps (asked words)
steps_in_range words = of_kinds (fault_of command_app words) (matches_of command_app words)
