-- The whole run of the machine.
use Rattle.std.proofs.Common.{◌≡◌, ℕ, ◌<◌, Bool, true, false, List, [], Ok, Err, sym, ◌∙◌, ap, subst}
use Rattle.cc_base.specs.declared.diagnostics.Place.{Place}
use Rattle.c_preproc_macros.specs.declared.lexeme.Lexeme.{Lexeme}
use Rattle.c_preproc_macros.specs.declared.levels.Level.{Level}
use Rattle.c_preproc_macros.specs.declared.machine.Machine.{Machine}
use Rattle.c_preproc_macros.specs.declared.pending_list.Item.{Item}
use Rattle.c_preproc_macros.specs.declared.trouble.Failure.{Failure}
use Rattle.c_preproc_macros.specs.declared.trouble.Failure.TheVariants.{Refused, Memory}
use Rattle.c_preproc_macros.specs.Expanding.{Setting, Outcome, expansion}
use Rattle.c_preproc_macros.specs.Expanding.Outcome.{done}
use Rattle.c_preproc_macros.specs.Pending.{pushed}
use Rattle.c_preproc_macros.specs.Machine.{State, turned}
use Rattle.c_preproc_macros.specs.Frames.{frames_of}
use Rattle.c_preproc_macros.specs.States.{state_of, Turns, Expands}
use Rattle.c_preproc_macros.proofs.Moves.{Stands, Keeps}
use Rattle.c_preproc_macros.proofs.Turns.{turned-keeps, begins}
use Rattle.c_preproc_macros.proofs.Measure.{measure, Falls, turned-falls}

-- the machine with a text that was pushed
pub begun : (s : Setting) (text : List Lexeme) (used : ℕ) (levels : List Level) (names : List ℕ) (before items : List Item) (p : Place) (out : List Lexeme) (c : ℕ)
    → levels ≡ [] → names ≡ [] → before ≡ [] → items ≡ pushed text before → out ≡ [] → c ≡ used
    → Stands s (record { frames = frames_of levels; names = names; pending = items; place = p; out = out; used = c }) (expansion s text used)
begun s text used levels names before items p out c no_levels no_names none some no_words same =
    let items_are : items ≡ pushed text [] = some ∙ ap (pushed text) none in
    let whole : Stands s (record { frames = []; names = []; pending = pushed text []; place = p; out = []; used = used }) (expansion s text used) = begins s text p used in
    subst (λ v. Stands s (record { frames = frames_of v; names = names; pending = items; place = p; out = out; used = c }) (expansion s text used)) (sym no_levels)
    (subst (λ v. Stands s (record { frames = []; names = v; pending = items; place = p; out = out; used = c }) (expansion s text used)) (sym no_names)
    (subst (λ v. Stands s (record { frames = []; names = []; pending = v; place = p; out = out; used = c }) (expansion s text used)) (sym items_are)
    (subst (λ v. Stands s (record { frames = []; names = []; pending = pushed text []; place = p; out = v; used = c }) (expansion s text used)) (sym no_words)
    (subst (λ v. Stands s (record { frames = []; names = []; pending = pushed text []; place = p; out = []; used = v }) (expansion s text used)) (sym same) whole))))

pub goes_on : (s : Setting) (st : State) (o : Outcome (List Lexeme)) (new : Machine) (b : Bool) → Stands s st o → b ≡ true → Turns (turned s st) new (Ok b) → Stands s (state_of new) o
goes_on s st o new true h e t = subst (λ n. Keeps s n o) t (turned-keeps s st o h)
goes_on s st o new false h e t = cc

pub comes_down : (s : Setting) (st : State) (new : Machine) (b : Bool) → b ≡ true → Turns (turned s st) new (Ok b) → measure s (state_of new) < measure s st
comes_down s st new true e t = subst (λ n. Falls s (measure s st) n) t (turned-falls s st)
comes_down s st new false e t = cc

pub stopped : (s : Setting) (st : State) (o : Outcome (List Lexeme)) (new : Machine) (b : Bool) → Stands s st o → b ≡ false → Turns (turned s st) new (Ok b) → o ≡ done new.out.items new.used
stopped s st o new true h e t = cc
stopped s st o new false h e t = sym (subst (λ n. Keeps s n o) t (turned-keeps s st o h))

pub failed : (s : Setting) (st : State) (o : Outcome (List Lexeme)) (new : Machine) (f : Failure) → Stands s st o → Turns (turned s st) new (Err f) → Expands o (Err f)
failed s st o new (Refused r) h t = sym (subst (λ n. Keeps s n o) t (turned-keeps s st o h))
failed s st o new Memory h t = tt
