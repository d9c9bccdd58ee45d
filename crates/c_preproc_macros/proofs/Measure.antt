-- The turns of the machine end: each takes something of what replacements may still make and of what is still to be read.
use Rattle.std.proofs.Common.{◌≡◌, ℕ, zero, suc, ◌+◌, ◌-◌, ◌*◌, ◌<◌, ◌≤◌, nat_le, Bool, true, false, cond, List, [], ◌∷◌, ◌++◌, length, Option, Some, None, refl, arith}
use Rattle.std.proofs.lemmas.Bool.{leb-true}
use Rattle.cc_base.specs.declared.diagnostics.Place.{Place}
use Rattle.c_preproc_macros.specs.declared.lexeme.Mark.{Mark}
use Rattle.c_preproc_macros.specs.declared.lexeme.Lexeme.{Lexeme}
use Rattle.c_preproc_macros.specs.declared.lexeme.Lexeme.TheVariants.{Name, Open, Close, Comma}
use Rattle.c_preproc_macros.specs.declared.pending_list.Item.{Item}
use Rattle.c_preproc_macros.specs.declared.pending_list.Item.TheVariants.{Unread, Leave}
use Rattle.c_preproc_macros.specs.declared.trouble.Trouble.TheVariants.{Spill, Arguments, TooMany}
use Rattle.c_preproc_macros.specs.Lexemes.{place_by}
use Rattle.c_preproc_macros.specs.Expanding.{Rule, Setting, Outcome, look, member, put}
use Rattle.c_preproc_macros.specs.Expanding.Outcome.{refused}
use Rattle.c_preproc_macros.specs.Pending.{next_open, pushed}
use Rattle.c_preproc_macros.specs.Machine.{Frame, State, Next, at_of, kept, comma_in, call_ended, close_in, suits, started, call_at, function_at, macro_at, name_at, token_at, item_at, turned}
use Rattle.c_preproc_macros.specs.Machine.Frame.{inside, calling}
use Rattle.c_preproc_macros.specs.Machine.Next.{more, ended}

abbrev pub weight : List Item → ℕ
weight [] = 0
weight (Unread x commas ∷ items) = suc (suc (weight items))
weight (Leave ∷ items) = suc (weight items)

abbrev pub measure : Setting → State → ℕ
measure s st = 2 * (s.limit - st.used) + weight st.pending

abbrev pub Falls : Setting → ℕ → Next → Type 0
Falls s m (more st) = measure s st < m
Falls s m (ended o) = Unit {0}

weight-pushed : (list : List Lexeme) (items : List Item) → weight (pushed list items) ≡ 2 * length list + weight items
weight-pushed [] items = omega arith
weight-pushed (x ∷ xs) items = let e : weight (pushed xs items) ≡ 2 * length xs + weight items = weight-pushed xs items in omega arith

-- before items of this weight
module _ (s : Setting) (c w : ℕ) where
  abbrev before : ℕ
  before = 2 * (s.limit - c) + suc (suc w)

replaced-falls : (s : Setting) (c w : ℕ) (n : ℕ) (made : List Lexeme) (frames : List Frame) (names : List ℕ) (items : List Item) (place : Place) (out : List Lexeme) (o : Outcome (List Lexeme)) → weight items ≤ w → (b : Bool) → nat_le (c + length made) s.limit ≡ b
    → Falls s (before s c w) (cond b (more (record { frames = frames; names = names; pending = pushed made (Leave ∷ items); place = place; out = out; used = c + length made })) (ended o))
replaced-falls s c w n made frames names items place out o h true e =
    let fit : c + length made ≤ s.limit = leb-true (c + length made) s.limit e in
    let weighs : weight (pushed made (Leave ∷ items)) ≡ 2 * length made + suc (weight items) = weight-pushed made (Leave ∷ items) in
    omega arith
replaced-falls s c w n made frames names items place out o h false e = tt

ended-falls : (s : Setting) (c w : ℕ) (rule : Option Rule) (n : ℕ) (lists : List (List Lexeme)) (frames : List Frame) (names : List ℕ) (items : List Item) (p : Place) (out : List Lexeme) → weight items ≤ w
    → Falls s (before s c w) (call_ended s rule n lists (record { frames = frames; names = names; pending = items; place = p; out = out; used = c }))
ended-falls s c w None n lists frames names items p out h = omega arith
ended-falls s c w (Some r) n lists frames names items p out h =
    replaced-falls s c w n (put lists r.body) (inside n ∷ frames) (n ∷ names) items p out (refused (TooMany (c + length (put lists r.body))) p) h (nat_le (c + length (put lists r.body)) s.limit) refl

close-falls : (s : Setting) (c : ℕ) (m : Mark) (frames : List Frame) (names : List ℕ) (items : List Item) (p : Place) (out : List Lexeme)
    → Falls s (before s c (weight items)) (close_in s frames (Close m) (record { frames = frames; names = names; pending = items; place = p; out = out; used = c }))
close-falls s c m [] names items p out = omega arith
close-falls s c m (inside n ∷ frames) names items p out = omega arith
close-falls s c m (calling n zero outer finished ∷ frames) names items p out = ended-falls s c (weight items) (look s.table n) n (finished ++ out ∷ []) frames names items p outer (omega arith)
close-falls s c m (calling n (suc d) outer finished ∷ frames) names items p out = omega arith

comma-falls : (s : Setting) (c : ℕ) (m : Mark) (frames : List Frame) (names : List ℕ) (items : List Item) (p : Place) (out : List Lexeme)
    → Falls s (before s c (weight items)) (comma_in frames (Comma m) (record { frames = frames; names = names; pending = items; place = p; out = out; used = c }))
comma-falls s c m [] names items p out = omega arith
comma-falls s c m (inside n ∷ frames) names items p out = omega arith
comma-falls s c m (calling n zero outer finished ∷ frames) names items p out = omega arith
comma-falls s c m (calling n (suc d) outer finished ∷ frames) names items p out = omega arith

cond-falls : (s : Setting) (m : ℕ) (b : Bool) (x y : Next) → Falls s m x → Falls s m y → Falls s m (cond b x y)
cond-falls s m true x y h k = h
cond-falls s m false x y h k = k

call-falls : (s : Setting) (c w : ℕ) (n : ℕ) (m : Mark) (k : ℕ) (commas : Option ℕ) (items : List Item) (frames : List Frame) (names : List ℕ) (pending : List Item) (p : Place) (out : List Lexeme) → suc (suc (weight items)) ≤ w
    → Falls s (before s c w) (call_at n m k commas items (record { frames = frames; names = names; pending = pending; place = p; out = out; used = c }))
call-falls s c w n m k None items frames names pending p out h = tt
call-falls s c w n m k (Some commas) items frames names pending p out h =
    cond-falls s (before s c w) (suits k commas items) (started n (place_by (at_of frames p) m.place) items (record { frames = frames; names = names; pending = pending; place = p; out = out; used = c }))
    (ended (refused Arguments (place_by (at_of frames p) m.place))) (omega arith) tt

function-falls : (s : Setting) (c : ℕ) (n : ℕ) (m : Mark) (k : ℕ) (items : List Item) (frames : List Frame) (names : List ℕ) (p : Place) (out : List Lexeme)
    → Falls s (before s c (weight items)) (function_at n m k items (record { frames = frames; names = names; pending = items; place = p; out = out; used = c }))
function-falls s c n m k [] frames names p out = omega arith
function-falls s c n m k (Leave ∷ items) frames names p out =
    cond-falls s (before s c (suc (weight items))) (next_open items) (ended (refused Spill (place_by (at_of frames p) m.place))) (kept (Name n m) (record { frames = frames; names = names; pending = Leave ∷ items; place = p; out = out; used = c })) tt (omega arith)
function-falls s c n m k (Unread (Open m1) commas ∷ items) frames names p out = call-falls s c (suc (suc (weight items))) n m k commas items frames names (Unread (Open m1) commas ∷ items) p out (omega arith)
function-falls s c n m k (Unread x commas ∷ items) frames names p out = omega arith

macro-falls : (s : Setting) (c : ℕ) (n : ℕ) (m : Mark) (r : Rule) (parameters : Option ℕ) (items : List Item) (frames : List Frame) (names : List ℕ) (p : Place) (out : List Lexeme)
    → Falls s (before s c (weight items)) (macro_at s n m r parameters (record { frames = frames; names = names; pending = items; place = p; out = out; used = c }))
macro-falls s c n m r None items frames names p out =
    replaced-falls s c (weight items) n (put [] r.body) (inside n ∷ frames) (n ∷ names) items (place_by (at_of frames p) m.place) out (refused (TooMany (c + length (put [] r.body))) (place_by (at_of frames p) m.place)) (omega arith) (nat_le (c + length (put [] r.body)) s.limit) refl
macro-falls s c n m r (Some k) items frames names p out = function-falls s c n m k items frames names p out

name-falls : (s : Setting) (c : ℕ) (n : ℕ) (m : Mark) (rule : Option Rule) (b : Bool) (items : List Item) (frames : List Frame) (names : List ℕ) (p : Place) (out : List Lexeme)
    → Falls s (before s c (weight items)) (name_at s n m rule b (record { frames = frames; names = names; pending = items; place = p; out = out; used = c }))
name-falls s c n m None b items frames names p out = omega arith
name-falls s c n m (Some r) true items frames names p out = omega arith
name-falls s c n m (Some r) false items frames names p out = macro-falls s c n m r r.parameters items frames names p out

token-falls : (s : Setting) (c : ℕ) (x : Lexeme) (items : List Item) (frames : List Frame) (names : List ℕ) (p : Place) (out : List Lexeme)
    → Falls s (before s c (weight items)) (token_at s x (record { frames = frames; names = names; pending = items; place = p; out = out; used = c }))
token-falls s c (Name n m) items frames names p out = name-falls s c n m (look s.table n) (member n names) items frames names p out
token-falls s c (Open m) items frames names p out = omega arith
token-falls s c (Close m) items frames names p out = close-falls s c m frames names items p out
token-falls s c (Comma m) items frames names p out = comma-falls s c m frames names items p out
token-falls s c x items frames names p out = omega arith

item-falls : (s : Setting) (c : ℕ) (items : List Item) (frames : List Frame) (names : List ℕ) (p : Place) (out : List Lexeme)
    → Falls s (2 * (s.limit - c) + weight items) (item_at s items (record { frames = frames; names = names; pending = items; place = p; out = out; used = c }))
item-falls s c [] frames names p out = tt
item-falls s c (Leave ∷ items) frames names p out = omega arith
item-falls s c (Unread x commas ∷ items) frames names p out = token-falls s c x items frames names p out

pub turned-falls : (s : Setting) (st : State) → Falls s (measure s st) (turned s st)
turned-falls s st = item-falls s st.used st.pending st.frames st.names st.place st.out
