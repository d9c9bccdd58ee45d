-- One turn of the machine that expands a list with a stack of what is still to be read.
use Rattle.std.specs.Prelude.{ℕ, zero, suc, ◌+◌, ◌==◌, ◌&&◌, nat_le, Bool, true, false, cond, List, [], ◌∷◌, ◌++◌, length, Option, Some, None}
use Rattle.cc_base.specs.declared.diagnostics.Place.{Place}
use Rattle.c_preproc_macros.specs.declared.lexeme.Mark.{Mark}
use Rattle.c_preproc_macros.specs.declared.lexeme.Lexeme.{Lexeme}
use Rattle.c_preproc_macros.specs.declared.lexeme.Lexeme.TheVariants.{Name, Painted, Open, Close, Comma}
use Rattle.c_preproc_macros.specs.declared.pending_list.Item.{Item}
use Rattle.c_preproc_macros.specs.declared.pending_list.Item.TheVariants.{Unread, Leave}
use Rattle.c_preproc_macros.specs.declared.trouble.Trouble.TheVariants.{Spill, Arguments, TooMany}
use Rattle.c_preproc_macros.specs.Lexemes.{place_by, moved}
use Rattle.c_preproc_macros.specs.Expanding.{Rule, Setting, Outcome, look, member, put, unclosed}
use Rattle.c_preproc_macros.specs.Expanding.Outcome.{done, refused}
use Rattle.c_preproc_macros.specs.Pending.{next_open, next_close, pushed}

-- what is under way: the list that replaced a macro, or a call with the parentheses that are open in this argument,
-- what was made before the call, and the arguments that are finished
pub data Frame : Type 0 where
  inside : (name : ℕ) → Frame
  calling : (name : ℕ) → (depth : ℕ) → (outer : List Lexeme) → (finished : List (List Lexeme)) → Frame

pub record State : Type 0 where
  pub frames : List Frame
  -- the names of the replaced lists among them, which are not replaced
  pub names : List ℕ
  pub pending : List Item
  -- the place of the outermost macro name, while something is under way
  pub place : Place
  pub out : List Lexeme
  pub used : ℕ

pub data Next : Type 0 where
  more : (state : State) → Next
  ended : (outcome : Outcome (List Lexeme)) → Next

abbrev pub at_of : List Frame → Place → Option Place
at_of [] p = None
at_of (f ∷ frames) p = Some p

-- the place of what begins or is wrong at a token
abbrev pub spot : State → Place → Place
spot st own = place_by (at_of st.frames st.place) own

abbrev pub kept : Lexeme → State → Next
kept x st = more (record st { out = st.out ++ moved (at_of st.frames st.place) x ∷ [] })

abbrev pub deepened : List Frame → List Frame
deepened (calling n d outer finished ∷ frames) = calling n (suc d) outer finished ∷ frames
deepened frames = frames

abbrev pub opened : Lexeme → State → Next
opened x st = kept x (record st { frames = deepened st.frames })

abbrev pub comma_in : List Frame → Lexeme → State → Next
comma_in (calling n zero outer finished ∷ frames) x st =
    more (record st { frames = calling n zero outer (finished ++ st.out ∷ []) ∷ frames; out = [] })
comma_in frames x st = kept x st

-- the list of a macro in front of what is still to be read, if it is not too much
abbrev pub replaced : ℕ → ℕ → List Lexeme → Place → State → Next
replaced limit n made place st =
    cond (nat_le (st.used + length made) limit)
    (more (record st { frames = inside n ∷ st.frames; names = n ∷ st.names; pending = pushed made (Leave ∷ st.pending); place = place; used = st.used + length made }))
    (ended (refused (TooMany (st.used + length made)) place))

abbrev pub call_ended : Setting → Option Rule → ℕ → List (List Lexeme) → State → Next
call_ended s None n lists st = more st
call_ended s (Some r) n lists st = replaced s.limit n (put lists r.body) st.place st

abbrev pub close_in : Setting → List Frame → Lexeme → State → Next
close_in s (calling n zero outer finished ∷ frames) x st =
    call_ended s (look s.table n) n (finished ++ st.out ∷ []) (record st { frames = frames; out = outer })
close_in s (calling n (suc d) outer finished ∷ frames) x st = kept x (record st { frames = calling n d outer finished ∷ frames })
close_in s frames x st = kept x st

-- a call with so many commas, whose arguments are next, fits so many parameters
abbrev pub suits : ℕ → ℕ → List Item → Bool
suits zero commas items = (commas == 0) && next_close items
suits (suc k) commas items = commas == k

abbrev pub started : ℕ → Place → List Item → State → Next
started n place items st = more (record st { frames = calling n zero st.out [] ∷ st.frames; pending = items; place = place; out = [] })

abbrev pub call_at : ℕ → Mark → ℕ → Option ℕ → List Item → State → Next
call_at n m k None items st = ended (refused (unclosed (at_of st.frames st.place)) (spot st m.place))
call_at n m k (Some commas) items st =
    cond (suits k commas items) (started n (spot st m.place) items st) (ended (refused Arguments (spot st m.place)))

-- at the name of a function-like macro, before these items
abbrev pub function_at : ℕ → Mark → ℕ → List Item → State → Next
function_at n m k [] st = kept (Name n m) st
function_at n m k (Leave ∷ items) st = cond (next_open items) (ended (refused Spill (spot st m.place))) (kept (Name n m) st)
function_at n m k (Unread (Open o) commas ∷ items) st = call_at n m k commas items st
function_at n m k (Unread x commas ∷ items) st = kept (Name n m) st

abbrev pub macro_at : Setting → ℕ → Mark → Rule → Option ℕ → State → Next
macro_at s n m r None st = replaced s.limit n (put [] r.body) (spot st m.place) st
macro_at s n m r (Some k) st = function_at n m k st.pending st

abbrev pub name_at : Setting → ℕ → Mark → Option Rule → Bool → State → Next
name_at s n m None is_hidden st = kept (Name n m) st
name_at s n m (Some r) true st = kept (Painted n m) st
name_at s n m (Some r) false st = macro_at s n m r r.parameters st

abbrev pub token_at : Setting → Lexeme → State → Next
token_at s (Name n m) st = name_at s n m (look s.table n) (member n st.names) st
token_at s (Open m) st = opened (Open m) st
token_at s (Close m) st = close_in s st.frames (Close m) st
token_at s (Comma m) st = comma_in st.frames (Comma m) st
token_at s x st = kept x st

abbrev pub left_frames : List Frame → List Frame
left_frames [] = []
left_frames (f ∷ frames) = frames

abbrev pub left_names : List ℕ → List ℕ
left_names [] = []
left_names (n ∷ names) = names

abbrev pub item_at : Setting → List Item → State → Next
item_at s [] st = ended (done st.out st.used)
item_at s (Leave ∷ items) st = more (record st { frames = left_frames st.frames; names = left_names st.names; pending = items })
item_at s (Unread x commas ∷ items) st = token_at s x (record st { pending = items })

-- one turn
abbrev pub turned : Setting → State → Next
turned s st = item_at s st.pending st
