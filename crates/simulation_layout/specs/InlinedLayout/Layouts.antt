-- How templates are laid out in a program: each piece of a copy at its place, and each call as a copy in its own place.
use Rattle.std.specs.Prelude.{◌≡◌, ◌⊎◌, ℕ, suc, ◌+◌, ℤ, Bool, true, false, List, [], ◌∷◌, Option, Some, None, slice_get}
use Rattle.cc_base.specs.declared.diagnostics.Place.{Place}
use Rattle.c_layout.specs.declared.shapes.BaseInfo.{BaseInfo}
use Rattle.c_layout.specs.declared.shapes.BaseKind.TheVariants as kind
use Rattle.cfg.specs.declared.flow_edges.Side.{Side}
use Rattle.cfg.specs.declared.flow_edges.Side.TheVariants as side
use Rattle.cfg.specs.declared.flow_edges.Test.{Test}
use Rattle.cfg.specs.declared.machine_instructions.Scalar as declared
use Rattle.memory_model.specs.Effects.UnitStarts.{literal_instance, entry_parameters}
use Rattle.lower_templates.specs.Worklist.Acts as acts
use Rattle.lower_templates.specs.Worklist.Acts.{Act, Step}
use Rattle.lower_templates.specs.Worklist.Pieces.{NameView, Literal, Way, Always, When, Case, Other, NoLine, Line, ExitView, PieceView, Do, DoIfUsed, End, Mark, Call}
use Rattle.lower_templates.specs.declared.worklist.template_pieces.OwnCall.{OwnCall}
use Rattle.lower_templates.specs.Views.ProgramViews.{EdgeView}
use Rattle.semantics.specs.CfgMachine.FlowEdges.{edges_of}
use Rattle.semantics.specs.CfgMachine.FlowStarts.{start_names}
use Rattle.semantics.specs.CfgMachine.FlowSteps.{block_of}
use Rattle.semantics.specs.SourceMachine.SourceRuns.{name_parameters}
use Rattle.simulation_layout.specs.InlinedLayout.Shifts.{put_shifted, named_base, shifted}
use Rattle.simulation_layout.specs.InlinedLayout.Copies.{Inlined, Copy, IsCopy, AllApart, IsThere, IsObject, IsLiteral, name_of, IsBase, IsOwnBase, IsSwitchedObject}

-- ---- instructions

-- an instruction of the program at a place: the number of a block, and that of the instruction in it
abbrev pub Stands : Inlined → ℕ → ℕ → Step → Type 0
Stands o block at s = slice_get (block_of o.program block).steps at ≡ Some s

-- a literal is pointed to at its start
abbrev pub IsAtStart : Option NameView → ℕ → Type 0
IsAtStart (Some (Literal n)) offset = offset ≡ 0
IsAtStart name offset = Unit {0}

abbrev pub PointsWell : Inlined → Copy → Act → Type 0
PointsWell o c (acts.Address to base offset) = IsAtStart (name_of o c base) offset
PointsWell o c a = Unit {0}

-- an instruction of the copy's template stands there
pub record IsPut (o : Inlined) (c : Copy) (at : Place) (a : Act) (block place : ℕ) : Type 0 where
  pub base : ℕ
  pub is_base : IsOwnBase o c (named_base a) base
  pub points : PointsWell o c a
  pub stands : Stands o block place (record { at = at; does = shifted c.depth base a })

-- ---- edges

pub data IsSide (o : Inlined) (c : Copy) : Side → Side → Type 0 where
  object : (n b : ℕ) (k : declared.Scalar) → IsBase o c n b → IsSide o c (side.Object n k) (side.Object b k)
  number : (n : ℤ) → IsSide o c (side.Number n) (side.Number n)
  nothing : IsSide o c side.Null side.Null

pub data IsTest (o : Inlined) (c : Copy) : Option Test → Option Test → Type 0 where
  none : IsTest o c None None
  some : (t : Test) (left right : Side) → IsSide o c t.left left → IsSide o c t.right right → IsTest o c (Some t) (Some (record { left = left; rel = t.rel; right = right; common = t.common }))

pub data IsCaseObject (o : Inlined) (c : Copy) : Option ℕ → Option ℕ → Type 0 where
  none : IsCaseObject o c None None
  some : (n b : ℕ) → IsBase o c n b → IsSwitchedObject o c n b → IsCaseObject o c (Some n) (Some b)

-- when an edge is taken and what it does, in the template and in the program
pub data IsWay (o : Inlined) (c : Copy) : Way → Way → Type 0 where
  always : IsWay o c Always Always
  when : (truth : Bool) (test moved : Option Test) (puts : Option (ℕ × ℤ)) → IsTest o c test moved → IsWay o c (When truth test puts) (When truth moved (put_shifted c.depth puts))
  in_case : (value : ℤ) (object moved : Option ℕ) → IsCaseObject o c object moved → IsWay o c (Case (record { value = value; object = object })) (Case (record { value = value; object = moved }))
  otherwise : (values : List ℤ) → IsWay o c (Other values) (Other values)
  no_line : IsWay o c NoLine NoLine
  line : IsWay o c Line Line

-- edges lead to the blocks of the copy's labels
pub data AreLed (o : Inlined) (c : Copy) : List ExitView → List EdgeView → Type 0 where
  none : AreLed o c [] []
  one : (e : ExitView) (from : ℕ) (taken : Way) (es : List ExitView) (edges : List EdgeView) → IsWay o c e.taken taken → AreLed o c es edges → AreLed o c (e ∷ es) (record { from = from; to = c.labels e.to; taken = taken } ∷ edges)

abbrev pub edges_at : Inlined → ℕ → List EdgeView
edges_at o block = edges_of o.program (block_of o.program block)

-- ---- pieces

-- pieces of a copy stand from one place on to another one; around are the copies in which it stands
pub data Laid (o : Inlined) : Copy → List Copy → List PieceView → ℕ → ℕ → ℕ → ℕ → Type 0 where
  nothing : (c : Copy) (around : List Copy) (block at : ℕ) → Laid o c around [] block at block at
  does : (c : Copy) (around : List Copy) (i : Step) (ps : List PieceView) (block at end last : ℕ) → IsPut o c i.at i.does block at → Laid o c around ps block (suc at) end last → Laid o c around (Do i ∷ ps) block at end last
  -- what is done where the call's value is used has the place of the call
  used : (c : Copy) (around : List Copy) (i : Step) (ps : List PieceView) (block at end last : ℕ) → c.used ≡ true → IsPut o c c.at i.does block at → Laid o c around ps block (suc at) end last → Laid o c around (DoIfUsed i ∷ ps) block at end last
  unused : (c : Copy) (around : List Copy) (i : Step) (ps : List PieceView) (block at end last : ℕ) → c.used ≡ false → Laid o c around ps block at end last → Laid o c around (DoIfUsed i ∷ ps) block at end last
  ends : (c : Copy) (around : List Copy) (i : Step) (exits : List ExitView) (ps : List PieceView) (block at end last : ℕ) → IsPut o c i.at i.does block at → AreLed o c exits (edges_at o block) → Laid o c around ps (block + 1) 0 end last → Laid o c around (End i exits ∷ ps) block at end last
  -- a label begins a block, or a jump ends the block before
  begins : (c : Copy) (around : List Copy) (l : ℕ) (ps : List PieceView) (block end last : ℕ) → c.labels l ≡ block → Laid o c around ps block 0 end last → Laid o c around (Mark l ∷ ps) block 0 end last
  jumps : (c : Copy) (around : List Copy) (l : ℕ) (from : ℕ) (place : Place) (ps : List PieceView) (block at end last : ℕ) → c.labels l ≡ block + 1 → Stands o block at (record { at = place; does = acts.Jump }) → edges_at o block ≡ record { from = from; to = block + 1; taken = Always } ∷ [] → Laid o c around ps (block + 1) 0 end last
      → Laid o c around (Mark l ∷ ps) block at end last
  -- a copy of the called function; its temporaries begin at those of its arguments
  calls : (c : Copy) (around : List Copy) (k : OwnCall) (d : Copy) (ps : List PieceView) (block at between inner end last : ℕ) → d.function ≡ k.function → d.depth ≡ k.depth + c.depth → d.at ≡ k.place → d.used ≡ k.used → IsCopy o d → AllApart d (c ∷ around)
      → Laid o d (c ∷ around) (o.of d.function).pieces block at between inner → Laid o c around ps between inner end last → Laid o c around (Call k ∷ ps) block at end last

-- ---- whole programs

-- a base of an automatic object
pub record IsAutomatic (o : Inlined) (b : ℕ) : Type 0 where
  pub info : BaseInfo
  pub there : IsThere o b info
  pub is_automatic : info.kind ≡ kind.Automatic

-- the entry's template is laid out from the first block on, with its calls; when a run begins, bases of objects of
-- static storage and of literals name their instances, those of the entry's parameters theirs, and no other base of an
-- automatic object names any
pub record IsLaidOut (o : Inlined) (c : Copy) : Type 0 where
  pub function : c.function ≡ o.unit.entry
  pub depth : c.depth ≡ 0
  pub is_copy : IsCopy o c
  pub end : ℕ
  pub last : ℕ
  pub laid : Laid o c [] (o.of c.function).pieces 0 0 end last
  pub are_objects : (n b : ℕ) → o.objects n ≡ Some b → IsObject o n b
  pub are_literals : (n b : ℕ) → o.literals n ≡ Some b → IsLiteral o n b
  pub objects : (n b : ℕ) → o.objects n ≡ Some b → start_names o.unit o.program b ≡ Some n
  pub literals : (n b : ℕ) → o.literals n ≡ Some b → start_names o.unit o.program b ≡ Some (literal_instance o.unit n)
  pub parameters : (n b : ℕ) → c.locals n ≡ Some b → start_names o.unit o.program b ≡ name_parameters o.unit 0 (entry_parameters o.unit) n
  pub others : (b : ℕ) → IsAutomatic o b → (start_names o.unit o.program b ≡ None) ⊎ ((n : ℕ) × (c.locals n ≡ Some b))
