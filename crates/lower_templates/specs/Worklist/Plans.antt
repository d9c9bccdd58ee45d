-- The works of one turn, in order, and the numbers that were given away.
use Rattle.std.specs.Prelude.{ℕ, ◌+◌, List, [], ◌∷◌, ◌++◌, map}
use Rattle.cc_base.specs.declared.diagnostics.Place.{Place}
use Rattle.c_layout.specs.declared.checked_tree.checked_terms.ObjectRef.{ObjectRef}
use Rattle.c_layout.specs.declared.checked_tree.checked_terms.ObjectRef.TheVariants as object
use Rattle.lower_templates.specs.declared.worklist.template_builder.Builder.{Builder}
use Rattle.lower_templates.specs.declared.worklist.template_builder.Dispatch.{Dispatch}
use Rattle.lower_templates.specs.Worklist.Acts.{Act}
use Rattle.lower_templates.specs.Worklist.Pieces.{NameView, Local, Static, name_view, ExitView, Do, End, Mark}
use Rattle.lower_templates.specs.Worklist.Works.{Job, job, Ready}

pub record Plan : Type 0 where
  pub jobs : List Job
  pub names : List NameView
  pub labels : ℕ
  pub scopes : ℕ
  pub dispatches : List Dispatch

abbrev pub plan : Builder → Plan
plan b = record { jobs = map job b.works.items; names = map name_view b.names.items; labels = b.labels; scopes = b.scopes; dispatches = b.dispatches.items }

unfoldable pub with_work : Job → Plan → Plan
with_work j p = record p { jobs = p.jobs ++ j ∷ [] }

unfoldable pub with_name : NameView → Plan → Plan
with_name n p = record p { names = p.names ++ n ∷ [] }

unfoldable pub with_labels : ℕ → Plan → Plan
with_labels count p = record p { labels = p.labels + count }

unfoldable pub with_scope : Plan → Plan
with_scope p = record p { scopes = p.scopes + 1 }

unfoldable pub with_dispatch : Dispatch → Plan → Plan
with_dispatch d p = record p { dispatches = p.dispatches ++ d ∷ [] }

-- an instruction that does not end its block
abbrev pub done : Place → Act → Plan → Plan
done at a p = with_work (Ready (Do (record { at = at; does = a }))) p

-- one that does, and the edges of the block
abbrev pub ended : Place → Act → List ExitView → Plan → Plan
ended at a exits p = with_work (Ready (End (record { at = at; does = a }) exits)) p

-- a label
abbrev pub begun : ℕ → Plan → Plan
begun label p = with_work (Ready (Mark label)) p

abbrev pub name_of_object : ObjectRef → NameView
name_of_object (object.Static n) = Static n
name_of_object (object.Local n) = Local n
