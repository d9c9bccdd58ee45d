-- What works come to, as a tree: a piece is one, and any other work gives way to the works that it consists of. The
-- turns of a template do the same with a stack.
use Rattle.std.specs.Prelude.{◌≡◌, Bool, true, false, List, [], ◌∷◌, ◌++◌}
use Rattle.lower_templates.specs.Worklist.Pieces.{PieceView, TemplateView}
use Rattle.lower_templates.specs.Worklist.Works.{Job, Ready}
use Rattle.lower_templates.specs.Worklist.Plans.{Plan}
use Rattle.lower_templates.specs.Worklist.Settings.{SettingView}
use Rattle.lower_functions.specs.Functions.Turns.{turn, planless, Finishes}

abbrev pub is_piece : Job → Bool
is_piece (Ready q) = true
is_piece other = false

-- the works that a work consists of, and the names, labels, scopes and dispatches that are given away behind it
abbrev pub parts : SettingView → Job → Plan → Plan
parts s j p = (turn s j [] p).after

-- works, in order, come to pieces; what was given away before and behind
pub data Makes (s : SettingView) : Plan → List Job → List PieceView → Plan → Type 0 where
  nothing : (p : Plan) → Makes s p [] [] p
  piece : (p : Plan) (q : PieceView) (js : List Job) (qs : List PieceView) (r : Plan) → Makes s p js qs r → Makes s p (Ready q ∷ js) (q ∷ qs) r
  work : (p : Plan) (j : Job) (js : List Job) (ps : List PieceView) (q : Plan) (qs : List PieceView) (r : Plan) → is_piece j ≡ false → Makes s (planless (parts s j p)) (parts s j p).jobs ps q → Makes s q js qs r → Makes s p (j ∷ js) (ps ++ qs) r

-- a template has the pieces to which its works come
pub record IsDerived (s : SettingView) (p : Plan) (t : TemplateView) : Type 0 where
  pub last : Plan
  pub pieces : Makes s (planless p) p.jobs t.pieces last
  pub names : t.names ≡ last.names
  pub labels : t.labels ≡ last.labels

abbrev pub TemplatesAreDerived : Type 0
TemplatesAreDerived = (s : SettingView) (p : Plan) (t : TemplateView) → Finishes s p t → IsDerived s p t
