-- The lines of a save text after its head: those of its objects, and the others.
use Rattle.std.specs.Prelude.{◌≡◌, ℕ, ◌≤◌, List, [], ◌∷◌, ◌++◌, codes, drop, length, map}
use Rattle.osm_model.specs.Change.{ChangeValue}
use Rattle.osm_mirror.specs.Mirror.{MirrorValue}
use Rattle.osm_opl.specs.Written.{line_text}
use Rattle.osm_save.specs.Head.{head_of}
use Rattle.osm_save.specs.Lines.{ended, list_lines}
use Rattle.osm_save.specs.Save.{SpellsSave, count_text}
use Rattle.osm_save.specs.declared.save.Saved.{Saved}
use Rattle.osm_asking.specs.declared.opening.Opened.{Opened}

-- the lines after those of the objects, without their ends: the counts, and `end`
abbrev pub lines_after : MirrorValue → List (List ℕ)
lines_after m =
    list_lines (codes "users ") count_text m.users
    ++ list_lines (codes "changesets ") count_text m.changesets
    ++ codes "end"
    ∷ []

-- the lines of some of the objects, and those after them
abbrev pub lines_from : List ChangeValue → MirrorValue → List ℕ
lines_from objects m = ended (map line_text objects ++ lines_after m)

-- the bytes are the save text of that, and from that place on it has the lines of its objects
pub record HasLines (file : List ℕ) (place : ℕ) (v : Saved) : Type 0 where
  pub spells : SpellsSave file v
  pub within : place ≤ length file
  pub lines : drop place file ≡ lines_from v.mirror.objects v.mirror

-- what a file begins with, if it is a save text
pub record IsOpening (file : List ℕ) (opened : Opened) (v : Saved) : Type 0 where
  pub head : head_of v ≡ opened.head
  pub filter : v.filter ≡ opened.filter
  pub objects : length v.mirror.objects ≡ opened.objects
  pub lines : HasLines file opened.place v
