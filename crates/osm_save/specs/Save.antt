-- The save text: a follower's base, number and time, its filter, its mirror and its counts (our
-- choice).
use Rattle.std.specs.Prelude.{◌≡◌, ℕ, ◌*◌, ◌≤◌, List, [], ◌∷◌, ◌++◌, length, codes, decimal}
use Rattle.osm_model.specs.Filter.{AreKept, FilterValue, IsFilter}
use Rattle.osm_model.specs.Limits.{max_changes}
use Rattle.osm_mirror.specs.Mirror.{Counted, IsMirror, IsWithin, MirrorValue}
use Rattle.osm_opl.specs.Written.{line_text}
use Rattle.osm_save.specs.Filters.{TellsFilter}
use Rattle.osm_save.specs.Head.{IsHeadIn, head_lines, head_of, most_counted}
use Rattle.osm_save.specs.Lines.{ended, list_lines}
use Rattle.osm_save.specs.declared.head.Head.{Head}
use Rattle.osm_save.specs.declared.save.Saved.{Saved}
use Rattle.osm_save.specs.declared.version.Version.{Version}
use Rattle.osm_save.specs.declared.version.Version.TheVariants.{One, Three, Two}

-- `NUMBER COUNT`
abbrev pub count_text : Counted → List ℕ
count_text e = decimal e.0 ++ 32 ∷ decimal e.1

-- the lines of a save text of that version, without their ends
unfoldable pub save_lines : Version → Saved → List (List ℕ)
save_lines version v =
    head_lines version (head_of v) v.filter
    ++ list_lines (codes "objects ") line_text v.mirror.objects
    ++ list_lines (codes "users ") count_text v.mirror.users
    ++ list_lines (codes "changesets ") count_text v.mirror.changesets
    ++ codes "end"
    ∷ []

-- the one text of that version of what is saved
unfoldable pub save_text : Version → Saved → List ℕ
save_text version v = ended (save_lines version v)

-- what is saved with that head, of a mirror under that filter
abbrev pub saved_with : Head → FilterValue → MirrorValue → Saved
saved_with head f mirror = record {
  number = head.number;
  base = head.base;
  time = head.time;
  filter = f;
  mirror = mirror;
}

-- the most objects: in version 1 as many as the sequences up to the number can have edits, and from
-- version 2 on 18 digits of them, more than a memory of 2^64 bytes can hold
abbrev pub most_objects : Version → ℕ → ℕ
most_objects One number = max_changes * number
most_objects Two number = 999999999999999999
most_objects Three number = 999999999999999999

-- what a text of that version can save: objects that the filter keeps; and of users, of changesets
-- and in a count no more than the sequences after the base can have edits
pub record IsSavable (version : Version) (v : Saved) : Type 0 where
  pub head : IsHeadIn version (head_of v)
  pub filter : IsFilter v.filter
  pub tells : TellsFilter version v.filter
  pub mirror : IsMirror v.mirror
  pub kept : AreKept v.filter v.mirror.objects
  pub within : IsWithin (most_counted (head_of v)) v.mirror
  pub objects : length v.mirror.objects ≤ most_objects version v.number

-- the bytes are the save text, of some version, of something that it can save
pub record SpellsSave (bytes : List ℕ) (v : Saved) : Type 0 where
  pub version : Version
  pub savable : IsSavable version v
  pub text : bytes ≡ save_text version v
