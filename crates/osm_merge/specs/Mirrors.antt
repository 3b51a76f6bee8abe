-- The lists of a save text after its objects, and its end, as they are read.
use Rattle.std.specs.Prelude.{◌≡◌, ℕ, ◌==◌, List, [], ◌∷◌, ◌++◌, length, map, codes, decimal}
use Rattle.std.specs.Prelude.{if◌then◌else◌, Option, None, Some, Result, Ok, Err}
use Rattle.osm_mirror.specs.Mirror.{Counted, MirrorValue}
use Rattle.osm_opl.specs.Written.{line_text}
use Rattle.osm_save.specs.Lines.{ended}
use Rattle.osm_save.specs.Save.{count_text}
use Rattle.osm_merge.specs.declared.lists.Totals.{Totals}
use Rattle.osm_reading.specs.Answers.{and_then}
use Rattle.osm_save.specs.Reading.{counts_at, fixed_at}
use Rattle.osm_merge.specs.Reading.{LineStops}
use Rattle.osm_merge.specs.declared.fault.MergeFault.{MergeFault}

-- `end`, and nothing after it
unfoldable pub end_at : List ℕ → Option (Unit {0})
end_at bytes =
    and_then (fixed_at (codes "end") bytes) (λ rest.
    if length rest == 0 then Some tt else None)

-- the counts of users and of changesets, each at most `most`, and `end`
unfoldable pub both_at : ℕ → List ℕ → Option (List Counted × List Counted)
both_at most bytes =
    and_then (counts_at (codes "users ") most bytes) (λ u.
    and_then (counts_at (codes "changesets ") most u.1) (λ s.
    and_then (end_at s.1) (λ e. Some (u.0, s.0))))

-- the end is there, or why not
abbrev pub Closes : List ℕ → Result (Unit {0}) MergeFault → Option (Unit {0}) → Type 0
Closes file (Ok x) reading = reading ≡ Some tt
Closes file (Err fault) reading = LineStops file fault reading

-- how many objects, users and changesets a mirror has
abbrev pub totals_of : MirrorValue → Totals
totals_of m = record {
  objects = length m.objects;
  users = length m.users;
  changesets = length m.changesets;
}

-- the text of the lists of counts under those numbers, and of `end`
abbrev pub both_text : ℕ → ℕ → List Counted → List Counted → List ℕ
both_text users_many changesets_many users changesets =
    ended ((codes "users " ++ decimal users_many) ∷ map count_text users)
    ++ (ended ((codes "changesets " ++ decimal changesets_many) ∷ map count_text changesets)
    ++ (codes "end" ++ 10 ∷ []))

-- the text of all lists under those numbers, and of `end`
abbrev pub lists_text : Totals → MirrorValue → List ℕ
lists_text given m =
    ended ((codes "objects " ++ decimal given.objects) ∷ map line_text m.objects)
    ++ both_text given.users given.changesets m.users m.changesets
