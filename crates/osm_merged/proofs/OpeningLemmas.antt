-- A save that was opened, up to the lines of its objects.
use Rattle.std.proofs.Common.{◌≡◌, ℕ, ◌≤◌, List, length, Option, Some, None, sym, ap, arith}
use Rattle.std.specs.Prelude.{codes}
use Rattle.osm_blocks.specs.Places.{Place, left_of}
use Rattle.osm_model.specs.Change.{ChangeValue}
use Rattle.osm_model.specs.declared.kind.Key.{Key}
use Rattle.osm_net.specs.Laid.{laid_over}
use Rattle.osm_net.specs.Net.{NetEntry}
use Rattle.osm_save.specs.Reading.{mirror_at, numbered_at}
use Rattle.osm_save.specs.Save.{most_objects}
use Rattle.osm_merge.specs.Checking.{CheckStops}
use Rattle.osm_merge.specs.Opening.{IsOpened}
use Rattle.osm_merge.specs.Reading.{LineStops}
use Rattle.osm_merge.specs.declared.fault.MergeFault.{MergeFault}
use Rattle.osm_merge.specs.declared.opening.Opening.{Opening}
use Rattle.osm_merge.proofs.CallLemmas.{numbered_shorter}
use Rattle.osm_merge.proofs.CheckLemmas.{lists_stop, mirror_none}
use Rattle.osm_merge.proofs.LineLemmas.{refuses_all}
use Rattle.osm_merge.proofs.ListLemmas.{objects_none, objects_read}
use Rattle.osm_merge.proofs.OpeningLemmas.{head_longer}
use Rattle.osm_merged.specs.Ahead.{Ahead, laid_after}
use Rattle.osm_merged.specs.Opening.{BeginsMerged}

-- so many lines are next, and nothing was read of them
abbrev pub begun : List NetEntry → ℕ → Ahead NetEntry ChangeValue Key
begun es lines = record { changes = es; lines = lines; last = None; held = None }

module _ (told : Option (List ℕ)) (old : Place) (o : Opening) (most : ℕ) (opened : IsOpened told old o)
    (most_is : most ≡ most_objects o.version o.head.number) where
  pub begins_merged : (new : Place) (es : List NetEntry) (many : ℕ)
      → numbered_at (codes "objects ") most (left_of old opened.file) ≡ Some (many, left_of new opened.file)
      → BeginsMerged told es new o (begun es many)
  begins_merged new es many n = record {
    file = opened.file;
    there = opened.there;
    rest = left_of old opened.file;
    head = opened.head;
    ahead = sym (ap (laid_after laid_over es)
        (objects_read o.filter (most_objects o.version o.head.number) (left_of old opened.file) (left_of new opened.file) many (rw most_is at n)));
  }

  pub number_stops : (fault : MergeFault) → LineStops opened.file fault (numbered_at (codes "objects ") most (left_of old opened.file))
      → CheckStops told fault
  number_stops fault stops = lists_stop told old o fault opened
      (refuses_all opened.file fault (numbered_at (codes "objects ") most (left_of old opened.file))
      (mirror_at o.version o.head o.filter (left_of old opened.file)) stops
      (λ none. mirror_none o.version o.head o.filter (left_of old opened.file)
      (objects_none o.filter (most_objects o.version o.head.number) (left_of old opened.file) (rw most_is at none))))

  pub begun_shorter : (new : Place) (many : ℕ) → numbered_at (codes "objects ") most (left_of old opened.file) ≡ Some (many, left_of new opened.file)
      → length (left_of new opened.file) ≤ length opened.file
  begun_shorter new many n =
      let whole = head_longer opened.file (o.version, o.head, o.filter, left_of old opened.file) opened.head in
      let less = numbered_shorter (codes "objects ") most (left_of old opened.file) many (left_of new opened.file) n in
      omega (arith, whole, less)
