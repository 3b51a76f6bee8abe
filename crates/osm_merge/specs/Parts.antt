-- The parts of a save text that are merged with net changes one after the other.
use Rattle.std.specs.Prelude.{◌≡◌, ℕ, ◌+◌, ◌*◌, ◌++◌, List, [], ◌∷◌, length, map, codes, decimal}
use Rattle.std.specs.Prelude.{Bool, true, false, Option, None, Some, Result, IfErr, IfOk, OnOk}
use Rattle.osm_mirror.specs.Mirror.{Counted, MirrorValue}
use Rattle.osm_model.specs.Change.{ChangeValue}
use Rattle.osm_net.specs.Laid.{added, laid_on, laid_over}
use Rattle.osm_net.specs.Net.{NetValue}
use Rattle.osm_opl.specs.Written.{line_text}
use Rattle.osm_save.specs.Head.{most_counted}
use Rattle.osm_save.specs.Lines.{ended}
use Rattle.osm_save.specs.Reading.{counts_at, items_at, mirror_at, numbered_at, objects_at}
use Rattle.osm_save.specs.Save.{count_text, most_objects, saved_with}
use Rattle.osm_save.specs.declared.save.Saved.{Saved}
use Rattle.osm_store.specs.Frames.{StoreState}
use Rattle.osm_blocks.specs.Calls.{Advances, puts_of}
use Rattle.osm_blocks.specs.Frames.{ReadsOften}
use Rattle.osm_blocks.specs.Places.{HasFile, Place, left_of}
use Rattle.osm_blocks.specs.Writing.{Waiting}
use Rattle.osm_merge.specs.Calls.{calls_ahead}
use Rattle.osm_merge.specs.Faults.{IsDeviceFault}
use Rattle.osm_merge.specs.Laying.{Writes}
use Rattle.osm_merge.specs.Mirrors.{both_at, both_text, end_at, lists_text, totals_of}
use Rattle.osm_merge.specs.Reading.{Refuses}
use Rattle.osm_merge.specs.declared.fault.MergeFault.{MergeFault}
use Rattle.osm_merge.specs.declared.lists.Totals.{Totals}
use Rattle.osm_merge.specs.declared.opening.Opening.{Opening}

-- a part: how it is read, what its reading says if a value is read and those bytes are left, what
-- is given and what is written for the value, whether the file ends with the part, and how many
-- calls the appends take beside one for each line, if an append takes so many
pub record Part (A R T : Type 0) : Type 0 where
  pub reading : List ℕ → Option R
  pub is_read : A → List ℕ → R
  pub gives : A → T
  pub text : A → List ℕ
  pub ends : Bool
  pub appends : ℕ → ℕ

-- the calls that are ahead at most after a part
abbrev pub ahead_after : Bool → Waiting → Place → List ℕ → ℕ
ahead_after true w place file = 0
ahead_after false w place file = calls_ahead w place file

-- a value was read from one place up to another, and what stands for it was given and written
pub record MergesValue {A R T : Type 0} (state : StoreState) (name : List ℕ) (part : Part A R T)
    (old new : Place) (Out : List ℕ → Type 0) (given : T) : Type 0 where
  pub value : A
  pub read : (file : List ℕ) → HasFile state name file
      → part.reading (left_of old file) ≡ Some (part.is_read value (left_of new file))
  pub given_is : given ≡ part.gives value
  pub out : Out (part.text value)

-- a part of the file of that name was merged, or why it wasn't, and how many calls it took
pub record MergesPart {A R T : Type 0} (name : List ℕ) (part : Part A R T)
    (result : Result T MergeFault) (before : StoreState) (old : Place) (w : Waiting)
    (after : StoreState) (new : Place) (v : Waiting) : Type 0 where
  pub merges : IfOk result (MergesValue before name part old new (Writes before w after v))
  pub refused : IfErr result (Refuses before name old part.reading)
  pub frame : ReadsOften IsDeviceFault before after result
  pub calls : (file : List ℕ) → HasFile before name file → Advances IsDeviceFault
      (calls_ahead w old file + part.appends (puts_of w)) (λ _. ahead_after part.ends w new file)
      before after result
  pub keeps : OnOk result (v.is_writing ≡ w.is_writing)

-- the first line of a list, written with another number
abbrev pub header_part : List ℕ → ℕ → ℕ → Part ℕ (ℕ × List ℕ) ℕ
header_part word most total = record {
  reading = numbered_at word most;
  is_read = λ n rest. (n, rest);
  gives = λ n. n;
  text = λ n. ended ((word ++ decimal total) ∷ []);
  ends = false;
  appends = λ each. 0;
}

-- so many lines of a list, with changes laid over their values
abbrev pub lines_part : {E X K : Type 0} → (List E → List X → List X) → (X → List ℕ) → (X → K)
    → (Option K → List ℕ → Option X) → List E → ℕ → Part (List X) (List X × List ℕ) ℕ
lines_part lay line key item es many = record {
  reading = items_at key item many None;
  is_read = λ xs rest. (xs, rest);
  gives = λ xs. length (lay es xs);
  text = λ xs. ended (map line (lay es xs));
  ends = false;
  appends = λ each. each;
}

-- a list that is read so: its first line and the others
abbrev pub list_part : {E X : Type 0} → (List E → List X → List X) → (X → List ℕ) → List ℕ → ℕ
    → List E → (List ℕ → Option (List X × List ℕ)) → Part (List X) (List X × List ℕ) ℕ
list_part lay line word total es list_at = record {
  reading = list_at;
  is_read = λ xs rest. (xs, rest);
  gives = λ xs. length (lay es xs);
  text = λ xs. ended ((word ++ decimal total) ∷ map line (lay es xs));
  ends = false;
  appends = λ each. each;
}

-- the list of objects
abbrev pub objects_part : Totals → Opening → NetValue
    → Part (List ChangeValue) (List ChangeValue × List ℕ) ℕ
objects_part t o n = list_part laid_over line_text (codes "objects ") t.objects n.objects
    (objects_at o.filter (most_objects o.version o.head.number))

-- a list of counts
abbrev pub counts_part : List ℕ → ℕ → ℕ → List Counted
    → Part (List Counted) (List Counted × List ℕ) ℕ
counts_part word most total more = list_part added count_text word total more (counts_at word most)

-- the last line
abbrev pub end_part : Part (Unit {0}) (Unit {0}) (Unit {0})
end_part = record {
  reading = end_at;
  is_read = λ x rest. tt;
  gives = λ x. tt;
  text = λ x. codes "end" ++ 10 ∷ [];
  ends = true;
  appends = λ each. 0;
}

-- both lists of counts, and the last line
abbrev pub both_part : Totals → Opening → NetValue
    → Part (List Counted × List Counted) (List Counted × List Counted) (ℕ × ℕ)
both_part t o n = record {
  reading = both_at (most_counted o.head);
  is_read = λ x rest. x;
  gives = λ x. (length (added n.users x.0), length (added n.changesets x.1));
  text = λ x. both_text t.users t.changesets (added n.users x.0) (added n.changesets x.1);
  ends = true;
  appends = λ each. 2 * each;
}

-- all lists of a mirror, and the last line
abbrev pub mirror_part : Totals → Opening → NetValue → Part MirrorValue Saved Totals
mirror_part t o n = record {
  reading = mirror_at o.version o.head o.filter;
  is_read = λ m rest. saved_with o.head o.filter m;
  gives = λ m. totals_of (laid_on n m);
  text = λ m. lists_text t (laid_on n m);
  ends = true;
  appends = λ each. 3 * each;
}
