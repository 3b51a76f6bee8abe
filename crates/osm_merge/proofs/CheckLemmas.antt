-- What a check of all parts says of the file.
use Rattle.std.proofs.Common.{◌≡◌, ℕ, List, length, refl, sym, ap, ◌∙◌, Bool, true, false, Some, None, Option, inl}
use Rattle.std.specs.Prelude.{◌==◌, codes, if◌then◌else◌}
use Rattle.osm_blocks.specs.Places.{Place, left_of}
use Rattle.osm_mirror.specs.Mirror.{Counted, MirrorValue}
use Rattle.osm_model.specs.Change.{ChangeValue}
use Rattle.osm_model.specs.Filter.{FilterValue}
use Rattle.osm_net.specs.Laid.{laid_on}
use Rattle.osm_net.specs.Net.{NetValue, no_net}
use Rattle.osm_net.proofs.AddedLemmas.{added-no_increment}
use Rattle.osm_net.proofs.LaidLemmas.{laid_over-no_entry}
use Rattle.osm_reading.specs.Answers.{and_then}
use Rattle.osm_save.specs.Head.{head_lines, most_counted}
use Rattle.osm_save.specs.Reading.{counts_at, fixed_at, head_at, mirror_at, objects_at, save_at}
use Rattle.osm_save.specs.Save.{most_objects, save_text, saved_with}
use Rattle.osm_save.specs.declared.head.Head.{Head}
use Rattle.osm_save.specs.declared.save.Saved.{Saved}
use Rattle.osm_save.specs.declared.version.Version.{Version}
use Rattle.osm_save.proofs.HeadLemmas.{head_takes}
use Rattle.osm_save.proofs.SaveLemmas.{no_save, save_takes}
use Rattle.osm_save.proofs.TextLemmas.{ended_before, mirror_text, save_text_is}
use Rattle.osm_save.specs.declared.version.Version.TheVariants.{Three}
use Rattle.std.proofs.lemmas.Option.{same_Some}
use Rattle.osm_merge.specs.Counting.{CountsAs}
use Rattle.osm_merge.specs.Faults.{IsOfText, IsPlain}
use Rattle.osm_merge.specs.Checking.{CheckStops, IsChecked, IsCheckedWith, IsNoSave}
use Rattle.osm_merge.specs.Merging.{IsStaged, MergeStops, merged_text}
use Rattle.osm_merge.specs.Mirrors.{both_at, end_at, totals_of}
use Rattle.osm_merge.specs.Opening.{IsOpened, OpeningStops}
use Rattle.osm_merge.specs.Reading.{LineStops}
use Rattle.osm_merge.specs.declared.check.Checked.{Checked}
use Rattle.osm_merge.specs.declared.lists.Totals.{Totals}
use Rattle.osm_merge.specs.declared.opening.Opening.{Opening}
use Rattle.osm_merge.specs.declared.fault.MergeFault.{MergeFault}
use Rattle.osm_merge.specs.declared.fault.MergeFault.TheVariants.{BadSave, Changed, LongLine, NoSave, ReadFault, TooLarge, WantOfMemory, WriteFault}

abbrev saved : Head → FilterValue → List ChangeValue → List Counted → List Counted → Saved
saved head f os us ss = saved_with head f (record { objects = os; users = us; changesets = ss })

-- what follows the objects, as one reading
tail_is : (head : Head) (f : FilterValue) (os : List ChangeValue) (most : ℕ) (bytes : List ℕ)
    → and_then {A = List Counted × List ℕ} {B = Saved} (counts_at (codes "users ") most bytes) (λ u.
    and_then {A = List Counted × List ℕ} {B = Saved} (counts_at (codes "changesets ") most u.1) (λ s.
    and_then {A = List ℕ} {B = Saved} (fixed_at (codes "end") s.1) (λ rest. if length rest == 0 then Some (saved head f os u.0 s.0) else None)))
    ≡ and_then {A = List Counted × List Counted} {B = Saved} (both_at most bytes) (λ c. Some (saved head f os c.0 c.1))
unfolding both_at end_at
tail_is head f os most bytes = by_users (counts_at (codes "users ") most bytes)
  where
    by_test : (us ss : List Counted) (t : Bool) → (if t then Some (saved head f os us ss) else None)
        ≡ and_then {A = List Counted × List Counted} {B = Saved}
        (and_then {A = Unit {0}} {B = List Counted × List Counted} (if t then Some tt else None) (λ e. Some (us, ss))) (λ c. Some (saved head f os c.0 c.1))
    by_test us ss true = refl
    by_test us ss false = refl

    by_end : (us ss : List Counted) (o : Option (List ℕ))
        → and_then {A = List ℕ} {B = Saved} o (λ rest. if length rest == 0 then Some (saved head f os us ss) else None)
        ≡ and_then {A = List Counted × List Counted} {B = Saved} (and_then {A = Unit {0}} {B = List Counted × List Counted}
        (and_then {A = List ℕ} {B = Unit {0}} o (λ rest. if length rest == 0 then Some tt else None)) (λ e. Some (us, ss)))
        (λ c. Some (saved head f os c.0 c.1))
    by_end us ss None = refl
    by_end us ss (Some rest) = by_test us ss (length rest == 0)

    by_changesets : (us : List Counted) (o : Option (List Counted × List ℕ)) → and_then {A = List Counted × List ℕ} {B = Saved} o (λ s.
        and_then {A = List ℕ} {B = Saved} (fixed_at (codes "end") s.1) (λ rest. if length rest == 0 then Some (saved head f os us s.0) else None))
        ≡ and_then {A = List Counted × List Counted} {B = Saved} (and_then {A = List Counted × List ℕ} {B = List Counted × List Counted} o (λ s.
        and_then {A = Unit {0}} {B = List Counted × List Counted}
        (and_then {A = List ℕ} {B = Unit {0}} (fixed_at (codes "end") s.1) (λ rest. if length rest == 0 then Some tt else None)) (λ e. Some (us, s.0))))
        (λ c. Some (saved head f os c.0 c.1))
    by_changesets us None = refl
    by_changesets us (Some s) = by_end us s.0 (fixed_at (codes "end") s.1)

    by_users : (o : Option (List Counted × List ℕ)) → and_then {A = List Counted × List ℕ} {B = Saved} o (λ u.
        and_then {A = List Counted × List ℕ} {B = Saved} (counts_at (codes "changesets ") most u.1) (λ s.
        and_then {A = List ℕ} {B = Saved} (fixed_at (codes "end") s.1) (λ rest. if length rest == 0 then Some (saved head f os u.0 s.0) else None)))
        ≡ and_then {A = List Counted × List Counted} {B = Saved} (and_then {A = List Counted × List ℕ} {B = List Counted × List Counted} o (λ u.
        and_then {A = List Counted × List ℕ} {B = List Counted × List Counted} (counts_at (codes "changesets ") most u.1) (λ s.
        and_then {A = Unit {0}} {B = List Counted × List Counted}
        (and_then {A = List ℕ} {B = Unit {0}} (fixed_at (codes "end") s.1) (λ rest. if length rest == 0 then Some tt else None)) (λ e. Some (u.0, s.0)))))
        (λ c. Some (saved head f os c.0 c.1))
    by_users None = refl
    by_users (Some u) = by_changesets u.0 (counts_at (codes "changesets ") most u.1)

pub mirror_none : (version : Version) (head : Head) (f : FilterValue) (bytes : List ℕ) → objects_at f (most_objects version head.number) bytes ≡ None
    → mirror_at version head f bytes ≡ None
unfolding mirror_at
mirror_none version head f bytes e = rw e refl

pub mirror_tail : (version : Version) (head : Head) (f : FilterValue) (bytes after : List ℕ) (os : List ChangeValue)
    → objects_at f (most_objects version head.number) bytes ≡ Some (os, after)
    → mirror_at version head f bytes ≡ and_then {A = List Counted × List Counted} {B = Saved} (both_at (most_counted head) after)
    (λ c. Some (saved head f os c.0 c.1))
unfolding mirror_at
mirror_tail version head f bytes after os e = rw e (tail_is head f os (most_counted head) after)

pub mirror_after : (version : Version) (head : Head) (f : FilterValue) (bytes after : List ℕ) (os : List ChangeValue)
    → objects_at f (most_objects version head.number) bytes ≡ Some (os, after) → both_at (most_counted head) after ≡ None
    → mirror_at version head f bytes ≡ None
mirror_after version head f bytes after os e none = mirror_tail version head f bytes after os e
    ∙ ap (λ (o : Option (List Counted × List Counted)). and_then {A = List Counted × List Counted} {B = Saved} o (λ c. Some (saved head f os c.0 c.1))) none

pub mirror_read : (version : Version) (head : Head) (f : FilterValue) (bytes after : List ℕ) (os : List ChangeValue) (c : List Counted × List Counted)
    → objects_at f (most_objects version head.number) bytes ≡ Some (os, after) → both_at (most_counted head) after ≡ Some c
    → mirror_at version head f bytes ≡ Some (saved head f os c.0 c.1)
mirror_read version head f bytes after os c e both = mirror_tail version head f bytes after os e
    ∙ ap (λ (o : Option (List Counted × List Counted)). and_then {A = List Counted × List Counted} {B = Saved} o (λ d. Some (saved head f os d.0 d.1))) both

-- what follows the objects can't be read, so the lists can't be
pub after_objects : (version : Version) (head : Head) (f : FilterValue) (bytes after : List ℕ) (r : Option (List ChangeValue × List ℕ))
    → objects_at f (most_objects version head.number) bytes ≡ r
    → ((p : List ChangeValue × List ℕ) → objects_at f (most_objects version head.number) bytes ≡ Some p → p.1 ≡ after)
    → both_at (most_counted head) after ≡ None → mirror_at version head f bytes ≡ None
after_objects version head f bytes after None e ends none = mirror_none version head f bytes e
after_objects version head f bytes after (Some r) e ends none =
    mirror_after version head f bytes r.1 r.0 e (ap (both_at (most_counted head)) (ends r e) ∙ none)

-- ---- the whole file

save_is : (file rest : List ℕ) (o : Opening) → head_at file ≡ Some (o.version, o.head, o.filter, rest) → save_at file ≡ mirror_at o.version o.head o.filter rest
unfolding save_at
save_is file rest o e = rw e refl

save_none : (file : List ℕ) → head_at file ≡ None → save_at file ≡ None
unfolding save_at
save_none file e = rw e refl

nothing_laid : (m : MirrorValue) → laid_on no_net m ≡ m
nothing_laid m = rw (laid_over-no_entry m.objects, added-no_increment m.users, added-no_increment m.changesets) refl

-- without changes it is counted as it is
pub checked_plain : (told : Option (List ℕ)) (checked : Checked) → IsCheckedWith told no_net checked → IsChecked told checked
checked_plain told checked h = record {
  file = h.file;
  there = h.there;
  saved = h.saved;
  spells = h.spells;
  head = h.head;
  filter = h.filter;
  totals = h.totals ∙ ap totals_of (nothing_laid h.saved.mirror);
  rest = h.rest;
  begins = h.begins;
}

pub is_checked : (told : Option (List ℕ)) (place : Place) (o : Opening) (n : NetValue) (totals : Totals) → (opened : IsOpened told place o)
    → (m : MirrorValue) → mirror_at o.version o.head o.filter (left_of place opened.file) ≡ Some (saved_with o.head o.filter m)
    → totals ≡ totals_of (laid_on n m) → IsCheckedWith told n (record { version = o.version; head = o.head; filter = o.filter; totals = totals })
is_checked told place o n totals opened m read counted = record {
  file = opened.file;
  there = opened.there;
  saved = saved_with o.head o.filter m;
  spells = save_takes opened.file (saved_with o.head o.filter m) (save_is opened.file (left_of place opened.file) o opened.head ∙ read);
  head = refl;
  filter = refl;
  totals = counted;
  rest = left_of place opened.file;
  begins = (head_takes opened.file (o.version, o.head, o.filter, left_of place opened.file) opened.head).text
      ∙ sym (ended_before (head_lines o.version o.head o.filter) (left_of place opened.file));
}

pub lists_stop : (told : Option (List ℕ)) (place : Place) (o : Opening) (fault : MergeFault) → (opened : IsOpened told place o)
    → LineStops opened.file fault (mirror_at o.version o.head o.filter (left_of place opened.file)) → CheckStops told fault
lists_stop told place o (BadSave line) opened none = record {
  file = opened.file;
  there = opened.there;
  none = no_save opened.file (save_is opened.file (left_of place opened.file) o opened.head ∙ none);
}
lists_stop told place o LongLine opened none = record {
  file = opened.file;
  there = opened.there;
  none = no_save opened.file (save_is opened.file (left_of place opened.file) o opened.head ∙ none);
}
lists_stop told place o TooLarge opened huge = record { file = opened.file; there = opened.there; huge = huge }
lists_stop told place o NoSave opened bad = absurd bad
lists_stop told place o Changed opened bad = absurd bad
lists_stop told place o ReadFault opened ok = tt
lists_stop told place o WriteFault opened ok = tt
lists_stop told place o WantOfMemory opened ok = tt

pub opening_stop : (told : Option (List ℕ)) (fault : MergeFault) → OpeningStops told fault → CheckStops told fault
opening_stop told (BadSave line) h = record { file = h.file; there = h.there; none = no_save h.file (save_none h.file h.head) }
opening_stop told LongLine h = absurd h
opening_stop told TooLarge h = absurd h
opening_stop told Changed h = absurd h
opening_stop told NoSave h = h
opening_stop told ReadFault h = tt
opening_stop told WriteFault h = tt
opening_stop told WantOfMemory h = tt

-- what was counted of an opened file
pub counts_as : (told : Option (List ℕ)) (place : Place) (o : Opening) (n : NetValue) (totals : Totals) → (opened : IsOpened told place o)
    → ((v : Saved) → mirror_at o.version o.head o.filter (left_of place opened.file) ≡ Some v → totals ≡ totals_of (laid_on n v.mirror))
    → CountsAs told n totals
counts_as told place o n totals opened counted = λ file v there is.
    let same : file ≡ opened.file = same_Some file opened.file (sym there ∙ opened.there) in
    counted v (sym (save_is opened.file (left_of place opened.file) o opened.head) ∙ (ap save_at (sym same) ∙ is))

-- a fault of the text says that there is no save, and so does another one
pub no_text : (told : Option (List ℕ)) (fault : MergeFault) → IsOfText fault → CheckStops told fault → IsNoSave told
no_text told (BadSave line) of_text h = h
no_text told LongLine of_text h = h
no_text told TooLarge of_text h = absurd of_text
no_text told NoSave of_text h = absurd of_text
no_text told Changed of_text h = absurd of_text
no_text told ReadFault of_text h = absurd of_text
no_text told WriteFault of_text h = absurd of_text
no_text told WantOfMemory of_text h = absurd of_text

pub text_stops : (told : Option (List ℕ)) (fault : MergeFault) → IsOfText fault → IsNoSave told → CheckStops told fault
text_stops told (BadSave line) of_text none = none
text_stops told LongLine of_text none = none
text_stops told TooLarge of_text none = absurd of_text
text_stops told NoSave of_text none = absurd of_text
text_stops told Changed of_text none = absurd of_text
text_stops told ReadFault of_text none = absurd of_text
text_stops told WriteFault of_text none = absurd of_text
text_stops told WantOfMemory of_text none = absurd of_text

pub is_staged : (told : Option (List ℕ)) (place : Place) (o : Opening) (n : NetValue) (totals : Totals) (Says : Saved → Type 0)
    → (opened : IsOpened told place o)
    → (m : MirrorValue) → mirror_at o.version o.head o.filter (left_of place opened.file) ≡ Some (saved_with o.head o.filter m)
    → totals ≡ totals_of (laid_on n m) → Says (saved_with o.head o.filter m) → IsStaged told n totals Says
is_staged told place o n totals Says opened m read counted says = record {
  count = record {
    file = opened.file;
    there = opened.there;
    saved = saved_with o.head o.filter m;
    is = save_is opened.file (left_of place opened.file) o opened.head ∙ read;
    totals_are = counted;
  };
  says = says;
}

pub plain_stops : (told : Option (List ℕ)) (fault : MergeFault) → IsPlain fault → CheckStops told fault
plain_stops told (BadSave line) h = absurd h
plain_stops told LongLine h = absurd h
plain_stops told TooLarge h = absurd h
plain_stops told Changed h = absurd h
plain_stops told NoSave h = absurd h
plain_stops told ReadFault h = tt
plain_stops told WriteFault h = tt
plain_stops told WantOfMemory h = tt

pub merge_stops : (told : Option (List ℕ)) (n : NetValue) (fault : MergeFault) → CheckStops told fault → MergeStops told n fault
merge_stops told n TooLarge h = inl h
merge_stops told n (BadSave line) h = h
merge_stops told n LongLine h = h
merge_stops told n Changed h = h
merge_stops told n NoSave h = h
merge_stops told n ReadFault h = h
merge_stops told n WriteFault h = h
merge_stops told n WantOfMemory h = h

-- the text under the right numbers is the save text
pub merged_is : (head : Head) (n : NetValue) (v : Saved) (t : Totals) → t ≡ totals_of (laid_on n v.mirror)
    → merged_text head t n v ≡ save_text Three (saved_with head v.filter (laid_on n v.mirror))
merged_is head n v t is = rw is (ended_before (head_lines Three head v.filter) (mirror_text (laid_on n v.mirror))
    ∙ sym (save_text_is Three (saved_with head v.filter (laid_on n v.mirror))))
