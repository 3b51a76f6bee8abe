-- The object of a line that was found in a save text.
use Rattle.std.proofs.Common.{◌≡◌, ℕ, Bool, true, false, List, [], ◌∷◌, ◌++◌, drop, refl, sym, ap, subst, ◌∙◌, Option, Some, None, cond}
use Rattle.std.specs.List.{AllByRecursion}
use Rattle.std.specs.Ordering.{is_eq}
use Rattle.std.specs.declared.cmp.Ordering.{Ordering}
use Rattle.std.specs.declared.cmp.Ordering.TheVariants.{Equal, Greater, Less}
use Rattle.std.proofs.lemmas.Option.{same_Some}
use Rattle.osm_blocks.specs.Places.{HasFile}
use Rattle.osm_model.specs.Change.{ChangeValue}
use Rattle.osm_model.specs.Filter.{FilterValue}
use Rattle.osm_model.specs.KeyOrder.{key_cmp}
use Rattle.osm_model.specs.declared.kind.Key.{Key}
use Rattle.osm_model.proofs.ContentLemmas.{one_key}
use Rattle.osm_mirror.specs.Mirror.{object_at}
use Rattle.osm_opl.specs.Written.{line_text}
use Rattle.osm_save.specs.Reading as reading
use Rattle.osm_save.specs.declared.save.Saved.{Saved}
use Rattle.osm_save.proofs.MirrorLemmas.{kept_objects}
use Rattle.osm_save.proofs.ObjectLemmas.{IsKept, object_again, object_takes}
use Rattle.osm_reading.proofs.PieceLemmas.{cut_takes}
use Rattle.osm_asking.specs.Asking.{HasLineOf}
use Rattle.std.specs.Prelude.{IfSome}
use Rattle.osm_store.specs.Frames.{StoreState}
use Rattle.osm_asking.specs.Finding.{IsFirst, IsSpot, IsWhole}
use Rattle.osm_asking.specs.Lines.{HasLines, IsOpening}
use Rattle.osm_asking.specs.Refusal.{IsFailed}
use Rattle.osm_asking.specs.Steps.Answering.{IsSaved, IsTaken, OwnStops, SavedStops, TakenStops}
use Rattle.osm_asking.specs.Steps.Searching.{FindStops}
use Rattle.osm_asking.specs.declared.fault.SearchFault.{SearchFault}
use Rattle.osm_asking.specs.declared.fault.SearchFault.TheVariants.{BadHead, BadLine, Failed, Gone, TooLarge, WantOfMemory}
use Rattle.osm_asking.specs.declared.find.Spot.{Spot}
use Rattle.osm_asking.specs.declared.opening.Opened.{Opened}
use Rattle.osm_asking.specs.declared.side.Wanted.TheVariants.{Object}
use Rattle.osm_asking.proofs.StandLemmas.{absent_object, found_object}

-- ---- the object with a key in a list

-- it is one of those in the list, and has the key
pub record IsAmong (f : FilterValue) (k : Key) (c : ChangeValue) : Type 0 where
  pub kept : IsKept f c
  pub key : c.key ≡ k

among : (f : FilterValue) (cs : List ChangeValue) (k : Key) (c : ChangeValue) → AllByRecursion (IsKept f) cs → object_at cs k ≡ Some c → IsAmong f k c
among f [] k c all e = absurd (let bad : ◌≡◌ {A = Option ChangeValue} None (Some c) = e in cc)
among f (d ∷ cs) k c all e = by_order (key_cmp k d.key) refl (among f cs k c all.1)
  where
    others : is_eq (key_cmp k d.key) ≡ false → object_at cs k ≡ Some c
    others other = subst (λ (b : Bool). cond b (Some d) (object_at cs k) ≡ Some c) other e

    by_order : (o : Ordering) → key_cmp k d.key ≡ o → (object_at cs k ≡ Some c → IsAmong f k c) → IsAmong f k c
    by_order Less less ih = ih (others (ap is_eq less))
    by_order Equal equal ih =
        let found : Some d ≡ Some c = subst (λ (b : Bool). cond b (Some d) (object_at cs k) ≡ Some c) (ap is_eq equal) e in
        subst (IsAmong f k) (same_Some d c found) (record { kept = all.0; key = sym (one_key k d.key equal) })
    by_order Greater greater ih = ih (others (ap is_eq greater))

-- ---- the line is read

-- the line is that of the object with the key, and is read as that object
record IsRead (opened : Opened) (k : Key) (line : List ℕ) (v : Saved) : Type 0 where
  object : ChangeValue
  found : object_at v.mirror.objects k ≡ Some object
  key : object.key ≡ k
  read : reading.object_at opened.filter None line ≡ Some object

read_there : (opened : Opened) (k : Key) (spot : Spot) (file : List ℕ) (v : Saved) → IsOpening file opened v → IsSpot (Object k) v file spot
    → spot.is_there ≡ true → IsRead opened k spot.line.items v
read_there opened k spot file v opening is there =
    let first = subst (IsFirst (Object k) is.stands.later spot.line.items) there is.first in
    let f = found_object k v (drop spot.place file) spot.line.items is.stands first in
    let savable = is.stands.savable in
    let a : IsAmong v.filter k f.0 =
    among v.filter v.mirror.objects k f.0 (kept_objects v.filter v.mirror.objects savable.mirror.objects savable.kept) f.1 in
    record {
      object = f.0;
      found = f.1;
      key = a.key;
      read = ap (λ (g : FilterValue). reading.object_at g None spot.line.items) (sym opening.filter)
          ∙ (ap (reading.object_at v.filter None) f.2 ∙ object_again v.filter None f.0 a.kept refl);
    }

-- what was read of the line of a spot
pub read_is : (opened : Opened) (line bytes : List ℕ) (o read : Option ChangeValue) → read ≡ reading.object_at opened.filter None bytes → read ≡ o
    → bytes ≡ line → o ≡ reading.object_at opened.filter None line
read_is opened line bytes o read is e same = sym e ∙ (is ∙ ap (reading.object_at opened.filter None) same)

pub taken_absent : (opened : Opened) (k : Key) (spot : Spot) → spot.is_there ≡ false → IsTaken opened k spot None
taken_absent opened k spot none file v opening is =
    sym (absent_object k v (drop spot.place file) spot.line.items is.stands (subst (IsFirst (Object k) is.stands.later spot.line.items) none is.first))

pub taken_there : (opened : Opened) (k : Key) (spot : Spot) (o : ChangeValue) (answer : Option ChangeValue) → spot.is_there ≡ true
    → ◌≡◌ {A = Option ChangeValue} (Some o) (reading.object_at opened.filter None spot.line.items) → answer ≡ Some o → IsTaken opened k spot answer
taken_there opened k spot o answer there read own file v opening is =
    let r = read_there opened k spot file v opening is there in
    own ∙ (read ∙ (r.read ∙ sym r.found))

-- the line of a save text is read, and has the key
pub unread : (opened : Opened) (k : Key) (spot : Spot) (place : ℕ) → spot.is_there ≡ true
    → ◌≡◌ {A = Option ChangeValue} None (reading.object_at opened.filter None spot.line.items) → TakenStops opened k spot (BadLine place)
unread opened k spot place there read file v opening is =
    let r = read_there opened k spot file v opening is there in
    let bad : ◌≡◌ {A = Option ChangeValue} None (Some r.object) = read ∙ r.read in
    cc

pub not_own : (opened : Opened) (k : Key) (spot : Spot) (o : ChangeValue) (fault : SearchFault) → spot.is_there ≡ true
    → ◌≡◌ {A = Option ChangeValue} (Some o) (reading.object_at opened.filter None spot.line.items) → OwnStops k o spot.place fault
    → TakenStops opened k spot fault
not_own opened k spot o (BadLine place) there read stops = λ file v opening is.
    let r = read_there opened k spot file v opening is there in
    stops.1 (ap (λ (c : ChangeValue). c.key) (same_Some o r.object (read ∙ r.read)) ∙ r.key)
not_own opened k spot o Failed there read stops = absurd stops
not_own opened k spot o Gone there read stops = absurd stops
not_own opened k spot o (BadHead line) there read stops = absurd stops
not_own opened k spot o TooLarge there read stops = absurd stops
not_own opened k spot o WantOfMemory there read stops = absurd stops

-- ---- in a file

-- a file with the whole line has the object's line
pub whole_line : (opened : Opened) (spot : Spot) (o : ChangeValue) (answer : Option ChangeValue) → spot.is_there ≡ true
    → ◌≡◌ {A = Option ChangeValue} (Some o) (reading.object_at opened.filter None spot.line.items) → answer ≡ Some o
    → IfSome answer (λ c. (file : List ℕ) → IsWhole file spot → HasLineOf file c)
whole_line opened spot o answer there read own =
    subst (λ (x : Option ChangeValue). IfSome x (λ c. (file : List ℕ) → IsWhole file spot → HasLineOf file c)) (sym own) (λ file whole.
    (let cut = whole there in
    let text : spot.line.items ≡ line_text o = (object_takes opened.filter None spot.line.items o (sym read)).text in
    record {
      place = spot.place;
      after = cut.0;
      line = cut_takes 10 (drop spot.place file) spot.line.items cut.0 cut.1 ∙ ap (λ (l : List ℕ). l ++ 10 ∷ cut.0) text;
    }))

pub whole_saved : (a : StoreState) (save : List ℕ) (spot : Spot) (answer : Option ChangeValue)
    → ((file : List ℕ) → HasFile a save file → IsWhole file spot)
    → IfSome answer (λ c. (file : List ℕ) → IsWhole file spot → HasLineOf file c)
    → IfSome answer (λ c. (file : List ℕ) → HasFile a save file → HasLineOf file c)
whole_saved a save spot None found taken = tt
whole_saved a save spot (Some c) found taken = λ file has. taken file (found file has)

pub saved_is : (a : StoreState) (save : List ℕ) (opened : Opened) (k : Key) (spot : Spot) (answer : Option ChangeValue)
    → ((file : List ℕ) (v : Saved) → HasFile a save file → HasLines file opened.place v → IsSpot (Object k) v file spot)
    → IsTaken opened k spot answer → IsSaved a save opened k answer
saved_is a save opened k spot answer found taken file v has opening = taken file v opening (found file v has opening.lines)

pub unfound : (a : StoreState) (save : List ℕ) (opened : Opened) (fault : SearchFault) → FindStops a save opened.place fault → SavedStops a save opened fault
unfound a save opened Failed h = tt
unfound a save opened Gone h = h
unfound a save opened (BadHead line) h = h
unfound a save opened (BadLine place) h = λ file v has opening. h file v has opening.lines
unfound a save opened TooLarge h = λ file v has opening. h file v has opening.lines
unfound a save opened WantOfMemory h = tt

pub untaken : (a : StoreState) (save : List ℕ) (opened : Opened) (k : Key) (spot : Spot) (fault : SearchFault)
    → ((file : List ℕ) (v : Saved) → HasFile a save file → HasLines file opened.place v → IsSpot (Object k) v file spot)
    → TakenStops opened k spot fault → SavedStops a save opened fault
untaken a save opened k spot (BadLine place) found h = λ file v has opening. h file v opening (found file v has opening.lines)
untaken a save opened k spot Failed found h = absurd h
untaken a save opened k spot Gone found h = absurd h
untaken a save opened k spot (BadHead line) found h = absurd h
untaken a save opened k spot TooLarge found h = absurd h
untaken a save opened k spot WantOfMemory found h = tt

-- the device isn't why
pub taken_unblamed : (opened : Opened) (k : Key) (spot : Spot) (fault : SearchFault) → TakenStops opened k spot fault → IsFailed fault → ⊥
taken_unblamed opened k spot Failed h blame = h
taken_unblamed opened k spot Gone h blame = blame
taken_unblamed opened k spot (BadHead line) h blame = blame
taken_unblamed opened k spot (BadLine place) h blame = blame
taken_unblamed opened k spot TooLarge h blame = blame
taken_unblamed opened k spot WantOfMemory h blame = blame
