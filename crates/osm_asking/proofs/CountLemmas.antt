-- Counts that are read one after the other.
use Rattle.std.proofs.Common.{arith, ◌≡◌, ℕ, ◌+◌, ◌≤◌, List, [], ◌∷◌, ◌++◌, Option, Some, None, refl, sym, ap, subst, ◌∙◌, append_assoc}
use Rattle.std.specs.Prelude.{Err, IfErr, IfOk, Ok, Result, Vec, codes}
use Rattle.std.specs.declared.alloc.Global.{Global}
use Rattle.std.proofs.lemmas.List.{append-nil}
use Rattle.std.proofs.lemmas.Option.{same_Some}
use Rattle.osm_blocks.specs.Calls.{Advances, SpendsDown, reads_ahead}
use Rattle.osm_blocks.specs.Frames.{ReadsOften}
use Rattle.osm_blocks.specs.Places.{HasFile, Place, left_of}
use Rattle.osm_blocks.proofs.CallLemmas.{down_none}
use Rattle.osm_blocks.proofs.OftenLemmas.{often_none, often_then}
use Rattle.osm_kept.specs.Finding.{kept_after}
use Rattle.osm_kept.specs.Laws.{OneIsKept}
use Rattle.osm_kept.specs.Laying.{LaysOver, kept_in}
use Rattle.osm_kept.specs.declared.laid.Laid.{Laid}
use Rattle.osm_merge.specs.Faults.{IsDeviceFault}
use Rattle.osm_merge.specs.Mirrors.{both_at}
use Rattle.osm_merge.specs.Passing.{PassesTo}
use Rattle.osm_merge.specs.Reading.{LineStops}
use Rattle.osm_merge.specs.declared.fault.MergeFault.{MergeFault}
use Rattle.osm_merge.specs.declared.opening.Opening.{Opening}
use Rattle.osm_merge.proofs.CallLemmas.{advances_fails, advances_then}
use Rattle.osm_merge.proofs.FrameLemmas.{has_still}
use Rattle.osm_merge.proofs.LineLemmas.{refuses_all}
use Rattle.osm_merge.proofs.ListLemmas.{both_none}
use Rattle.osm_merged.specs.Ahead.{CountsAhead, IsGiven, counts_ahead, laid_after, objects_ahead, with_first}
use Rattle.osm_merged.specs.Laws.{BothAreNext, SavedIsAhead}
use Rattle.osm_merged.specs.Opening.{BeginsMerged}
use Rattle.osm_mirror.specs.Mirror.{Counted, MirrorValue}
use Rattle.osm_model.specs.Change.{ChangeValue}
use Rattle.osm_net.specs.Laid.{added, laid_on, laid_over}
use Rattle.osm_net.specs.Lists.{net_in}
use Rattle.osm_net.specs.Net.{NetEntry, NetValue}
use Rattle.osm_save.specs.Head.{most_counted}
use Rattle.osm_save.specs.Reading.{counts_at}
use Rattle.osm_save.specs.Save.{SpellsSave}
use Rattle.osm_save.specs.declared.save.Saved.{Saved}
use Rattle.osm_store.specs.Frames.{StoreState}
use Rattle.osm_runs.specs.Reports.{ReportValue}
use Rattle.osm_asking.specs.Counts.{GivesCounts, IsCountsReport, counts_by}
use Rattle.osm_asking.specs.Steps.Counting.{AreCounted, CountsAfter, ReadsCounts}
use Rattle.osm_asking.specs.Steps.Going.{ReadsOn}
use Rattle.osm_asking.specs.Steps.SavedObjects.{Objects}
use Rattle.osm_asking.specs.declared.choice.By.{By}
use Rattle.osm_asking.specs.declared.choice.By.TheVariants.{Changeset, User}
use Rattle.osm_asking.specs.declared.choice.Choice.{Choice}
use Rattle.osm_asking.specs.declared.choice.Form.{Form}
use Rattle.osm_asking.proofs.LaidLemmas.{keeps_laid}

-- ---- one after the other

-- values, and then those that are read
abbrev pub with_counts : List Counted → Option (List Counted × List ℕ) → Option (List Counted × List ℕ)
with_counts xs None = None
with_counts xs (Some r) = Some (xs ++ r.0, r.1)

with_nothing : (o : Option (List Counted × List ℕ)) → o ≡ with_counts [] o
with_nothing None = refl
with_nothing (Some r) = refl

with_more : (xs : List Counted) (x : Counted) (o : Option (List Counted × List ℕ)) → with_counts xs (with_first x o) ≡ with_counts (xs ++ x ∷ []) o
with_more xs x None = refl
with_more xs x (Some r) = ap (λ (l : List Counted). Some (l, r.1)) (sym (append_assoc xs (x ∷ []) r.0))

-- where a reading stands: what was ahead are those counts, and then what is ahead now
pub record Gathering (a b : StoreState) (name : List ℕ) (first left : CountsAhead) (begun now : Place) (gathered : List Counted) : Type 0 where
  pub read : (file : List ℕ) → HasFile a name file → counts_ahead first (left_of begun file) ≡ with_counts gathered (counts_ahead left (left_of now file))
  pub frame : ReadsOften {T = Unit {0}} IsDeviceFault a b (Ok tt)
  pub spent : (file : List ℕ) → HasFile a name file → SpendsDown (reads_ahead begun file) (reads_ahead now file) a.left b.left

pub gathering_begun : (a : StoreState) (name : List ℕ) (first : CountsAhead) (begun : Place) → Gathering a a name first first begun begun []
gathering_begun a name first begun = record {
  read = λ file has. with_nothing (counts_ahead first (left_of begun file));
  frame = often_none IsDeviceFault a tt;
  spent = λ file has. down_none (reads_ahead begun file) a.left;
}

abbrev pub GivesNext : StoreState → List ℕ → CountsAhead → CountsAhead → Place → Place → Option Counted → Type 0
GivesNext state name left next now new given = (file : List ℕ) → HasFile state name file
    → IsGiven (left_of new file) (counts_ahead left (left_of now file)) (counts_ahead next (left_of new file)) given

module _ (a b : StoreState) (name : List ℕ) (first left : CountsAhead) (begun now : Place) (gathered : List Counted)
    (h : Gathering a b name first left begun now gathered) where
  has_now : (file : List ℕ) → HasFile a name file → HasFile b name file
  has_now file has = has_still a b tt name file h.frame has

  so_far : (file : List ℕ) → HasFile a name file → Advances {T = Unit {0}} IsDeviceFault (reads_ahead begun file) (λ _. reads_ahead now file) a b (Ok tt)
  so_far file has = record { spent = h.spent file has; lacks = tt }

  pub gathering_spent : {T V : Type 0} (c : StoreState) (new : Place) (x : T) (y : V) → ReadsOn b c name now new (Ok x) → ReadsOn a c name begun new (Ok y)
  gathering_spent {V = V} c new x y calls = λ file has.
      advances_then {V = V} (reads_ahead begun file) (λ _. reads_ahead new file) a b c tt x y (so_far file has) (calls file (has_now file has)) (omega arith)

  pub gathering_more : (c : StoreState) (next : CountsAhead) (new : Place) (x : Counted) → GivesNext b name left next now new (Some x)
      → ReadsOften {T = Option Counted} IsDeviceFault b c (Ok (Some x)) → ReadsOn b c name now new (Ok (Some x))
      → Gathering a c name first next begun new (gathered ++ x ∷ [])
  gathering_more c next new x read frame calls = record {
    read = λ file has. h.read file has ∙ (ap (with_counts gathered) (read file (has_now file has)) ∙ with_more gathered x
        (counts_ahead next (left_of new file)));
    frame = often_then {T = Unit {0}} {V = Unit {0}} IsDeviceFault a b c tt (Some x) tt h.frame frame;
    spent = λ file has. (gathering_spent {V = Unit {0}} c new (Some x) tt calls file has).spent;
  }

  pub gathering_unread : {V : Type 0} (c : StoreState) (new : Place) (fault : MergeFault) → ReadsOn {T = Option Counted} b c name now new (Err fault)
      → ReadsOn {T = V} a c name begun new (Err fault)
  gathering_unread {V = V} c new fault calls = λ file has.
      advances_fails {V = V} (reads_ahead begun file) (λ _. reads_ahead new file) a b c tt fault (so_far file has) (calls file (has_now file has)) (omega arith)

  pub gathering_done : (next : CountsAhead) (new : Place) → GivesNext b name left next now new None
      → ReadsCounts a name (counts_ahead first) begun new gathered
  gathering_done next new read = λ file has. h.read file has ∙ (ap (with_counts gathered) (read file (has_now file has)).0
      ∙ ap (λ (l : List Counted). Some (l, left_of new file)) (append-nil gathered))

  pub gathering_stops : (fault : MergeFault) → ((file : List ℕ) → HasFile b name file → LineStops file fault (counts_ahead left (left_of now file)))
      → (file : List ℕ) → HasFile a name file → LineStops file fault (counts_ahead first (left_of begun file))
  gathering_stops fault stops = λ file has.
      refuses_all file fault (counts_ahead left (left_of now file)) (counts_ahead first (left_of begun file)) (stops file (has_now file has))
      (λ none. h.read file has ∙ ap (with_counts gathered) none)

-- ---- one reading after the other

pub goes_first : {T U : Type 0} (a b : StoreState) (name : List ℕ) (begun now : Place) (fault : MergeFault) → ReadsOn {T = T} a b name begun now (Err fault)
    → ReadsOn {T = U} a b name begun now (Err fault)
goes_first a b name begun now fault first = λ file has. record { spent = tt; lacks = (first file has).lacks }

pub goes_on : {T U V : Type 0} (a b c : StoreState) (name : List ℕ) (begun now new : Place) (x : T) (y : U) (z : V) → ReadsOften IsDeviceFault a b (Ok x)
    → ReadsOn a b name begun now (Ok x) → ReadsOn b c name now new (Ok y) → ReadsOn a c name begun new (Ok z)
goes_on {V = V} a b c name begun now new x y z frame first second = λ file has.
    advances_then {V = V} (reads_ahead begun file) (λ _. reads_ahead new file) a b c x y z (first file has)
    (second file (has_still a b x name file frame has)) (omega arith)

pub goes_off : {T U V : Type 0} (a b c : StoreState) (name : List ℕ) (begun now new : Place) (x : T) (fault : MergeFault) → ReadsOften IsDeviceFault a b (Ok x)
    → ReadsOn a b name begun now (Ok x) → ReadsOn {T = U} b c name now new (Err fault) → ReadsOn {T = V} a c name begun new (Err fault)
goes_off {V = V} a b c name begun now new x fault frame first second = λ file has.
    advances_fails {V = V} (reads_ahead begun file) (λ _. reads_ahead new file) a b c x fault (first file has)
    (second file (has_still a b x name file frame has)) (omega arith)

-- ---- counts with others added to them

-- none are added
nothing_added : (o : Option (List Counted × List ℕ)) → laid_after added [] o ≡ o
unfolding added
nothing_added None = refl
nothing_added (Some r) = refl

pub users_passed : (o : Option (List Counted × List ℕ)) (us : List Counted) (rest : List ℕ) → laid_after added [] o ≡ Some (us, rest) → PassesTo o rest
users_passed o us rest is = record { value = us; read = sym (nothing_added o) ∙ is }

-- if the counts can't be read, neither can they with others added
pub added_none : (more : List Counted) (o : Option (List Counted × List ℕ)) → laid_after added more o ≡ None → o ≡ None
added_none more None e = refl
added_none more (Some r) e = absurd (let bad : ◌≡◌ {A = Option (List Counted × List ℕ)} None (Some (added more r.0, r.1)) = sym e in cc)

pub added_some : (more counts given : List Counted) (after rest : List ℕ) (o : Option (List Counted × List ℕ)) → o ≡ Some (counts, after)
    → laid_after added more o ≡ Some (given, rest) → given ≡ added more counts
added_some more counts given after rest o is e =
    let both = same_Some (given, rest) (added more counts, after) (sym e ∙ ap (laid_after added more) is) in
    ap (λ (r : List Counted × List ℕ). r.0) both

-- counts that are read in one way are read in one place
pub same_after : (more : List Counted) (most : ℕ) (us vs : List Counted) (after rest : List ℕ) (o : Option (List Counted × List ℕ))
    → o ≡ Some (us, after) → o ≡ Some (vs, rest)
    → laid_after added more (counts_at (codes "changesets ") most after) ≡ laid_after added more (counts_at (codes "changesets ") most rest)
same_after more most us vs after rest o x y =
    ap (λ (r : List Counted × List ℕ). laid_after added more (counts_at (codes "changesets ") most r.1)) (same_Some (us, after) (vs, rest) (sym x ∙ y))

-- ---- the counts that follow objects

-- those of users with others added
pub users_counted : BothAreNext → (net : NetValue) (most : ℕ) (bytes rest : List ℕ) (given : List Counted)
    → laid_after added net.users (counts_at (codes "users ") most bytes) ≡ Some (given, rest) → CountsAfter User net most bytes given
users_counted next net most bytes rest given is = λ users changesets both.
    let n = next most bytes users changesets both in
    added_some net.users users given n.after rest (counts_at (codes "users ") most bytes) n.users_are is

-- and those of changesets
pub changesets_counted : BothAreNext → (net : NetValue) (most : ℕ) (bytes rest : List ℕ) (given : List Counted)
    → ((users : List Counted) (after : List ℕ) → counts_at (codes "users ") most bytes ≡ Some (users, after)
    → laid_after added net.changesets (counts_at (codes "changesets ") most after) ≡ Some (given, rest))
    → CountsAfter Changeset net most bytes given
changesets_counted next net most bytes rest given is = λ users changesets both.
    let n = next most bytes users changesets both in
    added_some net.changesets changesets given n.last rest (counts_at (codes "changesets ") most n.after) n.changesets_are
    (is users n.after n.users_are)

-- the same of an answer
pub users_given : {E : Type 0} → BothAreNext → (state : StoreState) (name : List ℕ) (net : NetValue) (most : ℕ) (begun now : Place)
    (r : Result (Vec (ℕ × ℕ) Global) E)
    → IfOk r (λ counts. ReadsCounts state name (λ bytes. laid_after added net.users (counts_at (codes "users ") most bytes)) begun now counts.items)
    → IfOk r (λ counts. (file : List ℕ) → HasFile state name file → CountsAfter User net most (left_of begun file) counts.items)
users_given next state name net most begun now (Err e) h = tt
users_given next state name net most begun now (Ok counts) h = λ file has.
    users_counted next net most (left_of begun file) (left_of now file) counts.items (h file has)

pub changesets_given : {E : Type 0} → BothAreNext → (state : StoreState) (name : List ℕ) (net : NetValue) (most : ℕ) (begun now : Place)
    (r : Result (Vec (ℕ × ℕ) Global) E)
    → IfOk r (λ counts. (file : List ℕ) → HasFile state name file → (users : List Counted) (after : List ℕ)
    → counts_at (codes "users ") most (left_of begun file) ≡ Some (users, after)
    → laid_after added net.changesets (counts_at (codes "changesets ") most after) ≡ Some (counts.items, left_of now file))
    → IfOk r (λ counts. (file : List ℕ) → HasFile state name file → CountsAfter Changeset net most (left_of begun file) counts.items)
changesets_given next state name net most begun now (Err e) h = tt
changesets_given next state name net most begun now (Ok counts) h = λ file has.
    changesets_counted next net most (left_of begun file) (left_of now file) counts.items (h file has)

pub users_refused : {T : Type 0} (state : StoreState) (name : List ℕ) (most : ℕ) (begun : Place) (r : Result T MergeFault)
    → IfErr r (λ fault. (file : List ℕ) → HasFile state name file → LineStops file fault (counts_at (codes "users ") most (left_of begun file)))
    → IfErr r (λ fault. (file : List ℕ) → HasFile state name file → LineStops file fault (both_at most (left_of begun file)))
users_refused state name most begun (Ok x) h = tt
users_refused state name most begun (Err fault) h = λ file has.
    refuses_all file fault (counts_at (codes "users ") most (left_of begun file)) (both_at most (left_of begun file)) (h file has)
    (both_none most (left_of begun file))

pub of_counts : (by : By) (net : NetValue) (m : MirrorValue)
    → counts_by by (laid_on net (record { objects = []; users = m.users; changesets = m.changesets })) ≡ counts_by by (laid_on net m)
of_counts User net m = refl
of_counts Changeset net m = refl

-- counts of that file are those of any that was told
pub counted_told : (told : Option (List ℕ)) (by : By) (net : NetValue) (given : List Counted) (file : List ℕ) → told ≡ Some file
    → ((v : Saved) → SpellsSave file v → given ≡ counts_by by (laid_on net v.mirror)) → AreCounted told by net given
counted_told told by net given file there is = λ other v same spells.
    is v (subst (λ (f : List ℕ). SpellsSave f v) (same_Some other file (sym same ∙ there)) spells)

-- ---- the counts of a save that was opened

module _ (told : Option (List ℕ)) (es : List NetEntry) (place : Place) (o : Opening) (a : Objects) (at : BeginsMerged told es place o a)
    (found : SavedIsAhead) (objects : List ChangeValue) (after : List ℕ)
    (read : objects_ahead o.filter a (left_of place at.file) ≡ Some (objects, after)) where
  -- they are ahead after the objects
  both_ahead : (v : Saved) → SpellsSave at.file v → both_at (most_counted o.head) after ≡ Some (v.mirror.users, v.mirror.changesets)
  both_ahead v spells =
      let h = found told es place o a at v spells in
      let same = same_Some (objects, after) (laid_over es v.mirror.objects, h.after) (sym read ∙ h.objects) in
      ap (λ (r : List ChangeValue × List ℕ). both_at (most_counted o.head) r.1) same ∙ h.counts

  pub are_counted : (by : By) (net : NetValue) (given : List Counted) → CountsAfter by net (most_counted o.head) after given → AreCounted told by net given
  are_counted by net given is =
      counted_told told by net given at.file at.there
      (λ v spells. is v.mirror.users v.mirror.changesets (both_ahead v spells) ∙ of_counts by net v.mirror)

-- ---- what is kept

pub gives_counts : OneIsKept → (by : By) (choice : Choice) (form : Form) (told journal : Option (List ℕ)) (laid : Laid) (counts : List Counted)
    (report : ReportValue) → LaysOver told journal laid → AreCounted told by (net_in laid.lists) counts → IsCountsReport by choice form counts report
    → GivesCounts by choice form told journal report
gives_counts one by choice form told journal laid counts report lays counted is = λ v k.
    let kept = (keeps_laid told journal laid lays).keeps k.file k.start k.there k.spells in
    let same : kept_after (kept_in lays.start laid) k.start ≡ v = one told journal (kept_after (kept_in lays.start laid) k.start) v kept k in
    subst (λ (l : List Counted). IsCountsReport by choice form l report)
    (counted k.file k.start k.there k.spells ∙ ap (λ (w : Saved). counts_by by w.mirror) same) is
