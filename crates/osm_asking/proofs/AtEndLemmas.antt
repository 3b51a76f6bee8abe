-- The counts at the end of a save, which are read without its objects.
use Rattle.std.proofs.Common.{◌≡◌, ℕ, ◌+◌, ◌≤◌, ◌<◌, ◌^◌, List, [], ◌∷◌, ◌++◌, refl, sym, ap, subst, ◌∙◌, arith, append_assoc, true, false, Bool, Option}
use Rattle.std.proofs.Common.{Some, None}
use Rattle.std.proofs.lemmas.Option.{same_Some}
use Rattle.std.specs.Prelude.{Err, IfErr, IfOk, IsSome, Ok, OnOk, Result, codes, drop, length}
use Rattle.std.specs.declared.cmp.Ordering.{Ordering}
use Rattle.std.specs.declared.cmp.Ordering.TheVariants.{Equal, Greater, Less}
use Rattle.osm_blocks.specs.Calls.{Advances, blocks_in, reads_ahead}
use Rattle.osm_blocks.specs.Frames.{ReadsOften}
use Rattle.osm_blocks.specs.Places.{HasFile, Place, left_of}
use Rattle.osm_merge.specs.Checking.{CheckStops, IsNoSave}
use Rattle.osm_merge.specs.Faults as merges
use Rattle.osm_merge.specs.Mirrors.{both_at}
use Rattle.osm_merge.specs.Reading.{LineStops}
use Rattle.osm_merge.specs.declared.fault.MergeFault.{MergeFault}
use Rattle.osm_merge.specs.declared.fault.MergeFault.TheVariants as faults
use Rattle.osm_merge.specs.declared.opening.Opening.{Opening}
use Rattle.osm_merge.proofs.CallLemmas.{at_most}
use Rattle.osm_merge.proofs.FrameLemmas.{has_still}
use Rattle.osm_merge.proofs.ListLemmas.{both_read, end_done}
use Rattle.osm_mirror.specs.Mirror.{Counted, MirrorValue}
use Rattle.osm_model.specs.Change.{ChangeValue}
use Rattle.osm_net.specs.Net.{NetValue}
use Rattle.osm_save.specs.Head.{BeginsSave, head_of, most_counted}
use Rattle.osm_save.specs.Lines.{ended, list_lines}
use Rattle.osm_save.specs.Save.{IsSavable, SpellsSave, count_text}
use Rattle.osm_save.specs.declared.head.Head.{Head}
use Rattle.osm_save.specs.declared.save.Saved.{Saved}
use Rattle.osm_save.specs.declared.version.Version.{Version}
use Rattle.osm_save.proofs.HeadLemmas.{one_head, save_has_head}
use Rattle.osm_save.proofs.LineLemmas.{fixed_again, lacks_by}
use Rattle.osm_save.proofs.MirrorLemmas.{counts_again, each_within}
use Rattle.osm_save.proofs.TextLemmas.{ended-append}
use Rattle.osm_store.specs.Frames.{IsKnown, MakesAtMost, StoreState}
use Rattle.osm_store.proofs.FrameLemmas.{at_most_both, at_most_more}
use Rattle.osm_asking.specs.Finding.{IsFirst, IsSpot}
use Rattle.osm_asking.specs.Lines.{HasLines, lines_from}
use Rattle.osm_asking.specs.Reads.{IsPlainSave}
use Rattle.osm_asking.specs.Refusal.{IsFailed, SearchStops}
use Rattle.osm_asking.specs.Steps.Counting.{AreCounted, AreCountsNext, CountsAfter, IsPlainSearch, most_at_end}
use Rattle.osm_asking.specs.Steps.Searching.{FindStops}
use Rattle.osm_asking.specs.declared.choice.By.{By}
use Rattle.osm_asking.specs.declared.fault.SearchFault.{SearchFault}
use Rattle.osm_asking.specs.declared.fault.SearchFault.TheVariants as searches
use Rattle.osm_asking.specs.declared.find.Spot.{Spot}
use Rattle.osm_asking.specs.declared.side.Wanted.TheVariants.{Counts}
use Rattle.osm_asking.proofs.CountLemmas.{of_counts}
use Rattle.osm_asking.proofs.PlainLemmas.{calls_as, plain_still}
use Rattle.osm_asking.proofs.LineLemmas.{small_counted}

-- ---- where they begin

none_later : (later : List ChangeValue) (line : List ℕ) (is_there : Bool) → IsFirst Counts later line is_there → later ≡ []
none_later [] line is_there first = refl
none_later (c ∷ cs) line true first = absurd (let bad : ◌≡◌ {A = Ordering} Less Equal = first.0 in cc)
none_later (c ∷ cs) line false first = absurd (let bad : ◌≡◌ {A = Ordering} Less Greater = first in cc)

-- no object is left where they are found
pub at_counts : (v : Saved) (file : List ℕ) (spot : Spot) → IsSpot Counts v file spot → drop spot.place file ≡ lines_from [] v.mirror
at_counts v file spot s =
    s.stands.lines ∙ ap (λ (l : List ChangeValue). lines_from l v.mirror)
    (none_later s.stands.later spot.line.items spot.is_there s.first)

-- ---- what is read from there

abbrev end_text : List ℕ
end_text = codes "end" ++ 10 ∷ []

abbrev list_text : List ℕ → List Counted → List ℕ
list_text word counts = ended (list_lines word count_text counts)

after_objects : (m : MirrorValue) → lines_from [] m ≡ list_text (codes "users ") m.users ++ (list_text (codes "changesets ") m.changesets ++ end_text)
after_objects m =
    let users : List (List ℕ) = list_lines (codes "users ") count_text m.users in
    let changesets : List (List ℕ) = list_lines (codes "changesets ") count_text m.changesets in
    ended-append (users ++ changesets) (codes "end" ∷ []) ∙ (ap (λ (l : List ℕ). l ++ end_text) (ended-append users changesets)
    ∙ append_assoc (ended users) (ended changesets) end_text)

pub both_again : (version : Version) (v : Saved) → IsSavable version v
    → both_at (most_counted (head_of v)) (lines_from [] v.mirror) ≡ Some (v.mirror.users, v.mirror.changesets)
both_again version v is =
    let most : ℕ = most_counted (head_of v) in
    let small = small_counted version v is in
    let users = is.mirror.orderly.users in
    let changesets = is.mirror.orderly.changesets in
    let last : List ℕ = list_text (codes "changesets ") v.mirror.changesets ++ end_text in
    ap (both_at most) (after_objects v.mirror)
    ∙ both_read most (list_text (codes "users ") v.mirror.users ++ last) last end_text v.mirror.users v.mirror.changesets
    (counts_again (codes "users ") most v.mirror.users last (lacks_by 10 (codes "users ") refl) is.within.users small
    (each_within most v.mirror.users users.rising is.mirror.users users.above is.within.user_counts) users.rising)
    (counts_again (codes "changesets ") most v.mirror.changesets end_text (lacks_by 10 (codes "changesets ") refl) is.within.changesets small
    (each_within most v.mirror.changesets changesets.rising is.mirror.changesets changesets.above is.within.changeset_counts) changesets.rising)
    (end_done end_text [] (fixed_again (codes "end") [] (lacks_by 10 (codes "end") refl)) refl)

-- both lists can be read there
both_there : (b : StoreState) (name : List ℕ) (o : Opening) (s : Place) (file : List ℕ) (v : Saved) → HasFile b name file → SpellsSave file v
    → BeginsSave file o.head → AreCountsNext b name s → both_at (most_counted o.head) (left_of s file) ≡ Some (v.mirror.users, v.mirror.changesets)
both_there b name o s file v has spells begins next =
    let same : head_of v ≡ o.head = one_head file (head_of v) o.head (save_has_head file v spells) begins in
    let again : both_at (most_counted o.head) (lines_from [] v.mirror) ≡ Some (v.mirror.users, v.mirror.changesets) =
    subst (λ (h : Head). both_at (most_counted h) (lines_from [] v.mirror) ≡ Some (v.mirror.users, v.mirror.changesets)) same
    (both_again spells.version v spells.savable) in
    ap (both_at (most_counted o.head)) (next file v has spells) ∙ again

-- counts that are read there, in calls one after the other, are those of the save text with that head
pub counted_there : {E F : Type 0} {blames : E → Type 0} {fails : F → Type 0} (a b d : StoreState) (name : List ℕ) (by : By) (net : NetValue) (o : Opening)
    (s : Place) (given : List Counted) → ReadsOften blames a b (Ok o) → ReadsOften fails b d (Ok s) → IsKnown a
    → ((file : List ℕ) → a.files name ≡ Some file → BeginsSave file o.head) → AreCountsNext b name s
    → ((file : List ℕ) → HasFile d name file → CountsAfter by net (most_counted o.head) (left_of s file) given) → AreCounted (a.files name) by net given
counted_there a b d name by net o s given opens finds known begins next after = λ file v there spells.
    let has_b = has_still a b o name file opens (record { known = known; there = there }) in
    let has_d = has_still b d s name file finds has_b in
    after file has_d v.mirror.users v.mirror.changesets (both_there b name o s file v has_b spells (begins file there) next) ∙ of_counts by net v.mirror

-- where a source begins that has read nothing yet
pub left_from : (s : Place) (place : ℕ) (file : List ℕ) → s.unread ≡ [] → s.from ≡ place → left_of s file ≡ drop place file
left_from s place file unread from =
    ap (λ (l : List ℕ). l ++ drop s.from file) unread ∙ ap (λ (n : ℕ). drop n file) from

-- ---- why they aren't read there

-- of a save text of at most 2^40 bytes only the device or memory is why
pub plain_check : (a : StoreState) (name file : List ℕ) (v : Saved) (fault : MergeFault) → IsPlainSave a name file v
    → (IsKnown a → CheckStops (a.files name) fault) → merges.IsPlain fault
plain_check a name file v fault p stops = by_fault fault (stops p.has.known)
  where
    no_save : IsNoSave (a.files name) → ⊥
    no_save is = is.none v (subst (λ (f : List ℕ). SpellsSave f v) (same_Some file is.file (sym p.has.there ∙ is.there)) p.spells)

    by_fault : (fault : MergeFault) → CheckStops (a.files name) fault → merges.IsPlain fault
    by_fault faults.ReadFault h = tt
    by_fault faults.WriteFault h = tt
    by_fault faults.WantOfMemory h = tt
    by_fault faults.NoSave h = absurd (let bad : ◌≡◌ {A = Option (List ℕ)} None (Some file) = sym h ∙ p.has.there in cc)
    by_fault (faults.BadSave line) h = absurd (no_save h)
    by_fault faults.LongLine h = absurd (no_save h)
    by_fault faults.TooLarge h =
        let same = ap length (same_Some file h.file (sym p.has.there ∙ h.there)) in
        let huge = h.huge in
        let few = p.few in
        absurd (omega (arith, same, huge, few))
    by_fault faults.Changed h = absurd h

pub plain_search : (a : StoreState) (name file : List ℕ) (v : Saved) (fault : SearchFault) → IsPlainSave a name file v → SearchStops a name fault
    → IsPlainSearch fault
plain_search a name file v searches.Failed p h = tt
plain_search a name file v searches.WantOfMemory p h = tt
plain_search a name file v searches.Gone p h = absurd (h file p.has)
plain_search a name file v (searches.BadHead line) p h = absurd (h file v p.has p.spells)
plain_search a name file v (searches.BadLine place) p h = absurd (h file v p.has p.spells)
plain_search a name file v searches.TooLarge p h =
    let huge = h file v p.has p.spells in
    let few = p.few in
    absurd (omega (arith, huge, few))

plain_line : {A : Type 0} (file : List ℕ) (fault : MergeFault) (reading : Option A) (x : A) → length file ≤ 2 ^ 40 → reading ≡ Some x
    → LineStops file fault reading → merges.IsPlain fault
plain_line file faults.ReadFault reading x few is h = tt
plain_line file faults.WriteFault reading x few is h = tt
plain_line file faults.WantOfMemory reading x few is h = tt
plain_line file faults.NoSave reading x few is h = absurd h
plain_line {A = A} file (faults.BadSave line) reading x few is h = absurd (let bad : ◌≡◌ {A = Option A} None (Some x) = sym h ∙ is in cc)
plain_line {A = A} file faults.LongLine reading x few is h = absurd (let bad : ◌≡◌ {A = Option A} None (Some x) = sym h ∙ is in cc)
plain_line file faults.TooLarge reading x few is h = absurd (omega (arith, h, few))
plain_line file faults.Changed reading x few is h = absurd h

-- a search that goes on from the first line of a save's objects
pub search_on : (a b : StoreState) (name : List ℕ) (start : ℕ) (fault : SearchFault) → ((file : List ℕ) → HasFile a name file → HasFile b name file)
    → ((file : List ℕ) (v : Saved) → HasFile a name file → SpellsSave file v → HasLines file start v) → FindStops b name start fault
    → SearchStops a name fault
search_on a b name start searches.Failed still lines h = tt
search_on a b name start searches.WantOfMemory still lines h = tt
search_on a b name start searches.Gone still lines h = λ file has. h file (still file has)
search_on a b name start (searches.BadHead line) still lines h = absurd h
search_on a b name start (searches.BadLine place) still lines h = λ file v has spells. h file v (still file has) (lines file v has spells)
search_on a b name start searches.TooLarge still lines h = λ file v has spells. h file v (still file has) (lines file v has spells)

-- the counts of a save text can be read
pub plain_counts : (a b d : StoreState) (name file : List ℕ) (v : Saved) (o : Opening) (s : Place) (fault : MergeFault)
    → ReadsOften merges.IsDeviceFault a b (Ok o) → ReadsOften IsFailed b d (Ok s) → AreCountsNext b name s
    → (IsKnown a → (f : List ℕ) → a.files name ≡ Some f → BeginsSave f o.head) → IsPlainSave a name file v
    → ((f : List ℕ) → HasFile d name f → LineStops f fault (both_at (most_counted o.head) (left_of s f))) → merges.IsPlain fault
plain_counts a b d name file v o s fault opens finds next begins plain stops =
    let has_b = has_still a b o name file opens plain.has in
    plain_line file fault (both_at (most_counted o.head) (left_of s file)) (v.mirror.users, v.mirror.changesets) plain.few
    (both_there b name o s file v has_b plain.spells (begins plain.has.known file plain.has.there) next)
    (stops file (has_still b d s name file finds has_b))

-- something was found, since the fault isn't one that leaves nothing
pub never_none : {T : Type 0} (a : StoreState) (name : List ℕ) (P : Type 0) (r : Result (Option T) MergeFault) → OnOk r (P → ⊥)
    → ((file : List ℕ) (v : Saved) → IsPlainSave a name file v → P)
    → IfOk r (λ found. (file : List ℕ) (v : Saved) → IsPlainSave a name file v → IsSome found)
never_none a name P (Ok found) wrong is = λ file v p. absurd (wrong (is file v p))
never_none a name P (Err fault) wrong is = tt

-- ---- how many calls are made

-- a fault that is told as another one
calls_told : {T U E F : Type 0} {blames : E → Type 0} {others : F → Type 0} (k : ℕ) (a b : StoreState) (fault : E) (r : Result U F) (P : Type 0)
    → IfErr r (λ e. others e → blames fault) → OnOk r (P → ⊥) → P → MakesAtMost {T = T} blames k a b (Err fault) → MakesAtMost others k a b r
calls_told k a b fault (Ok y) P same wrong is m = absurd (wrong is)
calls_told k a b fault (Err e) P same wrong is m = record { spent = tt; lacks = λ known blame. m.lacks known (same blame) }

same_blame : {T : Type 0} (fault : MergeFault) (r : Result T MergeFault) → IfErr r (λ e. e ≡ fault)
    → IfErr r (λ e. merges.IsDeviceFault e → merges.IsDeviceFault fault)
same_blame fault (Ok x) same = tt
same_blame fault (Err e) same = λ blame. subst merges.IsDeviceFault same blame

-- the head is opened, the counts are found and read, and the head is opened again
module _ {T : Type 0} (a b : StoreState) (name file : List ℕ) (v : Saved) (plain : IsPlainSave a name file v) (r : Result (Option T) MergeFault) where
  pub unopened : {U : Type 0} (fault : MergeFault) → (IsKnown a → CheckStops (a.files name) fault)
      → MakesAtMost {T = U} merges.IsDeviceFault 1 a b (Err fault) → IfErr r (λ e. e ≡ fault) → OnOk r (merges.IsPlain fault → ⊥)
      → MakesAtMost merges.IsDeviceFault (most_at_end v) a b r
  unopened {U = U} fault stops m same wrong =
      at_most_more merges.IsDeviceFault 1 (most_at_end v) a b r (omega arith)
      (calls_told {T = U} 1 a b fault r (merges.IsPlain fault) (same_blame fault r same) wrong (plain_check a name file v fault plain stops) m)

  module _ (o : Opening) (opens : ReadsOften merges.IsDeviceFault a b (Ok o)) (first : MakesAtMost merges.IsDeviceFault 1 a b (Ok o)) (d : StoreState) where
    plain_b : IsPlainSave b name file v
    plain_b = plain_still a b o name file v opens plain

    pub unfound : {U : Type 0} (fault : SearchFault) → SearchStops b name fault
        → ((file : List ℕ) (v : Saved) → IsPlainSave b name file v → MakesAtMost {T = U} IsFailed 58 b d (Err fault))
        → IfErr r (λ e. merges.IsDeviceFault e → IsFailed fault) → OnOk r (IsPlainSearch fault → ⊥)
        → MakesAtMost merges.IsDeviceFault (most_at_end v) a d r
    unfound {U = U} fault stops m same wrong =
        at_most_both merges.IsDeviceFault 1 58 (most_at_end v) a b d o r (omega arith) opens.known first
        (calls_told {T = U} 58 b d fault r (IsPlainSearch fault) same wrong (plain_search b name file v fault plain_b stops) (m file v plain_b))

    module _ (s : Place) (finds : ReadsOften IsFailed b d (Ok s)) (second : (file : List ℕ) (v : Saved) → IsPlainSave b name file v
        → MakesAtMost IsFailed 58 b d (Ok s)) (next : AreCountsNext b name s) (unread : s.unread ≡ []) (e : StoreState) where
      plain_d : IsPlainSave d name file v
      plain_d = plain_still b d s name file v finds plain_b

      known_d : d.is_known ≡ a.is_known
      known_d = finds.known ∙ opens.known

      two : MakesAtMost {T = Unit {0}} merges.IsDeviceFault 59 a d (Ok tt)
      two =
          at_most_both merges.IsDeviceFault 1 58 59 a b d o (Ok tt) (omega arith) opens.known first
          (calls_as 58 b d s tt (second file v plain_b))

      ahead : reads_ahead s file ≡ blocks_in (length (lines_from [] v.mirror)) + 1
      ahead = ap (λ (l : List ℕ). blocks_in (length l) + 1) (sym (ap (λ (l : List ℕ). l ++ drop s.from file) unread) ∙ next file v plain_b.has plain.spells)

      pub unread_there : {U : Type 0} (new : Place) (fault : MergeFault) → (IsKnown a → (f : List ℕ) → a.files name ≡ Some f → BeginsSave f o.head)
          → ((f : List ℕ) → HasFile d name f → LineStops f fault (both_at (most_counted o.head) (left_of s f)))
          → ((f : List ℕ) → HasFile d name f
          → Advances {T = U} merges.IsDeviceFault (reads_ahead s f) (λ _. reads_ahead new f) d e (Err fault))
          → IfErr r (λ e. e ≡ fault) → OnOk r (merges.IsPlain fault → ⊥) → MakesAtMost merges.IsDeviceFault (most_at_end v) a e r
      unread_there {U = U} new fault begins stops m same wrong =
          let same_ahead = ahead in
          at_most_both merges.IsDeviceFault 59 (reads_ahead s file) (most_at_end v) a d e tt r (omega (arith, same_ahead)) known_d two
          (calls_told {T = U} (reads_ahead s file) d e fault r (merges.IsPlain fault) (same_blame fault r same) wrong
          (plain_counts a b d name file v o s fault opens finds next begins plain stops)
          (at_most (reads_ahead s file) d e (Err fault) (m file plain_d.has) (omega arith)))

      module _ {C : Type 0} (counts : C) (reads : ReadsOften merges.IsDeviceFault d e (Ok counts)) (new : Place) (third : (f : List ℕ) → HasFile d name f
          → Advances merges.IsDeviceFault (reads_ahead s f) (λ _. reads_ahead new f) d e (Ok counts)) (h : StoreState) where
        three : MakesAtMost {T = Unit {0}} merges.IsDeviceFault (60 + blocks_in (length (lines_from [] v.mirror))) a e (Ok tt)
        three =
            let same_ahead = ahead in
            at_most_both merges.IsDeviceFault 59 (reads_ahead s file) (60 + blocks_in (length (lines_from [] v.mirror))) a d e tt (Ok tt)
            (omega (arith, same_ahead)) known_d two
            (calls_as (reads_ahead s file) d e counts tt (at_most (reads_ahead s file) d e (Ok counts) (third file plain_d.has) (omega arith)))

        pub reopened : {U V : Type 0} (p : U) (x : V) → MakesAtMost merges.IsDeviceFault 1 e h (Ok p)
            → MakesAtMost merges.IsDeviceFault (most_at_end v) a h (Ok x)
        reopened p x m =
            at_most_both merges.IsDeviceFault (60 + blocks_in (length (lines_from [] v.mirror))) 1 (most_at_end v) a e h tt (Ok x) (omega arith)
            (reads.known ∙ known_d) three (calls_as 1 e h p x m)

        pub not_reopened : {U : Type 0} (fault : MergeFault) → (IsKnown e → CheckStops (e.files name) fault)
            → MakesAtMost {T = U} merges.IsDeviceFault 1 e h (Err fault) → IfErr r (λ e. e ≡ fault) → OnOk r (merges.IsPlain fault → ⊥)
            → MakesAtMost merges.IsDeviceFault (most_at_end v) a h r
        not_reopened {U = U} fault stops m same wrong =
            at_most_both merges.IsDeviceFault (60 + blocks_in (length (lines_from [] v.mirror))) 1 (most_at_end v) a e h tt r (omega arith)
            (reads.known ∙ known_d) three
            (calls_told {T = U} 1 e h fault r (merges.IsPlain fault) (same_blame fault r same) wrong
            (plain_check e name file v fault (plain_still d e counts name file v reads plain_d) stops) m)
