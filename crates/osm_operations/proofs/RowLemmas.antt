-- Why a publication stops, from what its run said.
use Rattle.std.proofs.Common.{◌≡◌, ℕ, ◌+◌, ◌<◌, ◌≤◌, List, length, true, Option, None, Some, inl, inr, arith, refl, sym, ap, subst, ◌∙◌}
use Rattle.std.specs.Prelude.{IsTrue}
use Rattle.std.proofs.lemmas.Bool.{cases_lt}
use Rattle.std.proofs.lemmas.Option.{same_Some}
use Rattle.osm_model.specs.Change.{ChangeValue}
use Rattle.osm_model.specs.Time.{Shows, TimeText}
use Rattle.osm_opl.proofs.RoundTrip as opl_trip
use Rattle.osm_opl.specs.File.{SpellsOpl}
use Rattle.osm_opl.specs.Written.{opl_text}
use Rattle.osm_publisher.specs.Published.{PublishedValue, sequence_at}
use Rattle.osm_publisher.specs.Publisher.{IsTooLarge}
use Rattle.osm_store.specs.Files.{Files}
use Rattle.osm_runs.specs.Folder.{IsFolderOf}
use Rattle.osm_runs.specs.Names.{top_name_of}
use Rattle.osm_publishing.specs.Publication.{PublishStopsOver, PublishOut, PublishStops, file_after}
use Rattle.osm_runs.specs.Runs.{IsDeviceFault, LacksCalls}
use Rattle.osm_runs.specs.declared.fault.RunFault.{RunFault}
use Rattle.osm_runs.specs.declared.fault.FileName.TheVariants.{Changes, Top}
use Rattle.osm_runs.specs.declared.fault.RunFault.TheVariants.{WantOfMemory, ReadFault, WriteFault, TooLarge, Absent}
use Rattle.osm_runs.specs.declared.fault.RunFault.TheVariants.{BadChange, TimeBack, SequenceFull, BadNow}
use Rattle.osm_publishing.proofs.FolderLemmas.{goes_on_number}
use Rattle.osm_operations.specs.Allowed.{KilledPublicationStopsIn, PublicationStopsIn}
use Rattle.osm_operations.specs.Stepping.{AreChangesPut, ChangesStop, IsNoDevice}
use Rattle.osm_operations.proofs.AgreeLemmas.{one_shown, read_batch}

-- the file of changes wasn't written
pub unwritten_row : (p : List PublishedValue) (batch : List ChangeValue) (time calls : ℕ) (fault : RunFault)
    → ChangesStop batch fault → KilledPublicationStopsIn p batch time calls fault
unwritten_row p batch time calls WantOfMemory h = tt
unwritten_row p batch time calls (TooLarge file) h = (h.0, inl h.1)
unwritten_row p batch time calls fault h = absurd h

-- the run stopped
pub stopped_row : (p : List PublishedValue) (dir changes now : List ℕ) (batch : List ChangeValue) (time calls : ℕ)
    (f m g : Files) (fault : RunFault) → IsFolderOf p m dir → PublishOut dir m (Some calls) fault → Shows now time
    → (1 ≤ time → TimeText now time) → AreChangesPut changes batch f m
    → PublishStops (IsTrue true) dir changes now m g fault → PublishStopsOver p now fault
    → KilledPublicationStopsIn p batch time calls fault
stopped_row p dir changes now batch time calls f m g BadNow folder out shows is_text put stops r = elim (cases_lt 0 time) [
  | inl some ↦ absurd (r time (is_text some))
  | inr none ↦ omega (arith, none)
]
stopped_row p dir changes now batch time calls f m g WantOfMemory folder out shows is_text put stops r = tt
stopped_row p dir changes now batch time calls f m g (ReadFault file) folder out shows is_text put stops r = elim out [
  | inl first ↦ inl (same_Some _ _ first.0, first.1)
  | inr second ↦ inr (same_Some _ _ second.0, second.1)
]
stopped_row p dir changes now batch time calls f m g (WriteFault file) folder out shows is_text put stops r =
    let number = goes_on_number p (m (top_name_of dir)) out.0 out.1 folder.sequences folder.top out.3 in
    (out.2, out.4, same_Some _ _ out.5, out.6 ∙ ap (λ k. file_after (k + 1) out.2) number)
stopped_row p dir changes now batch time calls f m g (Absent file) folder out shows is_text put (inl h) r =
    let gone = h.0.2 refl in
    absurd (let e : None ≡ Some (opl_text batch) = sym gone.1 ∙ put.put.there in cc)
stopped_row p dir changes now batch time calls f m g (Absent file) folder out shows is_text put (inr h) r = absurd h.0.2
stopped_row p dir changes now batch time calls f m g (TooLarge file) folder out shows is_text put (inl h) r = elim h.0.1 [
  | inl a ↦ absurd (let e : Top ≡ Changes = sym a.0 ∙ r in cc)
  | inr rest ↦ elim rest [
    | inl a ↦ (
        let over = (a.1 refl).1 in
        let long = ap length (same_Some _ _ (sym over.there ∙ put.put.there)) in
        let more = over.over in
        let small = put.small in
        absurd (omega (arith, long, more, small)))
    | inr a ↦ (
        let b = a.1 refl in
        (a.0, subst IsTooLarge (read_batch dir changes now batch f m b.read.bytes b.publisher.pending put b.read.there b.read.spelled) b.is_so.1))
  ]
]
stopped_row p dir changes now batch time calls f m g (TooLarge file) folder out shows is_text put (inr h) r = absurd h.0.2
stopped_row p dir changes now batch time calls f m g (BadChange file place why) folder out shows is_text put (inl h) r =
    let bad = (h.0.2 refl).1 in
    let same = same_Some _ _ (sym put.put.there ∙ bad.there) in
    absurd (bad.faulty.nothing batch (subst (λ bytes. SpellsOpl bytes batch) same (opl_trip.text_spells batch put.limits)))
stopped_row p dir changes now batch time calls f m g (BadChange file place why) folder out shows is_text put (inr h) r = absurd h.0.2
stopped_row p dir changes now batch time calls f m g SequenceFull folder out shows is_text put stops r = r
stopped_row p dir changes now batch time calls f m g TimeBack folder out shows is_text put stops r =
    (r.some, subst (λ t. t < (sequence_at p (length p)).time) (one_shown now r.time time r.now_is.shows shows) r.before)
stopped_row p dir changes now batch time calls f m g fault folder out shows is_text put stops r = absurd r

-- a run with no limit isn't refused by the device
pub out_unlimited : (dir : List ℕ) (f : Files) (fault : RunFault) → PublishOut dir f None fault → PublishOut dir f (Some 0) fault × IsNoDevice fault
out_unlimited dir f (ReadFault file) (inl h) = absurd (let e = h.0 in cc)
out_unlimited dir f (ReadFault file) (inr h) = absurd (let e = h.0 in cc)
out_unlimited dir f (WriteFault file) h = absurd (let e = h.5 in cc)
out_unlimited dir f fault h = (h, h)

pub unwritten_no_device : (batch : List ChangeValue) (fault : RunFault) → ChangesStop batch fault → IsNoDevice fault
unwritten_no_device batch WantOfMemory h = tt
unwritten_no_device batch (TooLarge file) h = tt
unwritten_no_device batch fault h = absurd h

-- the device wasn't to blame
pub no_device_lacks : (k : ℕ) (left : Option ℕ) (fault : RunFault) → IsNoDevice fault → LacksCalls k left fault
no_device_lacks k left (ReadFault file) none = λ blame. absurd none
no_device_lacks k left (WriteFault file) none = λ blame. absurd none
no_device_lacks k left fault none = λ blame. absurd blame

-- it never is
pub never_refuses : (fault : RunFault) → (IsDeviceFault fault → ⊥) → IsNoDevice fault
never_refuses (ReadFault file) never = never tt
never_refuses (WriteFault file) never = never tt
never_refuses fault never = tt

pub not_killed : (p : List PublishedValue) (batch : List ChangeValue) (time calls : ℕ) (fault : RunFault)
    → IsNoDevice fault → KilledPublicationStopsIn p batch time calls fault → PublicationStopsIn p batch time fault
not_killed p batch time calls (ReadFault file) none h = absurd none
not_killed p batch time calls (WriteFault file) none h = absurd none
not_killed p batch time calls fault none h = h
