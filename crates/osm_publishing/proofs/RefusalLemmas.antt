-- Why a publication into the folder of published sequences is refused.
use Rattle.std.proofs.Common.{◌≡◌, ℕ, ◌<◌, List, Option, Some, None, inl, inr, arith, sym, ap, ◌∙◌}
use Rattle.osm_model.specs.Time.{TimeText}
use Rattle.osm_publisher.specs.Published.{PublishedValue}
use Rattle.osm_state.proofs.StateLemmas.{one_state}
use Rattle.osm_state.specs.State.{StateValue}
use Rattle.osm_state.specs.StateLaws.{NoFaultBesideState}
use Rattle.osm_store.specs.Files.{Files}
use Rattle.osm_runs.specs.Folder.{IsFolderOf, IsTop}
use Rattle.osm_runs.specs.Names.{top_name_of}
use Rattle.osm_publishing.specs.Publication.{CutsOff, PublishStopsOver, GoesOnFrom, IsBeforeLast, NotReady}
use Rattle.osm_runs.specs.declared.fault.RunFault.{RunFault}
use Rattle.osm_runs.specs.declared.fault.RunFault.TheVariants.{WantOfMemory, ReadFault, WriteFault, TooLarge, Absent}
use Rattle.osm_runs.specs.declared.fault.RunFault.TheVariants.{BadState, BadChange, TimeBack, SequenceFull, BadNow}
use Rattle.osm_publishing.proofs.FolderLemmas.{goes_on_number}
use Rattle.osm_runs.proofs.TopLemmas.{good_top, small_top}

pub before_last : (p : List PublishedValue) (told : Option (List ℕ)) (now : List ℕ) (number last time : ℕ)
    → IsTop p told → GoesOnFrom told number last → TimeText now time → time < last → IsBeforeLast p now
before_last p None now number last time t g is back =
    let limits = is.limits in
    let low = limits.low in
    absurd (omega (arith, g.1, low, back))
before_last p (Some bytes) now number last time (inl a) g is back = absurd (let e = a.1 in cc)
before_last p (Some bytes) now number last time (inr a) g is back =
    let same = ap (λ (s : StateValue). s.time) (one_state bytes (record { sequence = number; time = last }) _ g.names a.1.names) in
    record { time = time; now_is = is; some = a.0; before = omega (arith, same, back) }

pub not_ready : NoFaultBesideState → (known : Type 0) (p : List PublishedValue) (dir changes now : List ℕ) (f : Files)
    (fault : RunFault) → known → IsFolderOf p f dir → NotReady known dir changes now f fault → PublishStopsOver p now fault
not_ready law known p dir changes now f BadNow known_now is h = h
not_ready law known p dir changes now f WantOfMemory known_now is h = tt
not_ready law known p dir changes now f (ReadFault file) known_now is h = tt
not_ready law known p dir changes now f (WriteFault file) known_now is h = tt
not_ready law known p dir changes now f (BadState file cause) known_now is h = good_top law p (f (top_name_of dir)) cause is.top (h.2 known_now)
not_ready law known p dir changes now f (Absent file) known_now is h = h.1
not_ready law known p dir changes now f (TooLarge file) known_now is (t, inl a) = absurd (small_top p (f (top_name_of dir)) is.top (a.1 known_now))
not_ready law known p dir changes now f (TooLarge file) known_now is (t, inr (inl a)) = a.0
not_ready law known p dir changes now f (TooLarge file) known_now is (t, inr (inr a)) = a.0
not_ready law known p dir changes now f (BadChange file place why) known_now is h = h.1
not_ready law known p dir changes now f SequenceFull known_now is h =
    let r = h.1 known_now in
    let n = goes_on_number p (f (top_name_of dir)) r.publisher.number r.publisher.time is.sequences is.top r.read.goes_on in
    sym n ∙ r.is_so
not_ready law known p dir changes now f TimeBack known_now is h =
    let r = h.1 known_now in
    before_last p (f (top_name_of dir)) now r.publisher.number r.publisher.time r.time is.top r.read.goes_on r.read.now_is r.is_so.1
not_ready law known p dir changes now f fault known_now is h = absurd h

pub cut_off : (p : List PublishedValue) (now : List ℕ) (number count : ℕ) (fault : RunFault) → CutsOff number count fault → PublishStopsOver p now fault
cut_off p now number count WantOfMemory h = tt
cut_off p now number count (WriteFault file) h = tt
cut_off p now number count fault h = absurd h
