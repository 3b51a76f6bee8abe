-- A write of a publication, under the names that were made for it.
use Rattle.std.proofs.Common.{◌≡◌, ℕ, ◌+◌, ◌<◌, ◌≤◌, List, take, Option, Some, None, inr, arith, subst, refl, sym, ap, ◌∙◌}
use Rattle.std.specs.Prelude.{Result, Ok, Err, IfErr, IfOk, OnErr, OnOk}
use Rattle.osm_model.specs.Change.{ChangeValue}
use Rattle.osm_model.specs.Limits.{max_sequence}
use Rattle.osm_model.specs.Time.{TimeText}
use Rattle.osm_publisher.specs.Published.{PublishedTexts, PublishedValue, written_of}
use Rattle.osm_publisher.specs.Publisher.{CanClose, PublisherValue, closing}
use Rattle.osm_state.specs.State.{StateValue}
use Rattle.osm_store.specs.Files.{Files, Puts}
use Rattle.osm_runs.specs.Folder.{IsApart, IsFolderOf}
use Rattle.osm_runs.specs.Following.{FindTopStops, FindsTop}
use Rattle.osm_runs.specs.Names.{top_name_of}
use Rattle.osm_publishing.specs.Publication.{CutsOff, GoesOnFrom, IsAdded, IsRead, IsReady, NotReady, Writes, file_after, writes_of}
use Rattle.osm_runs.specs.Reports.{ReportValue, publish_report_of}
use Rattle.osm_publishing.specs.Steps.Publishing.{AreNames, CloseStops, IsChangesOf, IsMade, IsMadeOf, TopStops, from_top, writes_to}
use Rattle.osm_runs.specs.Writing.{PutStops}
use Rattle.osm_runs.specs.declared.fault.RunFault.{RunFault}
use Rattle.osm_runs.specs.declared.fault.RunFault.TheVariants.{WantOfMemory, ReadFault, WriteFault, TooLarge, BadState, TimeBack, SequenceFull}
use Rattle.osm_publishing.specs.declared.publish.FolderNames.{FolderNames}
use Rattle.osm_publishing.specs.declared.publish.Publication.{Publication}
use Rattle.osm_publishing.proofs.FolderLemmas.{all_add, goes_on_number, last_time, ready_written, some_keep, writes_others}

cuts : (number count : ℕ) (fault : RunFault) → PutStops (file_after number count) fault → CutsOff number count fault
cuts number count WantOfMemory h = tt
cuts number count (WriteFault file) h = h
cuts number count fault h = absurd h

pub cut_at : (m number count : ℕ) (fault : RunFault) → m ≡ number → PutStops (file_after m count) fault → CutsOff number count fault
cut_at m number count fault e h = subst (λ n. CutsOff n count fault) e (cuts m count fault h)

pub renamed : (f g : Files) (m n bs cs : List ℕ) → m ≡ n → bs ≡ cs → Puts f m (Some bs) g → Puts f n (Some cs) g
renamed f g m n bs cs e d p = subst (λ xs. Puts f n (Some xs) g) d (subst (λ xs. Puts f xs (Some bs) g) e p)

pub writes_same : (dir : List ℕ) (names : FolderNames) (p : PublishedTexts) → AreNames dir p.number names → writes_to names p ≡ writes_of dir p
writes_same dir names p are = rw (are.o5c, are.opl, are.state, are.top) refl

pub err_both : {T E Q : Type 0} (P R : E → Type 0) (r : Result T E) → IfErr r P → OnErr r Q → ((y : E) → P y → Q → R y) → IfErr r R
err_both P R (Ok x) p q f = tt
err_both P R (Err y) p q f = f y p q

-- the writes that were made, as those of the folder
pub made_writes : (known : Type 0) (dir changes now : List ℕ) (f h g : Files) (made : Publication)
    (m : IsMade known dir changes now f made) (count : ℕ) → h ≡ f
    → Writes (take count (writes_to made.names made.published)) h g
    → Writes (take count (writes_of dir (written_of (closing m.publisher m.time)))) f g
made_writes known dir changes now f h g made m count e w =
    let same : writes_to made.names made.published ≡ writes_of dir (written_of (closing m.publisher m.time)) =
    ap (λ p. writes_to made.names p) m.published_is ∙ writes_same dir made.names (written_of (closing m.publisher m.time)) m.names_are in
    subst (λ (k : Files). Writes (take count (writes_of dir (written_of (closing m.publisher m.time)))) k g) e
    (subst (λ ws. Writes (take count ws) h g) same w)

-- a publisher that is ready publishes a number of the folder's
room_of : (dir changes now : List ℕ) (f : Files) (a : PublisherValue) (time : ℕ) → IsReady dir changes now f a time → a.number + 1 ≤ max_sequence
room_of dir changes now f a time r = let can = r.can_close in let room = can.room in omega arith

pub cut_keeps : (p : List PublishedValue) (dir changes now : List ℕ) (f g : Files) (a : PublisherValue) (time count : ℕ)
    → IsReady dir changes now f a time → count < 4 → Writes (take count (writes_of dir (written_of (closing a time)))) f
    g → IsFolderOf p f dir → IsFolderOf p g dir
cut_keeps p dir changes now f g a time count r few w is =
    let n = goes_on_number p (f (top_name_of dir)) a.number a.time is.sequences is.top r.read.goes_on in
    some_keep p dir (written_of (closing a time)) count f g few (omega (arith, n)) (room_of dir changes now f a time r) w is

pub ready_others : (dir changes now name : List ℕ) (f g : Files) (a : PublisherValue) (time count : ℕ)
    → IsReady dir changes now f a time → IsApart dir name
    → Writes (take count (writes_of dir (written_of (closing a time)))) f g → g name ≡ f name
ready_others dir changes now name f g a time count r apart w =
    writes_others dir name (written_of (closing a time)) count f g (room_of dir changes now f a time r) apart w

pub ready_adds : (p : List PublishedValue) (dir changes now : List ℕ) (f g : Files) (a : PublisherValue) (time : ℕ)
    (report : ReportValue) → IsReady dir changes now f a time → Writes (writes_of dir (written_of (closing a time))) f g
    → report ≡ publish_report_of (a.number + 1) → IsFolderOf p f dir → IsAdded p dir changes now f g report
ready_adds p dir changes now f g a time report r w e is =
    let n = goes_on_number p (f (top_name_of dir)) a.number a.time is.sequences is.top r.read.goes_on in
    record {
      added = closing a time;
      folder = all_add p dir (closing a time) f g (ap (λ k. k + 1) n) (ready_written dir changes now f a time r)
          (λ some. subst (λ t. t ≤ time) (last_time p (f (top_name_of dir)) a.number a.time some is.top r.read.goes_on) r.can_close.onward) w is;
      changes_are = rw r.read.there r.read.spelled;
      time_is = r.read.now_is;
      report_is = e ∙ ap (λ k. publish_report_of (k + 1)) n;
    }

-- what was made is what the words and the files ask for
pub all_made : (known : Type 0) (dir changes now : List ℕ) (f : Files) (a : PublisherValue) (time : ℕ)
    (r : Result Publication RunFault) → (known → IsRead dir changes now f a time)
    → IfOk r (IsMadeOf dir (closing a time)) → OnOk r (CanClose a time) → IfOk r (IsMade known dir changes now f)
all_made known dir changes now f a time (Ok made) read m can = record {
  publisher = a;
  time = time;
  ready = λ yes. record { read = read yes; can_close = can; fits = m.fits };
  published_is = m.published_is;
  names_are = m.names_are;
  report_is = m.report_is;
}
all_made known dir changes now f a time (Err fault) read m can = tt

pub not_made : (known : Type 0) (dir changes now : List ℕ) (f : Files) (a : PublisherValue) (time : ℕ)
    (fault : RunFault) → TimeText now time → (known → IsRead dir changes now f a time) → CloseStops a time fault
    → NotReady known dir changes now f fault
not_made known dir changes now f a time WantOfMemory now_is read h = (time, now_is)
not_made known dir changes now f a time SequenceFull now_is read h = ((time, now_is), λ yes. record { publisher = a; time = time; read = read yes; is_so = h })
not_made known dir changes now f a time TimeBack now_is read h = ((time, now_is), λ yes. record { publisher = a; time = time; read = read yes; is_so = h })
not_made known dir changes now f a time (TooLarge file) now_is read h =
    ((time, now_is), inr (inr (h.0, λ yes. record { publisher = a; time = time; read = read yes; is_so = (h.1, h.2) })))
not_made known dir changes now f a time fault now_is read h = absurd h

-- what was read is what a publisher goes on from
pub all_read : (dir changes now : List ℕ) (f g : Files) (top : Option StateValue) (b : PublisherValue)
    (batch : List ChangeValue) (time : ℕ) → g ≡ f → b ≡ from_top top
    → GoesOnFrom (f (top_name_of dir)) (from_top top).number (from_top top).time → IsChangesOf (g changes) batch
    → TimeText now time → IsRead dir changes now f (record b { pending = batch }) time
all_read dir changes now f g top b batch time same from goes_on read now_is =
    let there : f changes ≡ Some read.bytes = ap (λ (h : Files). h changes) (sym same) ∙ read.there in
    record {
      goes_on = rw from goes_on;
      bytes = read.bytes;
      there = there;
      small = read.small;
      spelled = read.spelled;
      now_is = now_is;
    }

-- a publisher goes on from the newest state that was found
pub goes_on_from_found : (told : Option (List ℕ)) (top : Option StateValue) → FindsTop told top → GoesOnFrom told (from_top top).number (from_top top).time
goes_on_from_found None None f = (refl, refl)
goes_on_from_found (Some bytes) None f = absurd (let e : Some bytes ≡ None = f in cc)
goes_on_from_found None (Some s) f = absurd f
goes_on_from_found (Some bytes) (Some s) f = f

-- or isn't made, for the reasons for which none is found
pub not_found : (known : Type 0) (told : Option (List ℕ)) (fault : RunFault) → FindTopStops known told fault → TopStops known told fault
not_found known told WantOfMemory h = tt
not_found known told (ReadFault file) h = h
not_found known told (TooLarge file) h = h
not_found known told (BadState file cause) h = h
not_found known told fault h = absurd h
