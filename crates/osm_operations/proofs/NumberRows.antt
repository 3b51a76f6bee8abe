-- Why a publication by number stops, from what its run said.
use Rattle.std.proofs.Common.{◌≡◌, ℕ, zero, suc, ◌+◌, ◌<◌, ◌≤◌, List, length, true, false, None, Some, inl, inr, arith, refl, sym, ap, subst, ◌∙◌}
use Rattle.std.specs.Prelude.{◌⊎◌, ◌==◌, if◌then◌else◌, IsTrue}
use Rattle.std.proofs.lemmas.Bool.{cases_lt, ne_eqb}
use Rattle.std.proofs.lemmas.Option.{same_Some}
use Rattle.osm_model.specs.Change.{ChangeValue}
use Rattle.osm_model.specs.Filter.{FilterValue}
use Rattle.osm_model.specs.Limits.{max_sequence}
use Rattle.osm_model.specs.Time.{TimeText}
use Rattle.osm_opl.proofs.RoundTrip as opl_trip
use Rattle.osm_opl.specs.File.{SpellsOpl}
use Rattle.osm_opl.specs.Written.{opl_text}
use Rattle.osm_state.specs.declared.paths.Suffix.TheVariants.{O5c, Opl, State}
use Rattle.osm_publisher.specs.Published.{PublishedValue, sequence_at}
use Rattle.osm_publisher.specs.Publisher.{IsTooLarge}
use Rattle.osm_reading.specs.Sequence.{SpellsSequence}
use Rattle.osm_store.specs.Files.{Files}
use Rattle.osm_runs.specs.Folder.{IsFolderOf, IsThere}
use Rattle.osm_runs.specs.Following.{is_lost}
use Rattle.osm_runs.specs.Names.{top_name_of}
use Rattle.osm_publishing.specs.Numbered.{IsFileOfNumber, IsRepeatOf, NumberedOut}
use Rattle.osm_publishing.specs.Numbered.{NumberedStopsOver, NumberedStops, calls_before, file_read_after}
use Rattle.osm_publishing.specs.Publication.{CutsOff, file_after}
use Rattle.osm_runs.specs.declared.fault.FileName.{FileName}
use Rattle.osm_runs.specs.declared.fault.FileName.TheVariants.{Changes, Sequence, Top}
use Rattle.osm_runs.specs.declared.fault.RunFault.{RunFault}
use Rattle.osm_runs.specs.declared.fault.RunFault.TheVariants.{WantOfMemory, ReadFault, WriteFault, TooLarge, Absent}
use Rattle.osm_runs.specs.declared.fault.RunFault.TheVariants.{BadChange, TimeBack, BadNow, BadSequence}
use Rattle.osm_runs.specs.declared.fault.RunFault.TheVariants.{Differs, TopAt}
use Rattle.osm_publishing.proofs.FolderLemmas.{goes_on_number}
use Rattle.osm_operations.specs.Allowed.{CutsAfter, IsRepeat, KilledNumberedStopsIn, NumberedStopsIn}
use Rattle.osm_operations.specs.History as hist
use Rattle.osm_operations.specs.Stepping.{ChangesStop, IsNoDevice, IsNumberText, IsPublishRun, StopsPublishingAs}
use Rattle.osm_operations.proofs.AgreeLemmas.{Agrees, one_shown}
use Rattle.osm_operations.proofs.FollowLemmas.{lost_same}
use Rattle.osm_operations.proofs.NumberedLemmas.{asked_is}

-- the file of changes wasn't written
pub unwritten_number : (h : hist.History) (batch : List ChangeValue) (time n calls : ℕ) (fault : RunFault)
    → ChangesStop batch fault → KilledNumberedStopsIn h batch time n calls fault
unwritten_number h batch time n calls WantOfMemory e = tt
unwritten_number h batch time n calls (TooLarge file) e = (e.0, inl e.1)
unwritten_number h batch time n calls fault e = absurd e

-- the file of the next read is the top state's or that of the changes only before the others
pub place_read : (n count : ℕ) → ((file_read_after n count ≡ Top) ⊎ (file_read_after n count ≡ Changes)) → count < 2
place_read n zero h = omega arith
place_read n (suc zero) h = omega arith
place_read n (suc (suc zero)) (inl h) = absurd (let e : Sequence n State ≡ Top = h in cc)
place_read n (suc (suc zero)) (inr h) = absurd (let e : Sequence n State ≡ Changes = h in cc)
place_read n (suc (suc (suc zero))) (inl h) = absurd (let e : Sequence n O5c ≡ Top = h in cc)
place_read n (suc (suc (suc zero))) (inr h) = absurd (let e : Sequence n O5c ≡ Changes = h in cc)
place_read n (suc (suc (suc (suc count)))) (inl h) = absurd (let e : Sequence n Opl ≡ Top = h in cc)
place_read n (suc (suc (suc (suc count)))) (inr h) = absurd (let e : Sequence n Opl ≡ Changes = h in cc)

least_before : (n top : ℕ) → 2 ≤ calls_before n top
least_before n top = elim (n == top + 1) as (λ b. 2 ≤ (if b then 2 else 5)) [
  | true ↦ omega arith
  | false ↦ omega arith
]

old_before : (n top : ℕ) → n ≤ top → calls_before n top ≡ 5
old_before n top old = rw (ne_eqb n (top + 1) (λ e. omega (arith, e, old))) refl

-- the place of a file among the four that are written
abbrev place_in : FileName → ℕ
place_in (Sequence k O5c) = 0
place_in (Sequence k Opl) = 1
place_in (Sequence k State) = 2
place_in file = 3

place_after : (n count : ℕ) → count < 4 → place_in (file_after n count) ≡ count
place_after n zero small = refl
place_after n (suc zero) small = refl
place_after n (suc (suc zero)) small = refl
place_after n (suc (suc (suc zero))) small = refl
place_after n (suc (suc (suc (suc count)))) small = absurd (omega arith)

-- the call that failed is the one of the write that wasn't made
pub cuts_after : (p : List PublishedValue) (dir sequence : List ℕ) (files : Files) (n calls count : ℕ)
    (fault : RunFault) → IsNumberText n sequence → IsFolderOf p files dir → n ≡ length p → count < 4
    → CutsOff n count fault → NumberedOut dir sequence files (Some calls) fault → CutsAfter n calls count fault
cuts_after p dir sequence files n calls count WantOfMemory text folder newest small cut out = tt
cuts_after p dir sequence files n calls count (WriteFault file) text folder newest small cut out =
    let number = text.only out.0 out.4 in
    let top = goes_on_number p (files (top_name_of dir)) out.1 out.2 folder.sequences folder.top out.5 in
    let same : out.3 ≡ count = sym (place_after n out.3 out.6)
    ∙ (ap place_in (ap (λ k. file_after k out.3) (sym number) ∙ (sym out.8 ∙ cut)) ∙ place_after n count small) in
    let before : calls_before out.0 out.1 ≡ 5 = old_before out.0 out.1 (omega (arith, number, top, newest)) in
    let left : calls ≡ calls_before out.0 out.1 + out.3 = same_Some _ _ out.7 in
    (omega (arith, left, before, same), cut)
cuts_after p dir sequence files n calls count fault text folder newest small cut out = absurd cut

-- the run stopped
pub stopped_number : (h : hist.History) (given : FilterValue) (dir save changes extract : List ℕ) (start f g l : Files) (c : ℕ) (m : hist.Standing)
    (batch : List ChangeValue) (time n calls : ℕ) (fault : RunFault)
    → (run : IsPublishRun dir changes batch time f g (StopsPublishingAs (Some calls) dir changes n fault g))
    → Agrees (hist.published_of h) (hist.is_file_lost h) m given dir save changes extract start run.middle l c
    → KilledNumberedStopsIn h batch time n calls fault
stopped_number h given dir save changes extract start f g l c m batch time n calls fault run s =
    by_fault fault run.is_so.stops (run.is_so.refuses (hist.published_of h) s.folder) run.is_so.out
  where
    p : List PublishedValue
    p = hist.published_of h

    number_of : (k : ℕ) → SpellsSequence run.is_so.sequence k → k ≡ n
    number_of = run.is_so.number_is.only

    old_number : (file : FileName) → IsFileOfNumber (IsTrue true) dir changes run.now run.is_so.sequence run.middle file → n ≤ length p
    old_number file is =
        let old = is.old refl in
        let top = goes_on_number p (run.middle (top_name_of dir)) old.top old.time s.folder.sequences s.folder.top old.asked.goes_on in
        let number = number_of old.asked_for.number old.asked.number_is in
        let within = old.is_so.1 in
        omega (arith, top, number, within)

    by_read : (file : FileName) (number count : ℕ) → number ≡ n → count < 5 → calls ≡ count
        → file ≡ file_read_after number count
        → ((file ≡ Top) ⊎ (file ≡ Changes) ⊎ IsFileOfNumber (IsTrue true) dir changes run.now run.is_so.sequence
        run.middle file) → (calls < calls_before n (length p)) × (file ≡ file_read_after n calls)
    by_read file number count at small left file_is why = (
      elim why [
        | inl top ↦ (let low = place_read number count (inl (sym file_is ∙ top)) in let least = least_before n (length p) in omega (arith, left, low, least))
        | inr rest ↦ elim rest [
          | inl other ↦ (let low = place_read number count (inr (sym file_is ∙ other)) in
              let least = least_before n (length p) in omega (arith, left, low, least))
          | inr is ↦ (let five = old_before n (length p) (old_number file is) in omega (arith, left, small, five))
        ]
      ],
      file_is ∙ (ap (λ k. file_read_after k count) at ∙ ap (file_read_after n) (sym left)),
    )

    first_two : (file : FileName) (known : Type 0)
        → ((file ≡ Top) ⊎ ((file ≡ Changes) × known) ⊎ IsFileOfNumber (IsTrue true) dir changes run.now
        run.is_so.sequence run.middle file) → (file ≡ Top) ⊎ (file ≡ Changes)
        ⊎ IsFileOfNumber (IsTrue true) dir changes run.now run.is_so.sequence run.middle file
    first_two file known (inl e) = inl e
    first_two file known (inr (inl e)) = inr (inl e.0)
    first_two file known (inr (inr e)) = inr (inr e)

    by_fault : (fault : RunFault) → NumberedStops (IsTrue true) dir changes run.now run.is_so.sequence run.middle g
        fault → NumberedStopsOver p dir changes run.now run.is_so.sequence run.middle fault
        → NumberedOut dir run.is_so.sequence run.middle (Some calls) fault
        → KilledNumberedStopsIn h batch time n calls fault
    by_fault BadNow stops r out = elim (cases_lt 0 time) [
      | inl some ↦ absurd (r time (run.is_text some))
      | inr none ↦ omega (arith, none)
    ]
    by_fault BadSequence stops r out = elim (cases_lt max_sequence n) [
      | inl past ↦ past
      | inr within ↦ absurd (r n (run.is_so.number_is.spelled within))
    ]
    by_fault WantOfMemory stops r out = tt
    by_fault (ReadFault file) (inl a) r out = by_read file out.0 out.1 (number_of out.0 out.2) out.3 (same_Some _ _ out.4) out.5 (first_two file _ a.0.1)
    by_fault (ReadFault file) (inr a) r out = absurd a.0.2
    by_fault (WriteFault file) stops r out =
        let number = number_of out.0 out.4 in
        let top = goes_on_number p (run.middle (top_name_of dir)) out.1 out.2 s.folder.sequences s.folder.top out.5 in (
          out.3,
          out.6,
          same_Some _ _ out.7 ∙ ap (λ k. k + out.3) (ap (λ k. calls_before k out.1) number
              ∙ ap (calls_before n) top),
          out.8 ∙ ap (λ k. file_after k out.3) number,
        )
    by_fault (Absent file) (inl a) r out =
        let missing = a.0.2 refl in
        absurd (let e : None ≡ Some (opl_text batch) = sym missing.1 ∙ run.there.put.there in cc)
    by_fault (Absent file) (inr a) r out = absurd a.0.2
    by_fault (TooLarge file) (inl a) r out = elim a.0.1 [
      | inl top ↦ absurd (let e : Top ≡ Changes = sym top.0 ∙ r in cc)
      | inr rest ↦ elim rest [
        | inl big ↦ (
            let over = (big.1 refl).1 in
            let long = ap length (same_Some _ _ (sym over.there ∙ run.there.put.there)) in
            let more = over.over in
            let small = run.there.small in
            absurd (omega (arith, long, more, small)))
        | inr big ↦ (
            let b = big.1 refl in (
              big.0,
              subst IsTooLarge
                  (ap (λ (x : PublishedValue). x.changes) (asked_is dir changes run.now run.is_so.sequence batch time n f
                  run.middle b.top b.time b.asked_for run.is_so.number_is run.shows run.there b.asked)) b.is_so.1,
            ))
      ]
    ]
    by_fault (TooLarge file) (inr a) r out = absurd a.0.2
    by_fault (BadChange file place why) (inl a) r out =
        let bad = (a.0.2 refl).1 in
        let same = same_Some _ _ (sym run.there.put.there ∙ bad.there) in
        absurd (bad.faulty.nothing batch (subst (λ bytes. SpellsOpl bytes batch) same (opl_trip.text_spells batch run.there.limits)))
    by_fault (BadChange file place why) (inr a) r out = absurd a.0.2
    by_fault TimeBack stops r out = (
      sym (number_of (length p + 1) r.0),
      (
        r.1.some,
        subst (λ t. t < (sequence_at p (length p)).time)
            (one_shown run.now r.1.time time r.1.now_is.shows run.shows) r.1.before,
      ),
    )
    by_fault (TopAt top) stops r out = (r.0, far r.1.2)
      where
        far : (r.1.0 ≡ 0) ⊎ (top + 1 < r.1.0) → (n ≡ 0) ⊎ (length p + 1 < n)
        far (inl e) = inl (sym (number_of r.1.0 r.1.1) ∙ e)
        far (inr e) = inr (let at = number_of r.1.0 r.1.1 in let same = r.0 in omega (arith, e, at, same))
    by_fault (Differs k) stops r out =
        let at = number_of k r.0 in (
          at,
          subst (λ i. 0 < i) at r.1,
          subst (λ i. i ≤ length p) at r.2,
          λ is. subst (λ i. IsRepeatOf run.middle dir changes run.now (sequence_at p i) → ⊥) at r.3 (repeat_of is),
        )
      where
        repeat_of : IsRepeat h batch time n → IsRepeatOf run.middle dir changes run.now (sequence_at p n)
        repeat_of is =
            let value = is.2 in
            let number : (sequence_at p n).number ≡ n = ap (λ (x : PublishedValue). x.number) value in
            record {
              changes_are = subst (λ o. IsThere o (λ bytes. SpellsOpl bytes (sequence_at p n).changes)) (sym run.there.put.there)
                  (subst (SpellsOpl (opl_text batch)) (sym (ap (λ (x : PublishedValue). x.changes) value)) (opl_trip.text_spells batch run.there.limits));
              time_is = subst (TimeText run.now) (sym (ap (λ (x : PublishedValue). x.time) value))
                  (run.is_text (subst (λ t. 1 ≤ t) (ap (λ (x : PublishedValue). x.time) value) (s.folder.sequences n is.0 is.1).time.low));
              found = subst (λ i. is_lost run.middle dir i ≡ false) (sym number)
                  (lost_same p (hist.is_file_lost h) m given dir save changes extract start run.middle l c n s is.0 is.1 ∙ is.3);
            }
    by_fault fault stops r out = absurd r

-- a run with no limit isn't refused by the device
pub number_unlimited : (dir sequence : List ℕ) (f : Files) (fault : RunFault) → NumberedOut dir sequence f None fault
    → NumberedOut dir sequence f (Some 0) fault × IsNoDevice fault
number_unlimited dir sequence f (ReadFault file) out = absurd (let e = out.4 in cc)
number_unlimited dir sequence f (WriteFault file) out = absurd (let e = out.7 in cc)
number_unlimited dir sequence f fault out = (out, out)

pub number_not_killed : (h : hist.History) (batch : List ChangeValue) (time n calls : ℕ) (fault : RunFault)
    → IsNoDevice fault → KilledNumberedStopsIn h batch time n calls fault → NumberedStopsIn h batch time n fault
number_not_killed h batch time n calls (ReadFault file) none e = absurd none
number_not_killed h batch time n calls (WriteFault file) none e = absurd none
number_not_killed h batch time n calls fault none e = e

-- such a run is cut off for want of memory
pub cut_unlimited : (n calls count : ℕ) (fault : RunFault) → IsNoDevice fault → CutsAfter n calls count fault → fault ≡ WantOfMemory
cut_unlimited n calls count WantOfMemory none cut = refl
cut_unlimited n calls count (WriteFault file) none cut = absurd none
cut_unlimited n calls count fault none cut = absurd cut
