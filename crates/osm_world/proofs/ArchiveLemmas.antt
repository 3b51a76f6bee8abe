-- The texts of a sequence can be read; an archive of such texts with one more.
use Rattle.std.proofs.Common.{◌≡◌, ℕ, ◌+◌, ◌-◌, ◌<◌, ◌≤◌, List, [], ◌∷◌, ◌++◌, length, get_or, ap, sym, ◌∙◌, arith, inl, inr, length-append}
use Rattle.std.proofs.lemmas.Bool.{cases_lt}
use Rattle.std.proofs.lemmas.List.{get_or_append_left, get_or-append-add, get_or_default}
use Rattle.osm_model.specs.Filter.{FilterValue}
use Rattle.osm_model.specs.Limits.{max_file}
use Rattle.osm_state.proofs.StateLemmas.{one_state}
use Rattle.osm_state.proofs.WrittenLemmas.{written_is_read}
use Rattle.osm_state.specs.State.{StateValue}
use Rattle.osm_state.specs.StateText.{StateOf}
use Rattle.osm_publisher.specs.Published.{PublishedValue, PublishedTexts, IsSequence, no_texts, texts_at, written_of}
use Rattle.osm_publisher.specs.Publisher.{IsSmall}
use Rattle.osm_world.specs.Step.{DeliverStep, DeliversTo, Replies, bytes_in, fault_in, spells_in}
use Rattle.osm_world.specs.World.{WorldValue}
use Rattle.osm_world.specs.declared.event.Reply.{Reply}
use Rattle.osm_world.specs.declared.event.Reply.TheVariants.{NotPublished, Broken, Old, Again, TooEarly, WantOfMemory, Held, Applied, Broke}
use Rattle.osm_world.specs.Steps.Archive.{AreReadable, IsArchive, IsReadable, IsSaveUnder}
use Rattle.std.proofs.Common.{Option, Some, None, suc, subst}
use Rattle.std.specs.Prelude.{Err, IfSome, Ok}
use Rattle.osm_opl.specs.File.{SpellsOpl, FaultLine}
use Rattle.osm_follow.specs.Delivery.{Delivers, FaultPlaces, Spelling}
use Rattle.osm_follow.specs.declared.delivery.Delivered.TheVariants as answers
use Rattle.osm_follow.specs.declared.delivery.DeliverError.TheVariants as errors
use Rattle.osm_follow.proofs.FollowLemmas.{delivers_under_it}
use Rattle.osm_world.specs.Step.{IsFed}
use Rattle.osm_follow.specs.Follower.{FollowerValue}
use Rattle.osm_follow.specs.Restart.{Restarts}
use Rattle.osm_save.specs.declared.save.Saved.{Saved}
use Rattle.osm_follow.specs.declared.restart.RestartError.TheVariants.{BadSave, OtherFilter}
use Rattle.osm_world.specs.declared.event.Form.{Form}
use Rattle.osm_world.specs.declared.event.Form.TheVariants.{Opl, O5c}
use Rattle.osm_follow.proofs.DeliveryLemmas.{state_of}
use Rattle.osm_world.proofs.StepLemmas.{AreLawful, OneSave}

readable_in : AreLawful → (form : Form) (p : PublishedValue) → 0 < p.number → IsSequence p.number p
    → length (bytes_in form (written_of p)) ≤ max_file → IsReadable (spells_in form) (written_of p).state
    (bytes_in form (written_of p))
readable_in laws form p above is small =
    let named : StateOf (written_of p).state (state_of p) = written_is_read (state_of p) (record { sequence = is.most; time = is.time }) in
    record {
      named = λ e fault. laws.apart (written_of p).state (state_of p) e named fault;
      above = λ s names. (let same : state_of p ≡ s = one_state (written_of p).state (state_of p) s named names in
          let number : p.number ≡ s.sequence = ap (λ (t : StateValue). t.sequence) same in omega arith);
      small = small;
      some = λ nothing. nothing p.changes (laws.spelled form p is.changes);
    }

pub written_readable : AreLawful → (p : PublishedValue) → 0 < p.number → IsSequence p.number p → IsSmall p.changes → AreReadable (written_of p)
written_readable laws p above is small = record {
  in_opl = readable_in laws Opl p above is small.opl;
  in_o5c = readable_in laws O5c p above is small.o5c;
}

-- the texts at a number of the archive can be delivered
pub readable_at : (n : ℕ) (archive : List PublishedTexts) (i : ℕ) (p : PublishedTexts) → IsArchive n archive
    → i < length archive → p ≡ get_or archive i p → AreReadable p
readable_at n archive i p a below is =
    let index : i + 1 - 1 ≡ i = omega arith in
    let here : texts_at archive (i + 1) ≡ p = ap (λ (j : ℕ). get_or archive j no_texts) index ∙ (get_or_default archive i no_texts p below ∙ sym is) in
    rw here at (a.each (i + 1) (omega arith) (omega arith))

pub archive_grown : (n : ℕ) (archive : List PublishedTexts) (p : PublishedTexts) → IsArchive n archive → AreReadable p → IsArchive (n + 1) (archive ++ p ∷ [])
archive_grown n archive p a readable =
    let all : length (archive ++ p ∷ []) ≡ length archive + 1 = length-append archive (p ∷ []) in
    let count = a.count in
    record { count = omega arith; each = each }
  where
    each : (k : ℕ) → 0 < k → k ≤ length (archive ++ p ∷ []) → AreReadable (texts_at (archive ++ p ∷ []) k)
    each k above within =
        let all : length (archive ++ p ∷ []) ≡ length archive + 1 = length-append archive (p ∷ []) in
        elim (cases_lt (length archive) k) [
          | inr below ↦ (
              let here : texts_at (archive ++ p ∷ []) k ≡ texts_at archive k = get_or_append_left archive (p ∷ []) no_texts (k - 1) (omega arith) in
              rw here (a.each k above below))
          | inl past ↦ (
              let index : k - 1 ≡ length archive + 0 = omega arith in
              let here : texts_at (archive ++ p ∷ []) k ≡ p =
              ap (λ (i : ℕ). get_or (archive ++ p ∷ []) i no_texts) index
              ∙ get_or-append-add archive (p ∷ []) 0 no_texts in
              rw here readable)
        ]

-- a delivery of such texts, as a step
pub delivered_step : (a b : WorldValue) (k i : ℕ) (form : Form) (r : Reply) (p : PublishedTexts) → i < length a.archive
    → p ≡ get_or a.archive i p → i ≡ k - 1 → 0 < k → k ≤ a.publisher.number
    → Replies (spells_in form) (fault_in form) a.follower p.state (bytes_in form p) r b.follower
    → b ≡ record a { follower = b.follower } → DeliverStep a k form r b
delivered_step a b k i form r p below is index above there replies rest =
    let here : texts_at a.archive k ≡ p = ap (λ (j : ℕ). get_or a.archive j no_texts) (sym index) ∙ (get_or_default a.archive i no_texts p below ∙ sym is) in
    by_reply r (record { above = above; there = there; replies = rw here replies; rest = rest })
  where
    by_reply : (q : Reply) → DeliversTo a k form q b → DeliverStep a k form q b
    by_reply NotPublished t = absurd t.replies
    by_reply q t = t

-- no delivery changes the filter
pub replies_under_it : (spells : Spelling) (fault_place : FaultPlaces) (f : FollowerValue) (state bytes : List ℕ) (r : Reply)
    (g : FollowerValue) → Replies spells fault_place f state bytes r g → g.filter ≡ f.filter
replies_under_it spells fp f state bytes Broken g t = delivers_under_it spells fp f g state bytes (Err errors.Broken) t
replies_under_it spells fp f state bytes Old g t = delivers_under_it spells fp f g state bytes (Ok answers.Old) t
replies_under_it spells fp f state bytes Again g t = delivers_under_it spells fp f g state bytes (Ok answers.Again) t
replies_under_it spells fp f state bytes TooEarly g t = delivers_under_it spells fp f g state bytes (Err errors.TooEarly) t
replies_under_it spells fp f state bytes WantOfMemory g t = delivers_under_it spells fp f g state bytes (Err errors.WantOfMemory) t
replies_under_it spells fp f state bytes Held g t = delivers_under_it spells fp f g state bytes (Ok answers.Held) t
replies_under_it spells fp f state bytes (Applied low high) g t = delivers_under_it spells fp f g state bytes (Ok (answers.Applied low high)) t
replies_under_it spells fp f state bytes Broke g t = delivers_under_it spells fp f g state bytes (Err errors.Broke) t
replies_under_it spells fp f state bytes r g t = absurd t

-- one more sequence was given
pub fed_more : (filter : FilterValue) (archive : List PublishedTexts) (i low high : ℕ) (e f : FollowerValue) (p : PublishedTexts)
    → i < length archive → p ≡ get_or archive i p → IsFed filter archive i e
    → Delivers SpellsOpl FaultLine e p.state p.opl (Ok (answers.Applied low high)) f → IsFed filter archive (i + 1) f
fed_more filter archive i low high e f p below is fed given =
    let index : suc i - 1 ≡ i = omega arith in
    let here : texts_at archive (suc i) ≡ p = ap (λ (j : ℕ). get_or archive j no_texts) index ∙ (get_or_default archive i no_texts p below ∙ sym is) in
    let next : suc i ≡ i + 1 = omega arith in
    subst (λ (n : ℕ). IsFed filter archive n f) next (
      e,
      (low, high),
      fed,
      subst (λ (x : PublishedTexts). Delivers SpellsOpl FaultLine e x.state x.opl (Ok (answers.Applied low high)) f) (sym here) given,
    )
