-- How many objects a journal leaves at most.
use Rattle.std.proofs.Common.{◌≡◌, ℕ, ◌*◌, ◌≤◌, List, [], ◌∷◌, ◌++◌, length, Option, Some, None, refl, sym, ap, subst, ◌∙◌, arith}
use Rattle.std.specs.Prelude.{Bool, IsSome, codes, decimal, if◌then◌else◌, is_some, true, false}
use Rattle.std.specs.Cmp.{eq_by_cmp_equiv}
use Rattle.std.specs.Map.{keys_of}
use Rattle.std.specs.BTreeMap.{is_at}
use Rattle.std.specs.Option.{option_map}
use Rattle.std.proofs.lemmas.List.{length-append}
use Rattle.std.proofs.lemmas.Option.{same_Some}
use Rattle.std.proofs.lemmas.Map.Entries.{length-keys_of}
use Rattle.std.proofs.lemmas.Map.Keys.{IsDistinct-from_sorted}
use Rattle.std.proofs.lemmas.Map.Made.{is_some-lookup}
use Rattle.std.proofs.lemmas.Map.Steps.{length-le_from_keys}
use Rattle.osm_model.specs.Change.{ChangeValue}
use Rattle.osm_model.specs.CivilTime.{time_text}
use Rattle.osm_model.specs.Content.{last_of, later_of}
use Rattle.osm_model.specs.Filter.{FilterValue, left_by}
use Rattle.osm_model.specs.KeyOrder.{key_cmp, same_key}
use Rattle.osm_model.specs.Limits.{max_changes}
use Rattle.osm_model.specs.declared.kind.Key.{Key}
use Rattle.osm_model.proofs.ContentLemmas.{same_key-only, same_key-refl}
use Rattle.osm_model.proofs.DataLemmas.{keys_total}
use Rattle.osm_mirror.specs.Mirror.{object_at}
use Rattle.osm_net.specs.Lists.{net_in}
use Rattle.osm_net.specs.Net.{IsNetOf, NetValue, net_at}
use Rattle.osm_mirror.proofs.SameLemmas.{keyed, object_at-keyed}
use Rattle.osm_save.specs.Lines.{ended}
use Rattle.osm_save.specs.Save.{SpellsSave}
use Rattle.osm_save.specs.declared.head.Head.{Head}
use Rattle.osm_save.proofs.LengthLemmas.{decimal_long}
use Rattle.osm_save.proofs.HeadLemmas.{time_twenty}
use Rattle.osm_journal.specs.Journal.{BatchValue, JournalValue, SpellsJournal, batch_line, batches_text, opening_lines}
use Rattle.osm_merge.specs.Calls.{bytes_in}
use Rattle.osm_kept.specs.Laying.{LaysOver, reach_in}
use Rattle.osm_kept.specs.Reaching.{HasBatches, IsFileOf, IsReach}
use Rattle.osm_kept.specs.declared.found.JournalFile.{JournalFile}
use Rattle.osm_kept.specs.declared.found.JournalFile.TheVariants.{Counts, Nothing, OfAnother}
use Rattle.osm_kept.specs.declared.found.Reach.{Reach}
use Rattle.osm_kept.specs.declared.laid.Laid.{Laid}
use Rattle.osm_exporting.specs.Keeping.{KeepsAfter, most_left}

-- ---- how many entries net changes have

-- a key that a change has is among those of the changes
some_last : (cs : List ChangeValue) (k : Key) → IsSome (last_of cs k) → IsSome (object_at cs k)
some_last [] k some = some
some_last (c ∷ cs) k some = by_rest (some_last cs k) (last_of cs k) refl some
  where
    here : (t : Bool) → same_key c.key k ≡ t → IsSome (if t then Some c else None) → IsSome (object_at (c ∷ cs) k)
    here true is some =
        let same : c.key ≡ k = same_key-only c.key k is in
        let test : same_key k c.key ≡ true = subst (λ (x : Key). same_key k x ≡ true) (sym same) (same_key-refl k) in
        ap (λ (t : Bool). is_some (if t then Some c else object_at cs k)) test
    here false is some = absurd (let bad : false ≡ true = some in cc)

    past : (t : Bool) → IsSome (object_at cs k) → IsSome (if t then Some c else object_at cs k)
    past true rest = refl
    past false rest = rest

    by_rest : (IsSome (last_of cs k) → IsSome (object_at cs k)) → (o : Option ChangeValue) → last_of cs k ≡ o
        → IsSome (later_of (if same_key c.key k then Some c else None) o) → IsSome (object_at (c ∷ cs) k)
    by_rest ih None is some = here (same_key c.key k) refl some
    by_rest ih (Some d) is some = past (same_key k c.key) (ih (ap is_some is))

is_some-map : {X Y : Type 0} (f : X → Y) (o : Option X) → is_some (option_map f o) ≡ is_some o
is_some-map f None = refl
is_some-map f (Some x) = refl

length-keyed : (cs : List ChangeValue) → length (keyed cs) ≡ length cs
length-keyed [] = refl
length-keyed (c ∷ cs) = (let rest = length-keyed cs in omega (arith, rest))

-- no more than changes
pub entries_few : (f : FilterValue) (changes : List ChangeValue) (n : NetValue) → IsNetOf f changes n → length n.objects ≤ length changes
entries_few f changes n is =
    let keys : length (keys_of n.objects) ≤ length (keyed changes) =
    length-le_from_keys (eq_by_cmp_equiv keys_total) (keys_of n.objects) (keyed changes) (IsDistinct-from_sorted key_cmp (keys_of n.objects) is.orderly.rising)
    (λ k any.
    let there : is_some (net_at n.objects k) ≡ true = is_some-lookup (is_at (key_cmp k)) n.objects ∙ any in
    let last : is_some (last_of changes k) ≡ true =
    sym (is_some-map (left_by f) (last_of changes k)) ∙ (ap is_some (sym (is.objects k)) ∙ there) in
    ap is_some (sym (object_at-keyed changes k)) ∙ some_last changes k last) in
    omega (arith, keys, length-keys_of n.objects, length-keyed changes)

-- ---- how many batches a journal has

line_long : (b : BatchValue) → 30 ≤ length (batch_line b)
line_long b =
    let number = decimal_long b.number in
    let time = time_twenty b.time in
    let size = decimal_long (length b.bytes) in
    let last = length-append (time_text b.time) (32 ∷ decimal (length b.bytes)) in
    let words = length-append (decimal b.number) (32 ∷ (time_text b.time ++ 32 ∷ decimal (length b.bytes))) in
    let all = length-append (codes "batch ") (decimal b.number ++ 32 ∷ (time_text b.time ++ 32 ∷ decimal (length b.bytes))) in
    omega (arith, number, time, size, last, words, all)

batches_long : (bs : List BatchValue) → 32 * length bs ≤ length (batches_text bs)
batches_long [] = omega arith
batches_long (b ∷ bs) =
    let line = line_long b in
    let rest = batches_long bs in
    let content = length-append b.bytes (10 ∷ batches_text bs) in
    let all = length-append (batch_line b) (10 ∷ (b.bytes ++ 10 ∷ batches_text bs)) in
    omega (arith, line, rest, content, all)

journal_long : (bytes : List ℕ) (j : JournalValue) → SpellsJournal bytes j → 32 * length j.batches ≤ length bytes
journal_long bytes j spells =
    let text = ap length spells.text in
    let batches = batches_long j.batches in
    let first = length-append (ended (opening_lines j)) (batches_text j.batches ++ codes "end\n") in
    let last = length-append (batches_text j.batches) (codes "end\n") in
    omega (arith, text, batches, first, last)

-- ---- how many objects it leaves

batches_few : (reach : Reach) (journal : JournalFile) (told file : Option (List ℕ)) (is : IsReach reach journal) → IsFileOf told file journal
    → 32 * length is.batches ≤ bytes_in file
batches_few reach journal told file is holds = by_file journal is.has holds
  where
    by_file : (j : JournalFile) → HasBatches reach.start j is.batches → IsFileOf told file j → 32 * length is.batches ≤ bytes_in file
    by_file Nothing none h = (let few = ap length none in omega (arith, few))
    by_file OfAnother none h = (let few = ap length none in omega (arith, few))
    by_file (Counts bytes) spells h =
        let long = journal_long bytes.items _ spells in
        let there = ap bytes_in h.there in
        omega (arith, long, there)

module _ (told file : Option (List ℕ)) (laid : Laid) (lays : LaysOver told file laid) where
  entries_laid : length laid.lists.objects.items ≤ length lays.taken.changes
  entries_laid = entries_few lays.start.filter lays.taken.changes (net_in laid.lists) lays.taken.net

  pub left_few : length laid.lists.objects.items ≤ most_left (bytes_in file)
  left_few =
      let batches = batches_few (reach_in lays.start laid) lays.file told file lays.reach lays.ends.journal_is in
      let number = lays.reach.number in
      let count = lays.taken.number in
      let changes = lays.taken.few in
      omega (arith, batches, number, count, changes, entries_laid)

  -- nor more than the numbers after the save do
  pub after_few : (numbers : ℕ) → KeepsAfter told file numbers → length laid.lists.objects.items ≤ max_changes * numbers
  after_few numbers k =
      let reached = lays.ends.reached in
      let same : k.file ≡ reached.starts.file = same_Some k.file reached.starts.file (sym k.there ∙ reached.starts.there) in
      let first : k.saved.number ≡ lays.start.head.number =
      ap (λ (h : Head). h.number) (reached.starts.is k.saved (subst (λ (l : List ℕ). SpellsSave l k.saved) same k.spells)).head in
      let last : k.value.number ≡ laid.head.number = ap (λ (h : Head). h.number) (reached.only k.value k.kept).0 in
      let count : lays.taken.count ≡ numbers = (let all = lays.taken.number in let more = k.number in omega (arith, first, last, all, more)) in
      let changes : length lays.taken.changes ≤ max_changes * numbers =
      subst (λ (c : ℕ). length lays.taken.changes ≤ max_changes * c) count lays.taken.few in
      omega (arith, changes, entries_laid)
