-- The chains of an index lead to every string of their bucket that can be named.
use Rattle.std.proofs.Common.{◌≡◌, ℕ, zero, suc, ◌+◌, ◌-◌, ◌/◌, ◌<◌, ◌≤◌, true, false, leb, List, [], ◌∷◌, ◌++◌, length}
use Rattle.std.proofs.Common.{get_or, take, drop, Option, Some, None, refl, sym, ap, subst, ◌∙◌, arith, inl, inr}
use Rattle.std.proofs.Common.{slice_set}
use Rattle.std.specs.Prelude.{◌≢◌, slice_get}
use Rattle.std.specs.Str.{bytes_eq}
use Rattle.std.proofs.lemmas.Bool.{cases_lt, cases_eq, cases_Bool}
use Rattle.std.proofs.lemmas.Bool.Decides.{nat_tests}
use Rattle.std.proofs.lemmas.List.{length-append, length-drop, drop-append-le, take-append-le, get_or-set_same}
use Rattle.std.proofs.lemmas.List.{get_or-set_other, length-set, get_or_append_left}
use Rattle.std.proofs.lemmas.Option.{slice_get-get_or, get_or_from_slice_get}
use Rattle.std.proofs.lemmas.Slice.Eq.{bytes_eq-Decides}
use Rattle.std.proofs.Math.Seq.{drop-append_seam, get_or-append_seam}
use Rattle.osm_o5c.specs.Written.{last_equal, reference_of}
use Rattle.osm_o5c.specs.Steps.Index.{hash_of, bucket_of, string_of, strings_of, string_at, no_slot, links_of, Chained}
use Rattle.osm_o5c.specs.Steps.Index.{Leads, IsStored, IsLastIn, IsRecent, AreLed, IsLatest}
use Rattle.osm_o5c.specs.Steps.Index.{string_named, IsLeast, AreBelow, IsLeftOut}
use Rattle.osm_o5c.specs.declared.chains.Slot.{Slot}

-- ---- the strings of slots

pub strings_length : (bytes : List ℕ) (slots : List Slot) → length (strings_of bytes slots) ≡ length slots
strings_length bytes [] = refl
strings_length bytes (s ∷ ss) = ap suc (strings_length bytes ss)

pub strings_at : (bytes : List ℕ) (slots : List Slot) (i : ℕ) → i < length slots
    → string_at (strings_of bytes slots) i ≡ string_of bytes (get_or slots i no_slot)
strings_at bytes [] i h = absurd (omega arith)
strings_at bytes (s ∷ ss) zero h = refl
strings_at bytes (s ∷ ss) (suc i) h = strings_at bytes ss i (omega arith)

string_more : (bytes more : List ℕ) (s : Slot) → s.start + s.size ≤ length bytes → string_of (bytes ++ more) s ≡ string_of bytes s
string_more bytes more s h = ap (λ (l : List ℕ). take s.size l) (drop-append-le s.start bytes more (omega arith))
    ∙ take-append-le s.size (drop s.start bytes) more (omega (arith, length-drop s.start bytes))

strings_more : (bytes more : List ℕ) (slots : List Slot) → ((i : ℕ) → i < length slots → (get_or slots i no_slot).start
    + (get_or slots i no_slot).size ≤ length bytes) → strings_of (bytes ++ more) slots ≡ strings_of bytes slots
strings_more bytes more [] w = refl
strings_more bytes more (s ∷ ss) w =
    ap (λ (t : List ℕ). t ∷ strings_of (bytes ++ more) ss) (string_more bytes more s (w zero (omega arith)))
    ∙ ap (λ (l : List (List ℕ)). string_of bytes s ∷ l) (strings_more bytes more ss (λ i h. w (suc i) (omega arith)))

strings_push : (bytes : List ℕ) (slots : List Slot) (s : Slot) → strings_of bytes (slots ++ s ∷ []) ≡ strings_of bytes slots ++ string_of bytes s ∷ []
strings_push bytes [] s = refl
strings_push bytes (x ∷ xs) s = ap (λ (l : List (List ℕ)). string_of bytes x ∷ l) (strings_push bytes xs s)

take_whole : (xs : List ℕ) → take (length xs) xs ≡ xs
take_whole [] = refl
take_whole (x ∷ xs) = ap (λ (l : List ℕ). x ∷ l) (take_whole xs)

string_new : (bytes text : List ℕ) (hash previous : ℕ)
    → string_of (bytes ++ text) (record {
      start = length bytes;
      size = length text;
      hash = hash;
      previous =
          previous;
    }) ≡ text
string_new bytes text hash previous = ap (λ (l : List ℕ). take (length text) l) (drop-append_seam bytes text) ∙ take_whole text

-- the strings after one more is entered
pub strings_entered : (bytes text : List ℕ) (slots : List Slot) (hash previous : ℕ)
    → ((i : ℕ) → i < length slots → (get_or slots i no_slot).start + (get_or slots i no_slot).size ≤ length bytes)
    → strings_of (bytes ++ text) (slots ++ record {
      start = length bytes;
      size = length text;
      hash = hash;
      previous =
          previous;
    } ∷ []) ≡ strings_of bytes slots ++ text ∷ []
strings_entered bytes text slots hash previous w =
    strings_push (bytes ++ text) slots (record { start = length bytes; size = length text; hash = hash; previous = previous })
    ∙ ap (λ (l : List (List ℕ)). l ++ string_of (bytes ++ text) (record {
      start = length bytes;
      size = length text;
      hash = hash;
      previous = previous;
    }) ∷ []) (strings_more bytes text slots w)
    ∙ ap (λ (t : List ℕ). strings_of bytes slots ++ t ∷ []) (string_new bytes text hash previous)

-- ---- what is stored

pub links_length : (slots : List Slot) → length (links_of slots) ≡ length slots
links_length [] = refl
links_length (s ∷ ss) = ap suc (links_length ss)

pub links_at : (slots : List Slot) (i : ℕ) → i < length slots → get_or (links_of slots) i 0 ≡ (get_or slots i no_slot).previous
links_at [] i h = absurd (omega arith)
links_at (s ∷ ss) zero h = refl
links_at (s ∷ ss) (suc i) h = links_at ss i (omega arith)

pub links_push : (slots : List Slot) (s : Slot) → links_of (slots ++ s ∷ []) ≡ links_of slots ++ s.previous ∷ []
links_push [] s = refl
links_push (x ∷ xs) s = ap (λ (l : List ℕ). x.previous ∷ l) (links_push xs s)

-- nothing is stored at first
pub stored_empty : (bytes : List ℕ) (slots : List Slot) (heads : List ℕ) → slots ≡ [] → length heads ≡ 32768 → IsStored bytes slots heads
stored_empty bytes slots heads none size =
    let count : length slots ≡ 0 = ap length none in
    record { within = λ i h. absurd (omega arith); hash = λ i h. absurd (omega arith); back = λ i h. absurd (omega arith); heads_are = size }

-- bytes appended without a slot change nothing
pub stored_more : (bytes more : List ℕ) (slots : List Slot) (heads : List ℕ) → IsStored bytes slots heads → IsStored (bytes ++ more) slots heads
stored_more bytes more slots heads x = record {
  within = λ i h. omega (arith, x.within i h, length-append bytes more);
  hash = subst (λ (l : List (List ℕ)). (i : ℕ) → i < length slots → (get_or slots i no_slot).hash ≡
      hash_of (string_at l i)) (sym (strings_more bytes more slots x.within)) x.hash;
  back = x.back;
  heads_are = x.heads_are;
}

pub strings_kept : (bytes more : List ℕ) (slots : List Slot) (heads : List ℕ) → IsStored bytes slots heads
    → strings_of (bytes ++ more) slots ≡ strings_of bytes slots
strings_kept bytes more slots heads x = strings_more bytes more slots x.within

record Same (strings : List (List ℕ)) (text : List ℕ) : Type 0 where
  last : string_at (strings ++ text ∷ []) (length strings) ≡ text
  early : (j : ℕ) → j < length strings → string_at (strings ++ text ∷ []) j ≡ string_at strings j

same : (strings : List (List ℕ)) (text : List ℕ) → Same strings text
same strings text = record { last = get_or-append_seam strings text [] []; early = λ j h. get_or_append_left strings (text ∷ []) [] j h }

slot_early : (slots : List Slot) (s : Slot) (i : ℕ) → i < length slots → get_or (slots ++ s ∷ []) i no_slot ≡ get_or slots i no_slot
slot_early slots s i h = get_or_append_left slots (s ∷ []) no_slot i h

slot_last : (slots : List Slot) (s : Slot) (i : ℕ) → i ≡ length slots → get_or (slots ++ s ∷ []) i no_slot ≡ s
slot_last slots s i h = rw h (get_or-append_seam slots s [] no_slot)

new_within : (bytes text : List ℕ) (slots : List Slot) (s : Slot) → s.start + s.size ≡ length (bytes ++ text)
    → ((i : ℕ) → i < length slots → (get_or slots i no_slot).start + (get_or slots i no_slot).size ≤ length bytes)
    → (i : ℕ) → i < length (slots ++ s ∷ []) → (get_or (slots ++ s ∷ []) i no_slot).start
    + (get_or (slots ++ s ∷ []) i no_slot).size ≤ length (bytes ++ text)
new_within bytes text slots s whole w i h =
    let size = length-append slots (s ∷ []) in
    elim (cases_lt i (length slots)) [
      | inl early ↦ rw (slot_early slots s i early) (omega (arith, w i early, length-append bytes text))
      | inr late ↦ let at : i ≡ length slots = omega (arith, size) in rw (slot_last slots s i at) (omega arith)
    ]

new_hash : (strings : List (List ℕ)) (slots : List Slot) (text : List ℕ) (s : Slot) → length strings ≡ length slots
    → s.hash ≡ hash_of text
    → ((i : ℕ) → i < length slots → (get_or slots i no_slot).hash ≡ hash_of (string_at strings i)) → (i : ℕ)
    → i < length (slots ++ s ∷ []) → (get_or (slots ++ s ∷ []) i no_slot).hash ≡
    hash_of (string_at (strings ++ text ∷ []) i)
new_hash strings slots text s count is hashes i h =
    let size = length-append slots (s ∷ []) in
    elim (cases_lt i (length slots)) [
      | inl early ↦ ap (λ (x : Slot). x.hash) (slot_early slots s i early) ∙ hashes i early ∙ sym (ap hash_of ((same strings text).early i (omega arith)))
      | inr late ↦
          let at : i ≡ length slots = omega (arith, size) in
          let also : i ≡ length strings = omega arith in
          ap (λ (x : Slot). x.hash) (slot_last slots s i at) ∙ is ∙ sym (ap hash_of (rw also (same strings text).last))
    ]

new_back : (slots : List Slot) (s : Slot) → s.previous ≤ length slots
    → ((i : ℕ) → i < length slots → (get_or slots i no_slot).previous ≤ i) → (i : ℕ) → i < length (slots ++ s ∷ [])
    → (get_or (slots ++ s ∷ []) i no_slot).previous ≤ i
new_back slots s bound back i h =
    let size = length-append slots (s ∷ []) in
    elim (cases_lt i (length slots)) [
      | inl early ↦ rw (slot_early slots s i early) (back i early)
      | inr late ↦ let at : i ≡ length slots = omega (arith, size) in rw (slot_last slots s i at) (omega arith)
    ]

-- what is stored after one more string
pub stored_pushed : (bytes text : List ℕ) (slots : List Slot) (heads : List ℕ) (hash previous : ℕ) → hash ≡ hash_of text
    → previous ≤ length slots → IsStored bytes slots heads
    → IsStored (bytes ++ text) (slots ++ record {
      start = length bytes;
      size = length text;
      hash = hash;
      previous =
          previous;
    } ∷ []) heads
stored_pushed bytes text slots heads hash previous hash_is bound x =
    let s : Slot = record { start = length bytes; size = length text; hash = hash; previous = previous } in
    record {
      within = new_within bytes text slots s (sym (length-append bytes text)) x.within;
      hash = subst (λ (l : List (List ℕ)). (i : ℕ) → i < length (slots ++ s ∷ [])
          → (get_or (slots ++ s ∷ []) i no_slot).hash ≡ hash_of (string_at l i))
          (sym (strings_entered bytes text slots hash previous x.within))
          (new_hash (strings_of bytes slots) slots text s (strings_length bytes slots) hash_is x.hash);
      back = new_back slots s bound x.back;
      heads_are = x.heads_are;
    }

-- ---- the last string in a bucket

pub last_found : (c : Chained) (bucket head : ℕ) → head ≡ get_or c.heads bucket 0 → head ≤ length c.strings → IsLastIn c bucket head
last_found c bucket head is within = record { within = within; last = λ j h r b l. subst (λ (p : ℕ). Leads c.strings j p) (sym is) l }

pub none_in : (c : Chained) (bucket head : ℕ) → head ≡ get_or c.heads bucket 0
    → (0 < head → head ≤ length c.strings → length c.strings < head + 15000
    → bucket_of (string_at c.strings (head - 1)) ≢ bucket) → IsLastIn c bucket 0
none_in c bucket head is none = record {
  within = omega arith;
  last = λ j h r b first.
      let l : Leads c.strings j head = subst (λ (p : ℕ). Leads c.strings j p) (sym is) first in
      let after : j < head = l.after in
      let within : head ≤ length c.strings = l.within in
      absurd (none (omega arith) within (omega arith) (l.same ∙ b));
}

pub bucket_is : (bytes : List ℕ) (slots : List Slot) (heads : List ℕ) (i : ℕ) → IsStored bytes slots heads
    → i < length slots → (get_or slots i no_slot).hash / 131072 ≡ bucket_of (string_at (strings_of bytes slots) i)
unfolding bucket_of
bucket_is bytes slots heads i x h = ap (λ (h : ℕ). h / 131072) (x.hash i h)

-- ---- chains

leads_more : (strings : List (List ℕ)) (text : List ℕ) (j p : ℕ) → j < length strings → Leads strings j p → Leads (strings ++ text ∷ []) j p
leads_more strings text j p h l =
    let after : j < p = l.after in
    let within : p ≤ length strings = l.within in
    let there : string_at (strings ++ text ∷ []) (p - 1) ≡ string_at strings (p - 1) = get_or_append_left strings (text ∷ []) [] (p - 1) (omega arith) in
    let here : string_at (strings ++ text ∷ []) j ≡ string_at strings j = get_or_append_left strings (text ∷ []) [] j h in
    record { after = after; within = omega (arith, length-append strings (text ∷ [])); same = ap bucket_of there ∙ l.same ∙ sym (ap bucket_of here) }

-- the chains after one more string, linked to the last one in its bucket
abbrev pub pushed : Chained → List ℕ → ℕ → Chained
pushed c text previous = record { strings = c.strings ++ text ∷ []; links = c.links ++ previous ∷ []; heads = c.heads }

-- the same, with the string as the head of its bucket
abbrev pub linked : Chained → List ℕ → ℕ → ℕ → Chained
linked c text previous bucket = record {
  strings = c.strings ++ text ∷ [];
  links = c.links ++ previous ∷ [];
  heads =
      slice_set c.heads bucket (length c.strings + 1);
}

-- a string with a later number before has one after
record Last (c : Chained) (before after : List ℕ → ℕ) (text : List ℕ) (previous : ℕ) : Type 0 where
  led : AreLed c before
  follows : (t : List ℕ) (j : ℕ) → j < length c.strings → IsRecent c.strings j → after t ≤ j → before t ≤ j
  last : IsLastIn c (bucket_of text) previous

old_head : (c : Chained) (before after : List ℕ → ℕ) (text : List ℕ) (previous : ℕ) → Last c before after text previous
    → (j : ℕ) → j < length c.strings → IsRecent (c.strings ++ text ∷ []) j
    → after (string_at (c.strings ++ text ∷ []) j) ≤ j
    → Leads c.strings j (get_or c.heads (bucket_of (string_at c.strings j)) 0)
old_head c before after text previous x j h r late =
    let size = length-append c.strings (text ∷ []) in
    let there : string_at (c.strings ++ text ∷ []) j ≡ string_at c.strings j = (same c.strings text).early j h in
    let recent : IsRecent c.strings j = omega arith in
    x.led.head j h recent (x.follows (string_at c.strings j) j h recent (subst (λ (t : List ℕ). after t ≤ j) there late))

new_chain : (c : Chained) (before after : List ℕ → ℕ) (text : List ℕ) (previous : ℕ) → Last c before after text previous
    → (i j : ℕ) → j < i → i < length (c.strings ++ text ∷ []) → IsRecent (c.strings ++ text ∷ []) j
    → bucket_of (string_at (c.strings ++ text ∷ []) j) ≡ bucket_of (string_at (c.strings ++ text ∷ []) i)
    → after (string_at (c.strings ++ text ∷ []) j) ≤ j
    → Leads (c.strings ++ text ∷ []) j (get_or (c.links ++ previous ∷ []) i 0)
new_chain c before after text previous x i j less h r b late =
    let size = length-append c.strings (text ∷ []) in
    let links = x.led.links_are in
    let early : j < length c.strings = omega arith in
    let recent : IsRecent c.strings j = omega arith in
    let there : string_at (c.strings ++ text ∷ []) j ≡ string_at c.strings j = (same c.strings text).early j early in
    let before_late : before (string_at c.strings j) ≤ j = x.follows (string_at c.strings j) j early recent (subst (λ (t : List ℕ). after t ≤ j) there late) in
    elim (cases_lt i (length c.strings)) [
      | inl inside ↦
          let here : string_at (c.strings ++ text ∷ []) i ≡ string_at c.strings i = (same c.strings text).early i inside in
          let link : get_or (c.links ++ previous ∷ []) i 0 ≡ get_or c.links i 0 = get_or_append_left c.links (previous ∷ []) 0 i (omega arith) in
          let old : Leads c.strings j (get_or c.links i 0) =
          x.led.chain i j less inside recent (sym (ap bucket_of there) ∙ b ∙ ap bucket_of here) before_late in
          rw link (leads_more c.strings text j (get_or c.links i 0) early old)
      | inr past ↦
          let also : i ≡ length c.strings = omega arith in
          let at : i ≡ length c.links = omega arith in
          let last : string_at (c.strings ++ text ∷ []) i ≡ text = rw also (same c.strings text).last in
          let bucket : bucket_of (string_at c.strings j) ≡ bucket_of text = sym (ap bucket_of there) ∙ b ∙ ap bucket_of last in
          let link : get_or (c.links ++ previous ∷ []) i 0 ≡ previous = rw at (get_or-append_seam c.links previous [] 0) in
          let first : Leads c.strings j (get_or c.heads (bucket_of (string_at c.strings j)) 0) = old_head c before after text previous x j early r late in
          let old : Leads c.strings j previous = x.last.last j early recent bucket (subst (λ (i : ℕ). Leads c.strings j (get_or c.heads i 0)) bucket first) in
          rw link (leads_more c.strings text j previous early old)
    ]

linked_head : (c : Chained) (before after : List ℕ → ℕ) (text : List ℕ) (previous : ℕ) → bucket_of text < 32768
    → Last c before after text previous → (j : ℕ) → j < length (c.strings ++ text ∷ [])
    → IsRecent (c.strings ++ text ∷ []) j → after (string_at (c.strings ++ text ∷ []) j) ≤ j
    → Leads (c.strings ++ text ∷ []) j (get_or (slice_set c.heads (bucket_of text) (length c.strings + 1))
    (bucket_of (string_at (c.strings ++ text ∷ []) j)) 0)
linked_head c before after text previous bound x j h r late =
    let size = length-append c.strings (text ∷ []) in
    let many = x.led.heads_are in
    elim (cases_eq (bucket_of (string_at (c.strings ++ text ∷ []) j)) (bucket_of text)) [
      | inl is ↦
          let found : get_or (slice_set c.heads (bucket_of text) (length c.strings + 1)) (bucket_of text) 0 ≡
          length c.strings + 1 = get_or-set_same c.heads (bucket_of text) (length c.strings + 1) 0 (omega arith) in
          let newest : length c.strings + 1 - 1 ≡ length c.strings = omega arith in
          rw (is, found) (record { after = omega arith; within = omega arith; same = rw newest (ap bucket_of (same c.strings text).last ∙ sym is) })
      | inr other ↦
          let early : j < length c.strings = (elim (cases_lt j (length c.strings)) [
            | inl less ↦ less
            | inr past ↦ let at : j ≡ length c.strings = omega arith in absurd (other (ap bucket_of (rw at (same c.strings text).last)))
          ]) in
          let there : string_at (c.strings ++ text ∷ []) j ≡ string_at c.strings j = (same c.strings text).early j early in
          let found : get_or (slice_set c.heads (bucket_of text) (length c.strings + 1))
          (bucket_of (string_at (c.strings ++ text ∷ []) j)) 0 ≡ get_or c.heads
          (bucket_of (string_at (c.strings ++ text ∷ []) j)) 0 = get_or-set_other c.heads (bucket_of text)
          (bucket_of (string_at (c.strings ++ text ∷ []) j)) (length c.strings + 1) 0 other in
          let old : Leads c.strings j (get_or c.heads (bucket_of (string_at c.strings j)) 0) = old_head c before after text previous x j early r late in
          subst (λ (p : ℕ). Leads (c.strings ++ text ∷ []) j p) (ap (λ (t : List ℕ). get_or c.heads (bucket_of t) 0)
          (sym there) ∙ sym found)
          (leads_more c.strings text j (get_or c.heads (bucket_of (string_at c.strings j)) 0) early old)
    ]

kept_head : (c : Chained) (before after : List ℕ → ℕ) (text : List ℕ) (previous : ℕ) → after text ≡ length c.strings + 1
    → Last c before after text previous → (j : ℕ) → j < length (c.strings ++ text ∷ [])
    → IsRecent (c.strings ++ text ∷ []) j → after (string_at (c.strings ++ text ∷ []) j) ≤ j
    → Leads (c.strings ++ text ∷ []) j (get_or c.heads (bucket_of (string_at (c.strings ++ text ∷ []) j)) 0)
kept_head c before after text previous is x j h r late =
    let size = length-append c.strings (text ∷ []) in
    elim (cases_lt j (length c.strings)) [
      | inl early ↦
          let there : string_at (c.strings ++ text ∷ []) j ≡ string_at c.strings j = (same c.strings text).early j early in
          let old : Leads c.strings j (get_or c.heads (bucket_of (string_at c.strings j)) 0) = old_head c before after text previous x j early r late in
          rw there (leads_more c.strings text j (get_or c.heads (bucket_of (string_at c.strings j)) 0) early old)
      | inr past ↦
          let at : j ≡ length c.strings = omega arith in
          let last : string_at (c.strings ++ text ∷ []) j ≡ text = rw at (same c.strings text).last in
          let number : length c.strings + 1 ≤ j = subst (λ (n : ℕ). n ≤ j) is (subst (λ (t : List ℕ). after t ≤ j) last late) in
          absurd (omega arith)
    ]

-- the chains lead to the same strings by other numbers, if a string with a later number before has one after
pub led_again : (c : Chained) (before after : List ℕ → ℕ) → ((t : List ℕ) (j : ℕ) → j < length c.strings
    → IsRecent c.strings j → after t ≤ j → before t ≤ j) → AreLed c before → AreLed c after
led_again c before after follows led = record {
  links_are = led.links_are;
  heads_are = led.heads_are;
  head = λ j h r late. led.head j h r (follows (string_at c.strings j) j h r late);
  chain = λ i j less h r b late. led.chain i j less h r b (follows (string_at c.strings j) j (omega arith) r late);
}

more_links : (c : Chained) (text : List ℕ) (previous : ℕ) → length c.links ≡ length c.strings
    → length (c.links ++ previous ∷ []) ≡ length (c.strings ++ text ∷ [])
more_links c text previous is = omega (arith, is, length-append c.links (previous ∷ []), length-append c.strings (text ∷ []))

pub led_linked : (c : Chained) (latest : List ℕ → ℕ) (text : List ℕ) (previous bucket : ℕ) → bucket ≡ bucket_of text
    → bucket < 32768 → IsLastIn c bucket previous → AreLed c latest → AreLed (linked c text previous bucket) latest
led_linked c latest text previous bucket is bound last led =
    let x : Last c latest latest text previous = record {
      led = led;
      follows = λ t j h r late. late;
      last =
          subst (λ (b : ℕ). IsLastIn c b previous) is last;
    } in
    let head = linked_head c latest latest text previous (subst (λ (b : ℕ). b < 32768) is bound) x in
    record {
      links_are = more_links c text previous led.links_are;
      heads_are = length-set c.heads bucket (length c.strings + 1) ∙ led.heads_are;
      head = λ j h r late. subst (λ (b : ℕ). Leads (c.strings ++ text ∷ []) j
          (get_or (slice_set c.heads b (length c.strings + 1)) (bucket_of (string_at (c.strings ++ text ∷ []) j)) 0))
          (sym is) (head j h r late);
      chain = new_chain c latest latest text previous x;
    }

pub led_kept : (c : Chained) (before after : List ℕ → ℕ) (text : List ℕ) (previous bucket : ℕ) → bucket ≡ bucket_of text
    → after text ≡ length c.strings + 1 → ((t : List ℕ) (j : ℕ) → j < length c.strings → IsRecent c.strings j
    → after t ≤ j → before t ≤ j) → IsLastIn c bucket previous → AreLed c before → AreLed (pushed c text previous) after
led_kept c before after text previous bucket is number follows last led =
    let x : Last c before after text previous = record { led = led; follows = follows; last = subst (λ (b : ℕ). IsLastIn c b previous) is last } in
    record {
      links_are = more_links c text previous led.links_are;
      heads_are = led.heads_are;
      head = kept_head c before after text previous number x;
      chain = new_chain c before after text previous x;
    }

-- ---- the least number

-- the last equal string is at the index that its number gives
record Found (table : List (List ℕ)) (text : List ℕ) (m : ℕ) : Type 0 where
  bound : m ≤ length table
  at : string_at table (length table - m) ≡ text

last_there : (table : List (List ℕ)) (text : List ℕ) → 1 ≤ last_equal table text → Found table text (last_equal table text)
last_there [] text h = absurd (omega arith)
last_there (x ∷ xs) text h =
    elim (cases_lt (last_equal xs text) 1) [
      | inl none ↦
          let t : leb 1 (last_equal xs text) ≡ false = grind (arith, nat_tests) in
          elim (cases_Bool (bytes_eq x text)) [
            | inl is ↦
                let first : length (x ∷ xs) - (length xs + 1) ≡ 0 = omega arith in
                rw (t, is) (record { bound = omega arith; at = rw first ((bytes_eq-Decides x text).0 is) })
            | inr other ↦ let k : 1 ≤ 0 = rw (t, other) at h in absurd (omega arith)
          ]
      | inr some ↦
          let t : leb 1 (last_equal xs text) ≡ true = grind (arith, nat_tests) in
          let inner : Found xs text (last_equal xs text) = last_there xs text some in
          let bound : last_equal xs text ≤ length xs = inner.bound in
          let next : length (x ∷ xs) - last_equal xs text ≡ suc (length xs - last_equal xs text) = omega arith in
          rw t (record { bound = omega arith; at = rw next inner.at })
    ]

-- an equal string has no smaller number
record Above (table : List (List ℕ)) (text : List ℕ) (j : ℕ) : Type 0 where
  some : 1 ≤ last_equal table text
  least : last_equal table text + j ≤ length table

no_smaller : (table : List (List ℕ)) (text : List ℕ) (j : ℕ) → j < length table → string_at table j ≡ text → Above table text j
no_smaller [] text j h e = absurd (omega arith)
no_smaller (x ∷ xs) text zero h e =
    elim (cases_lt (last_equal xs text) 1) [
      | inl none ↦
          let t : leb 1 (last_equal xs text) ≡ false = grind (arith, nat_tests) in
          let is : bytes_eq x text ≡ true = (bytes_eq-Decides x text).1 e in
          record { some = rw (t, is) (omega arith); least = rw (t, is) (omega arith) }
      | inr some ↦
          let t : leb 1 (last_equal xs text) ≡ true = grind (arith, nat_tests) in
          let bound : last_equal xs text ≤ length xs = (last_there xs text some).bound in
          record { some = rw t some; least = rw t (omega arith) }
    ]
no_smaller (x ∷ xs) text (suc j) h e =
    let inner : Above xs text j = no_smaller xs text j (omega arith) e in
    let some : 1 ≤ last_equal xs text = inner.some in
    let least : last_equal xs text + j ≤ length xs = inner.least in
    let t : leb 1 (last_equal xs text) ≡ true = grind (arith, nat_tests) in
    record { some = rw t some; least = rw t (omega arith) }

-- an element of a list, whatever the default
pub any_default : {A : Type 0} (xs : List A) (i : ℕ) (x d : A) → i < length xs → x ≡ get_or xs i x → x ≡ get_or xs i d
any_default [] i x d h e = absurd (omega arith)
any_default (y ∷ ys) zero x d h e = e
any_default (y ∷ ys) (suc i) x d h e = any_default ys i x d (omega arith) e

-- ---- the search

-- the chain from here on leads to every string that equals the text and can be named, except for
-- those with a number of at most `kept`
pub record IsAhead (strings : List (List ℕ)) (text : List ℕ) (kept at : ℕ) : Type 0 where
  pub within : at ≤ length strings
  pub leads : (j : ℕ) → j < length strings → IsRecent strings j → string_at strings j ≡ text → kept ≤ j → Leads strings j at

pub ahead_next : (c : Chained) (latest : List ℕ → ℕ) (text : List ℕ) (at next : ℕ) → 0 < at → AreLed c latest
    → IsAhead c.strings text (latest text) at → string_at c.strings (at - 1) ≢ text → next ≡ get_or c.links (at - 1) 0
    → next ≤ at - 1 → IsAhead c.strings text (latest text) next
ahead_next c latest text at next some led a other is back =
    let within : at ≤ length c.strings = a.within in
    record {
      within = omega arith;
      leads = λ j h r e late.
          let l : Leads c.strings j at = a.leads j h r e late in
          let after : j < at = l.after in
          elim (cases_eq j (at - 1)) [
            | inl here ↦ absurd (other (subst (λ (i : ℕ). string_at c.strings i ≡ text) here e))
            | inr before ↦
                let less : j < at - 1 = omega arith in
                subst (λ (p : ℕ). Leads c.strings j p) (sym is) (led.chain (at - 1) j less (omega arith) r (sym l.same)
                (subst (λ (t : List ℕ). latest t ≤ j) (sym e) late))
          ];
    }

below_at : (strings : List (List ℕ)) (text : List ℕ) (kept at : ℕ) → IsAhead strings text kept at → kept < at → AreBelow strings text at
below_at strings text kept at a less j h r e =
    elim (cases_lt j kept) [
      | inl before ↦ omega arith
      | inr late ↦ (a.leads j h r e (omega arith)).after
    ]

below_kept : (strings : List (List ℕ)) (text : List ℕ) (kept at : ℕ) → IsAhead strings text kept at → at ≤ kept → AreBelow strings text kept
below_kept strings text kept at a less j h r e =
    elim (cases_lt j kept) [
      | inl before ↦ before
      | inr late ↦ let after : j < at = (a.leads j h r e (omega arith)).after in omega arith
    ]

-- a chain that was walked to its end leads to no string that equals the text
pub below_latest : (c : Chained) (text : List ℕ) (at : ℕ)
    → ((latest : List ℕ → ℕ) → AreLed c latest → IsAhead c.strings text (latest text) at)
    → (0 < at → at ≤ length c.strings → length c.strings < at + 15000 → ⊥) → IsLeftOut c text
below_latest c text at ahead ends latest led j less recent equal =
    let a : IsAhead c.strings text (latest text) at = ahead latest led in
    elim (cases_lt j (latest text)) [
      | inl before ↦ before
      | inr late ↦
          let l : Leads c.strings j at = a.leads j less recent equal late in
          let after : j < at = l.after in
          absurd (ends (omega arith) l.within (omega arith))
    ]

pub none_below : (strings : List (List ℕ)) (text : List ℕ) (at : ℕ) → AreBelow strings text at
    → (0 < at → 15000 < length strings - (at - 1)) → reference_of strings text ≡ None
none_below strings text at below far =
    elim (cases_lt (last_equal strings text) 1) [
      | inl none ↦ let t : leb 1 (last_equal strings text) ≡ false = grind (arith, nat_tests) in rw t refl
      | inr some ↦
          let t : leb 1 (last_equal strings text) ≡ true = grind (arith, nat_tests) in
          elim (cases_lt 15000 (last_equal strings text)) [
            | inl past ↦ let u : leb (last_equal strings text) 15000 ≡ false = grind (arith, nat_tests) in rw (t, u) refl
            | inr near ↦
                let f : Found strings text (last_equal strings text) = last_there strings text some in
                let bound : last_equal strings text ≤ length strings = f.bound in
                let after : length strings - last_equal strings text < at = below (length strings - last_equal strings text) (omega arith) (omega arith) f.at in
                let more : 15000 < length strings - (at - 1) = far (omega arith) in
                absurd (omega arith)
          ]
    ]

pub found_below : (strings : List (List ℕ)) (text : List ℕ) (at number : ℕ) → AreBelow strings text at → 0 < at
    → at ≤ length strings → string_at strings (at - 1) ≡ text → number ≡ length strings - (at - 1) → number ≤ 15000
    → reference_of strings text ≡ Some number
found_below strings text at number below some within e is few =
    let above : Above strings text (at - 1) = no_smaller strings text (at - 1) (omega arith) e in
    let one : 1 ≤ last_equal strings text = above.some in
    let least : last_equal strings text + (at - 1) ≤ length strings = above.least in
    let f : Found strings text (last_equal strings text) = last_there strings text one in
    let bound : last_equal strings text ≤ length strings = f.bound in
    let after : length strings - last_equal strings text < at = below (length strings - last_equal strings text) (omega arith) (omega arith) f.at in
    let same : last_equal strings text ≡ number = omega arith in
    let t : leb 1 (last_equal strings text) ≡ true = grind (arith, nat_tests) in
    let u : leb (last_equal strings text) 15000 ≡ true = (let k : last_equal strings text ≤ 15000 = omega arith in grind (arith, nat_tests)) in
    rw (t, u) (ap (λ (n : ℕ). Some n) same)

-- what the search answers: in a chain, past what can be named, and after the chain
pub reference_found : (strings : List (List ℕ)) (text : List ℕ) (kept at number : ℕ) → IsAhead strings text kept at
    → kept < at → string_at strings (at - 1) ≡ text → number ≡ length strings - (at - 1) → number ≤ 15000
    → reference_of strings text ≡ Some number
reference_found strings text kept at number a less e is few =
    found_below strings text at number (below_at strings text kept at a less) (omega arith) a.within e is few

pub reference_past : (strings : List (List ℕ)) (text : List ℕ) (kept at : ℕ) → IsAhead strings text kept at → kept < at
    → 15000 < length strings - (at - 1) → reference_of strings text ≡ None
reference_past strings text kept at a less far = none_below strings text at (below_at strings text kept at a less) (λ some. far)

pub reference_none : (strings : List (List ℕ)) (text : List ℕ) (kept at : ℕ) → IsAhead strings text kept at → at ≤ kept
    → (0 < kept → 15000 < length strings - (kept - 1)) → reference_of strings text ≡ None
reference_none strings text kept at a less far = none_below strings text kept (below_kept strings text kept at a less) far

pub reference_kept : (strings : List (List ℕ)) (latest : List ℕ → ℕ) (text : List ℕ) (at number : ℕ)
    → IsLatest strings latest → IsAhead strings text (latest text) at → at ≤ latest text → 0 < latest text
    → number ≡ length strings - (latest text - 1) → number ≤ 15000 → reference_of strings text ≡ Some number
reference_kept strings latest text at number all a less some is few =
    found_below strings text (latest text) number (below_kept strings text (latest text) at a less) some (all.within text) (all.equal text some) is few

-- what holds of a number that names the text
pub record Names (strings : List (List ℕ)) (text : List ℕ) (k : ℕ) : Type 0 where
  pub low : 1 ≤ k
  pub high : k ≤ 15000
  above : last_equal strings text ≤ k
  some : 1 ≤ last_equal strings text

pub names : (strings : List (List ℕ)) (text : List ℕ) (k : ℕ) → string_named strings k ≡ Some text → Names strings text k
names strings text k e =
    elim (cases_lt k 1) [
      | inl none ↦ let t : leb 1 k ≡ false = grind (arith, nat_tests) in let x : None ≡ Some text = rw t at e in absurd cc
      | inr low ↦ let t : leb 1 k ≡ true = grind (arith, nat_tests) in
          elim (cases_lt 15000 k) [
            | inl over ↦ let u : leb k 15000 ≡ false = grind (arith, nat_tests) in let x : None ≡ Some text = rw (t, u) at e in absurd cc
            | inr high ↦ let u : leb k 15000 ≡ true = grind (arith, nat_tests) in
                elim (cases_lt (length strings) k) [
                  | inl past ↦ let v : leb k (length strings) ≡ false = grind (arith, nat_tests) in let x : None ≡ Some text = rw (t, u, v) at e in absurd cc
                  | inr within ↦ let v : leb k (length strings) ≡ true = grind (arith, nat_tests) in
                      let x : slice_get strings (length strings - k) ≡ Some text = rw (t, u, v) at e in
                      let there : string_at strings (length strings - k) ≡ text = get_or_from_slice_get strings (length strings - k) text [] x in
                      let a : Above strings text (length strings - k) = no_smaller strings text (length strings - k) (omega arith) there in
                      let one : 1 ≤ last_equal strings text = a.some in
                      let least : last_equal strings text + (length strings - k) ≤ length strings = a.least in
                      record { low = low; high = high; above = omega arith; some = one }
                ]
          ]
    ]

pub reference_least : (strings : List (List ℕ)) (text : List ℕ) → IsLeast strings text (reference_of strings text)
reference_least strings text =
    elim (cases_lt (last_equal strings text) 1) [
      | inl none ↦
          let t : leb 1 (last_equal strings text) ≡ false = grind (arith, nat_tests) in
          rw t (λ k e. let n : Names strings text k = names strings text k e in let s = n.some in absurd (omega arith))
      | inr some ↦
          let t : leb 1 (last_equal strings text) ≡ true = grind (arith, nat_tests) in
          elim (cases_lt 15000 (last_equal strings text)) [
            | inl far ↦
                let u : leb (last_equal strings text) 15000 ≡ false = grind (arith, nat_tests) in
                rw (t, u) (λ k e. let n : Names strings text k = names strings text k e in let a = n.above in let h = n.high in absurd (omega arith))
            | inr near ↦
                let u : leb (last_equal strings text) 15000 ≡ true = grind (arith, nat_tests) in
                let f : Found strings text (last_equal strings text) = last_there strings text some in
                let bound : last_equal strings text ≤ length strings = f.bound in
                let v : leb (last_equal strings text) (length strings) ≡ true = grind (arith, nat_tests) in
                let got : slice_get strings (length strings - last_equal strings text) ≡ Some text =
                slice_get-get_or strings (length strings - last_equal strings text) [] (omega arith)
                ∙ ap (λ (x : List ℕ). Some x) f.at in
                rw (t, u) (rw (t, u, v) got, λ j less e. let n : Names strings text j = names strings text j e in let a = n.above in absurd (omega arith))
          ]
    ]

pub least_is : (strings : List (List ℕ)) (text : List ℕ) (r : Option ℕ) → r ≡ reference_of strings text → IsLeast strings text r
least_is strings text r e = subst (IsLeast strings text) (sym e) (reference_least strings text)
