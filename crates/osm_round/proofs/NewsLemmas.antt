-- What is new: changes that are held, taken, or put after other net changes.
use Rattle.std.proofs.Common.{◌≡◌, ℕ, ◌+◌, ◌*◌, ◌≤◌, List, [], ◌∷◌, ◌++◌, length, length-append, refl, sym, ap, ◌∙◌, subst, Some, arith}
use Rattle.std.specs.Prelude.{Vec}
use Rattle.std.specs.declared.alloc.Global.{Global}
use Rattle.std.proofs.lemmas.List.{append-nil, append_assoc}
use Rattle.osm_model.specs.Change.{ChangeValue}
use Rattle.osm_model.specs.Filter.{FilterValue}
use Rattle.osm_model.specs.Limits.{max_changes, max_sequence}
use Rattle.osm_mirror.specs.Mirror.{count_at}
use Rattle.osm_mirror.proofs.MirrorLemmas.{edits_by_changeset-most, edits_by_user-most}
use Rattle.osm_net.specs.Net.{HasRoomFor, IsOrderlyNet, NetValue, Takes, WidensBy, no_net}
use Rattle.osm_o5c.specs.Written.{o5c_text}
use Rattle.osm_store.specs.Files.{Files}
use Rattle.osm_runs.specs.Following.{IsNumber, size_of}
use Rattle.osm_round.specs.Gathering.{Grows}
use Rattle.osm_round.specs.News.{HasRoomForHeld, HoldsUpTo, IsMore, came_to, changes_in, net_in, net_with}
use Rattle.osm_round.specs.Taking.{TakesNumber, head_after}
use Rattle.osm_round.specs.declared.gathered.Gathered.{Gathered}
use Rattle.osm_round.specs.declared.news.News.{News}
use Rattle.osm_round.specs.declared.taken.Taken.{Taken}
use Rattle.osm_round.proofs.WithLemmas.{takes_is, with_append, with_none, with_takes, with_widens}

pub changes_in-append : (vs ws : List (Vec ChangeValue Global)) → changes_in (vs ++ ws) ≡ changes_in vs ++ changes_in ws
changes_in-append [] ws = refl
changes_in-append (v ∷ vs) ws = ap (λ (cs : List ChangeValue). v.items ++ cs) (changes_in-append vs ws)
    ∙ sym (append_assoc v.items (changes_in vs) (changes_in ws))

pub changes_in-one : (vs : List (Vec ChangeValue Global)) (v : Vec ChangeValue Global) → changes_in (vs ++ v ∷ []) ≡ changes_in vs ++ v.items
changes_in-one vs v = changes_in-append vs (v ∷ []) ∙ ap (λ (cs : List ChangeValue). changes_in vs ++ cs) (append-nil v.items)

-- how many changes there are in those of some numbers, of one, and of others
pub length-changes_in : (vs ws : List (Vec ChangeValue Global)) (v : Vec ChangeValue Global)
    → length (changes_in (vs ++ v ∷ ws)) ≡ length (changes_in vs) + length v.items + length (changes_in ws)
length-changes_in vs ws v =
    let all : length (changes_in (vs ++ v ∷ ws)) ≡ length (changes_in vs ++ (v.items ++ changes_in ws)) =
    ap (λ (cs : List ChangeValue). length cs) (changes_in-append vs (v ∷ ws)) in
    let first = length-append (changes_in vs) (v.items ++ changes_in ws) in
    let second = length-append v.items (changes_in ws) in
    omega (arith, all, first, second)

-- ---- room

-- room for all is room for some after those before them
pub room_within : (f : FilterValue) (a b : NetValue) (before : List ChangeValue) (most more : ℕ) → HasRoomFor most a → Takes f a before b
    → length before + more ≤ most → HasRoomFor more b
room_within f a b before most more room t within = record {
  users = λ uid. (let r = room.users uid in let p = t.users uid in let q = edits_by_user-most before uid in omega (arith, r, p, q, within));
  changesets = λ id. (let r = room.changesets id in let p = t.changesets id in let q = edits_by_changeset-most before id in omega (arith, r, p, q, within));
}

-- nothing is new
pub none_in : (f : FilterValue) (news : News) → news.net ≡ no_net → news.held.items ≡ [] → net_in f news ≡ no_net
none_in f news none held = (λ i. net_with f (none i) (changes_in (held i))) ∙ with_none f no_net

pub none_holds : (most : ℕ) (news : News) → news.net ≡ no_net → news.held.items ≡ [] → HoldsUpTo most news
none_holds most news none held =
    let count : length (changes_in news.held.items) ≡ 0 = ap (λ vs. length (changes_in vs)) held in
    record {
      users = λ uid. (let no : count_at news.net.users uid ≡ 0 = ap (λ (n : NetValue). count_at n.users uid) none in omega (arith, no, count));
      changesets = λ id. (let no : count_at news.net.changesets id ≡ 0 = ap (λ (n : NetValue). count_at n.changesets id) none in omega (arith, no, count));
    }

-- what may be held of so many sequences leaves room
pub room_for_held : (number : ℕ) (news : News) → HoldsUpTo (max_changes * number) news → number ≤ max_sequence → HasRoomForHeld news
room_for_held number news held most = record {
  users = λ uid. (let h = held.users uid in omega (arith, h, most));
  changesets = λ id. (let h = held.changesets id in omega (arith, h, most));
}

-- ---- what is new

-- changes that are held come after what was new before
pub holds_more : (old new : News) (v : Vec ChangeValue Global) → new.net ≡ old.net → new.held.items ≡ old.held.items ++ v ∷ []
    → (f : FilterValue) → IsMore f v.items old new
holds_more old new v same held f =
    let all : changes_in new.held.items ≡ changes_in old.held.items ++ v.items =
    ap changes_in held ∙ changes_in-one old.held.items v in
    let count : length (changes_in new.held.items) ≡ length (changes_in old.held.items) + length v.items =
    ap (λ (cs : List ChangeValue). length cs) all ∙ length-append (changes_in old.held.items) v.items in
    record {
      net = (λ i. net_with f (same i) (all i)) ∙ with_append f old.net (changes_in old.held.items) v.items;
      few = λ most h. record {
        users = λ uid. (let p = h.users uid in
            let q : count_at new.net.users uid ≡ count_at old.net.users uid = ap (λ (n : NetValue). count_at n.users uid) same in
            omega (arith, p, q, count));
        changesets = λ id. (let p = h.changesets id in
            let q : count_at new.net.changesets id ≡ count_at old.net.changesets id = ap (λ (n : NetValue). count_at n.changesets id) same in
            omega (arith, p, q, count));
      };
    }

-- changes that are taken after those that were held
pub takes_more : (f : FilterValue) (old new : News) (between : NetValue) (cs : List ChangeValue) → IsOrderlyNet old.net
    → Takes f old.net (changes_in old.held.items) between → Takes f between cs new.net → new.held.items ≡ [] → IsMore f cs old new
takes_more f old new between cs orderly first second none =
    let held : changes_in new.held.items ≡ [] = ap changes_in none in
    let count : length (changes_in new.held.items) ≡ 0 = ap (λ (ds : List ChangeValue). length ds) held in
    record {
      net = (λ i. net_with f new.net (held i)) ∙ (with_none f new.net ∙ (takes_is f between new.net cs first.orderly second
          ∙ ap (λ (n : NetValue). net_with f n cs) (takes_is f old.net between (changes_in old.held.items) orderly first)));
      few = λ most h. record {
        users = λ uid. (let p = h.users uid in let q = first.users uid in let r = second.users uid in
            let s = edits_by_user-most (changes_in old.held.items) uid in let t = edits_by_user-most cs uid in omega (arith, p, q, r, s, t, count));
        changesets = λ id. (let p = h.changesets id in let q = first.changesets id in let r = second.changesets id in
            let s = edits_by_changeset-most (changes_in old.held.items) id in let t = edits_by_changeset-most cs id in
            omega (arith, p, q, r, s, t, count));
      };
    }

-- the changes of a number, taken or held
pub number_taken : (known : Type 0) (files : Files) (dir : List ℕ) (number time size : ℕ) (f : FilterValue) (old new : Taken) (cs : List ChangeValue)
    (before after : Gathered) → IsNumber known files dir old.head.time number time cs → new.head ≡ head_after old.head number time
    → IsOrderlyNet (net_in f old.news) → IsMore f cs old.news new.news → (known → size ≡ size_of files dir number)
    → Grows (record { number = number; time = time; bytes = o5c_text cs }) before after
    → TakesNumber known files dir number f (came_to f old) (came_to f new) before after (Some size)
number_taken known files dir number time size f old new cs before after is head orderly more sized grown = (
  time,
  cs,
  is,
  head,
  subst (Takes f (net_in f old.news) cs) (sym more.net) (with_takes f (net_in f old.news) cs is.limits.each orderly),
  subst (WidensBy (length cs) (net_in f old.news)) (sym more.net) (with_widens f (net_in f old.news) cs),
  sized,
  grown,
)
