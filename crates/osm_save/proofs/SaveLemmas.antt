-- What is read from a save text is what it saves, and what a save text saves is read from it.
use Rattle.std.proofs.Common.{◌≡◌, ℕ, ◌<◌, ◌≤◌, List, [], ◌∷◌, ◌++◌, length, refl, ap, sym, ◌∙◌, true, Some, None, Option, subst, arith}
use Rattle.std.specs.Prelude.{◌==◌, if◌then◌else◌, codes}
use Rattle.std.proofs.lemmas.Bool.Decides.{nat_tests}
use Rattle.std.proofs.lemmas.Option.{same_Some}
use Rattle.osm_model.specs.Change.{ChangeValue}
use Rattle.osm_model.specs.Filter.{AreKept, FilterValue, IsFilter}
use Rattle.osm_model.specs.Limits.{max_sequence}
use Rattle.osm_mirror.specs.Mirror.{Counted, IsMirror, IsWithin}
use Rattle.osm_reading.specs.Pieces.{Lacks}
use Rattle.osm_reading.specs.Answers.{and_then}
use Rattle.osm_reading.proofs.StepLemmas.{guard_some, some_then}
use Rattle.osm_save.specs.Filters.{TellsFilter}
use Rattle.osm_save.specs.Head.{IsHeadIn, head_lines, head_of, most_counted}
use Rattle.osm_save.specs.Lines.{ended, list_lines}
use Rattle.osm_save.specs.Save.{IsSavable, SpellsSave, count_text, most_objects, save_text, saved_with}
use Rattle.osm_opl.specs.Written.{line_text}
use Rattle.osm_save.specs.Reading.{counts_at, fixed_at, head_at, mirror_at, objects_at, save_at}
use Rattle.osm_save.specs.declared.head.Head.{Head}
use Rattle.osm_save.specs.declared.save.Saved.{Saved}
use Rattle.osm_save.specs.declared.version.Version.{Version}
use Rattle.osm_save.specs.declared.version.Version.TheVariants.{One, Three, Two}
use Rattle.osm_save.proofs.HeadLemmas.{TakesHead, head_again, head_takes}
use Rattle.osm_save.proofs.LineLemmas.{fixed_again, fixed_takes, lacks_by}
use Rattle.osm_save.proofs.MirrorLemmas.{TakesCounts, TakesObjects, above_of, counts_again, counts_most, counts_take}
use Rattle.osm_save.proofs.MirrorLemmas.{each_within, kept_objects, kept_of, numbers_of, objects_again, objects_of, objects_take}
use Rattle.osm_save.proofs.TextLemmas.{before, mirror_text, save_text_is}

small_counted : (head : Head) → head.number ≤ max_sequence → most_counted head < 1000000000000000000
small_counted head few = let small : head.number ≤ max_sequence = few in omega (arith, small)

pub small_objects : (version : Version) (number : ℕ) → number ≤ max_sequence → most_objects version number < 1000000000000000000
small_objects One number few = omega (arith, few)
small_objects Two number few = omega arith
small_objects Three number few = omega arith

-- ---- what is read is saved

pub record TakesMirror (version : Version) (head : Head) (f : FilterValue) (bytes : List ℕ) (v : Saved) : Type 0 where
  pub head_is : head_of v ≡ head
  pub filter_is : v.filter ≡ f
  pub mirror : IsMirror v.mirror
  pub kept : AreKept f v.mirror.objects
  pub within : IsWithin (most_counted head) v.mirror
  pub objects : length v.mirror.objects ≤ most_objects version head.number
  pub text : bytes ≡ mirror_text v.mirror

abbrev saved : Head → FilterValue → List ChangeValue → List Counted → List Counted → Saved
saved head f objects users changesets = saved_with head f (record { objects = objects; users = users; changesets = changesets })

pub nothing_left : (bytes : List ℕ) → (length bytes == 0) ≡ true → bytes ≡ []
nothing_left [] e = refl
nothing_left (b ∷ bs) e = absurd (let none : length (b ∷ bs) ≡ 0 = grind (arith, nat_tests) in omega (arith, none))

parts_joined : (bytes a r b s c t d : List ℕ) → bytes ≡ a ++ r → r ≡ b ++ s → s ≡ c ++ t → t ≡ d → bytes ≡ a ++ (b ++ (c ++ d))
parts_joined bytes a r b s c t d p q w x = p ∙ ap (λ (l : List ℕ). a ++ l) (q ∙ ap (λ (l : List ℕ). b ++ l) (w ∙ ap (λ (l : List ℕ). c ++ l) x))

mirror_taken : (version : Version) (head : Head) (f : FilterValue) (bytes : List ℕ) (o : List ChangeValue × List ℕ) (u s : List Counted
    × List ℕ) (rest : List ℕ) → TakesObjects f (most_objects version head.number) bytes o
    → TakesCounts (codes "users ") (most_counted head) o.1 u → TakesCounts (codes "changesets ") (most_counted head) u.1 s
    → s.1 ≡ codes "end" ++ 10 ∷ rest → rest ≡ [] → TakesMirror version head f bytes (saved head f o.0 u.0 s.0)
mirror_taken version head f bytes o u s rest objects users changesets end done = record {
  head_is = refl;
  filter_is = refl;
  mirror = record {
    orderly = record {
      objects = objects.rising;
      users = record { rising = users.rising; above = above_of (most_counted head) u.0 users.good };
      changesets = record { rising = changesets.rising; above = above_of (most_counted head) s.0 changesets.good };
    };
    objects = objects_of f o.0 objects.good;
    users = numbers_of (most_counted head) u.0 users.good;
    changesets = numbers_of (most_counted head) s.0 changesets.good;
  };
  kept = kept_of f o.0 objects.good;
  within = record {
    users = users.few;
    changesets = changesets.few;
    user_counts = counts_most (most_counted head) u.0 users.good;
    changeset_counts = counts_most (most_counted head) s.0 changesets.good;
  };
  objects = objects.few;
  text = parts_joined bytes (ended (list_lines (codes "objects ") line_text o.0)) o.1
      (ended (list_lines (codes "users ") count_text u.0)) u.1 (ended (list_lines (codes "changesets ") count_text s.0))
      s.1 (codes "end" ++ 10 ∷ []) objects.is_text users.is_text changesets.is_text
      (end ∙ ap (λ (l : List ℕ). codes "end" ++ 10 ∷ l) done);
}

abbrev ending : Head → FilterValue → List ChangeValue → List Counted → List Counted → List ℕ → Option Saved
ending head f o u s rest = if length rest == 0 then Some (saved head f o u s) else None

mirror_takes : (version : Version) (head : Head) (f : FilterValue) (bytes : List ℕ) (v : Saved) → head.number ≤ max_sequence
    → mirror_at version head f bytes ≡ Some v → TakesMirror version head f bytes v
unfolding mirror_at
mirror_takes version head f bytes v few e =
    let o = some_then (objects_at f (most_objects version head.number) bytes) (λ (o : List ChangeValue × List ℕ). and_then {A =
    List Counted × List ℕ} {B = Saved} (counts_at (codes "users ") (most_counted head) o.1)
    (λ (u : List Counted × List ℕ). and_then {A = List Counted × List ℕ} {B = Saved}
    (counts_at (codes "changesets ") (most_counted head) u.1) (λ (s : List Counted × List ℕ). and_then {A =
    List ℕ} {B = Saved} (fixed_at (codes "end") s.1) (λ (rest : List ℕ). ending head f o.0 u.0 s.0 rest)))) v
    e in
    let u = some_then (counts_at (codes "users ") (most_counted head) o.0.1) (λ (u : List Counted × List ℕ). and_then {A =
    List Counted × List ℕ} {B = Saved} (counts_at (codes "changesets ") (most_counted head) u.1)
    (λ (s : List Counted × List ℕ). and_then {A = List ℕ} {B = Saved} (fixed_at (codes "end") s.1)
    (λ (rest : List ℕ). ending head f o.0.0 u.0 s.0 rest))) v o.2 in
    let s = some_then (counts_at (codes "changesets ") (most_counted head) u.0.1)
    (λ (s : List Counted × List ℕ). and_then {A = List ℕ} {B = Saved} (fixed_at (codes "end") s.1)
    (λ (rest : List ℕ). ending head f o.0.0 u.0.0 s.0 rest)) v u.2 in
    let last = some_then (fixed_at (codes "end") s.0.1) (λ (rest : List ℕ). ending head f o.0.0 u.0.0 s.0.0 rest) v s.2 in
    let g = guard_some (length last.0 == 0) (Some (saved head f o.0.0 u.0.0 s.0.0)) v last.2 in
    let small = small_counted head few in
    subst (λ (x : Saved). TakesMirror version head f bytes x) (same_Some (saved head f o.0.0 u.0.0 s.0.0) v g.1)
    (mirror_taken version head f bytes o.0 u.0 s.0 last.0 (objects_take f (most_objects version head.number) bytes o.0 o.1)
    (counts_take (codes "users ") (most_counted head) o.0.1 u.0 small u.1)
    (counts_take (codes "changesets ") (most_counted head) u.0.1 s.0 small s.1)
    (fixed_takes (codes "end") s.0.1 last.0 last.1) (nothing_left last.0 g.0))

lines_joined : (bytes rest : List ℕ) (version : Version) (head : Head) (f : FilterValue) (v : Saved)
    → bytes ≡ before (head_lines version head f) rest → TakesMirror version head f rest v → bytes ≡ save_text version v
lines_joined bytes rest version head f v p m =
    p ∙ (rw (← m.head_is, ← m.filter_is) (ap (before (head_lines version (head_of v) v.filter)) m.text) ∙ sym (save_text_is version v))

savable_of : (version : Version) (head : Head) (f : FilterValue) (bytes rest : List ℕ) (v : Saved) → TakesHead bytes version head f rest
    → TakesMirror version head f rest v → IsSavable version v
savable_of version head f bytes rest v h m = record {
  head = subst (λ (x : Head). IsHeadIn version x) (sym m.head_is) h.limits;
  filter = subst (λ (x : FilterValue). IsFilter x) (sym m.filter_is) h.is_filter;
  tells = subst (λ (x : FilterValue). TellsFilter version x) (sym m.filter_is) h.tells;
  mirror = m.mirror;
  kept = subst (λ (x : FilterValue). AreKept x v.mirror.objects) (sym m.filter_is) m.kept;
  within = subst (λ (x : Head). IsWithin (most_counted x) v.mirror) (sym m.head_is) m.within;
  objects = subst (λ (x : Head). length v.mirror.objects ≤ most_objects version x.number) (sym m.head_is) m.objects;
}

pub save_takes : (bytes : List ℕ) (v : Saved) → save_at bytes ≡ Some v → SpellsSave bytes v
unfolding save_at
save_takes bytes v e =
    let h = some_then (head_at bytes) (λ (h : Version × Head × FilterValue × List ℕ). mirror_at h.0 h.1 h.2 h.3) v e in
    let head : TakesHead bytes h.0.0 h.0.1 h.0.2 h.0.3 = head_takes bytes h.0 h.1 in
    let m = mirror_takes h.0.0 h.0.1 h.0.2 h.0.3 v head.limits.number h.2 in
    record {
      version = h.0.0;
      savable = savable_of h.0.0 h.0.1 h.0.2 bytes h.0.3 v head m;
      text = lines_joined bytes h.0.3 h.0.0 h.0.1 h.0.2 v head.text m;
    }

-- ---- what is saved is read

users_lack : Lacks 10 (codes "users ")
users_lack = lacks_by 10 (codes "users ") refl

changesets_lack : Lacks 10 (codes "changesets ")
changesets_lack = lacks_by 10 (codes "changesets ") refl

end_lacks : Lacks 10 (codes "end")
end_lacks = lacks_by 10 (codes "end") refl

mirror_again : (version : Version) (v : Saved) → IsSavable version v → mirror_at version (head_of v) v.filter (mirror_text v.mirror) ≡ Some v
unfolding mirror_at
mirror_again version v is =
    let most : ℕ = most_counted (head_of v) in
    let small = small_counted (head_of v) is.head.number in
    let end = fixed_again (codes "end") [] end_lacks in
    let changesets = counts_again (codes "changesets ") most v.mirror.changesets (codes "end" ++ 10 ∷ [])
    changesets_lack is.within.changesets small
    (each_within most v.mirror.changesets is.mirror.orderly.changesets.rising is.mirror.changesets
    is.mirror.orderly.changesets.above is.within.changeset_counts) is.mirror.orderly.changesets.rising in
    let users = counts_again (codes "users ") most v.mirror.users
    (ended (list_lines (codes "changesets ") count_text v.mirror.changesets) ++ (codes "end" ++ 10 ∷ [])) users_lack
    is.within.users small (each_within most v.mirror.users is.mirror.orderly.users.rising
    is.mirror.users is.mirror.orderly.users.above is.within.user_counts) is.mirror.orderly.users.rising in
    let good = kept_objects v.filter v.mirror.objects is.mirror.objects is.kept in
    let objects = objects_again v.filter (most_objects version v.number) v.mirror.objects
    (ended (list_lines (codes "users ") count_text v.mirror.users)
    ++ (ended (list_lines (codes "changesets ") count_text v.mirror.changesets) ++ (codes "end" ++ 10 ∷ [])))
    is.objects (small_objects version v.number is.head.number) good is.mirror.orderly.objects in
    rw (objects, users, changesets, end) refl

pub save_again : (version : Version) (v : Saved) → IsSavable version v → save_at (save_text version v) ≡ Some v
unfolding save_at
save_again version v is =
    let head = head_again version (head_of v) v.filter (mirror_text v.mirror) is.head is.filter is.tells in
    rw (save_text_is version v, head) (mirror_again version v is)

pub save_found : (bytes : List ℕ) (v : Saved) → SpellsSave bytes v → save_at bytes ≡ Some v
save_found bytes v s = ap save_at s.text ∙ save_again s.version v s.savable

-- bytes save at most one thing
pub one_save : (bytes : List ℕ) (a b : Saved) → SpellsSave bytes a → SpellsSave bytes b → a ≡ b
one_save bytes a b p q = same_Some a b (sym (save_found bytes a p) ∙ save_found bytes b q)

pub no_save : (bytes : List ℕ) → save_at bytes ≡ None → (v : Saved) → SpellsSave bytes v → ⊥
no_save bytes none v s = let bad : None ≡ Some v = sym none ∙ save_found bytes v s in cc
