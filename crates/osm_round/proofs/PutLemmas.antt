-- What is saved of what a run took.
use Rattle.std.proofs.Common.{◌≡◌, ℕ, ◌≤◌, List, Option, inl, inr, arith, refl, sym, subst}
use Rattle.std.specs.Prelude.{◌⊎◌}
use Rattle.std.specs.Ordering.{nat_cmp}
use Rattle.osm_model.specs.Filter.{AreKept, FilterValue}
use Rattle.osm_model.specs.Limits.{max_sequence}
use Rattle.osm_mirror.specs.Mirror.{IsOrderly, IsWithin, MirrorValue, no_mirror}
use Rattle.osm_mirror.proofs.MirrorLemmas.{rising-nil}
use Rattle.osm_model.specs.KeyOrder.{key_cmp}
use Rattle.osm_net.specs.Laid.{laid_on}
use Rattle.osm_net.specs.Net.{IsNet, NetValue}
use Rattle.osm_net.proofs.AddedLemmas.{added-length, added_at}
use Rattle.osm_net.proofs.NetLemmas.{counts_are_few, stays_kept_by, stays_mirror}
use Rattle.osm_save.specs.Head.{IsHeadIn, IsTimeOf, head_of, most_counted}
use Rattle.osm_save.specs.Save.{SpellsSave, save_text}
use Rattle.osm_save.specs.declared.head.Head.{Head}
use Rattle.osm_save.specs.declared.version.Version.TheVariants.{Three}
use Rattle.osm_store.specs.Files.{Files}
use Rattle.osm_merge.specs.Checking.{IsHugeFile}
use Rattle.osm_merge.specs.Lists.{AreFew}
use Rattle.osm_merge.specs.Merging.{HasTooMany, IsMerged, MergeStops as MergeStopsAt}
use Rattle.osm_merge.proofs.FewLemmas.{few_net}
use Rattle.osm_merge.specs.declared.fault.MergeFault.{MergeFault}
use Rattle.osm_merge.specs.declared.fault.MergeFault.TheVariants as merges
use Rattle.osm_runs.specs.Following.{no_head}
use Rattle.osm_round.specs.Putting.{IsSavableAlone, saved_after}
use Rattle.osm_round.specs.Starting.{MergeStops}
use Rattle.osm_runs.specs.Checking.{IsTooLarge}
use Rattle.osm_runs.specs.Checking.{write_fault_of}
use Rattle.osm_round.specs.Taking.{IsTaken}
use Rattle.osm_round.specs.News.{TakenValue}

-- ---- faults of saves

pub write_stops : (known : Type 0) (told : Option (List ℕ)) (n : NetValue) (fault : MergeFault) → (known → MergeStopsAt told n fault)
    → MergeStops known told n (write_fault_of fault)
write_stops known told n merges.ReadFault h = refl
write_stops known told n merges.WriteFault h = refl
write_stops known told n merges.WantOfMemory h = tt
write_stops known told n merges.NoSave h = (refl, h)
write_stops known told n (merges.BadSave line) h = h
write_stops known told n merges.LongLine h = (refl, λ sure. inl (inr (h sure)))
write_stops known told n merges.TooLarge h = (refl, λ sure. too_large (h sure))
  where
    too_large : IsHugeFile told ⊎ HasTooMany told n → IsTooLarge told ⊎ HasTooMany told n
    too_large (inl huge) = inl (inl huge)
    too_large (inr many) = inr many
write_stops known told n merges.Changed h = (refl, h)

-- ---- what can be saved

module _ (f : FilterValue) (m : MirrorValue) (start : Head) (count : ℕ) (taken : TakenValue) (t : IsTaken f start count taken) where
  pub head_in : IsTimeOf start.number start.time → start.base ≤ start.number → taken.head.number ≤ max_sequence → IsHeadIn Three taken.head
  head_in time low most =
      let number_is = t.number in
      let base_is = t.base in
      record { number = most; base = omega (arith, number_is, base_is, low); told = tt; time = t.time time }

  pub kept_after : IsOrderly m → AreKept f m.objects → AreKept f (laid_on taken.net m).objects
  kept_after orderly kept = stays_kept_by f t.changes taken.net m orderly t.net kept

  pub within_after : IsOrderly m → IsWithin (most_counted start) m → start.base ≤ start.number
      → IsWithin (most_counted taken.head) (laid_on taken.net m)
  within_after orderly within low =
      let number_is = t.number in
      let base_is = t.base in
      let few = t.few in
      let wu = t.widens.users in
      let ws = t.widens.changesets in
      let lu = added-length taken.net.users m.users in
      let ls = added-length taken.net.changesets m.changesets in
      let u = within.users in
      let s = within.changesets in
      let most = counts_are_few f t.changes taken.net t.net in
      record {
        users = omega (arith, number_is, base_is, few, wu, lu, u, low);
        changesets = omega (arith, number_is, base_is, few, ws, ls, s, low);
        user_counts = λ uid. (let sum = added_at taken.net.users m.users uid t.net.orderly.users orderly.users in
            let more = most.users uid in
            let old = within.user_counts uid in
            omega (arith, number_is, base_is, few, sum, more, old, low));
        changeset_counts = λ id. (let sum = added_at taken.net.changesets m.changesets id t.net.orderly.changesets orderly.changesets in
            let more = most.changesets id in
            let old = within.changeset_counts id in
            omega (arith, number_is, base_is, few, sum, more, old, low));
      }

pub few_taken : (f : FilterValue) (start : Head) (count : ℕ) (taken : TakenValue) → IsTaken f start count taken
    → taken.head.number ≤ max_sequence → AreFew taken.net
few_taken f start count taken t most =
    let number_is = t.number in
    let few = t.few in
    few_net f t.changes taken.net t.net (omega (arith, number_is, few, most))

-- ---- what is put

pub orderly_nothing : IsOrderly no_mirror
orderly_nothing = record {
  objects = rising-nil key_cmp;
  users = record { rising = rising-nil nat_cmp; above = tt };
  changesets = record { rising = rising-nil nat_cmp; above = tt };
}

-- what is written over a save is the save text of what it saved, after what was taken
pub merged_spells : (given : FilterValue) (save : List ℕ) (start : Head) (count : ℕ) (taken : TakenValue) (old new : Files) → IsTaken given start count taken
    → IsNet taken.net → taken.head.number ≤ max_sequence → start.base ≤ start.number → (merged : IsMerged taken.head taken.net save old new)
    → head_of merged.saved ≡ start → merged.saved.filter ≡ given
    → SpellsSave (save_text Three (saved_after merged.saved taken)) (saved_after merged.saved taken)
merged_spells given save start count taken old new t net most low merged head filter =
    let can = merged.spells.savable in
    let time : IsTimeOf start.number start.time = subst (λ (h : Head). IsTimeOf h.number h.time) head can.head.time in
    let kept = subst (λ (g : FilterValue). AreKept g merged.saved.mirror.objects) filter can.kept in
    let within = subst (λ (h : Head). IsWithin (most_counted h) merged.saved.mirror) head can.within in
    record {
      version = Three;
      savable = record {
        head = head_in given merged.saved.mirror start count taken t time low most;
        filter = can.filter;
        tells = tt;
        mirror = stays_mirror taken.net merged.saved.mirror net can.mirror;
        kept = subst (λ (g : FilterValue). AreKept g (laid_on taken.net merged.saved.mirror).objects) (sym filter)
            (kept_after given merged.saved.mirror start count taken t can.mirror.orderly kept);
        within = within_after given merged.saved.mirror start count taken t can.mirror.orderly within low;
        objects = merged.few;
      };
      text = refl;
    }

-- what was taken where there was no save can be saved
pub savable_alone : (given : FilterValue) (count : ℕ) (taken : TakenValue) → IsTaken given no_head count taken → taken.head.number ≤ max_sequence
    → IsSavableAlone given taken
savable_alone given count taken t most = record {
  head = head_in given no_mirror no_head count taken t refl (omega arith) most;
  within = within_after given no_mirror no_head count taken t orderly_nothing (record {
    users = omega arith;
    changesets = omega arith;
    user_counts = λ uid. omega arith;
    changeset_counts = λ id. omega arith;
  }) (omega arith);
  kept = kept_after given no_mirror no_head count taken t orderly_nothing tt;
}
