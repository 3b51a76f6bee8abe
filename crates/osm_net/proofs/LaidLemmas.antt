-- Net changes laid over objects: how the merge goes on from its first entry and its first object, and what it gives.
use Rattle.std.proofs.Common.{◌≡◌, List, [], ◌∷◌, refl, sym, ap, subst, ◌∙◌, Option, Some, None}
use Rattle.std.specs.Prelude.{unwrap_or}
use Rattle.std.specs.BTreeMap.{is_at}
use Rattle.std.specs.List.{AllByRecursion}
use Rattle.std.specs.List.Sorted.{IsStrictlySortedBy}
use Rattle.std.specs.Map.{keys_of, lookup}
use Rattle.std.specs.Ordering.{match_ordering}
use Rattle.std.specs.declared.cmp.Ordering.{Ordering}
use Rattle.std.specs.declared.cmp.Ordering.TheVariants.{Less, Equal, Greater}
use Rattle.std.proofs.lemmas.Option.{same_Some}
use Rattle.osm_model.specs.Change.{ChangeValue}
use Rattle.osm_model.specs.KeyOrder.{key_cmp}
use Rattle.osm_model.specs.declared.kind.Key.{Key}
use Rattle.osm_model.proofs.ContentLemmas.{one_key}
use Rattle.osm_model.proofs.DataLemmas.{keys_total}
use Rattle.osm_mirror.specs.Mirror.{AreRising, IsObject, object_at}
use Rattle.osm_net.specs.Laid.{laid_one, laid_over, put_before}
use Rattle.osm_net.specs.Net.{AreKeysRising, HasOwnKey, LeavesObject, NetEntry, net_at}
use Rattle.osm_net.proofs.MergeLemmas.{all_map, all_merged, all_of_map, joined, merged, merged_at, merged_rises, put, ranks_alike, step}
use Rattle.osm_mirror.proofs.SameLemmas.{keyed, keys-keyed, object_at-keyed}

-- ---- the merge, step by step

-- without entries all objects stay
pub laid_over-no_entry : (cs : List ChangeValue) → laid_over [] cs ≡ cs
unfolding laid_over
laid_over-no_entry cs = refl

-- without objects each entry is put
pub laid_over-no_object : (e : NetEntry) (es : List NetEntry) → laid_over (e ∷ es) [] ≡ put_before e.1 (laid_over es [])
unfolding laid_over laid_one
laid_over-no_object e es = refl

-- by the order of the first entry's key and the first object's
pub laid_over-step : (e : NetEntry) (es : List NetEntry) (c : ChangeValue) (cs : List ChangeValue) → laid_over (e ∷ es) (c ∷ cs)
    ≡ match_ordering (key_cmp e.0 c.key) (put_before e.1 (laid_over es (c ∷ cs))) (put_before e.1 (laid_over es cs)) (c ∷ laid_over (e ∷ es) cs)
unfolding laid_over laid_one
laid_over-step e es c cs = refl

abbrev by_order : NetEntry → List NetEntry → ChangeValue → List ChangeValue → Ordering → List ChangeValue
by_order e es c cs o = match_ordering o (put_before e.1 (laid_over es (c ∷ cs))) (put_before e.1 (laid_over es cs)) (c ∷ laid_over (e ∷ es) cs)

-- the entry's key is below the object's: the entry is put
pub laid_over-below : (e : NetEntry) (es : List NetEntry) (c : ChangeValue) (cs : List ChangeValue) → key_cmp e.0 c.key ≡ Less
    → laid_over (e ∷ es) (c ∷ cs) ≡ put_before e.1 (laid_over es (c ∷ cs))
laid_over-below e es c cs less = laid_over-step e es c cs ∙ ap (by_order e es c cs) less

-- they are equal: the entry is put in the object's place
pub laid_over-at : (e : NetEntry) (es : List NetEntry) (c : ChangeValue) (cs : List ChangeValue) → key_cmp e.0 c.key ≡ Equal
    → laid_over (e ∷ es) (c ∷ cs) ≡ put_before e.1 (laid_over es cs)
laid_over-at e es c cs equal = laid_over-step e es c cs ∙ ap (by_order e es c cs) equal

-- the entry's key is above the object's: the object stays
pub laid_over-above : (e : NetEntry) (es : List NetEntry) (c : ChangeValue) (cs : List ChangeValue) → key_cmp e.0 c.key ≡ Greater
    → laid_over (e ∷ es) (c ∷ cs) ≡ c ∷ laid_over (e ∷ es) cs
laid_over-above e es c cs greater = laid_over-step e es c cs ∙ ap (by_order e es c cs) greater

-- ---- the merge of entries that it is

-- an entry is what is left, if anything, whatever was there before it
abbrev fresh : Option ChangeValue → Option ChangeValue
fresh z = z

abbrev instead : Option ChangeValue → ChangeValue → Option ChangeValue
instead z c = z

abbrev laid : List NetEntry → List (Key × ChangeValue) → List (Key × ChangeValue)
laid es cs = merged key_cmp fresh instead es cs

keyed-put : (k : Key) (z : Option ChangeValue) (cs : List ChangeValue) (rest : List (Key × ChangeValue)) → HasOwnKey (k, z) → keyed cs ≡ rest
    → keyed (put_before z cs) ≡ put key_cmp fresh instead k z rest
keyed-put k None cs rest own is = is
keyed-put k (Some d) cs rest own is = λ i. (sym own i, d) ∷ is i

keyed-one : (e : NetEntry) (es : List NetEntry) → HasOwnKey e → ((cs : List ChangeValue) → keyed (laid_over es cs) ≡ laid es (keyed cs))
    → (cs : List ChangeValue) → keyed (laid_one e (laid_over es) cs) ≡ step key_cmp fresh instead e (laid es) (keyed cs)
unfolding laid_one
keyed-one e es own ih [] = keyed-put e.0 e.1 (laid_over es []) (laid es []) own (ih [])
keyed-one e es own ih (c ∷ cs) = ranks_alike keyed (key_cmp e.0 c.key)
    (put_before e.1 (laid_over es (c ∷ cs))) (put_before e.1 (laid_over es cs)) (c ∷ laid_one e (laid_over es) cs)
    (put key_cmp fresh instead e.0 e.1 (laid es (keyed (c ∷ cs)))) (put key_cmp fresh instead c.key e.1 (laid es (keyed cs)))
    ((c.key, c) ∷ step key_cmp fresh instead e (laid es) (keyed cs))
    (λ less. keyed-put e.0 e.1 (laid_over es (c ∷ cs)) (laid es (keyed (c ∷ cs))) own (ih (c ∷ cs)))
    (λ same. keyed-put c.key e.1 (laid_over es cs) (laid es (keyed cs)) (subst (λ (k : Key). HasOwnKey (k, e.1)) (one_key e.0 c.key same) own) (ih cs))
    (λ greater. ap (λ (rest : List (Key × ChangeValue)). (c.key, c) ∷ rest) (keyed-one e es own ih cs))

keyed-laid : (es : List NetEntry) (cs : List ChangeValue) → AllByRecursion HasOwnKey es → keyed (laid_over es cs) ≡ laid es (keyed cs)
unfolding laid_over
keyed-laid [] cs own = refl
keyed-laid (e ∷ es) cs own = keyed-one e es own.0 (λ ds. keyed-laid es ds own.1) cs

-- ---- what it gives

keys_rise : (cs : List ChangeValue) → AreRising cs → IsStrictlySortedBy key_cmp (keys_of (keyed cs))
keys_rise cs r = rw (keys-keyed cs) r

pub laid_rises : (es : List NetEntry) (cs : List ChangeValue) → AreKeysRising es → AllByRecursion HasOwnKey es → AreRising cs → AreRising (laid_over es cs)
laid_rises es cs r own s =
    let keys : IsStrictlySortedBy key_cmp (keys_of (laid es (keyed cs))) = merged_rises key_cmp fresh instead keys_total es (keyed cs) r (keys_rise cs s) in
    rw (← keys-keyed (laid_over es cs), keyed-laid es cs own) keys

joined_is : (z : Option (Option ChangeValue)) (o : Option ChangeValue) → joined key_cmp fresh instead keys_total z o ≡ unwrap_or z o
joined_is None o = refl
joined_is (Some z) None = refl
joined_is (Some z) (Some c) = refl

-- at each key it has what is left by the entry, if there is one, or else the object
pub laid_at : (es : List NetEntry) (cs : List ChangeValue) (k : Key) → AreKeysRising es → AllByRecursion HasOwnKey es → AreRising cs
    → object_at (laid_over es cs) k ≡ unwrap_or (net_at es k) (object_at cs k)
laid_at es cs k r own s =
    object_at-keyed (laid_over es cs) k
    ∙ (ap (lookup (is_at (key_cmp k))) (keyed-laid es cs own)
    ∙ (merged_at key_cmp fresh instead keys_total k es (keyed cs) r (keys_rise cs s)
    ∙ (joined_is (net_at es k) (lookup (is_at (key_cmp k)) (keyed cs))
    ∙ ap (unwrap_or (net_at es k)) (sym (object_at-keyed cs k)))))

left_object : (k : Key) (z : Option ChangeValue) (c : ChangeValue) → LeavesObject (k, z) → z ≡ Some c → IsObject c
left_object k None c is e = absurd (let bad : None ≡ Some c = e in cc)
left_object k (Some d) c is e = subst IsObject (same_Some d c e) is

pub laid_objects : (es : List NetEntry) (cs : List ChangeValue) → AllByRecursion HasOwnKey es → AllByRecursion LeavesObject es → AllByRecursion IsObject cs
    → AllByRecursion IsObject (laid_over es cs)
laid_objects es cs own left all =
    let each : AllByRecursion (λ (p : Key × ChangeValue). IsObject p.1) (laid es (keyed cs)) =
    all_merged key_cmp fresh instead LeavesObject (λ (p : Key × ChangeValue). IsObject p.1) (λ e c q is. left_object e.0 e.1 c q is)
    (λ e p c q h is. left_object e.0 e.1 c q is) es (keyed cs) left
    (all_map (λ (c : ChangeValue). (c.key, c)) (λ (p : Key × ChangeValue). IsObject p.1) cs all) in
    let of_keyed : AllByRecursion (λ (p : Key × ChangeValue). IsObject p.1) (keyed (laid_over es cs)) = rw (keyed-laid es cs own) each in
    all_of_map (λ (c : ChangeValue). (c.key, c)) (λ (p : Key × ChangeValue). IsObject p.1) (laid_over es cs) of_keyed
