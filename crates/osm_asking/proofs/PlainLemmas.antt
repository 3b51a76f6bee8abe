-- Save texts that are read in few calls.
use Rattle.std.proofs.Common.{◌≡◌, ℕ, ◌≤◌, ◌^◌, List, [], length, drop, refl, sym, ap, ◌∙◌, arith, Option, Some, None}
use Rattle.std.specs.Prelude.{Err, IsSome, Ok, false, true}
use Rattle.std.proofs.lemmas.List.{drop_all}
use Rattle.osm_blocks.specs.Frames.{ReadsOften}
use Rattle.osm_merge.proofs.FrameLemmas.{has_still}
use Rattle.osm_reading.specs.Pieces.{cut_at}
use Rattle.osm_save.specs.declared.save.Saved.{Saved}
use Rattle.osm_store.specs.Frames.{MakesAtMost, StoreState}
use Rattle.osm_asking.specs.Lines.{HasLines}
use Rattle.osm_asking.specs.Reads.{IsPlainSave, IsPlainText, NoneBegins}
use Rattle.osm_asking.proofs.RunLemmas.{has_opened}

-- the same file after calls
pub plain_still : {T E : Type 0} {blames : E → Type 0} (a b : StoreState) (x : T) (name file : List ℕ) (v : Saved) → ReadsOften blames a b (Ok x)
    → IsPlainSave a name file v → IsPlainSave b name file v
plain_still a b x name file v frame p = record { has = has_still a b x name file frame p.has; spells = p.spells; few = p.few; short = p.short }

pub plain_between : (a b : StoreState) (name file : List ℕ) (v : Saved) → b.files ≡ a.files → b.is_known ≡ a.is_known → IsPlainSave a name file v
    → IsPlainSave b name file v
plain_between a b name file v files known p = record {
  has = has_opened a b name file files known p.has.known p.has.there;
  spells = p.spells;
  few = p.few;
  short = p.short;
}

pub plain_text : (a : StoreState) (name : List ℕ) (start : ℕ) (file : List ℕ) (v : Saved) → IsPlainSave a name file v → HasLines file start v
    → IsPlainText a name start file v
plain_text a name start file v p lines = record { has = p.has; lines = lines; few = p.few; short = p.short }

nothing_cut : cut_at 10 [] ≡ None
unfolding cut_at
nothing_cut = refl

-- so large a place is after every line
pub unended : (file : List ℕ) → length file ≤ 2 ^ 40 → NoneBegins file 18446744073709551615
unended file few = λ skipped after cut.
    (let none : drop 18446744073709551615 file ≡ [] = drop_all 18446744073709551615 file (omega (arith, few)) in
    let bad : ◌≡◌ {A = Option (List ℕ × List ℕ)} None (Some (skipped, after)) = sym nothing_cut ∙ (sym (ap (cut_at 10) none) ∙ cut) in
    absurd cc)

-- ---- the same calls, with another answer

pub calls_as : {T U E F : Type 0} {blames : E → Type 0} {others : F → Type 0} (k : ℕ) (a b : StoreState) (x : T) (y : U) → MakesAtMost blames k a b (Ok x)
    → MakesAtMost others k a b (Ok y)
calls_as k a b x y m = record { spent = m.spent; lacks = tt }

pub calls_off : {T U E : Type 0} {blames : E → Type 0} (k : ℕ) (a b : StoreState) (fault : E) → MakesAtMost {T = T} blames k a b (Err fault)
    → MakesAtMost {T = U} blames k a b (Err fault)
calls_off k a b fault m = record { spent = tt; lacks = m.lacks }

-- something that was found
pub unfound_at_end : {T : Type 0} (found : Option T) → found ≡ None → IsSome found → ⊥
unfound_at_end None none some = absurd (let bad : false ≡ true = some in cc)
unfound_at_end {T = T} (Some x) none some = (let bad : ◌≡◌ {A = Option T} None (Some x) = sym none in cc)
