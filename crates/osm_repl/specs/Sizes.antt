-- The sizes that the words of `follow` may lower: which saves a run writes anew, and how long a
-- journal becomes.
use Rattle.std.specs.Prelude.{◌≡◌, ℕ, ◌≤◌, List, Option, Some, None}
use Rattle.std.specs.Borrow.{Bor}
use Rattle.osm_model.specs.Limits.{max_file}
use Rattle.osm_reading.specs.Pieces.{cut_at}
use Rattle.osm_reading.specs.Sequence.{SpellsSequence}
use Rattle.osm_round.specs.declared.kept.Sizes.{Sizes}
use Rattle.osm_repl.specs.declared.refusal.Refusal.{Refusal}
use Rattle.osm_repl.specs.declared.refusal.Refusal.TheVariants.{BadSizes}

-- those of the program: 8 MiB, and 4 MiB
abbrev pub usual_sizes : Sizes
usual_sizes = record { small = 8388608; most = 4194304 }

-- `SMALL:MOST`, two numbers of bytes, the second of which is at most 64 MiB
pub record SpellsSizes (text : List ℕ) (sizes : Sizes) : Type 0 where
  pub small : List ℕ
  pub most : List ℕ
  pub parts : cut_at 58 text ≡ Some (small, most)
  pub small_is : SpellsSequence small sizes.small
  pub most_is : SpellsSequence most sizes.most
  pub within : sizes.most ≤ max_file

-- the sizes that a word asks for, or those of the program
abbrev pub IsSizes : Option (Bor (List ℕ)) → Sizes → Type 0
IsSizes None sizes = sizes ≡ usual_sizes
IsSizes (Some word) sizes = SpellsSizes word.now sizes

-- a word that asks for none
abbrev pub RefusesSizes : Option (Bor (List ℕ)) → Refusal → Type 0
RefusesSizes None refusal = ⊥
RefusesSizes (Some word) refusal =
    (refusal ≡ BadSizes) × ((sizes : Sizes) → SpellsSizes word.now sizes → ⊥)
