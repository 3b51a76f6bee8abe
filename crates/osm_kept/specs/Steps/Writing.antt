-- Writing the text of a journal with more batches.
use Rattle.std.specs.Prelude.{ℕ, List, ◌++◌, Option, Vec}
use Rattle.osm_journal.specs.Journal.{BatchValue, JournalValue, SpellsJournal, journal_text}
use Rattle.osm_kept.specs.Reaching.{IsTextWithin, journal_after}
use Rattle.osm_kept.specs.Steps.Starting.{start_in}

-- the answer is the text of the journal that the bytes spell, with those batches at its end
pub record IsMoreText {Z : Type 0} (most : ℕ) (bytes : List ℕ) (batches : List BatchValue)
    (answer : Option (Vec ℕ Z)) : Type 0 where
  pub value : JournalValue
  pub spells : SpellsJournal bytes value
  pub text : IsTextWithin most
      (journal_text (journal_after (start_in value) (value.batches ++ batches))) answer
