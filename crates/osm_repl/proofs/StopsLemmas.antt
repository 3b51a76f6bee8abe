-- Why there is no answer, as it was before some calls.
use Rattle.std.proofs.Common.{◌≡◌, ℕ, List, Bool, Option, Some, subst, sym}
use Rattle.std.specs.Prelude.{IsTrue}
use Rattle.osm_blocks.specs.Places.{HasFile}
use Rattle.osm_store.specs.Files.{Files}
use Rattle.osm_store.specs.Frames.{StoreState}
use Rattle.osm_asking.specs.Asking.{AnswerStops}
use Rattle.osm_asking.specs.Refusal.{SearchStops}
use Rattle.osm_asking.specs.declared.ask_fault.AskFault.{AskFault}
use Rattle.osm_asking.specs.declared.ask_fault.AskFault.TheVariants as asks
use Rattle.osm_asking.specs.declared.fault.SearchFault.{SearchFault}
use Rattle.osm_asking.specs.declared.fault.SearchFault.TheVariants.{BadHead, BadLine, Failed, Gone, TooLarge, WantOfMemory}

module _ (a b : StoreState) (files : b.files ≡ a.files) (known : b.is_known ≡ a.is_known) where
  file_there : (name file : List ℕ) → HasFile a name file → HasFile b name file
  file_there name file has = record {
    known = subst (λ (t : Bool). IsTrue t) (sym known) has.known;
    there = subst (λ (f : Files). f name ≡ Some file) (sym files) has.there;
  }

  search_back : (save : List ℕ) (fault : SearchFault) → SearchStops b save fault → SearchStops a save fault
  search_back save Failed h = tt
  search_back save Gone h = λ file has. h file (file_there save file has)
  search_back save (BadHead line) h = λ file v has. h file v (file_there save file has)
  search_back save (BadLine place) h = λ file v has. h file v (file_there save file has)
  search_back save TooLarge h = λ file v has. h file v (file_there save file has)
  search_back save WantOfMemory h = tt

  pub answer_back : (save : List ℕ) (fault : AskFault) → AnswerStops b save fault → AnswerStops a save fault
  answer_back save asks.NoSave h = h
  answer_back save (asks.Kept fault) h = h
  answer_back save (asks.Search fault) h = search_back save fault h
  answer_back save asks.NotWritten h = h
  answer_back save asks.WantOfMemory h = tt
