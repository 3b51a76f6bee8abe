use Rattle.osm_model.specs.Batch.{IsBatch}
use Rattle.osm_o5c.specs.File.{beginning}
use Rattle.osm_model.proofs.FileLimitLemmas.{batch_limits, batch_settled}
use Rattle.osm_o5c.proofs.FrontLemmas.{spelled_limits, one_batch, one_front, no_longer}
use Rattle.osm_o5c.proofs.LongestLemmas.{longest_of_all, one_number}
use Rattle.osm_o5c.proofs.PlaceLemmas.{spelled_or_wrong, one_place, fault_of}
use Rattle.osm_o5c.proofs.WrittenNumbers.{fewest_bytes, fewest_signed}
use Rattle.osm_o5c.proofs.WrittenFile.{text_spells, text_shortest}
use Rattle.osm_o5c.proofs.o5c.laws_of_o5c.Goals as goal

pub returns-clause-limits : goal.returns-clause-limits
returns-clause-limits c = spelled_limits

pub returns-clause-one_batch : goal.returns-clause-one_batch
returns-clause-one_batch c = one_batch

pub returns-clause-apart : goal.returns-clause-apart
returns-clause-apart c = spelled_or_wrong beginning IsBatch batch_limits

pub returns-clause-one_place : goal.returns-clause-one_place
returns-clause-one_place c = one_place beginning IsBatch batch_limits

pub returns-clause-has_place : goal.returns-clause-has_place
returns-clause-has_place c = fault_of beginning IsBatch batch_limits batch_settled

pub returns-clause-fewest_bytes : goal.returns-clause-fewest_bytes
returns-clause-fewest_bytes c = fewest_bytes

pub returns-clause-fewest_signed : goal.returns-clause-fewest_signed
returns-clause-fewest_signed c = fewest_signed

pub returns-clause-one_front : goal.returns-clause-one_front
returns-clause-one_front c = one_front beginning IsBatch batch_limits

pub returns-clause-longest : goal.returns-clause-longest
returns-clause-longest c = longest_of_all beginning IsBatch batch_limits

pub returns-clause-one_number : goal.returns-clause-one_number
returns-clause-one_number c = one_number

pub returns-clause-no_longer : goal.returns-clause-no_longer
returns-clause-no_longer c = no_longer beginning IsBatch batch_limits

pub returns-clause-written : goal.returns-clause-written
returns-clause-written c = λ batch l. (text_spells batch l, text_shortest batch l)
