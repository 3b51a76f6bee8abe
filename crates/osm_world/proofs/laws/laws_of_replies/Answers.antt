use Rattle.osm_world.proofs.ReplyLemmas.{delivery_is_due, one_reply}
use Rattle.osm_world.proofs.laws.laws_of_replies.Goals as goal

pub returns : goal.returns
returns c = record {
  one_reply = one_reply;
  delivery = λ f h k n high form r number reach allowed ok. delivery_is_due h k n high r number reach allowed ok;
}
