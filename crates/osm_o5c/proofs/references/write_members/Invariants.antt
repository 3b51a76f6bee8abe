use Rattle.std.proofs.Common.{◌≡◌, ◌++◌, drop}
use Rattle.osm_o5c.specs.Written.{members_text, after_members}
use Rattle.osm_o5c.proofs.references.write_members.Given as goal

abbrev pub invariant-loop-member : goal.invariant-loop-member
invariant-loop-member l = record {
  text : l.out.items ++ members_text l.state (drop l.member-index l.members) ≡ l.fn.out.items ++ members_text l.fn.state l.members;
  state_is : after_members l.state (drop l.member-index l.members) ≡ after_members l.fn.state l.members;
}
