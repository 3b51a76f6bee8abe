use Rattle.std.proofs.Common.{[], refl, arith}
use Rattle.osm_opl.proofs.FlatLemmas.{members_begin_flat}
use Rattle.osm_opl.proofs.flat.flat_members.Goals as goal

pub returns-then-is_list_end : goal.returns-then-is_list_end
returns-then-is_list_end c = record {
  items = [];
  limits = record { few = omega arith; ids = tt; roles = tt };
  are = record { limits = tt; list = refl; bare = tt };
  parts = c.in_ok-items.ensures;
}

pub returns : goal.returns
returns c =
    members_begin_flat c.args.bytes.now c.in_ok-items.items.now c.in_ok-rest.rest.now c.in_ok-items.ensures c.in_ok-rest.ensures
    (c.if-has_escape.ensures refl)
