use Rattle.std.proofs.Common.{[], refl, arith}
use Rattle.osm_opl.proofs.flat.flat_tags.Goals as goal

pub returns-then-is_list_end : goal.returns-then-is_list_end
returns-then-is_list_end c = record {
  items = [];
  limits = record { few = omega arith; each = tt };
  are = record { limits = tt; list = refl; bare = tt };
  parts = c.in_ok-items.ensures;
}
