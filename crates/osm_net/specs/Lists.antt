-- The lists of net changes.
use Rattle.osm_net.specs.Net.{NetValue}
use Rattle.osm_net.specs.declared.lists.NetLists.{NetLists}

-- the net changes that have these lists
abbrev pub net_in : NetLists → NetValue
net_in lists = record {
  objects = lists.objects.items;
  users = lists.users.items;
  changesets = lists.changesets.items;
}
