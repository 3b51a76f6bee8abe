use Rattle.std.proofs.Common.{[], codes}
use Rattle.osm_model.specs.Change.{AreMembers}
use Rattle.osm_opl.specs.Written.{items_text, member_text, members_field}
use Rattle.osm_opl.proofs.BeginLemmas.{begins}
use Rattle.osm_opl.proofs.BeginFieldLemmas.{no_members, marked}
use Rattle.osm_opl.proofs.after_lists.after_members_field.Goals as goal

pub returns-then-is_list_end : goal.returns-then-is_list_end
returns-then-is_list_end c =
    begins members_field AreMembers [] c.args.bytes.now c.in_ok-items.items.now
    (no_members c.args.bytes.now c.in_ok-items.items.now c.in_ok-items.ensures)

pub returns : goal.returns
returns c =
    marked (items_text member_text) AreMembers (codes " M") c.args.bytes.now c.in_ok-items.items.now c.in_ok-rest.rest.now
    c.in_ok-items.ensures c.in_ok-rest.ensures
