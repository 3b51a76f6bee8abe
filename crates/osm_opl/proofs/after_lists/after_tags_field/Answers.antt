use Rattle.std.proofs.Common.{[], codes}
use Rattle.osm_model.specs.Change.{AreTags}
use Rattle.osm_opl.specs.Written.{items_text, tag_text, tags_field}
use Rattle.osm_opl.proofs.BeginLemmas.{begins}
use Rattle.osm_opl.proofs.BeginFieldLemmas.{no_tags, marked}
use Rattle.osm_opl.proofs.after_lists.after_tags_field.Goals as goal

pub returns-then-is_list_end : goal.returns-then-is_list_end
returns-then-is_list_end c =
    begins tags_field AreTags [] c.args.bytes.now c.in_ok-items.items.now
    (no_tags c.args.bytes.now c.in_ok-items.items.now c.in_ok-items.ensures)

pub returns : goal.returns
returns c =
    marked (items_text tag_text) AreTags (codes " T") c.args.bytes.now c.in_ok-items.items.now c.in_ok-rest.rest.now
    c.in_ok-items.ensures c.in_ok-rest.ensures
