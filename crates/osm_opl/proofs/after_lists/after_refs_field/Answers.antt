use Rattle.std.proofs.Common.{[], codes}
use Rattle.osm_model.specs.Change.{AreRefs}
use Rattle.osm_opl.specs.Written.{items_text, ref_text, refs_field}
use Rattle.osm_opl.proofs.BeginLemmas.{begins}
use Rattle.osm_opl.proofs.BeginFieldLemmas.{no_refs, marked}
use Rattle.osm_opl.proofs.after_lists.after_refs_field.Goals as goal

pub returns-then-is_list_end : goal.returns-then-is_list_end
returns-then-is_list_end c =
    begins refs_field AreRefs [] c.args.bytes.now c.in_ok-items.items.now
    (no_refs c.args.bytes.now c.in_ok-items.items.now c.in_ok-items.ensures)

pub returns : goal.returns
returns c =
    marked (items_text ref_text) AreRefs (codes " N") c.args.bytes.now c.in_ok-items.items.now c.in_ok-rest.rest.now
    c.in_ok-items.ensures c.in_ok-rest.ensures
