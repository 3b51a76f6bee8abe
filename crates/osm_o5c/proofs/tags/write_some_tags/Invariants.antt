use Rattle.std.proofs.Common.{◌≡◌, ◌++◌, drop}
use Rattle.osm_o5c.specs.Written.{tags_text, after_tags}
use Rattle.osm_o5c.proofs.tags.write_some_tags.Given as goal

abbrev pub invariant-loop-tag : goal.invariant-loop-tag
invariant-loop-tag l = record {
  text : l.out.items ++ tags_text l.strings (drop l.tag-index l.tags) ≡ l.fn.out.items ++ tags_text l.fn.strings l.tags;
  strings_are : after_tags l.strings (drop l.tag-index l.tags) ≡ after_tags l.fn.strings l.tags;
}
