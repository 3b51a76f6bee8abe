use Rattle.std.proofs.Common.{◌≡◌, ◌++◌, ◌∙◌, List, ℕ, drop, ap, sym, refl, append_assoc}
use Rattle.std.specs.Prelude.{codes}
use Rattle.osm_opl.specs.Steps.Writing.{user_start}
use Rattle.osm_opl.specs.Written.{key_text, version_fields, visible_text}
use Rattle.osm_opl.proofs.WrittenLemmas.{start_with_name}
use Rattle.osm_opl.specs.Flat.{meta_of}
use Rattle.osm_opl.proofs.metadata.prepend_start.Goals as goal

pub returns-clause-written : goal.returns-clause-written
returns-clause-written c =
    let name = c.args.name.now in
    let after = drop c.args.end c.args.room.now in
    let meta = meta_of c.args.numbers name in
    let head = (key_text c.args.key ++ version_fields (visible_text c.args.is_visible) meta) ++ user_start meta in
    let parts : drop c.prepend_head.result c.prepend_head.new.room ≡ head ++ (name ++ (codes " T" ++ after)) =
    rw (
      c.prepend_head.ensures.written,
      c.prepend-user.ensures.written,
      c.prepend-tags.ensures.written,
    ) refl in
    parts ∙ ap (λ (l : List ℕ). head ++ l) (sym (append_assoc name (codes " T") after))
    ∙ sym (append_assoc head (name ++ codes " T") after)
    ∙ ap (λ (l : List ℕ). l ++ after)
    (start_with_name c.args.key c.args.is_visible meta name refl c.requires.bare)
