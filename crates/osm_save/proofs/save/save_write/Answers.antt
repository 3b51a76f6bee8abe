use Rattle.std.proofs.Common.{◌++◌, ◌∙◌, ap, arith}
use Rattle.std.specs.Prelude.{codes}
use Rattle.osm_opl.specs.Written.{line_text}
use Rattle.osm_save.specs.Lines.{ended, list_lines}
use Rattle.osm_save.specs.Save.{count_text, saved_with}
use Rattle.osm_save.specs.declared.version.Version.TheVariants.{Three}
use Rattle.osm_save.proofs.LengthLemmas.{written_spells}
use Rattle.osm_save.proofs.TextLemmas.{save_written}
use Rattle.osm_save.proofs.save.save_write.Goals as goal

pub returns-clause-text : goal.returns-clause-text
returns-clause-text c =
    let start = rw c.in_ok-text.ensures.empty at c.in_ok-write_head.ensures in
    let objects = c.in_ok-write_objects.ensures
    ∙ ap (λ cs. c.write_head.new.out.items ++ ended (list_lines (codes "objects ") line_text cs))
    c.objects_by_key.ensures in
    let users = c.in_ok-write_counts.ensures
    ∙ ap (λ es. c.write_objects.new.out.items ++ ended (list_lines (codes "users ") count_text es))
    c.user_counts.ensures in
    let changesets = c.in_ok-write_counts-2.ensures
    ∙ ap (λ es. c.write_counts.new.out.items ++ ended (list_lines (codes "changesets ") count_text es))
    c.changeset_counts.ensures in
    save_written Three (saved_with c.args.head c.args.filter.now c.args.mirror.now) c.write_head.new.out.items
    c.write_objects.new.out.items c.write_counts.new.out.items c.write_counts-2.new.out.items c.write_end.new.out.items start objects users changesets
    c.in_ok-write_end.ensures

pub returns-clause-spelled : goal.returns-clause-spelled
returns-clause-spelled c = λ limits within kept. written_spells c.args.head c.args.filter.now c.args.mirror.now c.write_end.new.out.items
    (returns-clause-text c) (omega arith) c.limits-2.ensures c.limits.ensures limits within kept
