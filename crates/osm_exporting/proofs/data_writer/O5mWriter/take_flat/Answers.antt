use Rattle.std.proofs.Common.{◌≡◌, true, refl, rules, sym}
use Rattle.osm_model.specs.Change.{ChangeValue}
use Rattle.osm_model.specs.KeyOrder.{key_cmp}
use Rattle.osm_opl.specs.Flat.{flat_object}
use Rattle.osm_save.specs.Reading.{is_above}
use Rattle.osm_save.proofs.ObjectLemmas.{chosen_again}
use Rattle.osm_exporting.proofs.CopyLemmas.{o5m_goes_on}
use Rattle.osm_exporting.proofs.FlatLemmas.{keeps_all}
use Rattle.osm_exporting.proofs.data_writer.O5mWriter.take_flat.Goals as goal

pub returns : goal.returns
returns c =
    let is = c.requires.flat in
    let object : ChangeValue = flat_object c.args.flat.now is.what in
    let above : is_above key_cmp c.args.last c.args.flat.now.key ≡ true = search rules in
    let writes = c.in_ok-write_flat.ensures is.what is.tagged is.same in (
      object,
      sym (chosen_again c.args.filter.now c.args.last c.args.line.now object is.limits is.text
          (keeps_all c.args.filter.now c.args.last object is.left c.requires.kept above)),
      refl,
      c.if-not-is_below.ensures refl,
      λ objects.
          o5m_goes_on c.args.self.now.writer c.forget_old.new.self c.write_flat.new.writer object objects
          c.forget_old.ensures.out c.forget_old.ensures.same writes.text writes.state_is writes.kind_is,
    )
