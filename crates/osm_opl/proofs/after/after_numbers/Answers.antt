use Rattle.std.proofs.Common.{◌≡◌, ◌++◌, codes, refl}
use Rattle.osm_opl.proofs.BeginFieldLemmas.{numbers_begin}
use Rattle.osm_opl.proofs.after.after_numbers.Goals as goal

pub returns : goal.returns
returns g c =
    let visible : c.in_ok-version.rest.now ≡ codes " dV" ++ c.in_ok-rest.rest.now =
    rw (c.in_ok-after_mark.ensures, c.in_ok-rest.ensures) refl in
    numbers_begin (record {
      version = c.in_ok-version.version;
      changeset = c.in_ok-changeset.changeset;
      time = c.in_ok-time.time;
      uid = c.in_ok-uid.uid;
    }) c.args.bytes.now c.in_ok-version.rest.now c.in_ok-rest.rest.now c.in_ok-changeset.rest.now
    c.in_ok-after_mark-2.field-0.now c.in_ok-time.rest.now c.in_ok-uid.rest.now c.in_ok-rest-2.rest.now
    c.in_ok-version.ensures visible c.in_ok-changeset.ensures c.in_ok-after_mark-2.ensures
    c.in_ok-time.ensures c.in_ok-uid.ensures c.in_ok-rest-2.ensures
