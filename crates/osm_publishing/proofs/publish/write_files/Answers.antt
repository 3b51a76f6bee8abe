use Rattle.std.proofs.Common.{subst, sym, arith}
use Rattle.std.specs.Prelude.{IsTrue}
use Rattle.osm_store.specs.Frames.{IsKnown}
use Rattle.osm_publishing.specs.Steps.Publishing.{IsCut}
use Rattle.osm_runs.specs.Writing.{PutStops}
use Rattle.osm_runs.specs.declared.fault.FileName.TheVariants.{Top}
use Rattle.osm_publishing.proofs.PublishLemmas.{cut_at, err_both, renamed}
use Rattle.osm_runs.proofs.ResultLemmas.{same_err}
use Rattle.osm_publishing.proofs.publish.write_files.Goals as goal

pub returns-in_err-write_file-2-clause-cut : goal.returns-in_err-write_file-2-clause-cut
returns-in_err-write_file-2-clause-cut g c =
    same_err _ c.from_residual-in_err-write_file-2.result _ c.from_residual-in_err-write_file-2.ensures.1 (record {
      count = 1;
      few = omega arith;
      cut = cut_at _ _ 1 _ c.number-number.ensures c.in_err-write_file-2.ensures.stops;
      written = λ yes. (
        (g.S.Store.state c.write_file.new.store).files,
        renamed _ _ _ _ _ _ c.as_str.ensures.value c.o5c.ensures (c.in_ok-write_file.ensures.written yes),
        c.in_err-write_file-2.ensures.frame.files,
      );
    })

pub returns-in_err-write_file-3-clause-cut : goal.returns-in_err-write_file-3-clause-cut
returns-in_err-write_file-3-clause-cut g c =
    same_err _ c.from_residual-in_err-write_file-3.result _ c.from_residual-in_err-write_file-3.ensures.1 (record {
      count = 2;
      few = omega arith;
      cut = cut_at _ _ 2 _ c.number-number.ensures c.in_err-write_file-3.ensures.stops;
      written = λ yes.
          (let then : IsKnown (g.S.Store.state c.write_file.new.store) = subst IsTrue (sym c.write_file.ensures.frame.makes.known) yes in (
            (g.S.Store.state c.write_file.new.store).files,
            renamed _ _ _ _ _ _ c.as_str.ensures.value c.o5c.ensures (c.in_ok-write_file.ensures.written yes),
            (
              (g.S.Store.state c.write_file-2.new.store).files,
              renamed _ _ _ _ _ _ c.as_str-2.ensures.value c.opl.ensures (c.in_ok-write_file-2.ensures.written then),
              c.in_err-write_file-3.ensures.frame.files,
            ),
          ));
    })

pub returns-clause-cut : goal.returns-clause-cut
returns-clause-cut g c =
    err_both (PutStops Top) (IsCut (IsKnown (g.S.Store.state c.args.store.now)) c.args.names.now c.args.published.now
    (g.S.Store.state c.args.store.now).files (g.S.Store.state c.write_file-4.new.store).files)
    c.write_file-4.result c.write_file-4.ensures.stops c.write_file-4.ensures.frame.files (λ fault stops same. record {
      count = 3;
      few = omega arith;
      cut = cut_at c.number-number.result _ 3 fault c.number-number.ensures stops;
      written = λ yes.
          (let then : IsKnown (g.S.Store.state c.write_file.new.store) = subst IsTrue (sym c.write_file.ensures.frame.makes.known) yes in
          let later : IsKnown (g.S.Store.state c.write_file-2.new.store) = subst IsTrue (sym c.write_file-2.ensures.frame.makes.known) then in (
            (g.S.Store.state c.write_file.new.store).files,
            renamed _ _ _ _ _ _ c.as_str.ensures.value c.o5c.ensures (c.in_ok-write_file.ensures.written yes),
            (
              (g.S.Store.state c.write_file-2.new.store).files,
              renamed _ _ _ _ _ _ c.as_str-2.ensures.value c.opl.ensures (c.in_ok-write_file-2.ensures.written then),
              (
                (g.S.Store.state c.write_file-3.new.store).files,
                renamed _ _ _ _ _ _ c.as_str-3.ensures.value c.state.ensures (c.in_ok-write_file-3.ensures.written later),
                same,
              ),
            ),
          ));
    })
