use Rattle.std.proofs.Common.{subst, sym, Some}
use Rattle.std.specs.Prelude.{IsTrue}
use Rattle.osm_store.specs.Frames.{IsKnown}
use Rattle.osm_store.specs.Files.{Puts}
use Rattle.osm_publishing.proofs.ConversionLemmas.{text_stops, put_stops}
use Rattle.osm_runs.proofs.ResultLemmas.{same_err}
use Rattle.osm_publishing.proofs.convert.convert_run.Goals as goal

pub returns-in_err-text-clause-stops : goal.returns-in_err-text-clause-stops
returns-in_err-text-clause-stops g c =
    same_err _ c.from_residual-in_err-text.result _ c.from_residual-in_err-text.ensures.1
    (text_stops (IsKnown (g.S.Store.state c.args.store.now)) c.args.input.now c.args.output.now c.in_ok-bytes.bytes.items
    (g.S.Store.state c.args.store.now).files c.in-Some.from c.in-Some-form_of.to c.in-Some.ensures.found
    c.in-Some-form_of.ensures.found c.in_ok-bytes.ensures.read c.in_ok-bytes.ensures.within _
    c.in_err-text.ensures.refused)

pub returns-in_err-write_file-clause-stops : goal.returns-in_err-write_file-clause-stops
returns-in_err-write_file-clause-stops g c =
    same_err _ c.from_residual-in_err-write_file.result _ c.from_residual-in_err-write_file.ensures.1
    (put_stops (IsKnown (g.S.Store.state c.args.store.now)) c.args.input.now c.args.output.now (g.S.Store.state c.args.store.now).files
    (record { from = c.in-Some.from; to = c.in-Some-form_of.to; input_form = c.in-Some.ensures.found; output_form = c.in-Some-form_of.ensures.found })
    (λ yes. record {
      forms = record { from = c.in-Some.from; to = c.in-Some-form_of.to; input_form = c.in-Some.ensures.found; output_form = c.in-Some-form_of.ensures.found };
      bytes = c.in_ok-bytes.bytes.items;
      text = c.in_ok-text.text.items;
      there = c.in_ok-bytes.ensures.read yes;
      small = c.in_ok-bytes.ensures.within;
      converts = c.in_ok-text.ensures.converted;
    }) _ c.in_err-write_file.ensures.stops)

pub returns-clause-converted : goal.returns-clause-converted
returns-clause-converted g c = λ yes.
    let then : IsKnown (g.S.Store.state c.read_present.new.store) = subst IsTrue (sym c.read_present.ensures.frame.makes.known) yes in
    record {
      made = record {
        forms = record {
          from = c.in-Some.from;
          to = c.in-Some-form_of.to;
          input_form = c.in-Some.ensures.found;
          output_form = c.in-Some-form_of.ensures.found;
        };
        bytes = c.in_ok-bytes.bytes.items;
        text = c.in_ok-text.text.items;
        there = c.in_ok-bytes.ensures.read yes;
        small = c.in_ok-bytes.ensures.within;
        converts = c.in_ok-text.ensures.converted;
      };
      put = subst (λ f. Puts f c.args.output.now (Some c.in_ok-text.text.items) (g.S.Store.state c.write_file.new.store).files)
          c.read_present.ensures.frame.files
          (subst (λ xs. Puts (g.S.Store.state c.read_present.new.store).files c.args.output.now (Some xs)
          (g.S.Store.state c.write_file.new.store).files) c.as_slice.ensures.value
          (c.in_ok-write_file.ensures.written then));
    }
