use Rattle.std.proofs.Common.{◌≡◌, ◌++◌, ◌<◌, ℕ, List, length, subst, arith, rules}
use Rattle.std.proofs.lemmas.Bool.Decides.{nat_tests}
use Rattle.osm_blocks.proofs.PlaceLemmas.{no_length}
use Rattle.osm_reading.specs.Lines.{lines_after, without_cr}
use Rattle.osm_data.specs.Steps.OplObjects.{Adds}
use Rattle.osm_data.proofs.OplPassingLemmas.{rest_empty, rest_line, rest_read}
use Rattle.osm_data.proofs.opl_data.OplData.add_rest.Goals as goal

pub returns-then-is_empty-clause-read : goal.returns-then-is_empty-clause-read
returns-then-is_empty-clause-read c = λ file done l.
    let none : length c.unread-rest.result.now ≡ 0 = grind (arith, nat_tests) in
    record {
      within = l.within;
      reads = rest_empty c.args.self.now file (done ++ c.args.objects.now.items) (no_length c.args.self.now.reader.unread (rw c.unread-rest.ensures at none)) l;
    }

pub returns-in-Ok-clause-read : goal.returns-in-Ok-clause-read
returns-in-Ok-clause-read c = λ file done l.
    let rest : List ℕ = c.args.self.now.reader.unread in
    let some : 0 < length c.unread-rest.result.now = grind (arith, nat_tests) in
    let same : c.split_line.result.0.now ≡ without_cr rest =
    rest_line rest c.split_line.result.0.now (lines_after c.split_line.result.1) l.uncut (rw c.unread-rest.ensures at c.split_line.ensures.lines) in
    let added : Adds c.split_line.result.0.now (length rest) c.args.self.now.so_far c.add.new.self c.args.objects.now.items c.add.new.objects.items =
    search rules in
    let read = rest_read c.args.self.now c.add.new.self file done c.args.objects.now.items c.add.new.objects.items (rw c.unread-rest.ensures at some) l
    (subst (λ (b : List ℕ). Adds b (length rest) c.args.self.now.so_far c.add.new.self c.args.objects.now.items c.add.new.objects.items) same added) in
    record { within = read.within; reads = read.spelled }
