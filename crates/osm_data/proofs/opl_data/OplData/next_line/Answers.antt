use Rattle.std.proofs.Common.{◌≡◌, ◌+◌, ◌++◌, ℕ, Some, None, Option, take, subst}
use Rattle.std.specs.Prelude.{Bool}
use Rattle.osm_reading.specs.Pieces.{cut_at}
use Rattle.osm_blocks.specs.Calls.{SpendsDown, reads_ahead}
use Rattle.osm_blocks.specs.Places.{IsLine, left_of, past}
use Rattle.osm_data.specs.OplReading.{EndsOrStands, Stands}
use Rattle.osm_data.specs.declared.opl_data.OplData.{OplData}
use Rattle.osm_data.proofs.OplCallLemmas.{line_calls, rest_calls}
use Rattle.osm_data.proofs.OplPassingLemmas.{is_last, line_read, line_unread, unfound}
use Rattle.osm_data.proofs.opl_data.OplData.next_line.Goals as goal

pub returns-in-Ok-clause-read : goal.returns-in-Ok-clause-read
returns-in-Ok-clause-read g c = λ file done has read.
    let old : OplData = c.args.self.now in
    let mid : OplData = record { reader = c.find_line.new.self; so_far = old.so_far; is_ended = old.is_ended } in
    let stands : Stands old file (done ++ c.args.objects.now.items) =
    subst (λ (t : Bool). EndsOrStands t old file (done ++ c.args.objects.now.items)) c.if-self.false read.reads in
    let found : cut_at 10 (left_of old.reader file)
    ≡ Some (take c.in-Ok-Some.count c.find_line.new.self.unread, left_of (past (c.in-Ok-Some.count + 1) c.find_line.new.self) file) =
    rw c.in-Ok-Some.field-0-is at (c.in-Ok-Some.ensures.found file has) in
    let line : IsLine c.find_line.new.self c.in-Ok-Some.count = rw c.in-Ok-Some.field-0-is at c.in-Ok-Some.ensures.line in
    line_read mid c.add_line.new.self file (left_of old.reader file) c.in-Ok-Some.count done c.args.objects.now.items c.add_line.new.objects.items
    c.if-self.false read.within stands.passed stands.left found line c.in-Ok.ensures.added

pub returns-in-Ok-clause-calls : goal.returns-in-Ok-clause-calls
returns-in-Ok-clause-calls g c = λ file has.
    let old : OplData = c.args.self.now in
    let mid : OplData = record { reader = c.find_line.new.self; so_far = old.so_far; is_ended = old.is_ended } in
    let a : Option ℕ = (g.S.Store.state c.args.store.now).left in
    let b : Option ℕ = (g.S.Store.state c.find_line.new.store).left in
    let spent : SpendsDown (reads_ahead old.reader file) (reads_ahead c.find_line.new.self file) a b =
    rw c.in-Ok-Some.field-0-is at ((c.in-Ok-Some.ensures.calls file has).spent) in
    record {
      spent = line_calls old mid c.add_line.new.self file c.in-Ok-Some.count c.args.objects.now.items c.add_line.new.objects.items a b
          c.if-self.false c.if-self.false c.in-Ok.ensures.added spent;
      lacks = tt;
    }

pub returns-in-Err-add_line-clause-stops : goal.returns-in-Err-add_line-clause-stops
returns-in-Err-add_line-clause-stops g c = λ file done has read.
    let old : OplData = c.args.self.now in
    let mid : OplData = record { reader = c.find_line.new.self; so_far = old.so_far; is_ended = old.is_ended } in
    let stands : Stands old file (done ++ c.args.objects.now.items) =
    subst (λ (t : Bool). EndsOrStands t old file (done ++ c.args.objects.now.items)) c.if-self.false read.reads in
    let found : cut_at 10 (left_of old.reader file)
    ≡ Some (take c.in-Ok-Some.count c.find_line.new.self.unread, left_of (past (c.in-Ok-Some.count + 1) c.find_line.new.self) file) =
    rw c.in-Ok-Some.field-0-is at (c.in-Ok-Some.ensures.found file has) in
    let line : IsLine c.find_line.new.self c.in-Ok-Some.count = rw c.in-Ok-Some.field-0-is at c.in-Ok-Some.ensures.line in
    line_unread mid file (left_of old.reader file) c.in-Ok-Some.count (done ++ c.args.objects.now.items) c.in-Err-add_line.fault
    read.within stands.passed stands.left found line c.in-Err-add_line.ensures.stops

pub returns-in-Ok-add_rest-clause-read : goal.returns-in-Ok-add_rest-clause-read
returns-in-Ok-add_rest-clause-read g c = λ file done has read.
    let old : OplData = c.args.self.now in
    let stands : Stands old file (done ++ c.args.objects.now.items) =
    subst (λ (t : Bool). EndsOrStands t old file (done ++ c.args.objects.now.items)) c.if-self.false read.reads in
    let uncut : cut_at 10 (left_of old.reader file) ≡ None = rw c.in-Ok-None.field-0-is at (c.in-Ok-None.ensures.found file has) in
    c.in-Ok-add_rest.ensures.read file done (is_last old c.find_line.new.self file (done ++ c.args.objects.now.items) read.within stands uncut
    (c.in-Ok-None.ensures.ended file has c.in-Ok-None.field-0-is))

pub returns-in-Ok-add_rest-clause-calls : goal.returns-in-Ok-add_rest-clause-calls
returns-in-Ok-add_rest-clause-calls g c = λ file has.
    let old : OplData = c.args.self.now in
    let a : Option ℕ = (g.S.Store.state c.args.store.now).left in
    let b : Option ℕ = (g.S.Store.state c.find_line.new.store).left in
    let spent : SpendsDown (reads_ahead old.reader file) 0 a b = rw c.in-Ok-None.field-0-is at ((c.in-Ok-None.ensures.calls file has).spent) in
    record {
      spent = rest_calls old c.add_rest.new.self file a b c.if-self.false c.in-Ok-add_rest.ensures.ended spent;
      lacks = tt;
    }

pub returns-in-Err-add_rest-clause-stops : goal.returns-in-Err-add_rest-clause-stops
returns-in-Err-add_rest-clause-stops g c = λ file done has read.
    let old : OplData = c.args.self.now in
    let stands : Stands old file (done ++ c.args.objects.now.items) =
    subst (λ (t : Bool). EndsOrStands t old file (done ++ c.args.objects.now.items)) c.if-self.false read.reads in
    let uncut : cut_at 10 (left_of old.reader file) ≡ None = rw c.in-Ok-None.field-0-is at (c.in-Ok-None.ensures.found file has) in
    c.in-Err-add_rest.ensures.stops file done (is_last old c.find_line.new.self file (done ++ c.args.objects.now.items) read.within stands uncut
    (c.in-Ok-None.ensures.ended file has c.in-Ok-None.field-0-is))

pub returns-in-Err-clause-stops : goal.returns-in-Err-clause-stops
returns-in-Err-clause-stops g c = λ file done has read.
    let old : OplData = c.args.self.now in
    let stands : Stands old file (done ++ c.args.objects.now.items) =
    subst (λ (t : Bool). EndsOrStands t old file (done ++ c.args.objects.now.items)) c.if-self.false read.reads in
    rw c.fault_of_blocks.ensures (unfound old file (done ++ c.args.objects.now.items) c.in-Err.fault stands (c.in-Err.ensures.found file has))
