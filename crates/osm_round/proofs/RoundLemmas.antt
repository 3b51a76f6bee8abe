-- What a run takes and reports.
use Rattle.std.proofs.Common.{◌≡◌, ℕ, ◌+◌, ◌-◌, ◌*◌, ◌<◌, ◌≤◌, List, [], Option, Some, None, inl, inr}
use Rattle.std.proofs.Common.{arith, refl, sym, ap, subst, ◌∙◌}
use Rattle.std.specs.Prelude.{min}
use Rattle.osm_save.specs.declared.head.Head.{Head}
use Rattle.osm_state.specs.State.{StateValue}
use Rattle.osm_store.specs.Files.{Files}
use Rattle.osm_runs.specs.Folder.{IsStateFile, IsThere}
use Rattle.osm_model.specs.Limits.{max_changes, max_sequence}
use Rattle.osm_runs.specs.Following.{bytes_of, last_number, lost_numbers, ranges}
use Rattle.osm_runs.specs.Names.{top_name_of}
use Rattle.osm_runs.specs.Progress.{IsProgressReport}
use Rattle.osm_runs.specs.Reports.{ReportValue, applied_report_of, report_of}
use Rattle.osm_runs.specs.declared.fault.RunFault.{RunFault}
use Rattle.osm_runs.specs.declared.options.FollowOptions.{FollowOptions}
use Rattle.osm_runs.specs.declared.options.Layout.{Layout}
use Rattle.osm_runs.specs.declared.options.Layout.TheVariants.{Json, Lines}
use Rattle.osm_runs.proofs.InStepLemmas.{last_within}
use Rattle.osm_round.specs.News.{HoldsUpTo, came_to}
use Rattle.osm_round.specs.Rounds.{IsLess, IsPrepared, IsReport}
use Rattle.osm_round.specs.Rounds.{UpToStops, max_round, outcome_of, progress_of, room_of}
use Rattle.osm_round.specs.Taking.{Fills, HasTaken, LeavesRoom, StopsOnTheWay, TakesUp}
use Rattle.osm_round.specs.declared.gathered.Gathered.{Gathered}
use Rattle.osm_round.specs.declared.round.Ending.{Ending}
use Rattle.osm_round.specs.declared.round.Ending.TheVariants as endings
use Rattle.osm_round.specs.declared.round.Prepared.{Prepared}
use Rattle.osm_round.specs.declared.taken.End.{End}
use Rattle.osm_round.specs.declared.taken.End.TheVariants.{Faulty, Full}
use Rattle.osm_round.specs.declared.taken.Taken.{Taken}

-- ---- how far it comes

min_is : (a b : ℕ) → b ≤ a → min a b ≡ b
min_is a b below = grind (arith)

-- the limit of a run that might take more than it took is the last number that it comes to
pub limit_is : (count number top : ℕ) → number + count ≤ top → last_number (Some count) number top ≡ number + count
limit_is count number top below = min_is top (number + count) below

-- none is lost up to the number itself
pub none_lost : (files : Files) (dir : List ℕ) (n : ℕ) → lost_numbers files dir n n ≡ []
none_lost files dir n = let none : n - n ≡ 0 = omega arith in rw none refl

-- ---- its report, whatever is known

pub reports : (known : Type 0) (options : FollowOptions) (dir : List ℕ) (files : Files) (start : Head) (p : Prepared)
    → IsPrepared known options dir files start p → IsProgressReport options.layout (progress_of p.report p.ending)
reports known options dir files start p is = by_ending p.ending is.report
  where
    within : last_number options.limit start.number is.top.sequence ≤ is.top.sequence
    within = last_within options.limit start.number is.top.sequence

    number_is : p.taken.head.number ≡ start.number + is.taken.count
    number_is = is.taken.is.number

    by_ending : (e : Ending) → IsReport known options.layout files dir start is.top
        (last_number options.limit start.number is.top.sequence) is.taken.count p.taken.head e p.report
        → IsProgressReport options.layout (progress_of p.report e)
    by_ending endings.Whole (missing, reached, named, gap, report) = record {
      start = start.number;
      count = is.taken.count;
      last = last_number options.limit start.number is.top.sequence;
      missing = missing;
      time = p.taken.head.time;
      base = p.taken.head.base;
      top = is.top;
      until = (let until = is.until in omega (arith, until, number_is));
      below = within;
      report_is = rw (← number_is) report;
      gap = rw (← number_is) gap;
    }
    by_ending (endings.Part applied count) (count_is, some, in_lines, below, enough, applied_is, report) = rw count_is (record {
      whole = record {
        start = start.number;
        count = is.taken.count;
        last = p.taken.head.number;
        missing = [];
        time = p.taken.head.time;
        base = p.taken.head.base;
        top = is.top;
        until = omega (arith, number_is);
        below = omega (arith, below, within);
        report_is = rw (← number_is) report;
        gap = (λ e. sym number_is, λ e. refl);
      };
      in_lines = in_lines;
      some = some;
      count_is = refl;
      applied_is = applied_is;
    })
    by_ending (endings.Before fault) (said, some, below, content, stops, report) = (
      (
        said,
        record {
          start = start.number;
          count = is.taken.count;
          last = p.taken.head.number;
          missing = [];
          time = p.taken.head.time;
          base = p.taken.head.base;
          top = is.top;
          until = omega (arith, number_is);
          below = omega (arith, below, within);
          report_is = rw (← number_is) report;
          gap = (λ e. sym number_is, λ e. refl);
        },
      ),
      (p.taken.head.number + 1, content),
    )

-- a part is less than the run may take
pub less : (known : Type 0) (options : FollowOptions) (dir : List ℕ) (files : Files) (start : Head) (p : Prepared)
    → IsPrepared known options dir files start p → IsLess options.limit (progress_of p.report p.ending)
less known options dir files start p is = by_ending p.ending options.limit is.report
  where
    number_is : p.taken.head.number ≡ start.number + is.taken.count
    number_is = is.taken.is.number

    min_right : (a b : ℕ) → min a b ≤ b
    min_right a b = grind (arith)

    by_ending : (e : Ending) (limit : Option ℕ) → IsReport known options.layout files dir start is.top
        (last_number limit start.number is.top.sequence) is.taken.count p.taken.head e p.report → IsLess limit (progress_of p.report e)
    by_ending (endings.Part applied count) None (count_is, some, in_lines, below, enough, applied_is, report) =
        let most = is.most in omega (arith, count_is, below, number_is, most)
    by_ending (endings.Part applied count) (Some limit) (count_is, some, in_lines, below, enough, applied_is, report) =
        let end = min_right is.top.sequence (start.number + limit) in omega (arith, count_is, below, number_is, end)
    by_ending endings.Whole None h = tt
    by_ending endings.Whole (Some limit) h = tt
    by_ending (endings.Before fault) None h = tt
    by_ending (endings.Before fault) (Some limit) h = tt

-- ---- what is prepared

-- there is room for some
pub some_room : (layout : Layout) → LeavesRoom (room_of layout) 0
some_room Lines = omega arith
some_room Json = tt

-- only the room of a report in lines is filled
filled : (known : Type 0) (layout : Layout) (size : ℕ) → Fills known (room_of layout) size → (layout ≡ Lines) × (known → max_round ≤ size)
filled known Lines size h = (refl, h)
filled known Json size h = absurd h

module _ (known : Type 0) (options : FollowOptions) (dir : List ℕ) (files : Files) (start : Head) (top : StateValue)
    (top_is : known → IsThere (files (top_name_of dir)) (IsStateFile top.sequence top.time)) (most : top.sequence ≤ max_sequence)
    (last : ℕ) (last_is : last ≡ last_number options.limit start.number top.sequence) (taken : Taken) where
  -- that was taken and gathered up to an end
  abbrev pub Takes : ℕ → Gathered → End → Type 0
  Takes left g end = TakesUp known files dir options.filter (record { last = last; room = room_of options.layout }) start left taken g end

  pub prepared_by : (left : ℕ) (g : Gathered) (end : End) (e : Ending) (p : Prepared) → Takes left g end → p.taken ≡ taken → p.ending ≡ e
      → ((count : ℕ) → taken.head.number ≡ start.number + count → IsReport known options.layout files dir start top last count taken.head e p.report)
      → IsPrepared known options dir files start p
  prepared_by left g end e p takes is ending report =
      let own : HasTaken known files dir options.filter start (came_to options.filter p.taken) =
      subst (λ (t : Taken). HasTaken known files dir options.filter start (came_to options.filter t)) (sym is) takes.taken_are in
      let number : taken.head.number ≡ start.number + own.count = ap (λ (t : Taken). t.head.number) (sym is) ∙ own.is.number in
      let but_last : taken.head.number - start.number - 1 ≡ own.count - 1 = omega (arith, number) in
      let of_taken : IsReport known options.layout files dir start top last own.count p.taken.head e p.report =
      subst (λ (t : Taken). IsReport known options.layout files dir start top last own.count t.head e p.report) (sym is) (report own.count number) in
      let of_ending : IsReport known options.layout files dir start top last own.count p.taken.head p.ending p.report =
      subst (λ (x : Ending). IsReport known options.layout files dir start top last own.count p.taken.head x p.report) (sym ending) of_taken in
      record {
        top = top;
        top_is = top_is;
        most = most;
        taken = own;
        few = subst (λ (t : Taken). HoldsUpTo (max_changes * t.head.number) t.news) (sym is) takes.few;
        until = subst (λ (n : ℕ). p.taken.head.number ≤ n) last_is (subst (λ (t : Taken). t.head.number ≤ last) (sym is) takes.until);
        report = subst (λ (n : ℕ). IsReport known options.layout files dir start top n own.count p.taken.head p.ending p.report) last_is of_ending;
        room = λ yes. subst (λ (n : ℕ). LeavesRoom (room_of options.layout) (bytes_of files dir start.number n)) but_last (takes.room yes);
      }

  pub prepared_part : (left : ℕ) (g : Gathered) (p : Prepared) → Takes left g Full → p.taken ≡ taken
      → ((count : ℕ) → taken.head.number ≡ start.number + count → (applied : ReportValue) × (p.ending ≡ endings.Part applied count)
      × (applied ≡ applied_report_of (ranges start.number count)) × (p.report ≡ report_of options.layout None (outcome_of taken.head top start count [])))
      → IsPrepared known options dir files start p
  prepared_part left g p takes is reports =
      let number = takes.taken_are.is.number in
      let r = reports takes.taken_are.count number in
      let f = filled known options.layout _ takes.ends.2 in
      let above = takes.ends.0 in
      prepared_by left g Full (endings.Part r.0 takes.taken_are.count) p takes is r.1
      (λ count at. (let same : takes.taken_are.count ≡ count = omega (arith, at, number) in
      let sum : taken.head.number - start.number ≡ count = omega (arith, at) in (
        same,
        omega (arith, at, above),
        f.0,
        takes.ends.1,
        λ yes. subst (λ n. max_round ≤ bytes_of files dir start.number n) sum (f.1 yes),
        subst (λ n. r.0 ≡ applied_report_of (ranges start.number n)) same r.2,
        subst (λ n. p.report ≡ report_of options.layout None (outcome_of taken.head top start n [])) same r.3,
      )))

  pub prepared_before : (left : ℕ) (g : Gathered) (fault : RunFault) (p : Prepared) → Takes left g (Faulty fault) → p.taken ≡ taken
      → p.ending ≡ endings.Before fault → start.number < taken.head.number
      → ((count : ℕ) → taken.head.number ≡ start.number + count
      → (said : List ℕ) × (p.report ≡ report_of options.layout (Some said) (outcome_of taken.head top start count [])))
      → IsPrepared known options dir files start p
  prepared_before left g fault p takes is some above report = prepared_by left g (Faulty fault) (endings.Before fault) p takes is some
      (λ count number. (let r = report count number in (r.0, omega (arith, above, number), takes.ends.0, takes.ends.1, takes.ends.2, r.1)))

  pub taking_prepare : (fault : RunFault) → StopsOnTheWay known files dir options.filter last start fault → UpToStops known options dir files start fault
  taking_prepare fault s = inr (inr (inl (record {
    top = top;
    top_is = top_is;
    number = s.number;
    above = s.above;
    until = subst (λ (n : ℕ). s.number ≤ n) last_is s.until;
    each = s.each;
    before = s.before;
    next = λ content. absurd (s.plain s.number content);
    stops = s.stops;
  })))
