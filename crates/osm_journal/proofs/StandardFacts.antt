-- The definition at journals that a person can check by eye.
use Rattle.std.proofs.Common.{◌≡◌, ℕ, [], ◌∷◌, ◌++◌, None, Some, refl}
use Rattle.std.specs.Prelude.{codes}
use Rattle.std.specs.Fmt.{digits}
use Rattle.osm_model.specs.CivilTime.{time_text}
use Rattle.osm_model.specs.Filter.{everything}
use Rattle.osm_journal.specs.Journal.{journal_text}
use Rattle.osm_save.specs.declared.version.Version.TheVariants.{One, Three}

-- two batches after sequence 8, of which the second is empty
two_batches : (s t u : ℕ)
    → journal_text (record {
      version = Three;
      head = record { number = 8; base = 7; time = Some s };
      kept_by = everything;
      objects = 12;
      batches = record { number = 9; time = t; bytes = codes "a\nb" }
          ∷ record { number = 10; time = u; bytes = [] }
          ∷ [];
    }) ≡ codes "osmrepl-journal 1\nosmrepl-save 3\nbase 7\nkinds nwr\nkeys 0\nsequence 8\ntime "
    ++ (time_text s ++ (codes "\nobjects 12\nsequence 10\ntime "
    ++ (time_text u ++ (codes "\nbatches 2\nbatch 9 "
    ++ (time_text t ++ (codes " 3\na\nb\nbatch 10 " ++ (time_text u ++ codes " 0\n\nend\n")))))))
unfolding digits time_text
two_batches s t u = refl

-- one batch after the start, as version 1 has it
first_batch : (t : ℕ)
    → journal_text (record {
      version = One;
      head = record { number = 0; base = 0; time = None };
      kept_by = everything;
      objects = 0;
      batches = record { number = 1; time = t; bytes = codes "end\n" } ∷ [];
    }) ≡ codes "osmrepl-journal 1\nosmrepl-save 1\nsequence 0\ntime none\nobjects 0\nsequence 1\ntime "
    ++ (time_text t ++ (codes "\nbatches 1\nbatch 1 " ++ (time_text t ++ codes " 4\nend\n\nend\n")))
unfolding digits time_text
first_batch t = refl
