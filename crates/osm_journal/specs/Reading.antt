-- How a journal is read, part by part. The lemmas that tie this to the text are in proofs/.
use Rattle.std.specs.Prelude.{ℕ, zero, suc, ◌+◌, ◌-◌, ◌==◌, ◌&&◌, ◌||◌, nat_lt, nat_le}
use Rattle.std.specs.Prelude.{List, [], ◌∷◌, length, take, drop, codes, Option, Some, None}
use Rattle.std.specs.Prelude.{Bool, if◌then◌else◌}
use Rattle.osm_model.specs.Limits.{max_file, max_sequence}
use Rattle.osm_opl.specs.Reading.{time_at}
use Rattle.osm_reading.specs.Pieces.{cut_at}
use Rattle.osm_reading.specs.Answers.{and_then}
use Rattle.osm_save.specs.Reading.{after_word, fixed_at, head_at, number_at, numbered_at}
use Rattle.osm_save.specs.Save.{most_objects}
use Rattle.osm_journal.specs.Journal.{BatchValue, JournalValue}
use Rattle.osm_journal.specs.declared.batch.Words.{Words}
use Rattle.osm_journal.specs.declared.opening.Opening.{Opening}

-- the numbers and the time of the line of a batch
unfoldable pub words_at : List ℕ → Option Words
words_at line =
    and_then (after_word (codes "batch ") line) (λ words.
    and_then (cut_at 32 words) (λ a. and_then (number_at a.0) (λ number.
    and_then (cut_at 32 a.1) (λ b. and_then (time_at b.0) (λ time.
    and_then (number_at b.1) (λ size.
    Some (record { number = number; time = time; size = size })))))))

-- the line of a batch is that of the batch with this number, which `left` others come after, where
-- the last has this time
abbrev pub is_due : ℕ → ℕ → ℕ → Words → Bool
is_due number left last words =
    words.number == number && nat_le words.size max_file && (nat_lt 0 left || words.time == last)

-- that many bytes, and what comes after the LF after them
unfoldable pub content_at : ℕ → List ℕ → Option (List ℕ × List ℕ)
content_at size bytes =
    if nat_lt (length bytes) size then None
    else and_then (after_word (codes "\n") (drop size bytes)) (λ rest. Some (take size bytes, rest))

-- the batch with this number, and the bytes after it
unfoldable pub batch_at : ℕ → ℕ → ℕ → List ℕ → Option (BatchValue × List ℕ)
batch_at number left last bytes =
    and_then (cut_at 10 bytes) (λ l. and_then (words_at l.0) (λ w.
    if is_due number left last w
    then and_then (content_at w.size l.1) (λ c.
    Some (record { number = number; time = w.time; bytes = c.0 }, c.1))
    else None))

-- that many batches after a number, the last of them with this time, and the bytes after them
abbrev pub batches_at : ℕ → ℕ → ℕ → List ℕ → Option (List BatchValue × List ℕ)
batches_at zero number last bytes = Some ([], bytes)
batches_at (suc left) number last bytes =
    and_then (batch_at (number + 1) left last bytes) (λ b.
    and_then (batches_at left (number + 1) last b.1) (λ r. Some (b.0 ∷ r.0, r.1)))

-- the number of the last batch, which is above that of the save, and the bytes after the line
unfoldable pub sequence_at : ℕ → List ℕ → Option (ℕ × List ℕ)
sequence_at number bytes =
    and_then (numbered_at (codes "sequence ") max_sequence bytes) (λ n.
    if nat_lt number n.0 then Some n else None)

-- a time, and the bytes after its line
unfoldable pub time_line_at : List ℕ → Option (ℕ × List ℕ)
time_line_at bytes =
    and_then (cut_at 10 bytes) (λ l. and_then (after_word (codes "time ") l.0) (λ text.
    and_then (time_at text) (λ time. Some (time, l.1))))

-- the bytes after the line that says that there are this many batches
unfoldable pub many_at : ℕ → List ℕ → Option (List ℕ)
many_at many bytes =
    and_then (numbered_at (codes "batches ") max_sequence bytes) (λ n.
    if n.0 == many then Some n.1 else None)

-- how many batches come after a number, the time of the last, and the bytes after the three lines
unfoldable pub reach_at : ℕ → List ℕ → Option (ℕ × ℕ × List ℕ)
reach_at number bytes =
    and_then (sequence_at number bytes) (λ n. and_then (time_line_at n.1) (λ t.
    and_then (many_at (n.0 - number) t.1) (λ rest. Some (n.0 - number, t.0, rest))))

-- what a journal says before its batches, and the bytes after that
unfoldable pub opening_at : List ℕ → Option (Opening × List ℕ)
opening_at bytes =
    and_then (fixed_at (codes "osmrepl-journal 1") bytes) (λ start.
    and_then (head_at start) (λ h.
    and_then (numbered_at (codes "objects ") (most_objects h.0 h.1.number) h.3) (λ o.
    and_then (reach_at h.1.number o.1) (λ r.
    Some (
      record {
        version = h.0;
        head = h.1;
        filter = h.2;
        objects = o.0;
        many = r.0;
        last = r.1;
      },
      r.2,
    )))))

-- the journal with that opening and those batches
abbrev pub journal_with : Opening → List BatchValue → JournalValue
journal_with o batches = record {
  version = o.version;
  head = o.head;
  kept_by = o.filter;
  objects = o.objects;
  batches = batches;
}

-- `end`, with nothing after it
unfoldable pub end_at : List ℕ → Option Unit
end_at bytes =
    and_then (fixed_at (codes "end") bytes) (λ rest. if length rest == 0 then Some tt else None)

-- the batches and `end`
unfoldable pub rest_at : Opening → List ℕ → Option JournalValue
rest_at o bytes =
    and_then (batches_at o.many o.head.number o.last bytes) (λ b.
    and_then (end_at b.1) (λ done. Some (journal_with o b.0)))

-- the journal that the bytes spell
unfoldable pub journal_at : List ℕ → Option JournalValue
journal_at bytes = and_then (opening_at bytes) (λ o. rest_at o.0 o.1)
