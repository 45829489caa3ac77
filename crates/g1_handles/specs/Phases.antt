-- How a heap goes from its race to a pause and back, and from a pause to a reading and back. Of the
-- lists of handles the first is before the call, and the second after it.
use Rattle.std.specs.Prelude.{◌≡◌, ◌++◌, IsPermutation}
use Rattle.g1_handles.specs.Prelude.{List, Option, arc_value, length, map, IsPauseOf}
use Rattle.g1_handles.specs.declared.heap.racing_heap.RacingHeap.{RacingHeap}
use Rattle.g1_handles.specs.declared.handles.RacerHandle.{RacerHandle}
use Rattle.g1_handles.specs.declared.handles.ReaderHandle.{ReaderHandle}
use Rattle.g1_handles.specs.declared.handles.SweeperHandle.{SweeperHandle}
use Rattle.g1_handles.specs.Life.{OfHeap, OfPaused, OfRacing, HasParties, MayBelong, Belong, log_in}
use Rattle.g1_handles.specs.Life.{GoesOn, heap_race, heap_counts, held_counts, idle_counts}
use Rattle.g1_handles.specs.Racing.{AreClosed, racer_knows, sweeper_knows, counts_of, held_racers}
use Rattle.g1_handles.specs.Racing.{held_readers, held_sweepers}
use Rattle.g1_handles.specs.Readers.{AreReadersAt, ReadersMayBelong, ReadersBelong, IsLentHeap}
use Rattle.g1_handles.specs.Readers.{IsReadBy}

-- Parties that are as many as the heap's, of races with as many parties, are of its race.
abbrev pub AreOnlyItsOwn : Option RacingHeap → List RacerHandle → List SweeperHandle → Type 0
AreOnlyItsOwn heap racers sweepers = HasParties heap (length racers) (length sweepers)
    → MayBelong heap (held_racers racers) (held_sweepers sweepers)
    → Belong heap (held_racers racers) (held_sweepers sweepers)

-- The same of readers.
abbrev pub AreOnlyItsReaders : Option RacingHeap → List ReaderHandle → Type 0
AreOnlyItsReaders heap readers = IsReadBy heap (length readers)
    → ReadersMayBelong heap (held_readers readers) → ReadersBelong heap (held_readers readers)

-- These handles hold what they held.
abbrev pub HoldSame : List RacerHandle → List RacerHandle → List SweeperHandle → List SweeperHandle
    → Type 0
HoldSame rs rs' ss ss' =
    (held_racers rs' ≡ held_racers rs) × (held_sweepers ss' ≡ held_sweepers ss)

-- The race of the heap comes to a pause: all its parties, as many racers and sweepers, were behind
-- these handles, which are closed.
pub record ComesToPause (old new : Option RacingHeap) (rs rs' : List RacerHandle)
    (ss ss' : List SweeperHandle) : Type 0 where
  pub paused : OfRacing old (λ b. OfPaused new (IsPauseOf (arc_value b.race)
      (map racer_knows (held_racers rs)) (map sweeper_knows (held_sweepers ss))
      (map log_in (held_racers rs))))
  pub race : heap_race new ≡ heap_race old
  pub counts : heap_counts new ≡ held_counts (held_racers rs) (held_sweepers ss)
  pub idle : idle_counts new ≡ idle_counts old
  pub parties : HasParties old (length rs) (length ss) × HasParties new (length rs) (length ss)
  pub like : MayBelong old (held_racers rs) (held_sweepers ss)
  pub closed : AreClosed (held_racers rs') × AreClosed (held_sweepers ss')

-- The race goes on as the pause left it, with all its parties behind these handles, which were
-- closed.
pub record Resumes (old new : Option RacingHeap) (rs rs' : List RacerHandle)
    (ss ss' : List SweeperHandle) : Type 0 where
  pub resumed : OfPaused old (λ p. OfRacing new (λ b.
      GoesOn p (arc_value b.race) (held_racers rs') (held_sweepers ss')))
  pub race : heap_race new ≡ heap_race old
  pub counts : held_counts (held_racers rs') (held_sweepers ss') ≡ heap_counts old
  pub idle : idle_counts new ≡ idle_counts old
  pub parties : HasParties old (length rs) (length ss) × HasParties new (length rs) (length ss)
  pub closed : AreClosed (held_racers rs) × AreClosed (held_sweepers ss)

-- As many readers read the pause, from behind these handles, which were closed.
pub record BeginsReading (old new : Option RacingHeap) (rs rs' : List ReaderHandle)
    : Type 0 where
  pub lent : IsLentHeap old new
  pub readers_at : OfPaused old (λ p. OfHeap old (λ race. AreReadersAt race p (held_readers rs')))
  pub count : IsReadBy new (length rs)
  pub counts : IsPermutation (idle_counts old)
      (map counts_of (held_readers rs') ++ idle_counts new)
  pub closed : AreClosed (held_readers rs)

-- The heap is at its pause again: all its readers, as many, were behind these handles, which are
-- closed.
pub record EndsReading (old new : Option RacingHeap) (rs rs' : List ReaderHandle) : Type 0 where
  pub ended : IsLentHeap new old
  pub count : IsReadBy old (length rs)
  pub counts : IsPermutation (idle_counts new)
      (map counts_of (held_readers rs) ++ idle_counts old)
  pub like : ReadersMayBelong old (held_readers rs)
  pub closed : AreClosed (held_readers rs')
