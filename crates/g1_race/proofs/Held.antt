-- What a pause lends is the race that it holds.
use Rattle.std.specs.Prelude.{◌≡◌, ◌<◌}
use Rattle.g1_race.specs.{ℕ, List, sym, ap, ◌∙◌, subst, arith, slot_count, TableId, Table, RaceShape, IsBegun, started, at_pause_of, race_id, Pause, ended, table_at, table_of, Known, reader_race, Writes, words_of}
use Rattle.std.specs.Borrow.{Bor}
use Rattle.g1_race.specs.declared.race.Race.{Race}
use Rattle.g1_race.specs.declared.paused.Writer.{Writer}

pub lent_view : {race held : Race} {words : List ℕ} {logs : List (List ℕ)} {sweepers : ℕ} {pause : Pause} → race ≡ held → at_pause_of held words logs sweepers ≡ pause → at_pause_of race words logs sweepers ≡ pause
lent_view {words = words} {logs = logs} {sweepers = sweepers} is view = ap (λ (r : Race). at_pause_of r words logs sweepers) is ∙ view

pub lent_begun : {race held : Race} {words : List ℕ} → race ≡ held → IsBegun (started held.shape words) → IsBegun (started race.shape words)
lent_begun {words = words} is = subst (λ (r : Race). IsBegun (started r.shape words)) (sym is)

-- a region of the pause is one of the race, and so it is by its number
pub lent_numbers : {race held : Race} {words : List ℕ} {logs : List (List ℕ)} {sweepers region : ℕ} {pause : Pause} → race ≡ held → at_pause_of held words logs sweepers ≡ pause → region < pause.layout.regions → region < race.layout.regions
lent_numbers {region = region} is view = subst (λ (h : Pause). region < h.layout.regions) (sym (lent_view is view))

pub lent_region : {race held : Race} {words : List ℕ} {logs : List (List ℕ)} {sweepers number region : ℕ} {pause : Pause} → race ≡ held → at_pause_of held words logs sweepers ≡ pause → number ≡ region → region < pause.layout.regions → number < race.shape.regions
lent_region {race = race} is view same lt = let low = lent_numbers is view lt in omega (arith, low, ap (λ (s : RaceShape). s.regions) race.laid)

pub lent_slot : {race held : Race} {words : List ℕ} {logs : List (List ℕ)} {sweepers slot : ℕ} {pause : Pause} → race ≡ held → at_pause_of held words logs sweepers ≡ pause → slot < slot_count pause.layout → slot < race.shape.slots
lent_slot {race = race} is view lt = omega (arith, lt, ap (λ (s : RaceShape). s.slots) race.laid, ap (λ (h : Pause). slot_count h.layout) (lent_view is view))

pub held_table : {race held : Race} (words : List ℕ) → race ≡ held → table_of (ended race.layout race.shape words) ≡ table_of (ended held.layout held.shape words)
held_table words = ap (λ (r : Race). table_of (ended r.layout r.shape words))

-- from the table of the race that was lent, before and after, to that of the pause
pub at_pause : {race held : Race} {words : List ℕ} {logs : List (List ℕ)} {sweepers : ℕ} {pause : Pause} (change : Table → Table → Type 0) (new : List ℕ) → race ≡ held → at_pause_of held words logs sweepers ≡ pause
    → change (table_of (ended race.layout race.shape words)) (table_of (ended race.layout race.shape new)) → change (table_at pause) (table_of (ended held.layout held.shape new))
at_pause {race = race} {pause = pause} change new is view there =
    subst (change (table_at pause)) (held_table new is) (subst (λ (h : Pause). change (table_at h) (table_of (ended race.layout race.shape new))) (lent_view is view) there)

-- a race can begin with what a reader of it knows
pub reader_begun : (race : Race) {inside reader : Known} → reader_race reader ≡ race_id race → inside ≡ reader → IsBegun inside.start → IsBegun (started race.shape reader.start.words)
reader_begun race {reader = reader} of is begun = subst (λ (x : TableId × RaceShape). IsBegun (started x.1 reader.start.words)) of (subst (λ (r : Known). IsBegun r.start) is begun)

-- what a writer of the same race knows

pub by_race : (Holds : RaceShape → Type 0) {here there : Bor Race} → here ≡ there → Holds there.now.shape → Holds here.now.shape
by_race Holds same = subst (λ (r : Bor Race). Holds r.now.shape) (sym same)

pub begun_on : {here there : Bor Race} {words : List ℕ} → here ≡ there → IsBegun (started there.now.shape words) → IsBegun (started here.now.shape words)
begun_on {words = words} = by_race (λ heap. IsBegun (started heap words))

-- one step after others that kept the race and the reader
pub writes_next : {old mid new : Writer} {Next All : RaceShape → List ℕ → List ℕ → Type 0} → mid.race ≡ old.race → mid.reader.ghost_name ≡ old.reader.ghost_name → Writes mid new Next
    → (Next old.race.now.shape (words_of mid) (words_of new) → All old.race.now.shape (words_of old) (words_of new)) → Writes old new All
writes_next {mid = mid} {new = new} {Next = Next} race reader next all = record { race = next.race ∙ race; reader = next.reader ∙ reader; begun = begun_on (sym race) next.begun; words = all (by_race (λ heap. Next heap (words_of mid) (words_of new)) (sym race) next.words) }
