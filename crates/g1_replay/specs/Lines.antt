-- What a read of one line takes from the bytes that a reader has left.
use Rattle.std.specs.Prelude.{◌≡◌, ◌≢◌, ◌∷◌, ◌++◌, ◌≤◌, ◌<◌}
use Rattle.g1_replay.specs.Prelude.{ℕ, List, [], length, take}
use Rattle.g1_replay.specs.Prelude.{slice_index, Bool, true, false, Result, Ok, Err, Option, Some}
use Rattle.g1_replay.specs.Prelude.{None, Consumes, IsAtEnd, IsPart, TooLong, Cut, Stop, Fault}
use Rattle.g1_replay.specs.Prelude.{ReadFailed}
use Rattle.g1_replay.specs.declared.lines.line.Byte.{Byte}
use Rattle.g1_replay.specs.declared.lines.line.Byte.TheVariants.{Some as OneByte, End as NoByte}
use Rattle.g1_replay.specs.declared.lines.line.Byte.TheVariants.{Failed as FailedByte}
use Rattle.g1_replay.specs.declared.lines.line.Part.{Part}
use Rattle.g1_replay.specs.declared.lines.line.Part.TheVariants.{Whole, TooLong as LongPart, More}
use Rattle.g1_replay.specs.declared.lines.line.Part.TheVariants.{Nothing, Failed}

-- one read of one byte
abbrev pub ReadsByte : Option (List ℕ) → Option (List ℕ) → Byte → Type 0
ReadsByte old new (OneByte b) = Consumes old new (b ∷ [])
ReadsByte old new NoByte = Consumes old new [] × IsAtEnd new
ReadsByte old new FailedByte = Consumes old new []

-- the first n bytes, with no line feed, and then the end or a line feed
abbrev pub EndsAtFeed : List ℕ → ℕ → Type 0
EndsAtFeed bytes n = IsPart (take n bytes) × (n < length bytes → slice_index bytes n ≡ 10)

-- n of the shown bytes go into a line with room for `room` more, and the first `lost` are consumed
abbrev pub GoesIntoLine : List ℕ → ℕ → Part → ℕ → ℕ → Type 0
GoesIntoLine shown room Whole n lost =
    IsPart (take n shown) × (n ≤ room) × (take lost shown ≡ take n shown ++ 10 ∷ [])
GoesIntoLine shown room LongPart n lost =
    (b : ℕ) × IsPart (take n shown) × (n ≡ room) × (b ≢ 10)
    × (take lost shown ≡ take n shown ++ b ∷ [])
GoesIntoLine shown room More n lost = IsPart (take n shown) × (n ≤ room) × (lost ≡ n)
GoesIntoLine shown room Nothing n lost = (n ≡ 0) × (lost ≡ 0)
GoesIntoLine shown room Failed n lost = ⊥

-- the next part of a line was consumed
abbrev pub ReadsPart : Option (List ℕ) → Option (List ℕ) → Part → List ℕ → List ℕ → Type 0
ReadsPart old new Whole begun line =
    (bytes : List ℕ) × (line ≡ begun ++ bytes) × Consumes old new (bytes ++ 10 ∷ []) × IsPart bytes
    × (length line ≤ 64)
ReadsPart old new LongPart begun line =
    (bytes : List ℕ) × (b : ℕ) × (line ≡ begun ++ bytes) × Consumes old new (bytes ++ b ∷ [])
    × (b ≢ 10) × IsPart bytes × (length line ≡ 64)
ReadsPart old new More begun line =
    (bytes : List ℕ) × (line ≡ begun ++ bytes) × Consumes old new bytes × IsPart bytes
    × (length line ≤ 64)
ReadsPart old new Nothing begun line = (line ≡ begun) × Consumes old new []
ReadsPart old new Failed begun line = (line ≡ begun) × Consumes old new []

-- with the first `lost` of the shown bytes consumed, this much of the line that was begun is read
abbrev pub ReadsPartOfShown : (shown : List ℕ) → Part → (lost : ℕ) → (begun line : List ℕ) → Type 0
ReadsPartOfShown shown part lost begun line =
    (old new : Option (List ℕ)) → Consumes old new (take lost shown)
    → ReadsPart old new part begun line

-- the next line, or the part of it that was consumed; at the end of the input there is none
abbrev pub ReadsLine : Option (List ℕ) → Option (List ℕ) → Result Bool Stop → List ℕ → Type 0
ReadsLine old new (Ok true) line =
    Consumes old new (line ++ 10 ∷ []) × IsPart line × (length line ≤ 64)
ReadsLine old new (Ok false) line = Consumes old new [] × IsAtEnd new × (line ≡ [])
ReadsLine old new (Err (Fault TooLong)) line =
    (b : ℕ) × Consumes old new (line ++ b ∷ []) × (b ≢ 10) × IsPart line × (length line ≡ 64)
ReadsLine old new (Err (Fault Cut)) line =
    Consumes old new line × IsAtEnd new × IsPart line × (0 < length line) × (length line ≤ 64)
ReadsLine old new (Err ReadFailed) line = Consumes old new line × IsPart line × (length line ≤ 64)
ReadsLine old new (Err stop) line = ⊥

-- A line was begun when the reader had the bytes of `begun` left, and the part of it that was taken
-- last is this.
pub record HasPart (begun now : Option (List ℕ)) (part : Part) (line : List ℕ) : Type 0 where
  pub before : List ℕ
  pub left : Option (List ℕ)
  pub read : Consumes begun left before
  pub one : IsPart before
  pub last : ReadsPart left now part before line

-- what came of a line: the line or none, what stops the reading, or nothing yet
abbrev pub IsSettled : Option (List ℕ) → Option (List ℕ) → Result (Option Bool) Stop → List ℕ
    → Type 0
IsSettled begun now (Ok (Some found)) line = ReadsLine begun now (Ok found) line
IsSettled begun now (Ok None) line = Consumes begun now line × IsPart line × (length line ≤ 64)
IsSettled begun now (Err stop) line = ReadsLine begun now (Err stop) line
