-- What the hasher of cards computes.
use Rattle.std.specs.Prelude.{◌+◌, ◌*◌, ◌%◌, ◌^◌}
use Rattle.g1_sets.specs.Prelude.{ℕ, List, slice_index}

-- the first four bytes as a number, the lowest first
abbrev pub first_four : List ℕ → ℕ
first_four bytes =
    slice_index bytes 0 + 256 * slice_index bytes 1 + 65536 * slice_index bytes 2
    + 16777216 * slice_index bytes 3

-- the state after some bytes are written
abbrev pub after_write : ℕ → List ℕ → ℕ
after_write state bytes = ((state + first_four bytes) * 0x9e37_79b9_7f4a_7c15) % 2 ^ 64
