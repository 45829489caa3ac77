use Rattle.std.proofs.Common.{◌/◌, ◌%◌, ◌*◌, ◌-◌, ◌^◌, arith, get_or, bit_and, w64, rules, subst, ℕ, set as list_set, sym}
use Rattle.std.proofs.lemmas.Nat.Bits.{bit_at_clear_same, bit_at_clear_other}
use Rattle.g1_layout.specs.Regions.{Loses}
use Rattle.g1_layout.proofs.RegionSetLemmas.{lost}
use Rattle.g1_layout.proofs.region_set.RegionSet.remove.Goals as goal

pub returns : goal.returns
returns c =
    let word : ℕ → ℕ = λ n. get_or c.args.self.now.words (n / 64) 0 in
    subst (λ (n : ℕ). Loses c.args.self.now c.args.region (record { words = list_set c.args.self.now.words (n / 64) (bit_and (get_or c.args.self.now.words (n / 64) 0) (18446744073709551615 - 1 * 2 ^ (n % 64) % 2 ^ 64)) })) (sym c.number-number.ensures)
    (lost c.args.self.now (bit_and (word c.args.region) (18446744073709551615 - 1 * 2 ^ (c.args.region % 64) % 2 ^ 64)) c.args.region (search rules) c.requires
    (λ i low apart. bit_at_clear_other w64 (word c.args.region) (c.args.region % 64) (omega arith) i low apart)
    (bit_at_clear_same w64 (word c.args.region) (c.args.region % 64) (omega arith)))
