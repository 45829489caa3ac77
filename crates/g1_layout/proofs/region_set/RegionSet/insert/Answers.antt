use Rattle.std.proofs.Common.{◌/◌, ◌%◌, ◌*◌, ◌^◌, arith, get_or, bit_or, w64, rules, subst, ℕ, set as list_set, sym}
use Rattle.std.proofs.lemmas.Nat.Bits.{bit_at_set_same, bit_at_set_other}
use Rattle.g1_layout.specs.Regions.{Gains}
use Rattle.g1_layout.proofs.RegionSetLemmas.{gained}
use Rattle.g1_layout.proofs.region_set.RegionSet.insert.Goals as goal

pub returns : goal.returns
returns c =
    let word : ℕ → ℕ = λ n. get_or c.args.self.now.words (n / 64) 0 in
    subst (λ (n : ℕ). Gains c.args.self.now c.args.region (record { words = list_set c.args.self.now.words (n / 64) (bit_or (get_or c.args.self.now.words (n / 64) 0) (1 * 2 ^ (n % 64) % 2 ^ 64)) })) (sym c.number-number.ensures)
    (gained c.args.self.now (bit_or (word c.args.region) (1 * 2 ^ (c.args.region % 64) % 2 ^ 64)) c.args.region (search rules) c.requires
    (λ i low apart. bit_at_set_other w64 (word c.args.region) (c.args.region % 64) (omega arith) i apart)
    (bit_at_set_same w64 (word c.args.region) (c.args.region % 64) (omega arith)))
