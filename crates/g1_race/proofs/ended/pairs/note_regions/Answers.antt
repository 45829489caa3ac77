use Rattle.std.specs.Prelude.{◌≡◌, ◌++◌, ◌∷◌, ◌+◌, ◌/◌}
use Rattle.g1_race.specs.{[], ℕ, suc, get_or, not, true, false, ne_eqb, eq-eqb, sym, ap, ◌∙◌, arith, slots_items, array_vec_len, bit_word, block_regions, has_block, read_is}
use Rattle.g1_race.proofs.{left_out, put_in}
use Rattle.g1_race.proofs.ended.pairs.note_regions.Goals.{then-word-ne0, else-word-ne0}
use Rattle.g1_race.proofs.ended.pairs.note_regions.Goals as goal

pub loop-region-preserved : goal.loop-region-preserved
loop-region-preserved c =
    let k = c.args.shape in
    let words = slots_items c.args.words.now.words in
    let r = c.loop-region.region in
    let test = has_block k words (c.args.card / 64) in
    let i = c.loop-region.invariant in
    let word : get_or words (bit_word k (c.args.card, r)) 0 ≡ c.word.result = ap (λ (j : ℕ). get_or words j 0) (sym c.bit_of-at.ensures.word) ∙ read_is words c.bit_of-at.result.0 c.word.result c.word.ensures in
    let next : suc r ≡ r + 1 = omega arith in
    elim c.if-word-ne0.branch [
      | then-word-ne0 w ↦
          let yes_it : test r ≡ true = ap not (ne_eqb _ 0 (λ e. w.if-word-ne0.true (sym word ∙ e))) in
          record {
            regions = ap (λ v. v.items) w.regions-is ∙ (w.push.ensures.items ∙ ((λ j. i.regions j ++ r ∷ []) ∙ (sym (put_in test r yes_it) ∙ ap (block_regions k words (c.args.card / 64)) next)));
            few = omega (arith, ap array_vec_len w.regions-is, w.push.ensures.len, i.few);
          }
      | else-word-ne0 w ↦
          let no_it : test r ≡ false = ap not (eq-eqb _ 0 (word ∙ w.if-word-ne0.false)) in
          record {
            regions = ap (λ v. v.items) w.regions-is ∙ (i.regions ∙ (sym (left_out test r no_it) ∙ ap (block_regions k words (c.args.card / 64)) next));
            few = omega (arith, ap array_vec_len w.regions-is, i.few);
          }
    ]
