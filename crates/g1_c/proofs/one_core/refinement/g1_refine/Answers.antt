-- The reply is what the words and the array tell.
use Rattle.g1_c.specs.{◌∙◌, rules, subst, Between, RefinesTo}
use Rattle.g1_core.specs.declared.reply.RefineReply.{RefineReply}
use Rattle.g1_c.proofs.{is_made}
use Rattle.g1_c.proofs.one_core.refinement.g1_refine.Goals as goal

pub returns-in-Ok-clause-refined : goal.returns-in-Ok-clause-refined
returns-in-Ok-clause-refined c = is_made _ _ _ _ _ c.reply_word.ensures.few (
    let made : Between c.args.handle.now.value c.visit.new.handle.value (λ old new. RefinesTo old c.args.cards.now c.in-Ok.reply new) = search rules in
    subst (λ (reply : RefineReply). Between c.args.handle.now.value c.visit.new.handle.value (λ old new. RefinesTo old c.args.cards.now reply new))
    (c.reply_word.ensures.reply ∙ search rules) made)
