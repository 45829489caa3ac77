use Rattle.std.specs.Prelude.{◌≡◌, ◌++◌}
use Rattle.g1_trace.specs.{List, ℕ, append_assoc, ap, sym, subst, ◌∙◌, Appends, AppendsFront, list_text, Appends-trans}
use Rattle.g1_trace.proofs.{puts_failed, front_more, front_then, list_apart, list_parts, cut_apart}
use Rattle.g1_trace.proofs.list.put_list.Goals as goal

pub returns-in_err-put_block : goal.returns-in_err-put_block
returns-in_err-put_block g c =
    let inv = c.loop-rest.invariant in
    let block = c.split_at.result.0.now in
    let behind = c.split_at.result.1.now in
    let parts : c.loop-rest.rest.now ≡ block ++ behind = cut_apart c.min.result c.loop-rest.rest.now block behind c.split_at.ensures.front c.split_at.ensures.back in
    puts_failed _ _ c.from_residual.result _ c.from_residual.ensures.0
    (subst (λ (l : List ℕ). AppendsFront (g.W.Write.contents c.args.output.now) (g.W.Write.contents c.put_block.new.output) l) (sym (list_parts c.args.cards.now inv.0 c.loop-rest.rest.now block behind inv.2 parts))
    (front_more _ _ (list_text inv.0 ++ list_text block) (list_text behind) (front_then _ _ _ (list_text inv.0) (list_text block) inv.1 c.in_err-put_block.ensures)))

pub loop-rest-preserved : goal.loop-rest-preserved
loop-rest-preserved g c =
    let inv = c.loop-rest.invariant in
    let block = c.split_at.result.0.now in
    let behind = c.split_at.result.1.now in
    let parts : c.loop-rest.rest.now ≡ block ++ behind = cut_apart c.min.result c.loop-rest.rest.now block behind c.split_at.ensures.front c.split_at.ensures.back in (
      inv.0 ++ block,
      subst (λ (l : List ℕ). Appends (g.W.Write.contents c.args.output.now) (g.W.Write.contents c.put_block.new.output) l) (sym (list_apart inv.0 block))
          (Appends-trans _ _ _ (list_text inv.0) (list_text block) inv.1 c.in_ok-put_block.ensures),
      inv.2 ∙ ap (λ l. inv.0 ++ l) parts ∙ sym (append_assoc inv.0 block behind),
    )
