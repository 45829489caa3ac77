-- The next card of the set goes behind those that are written.
use Rattle.std.specs.Prelude.{◌≡◌, ◌+◌, ◌<◌, ◌≤◌}
use Rattle.g1_handles.specs.{ℕ, List, Some, None, ◌∙◌, sym, ap, subst, arith, drop-set-lt, length, length-set, card_count, Pause, table_at, IsNextMember, drop}
use Rattle.g1_handles.proofs.{Shows, shows_next, shows_all, shows_first}
use Rattle.g1_handles.proofs.heap.sets.write_set.Goals as goal

pub loop-card-preserved : goal.loop-card-preserved
loop-card-preserved c =
    let i = c.loop-card.invariant in
    let old : Pause = c.args.heap.now in
    let card = c.in-Some.card in
    let array = c.loop-card.array in
    let count = c.loop-card.count in
    let next : c.number-from.result ≡ card = c.number-from.ensures in
    let put = c.write_at.ensures in
    let member = subst (λ (h : Pause). IsNextMember (table_at h) c.args.region c.loop-card.from (Some card)) i.same c.in-Some.ensures.member in
    let within : card < card_count old.layout = subst (λ (h : Pause). card < card_count h.layout) i.same c.in-Some.ensures.within in
    record {
      same = c.next_member.ensures.same ∙ i.same;
      sized = ap length put ∙ (length-set array count card ∙ i.sized);
      within = omega (arith, next, within);
      few = omega (arith, next, i.few, member.0);
      shown = subst (λ (n : ℕ). Shows (table_at old) c.args.region (n + 1) (count + 1) c.write_at.new.array) (sym next)
          (subst (λ (l : List ℕ). Shows (table_at old) c.args.region (card + 1) (count + 1) l) (sym put) (shows_next (table_at old) c.args.region c.loop-card.from count card array member i.shown));
      rest = λ k le. ap (drop k) put ∙ (drop-set-lt k array count card (omega (arith, le)) ∙ i.rest k (omega (arith, le)));
    }

pub returns-then-count-array-clause-told : goal.returns-then-count-array-clause-told
returns-then-count-array-clause-told c =
    let i = c.loop-card.invariant in
    let none = subst (λ (h : Pause). IsNextMember (table_at h) c.args.region c.loop-card.from None) i.same c.in_default.ensures.member in
    let fit : c.loop-card.count ≤ length c.loop-card.array = omega (arith, c.if-count-array.true) in
    (shows_all (table_at c.args.heap.now) c.args.region _ _ _ i.shown none fit, (omega (arith, fit, i.sized), i.rest c.loop-card.count (omega arith)))

pub returns-else-count-array-clause-told : goal.returns-else-count-array-clause-told
returns-else-count-array-clause-told c =
    let i = c.loop-card.invariant in
    let none = subst (λ (h : Pause). IsNextMember (table_at h) c.args.region c.loop-card.from None) i.same c.in_default.ensures.member in
    (shows_first (table_at c.args.heap.now) c.args.region _ _ _ i.shown none (omega (arith, c.if-count-array.false)), i.sized)
