use Rattle.std.proofs.Common.{◌≡◌, List, ap, sym, ◌∙◌, arith}
use Rattle.g1_records.specs.declared.view.View.{View}
use Rattle.g1_records.specs.Views.{view_in}
use Rattle.g1_records.proofs.Owed.{takes, learns, leaves}
use Rattle.g1_records.proofs.records.Records.check.Goals as goal

pub join_seat-requires : goal.join_seat-requires
join_seat-requires c =
    let asked = rw (← c.self.view_is, ← c.own.view_is) at c.requires in
    let is = c.self.invariant.2 in
    let seat = c.into_seat.ensures in
    let old = c.replace-badge.ensures.value in
    let came : c.into_seat.result.me.0 ≡ view_in c.own.inside.badge.views = sym (ap view_in (sym (ap (λ b. b.views) old) ∙ seat.2)) in
    (c.self.invariant.1, seat.0 ∙ ap (λ b. b.table_id) old ∙ asked, seat.3, omega (arith, c.self.invariant.0), takes _ _ _ _ (ap (λ m. m.0.knows) is) (ap (λ (v : View). v.calls) came ∙ ap (λ (l : List View). (view_in l).calls) c.own.invariant))

pub load-requires : goal.load-requires
load-requires c =
    let is = c.self.invariant.2 in
    let seat = c.into_seat.ensures in
    let join = c.join_seat.ensures in
    let old = c.replace-badge.ensures.value in
    let came : c.into_seat.result.me.0 ≡ view_in c.own.inside.badge.views = sym (ap view_in (sym (ap (λ b. b.views) old) ∙ seat.2)) in
    let calls = ap (λ (v : View). v.calls) came ∙ ap (λ (l : List View). (view_in l).calls) c.own.invariant in
    (join.0 ∙ c.self.invariant.1, omega (arith, c.self.invariant.0), learns _ _ _ _ _ (ap (λ m. m.0.knows) join.2 ∙ ap (λ m. m.0.knows) is) (ap (λ m. m.0.calls) join.2 ∙ calls))

pub split_seat-requires : goal.split_seat-requires
split_seat-requires c =
    let is = c.self.invariant.2 in
    let seat = c.into_seat.ensures in
    let join = c.join_seat.ensures in
    let load = c.load.ensures in
    let old = c.replace-badge.ensures.value in
    let me = load.2.0 ∙ join.2 in
    let came : c.into_seat.result.me.0 ≡ view_in c.own.inside.badge.views = sym (ap view_in (sym (ap (λ b. b.views) old) ∙ seat.2)) in
    let calls = ap (λ (v : View). v.calls) came ∙ ap (λ (l : List View). (view_in l).calls) c.own.invariant in
    (load.0 ∙ join.0 ∙ c.self.invariant.1, omega (arith, c.self.invariant.0), leaves _ _ (ap (λ m. m.0.knows) me ∙ ap (λ m. m.0.knows) is) (ap (λ m. m.0.calls) me ∙ calls))
