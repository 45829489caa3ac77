-- The next handle from the end has the role and the box that were last in the lists.
use Rattle.std.specs.Prelude.{◌≡◌, ◌<◌, ◌-◌}
use Rattle.g1_handles.specs.{rules, All, Some, Box, length, map, sym, ap, ◌∙◌, subst, arith, Global, arc_value, length-set, Party, counts_of, role_in, BelongsTo, drop}
use Rattle.std.proofs.lemmas.List.{drop_all}
use Rattle.std.proofs.lemmas.List.Elements.{All-cons, All-nil}
use Rattle.g1_handles.proofs.{popped, still, from_set, seen_too}
use Rattle.g1_handles.proofs.heap.phases.hand_out_to.Goals as goal

pub loop-left-init : goal.loop-left-init
loop-left-init g c =
    let value = g.H.AnyHandle.value in
    let hs = c.args.handles.now in
    let none = drop_all (length hs) hs (omega arith) in
    let for = c.requires.1 in
    record {
      sized = search rules;
      below = search rules;
      boxes = for.box_count;
      roles = for.role_count;
      box_rest = search rules;
      role_rest = search rules;
      box_room = search rules;
      role_room = search rules;
      given = ap (λ l. map role_in (map value l)) none ∙ sym (ap (map (λ (p : g.row.P.Denot). Some p)) (drop_all (length hs) c.args.roles.now.items (omega (arith, for.role_count, c.args.roles.now.ok.0))));
      counted = ap (λ l. map counts_of (map value l)) none ∙ sym (ap (map (λ (m : Box (Party g.row.P.Denot g.P.Role) Global). m.value.counts)) (drop_all (length hs) c.args.boxes.now.items (omega (arith, for.box_count, c.args.boxes.now.ok.0))));
      waited = λ race all. subst (λ l. All (BelongsTo race) (map value l)) (sym none) (All-nil (BelongsTo race));
    }

pub loop-left-preserved : goal.loop-left-preserved
loop-left-preserved g c =
    let i = c.loop-left.invariant in
    let n = c.loop-left.left in
    let hs = c.loop-left.handles in
    let value = g.H.AnyHandle.value in
    let some : 0 < n = omega (arith, c.loop-left-test.true) in
    let here : n - 1 < length hs = omega (arith, i.below, some) in
    let m = c.in-Some.party in
    let role = c.in-Some-pop.role in
    let h = c.opened.result in
    let seated = c.seat.ensures in
    let holds : value h ≡ Some c.seat.new.self = c.opened.ensures in
    let boxes = c.args.boxes.now.items in
    let roles = c.args.roles.now.items in
    let for = c.requires.1 in
    let boxed : n - 1 < length boxes = omega (arith, here, i.sized, for.box_count, c.args.boxes.now.ok.0) in
    let last_role = popped roles c.loop-left.roles.items n _ role role some i.roles i.role_rest (c.in-Some-pop.ensures.value role (omega (arith, i.roles))) in
    let last_box = popped boxes c.loop-left.boxes.items n _ m m some i.boxes i.box_rest (c.in-Some.ensures.value m (omega (arith, i.boxes))) in
    record {
      sized = length-set hs (n - 1) h ∙ i.sized;
      below = omega (arith, length-set hs (n - 1) h, i.below);
      boxes = omega (arith, i.boxes, c.in-Some.ensures.cases, c.in-Some.ensures.len);
      roles = omega (arith, i.roles, c.in-Some-pop.ensures.cases, c.in-Some-pop.ensures.len);
      box_rest = still boxes c.loop-left.boxes.items _ n _ some i.boxes i.box_rest c.pop.ensures.rest;
      role_rest = still roles c.loop-left.roles.items _ n _ some i.roles i.role_rest c.pop-in-loop-left.ensures.rest;
      box_room = c.pop.ensures.capacity ∙ i.box_room;
      role_room = c.pop-in-loop-left.ensures.capacity ∙ i.role_room;
      given = seen_too value role_in (λ (p : g.row.P.Denot). Some p) hs roles n h role some here (omega (arith, here, i.sized, for.role_count, c.args.roles.now.ok.0))
          (ap role_in holds ∙ (seated.role ∙ ap (λ (y : g.row.P.Denot). Some y) last_role)) i.given;
      counted = seen_too value counts_of (λ (b : Box (Party g.row.P.Denot g.P.Role) Global). b.value.counts) hs boxes n h m some here boxed
          (ap counts_of holds ∙ (seated.counts ∙ (ap (λ (x : Party g.row.P.Denot g.P.Role). x.counts) c.deref_mut.ensures.value ∙ ap (λ (y : Box (Party g.row.P.Denot g.P.Role) Global). y.value.counts) last_box))) i.counted;
      waited = λ race all.
          let of : arc_value c.seat.new.self.race ≡ race = seated.race ∙ (ap (λ (x : Party g.row.P.Denot g.P.Role). arc_value x.race) c.deref_mut.ensures.value ∙ (ap (λ (y : Box (Party g.row.P.Denot g.P.Role) Global). arc_value y.value.race) last_box ∙ all (n - 1) m boxed)) in
          subst (λ l. All (BelongsTo race) (map value l)) (sym (from_set hs n some h here)) (All-cons (BelongsTo race) (value h) _ (subst (BelongsTo race) (sym holds) of) (i.waited race all));
    }

pub returns-clause-roles : goal.returns-clause-roles
returns-clause-roles g c =
    let none : c.loop-left.left ≡ 0 = omega (arith, c.loop-left-test.false) in
    subst (λ n. map role_in (map g.H.AnyHandle.value (drop n c.loop-left.handles)) ≡ map (λ role. Some role) (drop n c.args.roles.now.items)) none c.loop-left.invariant.given

pub returns-clause-counts : goal.returns-clause-counts
returns-clause-counts g c =
    let none : c.loop-left.left ≡ 0 = omega (arith, c.loop-left-test.false) in
    subst (λ n. map counts_of (map g.H.AnyHandle.value (drop n c.loop-left.handles)) ≡ map (λ m. m.value.counts) (drop n c.args.boxes.now.items)) none c.loop-left.invariant.counted

pub returns-clause-race : goal.returns-clause-race
returns-clause-race g c race waiting =
    let none : c.loop-left.left ≡ 0 = omega (arith, c.loop-left-test.false) in
    subst (λ n. All (BelongsTo race) (map g.H.AnyHandle.value (drop n c.loop-left.handles))) none (c.loop-left.invariant.waited race waiting)
