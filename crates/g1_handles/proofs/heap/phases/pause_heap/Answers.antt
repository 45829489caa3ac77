-- A check of the parties finds a handle with none, or a party of another race.
use Rattle.std.specs.Prelude.{◌≡◌, ◌⊎◌}
use Rattle.g1_handles.specs.{◌∙◌, ℕ, List, arith, rules, All, length, map, refl, ap, subst, arc_value, View, racer_view, sweeper_view, racer_log, log_of, role_in, role_view, counts_of, BelongsTo, FillRoom, OfPaused, IsPauseOf, inl, inr, Option, Some, Any, Reason, RacingHeap, RacerParty, SweeperParty, HasRacers, HasParties, SaysNoParty, IsPauseRefused, held_racers, held_sweepers}
use Rattle.g1_handles.specs.declared.code.Reason.TheVariants as refusal
use Rattle.std.proofs.lemmas.Grind.{common_steps}
use Rattle.g1_handles.proofs.{passed, seen_alike}
use Rattle.g1_handles.proofs.heap.phases.pause_heap.Goals as goal

of_racers : (h : Option RacingHeap) (rs : List (Option RacerParty)) (ss : List (Option SweeperParty)) (r : Reason)
    → HasRacers h → HasParties h (length rs) (length ss) → (r ≡ refusal.OtherRace) ⊎ Any (λ m. SaysNoParty m r) rs → IsPauseRefused h rs ss r
of_racers h rs ss r out as_many (inl other) = inr (inr (inr (out, as_many, inr (inr other))))
of_racers h rs ss r out as_many (inr none) = inr (inr (inr (out, as_many, inl none)))

of_sweepers : (h : Option RacingHeap) (rs : List (Option RacerParty)) (ss : List (Option SweeperParty)) (r : Reason)
    → HasRacers h → HasParties h (length rs) (length ss) → (r ≡ refusal.OtherRace) ⊎ Any (λ m. SaysNoParty m r) ss → IsPauseRefused h rs ss r
of_sweepers h rs ss r out as_many (inl other) = inr (inr (inr (out, as_many, inr (inr other))))
of_sweepers h rs ss r out as_many (inr none) = inr (inr (inr (out, as_many, inr (inl none))))

pub returns-in_err-check_parties-clause-why : goal.returns-in_err-check_parties-clause-why
returns-in_err-check_parties-clause-why c =
    let h = c.args.handle.now.value in
    let rs = held_racers c.args.racers.now in
    let ss = held_sweepers c.args.sweepers.now in
    let out : HasRacers h = first_of (search rules, grind (arith, common_steps)) in
    let as_many : HasParties h (length rs) (length ss) = first_of (search rules, grind (arith, common_steps)) in
    passed (λ r. (r ≡ refusal.OtherRace) ⊎ Any (λ m. SaysNoParty m r) rs) (IsPauseRefused h rs ss) c.check_parties.result _ _ c.in_err-check_parties.was c.check_parties.ensures.why c.from_residual.ensures.1
    (of_racers h rs ss _ out as_many)

pub returns-in_err-check_parties-2-clause-why : goal.returns-in_err-check_parties-2-clause-why
returns-in_err-check_parties-2-clause-why c =
    let h = c.args.handle.now.value in
    let rs = held_racers c.args.racers.now in
    let ss = held_sweepers c.args.sweepers.now in
    let out : HasRacers h = first_of (search rules, grind (arith, common_steps)) in
    let as_many : HasParties h (length rs) (length ss) = first_of (search rules, grind (arith, common_steps)) in
    passed (λ r. (r ≡ refusal.OtherRace) ⊎ Any (λ m. SaysNoParty m r) ss) (IsPauseRefused h rs ss) c.check_parties-2.result _ _ c.in_err-check_parties-2.was c.check_parties-2.ensures.why c.from_residual-in_err-check_parties-2.ensures.1
    (of_sweepers h rs ss _ out as_many)

pub replace_with-requires : goal.replace_with-requires
replace_with-requires c =
    let b = c.in-Racing-heap.under_way in
    let race = arc_value b.race in
    let rs = c.check_parties.new.handles in
    let ss = c.check_parties-2.new.handles in
    let of : All (BelongsTo race) (held_racers rs) = first_of (search rules, grind (arith, common_steps)) in
    let too : All (BelongsTo race) (held_sweepers ss) = first_of (search rules, grind (arith, common_steps)) in
    let racers : length rs ≡ b.racers.count = first_of (search rules, grind (arith, common_steps)) in
    let sweepers : length ss ≡ b.sweepers.count = first_of (search rules, grind (arith, common_steps)) in (
      first_of (search rules, grind (arith, common_steps)),
      subst (λ (n : ℕ). FillRoom race n c.gather.new.boxes c.gather.new.roles) racers (c.gather.ensures.parties race of),
      subst (λ (n : ℕ). FillRoom race n c.gather-2.new.boxes c.gather-2.new.roles) sweepers (c.gather-2.ensures.parties race too),
    )

pub returns-clause-paused : goal.returns-clause-paused
returns-clause-paused c =
    let race = arc_value c.in-Racing-heap.under_way.race in
    let rs = held_racers c.args.racers.now in
    let ss = held_sweepers c.args.sweepers.now in
    let came = c.gather.ensures in
    let too = c.gather-2.ensures in
    let racers = c.check_parties.ensures.same in
    let sweepers = c.check_parties-2.ensures.same in
    let given = came.roles ∙ ap (map role_in) racers in
    let lent = too.roles ∙ ap (map role_in) sweepers in
    let paused = subst (λ (x : List View × List View × List (List ℕ)). OfPaused (Some c.replace_with.new.dest) (IsPauseOf race x.0 x.1 x.2)) (λ i. (
      seen_alike role_in racer_view (role_view racer_view) (λ r. refl) rs _ given i,
      seen_alike role_in sweeper_view (role_view sweeper_view) (λ w. refl) ss _ lent i,
      seen_alike role_in racer_log log_of (λ r. refl) rs _ given i,
    )) c.replace_with.ensures.0 in
    record {
      paused = rw (c.in-Some.ensures.lent, c.in-Racing-heap.is) paused;
      race = first_of (search rules, grind (arith, common_steps));
      counts = c.replace_with.ensures.1.1.1.0 ∙ ((λ i. (came.counts i, too.counts i)) ∙ (λ i. (map counts_of (racers i), map counts_of (sweepers i))));
      idle = first_of (search rules, grind (arith, common_steps));
      parties = first_of (search rules, grind (arith, common_steps));
      like = first_of (search rules, grind (arith, common_steps));
      closed = first_of (search rules, grind (arith, common_steps));
    }
