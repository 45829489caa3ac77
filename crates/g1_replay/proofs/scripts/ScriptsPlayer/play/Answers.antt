use Rattle.std.specs.Prelude.{◌<◌, ◌∷◌, ◌++◌}
use Rattle.g1_replay.specs.{◌∙◌, ℕ, Option, Some, None, Appends-nil, Err, NoMemory, Ok, List, [], All, length, refl, sym, subst, ap, append-nil, true, arith, All-push, All-set, slot_count, StepFits, Step, asked_calls, keeping}
use Rattle.g1_replay.proofs.{err_is, kept_at, kept_none, asks_one, asked_none, asked_own, asked_other, asked_fits, stores_none, stores_one, one_done, one_undone}
use Rattle.g1_replay.proofs.scripts.ScriptsPlayer.play.Goals as goal
use Rattle.g1_replay.proofs.scripts.ScriptsPlayer.play.Goals.{In-Some}

pub returns-in_default-clause-played : goal.returns-in_default-clause-played
returns-in_default-clause-played g c =
    one_done keeping.deeds c.args.command _ _ [] (Ok true)
    (kept_none (λ script. script.items) c.args.self.now.steps.items (c.args.command ∷ []) (λ k. asks_one k c.args.command None (asked_none c.args.command k (sym c.in_default.ensures))) (stores_none c.args.command (sym c.in_default.ensures)), refl)
    refl (λ e. cc) (Appends-nil _)

-- the call is of one of the mutators, and fits the heap
fits : (g : _) (c : In-Some g) → (c.in-Some.by < length c.args.self.now.steps.items) × StepFits (slot_count c.args._layout) true c.in-Some._step
fits g c =
    let fits = asked_fits c.args._layout c.args._dialect.mutators c.args.command (c.in-Some.by, c.in-Some._step) c.requires.command (sym c.in-Some.ensures) in
    (omega (arith, fits.0, c.requires.takes.0, c.args.self.now.steps.ok.0), fits.1)

pub returns-in_err-append-clause-played : goal.returns-in_err-append-clause-played
returns-in_err-append-clause-played g c =
    let fits = fits g (goal.at.returns-in_err-append-clause-played g c).In-Some in
    rw (err_is _ c.from_residual.ensures.1) (one_undone keeping.deeds c.args.command _ _ (Err NoMemory) (
      kept_at (λ script. script.items) c.args.self.now.steps.items c.in-Some.by c.append.new.steps c.index_mut.result.now [] [] fits.0 c.index_mut.ensures.value
          (c.in_err-append.ensures.err ∙ sym (append-nil c.index_mut.result.now.items)) refl (λ k other. refl) refl,
      refl,
    ) (omega arith) (λ e. cc) (Appends-nil _))

pub returns-clause-played : goal.returns-clause-played
returns-clause-played g c =
    let fits = fits g (goal.at.returns-clause-played g c).In-Some in
    let asked = sym c.in-Some.ensures in
    one_done keeping.deeds c.args.command _ _ [] (Ok true) (
      kept_at (λ script. script.items) c.args.self.now.steps.items c.in-Some.by c.append.new.steps c.index_mut.result.now (c.args.command ∷ []) (c.in-Some._step ∷ []) fits.0 c.index_mut.ensures.value
          (c.in_ok-append.ensures.ok ∙ ap (λ (o : Option (ℕ × Step)). c.index_mut.result.now.items ++ asked_calls o) asked)
          (asks_one c.in-Some.by c.args.command (Some c.in-Some._step) (asked_own c.args.command _ asked))
          (λ k other. asks_one k c.args.command None (asked_other c.args.command _ k asked other)) (stores_one c.args.command _ asked),
      refl,
    ) refl (λ e. cc) (Appends-nil _)

pub returns-clause-takes : goal.returns-clause-takes
returns-clause-takes g c =
    let fits = fits g (goal.at.returns-clause-takes g c).In-Some in
    let Fits : Step → Type 0 = StepFits (slot_count c.args._layout) true in
    let was = c.requires.takes.1 c.in-Some.by c.index_mut.result.now fits.0 in
    let grown = c.in_ok-append.ensures.ok ∙ ap (λ (o : Option (ℕ × Step)). c.index_mut.result.now.items ++ asked_calls o) (sym c.in-Some.ensures) ∙ ap (λ (ss : List Step). ss ++ c.in-Some._step ∷ []) (ap (λ script. script.items) c.index_mut.ensures.value) in (
      c.requires.takes.0,
      All-set (λ script. All Fits script.items) c.args.self.now.steps.items c.in-Some.by c.append.new.steps
          (subst (All Fits) (sym grown) (All-push Fits _ c.in-Some._step was fits.1)) c.requires.takes.1,
    )
