use Rattle.g1_replay.specs.{[], refl, rules, arith, inl, inr, None, Consumes-nil, Appends-nil, puts_none, written_by, Bool, Err, scripting}
use Rattle.g1_replay.proofs.{err_is, by_crew, scripts_few, scripts_run, lines_stop, scripts_unread}
use Rattle.g1_replay.proofs.scripted.play_scripts.Goals as goal

pub returns-in_err-scripts : goal.returns-in_err-scripts
returns-in_err-scripts g c = rw (err_is _ c.from_residual.ensures.1) (scripts_unread (scripting c.args.mode c.args.options.now) _ _ None [] _ _ _ (inr refl) (record { lines = []; rest = []; consumed = Consumes-nil _; passed = λ x. refl; met = refl; counted = omega arith }) (Appends-nil _))

pub returns-in_err-layout : goal.returns-in_err-layout
returns-in_err-layout g c = rw (err_is _ c.from_residual-in_err-layout.ensures.1) (scripts_unread (scripting c.args.mode c.args.options.now) _ _ None [] _ _ _ (inl c.in_err-layout.ensures.stops) (c.in_err-layout.ensures.read _) (puts_none _ (written_by {V = Bool} (Err _))))

pub returns-in_err-play_all : goal.returns-in_err-play_all
returns-in_err-play_all g c = rw (err_is _ c.from_residual-in_err-play_all.ensures.1)
    (let same = c.in_err-play_all.ensures.same.0 in lines_stop (scripting c.args.mode c.args.options.now) _ _ _ _ _ _ _ refl (search rules) (c.in_ok-layout.ensures.read _) _ c.in_err-play_all.ensures.stops c.in_err-play_all.ensures.followed)

pub race_scripts-requires-clause-few : goal.race_scripts-requires-clause-few
race_scripts-requires-clause-few g c =
    let same = c.in_ok-play_all.ensures.same.0 in
    let few = scripts_few (scripting c.args.mode c.args.options.now) _ _ _ _ _ _ _ refl refl (c.in_ok-layout.ensures.read _) c.in_ok-scripts.ensures.none c.in_ok-play_all.ensures.followed in
    omega (arith, few)

pub returns-in-Race : goal.returns-in-Race
returns-in-Race g c =
    let same = c.in_ok-play_all.ensures.same.0 in
    scripts_run (scripting c.args.mode c.args.options.now) _ _ _ _ _ _ _ refl (search rules) (c.in_ok-layout.ensures.read _) c.in_ok-scripts.ensures.none c.in_ok-play_all.ensures.followed _ _
    (λ cs are. rw c.in-Race.is (c.race_scripts.ensures cs are))

pub returns-in_default : goal.returns-in_default
returns-in_default g c =
    let same = c.in_ok-play_all.ensures.same.0 in
    scripts_run (scripting c.args.mode c.args.options.now) _ _ _ _ _ _ _ refl (search rules) (c.in_ok-layout.ensures.read _) c.in_ok-scripts.ensures.none c.in_ok-play_all.ensures.followed _ _
    (λ cs are. by_crew c.args.mode c.args.options.now _ cs _ _ _ c.in_default.not-Race (c.run_scripts.ensures cs are))
