use Rattle.std.proofs.Common.{Vec}
use Rattle.std.specs.Global.{Global}
use Rattle.g1_replay.specs.{◌∙◌, List, ap, NoMemory, sum_by, Machine, Step, stores_in}
use Rattle.g1_replay.proofs.{err_is, race_stopped, race_written}
use Rattle.g1_replay.proofs.races.play.race_scripts.Goals as goal

pub returns-in_err-opened : goal.returns-in_err-opened
returns-in_err-opened g c = λ commands of.
    rw (err_is _ c.from_residual.ensures.1) (race_stopped c.args.options.now.mutators c.args.layout commands NoMemory (g.W.Write.contents c.args.output.now) tt)

pub returns-in_err-closed : goal.returns-in_err-closed
returns-in_err-closed g c = λ commands of.
    rw (err_is _ c.from_residual-in_err-closed.ensures.1) (race_stopped c.args.options.now.mutators c.args.layout commands _ (g.W.Write.contents c.args.output.now) c.in_err-closed.ensures.stops)

pub returns-in_err-core : goal.returns-in_err-core
returns-in_err-core g c = λ commands of.
    rw (err_is _ c.from_residual-in_err-core.ensures.1) (race_stopped c.args.options.now.mutators c.args.layout commands NoMemory (g.W.Write.contents c.args.output.now) tt)

pub put_left-requires : goal.put_left-requires
put_left-requires g c = ap (λ (m : Machine). m.state.table.layout) c.in_ok-core.ensures ∙ c.in_ok-closed.ensures.layout ∙ c.in_ok-opened.ensures.layout

pub returns : goal.returns
returns g c = λ commands of.
    let same = c.in_ok-closed.ensures.layout ∙ c.in_ok-opened.ensures.layout in
    let many = c.count_stores-stores.ensures ∙ (ap (λ (steps : List (Vec Step Global)). sum_by (λ script. stores_in script.items) steps) c.deref.ensures.value ∙ of.stored) in
    rw (← same) (race_written c.in_ok-closed.closed c.args.options.now.mutators commands c.in_ok-core.core c.put_left.new.left _ _ _ c.put_left.result (ap (λ (m : Machine). m.state.table) c.in_ok-core.ensures) (c.in_ok-closed.ensures.left commands of) c.put_left.ensures.stops many (rw (← same) at c.put_left.ensures.drained))
