use Rattle.std.specs.Prelude.{◌≡◌, ◌+◌}
use Rattle.g1_replay.specs.{◌∙◌, ℕ, length, ap, arith, subst, Shape, History, BookTerms, layout_in, NoMemory, CrewDrained, crew_book, AreOfCallers, HasCome, IsScriptFor, PrintsSome}
use Rattle.g1_replay.proofs.{err_is, not_started, crew_ran}
use Rattle.g1_replay.proofs.JobLemmas.{all_stored, come_for}
use Rattle.g1_replay.proofs.crews.play.run_scripts.Goals as goal

pub returns-in_err-book : goal.returns-in_err-book
returns-in_err-book g c commands many = rw (err_is _ c.from_residual.ensures.1) (not_started commands c.args.options.now c.args.layout NoMemory (g.W.Write.contents c.args.output.now) tt)

pub returns-in_err-ledgers : goal.returns-in_err-ledgers
returns-in_err-ledgers g c commands many = rw (err_is _ c.from_residual-in_err-ledgers.ensures.1) (not_started commands c.args.options.now c.args.layout NoMemory (g.W.Write.contents c.args.output.now) tt)

pub returns-in_err-book-2 : goal.returns-in_err-book-2
returns-in_err-book-2 g c commands many = rw (err_is _ c.from_residual-in_err-book-2.ensures.1) (not_started commands c.args.options.now c.args.layout _ (g.W.Write.contents c.args.output.now) c.in_err-book-2.ensures.stops)

pub returns : goal.returns
returns g c commands are =
    let o = c.args.options.now in
    let same : layout_in c.in_ok-book-2.book ≡ c.args.layout = ap (λ (t : BookTerms). t.layout) c.in_ok-book-2.ensures.terms ∙ ap (λ (h : History). layout_in h) c.in_ok-book.ensures in
    let limit : c.in_ok-book.book.machine.settings.limit ≡ o.config.limit = ap (λ (h : History). h.machine.settings.limit) c.in_ok-book.ensures in
    let all : length c.args.scripts.items ≡ o.mutators = omega (arith, c.requires.count, c.args.scripts.ok.0) in
    let came = come_for (λ steps. steps.items) o c.args.scripts.items commands _ _ _ _ are all c.in_ok-book-2.ensures.came in
    let made : AreOfCallers o commands c.in_ok-book-2.refused c.in_ok-book-2.book.entries =
    subst (λ (n : ℕ). HasCome (IsScriptFor o commands) (o.mutators + o.refiners) n c.in_ok-book-2.refused c.in_ok-book-2.book.entries) limit came in
    crew_ran commands o c.args.layout c.in_ok-book-2.refused c.in_ok-book-2.book.entries _ _ _ made
    (subst (λ (l : Shape). PrintsSome (CrewDrained (crew_book o.history l c.in_ok-book-2.refused c.in_ok-book-2.book.entries) commands) (g.W.Write.contents c.args.output.now) (g.W.Write.contents c.put_crew.new.output) c.put_crew.result) same
    (c.put_crew.ensures commands (λ none. c.in_ok-book-2.ensures.stores ∙ all_stored (λ steps. steps.items) o.rounds c.args.scripts.items _ _ _ _ c.in_ok-book-2.ensures.came none (omega (arith, all)) ∙ are.stored)))
