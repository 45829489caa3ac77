-- A trace that is read to its end before its scripts are run: what that comes to, and its whole output.
use Rattle.std.specs.Prelude.{◌≡◌, ◌≢◌, ◌≤◌, ◌⊎◌}
use Rattle.g1_replay.specs.{ℕ, List, [], refl, subst, sym, arith, Option, Some, None, inl, inr, ⊎_elim, true, false, Bool, Result, Ok, Err, All, Appends, Shape, Command, Mode, Options, TraceFault, puts_then, End, Stop, Fault, NoMemory, Scene, Follows, keeping, AreScripts, stores_in, sum_by, count_by-le-length, is_store_command, Prints, written_by, PrintsSome, IsEndWritten, ending_line, IsReadStop, Reads, place, IsRunEnd, IsScriptReplayed, Scripting, scripting, ran_in, CrewRan, Spot, spot, with_heap, streams, IfSome}
use Rattle.g1_trace.specs.declared.mode.Mode.TheVariants as mode
use Rattle.g1_replay.specs.Scripted.{Scripted}
use Rattle.g1_replay.specs.declared.scripts.Scripts.{Scripts}
use Rattle.g1_replay.proofs.CrewScriptLemmas.{kept_whole}
use Rattle.g1_replay.proofs.EndLemmas.{ReadsAs, all_done, replayed, written_as}
use Rattle.g1_replay.proofs.PlayingLemmas.{reads_behind}

-- a trace that was not read to its end
pub scripts_unread : (s : Scripting) (old new : Spot) (heap : Option Shape) (cs : List Command) (out out' : Option (List ℕ)) (stop : Stop) → IsReadStop stop ⊎ (stop ≡ NoMemory) → Reads s.dialect (with_heap None old) (with_heap heap new) cs (Err stop) → Prints {V = Bool} out out' (Err stop) [] → PrintsSome (Scripted s old new) out out' (Err stop)
scripts_unread s old new heap cs out out' stop h read w = ([], inl (record { heap = heap; commands = cs; ends = h; read = read; silent = refl }), written_as out out' (Err stop) [] w)

-- a header, and lines behind it, to what stopped the reading or to the end
module _ (s : Scripting) (n n' : ℕ) (a b : Scene Scripts) (rd rd1 rd' : Option (List ℕ)) (of : a.commands.dialect ≡ s.dialect) (at_end : b.commands.source.now.number ≡ n') (head : Reads s.dialect (place None n rd) (place (Some a.commands.layout) a.commands.source.now.number rd1) [] (Ok true)) where
  pub lines_stop : (stop : Stop) → IsReadStop stop ⊎ (stop ≡ NoMemory) → Follows keeping.deeds a b (rd1, rd') (Err stop) → PrintsSome (Scripted s (spot n rd) (spot n' rd')) a.at.written b.at.written (Err stop)
  lines_stop stop h f =
      scripts_unread s (spot n rd) (spot n' rd') (Some a.commands.layout) f.commands a.at.written b.at.written stop h (reads_behind keeping.deeds s.dialect n n' a b rd rd1 rd' (Err stop) of at_end head f) (subst (λ (x : List ℕ). Prints {V = Bool} a.at.written b.at.written (Err stop) x) f.done.made.1 f.done.written)

  module _ (empty : All (λ steps. steps.items ≡ []) a.at.state.steps.items) (f : Follows keeping.deeds a b (rd1, rd') (Ok false)) where
    kept : AreScripts (λ steps. steps.items) b.at.state.steps.items f.commands
    kept = subst (AreScripts (λ steps. steps.items) b.at.state.steps.items) (sym (all_done f.commands f.done.done f.done.undone f.done.all f.done.stopped)) (kept_whole (λ steps. steps.items) a.at.state.steps.items b.at.state.steps.items f.done.done empty f.done.made.0)

    -- the scripts have fewer stores than the trace has lines
    pub scripts_few : sum_by (λ steps. stores_in steps.items) b.at.state.steps.items ≤ n'
    scripts_few = let most = count_by-le-length is_store_command f.commands in omega (arith, most, kept.stored, f.read.counted, at_end)

    pub scripts_run : (out' : Option (List ℕ)) (r : Result (Unit {0}) Stop) → ((cs : List Command) → AreScripts (λ steps. steps.items) b.at.state.steps.items cs → PrintsSome (s.ran a.commands.layout cs) b.at.written out' r) → PrintsSome (Scripted s (spot n rd) (spot n' rd')) a.at.written out' r
    scripts_run out' r ran =
        let t = ran f.commands kept in
        (t.0, inr (record { layout = a.commands.layout; commands = f.commands; read = reads_behind keeping.deeds s.dialect n n' a b rd rd1 rd' (Ok false) of at_end head f; ran = t.1 }), puts_then a.at.written b.at.written out' (written_by r) [] t.0 (subst (λ (x : List ℕ). Appends a.at.written b.at.written x) f.done.made.1 f.done.written) t.2)

-- but for a race, a crew runs them
pub by_crew : (m : Mode) (o : Options) (l : Shape) (cs : List Command) (r : Result (Unit {0}) Stop) (out out' : Option (List ℕ)) → m ≢ mode.Race → PrintsSome (CrewRan o l cs) out out' r → PrintsSome (ran_in m o l cs) out out' r
by_crew mode.Race o l cs r out out' ne t = absurd (ne refl)
by_crew m o l cs r out out' ne t = t

pub scripts_replayed : (m : Mode) (o : Options) (first n : ℕ) (rd rd' out out1 out' : Option (List ℕ)) (r : Result (Unit {0}) Stop) (end : End) → first ≡ 1 → PrintsSome (Scripted (scripting m o) (spot first rd) (spot n rd')) out out1 r → IsEndWritten out1 out' r (ending_line n r) end
    → IsScriptReplayed (scripting m o) (streams rd out) (streams rd' out') end
scripts_replayed m o first n rd rd' out out1 out' r end one t w = replayed _ whole refused n rd' out out' t.0 first rd out1 r end one t.1 t.2 w
  where
    ends : (m : Mode) (l : Shape) (cs : List Command) (r : Result (Unit {0}) Stop) (text : List ℕ) → ran_in m o l cs r text → IsRunEnd r
    ends mode.Race l cs r text t = t.0
    ends m l cs r text t = t.ended.ends

    whole : ReadsAs (scripting m o).dialect (Scripted (scripting m o)) (Ok tt) (λ heap cs text. IfSome heap (λ l. ran_in m o l cs (Ok tt) text))
    whole old new text (inl t) = absurd t.ends
    whole old new text (inr t) = (Some t.layout, t.commands, t.read, t.ran)

    refused : (f : TraceFault) → ReadsAs (scripting m o).dialect (Scripted (scripting m o)) (Err (Fault f)) (λ _ _ text. text ≡ [])
    refused f old new text (inl t) = (t.heap, t.commands, t.read, t.silent)
    refused f old new text (inr t) = absurd (⊎_elim (λ x. x) (λ x. x) (ends m t.layout t.commands (Err (Fault f)) text t.ran))
