-- From what was read and played to the text of a permitted run.
use Rattle.std.specs.Prelude.{◌≡◌, ◌≢◌, ◌≤◌, ◌++◌, ◌⊎◌}
use Rattle.g1_replay.specs.{◌∙◌, Bool, ℕ, List, [], refl, length, sym, ap, subst, arith, Option, Some, None, true, Result, Ok, Err, IfErr, IfSome, IfNone, Shape, opening, Entry, IsPermitted, History, IsHistory, BookTerms, layout_in, Command, Options, Stop, NoMemory, BookFull, NoThread, Told, PrintsSome, written_by, puts_none, ⊎_elim, end_met, AreSetBy, entries_of, IsNewMachinery, Machinery, stepping, Scene, Follows, inl, inr, MayStop, IsReadStop, Reads, place, Spot, spot, with_heap, dialect_in, Run}
use Rattle.g1_replay.proofs.EndLemmas.{written_as}
use Rattle.g1_replay.proofs.PlayingLemmas.{none_undone, reads_behind}
use Rattle.g1_replay.proofs.SteppedLemmas.{stepped_played}

abbrev no_command : List Command
no_command = []

no_commands : (heap : Option Shape) → IfNone heap (no_command ≡ [])
no_commands None = refl
no_commands (Some l) = tt

nothing_permitted : (heap : Option Shape) → IfSome heap (λ l. IsPermitted (opening l) (entries_of []))
nothing_permitted None = tt
nothing_permitted (Some l) = tt

-- nothing was done
pub told_nothing : (o : Options) (old new : Spot) (out : Option (List ℕ)) (heap : Option Shape) (stop : Stop) → stop ≢ NoThread → stop ≢ BookFull → Reads (dialect_in Run o) (with_heap None old) (with_heap heap new) [] (Err stop) → PrintsSome (Told o old new) out out (Err stop)
told_nothing o old new out heap stop no_thread no_book read = (
  [],
  record {
    heap = heap;
    commands = [];
    done = [];
    undone = [];
    ends = λ e. let same : stop ≡ NoThread = cc in no_thread same;
    read = read;
    all = refl;
    stopped = none_undone {V = Bool} (Err stop) (λ e. let same : stop ≡ BookFull = cc in no_book same);
    unopened = no_commands heap;
    run = record { pieces = []; walked = tt; set = tt; unopened = no_commands heap; permitted = nothing_permitted heap; said = refl; stepped = inl refl };
    within = omega arith;
    full = λ e. let same : stop ≡ BookFull = cc in absurd (no_book same);
  },
  puts_none out (written_by {V = Unit {0}} (Err stop)),
)

-- a trace without a header
pub head_told : (o : Options) (old new : Spot) (out : Option (List ℕ)) (stop : Stop) → IsReadStop stop → Reads (dialect_in Run o) (with_heap None old) (with_heap None new) [] (Err stop) → PrintsSome (Told o old new) out out (Err stop)
head_told o old new out stop h read = told_nothing o old new out None stop (λ e. subst IsReadStop e h) (λ e. subst IsReadStop e h) read

-- a header, and no memory for what it asks for
pub unopened_told : (o : Options) (old new : Spot) (l : Shape) (out : Option (List ℕ)) → Reads (dialect_in Run o) (with_heap None old) (with_heap (Some l) new) [] (Ok true) → PrintsSome (Told o old new) out out (Err NoMemory)
unopened_told o old new l out read =
    told_nothing o old new out (Some l) NoMemory (λ e. cc) (λ e. cc) (record { lines = read.lines; rest = read.rest; consumed = read.consumed; passed = read.passed; met = read.met; counted = read.counted })

-- neither a line nor a command starts a thread
starts_none : (r : Result (Unit {0}) Stop) → IfErr r (λ stop. IsReadStop stop ⊎ MayStop stop) → r ≢ Err NoThread
starts_none r h e = ⊎_elim (λ x. x) (λ x. x) (subst (λ r. IfErr r (λ stop. IsReadStop stop ⊎ MayStop stop)) e h)

-- what was read and played behind the header is the text of a permitted run, by the steps of a new machinery
pub played_told : (o : Options) (n n' : ℕ) (from to : Scene Machinery) (rd rd1 rd' : Option (List ℕ)) (r : Result (Unit {0}) Stop)
    → from.commands.dialect ≡ dialect_in Run o → to.commands.source.now.number ≡ n' → IsNewMachinery from.commands.layout o from.at.state → Reads (dialect_in Run o) (place None n rd) (place (Some from.commands.layout) from.commands.source.now.number rd1) [] (Ok true)
    → Follows stepping.deeds from to (rd1, rd') (end_met r) → IfErr r (λ stop. IsReadStop stop ⊎ MayStop stop) → IsHistory to.at.state.book
    → PrintsSome (Told o (spot n rd) (spot n' rd')) from.at.written to.at.written r
played_told o n n' from to rd rd1 rd' r is_run at_end opened head f stops h =
    let a = from.commands in
    let old = from.at.state in
    let new = to.at.state in
    let is = opened.book in
    let p = stepped_played old new f.done.done f.done.undone f.done.text (opened.capacity ∙ sym (ap (λ (h : History). h.machine.settings.limit) is)) f.done.made in
    let es : new.book.entries ≡ entries_of p.pieces = p.grows.entries ∙ ap (λ (h : History). h.entries ++ entries_of p.pieces) is in
    let most : new.book.limit ≡ o.history = ap (λ (t : BookTerms). t.limit) p.grows.terms ∙ ap (λ (h : History). h.limit) is in
    let shape : layout_in new.book ≡ a.layout = ap (λ (t : BookTerms). t.layout) p.grows.terms ∙ ap layout_in is in (
      f.done.text,
      record {
        heap = Some a.layout;
        commands = f.commands;
        done = f.done.done;
        undone = f.done.undone;
        ends = starts_none r stops;
        read = reads_behind stepping.deeds (dialect_in Run o) n n' from to rd rd1 rd' (end_met r) is_run at_end head f;
        all = f.done.all;
        stopped = f.done.stopped;
        unopened = tt;
        run = record {
          pieces = p.pieces;
          walked = p.walked;
          set = subst (λ (h : History). AreSetBy h.machine.settings f.done.done p.pieces) is p.set;
          unopened = tt;
          permitted = subst (λ (xs : List Entry). IsPermitted (opening a.layout) xs) es (subst (λ (s : Shape). IsPermitted (opening s) new.book.entries) shape h.run);
          said = p.said;
          stepped = inr (record { layout = a.layout; first = old; last = new; of = refl; opened = opened; steps = f.done.made }, es);
        };
        within = subst (λ (xs : List Entry). length xs ≤ o.history) es (subst (λ (k : ℕ). length new.book.entries ≤ k) most h.within);
        full = λ e. ap (λ (xs : List Entry). length xs) (sym es) ∙ f.done.filled (ap end_met e) ∙ most;
      },
      written_as from.at.written to.at.written r f.done.text f.done.written,
    )
