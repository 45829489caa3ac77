-- Lines that were played: one, and one after another.
use Rattle.std.specs.Prelude.{◌≡◌, ◌≢◌, ◌+◌, ◌∷◌, ◌++◌, ◌<◌, ◌≤◌, ◌⊎◌}
use Rattle.g1_replay.specs.{◌∙◌, ℕ, List, [], refl, inl, inr, sym, ap, subst, append_assoc, append-nil, take, drop, length, Option, Some, None, true, arith, Bool, Result, Ok, Err, IfErr, IsErrAnd, err_from_is_err_and, OnOk, Consumes, Appends, Puts, Refusal, stop_of, IsSaid, take-take, drop-take, take-append-drop, Shape, Command, Dialect, puts_none, puts_then, Stop, Fault, NoMemory, BookFull, WriteFailed, IsUndone, Does, MayStop, Deeds, At, Scene, Plays, Follows, FollowsFront, PlaysFirst, Prints, written_by, IsReadStop, IsOfTrace, Reads, place, ReadsBehind, Commands, more_may_come}
use Rattle.g1_history.specs.declared.refusal.Refusal.TheVariants as refusal
use Rattle.g1_replay.proofs.ReadingLemmas.{reads_none, reads_then}

-- what the exit of a `?` returns
pub err_is : {T E : Type 0} {e : E} (r : Result T E) → IsErrAnd r (λ y. y ≡ e) → r ≡ Err e
err_is r h = let p = err_from_is_err_and r h in p.1 ∙ ap Err p.2

-- nothing to be done
pub none_undone : {V : Type 0} (r : Result V Stop) → r ≢ Err BookFull → IsUndone r []
none_undone (Err NoMemory) h = omega arith
none_undone (Err BookFull) h = absurd (h refl)
none_undone (Err (Fault f)) h = refl
none_undone r h = refl

-- What came of a command, by its answer.
abbrev pub CameTo : {S : Type 0} → Deeds S → Command → S → Result (List ℕ) Refusal → S → Type 0
CameTo deeds c old (Ok text) new = deeds.did old (c ∷ []) [] text new
CameTo deeds c old (Err why) new = deeds.did old [] (c ∷ []) [] new × (why ≡ refusal.BookFull → deeds.full new)

-- what stops a command that was played
pub said_stops : (said : Result (List ℕ) Refusal) (out out' : Option (List ℕ)) (r : Result (Unit {0}) Stop) → IsSaid said out out' r → IfErr r MayStop
said_stops (Ok text) out out' r (inl e, w) = subst (λ (s : Result (Unit {0}) Stop). IfErr s MayStop) (sym e) tt
said_stops (Ok text) out out' r (inr e, w) = subst (λ (s : Result (Unit {0}) Stop). IfErr s MayStop) (sym e) tt
said_stops (Err why) out out' r s = subst (λ (s : Result (Unit {0}) Stop). IfErr s MayStop) (sym s.0) (may_refuse why)
  where
    may_refuse : (why : Refusal) → MayStop (stop_of why)
    may_refuse refusal.NoMemory = tt
    may_refuse refusal.BookFull = tt

-- bytes that were taken one part after the other
consumes_apart : (a c : Option (List ℕ)) (xs ys : List ℕ) → Consumes a c (xs ++ ys) → (b : Option (List ℕ)) × Consumes a b xs × Consumes b c ys
consumes_apart None c xs ys p = (None, tt, tt)
consumes_apart (Some old) None xs ys p = absurd p
consumes_apart (Some old) (Some new) xs ys p = (Some (ys ++ new), p ∙ append_assoc xs ys new, refl)

take_then : (n m : ℕ) (xs : List ℕ) → take n xs ++ take m (drop n xs) ≡ take (n + m) xs
take_then n m xs =
    ap (λ w. w ++ take m (drop n xs)) (sym (take-take n (n + m) xs (omega arith))) ∙ ap (λ w. take n (take (n + m) xs) ++ w) (sym (drop-take n m xs)) ∙ take-append-drop n (take (n + m) xs)

module _ {S : Type 0} (deeds : Deeds S) where
  does_none : (a : At S) (r : Result Bool Stop) → (r ≡ Err BookFull → ⊥) → Does deeds [] a a r
  does_none a r no_book = record { done = []; undone = []; all = refl; stopped = none_undone r no_book; text = []; made = deeds.none a.state; filled = λ e. absurd (no_book e); written = puts_none a.written (written_by r) }

  -- one command that was done, and one that was not
  pub one_done : (c : Command) (old new : At S) (text : List ℕ) (r : Result Bool Stop) → deeds.did old.state (c ∷ []) [] text new.state → IsUndone r [] → (r ≡ Err BookFull → ⊥) → Prints old.written new.written r text → Does deeds (c ∷ []) old new r
  one_done c old new text r made none no_book w = record { done = c ∷ []; undone = []; all = refl; stopped = none; text = text; made = made; filled = λ e. absurd (no_book e); written = w }

  pub one_undone : (c : Command) (old new : At S) (r : Result Bool Stop) → deeds.did old.state [] (c ∷ []) [] new.state → IsUndone r (c ∷ []) → (r ≡ Err BookFull → deeds.full new.state) → Prints old.written new.written r [] → Does deeds (c ∷ []) old new r
  one_undone c old new r made undone filled w = record { done = []; undone = c ∷ []; all = refl; stopped = undone; text = []; made = made; filled = filled; written = w }

  -- a command whose answer was written, or a beginning of it, or that was refused
  answered : (c : Command) (old new : At S) (text : List ℕ) (r : Result (Unit {0}) Stop) → deeds.did old.state (c ∷ []) [] text new.state → (r ≡ Ok tt) ⊎ (r ≡ Err WriteFailed) → Puts old.written new.written (written_by r) text → Does deeds (c ∷ []) old new (more_may_come r)
  answered c old new text r made (inl e) w =
      subst (λ (s : Result (Unit {0}) Stop). Does deeds (c ∷ []) old new (more_may_come s)) (sym e) (one_done c old new text (Ok true) made refl (λ e. cc) (subst (λ (s : Result (Unit {0}) Stop). Puts old.written new.written (written_by s) text) e w))
  answered c old new text r made (inr e) w =
      subst (λ (s : Result (Unit {0}) Stop). Does deeds (c ∷ []) old new (more_may_come s)) (sym e) (one_done c old new text (Err WriteFailed) made refl (λ e. cc) (subst (λ (s : Result (Unit {0}) Stop). Puts old.written new.written (written_by s) text) e w))

  refused_by : (c : Command) (old new : At S) (why : Refusal) → CameTo deeds c old.state (Err why) new.state → Appends old.written new.written [] → Does deeds (c ∷ []) old new (Err (stop_of why))
  refused_by c old new refusal.NoMemory came w = one_undone c old new (Err NoMemory) came.0 (omega arith) (λ e. cc) w
  refused_by c old new refusal.BookFull came w = one_undone c old new (Err BookFull) came.0 (c, refl) (λ e. came.1 refl) w

  pub does_said : (c : Command) (old new : At S) (said : Result (List ℕ) Refusal) (r : Result (Unit {0}) Stop) → CameTo deeds c old.state said new.state → IsSaid said old.written new.written r → Does deeds (c ∷ []) old new (more_may_come r)
  does_said c old new (Ok text) r came s = answered c old new text r came s.0 s.1
  does_said c old new (Err why) r came s = subst (λ (s : Result (Unit {0}) Stop). Does deeds (c ∷ []) old new (more_may_come s)) (sym s.0) (refused_by c old new why came s.1)

  -- commands, and then more
  does_then : (a b c : At S) (cs ds : List Command) (r : Result Bool Stop) → Does deeds cs a b (Ok true) → Does deeds ds b c r → Does deeds (cs ++ ds) a c r
  does_then a b c cs ds r p q = record {
    done = p.done ++ q.done;
    undone = q.undone;
    all = ap (λ w. w ++ ds) (p.all ∙ ap (λ w. p.done ++ w) p.stopped ∙ append-nil p.done) ∙ ap (λ w. p.done ++ w) q.all ∙ sym (append_assoc p.done q.done q.undone);
    stopped = q.stopped;
    text = p.text ++ q.text;
    made = deeds.then _ _ _ _ _ _ _ _ (subst (λ (es : List Command). deeds.did a.state p.done es p.text b.state) p.stopped p.made) q.made;
    filled = q.filled;
    written = puts_then a.written b.written c.written (written_by r) p.text q.text p.written q.written;
  }

  pub follows_then : (a b c : Scene S) (rd rd' rd2 : Option (List ℕ)) (r : Result Bool Stop) → IsOfTrace a.commands b.commands → Follows deeds a b (rd, rd') (Ok true) → Follows deeds b c (rd', rd2) r → Follows deeds a c (rd, rd2) r
  follows_then a b c rd rd' rd2 r same p q =
      let n' = b.commands.source.now.number in
      let n2 = c.commands.source.now.number in
      let heap = Some a.commands.layout in
      let read = subst (λ (d : Dialect). Reads d (place heap n' rd') (place heap n2 rd2) q.commands r) same.2 (subst (λ (l : Shape). Reads b.commands.dialect (place (Some l) n' rd') (place (Some l) n2 rd2) q.commands r) same.1 q.read) in
      record {
        commands = p.commands ++ q.commands;
        read = reads_then a.commands.dialect (place heap a.commands.source.now.number rd) (place heap n' rd') (place heap n2 rd2) p.commands q.commands r p.read read;
        done = does_then a.at b.at c.at p.commands q.commands r p.done q.done;
      }

  -- no line; a line without a command, or the end of the input; and a line that stopped the reading
  -- lines behind a header that was read
  pub reads_behind : (d : Dialect) (n n' : ℕ) (a b : Scene S) (rd rd1 rd' : Option (List ℕ)) (r : Result Bool Stop) → a.commands.dialect ≡ d → b.commands.source.now.number ≡ n' → Reads d (place None n rd) (place (Some a.commands.layout) a.commands.source.now.number rd1) [] (Ok true)
      → (f : Follows deeds a b (rd1, rd') r) → Reads d (place None n rd) (place (Some a.commands.layout) n' rd') f.commands r
  reads_behind d n n' a b rd rd1 rd' r of at_end head f =
      let heap = Some a.commands.layout in
      let from = a.commands.source.now.number in
      reads_then d _ _ _ [] f.commands r head (subst (λ (k : ℕ). Reads d (place heap from rd1) (place heap k rd') f.commands r) at_end (subst (λ (e : Dialect). Reads e (place heap from rd1) (place heap b.commands.source.now.number rd') f.commands r) of f.read))

  pub follows_none : (a : Scene S) (rd : Option (List ℕ)) → Follows deeds a a (rd, rd) (Ok true)
  follows_none a rd = record { commands = []; read = reads_none a.commands.dialect (place (Some a.commands.layout) a.commands.source.now.number rd); done = does_none a.at (Ok true) (λ e. cc) }

  pub line_passed : (a a' : Commands) (s : At S) (rd rd' : Option (List ℕ)) (more : Bool) → ReadsBehind a a' (rd, rd') [] (Ok more) → Follows deeds (record { commands = a; at = s }) (record { commands = a'; at = s }) (rd, rd') (Ok more)
  line_passed a a' s rd rd' more read = record { commands = []; read = read; done = does_none s (Ok more) (λ e. cc) }

  pub line_unread : (a a' : Commands) (s : At S) (rd rd' : Option (List ℕ)) (stop : Stop) → IsReadStop stop → ReadsBehind a a' (rd, rd') [] (Err stop) → Follows deeds (record { commands = a; at = s }) (record { commands = a'; at = s }) (rd, rd') (Err stop)
  line_unread a a' s rd rd' stop h read = record { commands = []; read = read; done = does_none s (Err stop) (λ e. let same : stop ≡ BookFull = cc in subst IsReadStop same h) }

  -- a command that stopped the replay
  pub line_stopped : (c : Command) (old new : Scene S) (rd rd' : Option (List ℕ)) (stop : Stop) → MayStop stop
      → ReadsBehind old.commands new.commands (rd, rd') (c ∷ []) (Ok true) → Does deeds (c ∷ []) old.at new.at (Err stop) → Follows deeds old new (rd, rd') (Err stop)
  line_stopped c old new rd rd' stop h read done = record { commands = c ∷ []; read = stopped_at stop h; done = done }
    where
      stopped_at : (stop : Stop) → MayStop stop → ReadsBehind old.commands new.commands (rd, rd') (c ∷ []) (Err stop)
      stopped_at NoMemory h = record { lines = read.lines; rest = read.rest; consumed = read.consumed; passed = read.passed; met = read.met; counted = read.counted }
      stopped_at BookFull h = record { lines = read.lines; rest = read.rest; consumed = read.consumed; passed = read.passed; met = read.met; counted = read.counted }
      stopped_at WriteFailed h = record { lines = read.lines; rest = read.rest; consumed = read.consumed; passed = read.passed; met = read.met; counted = read.counted }
      stopped_at stop h = absurd h

  -- lines at the front of what is shown: none, and then more
  pub front_none : (a : Scene S) (shown : List ℕ) → FollowsFront deeds a a (take 0 shown) (Ok true)
  front_none a shown = λ rd rd' moved. line_passed a.commands a.commands a.at rd rd' true (record { lines = []; rest = []; consumed = moved; passed = λ x. refl; met = refl; counted = omega arith })

  pub front_then : (a b c : Scene S) (k m : ℕ) (shown left : List ℕ) (r : Result Bool Stop) → left ≡ drop k shown → IsOfTrace a.commands b.commands
      → FollowsFront deeds a b (take k shown) (Ok true) → FollowsFront deeds b c (take m left) r → FollowsFront deeds a c (take (k + m) shown) r
  front_then a b c k m shown left r e same p q = λ rd rd2 moved.
      let apart = consumes_apart rd rd2 (take k shown) (take m left) (subst (Consumes rd rd2) (sym (take_then k m shown) ∙ ap (λ w. take k shown ++ take m w) (sym e)) moved) in
      follows_then a b c rd apart.0 rd2 r same (p rd apart.0 apart.1) (q apart.0 rd2 apart.2)

module _ {S : Type 0} (plays : Plays S) where
  -- a command that was played, or stopped
  pub line_done : (c : Command) (old new : Scene S) (rd rd' : Option (List ℕ)) (r : Result (Unit {0}) Stop) → IfErr r plays.stops
      → ReadsBehind old.commands new.commands (rd, rd') (c ∷ []) (Ok true) → Does plays.deeds (c ∷ []) old.at new.at (more_may_come r) → Follows plays.deeds old new (rd, rd') (more_may_come r)
  line_done c old new rd rd' (Ok u) h read done = record { commands = c ∷ []; read = read; done = done }
  line_done c old new rd rd' (Err stop) h read done = line_stopped plays.deeds c old new rd rd' stop (plays.may_stop stop h) read done

  -- a line that was there as a whole
  pub first_played : (old new : Scene S) (bytes : List ℕ) (k : ℕ) (r : Result (Unit {0}) Stop) → FollowsFront plays.deeds old new (take k bytes) (more_may_come r) → IsOfTrace old.commands new.commands → new.commands.source.now.reads ≡ old.commands.source.now.reads
      → (0 < k) × (k ≤ length bytes) → new.commands.source.now.number ≤ old.commands.source.now.number + 1 → IfErr r (λ stop. IsReadStop stop ⊎ plays.stops stop) → OnOk r (plays.takes new.at.state new.commands.layout new.commands.dialect) → PlaysFirst plays old new bytes (Some (k, r))
  first_played old new bytes k r followed same reads within counted stops takes = record { same = same; reads = reads; followed = followed; within = within; counted = counted; stops = stops; takes = takes; none = λ e. cc }
