-- The line of the end, and the whole output where the end says what it is.
use Rattle.std.specs.Prelude.{◌≡◌, ◌∷◌, ◌++◌}
use Rattle.g1_replay.specs.{◌∙◌, EndWriteFailed, ℕ, List, [], refl, ap, subst, append-nil, append_assoc, Option, Some, None, false, Result, Ok, Err, IfSome, Appends-trans, Appends, Consumes, Shape, Options, Command, Dialect, TraceFault, AppendsFront, read_trace, before, front_then, End, Whole, Refused, Stop, Fault, WriteFailed, Tale, Saying, Story, Spot, spot, with_heap, streams, dialect_in, Run, Told, IsEndWritten, IsReplayed, ending_line, end_of, IsDoneText, IsRunText, IsUndone, IsWholeOutput, IsRefusedOutput, end_met, Prints, Reads, place, IsLeftToRead}
use Rattle.g1_replay.proofs.ReadingLemmas.{left_none}

nil_front : (f l : List ℕ) → [] ≡ f ++ l → f ≡ []
nil_front [] l e = refl
nil_front (x ∷ f) l e = cc

-- the line of the end behind the text, or a beginning of it
front_ended : (out out1 out' : Option (List ℕ)) (r : Result (Unit {0}) Stop) (n : ℕ) (text : List ℕ) → Prints out out1 r text → AppendsFront out1 out' (ending_line n r) → AppendsFront out out' (text ++ ending_line n r)
front_ended out out1 out' (Err WriteFailed) n text w i =
    let none : i.0 ≡ [] = nil_front i.0 i.1 i.3 in
    let same : w.0 ++ i.0 ≡ w.0 = ap (λ l. w.0 ++ l) none ∙ append-nil w.0 in
    (w.0, w.1, subst (λ (l : List ℕ). Appends out out' l) same (Appends-trans _ _ _ _ _ w.2 i.2), append-nil text ∙ w.3)
front_ended out out1 out' r n text w i = front_then _ _ _ _ _ w i

whole_ended : (out out1 out' : Option (List ℕ)) (r : Result (Unit {0}) Stop) (n : ℕ) (text : List ℕ) → (end_of r ≡ EndWriteFailed → ⊥) → Prints out out1 r text → Appends out1 out' (ending_line n r) → Appends out out' (text ++ ending_line n r)
whole_ended out out1 out' (Err WriteFailed) n text ne w i = absurd (ne refl)
whole_ended out out1 out' r n text ne w i = Appends-trans _ _ _ _ _ w i

ended_then : (out out1 out' : Option (List ℕ)) (r : Result (Unit {0}) Stop) (n : ℕ) (text : List ℕ) (end : End) → Prints out out1 r text → IsEndWritten out1 out' r (ending_line n r) end → IsEndWritten out out' r (text ++ ending_line n r) end
ended_then out out1 out' r n text EndWriteFailed w i = front_ended out out1 out' r n text w i
ended_then out out1 out' r n text end w i = (i.0, whole_ended out out1 out' r n text (λ e. let bad : end ≡ EndWriteFailed = i.0 ∙ e in cc) w i.1)

-- what was read is all that there was
all_consumed : (xs : List ℕ) (rd' : Option (List ℕ)) (front : List ℕ) → Consumes (Some xs) rd' front → (x : List ℕ) × IsLeftToRead rd' x × (xs ≡ front ++ x)
all_consumed xs None front c = absurd c
all_consumed xs (Some ys) front c = (ys, refl, c)

-- all commands were done
pub all_done : (cs done undone : List Command) → cs ≡ done ++ undone → undone ≡ [] → cs ≡ done
all_done cs done undone e none = e ∙ ap (λ w. done ++ w) none ∙ append-nil done

pub written_as : (out out' : Option (List ℕ)) (r : Result (Unit {0}) Stop) (text : List ℕ) → Prints out out' (end_met r) text → Prints out out' r text
written_as out out' (Ok done) text w = w
written_as out out' (Err (Fault f)) text w = w
written_as out out' (Err stop) text w = w

-- A trace that ends so was read to these commands, and this is said of them.
abbrev pub ReadsAs : Dialect → Tale → Result (Unit {0}) Stop → Saying → Type 0
ReadsAs d Tells r IsText = (old new : Spot) (text : List ℕ) → Tells old new r text → (heap : Option Shape) × (cs : List Command) × Reads d (with_heap None old) (with_heap heap new) cs (end_met r) × IsText heap cs text

module _ (s : Story) (whole : ReadsAs s.dialect s.tells (Ok tt) s.whole) (refused : (f : TraceFault) → ReadsAs s.dialect s.tells (Err (Fault f)) s.refused) (n : ℕ) (rd' out out' : Option (List ℕ)) (text : List ℕ) where
  whole_read : (xs : List ℕ) (heap : Option Shape) (cs : List Command) → Reads s.dialect (place None 1 (Some xs)) (place heap n rd') cs (Ok false) → s.whole heap cs text → Appends out out' text → IsWholeOutput s.whole s.dialect xs out out'
  whole_read xs None cs t said w = let none = t.met.2 in cc
  whole_read xs (Some l) cs t said w =
      let all = all_consumed xs rd' (t.lines ++ t.rest) t.consumed in
      let none : all.0 ≡ [] = left_none rd' all.0 t.met.1 all.1 in
      let same : xs ≡ t.lines ++ [] = all.2 ∙ ap (λ l. (t.lines ++ t.rest) ++ l) none ∙ append-nil (t.lines ++ t.rest) ∙ ap (λ l. t.lines ++ l) t.met.0 in
      record { layout = l; commands = cs; text = text; trace = ap (read_trace s.dialect) same ∙ t.passed [] ∙ ap (λ (w : List Command). record { heap = Some l; commands = w; fault = None }) (append-nil cs); said = said; written = w }

  says_whole : (rd : Option (List ℕ)) (r : Result (Unit {0}) Stop) (end : End) → s.tells (spot 1 rd) (spot n rd') r text → IsEndWritten out out' r (text ++ ending_line n r) end → end ≡ Whole → IfSome rd (λ bytes. IsWholeOutput s.whole s.dialect bytes out out')
  says_whole None r end t i e = tt
  says_whole (Some xs) (Ok done) Whole t i e = let read = whole (spot 1 (Some xs)) (spot n rd') text t in whole_read xs read.0 read.1 read.2 read.3 (subst (λ (w : List ℕ). Appends out out' w) (append-nil text) i.1)
  says_whole (Some xs) (Err (Fault f)) Whole t i e = cc
  says_whole (Some xs) (Err stop) Whole t i e = cc
  says_whole (Some xs) r end t i e = cc

  says_refused : (rd : Option (List ℕ)) (r : Result (Unit {0}) Stop) (end : End) → s.tells (spot 1 rd) (spot n rd') r text → IsEndWritten out out' r (text ++ ending_line n r) end → end ≡ Refused → IfSome rd (λ bytes. IsRefusedOutput s.refused s.dialect bytes out out')
  says_refused None r end t i e = tt
  says_refused (Some xs) (Err (Fault f)) Refused t i e =
      let read = refused f (spot 1 (Some xs)) (spot n rd') text t in
      let lines = read.2.lines in
      let all = all_consumed xs rd' (lines ++ read.2.rest) read.2.consumed in
      record {
        heap = read.0;
        commands = read.1;
        number = n;
        fault = f;
        text = text;
        trace = ap (read_trace s.dialect) (all.2 ∙ append_assoc lines read.2.rest all.0) ∙ read.2.passed (read.2.rest ++ all.0) ∙ ap (before read.1) (read.2.met all.0 all.1)
            ∙ ap (λ (w : List Command). record { heap = read.0; commands = w; fault = Some (n, f) }) (append-nil read.1);
        said = read.3;
        written = i.1;
      }
  says_refused (Some xs) (Ok done) Refused t i e = cc
  says_refused (Some xs) (Err stop) Refused t i e = cc
  says_refused (Some xs) r end t i e = cc

  pub replayed : (first : ℕ) (rd out1 : Option (List ℕ)) (r : Result (Unit {0}) Stop) (end : End) → first ≡ 1 → s.tells (spot first rd) (spot n rd') r text → Prints out out1 r text → IsEndWritten out1 out' r (ending_line n r) end → IsReplayed s (streams rd out) (streams rd' out') end
  replayed first rd out1 r end one t w e =
      let i = ended_then out out1 out' r n text end w e in
      let told = subst (λ m. s.tells (spot m rd) (spot n rd') r text) one t in
      record { told = (n, r, text, told, i); whole = says_whole rd r end told i; refused = says_refused rd r end told i }

-- what was told of a run has the text of the commands that were done
pub run_read : (o : Options) (r : Result (Unit {0}) Stop) → ((undone : List Command) → IsUndone (end_met r) undone → undone ≡ []) → ReadsAs (dialect_in Run o) (Told o) r (IsDoneText o)
run_read o r none old new text t =
    let no_more = none t.undone t.stopped in
    (t.heap, t.done, subst (λ (cs : List Command). Reads (dialect_in Run o) (with_heap None old) (with_heap t.heap new) cs (end_met r)) (all_done t.commands t.done t.undone t.all no_more) t.read, subst (λ (cs : List Command). IsRunText o t.heap t.done cs text) no_more t.run)
