-- Lines that were read: one, and one after another.
use Rattle.std.specs.Prelude.{◌≡◌, ◌≢◌, ◌+◌, ◌<◌, ◌≤◌, ◌∷◌, ◌++◌}
use Rattle.g1_replay.specs.{◌∙◌, ℕ, List, [], refl, length, take, sym, ap, subst, arith, append_assoc, append-nil, Option, Some, None, true, false, rules, Bool, Result, Ok, Err, nat_lt, option_to_list, zero, suc, Consumes-nil, Consumes-trans, ne_eqb, length-append, Consumes, IsAtEnd, Shape, Command, Dialect, TraceFault, TooLong, Cut, NoHeader, read_command, read_on, read_line, after_line, at_end, before, faulty, IsPart, Stop, Fault, ReadFailed, ReadsLine, IsLeftToRead, Reads, Place, place}
use Rattle.g1_trace.specs.Plain.{IsLineBefore}

-- bytes of one line
scan : (line : List ℕ) (d : Dialect) (heap : Option Shape) (n : ℕ) (begun x : List ℕ) → IsPart line → length begun + length line ≤ 64
    → read_on d heap n begun (line ++ x) ≡ read_on d heap n (begun ++ line) x
scan [] d heap n begun x p h = ap (λ w. read_on d heap n w x) (sym (append-nil begun))
scan (b ∷ line) d heap n begun x p h =
    let room : nat_lt (length begun) 64 ≡ true = search rules in
    let rest = scan line d heap n (begun ++ b ∷ []) x p.1 (simp length-append (omega arith)) in
    rw (ne_eqb _ _ p.0, room) (rest ∙ ap (λ w. read_on d heap n w x) (append_assoc begun (b ∷ []) line))

-- a whole line
line_done : (line : List ℕ) (d : Dialect) (heap : Option Shape) (n : ℕ) → IsPart line → length line ≤ 64
    → (x : List ℕ) → read_on d heap n [] ((line ++ 10 ∷ []) ++ x) ≡ after_line heap n (read_line d heap line) (λ opened. read_on d opened (n + 1) [] x)
line_done line d heap n p h x = ap (λ w. read_on d heap n [] w) (append_assoc line (10 ∷ []) x) ∙ scan line d heap n [] (10 ∷ x) p (omega arith)

line_too_long : (line : List ℕ) (d : Dialect) (heap : Option Shape) (n b : ℕ) → IsPart line → length line ≡ 64 → b ≢ 10
    → (x : List ℕ) → read_on d heap n [] ((line ++ b ∷ []) ++ x) ≡ faulty heap n TooLong
line_too_long line d heap n b p h ne x =
    let full : nat_lt (length line) 64 ≡ false = rw h refl in
    ap (λ w. read_on d heap n [] w) (append_assoc line (b ∷ []) x) ∙ scan line d heap n [] (b ∷ x) p (omega arith) ∙ rw (ne_eqb _ _ ne, full) refl

end_cut : (line : List ℕ) (heap : Option Shape) (n : ℕ) → 0 < length line → at_end heap n line ≡ faulty heap n Cut
end_cut [] heap n h = absurd (omega arith)
end_cut (b ∷ line) heap n h = refl

line_cut : (line : List ℕ) (d : Dialect) (heap : Option Shape) (n : ℕ) → IsPart line → 0 < length line → length line ≤ 64
    → (x : List ℕ) → x ≡ [] → read_on d heap n [] (line ++ x) ≡ faulty heap n Cut
line_cut line d heap n p some h x e = ap (λ w. read_on d heap n [] (line ++ w)) e ∙ scan line d heap n [] [] p (omega arith) ∙ end_cut line heap n some

-- known bytes at the end leave nothing
pub left_none : (rd : Option (List ℕ)) (x : List ℕ) → IsAtEnd rd → IsLeftToRead rd x → x ≡ []
left_none None x e h = absurd h
left_none (Some left) x e h = h ∙ e

-- a line that was not read to its end, or is too long
pub line_stopped : (d : Dialect) (heap : Option Shape) (n : ℕ) (rd rd' : Option (List ℕ)) (stop : Stop) (line : List ℕ) → ReadsLine rd rd' (Err stop) line → Reads d (place heap n rd) (place heap n rd') [] (Err stop)
line_stopped d heap n rd rd' (Fault TooLong) line h =
    record { lines = []; rest = line ++ h.0 ∷ []; consumed = h.1; passed = λ x. refl; met = λ x _. line_too_long line d heap n h.0 h.3 h.4 h.2 x; counted = omega arith }
line_stopped d heap n rd rd' (Fault Cut) line h =
    record { lines = []; rest = line; consumed = h.0; passed = λ x. refl; met = λ x e. line_cut line d heap n h.2 h.3 h.4 x (left_none rd' x h.1 e); counted = omega arith }
line_stopped d heap n rd rd' (Fault f) line h = absurd h
line_stopped d heap n rd rd' ReadFailed line h = record { lines = []; rest = line; consumed = h.0; passed = λ x. refl; met = (h.1, h.2); counted = omega arith }
line_stopped d heap n rd rd' stop line h = absurd h

-- no line, before the header and behind it
pub no_header : (d : Dialect) (n : ℕ) (rd rd' : Option (List ℕ)) (line : List ℕ) → ReadsLine rd rd' (Ok false) line → Reads d (place None n rd) (place None n rd') [] (Err (Fault NoHeader))
no_header d n rd rd' line h = record { lines = []; rest = []; consumed = h.0; passed = λ x. refl; met = λ x e. ap (λ w. read_on d None n [] w) (left_none rd' x h.1 e); counted = omega arith }

pub no_line : (d : Dialect) (l : Shape) (n : ℕ) (rd rd' : Option (List ℕ)) (line : List ℕ) → ReadsLine rd rd' (Ok false) line → Reads d (place (Some l) n rd) (place (Some l) n rd') [] (Ok false)
no_line d l n rd rd' line h = record { lines = []; rest = []; consumed = h.0; passed = λ x. refl; met = (refl, h.1, refl); counted = omega arith }

-- a whole line without a fault
pub line_read : (d : Dialect) (heap opened : Option Shape) (n : ℕ) (rd rd' : Option (List ℕ)) (line : List ℕ) (cs : List Command)
    → length cs ≤ 1 → ReadsLine rd rd' (Ok true) line → Ok (opened, cs) ≡ read_line d heap line → Reads d (place heap n rd) (place opened (n + 1) rd') cs (Ok true)
line_read d heap opened n rd rd' line cs few h e = record {
  lines = line ++ 10 ∷ [];
  rest = [];
  consumed = subst (λ (w : List ℕ). Consumes rd rd' w) (sym (append-nil (line ++ 10 ∷ []))) h.0;
  passed = λ x. line_done line d heap n h.1 h.2 x ∙ ap (λ r. after_line heap n r (λ to. read_on d to (n + 1) [] x)) (sym e);
  met = refl;
  counted = omega arith;
}

list_few : (o : Option Command) → length (option_to_list o) ≤ 1
list_few None = omega arith
list_few (Some c) = omega arith

pub command_read : (d : Dialect) (l : Shape) (n : ℕ) (rd rd' : Option (List ℕ)) (line : List ℕ) (o : Option Command) → ReadsLine rd rd' (Ok true) line → Ok o ≡ read_command l d line
    → Reads d (place (Some l) n rd) (place (Some l) (n + 1) rd') (option_to_list o) (Ok true)
command_read d l n rd rd' line o h e = line_read d (Some l) (Some l) n rd rd' line (option_to_list o) (list_few o) h (rw (← e) refl)

-- a line has a byte at least, its line feed
pub takes_some : (n : ℕ) (bytes line : List ℕ) → take n bytes ≡ line ++ 10 ∷ [] → 0 < n
takes_some zero bytes line e = let some = ap length e ∙ length-append line (10 ∷ []) in absurd (omega arith)
takes_some (suc n) bytes line e = omega arith

-- a line at the front of what a reader shows
pub shown_read : (d : Dialect) (l : Shape) (n : ℕ) (rd rd' : Option (List ℕ)) (shown : List ℕ) (c : Command) (count : ℕ) → IsLineBefore l d shown c count → Consumes rd rd' (take count shown)
    → Reads d (place (Some l) n rd) (place (Some l) (n + 1) rd') (c ∷ []) (Ok true)
shown_read d l n rd rd' shown c count p moved = command_read d l n rd rd' p.line (Some c) (subst (Consumes rd rd') p.front moved, p.part, p.short) p.asks

-- a whole line with a fault
pub line_faulty : (d : Dialect) (heap : Option Shape) (n : ℕ) (rd rd' : Option (List ℕ)) (line : List ℕ) (f : TraceFault) → ReadsLine rd rd' (Ok true) line → Err f ≡ read_line d heap line
    → Reads d (place heap n rd) (place heap n rd') [] (Err (Fault f))
line_faulty d heap n rd rd' line f h e = record {
  lines = [];
  rest = line ++ 10 ∷ [];
  consumed = h.0;
  passed = λ x. refl;
  met = λ x _. line_done line d heap n h.1 h.2 x ∙ ap (λ r. after_line heap n r (λ to. read_on d to (n + 1) [] x)) (sym e);
  counted = omega arith;
}

pub command_faulty : (d : Dialect) (l : Shape) (n : ℕ) (rd rd' : Option (List ℕ)) (line : List ℕ) (f : TraceFault) → ReadsLine rd rd' (Ok true) line → Err f ≡ read_command l d line
    → Reads d (place (Some l) n rd) (place (Some l) n rd') [] (Err (Fault f))
command_faulty d l n rd rd' line f h e = line_faulty d (Some l) n rd rd' line f h (rw (← e) refl)

-- lines, and then more
pub reads_none : (d : Dialect) (p : Place) → Reads d p p [] (Ok true)
reads_none d p = record { lines = []; rest = []; consumed = Consumes-nil p.left; passed = λ x. refl; met = refl; counted = omega arith }

pub reads_then : (d : Dialect) (a b c : Place) (cs ds : List Command) (r : Result Bool Stop) → Reads d a b cs (Ok true) → Reads d b c ds r → Reads d a c (cs ++ ds) r
reads_then d a b c cs ds r p q = record {
  lines = p.lines ++ q.lines;
  rest = q.rest;
  consumed = subst (λ (w : List ℕ). Consumes a.left c.left w) (ap (λ w. (p.lines ++ w) ++ (q.lines ++ q.rest)) p.met ∙ ap (λ w. w ++ (q.lines ++ q.rest)) (append-nil p.lines) ∙ sym (append_assoc p.lines q.lines q.rest))
      (Consumes-trans a.left b.left c.left (p.lines ++ p.rest) (q.lines ++ q.rest) p.consumed q.consumed);
  passed = λ x. ap (λ w. read_on d a.heap a.number [] w) (append_assoc p.lines q.lines x) ∙ p.passed (q.lines ++ x) ∙ ap (before cs) (q.passed x)
      ∙ ap (λ (w : List Command). record { heap = (read_on d c.heap c.number [] x).heap; commands = w; fault = (read_on d c.heap c.number [] x).fault }) (sym (append_assoc cs ds _));
  met = q.met;
  counted = omega (arith, p.counted, q.counted, length-append cs ds);
}
