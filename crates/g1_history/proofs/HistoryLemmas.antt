-- A history goes on by a step.
use Rattle.std.specs.Prelude.{◌≡◌, ◌+◌, ◌<◌, ◌≤◌, ◌∷◌, ◌++◌}
use Rattle.g1_history.specs.{ℕ, Bool, true, false, cond, [], length, refl, sym, subst, ap, ◌∙◌, arith, length-append, Shape, IsShape, Machine, IsLater, IsSound, Table, opening, IsCovered, Entry, Reply, IsStep, IsAllowed, IsPermitted, table_of_history, drained, drain_entry, drain_reply, redirect_entry, redirect_reply, DoesDrain, DoesRedirect, Drained, Cards, Short, opening_covered, permitted_step, run_covered, run_layout, has_slots, Past, IsHistory, IsTallied, IsKept, Made, MakesCall, AnswersExactly, AnswersBy, table_in, layout_in, history_of, past_with, made_of, is_store, MadeAsked, Ok}
use Rattle.g1_core.specs.declared.entry.Call.TheVariants as call
use Rattle.g1_core.specs.declared.reply.Redirected.{Redirected}
use Rattle.g1_core.specs.declared.reply.Redirected.TheVariants as redirected
use Rattle.g1_core.proofs.SinceLemmas.{drain_exact}
use Rattle.g1_history.specs.History.{History}

store_counts : (b : Bool) (stored made : ℕ) → stored ≤ made → stored + cond b 1 0 ≤ made + 1
store_counts true stored made h = omega (arith, h)
store_counts false stored made h = omega (arith, h)

-- what was entered, after room was made for it: where no entries are kept, only whether it is a store
entered_as : (keeps : Bool) (p q r : Past) (e f : Entry) → q ≡ p → r ≡ past_with keeps q f → (keeps ≡ true → f ≡ e) → is_store f ≡ is_store e → r ≡ past_with keeps p e
entered_as true p q r e f same is called store = is ∙ (λ i. past_with true (same i) (called refl i))
entered_as false p q r e f same is called store =
    is ∙ ap (λ (x : Past). past_with false x f) same
    ∙ ap (λ (b : Bool). record p { totals = record { made = p.totals.made + 1; stored = p.totals.stored + cond b 1 0 } }) store

-- one call more is kept
kept_with : (keeps : Bool) (m n : Machine) (mutators : ℕ) (p q : Past) (e : Entry) → IsKept keeps (history_of m mutators p) → made_of keeps p.entries p.totals < p.limit
    → q ≡ past_with keeps p e → IsStep m.state.table e n.state.table → IsKept keeps (history_of n mutators q)
kept_with true m n mutators p q e h room is step =
    let run = permitted_step m.state.table.layout p.entries e m.state.table n.state.table h.last h.run step in
    let same : m.state.table.layout ≡ n.state.table.layout = sym run.2 in
    let more : length (p.entries ++ e ∷ []) ≤ p.limit = omega (arith, length-append p.entries (e ∷ []), room) in
    subst (λ (x : Past). IsHistory (history_of n mutators x)) (sym is) (record {
      shape = subst IsShape same h.shape;
      run = subst (λ (l : Shape). IsPermitted (opening l) (p.entries ++ e ∷ [])) same run.0;
      last = run.1 ∙ ap (λ (l : Shape). table_of_history l (p.entries ++ e ∷ [])) same;
      within = more;
      limit_high = h.limit_high;
      mutators_low = h.mutators_low;
      mutators_high = h.mutators_high;
    })
kept_with false m n mutators p q e h room is step =
    let same : n.state.table.layout ≡ m.state.table.layout = ap (λ (t : Table). t.layout) step.after ∙ run_layout m.state.table (e ∷ []) in
    subst (λ (x : Past). IsTallied (history_of n mutators x)) (sym is) (record {
      shape = subst IsShape (sym same) h.shape;
      stored = store_counts (is_store e) p.totals.stored p.totals.made h.stored;
      within = omega (arith, room);
      limit_high = h.limit_high;
      mutators_low = h.mutators_low;
      mutators_high = h.mutators_high;
    })

pub call_kept : (keeps : Bool) (m n : Machine) (mutators : ℕ) (p q r : Past) (e f : Entry) → IsKept keeps (history_of m mutators p) → made_of keeps p.entries p.totals < p.limit
    → IsStep m.state.table e n.state.table → q ≡ p → r ≡ past_with keeps q f → (keeps ≡ true → f ≡ e) → is_store f ≡ is_store e → IsKept keeps (history_of n mutators r)
call_kept keeps m n mutators p q r e f h room step same is called store = kept_with keeps m n mutators p r e h room (entered_as keeps p q r e f same is called store) step

-- and it was made
pub call_made : {X : Type 0} (keeps : Bool) (old : History) (m n : Machine) (mutators : ℕ) (p q r : Past) (x : X) (entry : X → Entry) (f : Entry) (does : X → Machine → Machine → Type 0) → history_of m mutators p ≡ old → made_of keeps p.entries p.totals < p.limit
    → IsStep m.state.table (entry x) n.state.table → q ≡ p → r ≡ past_with keeps q f → (keeps ≡ true → f ≡ entry x) → is_store f ≡ is_store (entry x) → IsLater m n → does x m n → MakesCall keeps old entry does (Ok x) (history_of n mutators r)
call_made keeps old m n mutators p q r x entry f does was room step same entered called store later did =
    let is : r ≡ past_with keeps p (entry x) = entered_as keeps p q r (entry x) f same entered called store in
    subst (λ h. MakesCall keeps h entry does (Ok x) (history_of n mutators r)) was (record {
      made = record {
        entered = record {
          entries = ap (λ (x : Past). x.entries) is;
          totals = ap (λ (x : Past). x.totals) is;
          step = step;
          terms = λ i. record { layout = later.layout i; settings = later.settings i; mutators = mutators; limit = (is i).limit };
          later = later;
        };
        did = did;
      };
      err = (((λ e. cc e), (λ full. absurd (omega (arith, room, full)))), tt);
    })

-- a question leaves the core as it was
pub same_later : (m : Machine) → IsSound m.state → IsLater m m
same_later m sound = record { layout = refl; settings = refl; sound = sound; reads = omega arith }

-- cover holds after every history
pub history_covered : (h : History) → IsHistory h → IsCovered (table_in h)
history_covered h is = subst IsCovered (sym is.last) (run_covered (opening (layout_in h)) h.entries (has_slots (layout_in h) is.shape) is.run (opening_covered (layout_in h)))

-- what a drain answers after a history is exact
drain_is_exact : (h : History) (caller region : ℕ) (answer : Drained) → IsHistory h → IsAllowed (table_in h) (drain_entry caller region answer) → AnswersExactly h region answer
drain_is_exact h caller region (Cards cards done) is allowed =
    drain_exact (layout_in h) (has_slots (layout_in h) is.shape) h.entries is.run caller region cards done (subst (λ t. IsAllowed t (drained caller region cards done)) is.last allowed)
drain_is_exact h caller region (Short done) is allowed = tt

pub drain_answers : (keeps : Bool) (h old : History) (caller region : ℕ) (answer : Drained) → h ≡ old → IsKept keeps h → IsAllowed (table_in h) (drain_entry caller region answer) → AnswersBy keeps old region answer
drain_answers true h old caller region answer was is allowed = subst (λ (x : History). AnswersExactly x region answer) was (drain_is_exact h caller region answer is allowed)
drain_answers false h old caller region answer was is allowed = tt

-- what is asked by its value, where the reply is one of two kinds
pub drain_asked : (keeps : Bool) (old : History) (caller region : ℕ) (answer : Drained) (reply : Reply) (new : History) → Made keeps old (drain_entry caller region answer) (DoesDrain region answer) new → reply ≡ drain_reply answer → MadeAsked keeps old caller (call.Drain region) reply new
drain_asked keeps old caller region (Cards cards done) reply new made is = subst (λ (r : Reply). MadeAsked keeps old caller (call.Drain region) r new) (sym is) (done, made)
drain_asked keeps old caller region (Short done) reply new made is = subst (λ (r : Reply). MadeAsked keeps old caller (call.Drain region) r new) (sym is) (done, made)

pub redirect_asked : (keeps : Bool) (old : History) (caller from to : ℕ) (answer : Redirected) (reply : Reply) (new : History) → Made keeps old (redirect_entry caller from to answer) (DoesRedirect from to answer) new → reply ≡ redirect_reply answer → MadeAsked keeps old caller (call.Redirect from to) reply new
redirect_asked keeps old caller from to (redirected.Moved slots done) reply new made is = subst (λ (r : Reply). MadeAsked keeps old caller (call.Redirect from to) r new) (sym is) (done, made)
redirect_asked keeps old caller from to (redirected.Short done) reply new made is = subst (λ (r : Reply). MadeAsked keeps old caller (call.Redirect from to) r new) (sym is) (done, made)
