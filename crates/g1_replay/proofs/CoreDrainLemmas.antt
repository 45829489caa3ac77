-- Drains of the core that a race has become.
use Rattle.std.specs.Prelude.{◌≡◌, ◌≢◌, ◌⊎◌, ◌∷◌}
use Rattle.g1_replay.specs.{◌∙◌, ℕ, List, [], append-nil, ap, sym, subst, refl, inl, inr, ⊎_elim, Option, true, Contains, arith, Bool, Result, Err, true≢false, Shape, card_of, region_of, region_of_card, Drained, Cards, Short, drain_entry, drain_reply, Machine, IsStep, Table, Holds, IsCovered, IsRecorded, held, refined, Ended, refs_of, table_of, Command, Drain, Call, call_line, Stop, NoMemory, BookFull, Prints, AreDrains, CoreDrained, core_drained_none, Does, At, at, deeds_of, core_draining, Appends-nil, AreExact, IsExactByStores, drain_text, referring, IsTableLeftBy}
use Rattle.std.specs.FinSet as set
use Rattle.std.specs.Ordering.{nat_cmp}
use Rattle.g1_layout.specs.Sets.{CardSet}
use Rattle.g1_core.proofs.TableLemmas.{refined_covered, recorded_cases, region_of_slot, Holds_from_held}
use Rattle.g1_replay.proofs.PlayingLemmas.{none_undone, one_done, one_undone}

-- what one drain of a core does
abbrev pub Drives : ℕ → At Machine → At Machine → Result Bool Stop → Type 0
Drives region old new r = Does (deeds_of core_draining) (Call (Drain region) ∷ []) old new r

abbrev pub Steps : ℕ → Machine → Drained → Machine → Type 0
Steps region old answer new = (caller : ℕ) → IsStep old.state.table (drain_entry caller region answer) new.state.table

step_layout : (old new : Table) (region : ℕ) (answer : Drained) → IsStep old (drain_entry 0 region answer) new → new.layout ≡ old.layout
step_layout old new region (Cards cards refined) s = ap (λ (t : Table). t.layout) s.after
step_layout old new region (Short refined) s = ap (λ (t : Table). t.layout) s.after

-- the line of a drain's reply is that of its answer
line_is : (region : ℕ) (answer : Drained) → drain_text answer ≡ call_line (Drain region) (drain_reply answer)
line_is region (Cards cards refined) = refl
line_is region (Short refined) = refl

one_drain : (old new : Machine) (region : ℕ) (answer : Drained) → Steps region old answer new → CoreDrained old (Call (Drain region) ∷ []) (call_line (Drain region) (drain_reply answer)) new
one_drain old new region answer s = record {
  answers = answer ∷ [];
  made = (new.state.table, s 0, refl);
  said = sym (append-nil (drain_text answer) ∙ line_is region answer);
  heap = step_layout old.state.table new.state.table region answer (s 0);
}

pub drives_said : (old new : At Machine) (region : ℕ) (answer : Drained) (r : Result Bool Stop) → r ≢ Err BookFull → Steps region old.state answer new.state → Prints old.written new.written r (call_line (Drain region) (drain_reply answer)) → Drives region old new r
drives_said old new region answer r no_book s w = one_done (deeds_of core_draining) _ old new _ r (one_drain old.state new.state region answer s) (none_undone r no_book) no_book w

pub drives_refused : (old new : Machine) (region : ℕ) (out : Option (List ℕ)) → new ≡ old → Drives region (at old out) (at new out) (Err NoMemory)
drives_refused old new region out same = one_undone (deeds_of core_draining) _ (at old out) (at new out) (Err NoMemory) (subst (λ (m : Machine). CoreDrained old [] [] m) (sym same) (core_drained_none old)) (omega arith) (λ e. cc) (Appends-nil out)

-- a table to which drains of the first one led
pub record IsFrom (first now : Table) : Type 0 where
  pub layout : now.layout ≡ first.layout
  pub refs : now.refs ≡ first.refs
  pub recorded : (card region : ℕ) → IsRecorded now card region → IsRecorded first card region ⊎ Holds first card region
  pub covered : IsCovered now

pub from_itself : (t : Table) → IsCovered t → IsFrom t t
from_itself t cover = record { layout = refl; refs = refl; recorded = λ card region r. inl r; covered = cover }

-- what holds by one table's references holds by the other's
holds_as : (s t : Table) (card region : ℕ) → s.layout ≡ t.layout → s.refs ≡ t.refs → Holds s card region → Holds t card region
holds_as s t card region l r h =
    let moved : Holds (record s { layout = t.layout }) card region = subst (λ (k : Shape). Holds (record s { layout = k }) card region) l h in
    subst (λ (xs : List (Option ℕ)). Holds (record s { layout = t.layout; refs = xs }) card region) r moved

refined_from : (first now : Table) (done : List ℕ) → IsFrom first now → IsFrom first (refined done now)
refined_from first now done f = record {
  layout = f.layout;
  refs = f.refs;
  recorded = λ card region r. ⊎_elim (λ (old : IsRecorded now card region). f.recorded card region old)
      (λ (new : set.contains (held now) (card, region) ≡ true). inr (holds_as now first card region f.layout f.refs (Holds_from_held now card region new))) (recorded_cases done now card region r);
  covered = refined_covered done now f.covered;
}

step_from : (first now next : Table) (region : ℕ) (answer : Drained) → IsFrom first now → IsStep now (drain_entry 0 region answer) next → IsFrom first next
step_from first now next region (Cards cards done) f s = subst (λ (t : Table). IsFrom first t) (sym s.after) (refined_from first now done f)
step_from first now next region (Short done) f s = subst (λ (t : Table). IsFrom first t) (sym s.after) (refined_from first now done f)

module _ (e : Ended) (mutators : ℕ) (commands : List Command) (left : IsTableLeftBy mutators commands e) where
  -- a whole drain's list
  exact_list : (now next : Table) (region : ℕ) (cards done : List ℕ) → IsFrom (table_of e) now → IsStep now (drain_entry 0 region (Cards cards done)) next → IsExactByStores e.layout commands (refs_of e) region cards
  exact_list now next region cards done f s = record {
    ascending = s.allowed.answers.1.ascending;
    outside = λ card c. ⊎_elim (λ (r : IsRecorded (table_of e) card region). (left.pairs card region r).2) (λ (h : Holds (table_of e) card region). h.outside) (had card c);
    every = every;
    only = λ card c. left.had card region (had card c);
  }
    where
      had : (card : ℕ) → Contains cards card → IsRecorded (table_of e) card region ⊎ Holds (table_of e) card region
      had card c = ⊎_elim (λ (old : IsRecorded now card region). f.recorded card region old)
          (λ (new : set.contains (held now) (card, region) ≡ true). inr (holds_as now (table_of e) card region f.layout f.refs (Holds_from_held now card region new)))
          (recorded_cases done now card region (s.allowed.answers.1.recorded card c))

      every : (card : ℕ) → Holds (referring e.layout (refs_of e)) card region → Contains cards card
      every card h =
          let there : Holds now card region = holds_as (referring e.layout (refs_of e)) now card region (sym f.layout) (sym f.refs) h in
          let cover : IsCovered (refined done now) = refined_covered done now f.covered in
          let across : region_of now.layout there.slot ≢ region_of now.layout there.place = λ q. there.outside (ap (region_of_card now.layout) (sym there.on_card) ∙ (region_of_slot now.layout there.slot ∙ (q ∙ there.into))) in
          elim (cover there.slot there.place (record { refers = there.refers; across = across })) [
            | inl p ↦ absurd (true≢false (sym p ∙ ap (λ (x : CardSet). set.contains x (card_of now.layout there.slot)) s.allowed.answers.0 ∙ set.contains-empty nat_cmp _))
            | inr q ↦ s.allowed.answers.1.all card (subst (λ (p : ℕ × ℕ). set.contains (refined done now).recorded p ≡ true) (ap (λ (c : ℕ). (c, region_of now.layout there.place)) there.on_card ∙ ap (λ (r : ℕ). (card, r)) there.into) q)
          ]

  pub are_exact : (now last : Table) (drains : List Command) (answers : List Drained) → IsFrom (table_of e) now → AreDrains now drains answers last → AreExact e.layout commands (refs_of e) drains answers
  are_exact now last [] [] f d = tt
  are_exact now last (Call (Drain region) ∷ drains) (Cards cards done ∷ answers) f d =
      (exact_list now d.0 region cards done f d.1, are_exact d.0 last drains answers (step_from (table_of e) now d.0 region (Cards cards done) f d.1) d.2)
  are_exact now last (Call (Drain region) ∷ drains) (Short done ∷ answers) f d = are_exact d.0 last drains answers (step_from (table_of e) now d.0 region (Short done) f d.1) d.2
  are_exact now last drains answers f d = absurd d
