-- The slots before the one that is looked at refer to what they refer to in the core.
use Rattle.std.specs.Prelude.{◌≡◌, ◌+◌, ◌≤◌}
use Rattle.g1_race.specs.{inl, ℕ, List, sym, ap, ◌∙◌, subst, arith, slot_count, State, Machine, IsSound, reads_after, target_of, RaceShape, word_of, ArePlaced, RaisesOnly, words_of, Writes}
use Rattle.g1_race.proofs.{begun_placed, begun_on, writes_next, put_rises, rises_then, placed_next, placed_past, covered_on, word_bound}
use Rattle.g1_race.proofs.paused.Writer.place_slots.Goals.{After-word_of-word, then-word-ne0, else-word-ne0}
use Rattle.g1_race.specs.declared.paused.Writer.{Writer}
use Rattle.g1_race.proofs.paused.Writer.place_slots.Goals as goal

-- the word is that of the slot's reference
word : (c : After-word_of-word) → c.word_of-word.result ≡ word_of (target_of c.args.core.now.state.table c.loop-number.number)
word c = c.word_of-word.ensures ∙ ap word_of (c.target.ensures.did.told.refers ∙ ((λ j. let q : State = c.loop-number.invariant.state j in target_of q.table c.in-Some.slot) ∙ ap (λ (p : ℕ). target_of c.args.core.now.state.table p) c.in-Some.ensures.1))

pub put-requires-clause-begun : goal.put-requires-clause-begun
put-requires-clause-begun c =
    let race = c.args.self.now.race.now in
    let k = race.shape in
    let s = c.args.core.now.state in
    let i = c.loop-number.invariant in
    let n = c.loop-number.number in
    let lt = c.loop-number-test.true in
    let is = word ((goal.at.put-requires-clause-begun c).After-word_of-word) in
    let sound : IsSound s = subst IsSound (ap (λ (m : Machine). m.state) c.target.ensures.did.machine ∙ i.state) c.target.ensures.later.sound in
    let slots : k.slots ≡ slot_count s.table.layout = ap (λ (x : RaceShape). x.slots) race.laid ∙ ap slot_count c.requires.layout in
    let bound : word_of (target_of s.table n) ≤ slot_count s.table.layout = word_bound s n sound (omega (arith, lt, slots)) in
    begun_on i.slots.race (begun_placed k (words_of c.loop-number.self) n c.word_of-word.result lt (inl (omega (arith, is, bound, slots)))
    (covered_on k s.table (words_of c.args.self.now) (words_of c.loop-number.self) n race.shaped i.slots.words c.requires.covered n c.word_of-word.result lt is) i.slots.begun)

pub loop-number-preserved : goal.loop-number-preserved
loop-number-preserved c =
    let race = c.args.self.now.race.now in
    let k = race.shape in
    let t = c.args.core.now.state.table in
    let i = c.loop-number.invariant in
    let old = words_of c.args.self.now in let mid = words_of c.loop-number.self in
    let n = c.loop-number.number in
    let is = word ((goal.at.loop-number-preserved c).After-word_of-word) in
    let m = c.args.core.now in
    let state : c.target.new.self.state ≡ m.state = ap (λ (m : Machine). m.state) c.target.ensures.did.machine ∙ i.state in
    let settings : c.target.new.self.settings ≡ m.settings = ap (λ (m : Machine). m.settings) c.target.ensures.did.machine ∙ i.settings in
    let reads : c.target.new.self.reads ≡ reads_after m.reads (n + 1) = ap (λ (m : Machine). m.reads) c.target.ensures.did.machine ∙ (ap (λ (r : ℕ). reads_after r 1) i.reads ∙ (let e : reads_after (reads_after m.reads n) 1 ≡ reads_after m.reads (n + 1) = omega arith in e)) in
    let done = λ (s : Writer). record { below : n + 1 ≤ k.slots; flags : RaisesOnly (λ card. ⊥) k old (words_of s); slots : Writes c.args.self.now s (λ heap old new. ArePlaced heap t old new (n + 1)); state : c.target.new.self.state ≡ m.state; settings : c.target.new.self.settings ≡ m.settings; reads : c.target.new.self.reads ≡ reads_after m.reads (n + 1) } in
    elim c.if-word-ne0.branch [
      | then-word-ne0 w ↦ subst done (sym w.self-is) (record {
        below = omega (arith, c.loop-number-test.true);
        flags = rises_then k (λ card. ⊥) (λ card. ⊥) (λ card. ⊥) old mid (words_of w.put.new.self) (λ d e. e) (λ d e. e) i.flags (put_rises k (λ card. ⊥) mid (words_of w.put.new.self) n c.word_of-word.result (omega (arith, c.loop-number-test.true)) w.put.ensures.words);
        slots = writes_next i.slots.race i.slots.reader w.put.ensures (λ put. subst (λ (l : List ℕ). ArePlaced k t old l (n + 1)) (sym put) (placed_next k t old mid n c.word_of-word.result c.loop-number-test.true (omega (arith, i.slots.begun.sized)) is i.slots.words));
        state = state;
        settings = settings;
        reads = reads;
      })
      | else-word-ne0 w ↦ subst done (sym w.self-is) (record {
        below = omega (arith, c.loop-number-test.true);
        flags = i.flags;
        slots = record { race = i.slots.race; reader = i.slots.reader; begun = i.slots.begun; words = placed_past k t old mid n c.word_of-word.result c.loop-number-test.true (c.requires.null n c.loop-number-test.true) is w.if-word-ne0.false i.slots.words };
        state = state;
        settings = settings;
        reads = reads;
      })
    ]
