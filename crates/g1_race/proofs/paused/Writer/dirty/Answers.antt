use Rattle.g1_race.specs.{inl, refl, flag, words_of, heap_of}
use Rattle.g1_race.proofs.{begun_marked, begun_on, writes_next}
use Rattle.g1_race.proofs.paused.Writer.dirty.Goals as goal

pub put-requires-clause-begun : goal.put-requires-clause-begun
put-requires-clause-begun c =
    begun_on c.set_bit.ensures.race (begun_marked (heap_of c.args.self.now) (words_of c.set_bit.new.self) c.args.card c.requires (c.set_bit.ensures.words.has (flag (heap_of c.args.self.now) c.args.card) (inl refl)) c.set_bit.ensures.begun)

pub returns : goal.returns
returns c = writes_next c.set_bit.ensures.race c.set_bit.ensures.reader c.put.ensures (λ marked. record { mid = words_of c.set_bit.new.self; flagged = c.set_bit.ensures.words; begun = c.set_bit.ensures.begun; marked = marked })
