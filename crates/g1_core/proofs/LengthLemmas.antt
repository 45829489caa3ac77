-- How many slots turns read, and how long the lists of a reply can be.
use Rattle.std.specs.Prelude.{◌≡◌, ◌<◌, ◌≤◌, ◌+◌, ◌*◌, ◌^◌, ◌∷◌}
use Rattle.g1_core.specs.{ℕ, arith, reads_after, List, [], length, take, Option, Some, ap, length-append, Offer, RefineReply, AreRefinable, State, Round, refined_by, hot_by, skipped_by, offer_to, turn, turns, start, IsTurned, AreCardsRead, DoesRefine, nat_cmp_total, exact_unsigned, All-contains, IsPending, cases_cond, length-take}
use Rattle.g1_core.specs.Machine.{Machine, Table}
use Rattle.std.specs.FinSet as set
use Rattle.g1_core.proofs.SetLemmas.{few_distinct}

-- the count does not fall
pub reads_grow : (old more new : ℕ) → old < 2 ^ 64 → new ≡ reads_after old more → old ≤ new
reads_grow old more new h is = omega arith

-- the slots of no card, and of one
pub none_read : (reads slots n : ℕ) → reads < 2 ^ 64 → n ≡ 0 → reads ≡ reads_after reads (n * slots)
none_read reads slots n h none = rw none (omega arith)

pub one_read : (reads slots n : ℕ) → n ≡ 1 → reads_after reads slots ≡ reads_after reads (n * slots)
one_read reads slots n one = rw one (omega arith)

-- of some cards, and then of others
pub more_read : (old mid new slots size a b n : ℕ) → mid ≡ reads_after old (a * slots) → new ≡ reads_after mid (b * size) → size ≡ slots → n ≡ a + b → new ≡ reads_after old (n * slots)
more_read old mid new slots size a b n first second same sum = rw (second, first, same, sum) (omega arith)

-- no more cards are refined than are pending
pub refined_few : (t : Table) (cards : List ℕ) → AreRefinable t cards → length cards ≤ set.len t.pending
refined_few t cards h = few_distinct nat_cmp_total exact_unsigned (λ k. k) (λ a b e. e) cards t.pending h.distinct (λ card c. All-contains (IsPending t) cards card h.pending c)

-- a turn refines one card at most, a card that it skips is not refined, and it counts one hot card at most
one_at_most : (card : ℕ) (o : Option Offer) → (length (refined_by card o) + skipped_by o ≤ 1) × (hot_by o ≤ 1)
one_at_most card o = grind arith

turns_few : (cards : List ℕ) (r : Round) → (length (turns r cards).refined + (turns r cards).skipped ≤ length r.refined + r.skipped + length cards) × ((turns r cards).hot ≤ r.hot + length cards)
turns_few [] r = omega arith
turns_few (card ∷ cards) r = omega (arith, length-append r.refined (refined_by card (offer_to r.state card)), one_at_most card (offer_to r.state card), turns_few cards (turn r card))

-- no more cards are refined or skipped than the buffer has
pub turned_few : (old : State) (cards : List ℕ) (reply : RefineReply) (new : State) → IsTurned old cards reply new → length reply.refined + reply.skipped ≤ length cards
turned_few old cards reply new h =
    omega (arith, ap (λ (r : Round). length r.refined) h.turned, ap (λ (r : Round). r.skipped) h.turned, turns_few (take h.many cards) (start old), length-take h.many cards)

-- nor are more hot, and at most one buffer is done
pub turned_counts : (old : State) (cards : List ℕ) (reply : RefineReply) (new : State) → IsTurned old cards reply new → (reply.taken ≤ 1) × (reply.hot ≤ length cards)
turned_counts old cards reply new h =
    (omega (arith, cases_cond reply.short 0 1 reply.taken h.taken), omega (arith, ap (λ (r : Round). r.hot) h.turned, turns_few (take h.many cards) (start old), length-take h.many cards))

pub turned_does : (old new : Machine) (cards : List ℕ) (reply : RefineReply) → length cards ≤ 256 → IsTurned old.state cards reply new.state → AreCardsRead old reply new → DoesRefine (Some cards) reply old new
turned_does old new cards reply few turned read =
    let counts = turned_counts old.state cards reply new.state turned in
    record {
      refined = turned;
      reads = read;
      taken = counts.0;
      cards = omega (arith, few, turned_few old.state cards reply new.state turned);
      hot = omega (arith, few, counts.1);
      left = turned.left;
      idle = λ none. absurd (cc none);
    }
