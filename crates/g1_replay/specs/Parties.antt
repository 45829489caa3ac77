-- Racers and sweepers at desks, each with its end of a queue of completed buffers.
use Rattle.std.specs.Prelude.{◌≡◌, ◌∷◌, ◌++◌}
use Rattle.g1_replay.specs.Prelude.{◌∙◌, ℕ, List, [], Bool, true, false, refl, ap}
use Rattle.g1_replay.specs.Prelude.{sym, array_vec_len, Line, line_home, sender_home, taker_home}
use Rattle.g1_replay.specs.Prelude.{sender_rights, taker_rights, Race, Start, StoreHistory, null_of}
use Rattle.g1_replay.specs.Prelude.{gains_store, word_of, race_id, race_shape, racer_race}
use Rattle.g1_replay.specs.Prelude.{racer_start, racer_view, sweeper_race, sweeper_start, Ask}
use Rattle.g1_replay.specs.Prelude.{AskStore, AskFlush, AskWork}
use Rattle.atomic_table.specs.Seated.{TableId}
use Rattle.g1_race_words.specs.declared.view.RaceShape.{RaceShape}
use Rattle.g1_replay.specs.declared.races.desk.Party.{Party}
use Rattle.g1_replay.specs.declared.races.desk.Party.TheVariants.{Racing, Sweeping}

-- the race that a party is of
abbrev pub party_race : Party → TableId × RaceShape
party_race (Racing r s) = racer_race r
party_race (Sweeping w t) = sweeper_race w

-- what the race began with, as it knows it
abbrev pub party_start : Party → Start
party_start (Racing r s) = racer_start r
party_start (Sweeping w t) = sweeper_start w

-- the queue that its end is of, and the shares of the queue that this end has
abbrev pub party_home : Party → TableId
party_home (Racing r s) = sender_home s
party_home (Sweeping w t) = taker_home t

abbrev pub party_rights : Party → ℕ
party_rights (Racing r s) = sender_rights s
party_rights (Sweeping w t) = taker_rights t

abbrev pub is_racer : Party → Bool
is_racer (Racing r s) = true
is_racer (Sweeping w t) = false

-- how many cards its log has
abbrev pub party_logged : Party → ℕ
party_logged (Racing r s) = array_vec_len r.log
party_logged (Sweeping w t) = 0

-- what it has stored, under its number, the newest first
abbrev pub party_histories : Party → List StoreHistory
party_histories (Racing r s) = (racer_view r).histories
party_histories (Sweeping w t) = []

-- a party of this race, which began with nulls, with an end of this queue
abbrev pub IsPartyOf : Race → Line → Party → Type 0
IsPartyOf race line m = (party_race m ≡ race_id race) × (party_home m ≡ line_home line)
    × (party_start m ≡ null_of (race_shape race))

-- what has been stored once these calls were made
abbrev pub histories_after : List Ask → List StoreHistory → List StoreHistory
histories_after [] hs = hs
histories_after (AskStore slot target ∷ asks) hs =
    histories_after asks (gains_store slot (word_of target) hs)
histories_after (AskFlush ∷ asks) hs = histories_after asks hs
histories_after (AskWork ∷ asks) hs = histories_after asks hs

-- A party made these calls: it is the same party with the same end of the queue, and it has
-- stored just what was asked of it, in order.
pub record PartyDid (m : Party) (asks : List Ask) (n : Party) : Type 0 where
  pub race : party_race n ≡ party_race m
  pub start : party_start n ≡ party_start m
  pub home : party_home n ≡ party_home m
  pub rights : party_rights n ≡ party_rights m
  pub kind : is_racer n ≡ is_racer m
  pub stored : party_histories n ≡ histories_after asks (party_histories m)

after_both : (xs ys : List Ask) (hs : List StoreHistory)
    → histories_after (xs ++ ys) hs ≡ histories_after ys (histories_after xs hs)
after_both [] ys hs = refl
after_both (AskStore slot target ∷ xs) ys hs =
    after_both xs ys (gains_store slot (word_of target) hs)
after_both (AskFlush ∷ xs) ys hs = after_both xs ys hs
after_both (AskWork ∷ xs) ys hs = after_both xs ys hs

pub party_did_none : (m : Party) → PartyDid m [] m
party_did_none m =
    record { race = refl; start = refl; home = refl; rights = refl; kind = refl; stored = refl }

pub party_did_then : (m n o : Party) (xs ys : List Ask) → PartyDid m xs n → PartyDid n ys o
    → PartyDid m (xs ++ ys) o
party_did_then m n o xs ys p q = record {
  race = q.race ∙ p.race;
  start = q.start ∙ p.start;
  home = q.home ∙ p.home;
  rights = q.rights ∙ p.rights;
  kind = q.kind ∙ p.kind;
  stored = q.stored ∙ ap (λ (hs : List StoreHistory). histories_after ys hs) p.stored
      ∙ sym (after_both xs ys (party_histories m));
}
