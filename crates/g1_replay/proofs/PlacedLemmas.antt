-- Lists whose items fit their places, and lists of parties, by kinds.
use Rattle.std.specs.Prelude.{◌≡◌, ◌+◌, ◌∷◌, ◌++◌}
use Rattle.g1_replay.specs.{◌∙◌, Racer, Sender, Sweeper, Taker, Returned, HasBack, ℕ, suc, List, [], length, map, ap, sym, subst, refl, arith, append_assoc, All, Option, append-nil, sum_by, filter_map, filter_map-append, All-nil, All-cons, All-head, All-tail, sum_by-cons, sum_by_push, Line, sender_rights, taker_rights, IsSenderOf, IsTakerOf, null_of, race_id, racer_race, racer_start, sweeper_race, sweeper_start, Party, Racing, Sweeping, IsPartyOf, party_rights, AllFrom, racer_in, sender_in, sweeper_in, taker_in}
use Rattle.std.proofs.lemmas.List.{nil_from_length}
use Rattle.g1_race.specs.declared.race.Race.{Race}

module _ {A : Type 0} (P : ℕ → A → Type 0) where
  pub all_from_push : (k : ℕ) (xs : List A) (x : A) → AllFrom P k xs → P (k + length xs) x → AllFrom P k (xs ++ x ∷ [])
  all_from_push k [] x all h = (subst (λ n. P n x) (let e : k + 0 ≡ k = omega arith in e) h, tt)
  all_from_push k (y ∷ ys) x all h = (all.0, all_from_push (suc k) ys x all.1 (subst (λ n. P n x) (let e : k + suc (length ys) ≡ suc k + length ys = omega arith in e) h))

  -- one item more, whose place is how many there were
  pub all_from_next : (xs now : List A) (n : ℕ) (x : A) → now ≡ xs ++ x ∷ [] → n ≡ length xs → AllFrom P 0 xs → P n x → AllFrom P 0 now
  all_from_next xs now n x e len all h = subst (AllFrom P 0) (sym e) (all_from_push 0 xs x all (subst (λ m. P m x) (let f : n ≡ 0 + length xs = omega (arith, len) in f) h))

  pub all_from_rest : (k : ℕ) (x : A) (rest xs : List A) → xs ≡ x ∷ rest → AllFrom P k xs → P k x × AllFrom P (suc k) rest
  all_from_rest k x rest xs e all = subst (AllFrom P k) e all

-- no item is left
pub all_moved : {B : Type 0} (old rest all : List B) → length rest ≡ 0 → old ++ rest ≡ all → old ≡ all
all_moved old rest all e was = sym (append-nil old) ∙ ap (λ l. old ++ l) (sym (nil_from_length rest e)) ∙ was

-- one party more is back
pub back_more : {B : Type 0} (kind : Party → Option B) (old new one : List B) (parties : List Party) (m : Party) → old ≡ filter_map kind parties → new ≡ old ++ one → filter_map kind (m ∷ []) ≡ one → new ≡ filter_map kind (parties ++ m ∷ [])
back_more kind old new one parties m was e is = e ∙ ap (λ l. l ++ one) was ∙ ap (λ l. filter_map kind parties ++ l) (sym is) ∙ sym (filter_map-append kind parties (m ∷ []))

-- the first of the jobs that are left is behind those that were
pub next_behind : {D : Type 0} (party : D → Party) (parties : List Party) (ds rest : List D) (d : D) (m : Party) (all : List Party) → ds ≡ d ∷ rest → m ≡ party d → parties ++ map party ds ≡ all → (parties ++ m ∷ []) ++ map party rest ≡ all
next_behind party parties ds rest d m all q e was =
    append_assoc parties (m ∷ []) (map party rest) ∙ ap (λ x. parties ++ x ∷ map party rest) e ∙ ap (λ l. parties ++ map party l) (sym q) ∙ was

-- what parties of this race, which began with nulls, and of this queue bring back
pub record AreBack (race : Race) (line : Line) (ms : List Party) (rs : List Racer) (ss : List Sender) (ws : List Sweeper) (ts : List Taker) : Type 0 where
  pub racers : All (λ r. (racer_race r ≡ race_id race) × (racer_start r ≡ null_of race.shape)) rs
  pub senders : All (IsSenderOf line) ss
  pub sweepers : All (λ w. (sweeper_race w ≡ race_id race) × (sweeper_start w ≡ null_of race.shape)) ws
  pub takers : All (IsTakerOf line) ts
  pub many : length rs + length ws ≡ length ms
  pub rights : sum_by sender_rights ss + sum_by taker_rights ts ≡ sum_by party_rights ms

module _ (race : Race) (line : Line) where
  sorted : (ms : List Party) → All (IsPartyOf race line) ms → AreBack race line ms (filter_map racer_in ms) (filter_map sender_in ms) (filter_map sweeper_in ms) (filter_map taker_in ms)
  sorted [] all = record { racers = All-nil (λ r. (racer_race r ≡ race_id race) × (racer_start r ≡ null_of race.shape)); senders = All-nil (IsSenderOf line); sweepers = All-nil (λ w. (sweeper_race w ≡ race_id race) × (sweeper_start w ≡ null_of race.shape)); takers = All-nil (IsTakerOf line); many = refl; rights = refl }
  sorted (Racing r s ∷ ms) all =
      let of = All-head (IsPartyOf race line) (Racing r s) ms all in
      let rest = sorted ms (All-tail (IsPartyOf race line) (Racing r s) ms all) in
      record {
        racers = All-cons (λ r. (racer_race r ≡ race_id race) × (racer_start r ≡ null_of race.shape)) r _ (of.0, of.2) rest.racers;
        senders = All-cons (IsSenderOf line) s _ of.1 rest.senders;
        sweepers = rest.sweepers;
        takers = rest.takers;
        many = omega (arith, rest.many);
        rights = omega (arith, rest.rights, sum_by-cons sender_rights s (filter_map sender_in ms), sum_by-cons party_rights (Racing r s) ms);
      }
  sorted (Sweeping w t ∷ ms) all =
      let of = All-head (IsPartyOf race line) (Sweeping w t) ms all in
      let rest = sorted ms (All-tail (IsPartyOf race line) (Sweeping w t) ms all) in
      record {
        racers = rest.racers;
        senders = rest.senders;
        sweepers = All-cons (λ w. (sweeper_race w ≡ race_id race) × (sweeper_start w ≡ null_of race.shape)) w _ (of.0, of.2) rest.sweepers;
        takers = All-cons (IsTakerOf line) t _ of.1 rest.takers;
        many = omega (arith, rest.many);
        rights = omega (arith, rest.rights, sum_by-cons taker_rights t (filter_map taker_in ms), sum_by-cons party_rights (Sweeping w t) ms);
      }

  pub are_back : (ms : List Party) (returned : Returned) → HasBack ms returned → All (IsPartyOf race line) ms → AreBack race line ms returned.racers.items returned.senders.items returned.sweepers.items returned.takers.items
  are_back ms returned b of = rw (b.racers, b.senders, b.sweepers, b.takers) (sorted ms of)

-- rights that go from an end into a party
pub rights_move : {Y : Type 0} (h : Y → ℕ) (ms now : List Party) (ys rest : List Y) (m : Party) (y : Y) (total : ℕ) → now ≡ ms ++ m ∷ [] → ys ≡ rest ++ y ∷ [] → party_rights m ≡ h y → sum_by party_rights ms + sum_by h ys ≡ total
    → sum_by party_rights now + sum_by h rest ≡ total
rights_move h ms now ys rest m y total p q e was =
    let a : sum_by party_rights now ≡ sum_by party_rights ms + party_rights m = ap (λ l. sum_by party_rights l) p ∙ sum_by_push party_rights ms m in
    let b : sum_by h ys ≡ sum_by h rest + h y = ap (λ l. sum_by h l) q ∙ sum_by_push h rest y in
    omega (arith, a, b, e, was)
