-- Readers of a pause, behind their handles and in a list.
use Rattle.std.specs.Prelude.{◌≡◌, ◌<◌}
use Rattle.g1_handles.specs.{List, Some, None, All, map, sym, ap, subst, Option, IsSomeAnd, length-map, get_or-map, All-map, Race, race_id, race_layout, race_shape, Pause, ended, start_at, table_of, Known, known, ReaderParty, role_in, BelongsTo, IsReaderAt, AreReadersAt}
use Rattle.g1_handles.proofs.PartyLemmas.{found}

-- what every reader of the pause knows
abbrev pub KnowsPause : Pause → Known → Type 0
KnowsPause p r = r ≡ known p.table_id (start_at p)

weaker : {A : Type 0} (P Q : A → Type 0) (o : Option A) → ((x : A) → P x → Q x) → IsSomeAnd o P → IsSomeAnd o Q
weaker P Q None so is = is
weaker P Q (Some x) so is = so x is

at_pause : (race : Race) (p : Pause) (r : Known) → race_id race ≡ (p.table_id, p.shape) → race_layout race ≡ p.layout → KnowsPause p r → IsReaderAt race p r
at_pause race p r id laid is =
    let shape : race_shape race ≡ p.shape = ap (λ z. z.1) id in
    record { knows = is; table = λ i. table_of (ended (laid i) (shape i) (is i).start.words) }

-- handles that got readers of the pause, of this race, have such readers
pub handed_out : (race : Race) (p : Pause) (ms : List (Option ReaderParty)) (roles : List Known) → race_id race ≡ (p.table_id, p.shape) → race_layout race ≡ p.layout
    → map role_in ms ≡ map (λ r. Some r) roles → All (KnowsPause p) roles → All (BelongsTo race) ms → AreReadersAt race p ms
handed_out race p ms roles id laid is know of k d below =
    (of k d below, weaker (KnowsPause p) (IsReaderAt race p) _ (λ r knows. at_pause race p r id laid knows) (found role_in (KnowsPause p) ms roles is know k d below))

-- readers of the pause are of its race
pub all_of_race : (race : Race) (p : Pause) (ms : List (Option ReaderParty)) → AreReadersAt race p ms → All (BelongsTo race) ms
all_of_race race p ms all k d below = (all k d below).0

-- and know what it has
pub all_know : (race : Race) (p : Pause) (ms : List (Option ReaderParty)) (roles : List Known) → map (λ r. Some r) roles ≡ map role_in ms
    → AreReadersAt race p ms → All (KnowsPause p) roles
all_know race p ms roles is all k d below =
    let has : All (λ o. IsSomeAnd o (KnowsPause p)) (map role_in ms) = All-map (λ o. IsSomeAnd o (KnowsPause p)) role_in ms (λ k d below. weaker (IsReaderAt race p) (KnowsPause p) _ (λ r at. at.knows) (all k d below).1) in
    let there : All (λ o. IsSomeAnd o (KnowsPause p)) (map (λ r. Some r) roles) = subst (All (λ o. IsSomeAnd o (KnowsPause p))) (sym is) has in
    subst (λ o. IsSomeAnd o (KnowsPause p)) (get_or-map (λ (r : Known). Some r) roles k d) (there k (Some d) (subst (λ n. k < n) (sym (length-map roles (λ (r : Known). Some r))) below))
