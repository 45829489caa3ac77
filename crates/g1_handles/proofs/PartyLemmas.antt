-- A party and its role.
use Rattle.std.specs.Prelude.{◌≡◌, ◌<◌, ◌∷◌}
use Rattle.g1_handles.specs.{List, [], Some, None, All, map, refl, ap, ◌∙◌, sym, subst, props, length-map, get_or-map, All-map, Option, Result, Ok, Err, OnErr, IfErr, IsErrAnd, IsSome, IsSomeAnd, ForSome, arc_value, is_prop→PathP, Race, race_id, Reason, Ghosts, Party, BelongsTo, RacerParty, SweeperParty, ReaderParty}

-- what is so of two values is so of what they equal
pub moved_to : {A B : Type 0} (P : A → B → Type 0) {a x : A} {b y : B} → a ≡ x → b ≡ y → P a b → P x y
moved_to P {a} {x} {b} {y} e f so = subst (λ v. P v y) e (subst (λ v. P a v) f so)

-- a party is its share, its counts and its role, with padding
pub same_party : {P : Type 0} {g : Ghosts P} (m n : Party P g) → m.race ≡ n.race → m.counts ≡ n.counts → m.role ≡ n.role → m.apart ≡ n.apart → m ≡ n
same_party {P} {g} m n race counts role apart = λ i. record {
  race = race i;
  role = role i;
  counts = counts i;
  apart = apart i;
  same = is_prop→PathP (λ j. ForSome (role j) (λ p. g.of p ≡ race_id (arc_value (race j)))) (λ j. hlevel props) m.same n.same i;
}

-- the same of each kind of party, as tactics apply it
pub same_racer : (m n : RacerParty) → m.race ≡ n.race → m.counts ≡ n.counts → m.role ≡ n.role → m.apart ≡ n.apart → m ≡ n
same_racer = same_party

pub same_sweeper : (m n : SweeperParty) → m.race ≡ n.race → m.counts ≡ n.counts → m.role ≡ n.role → m.apart ≡ n.apart → m ≡ n
same_sweeper = same_party

pub same_reader : (m n : ReaderParty) → m.race ≡ n.race → m.counts ≡ n.counts → m.role ≡ n.role → m.apart ≡ n.apart → m ≡ n
same_reader = same_party

pub ruleset same_parties = (same_racer, same_sweeper, same_reader)

-- a call that is refused leaves what it was made on
pub on_err : {A E P Q : Type 0} (r : Result A E) → (P → Q) → OnErr r P → OnErr r Q
on_err (Ok a) f h = h
on_err (Err e) f h = f h

-- the role of a party is of its race
pub role_is_of : {P : Type 0} {g : Ghosts P} (m : Party P g) (role : P) (race : Race) → m.role ≡ Some role → BelongsTo race (Some m) → g.of role ≡ race_id race
role_is_of m role race is of = m.same role is ∙ ap race_id of

pub none_is_some : {P : Type 0} (o : Option P) → IsSome o → o ≡ None → ⊥
none_is_some None some e = cc
none_is_some (Some role) some e = cc

-- what is seen of each role in a list is what is seen of each handle, if the roles are the handles'
pub seen_alike : {P B M : Type 0} (find : M → Option P) (f : P → B) (g : Option P → B) → ((role : P) → g (Some role) ≡ f role) → (ms : List M) (roles : List P)
    → map (λ role. Some role) roles ≡ map find ms → map f roles ≡ map (λ m. g (find m)) ms
seen_alike find f g same [] [] e = refl
seen_alike find f g same [] (role ∷ roles) e = absurd cc
seen_alike find f g same (m ∷ ms) [] e = absurd cc
seen_alike find f g same (m ∷ ms) (role ∷ roles) e =
    let first : Some role ≡ find m = cc in
    let later : map (λ role. Some role) roles ≡ map find ms = cc in
    let here : f role ≡ g (find m) = sym (same role) ∙ ap g first in
    let there = seen_alike find f g same ms roles later in
    cc

-- what is so of each of a list is so of what a function finds in each of another, if it finds that list
pub found : {A T : Type 0} (f : A → Option T) (P : T → Type 0) (xs : List A) (ys : List T) → map f xs ≡ map (λ y. Some y) ys → All P ys
    → All (λ x. IsSomeAnd (f x) P) xs
found {A} {T} f P xs ys e all k d below =
    let has : All (λ o. IsSomeAnd o P) (map f xs) = subst (All (λ o. IsSomeAnd o P)) (sym e) (All-map (λ o. IsSomeAnd o P) (λ (y : T). Some y) ys all) in
    subst (λ o. IsSomeAnd o P) (get_or-map f xs k d) (has k (f d) (subst (λ n. k < n) (sym (length-map xs f)) below))

-- what is so of a look's refusal is so of the one that is passed on
pub passed : {A B : Type 0} (Q P : Reason → Type 0) (looked : Result A Reason) (answer : Result B Reason) (e : Reason) → looked ≡ Err e → IfErr looked Q
    → IsErrAnd answer (λ x. x ≡ e) → (Q e → P e) → IfErr answer P
passed Q P looked (Ok b) e is why same so = tt
passed Q P looked (Err x) e is why same so = subst P (sym same) (so (subst (λ r. IfErr r Q) is why))
