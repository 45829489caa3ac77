-- Lists of threads and jobs with one more, and the calls of a script.
use Rattle.std.specs.Prelude.{◌≡◌, ◌<◌, ◌≤◌, ◌+◌, ◌-◌, ◌∷◌, ◌++◌}
use Rattle.std.proofs.Common.{drop, drop-cons, get_or, take_all}
use Rattle.std.proofs.lemmas.List.{take-append-drop, replicate-append-replicate, length-take, take_more}
use Rattle.g1_steps.specs.{ℕ, suc, List, [], length, length-map, map, replicate, length-replicate, take, arith, refl, sym, ap, subst, ◌∙◌, append_assoc, map-append, AllZip, Refusal, Step, ask_of, asks_of, AskWork, AreAnswered, IsCutShort}
use Rattle.g1_steps.specs.Ask.{Ask}

-- one thread more was started, with the first of the jobs that were left
pub started_more : {H J : Type 0} (f : H → J) (hs now : List H) (h : H) (j : J) (rest next all : List J) → map f hs ++ rest ≡ all → rest ≡ j ∷ next → now ≡ hs ++ h ∷ [] → f h ≡ j → map f now ++ next ≡ all
started_more f hs now h j rest next all p q r e =
    ap (λ xs. map f xs ++ next) r ∙ ap (λ xs. xs ++ next) (map-append f hs (h ∷ [])) ∙ append_assoc (map f hs) (f h ∷ []) next ∙ ap (λ x. map f hs ++ (x ∷ next)) e ∙ ap (λ xs. map f hs ++ xs) (sym q) ∙ p

-- one more, beside one more
pub all_zip_push : {A B : Type 0} (R : A → B → Type 0) (xs : List A) (ys : List B) (x : A) (y : B) → AllZip R xs ys → R x y → AllZip R (xs ++ x ∷ []) (ys ++ y ∷ [])
all_zip_push R [] [] x y p r = (r, tt)
all_zip_push R [] (b ∷ ys) x y p r = absurd p
all_zip_push R (a ∷ xs) [] x y p r = absurd p
all_zip_push R (a ∷ xs) (b ∷ ys) x y p r = (p.0, all_zip_push R xs ys x y p.1 r)

-- one call more was answered
pub answered_more : {X : Type 0} (answered : X → Ask → X → Type 0) (d mid e : X) (asks now : List Ask) (ask : Ask) → AreAnswered answered d asks mid → answered mid ask e → now ≡ asks ++ ask ∷ [] → AreAnswered answered d now e
answered_more {X} answered d mid e asks now ask h one is = subst (λ l. AreAnswered answered d l e) (sym is) (push d asks h)
  where
    push : (d : X) (asks : List Ask) → AreAnswered answered d asks mid → AreAnswered answered d (asks ++ ask ∷ []) e
    push d [] h = (e, subst (λ x. answered x ask e) h one, refl)
    push d (x ∷ xs) h = (h.0, h.1, push h.0 xs h.2)

-- the calls of one step more
pub asks_more : (xs : List Step) (i : ℕ) (step : Step) → i < length xs → step ≡ get_or xs i step → asks_of (take (i + 1) xs) ≡ asks_of (take i xs) ++ ask_of step ∷ []
asks_more xs i step below is = ap asks_of (take_more xs i step below ∙ ap (λ s. take i xs ++ s ∷ []) (sym is)) ∙ map-append ask_of (take i xs) (step ∷ [])

pub rounds_more : (n : ℕ) → replicate (n + 1) AskWork ≡ replicate n AskWork ++ AskWork ∷ []
rounds_more n = sym (replicate-append-replicate n 1 AskWork)

-- a script was cut short at a step, or at a round
split_at : (xs : List Step) (i : ℕ) (d : Step) → i < length xs → asks_of xs ≡ asks_of (take i xs) ++ ask_of (get_or xs i d) ∷ asks_of (drop (suc i) xs)
split_at xs i d below = ap asks_of (sym (take-append-drop i xs) ∙ ap (λ l. take i xs ++ l) (drop-cons xs i d below)) ∙ map-append ask_of (take i xs) (get_or xs i d ∷ drop (suc i) xs)

pub answered_all : {X : Type 0} (answered : X → Ask → X → Type 0) (d e : X) (steps : List Step) (i : ℕ) → length steps ≤ i → AreAnswered answered d (asks_of (take i steps)) e → AreAnswered answered d (asks_of steps) e
answered_all answered d e steps i all h = subst (λ l. AreAnswered answered d (asks_of l) e) (take_all i steps all) h

pub cut_at : {X : Type 0} (answered : X → Ask → X → Type 0) (refuses : X → Ask → Refusal → X → Type 0) (steps : List Step) (i made : ℕ) (step : Step) (d mid e : X) (why : Refusal) → made ≡ i → i < length steps → step ≡ get_or steps i step → AreAnswered answered d (asks_of (take i steps)) mid → refuses mid (ask_of step) why e → IsCutShort answered refuses (asks_of steps) d made why e
cut_at answered refuses steps i made step d mid e why many below is all last = record {
  done = asks_of (take i steps);
  ask = ask_of step;
  rest = asks_of (drop (suc i) steps);
  mid = mid;
  asks_are = split_at steps i step below ∙ ap (λ s. asks_of (take i steps) ++ ask_of s ∷ asks_of (drop (suc i) steps)) (sym is);
  many = omega (arith, many, below, length-map (take i steps) ask_of, length-take i steps);
  answers = all;
  refusal = last;
}

pub cut_round : {X : Type 0} (answered : X → Ask → X → Type 0) (refuses : X → Ask → Refusal → X → Type 0) (rounds i : ℕ) (d mid e : X) (why : Refusal) → i < rounds → AreAnswered answered d (replicate i AskWork) mid → refuses mid AskWork why e → IsCutShort answered refuses (replicate rounds AskWork) d i why e
cut_round answered refuses rounds i d mid e why below all last =
    let more : i + suc (rounds - i - 1) ≡ rounds = omega (arith, below) in
    record {
      done = replicate i AskWork;
      ask = AskWork;
      rest = replicate (rounds - i - 1) AskWork;
      mid = mid;
      asks_are = ap (λ n. replicate n AskWork) (sym more) ∙ sym (replicate-append-replicate i (suc (rounds - i - 1)) AskWork);
      many = sym (length-replicate i AskWork);
      answers = all;
      refusal = last;
    }
