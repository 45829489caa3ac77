-- What callers made that are handed in one after the other.
use Rattle.std.specs.Prelude.{◌≡◌, ◌+◌, ◌∷◌, ◌++◌}
use Rattle.g1_shared.specs.{ℕ, List, [], All, ap, sym, subst, ◌∙◌, CallerState, Recorded, own_record, entries_by, HasOwn, made_by, stored_by, sum_by, sum_by-append, arith}
use Rattle.atomic_table.specs.Seated.{TableId}
use Rattle.g1_records.specs.Records.{OwnRecord}
use Rattle.std.proofs.lemmas.List.Elements.{All-push}

-- one more whose record was shown
pub has_more : (xs ys : List CallerState) (x : CallerState) (own : OwnRecord) (table : TableId) (was now : Recorded) → xs ≡ ys ++ x ∷ [] → own ≡ own_record table x.counts.number x.counts.did → own.entries ≡ entries_by own.number was.entries → now ≡ was → All (HasOwn now.entries) ys → All (HasOwn now.entries) xs
has_more xs ys x own table was now is shown exact same all = subst (All (HasOwn now.entries)) (sym is) (All-push (HasOwn now.entries) ys x all
    (sym (ap (λ (r : OwnRecord). r.entries) shown) ∙ exact ∙ ap (λ (r : OwnRecord). entries_by r.number was.entries) shown ∙ ap (λ (r : Recorded). entries_by x.counts.number r.entries) (sym same)))

-- the same of all, where the records stay
pub has_on : (xs all : List CallerState) (was now : Recorded) → now ≡ was → (All (HasOwn was.entries) xs → All (HasOwn was.entries) all) → All (HasOwn now.entries) xs → All (HasOwn now.entries) all
has_on xs all was now same then = subst (λ (r : Recorded). All (HasOwn r.entries) xs → All (HasOwn r.entries) all) (sym same) then

-- the sums of what was made and stored, with one caller more
sum_last : (f : CallerState → ℕ) (xs ys : List CallerState) (x : CallerState) → xs ≡ ys ++ x ∷ [] → sum_by f xs ≡ sum_by f ys + f x
sum_last f xs ys x is =
    let more : sum_by f xs ≡ sum_by f ys + (0 + f x) = ap (sum_by f) is ∙ sum_by-append f ys (x ∷ []) in
    omega (arith, more)

pub sums_last : (xs ys : List CallerState) (x : CallerState) → xs ≡ ys ++ x ∷ []
    → (sum_by (λ (c : CallerState). made_by c.counts) xs ≡ sum_by (λ (c : CallerState). made_by c.counts) ys + made_by x.counts) × (sum_by (λ (c : CallerState). stored_by c.counts) xs ≡ sum_by (λ (c : CallerState). stored_by c.counts) ys + stored_by x.counts)
sums_last xs ys x is = (sum_last (λ c. made_by c.counts) xs ys x is, sum_last (λ c. stored_by c.counts) xs ys x is)
