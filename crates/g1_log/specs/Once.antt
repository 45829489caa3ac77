-- What the rule of the line says of each single parcel.
use Rattle.std.specs.Prelude.{◌≡◌, ◌≢◌, ◌+◌, ◌<◌, ◌&&◌, ◌==◌, ◌∷◌, ◌++◌}
use Rattle.g1_log.specs.Prelude.{ℕ, Bool, List, length, sum_by, All, some, get_elem?}
use Rattle.g1_log.specs.declared.buffer.Buffer.{Buffer}
use Rattle.g1_log.specs.declared.parcel.Parcel.{Parcel}
use Rattle.g1_log.specs.declared.view.Sent.{Sent}
use Rattle.g1_log.specs.declared.view.PassView.{PassView}
use Rattle.g1_log.specs.Line.{one_if, taken_weight, put_by, IsSenderView, IsDelivered}

-- 1 for parcel k of sender i with a buffer that passes the test, else 0
abbrev pub named : ℕ → ℕ → (Buffer → Bool) → Parcel → ℕ
named i k test q = one_if (((q.sender == i) && (q.number == k)) && test q.buffer)

-- how many such parcels the takers' lists and the queue hold together
abbrev pub standing : (Parcel → ℕ) → List Parcel → List PassView → ℕ
standing h items views = sum_by (taken_weight h) views + sum_by h items

-- Of each buffer b that sender i has put, at place k, exactly one parcel (i, k) stands in the
-- takers' lists and the queue, and it has that buffer: whatever test there is, the buffer of the
-- one that stands passes where b does
abbrev pub EachOnce : List Parcel → List PassView → Type 0
EachOnce items views =
    (port i : ℕ) (v : PassView) (before after : List Buffer) (b : Buffer) (test : Buffer → Bool)
    → get_elem? views port ≡ some v → IsSenderView i v
    → put_by v ≡ before ++ b ∷ after
    → standing (named i (length before) test) items views ≡ one_if (test b)

-- and no other parcel of that sender stands there
abbrev pub NoOther : List Parcel → List PassView → Type 0
NoOther items views = (port i : ℕ) (v : PassView) → get_elem? views port ≡ some v → IsSenderView i v
    → All (λ q. q.sender ≡ i → q.number < length (put_by v)) items
    × ((other : ℕ) (u : PassView) → get_elem? views other ≡ some u
    → All (λ l. All (λ q. q.sender ≡ i → q.number < length (put_by v)) l) u.taken)

-- how many senders of number i a view has
abbrev pub senders_numbered : ℕ → PassView → ℕ
senders_numbered i v = sum_by (λ (s : Sent). one_if (s.number == i)) v.sent

-- nor does any parcel of a number that no sender has
abbrev pub NoStranger : List Parcel → List PassView → Type 0
NoStranger items views = (i : ℕ) → sum_by (senders_numbered i) views ≡ 0
    → All (λ q. q.sender ≢ i) items × ((other : ℕ) (u : PassView) → get_elem? views other ≡ some u
    → All (λ l. All (λ q. q.sender ≢ i) l) u.taken)

-- In each state by the rule of the line each parcel that was put stands once, with its buffer, and
-- no other does
abbrev pub EachParcelStandsOnce : Type 0
EachParcelStandsOnce =
    (items : List Parcel) (views : List PassView) → IsDelivered items views
    → EachOnce items views × NoOther items views × NoStranger items views
