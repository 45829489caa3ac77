-- The rule of the line of completed buffers. A state is what the queue holds, oldest first, and a
-- view for each pass.
use Rattle.std.specs.Prelude.{◌≡◌, ◌+◌, ◌-◌, ◌<◌, ◌≤◌, ◌&&◌, ◌==◌, ◌∷◌, ◌++◌}
use Rattle.g1_log.specs.Prelude.{ℕ, Bool, true, false, nat_lt, not, cond, List, [], sum_by, All}
use Rattle.g1_log.specs.Prelude.{some, get_elem?}
use Rattle.g1_log.specs.declared.buffer.Buffer.{Buffer}
use Rattle.g1_log.specs.declared.parcel.Parcel.{Parcel}
use Rattle.g1_log.specs.declared.view.Sent.{Sent}
use Rattle.g1_log.specs.declared.view.PassView.{PassView}

-- buffer b of sender i, which is its buffer k
abbrev pub parcel : ℕ → ℕ → Buffer → Parcel
parcel i k b = record { sender = i; number = k; buffer = b }

-- what sender i has put
abbrev pub sent : ℕ → List Buffer → Sent
sent i bs = record { number = i; buffers = bs }

-- the parcels of sender i: each of these buffers, numbered from k on
abbrev pub numbered : ℕ → ℕ → List Buffer → List Parcel
numbered i k [] = []
numbered i k (b ∷ bs) = parcel i k b ∷ numbered i (k + 1) bs

-- what the buffers that a view has put weigh, each as the parcel of its sender with its place as
-- its number
abbrev pub put_weight : (Parcel → ℕ) → PassView → ℕ
put_weight h v = sum_by (λ s. sum_by h (numbered s.number 0 s.buffers)) v.sent

-- what the parcels that a view has taken weigh
abbrev pub taken_weight : (Parcel → ℕ) → PassView → ℕ
taken_weight h v = sum_by (sum_by h) v.taken

-- 1 where the test passes, else 0
abbrev pub one_if : Bool → ℕ
one_if b = cond b 1 0

-- how often a view has sender number i: as a sender of that number, or as one that may still give
-- it out
abbrev pub holding : ℕ → PassView → ℕ
holding i v =
    one_if (v.makes && not (nat_lt i v.made)) + sum_by (λ (s : Sent). one_if (s.number == i)) v.sent

-- the numbers of each sender rise: each parcel's number is below those of the later parcels of its
-- sender
abbrev pub Rises : List Parcel → Type 0
Rises [] = Unit {0}
Rises (p ∷ ps) = All (λ q. q.sender ≡ p.sender → p.number < q.number) ps × Rises ps

-- all rights of a line. They are shares: each sender and each taker has at least one, so who has
-- all of them has all senders and takers
abbrev pub whole : ℕ
whole = 20

-- what the rule says of one view, where the queue holds these parcels
pub record Fits (items : List Parcel) (v : PassView) : Type 0 where
  -- a view with no right has put and taken nothing
  pub idle : v.rights ≡ 0 → (v.sent ≡ []) × (v.taken ≡ [])
  -- the numbers of a sender rise in each list of parcels that were taken, and go on to rise in the
  -- queue
  pub rises : All (λ l. Rises (l ++ items)) v.taken
  -- a view that has ended the line has all rights, and knows what the queue holds
  pub settled : v.ended ≡ true → (v.rights ≡ whole) × (v.rest ≡ items)

-- The rule of the line: each parcel that was put stands once, with its buffer, in the queue or in a
-- taker's list, nothing else stands there, and the numbers of each sender rise
pub record IsDelivered (items : List Parcel) (views : List PassView) : Type 0 where
  pub rights : sum_by (λ v. v.rights) views ≡ whole
  -- no sender number is in two views
  pub numbers : (i : ℕ) → sum_by (holding i) views ≤ 1
  -- what was put is what was taken and what the queue holds, however parcels are weighed: each
  -- once, and nothing else
  pub balance : (h : Parcel → ℕ)
      → sum_by (put_weight h) views ≡ sum_by (taken_weight h) views + sum_by h items
  -- the numbers of a sender rise in the queue
  pub rises : Rises items
  pub each : (port : ℕ) (v : PassView) → get_elem? views port ≡ some v → Fits items v

-- a view by its fields
abbrev pub view_with : Bool → ℕ → Bool → ℕ → List Sent → List (List Parcel) → Bool → List Parcel
    → PassView
view_with f r m n s t e l = record {
  fresh = f;
  rights = r;
  makes = m;
  made = n;
  sent = s;
  taken = t;
  ended = e;
  rest = l;
}

-- a pass that came by itself has no right
abbrev pub newcomer : PassView
newcomer = view_with true 0 false 0 [] [] false []

-- the first pass has all rights and all sender numbers, and takes
abbrev pub keeper : PassView
keeper = view_with false whole true 0 [] ([] ∷ []) false []

-- the views, where a first one that is as it came is the keeper
abbrev pub with_keeper : List PassView → List PassView
with_keeper [] = []
with_keeper (v ∷ vs) = cond v.fresh keeper v ∷ vs

-- The rule of the line, as the queue keeps it between any two steps
abbrev pub IsLineState : List Parcel → List PassView → Type 0
IsLineState items views = IsDelivered items (with_keeper views)

-- there is a state by the rule of the line in which one view is v and the queue holds these parcels
abbrev pub SeenBy : PassView → List Parcel → Type 0
SeenBy v items =
    (views : List PassView) × (port : ℕ) × IsDelivered items views × (get_elem? views port ≡ some v)

-- the buffers and the parcels of a view with one list
abbrev pub buffers_of : List Sent → List Buffer
buffers_of [] = []
buffers_of (s ∷ ss) = s.buffers

abbrev pub list_of : List (List Parcel) → List Parcel
list_of [] = []
list_of (l ∷ ls) = l

-- what a sender has put
abbrev pub put_by : PassView → List Buffer
put_by v = buffers_of v.sent

-- what a taker has taken
abbrev pub taken_by : PassView → List Parcel
taken_by v = list_of v.taken

-- the view of a sender of this number, and of a taker
pub record IsSenderView (i : ℕ) (v : PassView) : Type 0 where
  pub sends : v.sent ≡ sent i (put_by v) ∷ []
  pub takes : v.taken ≡ []
  pub makes : v.makes ≡ false
  pub right : 0 < v.rights
  pub runs : v.ended ≡ false
  pub known : v.fresh ≡ false

pub record IsTakerView (v : PassView) : Type 0 where
  pub sends : v.sent ≡ []
  pub takes : v.taken ≡ taken_by v ∷ []
  pub right : 0 < v.rights
  pub runs : v.ended ≡ false
  pub known : v.fresh ≡ false

-- the view after a put of sender i
abbrev pub after_put : ℕ → PassView → Parcel → PassView
after_put i v x =
    view_with v.fresh v.rights v.makes v.made
    (sent i (put_by v ++ x.buffer ∷ []) ∷ []) v.taken v.ended v.rest

-- the view after a take
abbrev pub after_take : PassView → Parcel → PassView
after_take v x =
    view_with v.fresh v.rights v.makes v.made v.sent ((taken_by v ++ x ∷ []) ∷ []) v.ended v.rest

-- the view of the pass that makes the ends, with these rights left and this many senders made
abbrev pub maker : ℕ → ℕ → PassView
maker r n = view_with false r true n [] ([] ∷ []) false []

-- the maker's view after it has made a sender, and that sender's view
abbrev pub sender_made : PassView → PassView
sender_made v = view_with v.fresh (v.rights - 1) v.makes (v.made + 1) v.sent v.taken v.ended v.rest

abbrev pub new_sender : ℕ → PassView
new_sender i = view_with false 1 false 0 (sent i [] ∷ []) [] false []

-- the same for a taker
abbrev pub taker_made : PassView → PassView
taker_made v = view_with v.fresh (v.rights - 1) v.makes v.made v.sent v.taken v.ended v.rest

abbrev pub new_taker : PassView
new_taker = view_with false 1 false 0 [] ([] ∷ []) false []

-- two views as one
abbrev pub joined : PassView → PassView → PassView
joined v u =
    view_with false (v.rights + u.rights) false 0 (v.sent ++ u.sent) (v.taken ++ u.taken) false []

-- the view of a pass that was joined into another
abbrev pub spent : PassView
spent = view_with false 0 false 0 [] [] false []

-- What a view with all rights knows of what the queue holds: it is what this view has put and not
-- taken, however parcels are weighed, and the numbers of a sender rise in it, also after those of
-- each list that was taken. No two of its senders have one number
pub record IsLeft (v : PassView) (items : List Parcel) : Type 0 where
  pub balance : (h : Parcel → ℕ) → put_weight h v ≡ taken_weight h v + sum_by h items
  pub rises : Rises items
  pub lists : All (λ l. Rises (l ++ items)) v.taken
  pub numbers : (i : ℕ) → sum_by (λ (s : Sent). one_if (s.number == i)) v.sent ≤ 1

-- the view that has ended the line, after a take, where these parcels are left
abbrev pub ended_view : PassView → Parcel → List Parcel → PassView
ended_view v x l = view_with v.fresh v.rights v.makes v.made v.sent ((x ∷ []) ∷ v.taken) true l
