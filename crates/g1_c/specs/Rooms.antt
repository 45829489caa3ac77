-- The calls on what each kind of handle holds: by the word that one returns, and by the handle
-- before it and after it.
use Rattle.g1_c.specs.Prelude.{ℕ, Reason, Machine, Between, OfOpen, IsCallRefused, Pause, Handle}
use Rattle.g1_c.specs.Prelude.{IsSameHeap, IsHeapRefused, HeapHandle, Racing, racing_in}
use Rattle.g1_c.specs.Prelude.{RacerHandle, OfRacer, ReaderAt, reading_in, ReaderHandle, OfReader}
use Rattle.g1_c.specs.Prelude.{IsRoleRefused}
use Rattle.g1_c.specs.Calls.{called, IsMadeOrRefused, IsTold}

-- a call on a core
abbrev pub OnCore : ℕ → ℕ → Handle → Handle → Type 0 → (Machine → Machine → Type 0)
    → (Machine → Reason → Type 0) → Type 0
OnCore most word old new Untold Does Why =
    IsMadeOrRefused most (called word old.value new.value) Untold
    (Between old.value new.value Does) (IsCallRefused old.value Why)

-- a call on a heap at a pause
abbrev pub OnHeap : ℕ → ℕ → HeapHandle → HeapHandle → Type 0 → (Pause → Pause → Type 0)
    → (Pause → Reason → Type 0) → Type 0
OnHeap most word old new Untold Does Why =
    IsMadeOrRefused most (called word old.value new.value) Untold
    (IsSameHeap old.value new.value Does) (IsHeapRefused old.value Why)

-- a call by a racer
abbrev pub OnRacer : ℕ → ℕ → RacerHandle → RacerHandle → Type 0 → (Racing → Racing → Type 0)
    → (Racing → Reason → Type 0) → Type 0
OnRacer most word old new Untold Does Why =
    IsMadeOrRefused most (called word old.value new.value) Untold
    (OfRacer old.value (λ a. OfRacer new.value (λ b. Does a b)))
    (IsRoleRefused racing_in old.value Why)

-- a question to a core
abbrev pub ToldByCore : {A : Type 0} → ℕ → Handle → Handle → A → Type 0 → (A → Machine → Type 0)
    → (Machine → Reason → Type 0) → Type 0
ToldByCore word old new told Untold Is Why =
    IsTold (called word old.value new.value) told Untold
    (λ a. OfOpen old.value (λ core. Is a core)) (IsCallRefused old.value Why)

-- a question to a heap at a pause
abbrev pub ToldByHeap : {A : Type 0} → ℕ → HeapHandle → HeapHandle → A → Type 0
    → (A → Pause → Type 0) → (Pause → Reason → Type 0) → Type 0
ToldByHeap word old new told Untold Is Why =
    IsTold (called word old.value new.value) told Untold
    (λ a. IsSameHeap old.value new.value (λ old new. Is a old)) (IsHeapRefused old.value Why)

-- a question to a reader
abbrev pub ToldByReader : {A : Type 0} → ℕ → ReaderHandle → ReaderHandle → A → Type 0
    → (A → ReaderAt → Type 0) → (ReaderAt → Reason → Type 0) → Type 0
ToldByReader word old new told Untold Is Why =
    IsTold (called word old.value new.value) told Untold
    (λ a. OfReader old.value (λ reader. Is a reader)) (IsRoleRefused reading_in old.value Why)
