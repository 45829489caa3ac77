-- What a race writes.
use Rattle.std.specs.Prelude.{◌≡◌, ◌++◌}
use Rattle.g1_replay.specs.{◌∙◌, ℕ, List, [], refl, subst, ap, Option, inl, inr, Result, Err, IfErr, count_by, Shape, Machine, Table, Ended, refs_of, table_of, Command, stores_text, puts_none, Stop, BookFull, AreDrains, drains, core_draining, at, HasDrained, MayStop, PrintsSome, written_by, RaceRan, is_store_command, IsTableLeftBy, IsUnstarted}
use Rattle.g1_replay.proofs.CoreDrainLemmas.{are_exact, from_itself}
use Rattle.g1_replay.proofs.RanLemmas.{drains_alone, may_end}

-- no job was run, or one was refused
pub race_stopped : (mutators : ℕ) (l : Shape) (commands : List Command) (stop : Stop) (out : Option (List ℕ)) → IsUnstarted stop → PrintsSome (RaceRan mutators l commands) out out (Err stop)
race_stopped mutators l commands stop out h = ([], (inl h, (λ e. let same : stop ≡ BookFull = cc in subst IsUnstarted same h), inl (stop, refl, refl)), puts_none out (written_by {V = Unit {0}} (Err stop)))

-- the count of stores, and the drains of the core behind it
pub race_written : (e : Ended) (mutators : ℕ) (commands : List Command) (old new : Machine) (stores : ℕ) (out out' : Option (List ℕ)) (r : Result (Unit {0}) Stop) → old.state.table ≡ table_of e → IsTableLeftBy mutators commands e → IfErr r MayStop → stores ≡ count_by is_store_command commands
    → HasDrained core_draining e.layout.regions stores (at old out) (at new out') r → PrintsSome (RaceRan mutators e.layout commands) out out' r
race_written e mutators commands old new stores out out' r is left stops many d =
    let made = subst (λ (t : Table). AreDrains t (drains d.drained) d.played.answers new.state.table) is d.played.made in
    let exact = are_exact e mutators commands left (table_of e) new.state.table (drains d.drained) d.played.answers (from_itself (table_of e) left.covered) made in (
      stores_text stores ++ d.text,
      (may_end r stops, d.filled, inr (d.drained, d.played.answers, record { refs = refs_of e; left = left.left; exact = exact }, drains_alone r stops, d.all, ap (λ n. stores_text n ++ d.text) many ∙ ap (λ t. stores_text (count_by is_store_command commands) ++ t) d.played.said)),
      d.written,
    )
