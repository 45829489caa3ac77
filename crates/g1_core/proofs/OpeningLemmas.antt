-- A new core, and a call that changes nothing.
use Rattle.std.specs.Prelude.{◌≡◌, ◌<◌, ◌≤◌}
use Rattle.g1_core.specs.{◌∙◌, inl, inr, ℕ, List, [], get_or, None, refl, sym, ap, subst, arith, replicate, IfSome, IsDistinct, nat_cmp, cases_lt, true≢false, length-replicate, get_or-replicate, get_or_past, All-replicate, Shape, IsShape, slot_count, card_count, Mark, Clean, new_cells, Cells, Pairs, new_pairs, Ring, new_ring, IsCovered, AreRefinable, refined, opening, new_machine, State, IsCore, AreParts, pending_of, state_from, machine_from, IsStep, RefineReply, refine_entry, pair_cmp}
use Rattle.g1_core.specs.Machine.{Settings, Table}
use Rattle.std.specs.FinSet as set
use Rattle.g1_core.proofs.SetLemmas.{same_cards}
use Rattle.g1_core.proofs.TableLemmas.{opening_covered}
use Rattle.g1_core.proofs.MarkLemmas.{held_clean, from_pending}
use Rattle.g1_core.proofs.RefinedLemmas.{refined_none}
use Rattle.g1_core.proofs.StoreLemmas.{none_refinable}

-- a call that refines nothing and changes nothing
pub idle_step : (caller : ℕ) (t : Table) (reply : RefineReply) → reply.refined ≡ [] → IsStep t (refine_entry caller reply) t
idle_step caller t reply none =
    record { allowed = record { numbers = tt; refines = subst (AreRefinable t) (sym none) (none_refinable t); answers = tt }; after = sym (ap (λ (ks : List ℕ). refined ks t) none ∙ refined_none t) }

-- a new core
pub all_clean : (n q : ℕ) → ◌≡◌ {A = Mark} (get_or (replicate n Clean) q Clean) Clean
all_clean n q = elim (cases_lt q n) [
  | inl below ↦ get_or-replicate n q Clean Clean below
  | inr past ↦ get_or_past (replicate n Clean) q Clean (omega (arith, length-replicate {A = Mark} n Clean))
]

pub none_pending : (n : ℕ) → pending_of (replicate n Clean) ≡ set.empty
none_pending n = same_cards _ _
    (λ q h. absurd (from_pending (replicate n Clean) q h (all_clean n q)))
    (λ q h. absurd (true≢false (sym h ∙ set.contains-empty nat_cmp q)))

module _ (l : Shape) (limit capacity : ℕ) (shape : IsShape l) (some : 1 ≤ capacity) where
  pub new_state : state_from (new_cells l) set.empty (new_ring l limit capacity) ≡ record { table = opening l; ring = new_ring l limit capacity }
  new_state = λ i. record { table = record { layout = l; refs = replicate (slot_count l) None; pending = none_pending (card_count l) i; recorded = set.empty }; ring = new_ring l limit capacity }

  pub new_parts : AreParts (new_cells l) set.empty (new_ring l limit capacity) 0
  unfolding IsDistinct
  new_parts = record {
    cells = record {
      shape = shape;
      slots = length-replicate (slot_count l) None;
      places = All-replicate (λ o. IfSome o (λ place. place < slot_count l)) (slot_count l) None tt;
      cards = length-replicate (card_count l) Clean;
    };
    counts = length-replicate (card_count l) 0;
    some = some;
    distinct = tt;
    held = λ q. (λ c. absurd (omega (arith, c.1)), λ held. absurd (held_clean _ held (all_clean (card_count l) q)));
    known = sym (ap set.len (none_pending (card_count l)) ∙ set.len-empty nat_cmp);
    cover = subst IsCovered (sym (ap (λ (s : State). s.table) new_state)) (opening_covered l);
    outside = λ card region r. absurd (true≢false (sym r ∙ set.contains-empty pair_cmp (card, region)));
  }

module _ (l : Shape) (s : Settings) (limit capacity : ℕ) (heap : Cells) (sets : Pairs) (ring : Ring) (shape : IsShape l) (some : 1 ≤ capacity) (el : limit ≡ s.hot) (ec : capacity ≡ s.ring)
    (eh : heap ≡ new_cells l) (es : sets ≡ new_pairs l) (er : ring ≡ new_ring l limit capacity) where
  pub made_core : IsCore heap sets ring 0
  made_core = rw (eh, es, er) (record { layouts = refl; parts = new_parts l limit capacity shape some })

  pub made_machine : machine_from heap sets.pairs ring s ≡ new_machine l s
  made_machine = rw (eh, es, er, new_state l limit capacity shape some, el, ec) refl
