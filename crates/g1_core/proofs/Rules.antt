-- What the goals of one function cite together.
use Rattle.g1_core.specs.{below_more, take_all}
use Rattle.std.specs.FinSet as set
use Rattle.g1_core.proofs.AdoptionLemmas.{all_recorded, clean_next, each_once, marked_next, one_pending}
use Rattle.g1_core.proofs.OpeningLemmas.{none_pending}
use Rattle.g1_core.proofs.MarkLemmas.{dirty_clean, held_clean, to_pending}
use Rattle.g1_core.proofs.RunLemmas.{has_slots, run_covered}
use Rattle.g1_core.proofs.StoreLemmas.{clean_mark}
use Rattle.g1_core.proofs.TableLemmas.{opening_covered, held_from_Holds, Holds_from_held}
use Rattle.g1_core.proofs.VerifyLemmas.{read_more, slot_same}

pub ruleset of_a_mark = (held_clean, dirty_clean, to_pending, clean_mark)

pub ruleset of_marked = (marked_next, clean_next, one_pending, none_pending, set.len-empty)

pub ruleset of_listed = (all_recorded, each_once, take_all)

pub ruleset of_a_run = (opening_covered, run_covered, has_slots)

pub ruleset of_a_pair = (held_from_Holds, Holds_from_held)

pub ruleset of_a_slot = (below_more, slot_same, read_more)
