-- What the goals of one function cite together.
use Rattle.g1_race.specs.{cases_lt, flag_pending, pending_flag, reads_as, shr_and_one, take_all}
use Rattle.g1_race.proofs.Telling.{all_regions, block_below, with_regions, few}
use Rattle.g1_race.proofs.Placing.{null_slots, table_copied, words_placed}
use Rattle.g1_race.proofs.Counting.{few_recorded}
use Rattle.g1_race.proofs.Held.{held_table, lent_begun, lent_region, lent_view}
use Rattle.g1_race.proofs.NextCards.{cards_fit, marked_word, unmarked_word}
use Rattle.g1_race.proofs.PauseTable.{none_marked, pending_len, pending_word, word_pending}
use Rattle.g1_race.proofs.PauseWords.{bit_read, notes_same}
use Rattle.g1_race.proofs.SlotWords.{front_words}

pub ruleset of_a_pause = (few, cards_fit, pending_len, few_recorded, none_marked, front_words, lent_view, lent_begun, lent_region, held_table)

pub ruleset of_a_mark = (cases_lt, marked_word, unmarked_word, pending_word, word_pending)

pub ruleset of_a_flag = (reads_as, flag_pending, pending_flag)

pub ruleset of_a_bit = (shr_and_one, notes_same, bit_read)

pub ruleset of_a_block = (take_all, all_regions, block_below, with_regions)

pub ruleset of_a_copy = (null_slots, table_copied, words_placed)
