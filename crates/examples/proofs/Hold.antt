-- The definitions give what document 01 says at each example: one computation over the table. Assumes nothing.
use mathlib.Core.Path.{◌≡◌, refl}
use mathlib.Core.Bool.{true}
use Rattle.words.specs.Word.{word, set_bytes, set_word}
use Rattle.prelude.specs.Refusal.{refuse_if, or_else, unless_refused}
use Rattle.prelude.specs.Range.{any_of, tabulate, greatest, topmost, lowest, at_lowest, count}
use Rattle.prelude.specs.Members.{slot_numbers}
use Rattle.prelude.specs.Filter.{filter}
use Rattle.layout.specs.Size.{slots_of}
use Rattle.layout.specs.Line.{whole_version, version_fault}
use Rattle.layout.specs.Slot.{paired, highest_whole_of, verdict_of, line_verdict, slot_verdict, is_valid}
use Rattle.layout.specs.Record.{key_from, key_of, value_place, slot_word, value_word, value_byte, value_front, value_of}
use Rattle.layout.specs.Content.{content_of_record, content_by, content_of, content, highest_whole, highest_whole_in}
use Rattle.layout.specs.Header.{header_word, header_fault, image_fault, index_fault, lent_fault}
use Rattle.layout.specs.Fault.{mark_fault, kind_fault, kind_limit, word_fault, tail_fault, fault_of, record_fault, bits_fault}
use Rattle.stores.specs.Store.{zipped, played}
use Rattle.stores.specs.Play.{word_numbers, values}
use Rattle.stores.specs.Written.{marked, placed_word, body_a, body_b, run, line_stores, record_stores}
use Rattle.stores.specs.Invalidation.{invalidating_store, invalidating_stores}
use Rattle.sorting.specs.Sorted.{insert, sorted}
use Rattle.table.specs.Table.{is_record, key_in, rank_for_key, next_version, decider, value_in, value_at, map_of, deciding_put, live, spare, live_count}
use Rattle.table.specs.Table.{is_broken}
use Rattle.table.specs.Table.{broken_count, broken_limit, many_broken, all_live}
use Rattle.table.specs.Order.{rank_of, ordered, chain_of, reuse_of}
use Rattle.table.specs.Complete.{basket_size, has_version, sharers, complete, version_if_complete, highest_complete, is_void, settled}
use Rattle.table.specs.Shared.{clashes, sharers_fault}
use Rattle.table.specs.Takeable.{valid_version, highest_valid, is_remove, older, may_take, takeable_if}
use Rattle.index.specs.Index.{set_next, set_start, set_last, link, no_state}
use Rattle.index.specs.Chained.{first_of, last_of, after, next_in, chained}
use Rattle.index.specs.Walk.{walk, search, chain_fault}
use Rattle.index.specs.Change.{inserts_of, take_first, link_new, append, key_fault, is_found, insert_at, replace_at, remove_at}
use Rattle.index.specs.Allocation.{with_taken, at_end, allocation_walk, allocate_from, ends_fault, link_fault, few_fault, reuse_fault, room_fault}
use Rattle.allocation.specs.Allocation.{allocation_by_rule, allocation_by}
use Rattle.recovery.specs.Recover.{slots_fault, recover_fault, chains_of, place_of, recovered_index, recovered, recover_result, settled_fault, slots_named}
use Rattle.recovery.specs.Recover.{recover_slot}
use Rattle.recovery.specs.Invalidation.{void_slots, invalidations_of, stores_in}
use Rattle.calls.specs.Format.{layout_fault, format_fault, formatted, format_result}
use Rattle.calls.specs.Change.{changed, write_lent_fault, write_later_fault, write_fault, write_done, write_unless, write_result, remove_later_fault}
use Rattle.calls.specs.Change.{remove_fault}
use Rattle.calls.specs.Change.{remove_done, remove_unless, remove_result, store_fault, remove_fault_by, remove_result_by, write_fault_by, write_result_by}
use Rattle.calls.specs.Result.{unchanged}
use Rattle.calls.specs.Get.{length_fault, get_later_fault, get_fault, get_done, get_result}
use Rattle.calls.specs.Locate.{locate_fault, locate_done, locate_answer}
use Rattle.plainmap.specs.World.{call_result, finished, world_after, invalidated_world, reads_only}
use Rattle.examples.specs.Examples.{bit, answer, verdict, held, format_numbers, ends, words, over, leftover, recovered_in, after_calls, answers_in}
use Rattle.examples.specs.Examples.{live_counts, blank, empty_set, late_set, removal, removed_set, get7, second_set, key_a, key_b, examples, equal, agree}

pub examples_hold : agree examples ≡ true
unfolding word set_bytes set_word filter slot_numbers any_of tabulate greatest topmost lowest at_lowest count refuse_if or_else unless_refused content_of_record
    content_by content_of content highest_whole highest_whole_in mark_fault kind_fault kind_limit bits_fault word_fault tail_fault fault_of record_fault
    header_word
    header_fault image_fault index_fault lent_fault whole_version version_fault key_from key_of value_place slot_word value_word value_byte value_front value_of
    slots_of
    paired highest_whole_of verdict_of line_verdict slot_verdict is_valid insert sorted invalidating_store invalidating_stores word_numbers values zipped played
    marked
    placed_word body_a body_b run line_stores record_stores basket_size has_version sharers complete version_if_complete highest_complete is_void settled
    rank_of ordered
    chain_of reuse_of clashes sharers_fault is_record is_broken key_in rank_for_key next_version decider value_in value_at map_of deciding_put live spare
    live_count
    broken_count broken_limit many_broken all_live valid_version highest_valid is_remove older may_take first_of last_of after next_in chained take_first
    link_new append
    insert_at replace_at remove_at key_fault is_found set_next set_start set_last link with_taken at_end allocation_walk allocate_from ends_fault link_fault
    few_fault
    reuse_fault room_fault walk search chain_fault allocation_by_rule void_slots invalidations_of stores_in no_state settled_fault slots_fault slots_named
    recover_fault
    recover_slot chains_of place_of recovered_index recovered recover_result unchanged store_fault changed write_lent_fault inserts_of write_later_fault
    write_fault_by
    allocation_by write_done write_unless write_result_by remove_later_fault remove_fault_by remove_done remove_unless remove_result_by layout_fault
    format_fault formatted
    format_result length_fault get_later_fault get_fault get_done get_result locate_fault locate_done locate_answer reads_only call_result finished world_after
    invalidated_world bit answer verdict held format_numbers ends words over leftover recovered_in after_calls answers_in live_counts blank empty_set late_set
    removal
    removed_set get7 second_set key_a key_b examples equal agree takeable_if
examples_hold = refl
