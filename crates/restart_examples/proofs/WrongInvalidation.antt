-- A program that does not fence recovery's invalidating stores shows part of a basket: computed. Assumes nothing.
use mathlib.Core.Path.{◌≡◌, refl}
use mathlib.Core.Option.{none, some, Option-elim}
use Rattle.words.specs.Word.{word, set_bytes, set_word}
use Rattle.prelude.specs.Members.{slot_numbers}
use Rattle.prelude.specs.Refusal.{refuse_if, or_else, unless_refused}
use Rattle.prelude.specs.Range.{any_of, tabulate, greatest, topmost, lowest, at_lowest, count}
use Rattle.prelude.specs.Filter.{filter, any_in, is_among}
use Rattle.layout.specs.Size.{slots_of}
use Rattle.layout.specs.Line.{whole_version, version_fault}
use Rattle.layout.specs.Slot.{paired, highest_whole_of, verdict_of, line_verdict, is_valid}
use Rattle.layout.specs.Record.{key_from, key_of, value_place, slot_word, value_word, value_byte, value_front, value_of}
use Rattle.layout.specs.Content.{content_of_record, content_by, content_of, content, highest_whole_in, highest_whole}
use Rattle.layout.specs.Header.{header_word, header_fault, image_fault, index_fault, lent_fault}
use Rattle.layout.specs.Fault.{mark_fault, kind_fault, kind_limit, word_fault, tail_fault, fault_of, record_fault, bits_fault}
use Rattle.stores.specs.Store.{zipped, played, less, standing, all_stand, not_standing}
use Rattle.stores.specs.Written.{marked, placed_word, body_a, body_b, run, line_stores, record_stores}
use Rattle.stores.specs.Play.{word_numbers, values}
use Rattle.stores.specs.Invalidation.{invalidating_store, invalidating_stores}
use Rattle.sorting.specs.Sorted.{insert, sorted}
use Rattle.table.specs.Table.{is_record, key_in, rank_for_key, next_version, decider, deciding_put, live, spare, live_count, is_broken, broken_count}
use Rattle.table.specs.Table.{broken_limit}
use Rattle.table.specs.Table.{many_broken, all_live, is_held, map_of, value_at}
use Rattle.table.specs.Order.{rank_of, ordered, chain_of, reuse_of}
use Rattle.table.specs.Complete.{basket_size, has_version, sharers, complete, version_if_complete, highest_complete, is_void, settled}
use Rattle.table.specs.Shared.{clashes, sharers_fault}
use Rattle.table.specs.Takeable.{valid_version, highest_valid, is_remove, older, may_take, takeable_if, takeable_count}
use Rattle.index.specs.Index.{set_next, set_start, set_last, link, no_state}
use Rattle.index.specs.Chained.{first_of, last_of, after, next_in, chained}
use Rattle.index.specs.Change.{inserts_of, take_first, link_new, append, key_fault, is_found, insert_at, replace_at, remove_at}
use Rattle.index.specs.Walk.{walk, search, chain_fault}
use Rattle.index.specs.Allocation.{with_taken, at_end, allocation_walk, allocate_from, ends_fault, link_fault, few_fault, reuse_fault, room_fault}
use Rattle.allocation.specs.Allocation.{allocation_by_rule, allocation_by}
use Rattle.recovery.specs.Recover.{slots_fault, recover_fault, chains_of, place_of, recovered_index, recovered, recover_result, settled_fault, slots_named}
use Rattle.recovery.specs.Recover.{recover_slot}
use Rattle.recovery.specs.Invalidation.{void_slots, invalidations_of, stores_in}
use Rattle.calls.specs.Format.{formatted}
use Rattle.calls.specs.Change.{changed, write_lent_fault, write_later_fault, write_fault, write_done, write_unless, write_result, remove_later_fault}
use Rattle.calls.specs.Change.{remove_fault}
use Rattle.calls.specs.Change.{remove_done, remove_unless, remove_result, store_fault, remove_fault_by, remove_result_by, write_fault_by, write_result_by}
use Rattle.calls.specs.Result.{unchanged}
use Rattle.calls.specs.Get.{length_fault, get_later_fault, get_fault, get_done, get_result}
use Rattle.calls.specs.Locate.{locate_fault, locate_done, locate_answer}
use Rattle.plainmap.specs.World.{call_result, call_result_by, world_after, after_round, after_rounds, invalidated_world, restarted, reads_only}
use Rattle.interface.specs.Event.{step_by, image_cut}
use Rattle.prelude.specs.Answer.{absent, refuses}
use Rattle.cut_rule.specs.Request.{request_effects, request_fault, request_updates}
use Rattle.plainmap.specs.Plain.{updates, updated, plain_next, plain_step, room_rule, rule_fault}
use Rattle.restart_machine.specs.Machine.{seen, written_back, cut_off, after_store, after_flush, after_fence, none_flushed, all_made, decide, started, asked}
use Rattle.restart_machine.specs.Machine.{continued, stepped, moved, moved_by, at_rest}
use Rattle.restart_machine.specs.Rule.{plain_of}
use Rattle.restart_machine.specs.EachLine.{store_lines, lines_to, all_lines, each_line}
use Rattle.restart_examples.specs.Wrong.{Fitting, no_invalidation_fence, next_steps, eight_bytes, start_with, insert_of, replace_of, answer_in, out_in}
use Rattle.restart_examples.specs.Wrong.{get_answer, get_output, plain_value, blank_four, torn_basket_image, basket_invalidated, insert_cut}
use Rattle.restart_examples.proofs.Fitting.{fitting}

-- THE OPENING STORES ARE NOT FENCED: a key of the torn basket is absent, and after a cut in the insert of another key it is there
pub invalidating_absent : (fit : Fitting) × (get_answer 8 (basket_invalidated fit no_invalidation_fence 17) ≡ absent)
unfolding word set_bytes set_word filter slot_numbers any_of tabulate greatest topmost lowest at_lowest count refuse_if or_else unless_refused content_of_record
    content_by content_of content highest_whole highest_whole_in mark_fault kind_fault kind_limit bits_fault word_fault tail_fault fault_of record_fault
    header_word
    header_fault image_fault index_fault lent_fault whole_version version_fault key_from key_of value_place slot_word value_word value_byte value_front value_of
    slots_of
    paired highest_whole_of verdict_of line_verdict is_valid insert sorted invalidating_store invalidating_stores word_numbers values zipped played less
    standing
    marked placed_word body_a body_b run line_stores record_stores basket_size has_version sharers complete version_if_complete highest_complete is_void settled
    rank_of
    ordered chain_of reuse_of clashes sharers_fault is_record is_broken key_in rank_for_key next_version decider deciding_put live spare live_count broken_count
    broken_limit many_broken all_live valid_version highest_valid is_remove older may_take first_of last_of after next_in chained take_first link_new append
    insert_at
    replace_at remove_at key_fault is_found set_next set_start set_last link with_taken at_end allocation_walk allocate_from ends_fault link_fault few_fault
    reuse_fault
    room_fault walk search chain_fault allocation_by_rule void_slots invalidations_of stores_in no_state settled_fault slots_fault slots_named recover_fault
    recover_slot
    chains_of place_of recovered_index recovered recover_result unchanged store_fault changed write_lent_fault inserts_of write_later_fault write_fault_by
    allocation_by
    write_done write_unless write_result_by remove_later_fault remove_fault_by remove_done remove_unless remove_result_by formatted length_fault get_later_fault
    get_fault
    get_done get_result locate_fault locate_done locate_answer reads_only call_result call_result_by world_after after_round after_rounds invalidated_world
    restarted
    image_cut step_by takeable_if any_in all_stand request_effects is_among seen not_standing written_back cut_off after_store after_flush after_fence
    none_flushed all_made
    decide Option-elim started asked continued stepped moved moved_by at_rest plain_of store_lines lines_to all_lines each_line request_fault request_updates
    updates
    updated plain_next plain_step room_rule rule_fault refuses is_held map_of value_at takeable_count next_steps eight_bytes start_with insert_of replace_of
    answer_in out_in
    get_answer get_output plain_value no_invalidation_fence blank_four torn_basket_image basket_invalidated insert_cut
invalidating_absent = (fitting, refl)

pub invalidating_lost : (fit : Fitting) × (get_output 8 (insert_cut fit no_invalidation_fence 17 13) ≡ eight_bytes 2)
unfolding word set_bytes set_word filter slot_numbers any_of tabulate greatest topmost lowest at_lowest count refuse_if or_else unless_refused content_of_record
    content_by content_of content highest_whole highest_whole_in mark_fault kind_fault kind_limit bits_fault word_fault tail_fault fault_of record_fault
    header_word
    header_fault image_fault index_fault lent_fault whole_version version_fault key_from key_of value_place slot_word value_word value_byte value_front value_of
    slots_of
    paired highest_whole_of verdict_of line_verdict is_valid insert sorted invalidating_store invalidating_stores word_numbers values zipped played less
    standing
    marked placed_word body_a body_b run line_stores record_stores basket_size has_version sharers complete version_if_complete highest_complete is_void settled
    rank_of
    ordered chain_of reuse_of clashes sharers_fault is_record is_broken key_in rank_for_key next_version decider deciding_put live spare live_count broken_count
    broken_limit many_broken all_live valid_version highest_valid is_remove older may_take first_of last_of after next_in chained take_first link_new append
    insert_at
    replace_at remove_at key_fault is_found set_next set_start set_last link with_taken at_end allocation_walk allocate_from ends_fault link_fault few_fault
    reuse_fault
    room_fault walk search chain_fault allocation_by_rule void_slots invalidations_of stores_in no_state settled_fault slots_fault slots_named recover_fault
    recover_slot
    chains_of place_of recovered_index recovered recover_result unchanged store_fault changed write_lent_fault inserts_of write_later_fault write_fault_by
    allocation_by
    write_done write_unless write_result_by remove_later_fault remove_fault_by remove_done remove_unless remove_result_by formatted length_fault get_later_fault
    get_fault
    get_done get_result locate_fault locate_done locate_answer reads_only call_result call_result_by world_after after_round after_rounds invalidated_world
    restarted
    image_cut step_by takeable_if any_in all_stand request_effects is_among seen not_standing written_back cut_off after_store after_flush after_fence
    none_flushed all_made
    decide Option-elim started asked continued stepped moved moved_by at_rest plain_of store_lines lines_to all_lines each_line request_fault request_updates
    updates
    updated plain_next plain_step room_rule rule_fault refuses is_held map_of value_at takeable_count next_steps eight_bytes start_with insert_of replace_of
    answer_in out_in
    get_answer get_output plain_value no_invalidation_fence blank_four torn_basket_image basket_invalidated insert_cut
invalidating_lost = (fitting, refl)

pub invalidating_plain : (fit : Fitting) × (plain_value torn_basket_image 8 (insert_cut fit no_invalidation_fence 17 13) ≡ none)
unfolding word set_bytes set_word filter slot_numbers any_of tabulate greatest topmost lowest at_lowest count refuse_if or_else unless_refused content_of_record
    content_by content_of content highest_whole highest_whole_in mark_fault kind_fault kind_limit bits_fault word_fault tail_fault fault_of record_fault
    header_word
    header_fault image_fault index_fault lent_fault whole_version version_fault key_from key_of value_place slot_word value_word value_byte value_front value_of
    slots_of
    paired highest_whole_of verdict_of line_verdict is_valid insert sorted invalidating_store invalidating_stores word_numbers values zipped played less
    standing
    marked placed_word body_a body_b run line_stores record_stores basket_size has_version sharers complete version_if_complete highest_complete is_void settled
    rank_of
    ordered chain_of reuse_of clashes sharers_fault is_record is_broken key_in rank_for_key next_version decider deciding_put live spare live_count broken_count
    broken_limit many_broken all_live valid_version highest_valid is_remove older may_take first_of last_of after next_in chained take_first link_new append
    insert_at
    replace_at remove_at key_fault is_found set_next set_start set_last link with_taken at_end allocation_walk allocate_from ends_fault link_fault few_fault
    reuse_fault
    room_fault walk search chain_fault allocation_by_rule void_slots invalidations_of stores_in no_state settled_fault slots_fault slots_named recover_fault
    recover_slot
    chains_of place_of recovered_index recovered recover_result unchanged store_fault changed write_lent_fault inserts_of write_later_fault write_fault_by
    allocation_by
    write_done write_unless write_result_by remove_later_fault remove_fault_by remove_done remove_unless remove_result_by formatted length_fault get_later_fault
    get_fault
    get_done get_result locate_fault locate_done locate_answer reads_only call_result call_result_by world_after after_round after_rounds invalidated_world
    restarted
    image_cut step_by takeable_if any_in all_stand request_effects is_among seen not_standing written_back cut_off after_store after_flush after_fence
    none_flushed all_made
    decide Option-elim started asked continued stepped moved moved_by at_rest plain_of store_lines lines_to all_lines each_line request_fault request_updates
    updates
    updated plain_next plain_step room_rule rule_fault refuses is_held map_of value_at takeable_count next_steps eight_bytes start_with insert_of replace_of
    answer_in out_in
    get_answer get_output plain_value no_invalidation_fence blank_four torn_basket_image basket_invalidated insert_cut
invalidating_plain = (fitting, refl)

-- THE PROGRAM THAT DOES ITS DUTIES keeps it absent in the same history
pub each_line_hides : (fit : Fitting) × (get_answer 8 (insert_cut fit each_line 18 14) ≡ absent)
unfolding word set_bytes set_word filter slot_numbers any_of tabulate greatest topmost lowest at_lowest count refuse_if or_else unless_refused content_of_record
    content_by content_of content highest_whole highest_whole_in mark_fault kind_fault kind_limit bits_fault word_fault tail_fault fault_of record_fault
    header_word
    header_fault image_fault index_fault lent_fault whole_version version_fault key_from key_of value_place slot_word value_word value_byte value_front value_of
    slots_of
    paired highest_whole_of verdict_of line_verdict is_valid insert sorted invalidating_store invalidating_stores word_numbers values zipped played less
    standing
    marked placed_word body_a body_b run line_stores record_stores basket_size has_version sharers complete version_if_complete highest_complete is_void settled
    rank_of
    ordered chain_of reuse_of clashes sharers_fault is_record is_broken key_in rank_for_key next_version decider deciding_put live spare live_count broken_count
    broken_limit many_broken all_live valid_version highest_valid is_remove older may_take first_of last_of after next_in chained take_first link_new append
    insert_at
    replace_at remove_at key_fault is_found set_next set_start set_last link with_taken at_end allocation_walk allocate_from ends_fault link_fault few_fault
    reuse_fault
    room_fault walk search chain_fault allocation_by_rule void_slots invalidations_of stores_in no_state settled_fault slots_fault slots_named recover_fault
    recover_slot
    chains_of place_of recovered_index recovered recover_result unchanged store_fault changed write_lent_fault inserts_of write_later_fault write_fault_by
    allocation_by
    write_done write_unless write_result_by remove_later_fault remove_fault_by remove_done remove_unless remove_result_by formatted length_fault get_later_fault
    get_fault
    get_done get_result locate_fault locate_done locate_answer reads_only call_result call_result_by world_after after_round after_rounds invalidated_world
    restarted
    image_cut step_by takeable_if any_in all_stand request_effects is_among seen not_standing written_back cut_off after_store after_flush after_fence
    none_flushed all_made
    decide Option-elim started asked continued stepped moved moved_by at_rest plain_of store_lines lines_to all_lines each_line request_fault request_updates
    updates
    updated plain_next plain_step room_rule rule_fault refuses is_held map_of value_at takeable_count next_steps eight_bytes start_with insert_of replace_of
    answer_in out_in
    get_answer get_output plain_value no_invalidation_fence blank_four torn_basket_image basket_invalidated insert_cut
each_line_hides = (fitting, refl)
