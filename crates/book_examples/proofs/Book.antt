-- The short history of the order book: computed, and an instance of conservation. Assumes nothing.
use mathlib.Core.Path.{◌≡◌, refl, ap, ◌∙◌}
use mathlib.Core.Logic.{inl, inr, by_cases}
use mathlib.Core.Option.{some, none}
use mathlib.Core.List.{[], ◌∷◌}
use Prim.Native.Nat.{ℕ, ◌+◌, ◌^◌, ◌<◌}
use native.Mathlib.Decide.{ℕ_discrete}
use native.Mathlib.Omega.{arith}
use lib.ListN.{length}
use Rattle.words.specs.Word.{word, set_bytes, set_word}
use Rattle.prelude.specs.Refusal.{refuse_if, or_else, unless_refused}
use Rattle.prelude.specs.Range.{any_of, tabulate, greatest, topmost, lowest, at_lowest, count}
use Rattle.prelude.specs.Filter.{filter}
use Rattle.prelude.specs.Answer.{refuses}
use Rattle.prelude.specs.Members.{In, All, none_left, one_more, slot_numbers}
use Rattle.layout.specs.Size.{slots_of, slots_in}
use Rattle.layout.specs.Line.{whole_version, version_fault}
use Rattle.layout.specs.Slot.{paired, highest_whole_of, verdict_of, line_verdict, is_valid}
use Rattle.layout.specs.Record.{key_from, key_of, value_place, slot_word, value_word, value_byte, value_front, value_of}
use Rattle.layout.specs.Content.{content_of_record, content_by, content_of, content, highest_whole_in, highest_whole}
use Rattle.layout.specs.Header.{header_word, header_fault, image_fault, index_fault, lent_fault}
use Rattle.layout.specs.Fault.{mark_fault, kind_fault, kind_limit, word_fault, tail_fault, fault_of, record_fault, bits_fault}
use Rattle.stores.specs.Store.{zipped, played, less, standing, all_stand}
use Rattle.stores.specs.Written.{marked, placed_word, body_a, body_b, run, line_stores, record_stores}
use Rattle.stores.specs.Play.{word_numbers, values}
use Rattle.stores.specs.Invalidation.{invalidating_store, invalidating_stores}
use Rattle.sorting.specs.Sorted.{insert, sorted}
use Rattle.table.specs.Table.{is_record, key_in, rank_for_key, next_version, decider, value_in, value_at, map_of, deciding_put, live, spare, live_count}
use Rattle.table.specs.Table.{is_broken}
use Rattle.table.specs.Table.{broken_count, broken_limit, many_broken, all_live, is_held}
use Rattle.table.specs.Order.{rank_of, ordered, chain_of, reuse_of}
use Rattle.prelude.specs.Keys.{Holds, holds, Keys}
use Rattle.table.specs.Complete.{basket_size, has_version, sharers, complete, version_if_complete, highest_complete, is_void, settled}
use Rattle.table.specs.Shared.{clashes, sharers_fault}
use Rattle.table.specs.Takeable.{valid_version, highest_valid, is_remove, older, may_take, takeable_count, takeable_if}
use Rattle.index.specs.Index.{set_next, set_start, set_last, link, no_state}
use Rattle.index.specs.Chained.{first_of, last_of, after, next_in, chained}
use Rattle.index.specs.Change.{inserts_of, take_first, link_new, append, key_fault, is_found, insert_at, replace_at, remove_at}
use Rattle.index.specs.Walk.{walk, search, chain_fault}
use Rattle.index.specs.Allocation.{with_taken, at_end, allocation_walk, allocate_from, ends_fault, link_fault, few_fault, reuse_fault, room_fault}
use Rattle.allocation.specs.Allocation.{allocation_by_rule, allocation_by}
use Rattle.recovery.specs.Recover.{slots_fault, recover_fault, chains_of, place_of, recovered_index, recovered, recover_result, settled_fault, slots_named}
use Rattle.recovery.specs.Recover.{recover_slot}
use Rattle.recovery.specs.Invalidation.{void_slots, invalidations_of, stores_in}
use Rattle.calls.specs.Change.{changed, write_lent_fault, write_later_fault, write_fault, write_done, write_unless, write_result, remove_later_fault}
use Rattle.calls.specs.Change.{remove_fault}
use Rattle.calls.specs.Change.{remove_done, remove_unless, remove_result, store_fault, remove_fault_by, remove_result_by, write_fault_by, write_result_by}
use Rattle.calls.specs.Result.{unchanged}
use Rattle.calls.specs.Get.{length_fault, get_later_fault, get_fault, get_done, get_result}
use Rattle.calls.specs.Format.{formatted}
use Rattle.calls.specs.Locate.{locate_fault, locate_done, locate_answer}
use Rattle.plainmap.specs.World.{world_after, after_round, after_rounds, invalidated_world, restarted}
use Rattle.plainmap.specs.Plain.{updates, updated, plain_next, plain_step, size_of, rule_fault, room_rule}
use Rattle.interface.proofs.SetLaws.{layout_1, call_laws}
use Rattle.interface.specs.Event.{RestartFits, FitsBy, done_fits, struck_fits, step_by, image_cut, plain_event, is_whole}
use Rattle.book.specs.Orders.{order_bytes, order_of, is_state, is_order, sent, acknowledged, filled_by}
use Rattle.book.specs.Steps.{new, fill, idle, change_answers, as_change, sought_in, sought_by, seek, new_at, new_result_by, already_at, acknowledge_at}
use Rattle.book.specs.Steps.{acknowledge_result_by, quantity_fault, fill_by, fill_at, fill_result_by, withdraw_at, withdraw_result_by, booked_by}
use Rattle.book.specs.Plain.{TypedStep, new_typed, acknowledge_typed, fill_typed, withdraw_typed, order_in, order_fault, book_fault, call_by, step_call}
use Rattle.book.specs.Plain.{call_fault}
use Rattle.book.specs.Plain.{step_fault, updates_by, step_updates, book_effects}
use Rattle.book.specs.Totals.{of_held, ordered_in, filled_in, withdrawn_in, is_accepted, is_counted, total_of, map_at_end, open_total, Conserves}
use Rattle.book.proofs.Conservation.{none_held, others_stay, conservation}
use Rattle.prelude.proofs.Keys.{some-none}
use Rattle.book.specs.declared.Order.{Order}
use Rattle.examples.specs.Trial.{one_head, recovering, cut_at}
use Rattle.book_examples.specs.Book.{book_answers, three_slots, empty_book, history, history_answers, totals, empty_map, history_map, history_totals}
use Rattle.book_examples.specs.Book.{history_keys}

-- order 7 with 30 filled
unfoldable filled30 : Order
filled30 = filled_by 30 (acknowledged (sent 100))

-- the history's answers and totals, and that its set is one of three slots, accepted and empty
history_computed : (book_answers 1 empty_book history ≡ history_answers) × (totals 1 empty_book empty_map history history_keys ≡ history_totals)
    × (recover_fault 1 (formatted 1 512) (length one_head) (length three_slots) ≡ 0) × (slots_in (formatted 1 512) ≡ 3)
    × ((key : ℕ) → empty_map key ≡ none) × (history_map 7 ≡ some (order_bytes filled30))
    × (history_map 8 ≡ none)
unfolding word set_bytes set_word refuses is_accepted filter slot_numbers any_of tabulate greatest topmost lowest at_lowest count refuse_if or_else
    unless_refused
    content_of_record content_by content_of content highest_whole highest_whole_in mark_fault kind_fault kind_limit bits_fault word_fault tail_fault fault_of
    record_fault
    header_word header_fault image_fault index_fault lent_fault whole_version version_fault key_from key_of value_place slot_word value_word value_byte
    value_front value_of
    slots_of paired highest_whole_of verdict_of line_verdict is_valid insert sorted invalidating_store invalidating_stores word_numbers values zipped played
    less
    standing all_stand marked placed_word body_a body_b run line_stores record_stores basket_size has_version sharers complete version_if_complete
    highest_complete
    is_void settled rank_of ordered chain_of reuse_of clashes sharers_fault is_record is_broken key_in rank_for_key next_version decider value_in value_at
    map_of
    deciding_put live spare live_count broken_count broken_limit many_broken all_live is_held valid_version highest_valid is_remove older may_take
    takeable_count first_of
    last_of after next_in chained take_first link_new append insert_at replace_at remove_at key_fault is_found set_next set_start set_last link with_taken
    at_end
    allocation_walk allocate_from ends_fault link_fault few_fault reuse_fault room_fault walk search chain_fault allocation_by_rule void_slots invalidations_of
    stores_in
    no_state settled_fault slots_fault slots_named recover_fault recover_slot chains_of place_of recovered_index recovered recover_result unchanged store_fault
    changed
    write_lent_fault inserts_of write_later_fault write_fault_by allocation_by write_done write_unless write_result_by remove_later_fault remove_fault_by
    remove_done
    remove_unless remove_result_by formatted length_fault get_later_fault get_fault get_done get_result locate_fault locate_done locate_answer updates updated
    plain_next
    plain_step size_of room_rule rule_fault world_after after_round after_rounds invalidated_world restarted image_cut step_by is_whole plain_event order_bytes
    order_of
    is_state is_order sent acknowledged filled_by order_in order_fault book_fault call_by step_call call_fault step_fault updates_by step_updates book_effects
    idle
    change_answers as_change sought_in sought_by seek new_at new_result_by already_at acknowledge_at acknowledge_result_by quantity_fault fill_by fill_at
    fill_result_by
    withdraw_at withdraw_result_by booked_by of_held ordered_in filled_in withdrawn_in is_counted total_of map_at_end open_total book_answers totals three_slots
    empty_book
    history history_answers history_totals history_keys one_head recovering cut_at filled30 takeable_if
history_computed = (refl, refl, refl, refl, λ key. refl, refl, refl)

pub history-answers : book_answers 1 empty_book history ≡ history_answers
history-answers = history_computed.0

-- THE TOTALS: 150 = 30 + 50 + 70
pub history-totals : totals 1 empty_book empty_map history history_keys ≡ history_totals
history-totals = history_computed.1

-- ---- the hypotheses of conservation

right_size : index_fault 3 (length one_head) (length three_slots) ≡ 0
unfolding index_fault refuse_if one_head three_slots
right_size = refl

key_sized : (key : ℕ) → key < 256 → key < (2 ^ 64) ^ 1
key_sized key h = omega arith

new_sized : (key quantity : ℕ) → key < 256 → quantity < 256 → TypedStep 1 (new key quantity)
new_sized key quantity k q = new_typed {quantity = quantity} (key_sized key k) (omega arith)

fill_sized : (key quantity : ℕ) → key < 256 → quantity < 256 → TypedStep 1 (fill key quantity)
fill_sized key quantity k q = fill_typed {quantity = quantity} (key_sized key k) (omega arith)

restart_fits : RestartFits 3 (recovering three_slots)
unfolding recovering
restart_fits = record { rounds = none_left; size = right_size }

history_fits : All (FitsBy (TypedStep 1) 3) history
unfolding history cut_at
history_fits =
    one_more (done_fits (new_sized 7 100 (omega arith) (omega arith))) (one_more (done_fits (new_sized 8 50 (omega arith) (omega arith)))
    (one_more (done_fits (acknowledge_typed (key_sized 7 (omega arith)))) (one_more (done_fits (fill_sized 7 30 (omega arith) (omega arith)))
    (one_more (struck_fits (fill_sized 7 20 (omega arith) (omega arith)) restart_fits)
    (one_more (struck_fits (withdraw_typed (key_sized 8 (omega arith))) restart_fits)
    (one_more (done_fits (fill_sized 7 71 (omega arith) (omega arith)))
    (one_more (done_fits (acknowledge_typed (key_sized 7 (omega arith)))) none_left)))))))

slots_fit : All (FitsBy (TypedStep 1) (slots_in (formatted 1 512))) history
slots_fit = rw history_computed.3 history_fits

-- a key that is not 7 or 8
not_named : (key : ℕ) → (key ≡ 7 → ⊥) → (key ≡ 8 → ⊥) → history_map key ≡ none
unfolding history
not_named key n7 n8 =
    others_stay 1 (slots_in (formatted 1 512)) empty_book empty_map (none_held empty_map history_computed.4) history slots_fit key
    (one_more n7 (one_more n8 (one_more n7 (one_more n7 (one_more n7 (one_more n8 (one_more n7 (one_more n7 none_left))))))))
    ∙ history_computed.4 key

history_held : Keys history_map history_keys
unfolding history_keys
history_held = record { once = ((λ i. i), tt); held = held; all = all }
  where
    held : (key : ℕ) → In key (7 ∷ []) → Holds history_map key
    held key (inl e) = holds (order_bytes filled30) (ap history_map e ∙ history_computed.5)
    held key (inr b) = absurd b

    all : (key : ℕ) → Holds history_map key → In key (7 ∷ [])
    all key (holds value e) =
        by_cases (ℕ_discrete key 7) (λ q. inl q)
        (λ n7. by_cases (ℕ_discrete key 8) (λ q. absurd (some-none e (ap history_map q ∙ history_computed.6)))
        (λ n8. absurd (some-none e (not_named key n7 n8))))

-- AN INSTANCE of conservation
history_conserves : Conserves 1 empty_book empty_map history
unfolding empty_book recovering
history_conserves =
    conservation 1 layout_1 (formatted 1 512) (recovering three_slots)
    ((call_laws 1 layout_1).accepted (formatted 1 512) (length one_head) (length three_slots) history_computed.2) (rw history_computed.3 restart_fits)
    history_computed.4 history slots_fit

pub history_balance : total_of ordered_in 1 empty_book empty_map history
    ≡ total_of filled_in 1 empty_book empty_map history + total_of withdrawn_in 1 empty_book empty_map history + open_total history_map history_keys
history_balance = history_conserves.balance history_keys history_held
