-- The history with a torn basket: computed, and an instance of the cut rule whose hypotheses are met by computation. Assumes nothing.
use mathlib.Core.Bool.{Bool, true, false}
use mathlib.Core.Path.{◌≡◌, refl}
use mathlib.Core.List.{List, [], ◌∷◌, ◌++◌}
use Prim.Native.Nat.{ℕ, zero, suc, ◌^◌, ◌<◌}
use native.Mathlib.Omega.{arith}
use lib.ListN.{length, get_or, replicate}
use Rattle.words.specs.Word.{AreBytes, word, set_bytes, set_word}
use Rattle.prelude.specs.Members.{All, none_left, one_more, slot_numbers}
use Rattle.prelude.specs.Refusal.{refuse_if, or_else, unless_refused}
use Rattle.prelude.specs.Range.{any_of, tabulate, greatest, topmost, lowest, at_lowest, count}
use Rattle.prelude.specs.Filter.{filter, any_in}
use Rattle.prelude.proofs.Fills.{zeros}
use Rattle.layout.specs.Size.{slots_of, slots_in}
use Rattle.layout.specs.Line.{whole_version, version_fault}
use Rattle.layout.specs.Slot.{paired, highest_whole_of, verdict_of, line_verdict, is_valid}
use Rattle.layout.specs.Record.{key_from, key_of, value_place, slot_word, value_word, value_byte, value_front, value_of}
use Rattle.layout.specs.Content.{content_of_record, content_by, content_of, content, highest_whole_in, highest_whole}
use Rattle.layout.specs.Header.{header_word, header_fault, image_fault, index_fault, lent_fault}
use Rattle.layout.specs.Fault.{mark_fault, kind_fault, kind_limit, word_fault, tail_fault, fault_of, record_fault, bits_fault}
use Rattle.stores.specs.Store.{zipped, played, less, standing}
use Rattle.stores.specs.Written.{marked, placed_word, body_a, body_b, run, line_stores, record_stores}
use Rattle.stores.specs.Basket.{basket_stores}
use Rattle.stores.specs.Play.{word_numbers, values}
use Rattle.stores.specs.Invalidation.{invalidating_store, invalidating_stores}
use Rattle.sorting.specs.Sorted.{insert, sorted}
use Rattle.table.specs.Table.{is_record, key_in, rank_for_key, next_version, decider, deciding_put, live, spare, live_count, is_broken, broken_count}
use Rattle.table.specs.Table.{broken_limit}
use Rattle.table.specs.Table.{many_broken, all_live}
use Rattle.table.specs.Order.{rank_of, ordered, chain_of, reuse_of}
use Rattle.table.specs.Complete.{basket_size, size_field_for, has_version, sharers, complete, version_if_complete, highest_complete, is_void, settled}
use Rattle.table.specs.Shared.{clashes, sharers_fault}
use Rattle.table.specs.Takeable.{valid_version, highest_valid, is_remove, older, may_take, may_take_after, takeable_if}
use Rattle.index.specs.Index.{set_next, set_start, set_last, link, no_state}
use Rattle.index.specs.Chained.{first_of, last_of, after, next_in, chained}
use Rattle.index.specs.Change.{inserts_of, take_first, link_new, append, key_fault, is_found, insert_at, replace_at, remove_at}
use Rattle.index.specs.Walk.{walk, search, chain_fault}
use Rattle.index.specs.Allocation.{with_taken, at_end, allocation_walk, allocate_from, ends_fault, link_fault, few_fault, reuse_fault, room_fault}
use Rattle.index.specs.Basket.{take_slot, all_taken_of, taken_slots, slot_before, before_in, link_by, link_item, link_all, basket_index}
use Rattle.index.specs.declared.Action.{Action}
use Rattle.index.specs.declared.Mode.TheVariants.{Insert}
use Rattle.allocation.specs.Allocation.{allocation_by_rule, allocation_chosen, allocation_chosen_by, allocation_by, may_take_below, named_version}
use Rattle.allocation.specs.Allocation.{own_allocation}
use Rattle.recovery.specs.Recover.{slots_fault, recover_fault, chains_of, place_of, recovered_index, recovered, recover_result, settled_fault, slots_named}
use Rattle.recovery.specs.Recover.{recover_slot}
use Rattle.recovery.specs.Invalidation.{void_slots, invalidations_of, stores_in}
use Rattle.calls.specs.Format.{formatted}
use Rattle.calls.specs.Change.{changed, write_lent_fault, write_later_fault, write_fault, write_done, write_unless, write_result, store_fault, write_fault_by}
use Rattle.calls.specs.Change.{write_result_by}
use Rattle.calls.specs.Result.{unchanged}
use Rattle.calls.specs.BasketItems.{high_in, item_key, item_at, item_value, change_at, changes_from, changes_of}
use Rattle.calls.specs.BasketRefusals.{key_count_fault, among, any_twice, lists_fault, given_fault, first_fault, value_fault, action_fault, basket_lent_fault}
use Rattle.calls.specs.BasketRefusals.{keys_fault, inserts_by, removes_by, sum_over, basket_fault, basket_fault_by}
use Rattle.calls.specs.Get.{length_fault, get_later_fault, get_fault, get_done, get_result}
use Rattle.calls.specs.Basket.{kind_by, value_by, records_for, old_in, items_for, index_after, basket_made, basket_done, basket_unless, basket_result}
use Rattle.calls.specs.Basket.{basket_result_by}
use Rattle.calls.specs.declared.BasketItem.{BasketItem}
use Rattle.plainmap.specs.World.{write, call_result, call_result_by, world_after, after_round, after_rounds, invalidated_world, restarted, reads_only}
use Rattle.plainmap.specs.Baskets.{TypedItem, basket_call_result_by}
use Rattle.plainmap.specs.Claims.{Typed, write_typed, get_typed, slots_map}
use Rattle.interface.specs.Event.{RestartFits, done_fits, struck_fits, FitsBy, step_by, image_cut}
use Rattle.interface.proofs.SetLaws.{layout_1, call_laws}
use Rattle.cut_rule.specs.Request.{a_basket, TypedRequest, request_effects}
use Rattle.cut_rule.specs.Rule.{HistoryCorrect}
use Rattle.cut_rule.proofs.CutRule.{cut_rule}
use Rattle.examples.specs.Trial.{small, one_head, recovering}
use Rattle.examples.specs.TornBasket.{answer_to, answers_to, item, eighty_bytes, basket_bytes, basket_given, three_items, two_items, four_slots, tearing}
use Rattle.examples.specs.TornBasket.{invalidation_cut, two_cuts, empty_four, after_tearing, torn_history, torn_answers, torn_image, void_count}
use Rattle.examples.proofs.Trial.{small_bytes}

-- the answers; the void records after each of the two cuts; recovery accepts the formatted image, which has four slots
torn_computed : (answers_to empty_four torn_history ≡ torn_answers) × (void_count torn_image ≡ 2) × (void_count (after_round 1 torn_image invalidation_cut) ≡ 1)
    × (recover_fault 1 (formatted 1 640) (length one_head) (length four_slots) ≡ 0) × (slots_in (formatted 1 640) ≡ 4)
unfolding word set_bytes set_word filter slot_numbers any_of tabulate greatest topmost lowest at_lowest count refuse_if or_else unless_refused content_of_record
    content_by content_of content highest_whole highest_whole_in mark_fault kind_fault kind_limit bits_fault word_fault tail_fault fault_of record_fault
    header_word
    header_fault image_fault index_fault lent_fault whole_version version_fault key_from key_of value_place slot_word value_word value_byte value_front value_of
    slots_of
    paired highest_whole_of verdict_of line_verdict is_valid insert sorted invalidating_store invalidating_stores word_numbers values zipped played less
    standing
    marked placed_word body_a body_b run line_stores record_stores basket_size has_version sharers complete version_if_complete highest_complete is_void settled
    rank_of
    ordered chain_of reuse_of clashes sharers_fault is_record is_broken key_in rank_for_key next_version decider deciding_put live spare live_count broken_count
    broken_limit many_broken all_live valid_version highest_valid is_remove older may_take first_of last_of after next_in chained take_first link_new append
    insert_at
    replace_at remove_at key_fault is_found set_next set_start set_last link with_taken at_end allocation_walk allocate_from ends_fault link_fault few_fault
    reuse_fault
    room_fault walk search chain_fault allocation_by_rule void_slots invalidations_of stores_in no_state settled_fault slots_fault slots_named recover_fault
    recover_slot
    chains_of place_of recovered_index recovered recover_result unchanged store_fault changed write_lent_fault inserts_of write_later_fault write_fault_by
    allocation_by
    write_done write_unless write_result_by formatted length_fault get_later_fault get_fault get_done get_result reads_only call_result call_result_by
    world_after after_round
    after_rounds invalidated_world restarted image_cut step_by takeable_if high_in item_key item_at item_value change_at changes_from changes_of key_count_fault
    among
    any_twice lists_fault given_fault first_fault value_fault action_fault basket_lent_fault keys_fault inserts_by removes_by sum_over basket_fault_by kind_by
    value_by
    records_for old_in items_for index_after basket_made basket_done basket_unless basket_result_by allocation_chosen_by basket_call_result_by own_allocation
    may_take_below
    named_version take_slot all_taken_of taken_slots slot_before before_in link_by link_item link_all basket_index basket_stores size_field_for
    allocation_chosen may_take_after
    any_in answer_to answers_to item eighty_bytes basket_bytes basket_given three_items two_items four_slots tearing invalidation_cut two_cuts empty_four
    after_tearing
    torn_history torn_answers torn_image void_count small one_head recovering request_effects
torn_computed = (refl, refl, refl, refl, refl)

-- THE ANSWERS
pub torn-answers : answers_to empty_four torn_history ≡ torn_answers
torn-answers = torn_computed.0

-- THE VOID RECORDS: two after the first cut, and one after the second
pub torn_voids : (void_count torn_image ≡ 2) × (void_count (after_round 1 torn_image invalidation_cut) ≡ 1)
torn_voids = (torn_computed.1, torn_computed.2)

-- ---- the hypotheses of the cut rule

right_size : index_fault 4 (length one_head) (length four_slots) ≡ 0
unfolding index_fault refuse_if one_head four_slots
right_size = refl

start_fits : RestartFits 4 (recovering four_slots)
unfolding recovering
start_fits = record { rounds = none_left; size = right_size }

cuts_fit : RestartFits 4 two_cuts.restart
unfolding two_cuts invalidation_cut
cuts_fit = record { rounds = one_more right_size none_left; size = right_size }

-- bytes
bytes_append : (xs ys : List ℕ) → AreBytes xs → AreBytes ys → AreBytes (xs ++ ys)
bytes_append [] ys a b k = b k
bytes_append (x ∷ xs) ys a b zero = a 0
bytes_append (x ∷ xs) ys a b (suc k) = bytes_append xs ys (λ i. a (suc i)) b k

zero_bytes : (n : ℕ) → AreBytes (replicate n 0)
zero_bytes n k = omega (arith, zeros n k)

eighty-bytes : (n : ℕ) → n < 256 → AreBytes (eighty_bytes n)
unfolding eighty_bytes
eighty-bytes n h = bytes_append (small n) (replicate 72 0) (small_bytes n h) (zero_bytes 72)

basket-bytes : AreBytes basket_bytes
unfolding basket_bytes
basket-bytes =
    bytes_append (eighty_bytes 1) (eighty_bytes 2 ++ (eighty_bytes 3 ++ replicate 400 0)) (eighty-bytes 1 (omega arith))
    (bytes_append (eighty_bytes 2) (eighty_bytes 3 ++ replicate 400 0) (eighty-bytes 2 (omega arith))
    (bytes_append (eighty_bytes 3) (replicate 400 0) (eighty-bytes 3 (omega arith)) (zero_bytes 400)))

item_typed : (action : Action) (key : ℕ) → key < 256 → TypedItem (item action key)
unfolding item
item_typed action key h = record { low_word = omega arith; high_word = omega arith }

item_many : (n : ℕ) (k : BasketItem) → TypedItem k → All TypedItem (replicate n k)
item_many zero k t = none_left
item_many (suc n) k t = one_more t (item_many n k t)

three_typed : All TypedItem three_items
unfolding three_items
three_typed =
    one_more (item_typed _ 7 (omega arith)) (one_more (item_typed _ 8 (omega arith)) (one_more (item_typed _ 9 (omega arith))
    (item_many 5 _ (item_typed _ 0 (omega arith)))))

two_typed : All TypedItem two_items
unfolding two_items
two_typed = one_more (item_typed _ 8 (omega arith)) (one_more (item_typed _ 7 (omega arith)) (item_many 6 _ (item_typed _ 0 (omega arith))))

basket_typed : (own : Bool) (count : ℕ) (items : List BasketItem) → All TypedItem items → TypedRequest 1 (a_basket own (basket_given count items))
unfolding basket_given
basket_typed own count items typed = (call_laws 1 layout_1).changes_typed items basket_bytes typed basket-bytes count

insert_typed : Typed 1 (write Insert 8 (small 5))
insert_typed = write_typed {key = 8} (omega arith) (small_bytes 5 (omega arith))

torn_fits : All (FitsBy (TypedRequest 1) 4) torn_history
unfolding torn_history after_tearing
torn_fits =
    one_more (struck_fits (basket_typed true 3 three_items three_typed) cuts_fit)
    (one_more (done_fits get_typed) (one_more (done_fits insert_typed)
    (one_more (done_fits (basket_typed false 2 two_items two_typed)) (one_more (done_fits get_typed) (one_more (done_fits get_typed) none_left)))))

-- AN INSTANCE of the cut rule
pub torn_holds : HistoryCorrect 1 empty_four (slots_map 1 (formatted 1 640)) torn_history
unfolding empty_four recovering
torn_holds =
    (cut_rule 1 layout_1 (formatted 1 640) (recovering four_slots)
    ((call_laws 1 layout_1).accepted (formatted 1 640) (length one_head) (length four_slots) torn_computed.3) (rw torn_computed.4 start_fits) torn_history
    (rw torn_computed.4 torn_fits)).1
