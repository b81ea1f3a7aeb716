-- Document 01's trial session: computed, and an instance of the cut rule whose hypotheses are met by computation. Assumes nothing.
use mathlib.Core.Path.{◌≡◌, refl}
use Prim.Native.Nat.{ℕ, zero, suc, ◌^◌, ◌<◌}
use native.Mathlib.Omega.{arith}
use lib.ListN.{length}
use borrow.Author.Tests.{ltb-true}
use Rattle.words.specs.Word.{AreBytes, word, set_bytes, set_word}
use Rattle.prelude.specs.Members.{All, none_left, one_more, slot_numbers}
use Rattle.prelude.specs.Refusal.{refuse_if, or_else, unless_refused}
use Rattle.prelude.specs.Range.{any_of, tabulate, greatest, topmost, lowest, at_lowest, count}
use Rattle.prelude.specs.Filter.{filter}
use Rattle.prelude.proofs.Fills.{zeros}
use Rattle.layout.specs.Size.{slots_of, slots_in}
use Rattle.layout.specs.Line.{whole_version, version_fault}
use Rattle.layout.specs.Slot.{paired, highest_whole_of, verdict_of, line_verdict, is_valid}
use Rattle.layout.specs.Record.{Layout, key_from, key_of, key_with, value_place, slot_word, value_word, value_byte, value_front, value_of}
use Rattle.layout.specs.Content.{content_of_record, content_by, content_of, content, highest_whole_in, highest_whole}
use Rattle.layout.specs.Header.{header_word, header_fault, image_fault, index_fault, lent_fault}
use Rattle.layout.specs.Fault.{mark_fault, kind_fault, kind_limit, word_fault, tail_fault, fault_of, record_fault, bits_fault}
use Rattle.stores.specs.Store.{zipped, played, less, standing}
use Rattle.stores.specs.Written.{marked, placed_word, body_a, body_b, run, line_stores, record_stores}
use Rattle.stores.specs.Play.{word_numbers, values}
use Rattle.stores.specs.Invalidation.{invalidating_store, invalidating_stores}
use Rattle.sorting.specs.Sorted.{insert, sorted}
use Rattle.table.specs.Table.{is_record, key_in, rank_for_key, next_version, decider, deciding_put, live, spare, live_count, is_broken, broken_count}
use Rattle.table.specs.Table.{broken_limit}
use Rattle.table.specs.Table.{many_broken, all_live}
use Rattle.table.specs.Order.{rank_of, ordered, chain_of, reuse_of}
use Rattle.table.specs.Complete.{basket_size, has_version, sharers, complete, version_if_complete, highest_complete, is_void, settled}
use Rattle.table.specs.Shared.{clashes, sharers_fault}
use Rattle.table.specs.Takeable.{valid_version, highest_valid, is_remove, older, may_take, takeable_if}
use Rattle.index.specs.declared.Mode.{Mode}
use Rattle.index.specs.Index.{set_next, set_start, set_last, link, no_state}
use Rattle.index.specs.Chained.{first_of, last_of, after, next_in, chained}
use Rattle.index.specs.Change.{inserts_of, take_first, link_new, append, key_fault, is_found, insert_at, replace_at, remove_at}
use Rattle.index.specs.Walk.{walk, search, chain_fault}
use Rattle.index.specs.Allocation.{with_taken, at_end, allocation_walk, allocate_from, ends_fault, link_fault, few_fault, reuse_fault, room_fault}
use Rattle.allocation.specs.Allocation.{allocation_by_rule, allocation_by}
use Rattle.recovery.specs.Recover.{slots_fault, recover_fault, chains_of, place_of, recovered_index, recovered, recover_result, settled_fault, slots_named}
use Rattle.recovery.specs.Recover.{recover_slot}
use Rattle.recovery.specs.Invalidation.{void_slots, invalidations_of, stores_in}
use Rattle.calls.specs.Format.{formatted}
use Rattle.calls.specs.Change.{changed, write_lent_fault, write_later_fault, write_fault, write_done, write_unless, write_result, remove_later_fault}
use Rattle.calls.specs.Change.{remove_fault}
use Rattle.calls.specs.Change.{remove_done, remove_unless, remove_result, store_fault, remove_fault_by, remove_result_by, write_fault_by, write_result_by}
use Rattle.calls.specs.Result.{unchanged}
use Rattle.calls.specs.Get.{length_fault, get_later_fault, get_fault, get_done, get_result}
use Rattle.calls.specs.Locate.{locate_fault, locate_done, locate_answer}
use Rattle.plainmap.specs.World.{write, call_result, world_after, after_round, after_rounds, invalidated_world, restarted, reads_only}
use Rattle.plainmap.specs.Claims.{Typed, write_typed, remove_typed, get_typed, slots_map}
use Rattle.interface.specs.Event.{RestartFits, done_fits, struck_fits, FitsBy, step_by, image_cut}
use Rattle.interface.proofs.SetLaws.{layout_1, layout_2, call_laws}
use Rattle.cut_rule.specs.Request.{TypedRequest}
use Rattle.cut_rule.specs.Rule.{HistoryCorrect}
use Rattle.cut_rule.proofs.CutRule.{cut_rule}
use Rattle.examples.specs.Trial.{answers, outputs, small, one_head, two_slots, recovering, cut_at, fresh, session_with, session, second_session, as_requests}
use Rattle.examples.specs.Trial.{expected, expected_outputs}

-- THE SESSION answers as document 01 says, with the outputs of its gets, in both layouts; recovery accepts its formatted image, which has two slots
session_computed : (answers 1 (fresh 1) session ≡ expected) × (outputs 1 (fresh 1) session ≡ expected_outputs)
    × (recover_fault 1 (formatted 1 384) (length one_head) (length two_slots) ≡ 0) × (slots_in (formatted 1 384) ≡ 2)
    × (answers 2 (fresh 2) second_session ≡ expected) × (outputs 2 (fresh 2) second_session ≡ expected_outputs)
    × (recover_fault 2 (formatted 2 384) (length one_head) (length two_slots) ≡ 0) × (slots_in (formatted 2 384) ≡ 2)
unfolding word set_bytes set_word filter slot_numbers any_of tabulate greatest topmost lowest at_lowest count refuse_if or_else unless_refused content_of_record
    content_by content_of content highest_whole highest_whole_in mark_fault kind_fault kind_limit bits_fault word_fault tail_fault fault_of record_fault
    header_word
    header_fault image_fault index_fault lent_fault whole_version version_fault key_from key_of value_place slot_word value_word value_byte value_front value_of
    slots_of
    paired highest_whole_of verdict_of line_verdict is_valid insert sorted invalidating_store invalidating_stores word_numbers values zipped played less
    standing
    marked placed_word body_a body_b run line_stores record_stores basket_size has_version sharers complete version_if_complete highest_complete is_void settled
    rank_of
    ordered chain_of reuse_of clashes sharers_fault is_record is_broken key_in rank_for_key next_version decider deciding_put live spare live_count broken_count
    broken_limit many_broken all_live valid_version highest_valid is_remove older may_take first_of last_of after next_in chained take_first link_new append
    insert_at
    replace_at remove_at key_fault is_found set_next set_start set_last link with_taken at_end allocation_walk allocate_from ends_fault link_fault few_fault
    reuse_fault
    room_fault walk search chain_fault allocation_by_rule void_slots invalidations_of stores_in no_state settled_fault slots_fault slots_named recover_fault
    recover_slot
    chains_of place_of recovered_index recovered recover_result unchanged store_fault changed write_lent_fault inserts_of write_later_fault write_fault_by
    allocation_by
    write_done write_unless write_result_by remove_later_fault remove_fault_by remove_done remove_unless remove_result_by formatted length_fault get_later_fault
    get_fault
    get_done get_result locate_fault locate_done locate_answer reads_only call_result world_after after_round after_rounds invalidated_world restarted image_cut
    step_by
    answers outputs small one_head two_slots recovering cut_at fresh session_with expected expected_outputs takeable_if
session_computed = (refl, refl, refl, refl, refl, refl, refl, refl)

pub session-answers : answers 1 (fresh 1) session ≡ expected
session-answers = session_computed.0

pub session-outputs : outputs 1 (fresh 1) session ≡ expected_outputs
session-outputs = session_computed.1

pub second_answers : answers 2 (fresh 2) second_session ≡ expected
second_answers = session_computed.4

pub second_outputs : outputs 2 (fresh 2) second_session ≡ expected_outputs
second_outputs = session_computed.5

-- ---- the hypotheses of the cut rule

right_size : index_fault 2 (length one_head) (length two_slots) ≡ 0
unfolding index_fault refuse_if one_head two_slots
right_size = refl

pub small_bytes : (n : ℕ) → n < 256 → AreBytes (small n)
unfolding small
small_bytes n h zero = h
small_bytes n h (suc k) = omega (arith, zeros 7 k)

restart_fits : RestartFits 2 (recovering two_slots)
unfolding recovering
restart_fits = record { rounds = none_left; size = right_size }

module _ (l a b : ℕ) (a-sized : a < (2 ^ 64) ^ l) (b-sized : b < (2 ^ 64) ^ l) where
  sized : {mode : Mode} (key value : ℕ) → key < (2 ^ 64) ^ l → value < 256 → Typed l (write mode key (small value))
  sized key value k v = write_typed k (small_bytes value v)

  session_fits : All (FitsBy (TypedRequest l) 2) (as_requests (session_with a b))
  unfolding session_with as_requests cut_at
  session_fits =
      one_more (done_fits (sized a 100 a-sized (omega arith))) (one_more (done_fits (sized b 5 b-sized (omega arith)))
      (one_more (done_fits (sized a 101 a-sized (omega arith)))
      (one_more (struck_fits (sized a 102 a-sized (omega arith)) restart_fits)
      (one_more (done_fits get_typed) (one_more (done_fits (remove_typed a-sized)) (one_more (done_fits get_typed)
      (one_more (done_fits (sized b 5 b-sized (omega arith))) none_left)))))))

  -- AN INSTANCE of the cut rule
  holds : Layout l → recover_fault l (formatted l 384) (length one_head) (length two_slots) ≡ 0 → slots_in (formatted l 384) ≡ 2
      → HistoryCorrect l (fresh l) (slots_map l (formatted l 384)) (as_requests (session_with a b))
  unfolding fresh recovering
  holds layout accepted slots =
      (cut_rule l layout (formatted l 384) (recovering two_slots)
      ((call_laws l layout).accepted (formatted l 384) (length one_head) (length two_slots) accepted)
      (rw slots restart_fits) (as_requests (session_with a b)) (rw slots session_fits)).1

pub session_holds : HistoryCorrect 1 (fresh 1) (slots_map 1 (formatted 1 384)) (as_requests session)
session_holds = holds 1 7 8 (omega arith) (omega arith) layout_1 session_computed.2 session_computed.3

pub second_holds : HistoryCorrect 2 (fresh 2) (slots_map 2 (formatted 2 384)) (as_requests second_session)
second_holds =
    holds 2 _ _ (ltb-true (key_with 7 1) ((2 ^ 64) ^ 2) refl) (ltb-true (key_with 7 2) ((2 ^ 64) ^ 2) refl) layout_2 session_computed.6
    session_computed.7
