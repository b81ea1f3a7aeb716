-- The definitions that the public calls' contracts and the statements on a set are made of, handed on to the layers
-- above.

-- sizes, what an image holds, and the keys of a map
pub use Rattle.layout.specs.Size.{slots_in}
pub use Rattle.layout.specs.Size.{slots_of}
pub use Rattle.layout.specs.Record.{Layout, key_with, limit}
pub use Rattle.layout.specs.Header.{HeaderOf}
pub use Rattle.layout.specs.Layouts.{layout_number}
unfoldable pub use Rattle.layout.specs.Header.{index_fault}
pub use Rattle.table.specs.Complete.{table_of}
pub use Rattle.table.specs.Table.{holder, next_version}
unfoldable pub use Rattle.table.specs.Table.{is_held}
pub use Rattle.prelude.specs.Keys.{Holds, holds, Keys}
-- stores and play
pub use Rattle.stores.specs.Store.{Store, played, standing, all_stand}
unfoldable pub use Rattle.stores.specs.Store.{zipped}
pub use Rattle.refusals.specs.declared.Refusal.{Refusal}
pub use Rattle.refusals.specs.Number.{code_of, fault_in}
pub use Rattle.stores.specs.Play.{Played, play_end}
pub use Rattle.stores.specs.Play.{play_result, play_list_result}
unfoldable pub use Rattle.stores.specs.Play.{word_numbers, values, playing, half_counts}
-- the calls, each with what it answers and leaves
pub use Rattle.index.specs.declared.State.{State}
pub use Rattle.index.specs.Index.{Index, Lists, index_of}
unfoldable pub use Rattle.index.specs.Index.{no_state}
pub use Rattle.recovery.specs.Recover.{Recovery}
pub use Rattle.recovery.specs.Recover.{recover_fault, recover_result}
unfoldable pub use Rattle.recovery.specs.Recover.{recover_end}
pub use Rattle.recovery.specs.declared.Invalidations.{Invalidations}
unfoldable pub use Rattle.recovery.specs.Invalidation.{stores_in}
pub use Rattle.slot_counts.specs.declared.SlotCounts.{SlotCounts}
pub use Rattle.slot_counts.specs.declared.CountAnswer.{CountAnswer}
pub use Rattle.slot_counts.specs.declared.CountAnswer.TheVariants.{Counted, Refused as NotCounted}
pub use Rattle.slot_counts.specs.Count.{CountResult}
unfoldable pub use Rattle.slot_counts.specs.Count.{count_values, count_end, count_says, count_result}
pub use Rattle.cut_counts.specs.declared.CutCounts.{CutCounts}
pub use Rattle.cut_counts.specs.CutCount.{earlier_count, later_count, cut_count_fault, CutCountResult, cut_count_end}
unfoldable pub use Rattle.cut_counts.specs.CutCount.{cut_count_says, cut_count_result}
pub use Rattle.calls.specs.Format.{FormatResult}
pub use Rattle.calls.specs.Format.{formatted, format_end}
unfoldable pub use Rattle.calls.specs.Format.{format_says, layout_fault, format_fault, format_result}
pub use Rattle.calls.specs.Result.{CallResult, ReadOnlyResult}
pub use Rattle.calls.specs.BasketItems.{changes_of}
pub use Rattle.calls.specs.BasketBuffers.{BasketBuffers, basket_end}
unfoldable pub use Rattle.calls.specs.BasketBuffers.{basket_says, buffers_after_lists}
pub use Rattle.calls.specs.declared.Change.{Change}
pub use Rattle.calls.specs.declared.GetAnswer.{GetAnswer}
pub use Rattle.calls.specs.declared.LocateAnswer.{LocateAnswer}
pub use Rattle.calls.specs.Change.{change_end}
pub use Rattle.index.specs.declared.Mode.{Mode}
pub use Rattle.index.specs.declared.Mode.TheVariants.{Insert, Replace}
pub use Rattle.calls.specs.Change.{write_result, write_result_by, remove_result, remove_result_by}
unfoldable pub use Rattle.calls.specs.Change.{change_says, stores_after, buffers_after}
pub use Rattle.calls.specs.Get.{get_end}
pub use Rattle.calls.specs.Get.{get_result}
unfoldable pub use Rattle.calls.specs.Get.{get_says}
pub use Rattle.calls.specs.Locate.{locate_end, locate_result}
unfoldable pub use Rattle.calls.specs.Locate.{locate_says}
-- the world between calls, and the plain map
pub use Rattle.plainmap.specs.World.{World, Call, write, remove, get, locate}
pub use Rattle.plainmap.specs.World.{out_of}
unfoldable pub use Rattle.plainmap.specs.World.{call_result_by, call_result_by_rule, call_result, finished, world_after, recovered_world, invalidated_world}
unfoldable pub use Rattle.plainmap.specs.World.{restarted}
unfoldable pub use Rattle.plainmap.specs.World.{reads_only}
pub use Rattle.plainmap.specs.World.{Round, Restart}
unfoldable pub use Rattle.plainmap.specs.World.{after_round, after_rounds}
pub use Rattle.plainmap.specs.Plain.{PlainMap, Update, giving, dropping}
pub use Rattle.plainmap.specs.Plain.{plain_out}
unfoldable pub use Rattle.plainmap.specs.Plain.{updates, updated, plain_next, plain_step, rule_fault, length_answer, filled, plain_answer}
pub use Rattle.plainmap.specs.Accepted.{Accepted, RightSize}
pub use Rattle.plainmap.specs.Claims.{Typed, write_typed, remove_typed, get_typed, locate_typed, slots_map, expected_refusal, expected_answer, CallCorrect}
pub use Rattle.plainmap.specs.Claims.{Reads, Unchanged}
pub use Rattle.plainmap.specs.Room.{SomeTakeable, InsertsNew, RoomCorrect}
-- baskets
pub use Rattle.index.specs.declared.Action.{Action}
pub use Rattle.index.specs.declared.Action.TheVariants.{Write, Remove}
pub use Rattle.calls.specs.declared.BasketItem.{BasketItem}
pub use Rattle.calls.specs.declared.BasketAnswer.{BasketAnswer}
pub use Rattle.calls.specs.Basket.{basket_result, basket_result_by}
pub use Rattle.plainmap.specs.Baskets.{Basket, BasketCorrect, TypedItem, TypedChange, expected_basket_refusal}
unfoldable pub use Rattle.plainmap.specs.Baskets.{basket_call_result, basket_call_result_by, basket_call_result_by_rule, basket_updates}
