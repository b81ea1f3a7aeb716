-- The calls are a plain map. Assumes nothing.
use Prim.Native.Nat.{ℕ}
use native.Mathlib.Omega.{arith}
use Rattle.layout.specs.Record.{Layout}
use Rattle.plainmap.specs.Map.{IsMap}
use Rattle.plainmap.proofs.Sees.{sound_answers}
use Rattle.plainmap.proofs.Sounds.{recovered_sound}
use Rattle.plainmap.proofs.Compares.{sound_counted}
use Rattle.plainmap.proofs.Refuses.{taking_count}
use Rattle.plainmap.proofs.Singles.{slot_taken, call_by_rule}
use Rattle.plainmap.proofs.OwnCalls.{either_called, either_basket_called}
use Rattle.plainmap.proofs.CallLists.{agrees_right, agrees_next, agrees_list, plain_rule, recovered_reads, formatted_empty}
use Rattle.plainmap.proofs.BasketRights.{basket-by-rule}
use Rattle.plainmap.proofs.GrownLists.{accepted_rule, grown_rule}

pub is_map : (l : ℕ) → Layout l → IsMap l
is_map l lay =
    record {
      recovers = recovered_sound l;
      finds = sound_answers l;
      counts = sound_counted l;
      answers = agrees_right l lay;
      keeps = agrees_next l lay;
      list_plays = agrees_list l lay;
      takes = λ w m g some.
          slot_taken l lay w g.chains g.accepted g.consistent g.none_void
          (omega (arith, taking_count l w g.chains g.accepted g.consistent g.none_void, some));
      call_by_rule = λ w m g. call_by_rule l lay w g.chains g.accepted g.consistent g.none_void;
      basket-by-rule = λ w m g. basket-by-rule l lay w g.chains g.accepted g.consistent g.none_void;
      either_call = either_called l lay;
      either_basket = either_basket_called l lay;
      reads = recovered_reads l;
      empty = λ len ne. formatted_empty l len ne (omega (arith, lay.high));
      lists = plain_rule l lay;
      recovered_lists = accepted_rule l lay;
      grown_lists = grown_rule l lay;
    }
