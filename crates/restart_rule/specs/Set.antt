-- THE RESTART RULE OF THE SET, for calls, baskets and book steps: the set as a library of the machine, what it
-- promises, and the rule.
use Rattle.std.specs.Prelude.{◌≡◌, List, ℕ, length}
use Rattle.prelude.specs.Answer.{refuses, refusal_in}
use Rattle.interface.specs.Set.{Accepted, Layout, Index, Lists, plain_step, World, PlainMap, recover_result, stores_in, slots_in, slots_map, index_fault}
use Rattle.interface.specs.Recovers.{Recovers}
use Rattle.cut_rule.specs.AllocationRule.{RequestByRule}
use Rattle.cut_rule.specs.Request.{Request, request_effects, request_fault, request_updates, RequestCorrect, TypedRequest}
use Rattle.restart_machine.specs.Machine.{Library, Duties, Sufficient}
use Rattle.restart_machine.specs.Rule.{Promise, RestartRule}

-- an index of the right size for n slots, which a start lends to recovery; B may be another at each start
pub record LentIndex (n : ℕ) : Type 0 where
  pub lists : Lists
  pub size : index_fault n (length lists.heads) (length lists.next) ≡ 0

-- a request whose fields are numbers of their size
pub record SetRequest (l : ℕ) : Type 0 where
  pub request : Request
  pub typed : TypedRequest l request

-- the program holds the index in its own memory; recovery's stores are its invalidating stores
abbrev pub world_with : (image : List ℕ) → Index → World
world_with image held = record { image = image; index = held }

abbrev pub set_library : (l n : ℕ) → Library (LentIndex n) Index (SetRequest l)
set_library l n =
    record {
      recovery = λ image lent.
          record {
            stores = stores_in (recover_result l image lent.lists.heads lent.lists.next).invalidations;
            held = (recover_result l image lent.lists.heads lent.lists.next).index;
          };
      call = λ image held asked.
          record {
            stores = (request_effects l (world_with image held) asked.request).stores;
            held = (request_effects l (world_with image held) asked.request).index;
          };
    }

-- what the set promises in an image of n slots, by the plain map
abbrev pub set_promise : (l n : ℕ) → Promise (LentIndex n) Index (SetRequest l) PlainMap
set_promise l n =
    record {
      after = λ taken m.
          let request : Request = taken.request.request in
          plain_step (request_updates m request) (refuses (request_fault l (world_with taken.image taken.held) m request)) m;
      Recovers = Recovers l;
      RecoveryCorrect = λ image lent m. refusal_in (recover_result l image lent.lists.heads lent.lists.next).answer ≡ 0;
      RequestCorrect = λ image held m asked.
          RequestCorrect l (world_with image held) m asked.request × RequestByRule l (world_with image held) m asked.request;
    }

-- THE RESTART RULE OF THE SET: from any accepted image that is durable, for every program that does its duties, in both
-- layouts
abbrev pub SetRestartRule : Type 0
SetRestartRule =
    (l : ℕ) → Layout l → (image : List ℕ) → Accepted l image
    → (d : Duties) → Sufficient d → RestartRule (set_promise l (slots_in image)) d (set_library l (slots_in image)) image (slots_map l image)
