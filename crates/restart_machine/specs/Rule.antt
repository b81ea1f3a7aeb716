-- THE RESTART RULE, as one statement over every history of the machine: starts, requests, kills and power cuts at any
-- point, any number of times.
use Rattle.std.specs.Prelude.{◌≡◌, true, false, cond, ◌&&◌, List, [], ◌∷◌, ◌++◌, map, ℕ}
use Rattle.std.proofs.Math.Option.{none, some}
use Rattle.stores.specs.Store.{all_stand}
use Rattle.restart_machine.specs.Machine.{Memory, seen, cut_off, Library, Duties, recovering, answering, busy, idle, all_made, TakenRequest, Outcome}
use Rattle.restart_machine.specs.Machine.{answered, unanswered, History, decide, Move, Machine, moved_by, at_rest}

-- what a library promises, by a plain machine that holds an M
pub record Promise (Lent Held Request M : Type 0) : Type 1 where
  -- the plain machine after a request that is wholly done
  pub after : TakenRequest Held Request → M → M
  -- recovery of an image gives what the plain machine holds
  pub Recovers : (image : List ℕ) → M → Type 0
  -- the answer of a recovery is right, and that of a request
  pub RecoveryCorrect : (image : List ℕ) → Lent → M → Type 0
  pub RequestCorrect : (image : List ℕ) → Held → M → Request → Type 0

module _ {Lent Held Request M : Type 0} (promise : Promise Lent Held Request M) where
  -- THE PLAIN MACHINE of a list of requests, from m: each in its place, the answered ones wholly, the others wholly or
  -- not at all
  unfoldable pub plain_of : (m : M) → List (TakenRequest Held Request × Outcome) → M
  plain_of m [] = m
  plain_of m ((taken, answered) ∷ es) = promise.after taken (plain_of m es)
  plain_of m ((taken, unanswered stands) ∷ es) = cond stands (promise.after taken (plain_of m es)) (plain_of m es)

  -- what holds of the machine s at every moment
  pub record HoldsNow (m : M) (s : Machine Lent Held Request) : Type 0 where
    -- a power cut now, whatever it takes of each line: recovery gives the plain machine of the requests, the undecided
    -- one wholly or not at all
    pub if_cut : (counts : ℕ → ℕ) → promise.Recovers (cut_off counts s.memory).durable
        (plain_of m (decide (unanswered (all_made s.program && all_stand counts s.memory.pending)) s.history).decided)
    -- a kill now: the same of what is seen
    pub if_killed : promise.Recovers (seen s.memory) (plain_of m (decide (unanswered (all_made s.program)) s.history).decided)
    -- at a recovery all that is seen is durable, and recovery's answer is right
    pub at_recovery : (lent : Lent) → s.program ≡ busy [] ([], false) (recovering lent)
        → (s.memory.pending ≡ []) × promise.RecoveryCorrect (seen s.memory) lent (plain_of m (decide (unanswered true) s.history).decided)
    -- while the program waits nothing is pending and no request is undecided; the next request's answer is right, by
    -- the plain machine at its place
    pub at_request : (held : Held) → s.program ≡ idle held
        → (s.memory.pending ≡ []) × (s.history.undecided ≡ none)
        × ((request : Request) → promise.RequestCorrect (seen s.memory) held (plain_of m s.history.decided) request)
    -- at an answer nothing is pending, and the request that is answered is the undecided one
    pub at_answer : (held : Held) → s.program ≡ busy [] ([], false) (answering held)
        → (s.memory.pending ≡ []) × ((taken : TakenRequest Held Request) × (s.history.undecided ≡ some taken))
    -- the requests of the history, with the undecided one, are those that came to a waiting program, each in its place:
    -- none is left out and none is put in
    pub requests_kept : map (λ (e : TakenRequest Held Request × Outcome). e.0.request) (decide answered s.history).decided ≡ s.history.requests

  -- after every list of moves, from a durable image with m
  abbrev pub RestartRule : (d : Duties) → Library Lent Held Request → (image : List ℕ) → (m : M) → Type 0
  RestartRule d library image m = (moves : List (Move Lent Request)) → HoldsNow m (moved_by d library (at_rest image) moves)

-- what is decided stays so through every later kill and cut: the list only grows
abbrev pub DecidedStays : (Lent Held Request : Type 0) → Type 0
DecidedStays Lent Held Request =
    (d : Duties) (library : Library Lent Held Request) (s : Machine Lent Held Request) (moves : List (Move Lent Request))
    → (newer : List (TakenRequest Held Request × Outcome)) × ((moved_by d library s moves).history.decided ≡ newer ++ s.history.decided)
