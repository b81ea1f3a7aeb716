-- THE MACHINE: a program over a memory behind a cache, and what may happen to both. It knows lines, stores, a recovery
-- and requests, and not what they are for.
use Rattle.std.specs.Prelude.{◌≡◌, Bool, true, false, cond, not, ◌&&◌, ℕ, ◌+◌, ◌*◌, ◌/◌, ◌≤◌, eqb, length}
use Rattle.std.proofs.Math.Option.{Option, none, some, Option-elim}
use mathlib.Core.List.{List, [], ◌∷◌, ◌++◌, foldl}
use Rattle.prelude.specs.Filter.{filter, is_among}
use Rattle.prelude.specs.Members.{All}
use Rattle.stores.specs.Store.{Store, played, standing, not_standing, all_stand}

-- ---- the memory

pub record Memory : Type 0 where
  -- the bytes that a power cut finds in the memory itself
  pub durable : List ℕ
  -- the stores made since that are not durable, in the order in which they were made; only their order within each line
  -- matters
  pub pending : List Store
  -- the lines that were flushed, with no store to them and no fence since
  pub flushed : List ℕ

-- what every program sees: all stores played
unfoldable pub seen : Memory → List ℕ
seen mem = played mem.pending mem.durable

-- of each line n the first `counts n` pending stores have become durable
unfoldable pub written_back : (counts : ℕ → ℕ) → Memory → Memory
written_back counts mem =
    record { durable = played (standing counts mem.pending) mem.durable; pending = not_standing counts mem.pending; flushed = mem.flushed }

-- a power cut: of each line n the first `counts n` pending stores have become durable, and the others are lost
unfoldable pub cut_off : (counts : ℕ → ℕ) → Memory → Memory
cut_off counts mem = record { durable = (written_back counts mem).durable; pending = []; flushed = [] }

-- no flush is counted upon any more: so it is after a fence, and after a kill, since the fence of another program says
-- nothing of the killed one's flushes
unfoldable pub none_flushed : Memory → Memory
none_flushed mem = record { durable = mem.durable; pending = mem.pending; flushed = [] }

-- a store. A flush of its line before it says nothing of it
unfoldable pub after_store : Store → Memory → Memory
after_store s mem =
    record { durable = mem.durable; pending = mem.pending ++ (s ∷ []); flushed = filter (λ k. not (eqb k (s.word / 8))) mem.flushed }

-- a flush of line n: it makes nothing durable by itself
unfoldable pub after_flush : (n : ℕ) → Memory → Memory
after_flush n mem = record { durable = mem.durable; pending = mem.pending; flushed = n ∷ mem.flushed }

-- a fence: every store of a flushed line is durable when it has ended
unfoldable pub after_fence : Memory → Memory
after_fence mem = none_flushed (written_back (λ n. cond (is_among n mem.flushed) (length mem.pending) 0) mem)

-- ---- the program

-- what recovery or a call gives the program: the stores to make, and what it holds in its own memory from then on
pub record Effect (Held : Type 0) : Type 0 where
  pub stores : List Store
  pub held : Held

-- a library, by its recovery, which is lent something, and its calls
pub record Library (Lent Held Request : Type 0) : Type 0 where
  pub recovery : (image : List ℕ) → Lent → Effect Held
  pub call : (image : List ℕ) → Held → Request → Effect Held

-- lines to flush, and whether a fence follows
abbrev pub Flushing : Type 0
Flushing = List ℕ × Bool

-- what a program does for durability: before recovery of an image of some length, after recovery's invalidating stores,
-- and after the stores of a request
pub record Duties : Type 0 where
  pub before_recovery : (len : ℕ) → Flushing
  pub after_recovery : List Store → Flushing
  pub after_request : List Store → Flushing

-- it covers these stores: the line of each is flushed, and a fence follows
abbrev pub Covers : Flushing → List Store → Type 0
Covers flushing ss = All (λ (s : Store). is_among (s.word / 8) flushing.0 ≡ true) ss × (flushing.1 ≡ true)

-- THE DUTIES ARE DONE: before recovery the line of every store inside the image is flushed, after stores the line of
-- each; then comes a fence
pub record Sufficient (d : Duties) : Type 0 where
  pub before-recovery : (len : ℕ) (ss : List Store) → All (λ (s : Store). 8 * s.word + 8 ≤ len) ss → Covers (d.before_recovery len) ss
  pub after-recovery : (ss : List Store) → Covers (d.after_recovery ss) ss
  pub after-request : (ss : List Store) → Covers (d.after_request ss) ss

-- what follows the stores, the flushes and the fence: recovery, the first request, or an answer
pub data Continuation (Lent Held : Type 0) : Type 0 where
  recovering : Lent → Continuation Lent Held
  opened : Held → Continuation Lent Held
  answering : Held → Continuation Lent Held

-- no program runs; or it has yet to make these stores, one by one, then to flush these lines, one by one, then,
-- perhaps, to fence; or it waits for a request
pub data Program (Lent Held : Type 0) : Type 0 where
  off : Program Lent Held
  busy : (stores : List Store) → Flushing → Continuation Lent Held → Program Lent Held
  idle : Held → Program Lent Held

-- has it made all its stores?
unfoldable pub all_made : {Lent Held : Type 0} → Program Lent Held → Bool
all_made off = true
all_made (busy [] flushing c) = true
all_made (busy (s ∷ ss) flushing c) = false
all_made (idle held) = true

-- ---- the history of the requests

-- a request as the program took it, with what it saw and held
pub record TakenRequest (Held Request : Type 0) : Type 0 where
  pub request : Request
  pub image : List ℕ
  pub held : Held

-- a request was answered; or it was not, and stands wholly or not at all
pub data Outcome : Type 0 where
  answered : Outcome
  unanswered : (stands : Bool) → Outcome

-- the requests taken, the newest first
pub record History (Held Request : Type 0) : Type 0 where
  -- all that came to a program that waits, as `asked` writes them down
  pub requests : List Request
  pub decided : List (TakenRequest Held Request × Outcome)
  -- the one that the program is at, or was killed at after it had made all its stores
  pub undecided : Option (TakenRequest Held Request)

-- the undecided request, if any, has this outcome
unfoldable pub decide : {Held Request : Type 0} → Outcome → History Held Request → History Held Request
decide outcome h = record { requests = h.requests; decided = Option-elim h.undecided h.decided (λ t. (t, outcome) ∷ h.decided); undecided = none }

-- ---- the moves. Each can come at any time; one that the program cannot make changes nothing

-- a program starts; a request comes; the program's next store, flush, fence, recovery or answer; the cache makes stores
-- durable by itself; a kill; a power cut
pub data Move (Lent Request : Type 0) : Type 0 where
  start : Lent → Move Lent Request
  ask : Request → Move Lent Request
  next_step : Move Lent Request
  write_back : (counts : ℕ → ℕ) → Move Lent Request
  kill : Move Lent Request
  cut : (counts : ℕ → ℕ) → Move Lent Request

pub record Machine (Lent Held Request : Type 0) : Type 0 where
  pub memory : Memory
  pub program : Program Lent Held
  pub history : History Held Request

abbrev pub machine : {Lent Held Request : Type 0} → Memory → Program Lent Held → History Held Request → Machine Lent Held Request
machine mem prog h = record { memory = mem; program = prog; history = h }

module _ {Lent Held Request : Type 0} (d : Duties) (library : Library Lent Held Request) where
  unfoldable pub started : Memory → Program Lent Held → Lent → Program Lent Held
  started mem off lent = busy [] (d.before_recovery (length mem.durable)) (recovering lent)
  started mem (busy ss flushing c) lent = busy ss flushing c
  started mem (idle held) lent = idle held

  unfoldable pub asked : Memory → Program Lent Held → History Held Request → Request → Machine Lent Held Request
  asked mem off h request = machine mem off h
  asked mem (busy ss flushing c) h request = machine mem (busy ss flushing c) h
  asked mem (idle held) h request =
      let e : Effect Held = library.call (seen mem) held request in
      machine mem (busy e.stores (d.after_request e.stores) (answering e.held))
      (record { requests = request ∷ h.requests; decided = h.decided; undecided = some (record { request = request; image = seen mem; held = held }) })

  -- recovery decides the undecided request, which stands, and so does an answer
  unfoldable pub continued : Memory → Continuation Lent Held → History Held Request → Machine Lent Held Request
  continued mem (recovering lent) h =
      let e : Effect Held = library.recovery (seen mem) lent in
      machine mem (busy e.stores (d.after_recovery e.stores) (opened e.held)) (decide (unanswered true) h)
  continued mem (opened held) h = machine mem (idle held) h
  continued mem (answering held) h = machine mem (idle held) (decide answered h)

  unfoldable pub stepped : Memory → Program Lent Held → History Held Request → Machine Lent Held Request
  stepped mem off h = machine mem off h
  stepped mem (busy (s ∷ ss) flushing c) h = machine (after_store s mem) (busy ss flushing c) h
  stepped mem (busy [] (n ∷ lines, fence) c) h = machine (after_flush n mem) (busy [] (lines, fence) c) h
  stepped mem (busy [] ([], true) c) h = machine (after_fence mem) (busy [] ([], false) c) h
  stepped mem (busy [] ([], false) c) h = continued mem c h
  stepped mem (idle held) h = machine mem (idle held) h

  -- THE MACHINE after a move. A kill leaves all stores; a request that it ends before all stores were made does not
  -- stand
  unfoldable pub moved : Machine Lent Held Request → Move Lent Request → Machine Lent Held Request
  moved s (start lent) = machine s.memory (started s.memory s.program lent) s.history
  moved s (ask request) = asked s.memory s.program s.history request
  moved s next_step = stepped s.memory s.program s.history
  moved s (write_back counts) = machine (written_back counts s.memory) s.program s.history
  moved s kill = machine (none_flushed s.memory) off (cond (all_made s.program) s.history (decide (unanswered false) s.history))
  moved s (cut counts) =
      machine (cut_off counts s.memory) off (decide (unanswered (all_made s.program && all_stand counts s.memory.pending)) s.history)

  -- and after these moves
  unfoldable pub moved_by : Machine Lent Held Request → List (Move Lent Request) → Machine Lent Held Request
  moved_by s moves = foldl moved s moves

-- no program, an image that is durable, and no request yet
unfoldable pub at_rest : {Lent Held Request : Type 0} → (image : List ℕ) → Machine Lent Held Request
at_rest image = machine (record { durable = image; pending = []; flushed = [] }) off (record { requests = []; decided = []; undecided = none })
