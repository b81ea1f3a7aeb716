-- PROGRAMS THAT LEAVE OUT A DUTY, and short histories on images of two and four slots in which they break the restart
-- rule.
use Rattle.std.specs.Prelude.{◌≡◌, false, true, cond, List, [], ◌∷◌, ◌++◌, ℕ, zero, suc, ◌%◌, eqb, ltb, length, replicate, take}
use Rattle.std.proofs.Math.Option.{Option}
use Rattle.prelude.specs.Answer.{Answer, refused}
use Rattle.words.specs.Word.{word}
use Rattle.stores.specs.Store.{played}
use Rattle.stores.specs.Written.{record_stores}
use Rattle.interface.specs.Set.{formatted, Mode, Insert, Replace, Call, write, get, call_result, Typed, slots_map, index_fault, Index}
use Rattle.cut_rule.specs.Request.{a_call}
use Rattle.restart_machine.specs.Machine.{Memory, Duties, Program, off, busy, idle, Move, start, ask, next_step, kill, cut, Machine, moved_by, at_rest}
use Rattle.restart_machine.specs.Rule.{plain_of}
use Rattle.restart_machine.specs.EachLine.{store_lines, all_lines, each_line}
use Rattle.restart_rule.specs.Set.{LentIndex, SetRequest, world_with, set_library, set_promise}

-- ---- the wrong programs: each is `each_line` but for one duty

-- no flush before recovery
unfoldable pub no_start_flush : Duties
no_start_flush =
    record {
      before_recovery = λ len. ([], false);
      after_recovery = λ ss. (store_lines ss, true);
      after_request = λ ss. (store_lines ss, true);
    }

-- the invalidating stores are not fenced
unfoldable pub no_invalidation_fence : Duties
no_invalidation_fence =
    record {
      before_recovery = λ len. (all_lines len, true);
      after_recovery = λ ss. (store_lines ss, false);
      after_request = λ ss. (store_lines ss, true);
    }

-- the answer comes before the fence
unfoldable pub no_request_fence : Duties
no_request_fence =
    record {
      before_recovery = λ len. (all_lines len, true);
      after_recovery = λ ss. (store_lines ss, true);
      after_request = λ ss. (store_lines ss, false);
    }

-- one line only is flushed
unfoldable pub one_line_flushed : Duties
one_line_flushed =
    record {
      before_recovery = λ len. (all_lines len, true);
      after_recovery = λ ss. (store_lines ss, true);
      after_request = λ ss. (take 1 (store_lines ss), true);
    }

-- ---- histories

-- of a set of n slots
abbrev pub SetMachine : (n : ℕ) → Type 0
SetMachine n = Machine (LentIndex n) Index (SetRequest 1)

abbrev pub SetMove : (n : ℕ) → Type 0
SetMove n = Move (LentIndex n) (SetRequest 1)

unfoldable pub next_steps : {n : ℕ} → (k : ℕ) → List (SetMove n) → List (SetMove n)
next_steps zero moves = moves
next_steps (suc k) moves = next_step ∷ next_steps k moves

-- the 8 bytes of a number below 256
unfoldable pub eight_bytes : ℕ → List ℕ
eight_bytes n = n % 256 ∷ replicate 7 0

-- what a get of the key answers, and the output that it leaves; only a program that waits answers

unfoldable pub answer_in : {n : ℕ} → Memory → Program (LentIndex n) Index → Call → Answer
answer_in mem off call = refused 0
answer_in mem (busy ss flushing c) call = refused 0
answer_in mem (idle held) call = (call_result 1 (world_with (played mem.pending mem.durable) held) call).answer

unfoldable pub out_in : {n : ℕ} → Memory → Program (LentIndex n) Index → Call → List ℕ
out_in mem off call = []
out_in mem (busy ss flushing c) call = []
out_in mem (idle held) call = (call_result 1 (world_with (played mem.pending mem.durable) held) call).out

unfoldable pub get_answer : {n : ℕ} → (key : ℕ) → SetMachine n → Answer
get_answer key s = answer_in s.memory s.program (get key (replicate 8 0))

unfoldable pub get_output : {n : ℕ} → (key : ℕ) → SetMachine n → List ℕ
get_output key s = out_in s.memory s.program (get key (replicate 8 0))

-- what the plain map of the decided requests holds
unfoldable pub plain_value : {n : ℕ} → (image : List ℕ) → (key : ℕ) → SetMachine n → Option (List ℕ)
plain_value {n} image key s = plain_of (set_promise 1 n) (slots_map 1 image) s.history.decided key

-- the moves fit: a start lends an index of the right size, with one head, and the fields of a request are numbers of
-- their size
pub record Fitting : Type 0 where
  pub index : (n : ℕ) → index_fault n 1 (length {A = ℕ} (replicate (suc n) 9)) ≡ 0
  pub typed : (mode : Mode) (key n : ℕ) → Typed 1 (write mode (key % 256) (eight_bytes n))

unfoldable pub blank_two : List ℕ
blank_two = formatted 1 384

unfoldable pub blank_four : List ℕ
blank_four = formatted 1 640

-- of a basket of three keys power left the first two records, whole
unfoldable pub torn_basket_image : List ℕ
torn_basket_image =
    played (record_stores 1 (word blank_four) 1 7 1 3 (eight_bytes 1) 1 ++ record_stores 1 (word blank_four) 2 8 1 3 (eight_bytes 2) 1) blank_four

module _ (fit : Fitting) where
  unfoldable pub start_with : (n : ℕ) → SetMove n
  start_with n = start (record { lists = record { heads = 9 ∷ []; next = replicate (suc n) 9 }; size = fit.index n })

  unfoldable pub insert_of : {n : ℕ} → (key value : ℕ) → SetMove n
  insert_of key value = ask (record { request = a_call false (write Insert (key % 256) (eight_bytes value)); typed = fit.typed Insert key value })

  unfoldable pub replace_of : {n : ℕ} → (key value : ℕ) → SetMove n
  replace_of key value = ask (record { request = a_call false (write Replace (key % 256) (eight_bytes value)); typed = fit.typed Replace key value })

  -- ---- on an image of two slots

  -- an insert of key 7 is answered: after the start's steps (`first`), sixteen stores, the flushes and the fence
  unfoldable pub insert_answered : (d : Duties) → (first rest : ℕ) → SetMachine 2
  insert_answered d first rest = moved_by d (set_library 1 2) (at_rest blank_two) (start_with 2 ∷ next_steps first (insert_of 7 100 ∷ next_steps rest []))

  -- power fails then and takes all that is not durable; the next start
  unfoldable pub insert_after_cut : (d : Duties) → (first rest : ℕ) → SetMachine 2
  insert_after_cut d first rest = moved_by d (set_library 1 2) (insert_answered d first rest) (cut (λ n. 0) ∷ start_with 2 ∷ next_steps first [])

  -- a replace of key 7 makes its sixteen stores and is killed before its flush; the next start recovers what is seen
  unfoldable pub replace_killed : (d : Duties) → (first : ℕ) → SetMachine 2
  replace_killed d first =
      moved_by d (set_library 1 2) (insert_answered d first 20) (replace_of 7 101 ∷ next_steps 16 (kill ∷ start_with 2 ∷ next_steps first []))

  -- power fails then, and takes all that is not durable; the next start
  unfoldable pub replace_lost : (d : Duties) → (first : ℕ) → SetMachine 2
  replace_lost d first = moved_by d (set_library 1 2) (replace_killed d first) (cut (λ n. 0) ∷ start_with 2 ∷ next_steps first [])

  -- or it is asked for another replace, makes the first of its stores, and power fails: that store stands, and nothing
  -- else that was not durable
  unfoldable pub replace_torn : (d : Duties) → (first : ℕ) → SetMachine 2
  replace_torn d first =
      moved_by d (set_library 1 2) (replace_killed d first)
      (replace_of 7 102 ∷ next_step ∷ cut (λ n. cond (eqb n 2) 1 0) ∷ start_with 2 ∷ next_steps first [])

  -- ---- on the image of four slots with the torn basket

  -- a start opens both records, and goes on to the first request
  unfoldable pub basket_invalidated : (d : Duties) → (first : ℕ) → SetMachine 4
  basket_invalidated d first = moved_by d (set_library 1 4) (at_rest torn_basket_image) (start_with 4 ∷ next_steps first [])

  -- an insert of another key makes its sixteen stores, and power fails: lines 0 to 3, with its record, hold all their
  -- stores, and no other line holds any that was not durable
  unfoldable pub insert_cut : (d : Duties) → (first again : ℕ) → SetMachine 4
  insert_cut d first again =
      moved_by d (set_library 1 4) (basket_invalidated d first)
      (insert_of 10 4 ∷ next_steps 16 (cut (λ n. cond (ltb n 4) 20 0) ∷ start_with 4 ∷ next_steps again []))
