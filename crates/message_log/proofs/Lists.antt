-- A call whose stores are made in arrays and go to a lent list of records. Assumes nothing.
use mathlib.Core.Path.{◌≡◌, refl, sym, ap, ap₂, ◌∙◌}
use mathlib.Core.Bool.{Bool}
use mathlib.Core.Logic.{by_cases}
use mathlib.Core.List.{List, [], ◌∷◌, ◌++◌}
use Prim.Native.Nat.{ℕ, zero, suc, ◌≤◌, min}
use native.Mathlib.Omega.{arith}
use borrow.Author.Tests.{ltb-false}
use native.Mathlib.Decide.{dec_lt}
use lib.ListN.{length, take, drop}
use Rattle.prelude.specs.Refusal.{refuse_if, or_else, unless_refused}
use Rattle.prelude.specs.Answer.{gives}
use Rattle.prelude.proofs.Refusals.{or_else_zero, refuse_if_zero}
use Rattle.prelude.proofs.Choice.{lesser_short}
use Rattle.words.specs.Word.{word}
use Rattle.layout.specs.Line.{version_fault}
use Rattle.stores.specs.Store.{Store, zipped}
use Rattle.stores.specs.Play.{word_numbers, values}
use Rattle.stores.specs.inner.List.{stores_put}
use Rattle.stores.proofs.Lists.{numbers-length, values_length, numbers_append, values_append}
use Rattle.stores.proofs.ListPut.{zipped-length, front_stores}
use Rattle.message_log.specs.Area.{cells_in, area_fault}
use Rattle.message_log.specs.Message.{highest}
use Rattle.message_log.specs.LogOutcome.{log_answer, short_fault, LogResult, log_end, handing, LogListResult, log_list_end, handing_list}
use Rattle.message_log.specs.Append.{message_fault, next_message, append_stores, append_fault, append_result, append_list_result}
use Rattle.message_log.specs.Recover.{recovery_stores, log_recover_fault, log_recover_result, log_recover_list_result}
use Rattle.message_log.specs.Rule.{count_given, as_numbers, ListAgrees}
use Rattle.message_log.specs.inner.List.{stored_count, stores_handed, StoresMade}
use Rattle.std.specs.Prelude.{Result, Ok, Err}
use Rattle.refusals.specs.declared.Refusal.{Refusal}
use Rattle.message_log.specs.declared.LogStored.{LogStored}
use Rattle.message_log.proofs.Invalidations.{recovery_few}
use Rattle.message_log.proofs.Parts.{area_cells, is_area}
use Rattle.message_log.proofs.Plans.{append_few}

-- ---- arrays that hold all stores: 13 comes by the list's length

short_room : (count size room : ℕ) → count ≤ size → short_fault count (min size room) (min size room) ≡ short_fault count room room
unfolding short_fault
short_room count size room h = ap (λ (t : Bool). refuse_if t 13 (refuse_if t 13 0)) (lesser_short count size room h)

held : (count room : ℕ) → short_fault count room room ≡ 0 → count ≤ room
unfolding short_fault
held count room z = ltb-false room count (refuse_if_zero _ _ _ z (omega arith)).0

-- ---- what a call that made its stores in arrays left

says_count : (a : Result LogStored Refusal) → stored_count a ≡ count_given (log_answer a)
unfolding stored_count log_answer count_given
says_count (Ok stored) = refl
says_count (Err refusal) = refl

-- from lists of which the arrays are the fronts
made : (size room fault number : ℕ) (ss : List Store) → length ss ≤ size → (fault ≡ 0 → length ss ≤ room)
    → (a : Result LogStored Refusal) (at₀ value₀ at₁ value₁ rest rest' : List ℕ) (stored : ℕ) → stored ≡ stored_count a
    → log_end (log_answer a) at₁ value₁ ≡ handing fault number ss at₀ value₀
    → StoresMade size room fault number ss a stored (at₁ ++ rest) (value₁ ++ rest')
unfolding handing stores_handed unless_refused count_given zipped
made size room zero number ss few fits a at₀ value₀ at₁ value₁ rest rest' stored es e =
    record {
      left =
          ap₂ log_list_end (ap (λ (r : LogResult). r.answer) e)
          (ap₂ (λ (n : ℕ) (r : LogResult). zipped (take n (r.at ++ rest)) (take n (r.value ++ rest'))) all e
          ∙ front_stores ss (drop (length ss) at₀) rest (drop (length ss) value₀) rest');
      in_room = omega (arith, all, fits refl);
      in_arrays = omega (arith, all, few);
    }
  where
    all : stored ≡ length ss
    all = es ∙ says_count a ∙ ap (λ (r : LogResult). count_given r.answer) e
made size room (suc k) number ss few fits a at₀ value₀ at₁ value₁ rest rest' stored es e =
    record {
      left =
          ap₂ log_list_end (ap (λ (r : LogResult). r.answer) e)
          (ap (λ (n : ℕ). zipped (take n (at₁ ++ rest)) (take n (value₁ ++ rest'))) none);
      in_room = omega (arith, none);
      in_arrays = omega (arith, none);
    }
  where
    none : stored ≡ 0
    none = es ∙ says_count a ∙ ap (λ (r : LogResult). count_given r.answer) e

module _ (area : List ℕ) (room : ℕ) (a : Result LogStored Refusal) (at₀ value₀ at₁ value₁ : List ℕ) (stored : ℕ) (rest rest' : List ℕ)
    (es : stored ≡ stored_count a) where
  -- ---- an append

  module _ (message : List ℕ) where
    abbrev stores : List Store
    stores = append_stores (cells_in area) (word area) message

    append-fault : append_fault area message (min 56 room) (min 56 room) ≡ append_fault area message room room
    unfolding append_fault
    append-fault =
        ap (λ (n : ℕ). or_else (area_fault area)
        (or_else (message_fault (length message)) (or_else (version_fault (next_message (cells_in area) (word area))) n)))
        (short_room (length stores) 56 room (append_few (cells_in area) (word area) message))

    append_fits : append_fault area message room room ≡ 0 → length stores ≤ room
    unfolding append_fault
    append_fits z = held (length stores) room (or_else_zero _ _ (or_else_zero _ _ (or_else_zero _ _ z).1).1).1

    pub append_made : length at₀ ≡ min 56 room → length value₀ ≡ min 56 room → log_end (log_answer a) at₁ value₁ ≡ append_result area message at₀ value₀
        → StoresMade 56 room (append_fault area message room room) (next_message (cells_in area) (word area)) stores a stored (at₁ ++ rest) (value₁ ++ rest')
    unfolding append_result
    append_made en em e =
        made 56 room _ _ stores (append_few (cells_in area) (word area) message) append_fits a at₀ value₀ at₁ value₁ rest rest' stored es
        (e ∙ ap (λ (n : ℕ). handing n (next_message (cells_in area) (word area)) stores at₀ value₀) (ap₂ (append_fault area message) en em ∙ append-fault))

  -- ---- a recovery

  abbrev openers : List Store
  openers = recovery_stores (cells_in area) (word area)

  cells_few : cells_in area ≤ 1000
  cells_few = by_cases (dec_lt 0 (cells_in area)) (λ h. (area_cells area (is_area area (cells_in area) refl (λ e. omega arith))).few) (λ h. omega arith)

  openers_few : length openers ≤ 1000
  openers_few = omega (arith, recovery_few (cells_in area) (word area), cells_few)

  recovery_fault : log_recover_fault area (min 1000 room) (min 1000 room) ≡ log_recover_fault area room room
  unfolding log_recover_fault
  recovery_fault = ap (or_else (area_fault area)) (short_room (length openers) 1000 room openers_few)

  recovery_fits : log_recover_fault area room room ≡ 0 → length openers ≤ room
  unfolding log_recover_fault
  recovery_fits z = held (length openers) room (or_else_zero _ _ z).1

  pub recovery_made : length at₀ ≡ min 1000 room → length value₀ ≡ min 1000 room → log_end (log_answer a) at₁ value₁ ≡ log_recover_result area at₀ value₀
      → StoresMade 1000 room (log_recover_fault area room room) (highest (cells_in area) (word area)) openers a stored (at₁ ++ rest) (value₁ ++ rest')
  unfolding log_recover_result
  recovery_made en em e =
      made 1000 room _ _ openers openers_few recovery_fits a at₀ value₀ at₁ value₁ rest rest' stored es
      (e ∙ ap (λ (n : ℕ). handing n (highest (cells_in area) (word area)) openers at₀ value₀) (ap₂ (log_recover_fault area) en em ∙ recovery_fault))

-- ---- the two forms agree: a list of records is left as its word numbers and values are

numbers_drop : (k : ℕ) (ss : List Store) → word_numbers (drop k ss) ≡ drop k (word_numbers ss)
unfolding word_numbers
numbers_drop zero ss = refl
numbers_drop (suc k) [] = refl
numbers_drop (suc k) (s ∷ ss) = numbers_drop k ss

values-drop : (k : ℕ) (ss : List Store) → values (drop k ss) ≡ drop k (values ss)
unfolding values
values-drop zero ss = refl
values-drop (suc k) [] = refl
values-drop (suc k) (s ∷ ss) = values-drop k ss

same_hand : (fault number : ℕ) (ss list : List Store)
    → as_numbers (handing_list fault number ss list) ≡ handing fault number ss (word_numbers list) (values list)
unfolding as_numbers handing_list handing unless_refused
same_hand zero number ss list =
    ap₂ (log_end (gives (number ∷ length ss ∷ [])))
    (numbers_append ss (drop (length ss) list) ∙ ap (λ (t : List ℕ). word_numbers ss ++ t) (numbers_drop (length ss) list))
    (values_append ss (drop (length ss) list) ∙ ap (λ (t : List ℕ). values ss ++ t) (values-drop (length ss) list))
same_hand (suc f) number ss list = refl

-- by a refusal that goes by the lengths of the lists
agrees : (fault : ℕ → ℕ → ℕ) (number : ℕ) (ss : List Store) (at value : List ℕ)
    → ListAgrees at value (λ list. handing_list (fault (length list) (length list)) number ss list)
    (handing (fault (length at) (length value)) number ss at value)
agrees fault number ss at value list ea ev =
    same_hand (fault (length list) (length list)) number ss list
    ∙ ap (λ (f : ℕ). handing f number ss (word_numbers list) (values list))
    (ap₂ fault (sym (numbers-length list)) (sym (values_length list)))
    ∙ ap₂ (λ (x y : List ℕ). handing (fault (length x) (length y)) number ss x y) ea ev

pub append_agrees : (area message at value : List ℕ) → ListAgrees at value (append_list_result area message) (append_result area message at value)
unfolding append_list_result append_result
append_agrees area message at value =
    agrees (append_fault area message) (next_message (cells_in area) (word area)) (append_stores (cells_in area) (word area) message) at value

pub recovery_agrees : (area at value : List ℕ) → ListAgrees at value (log_recover_list_result area) (log_recover_result area at value)
unfolding log_recover_list_result log_recover_result
recovery_agrees area at value =
    agrees (log_recover_fault area) (highest (cells_in area) (word area)) (recovery_stores (cells_in area) (word area)) at value

-- ---- what the call that puts them into a list leaves

filled : (fault number : ℕ) (ss list : List Store)
    → log_list_end (stores_handed fault number ss).answer ((stores_handed fault number ss).list ++ drop (length (stores_handed fault number ss).list) list)
    ≡ handing_list fault number ss list
unfolding stores_handed handing_list unless_refused
filled zero number ss list = refl
filled (suc k) number ss list = refl

-- the numbers that are put are those of the arrays
pub in_list : (size room fault number : ℕ) (ss : List Store) (a : Result LogStored Refusal) (stored : ℕ) (at value at' value' : List ℕ)
    → StoresMade size room fault number ss a stored at value
    → at' ≡ at → value' ≡ value → length at' ≡ size → length value' ≡ size → (list zs : List Store) → zs ≡ stores_put at' value' stored list
    → log_list_end (log_answer a) zs ≡ handing_list fault number ss list
in_list size room fault number ss a stored at value at' value' it ea ev na nv list zs e =
    ap (log_list_end (log_answer a)) (e ∙ ap₂ (λ (x y : List ℕ). stores_put x y stored list) ea ev)
    ∙ ap (λ (n : ℕ). log_list_end (log_answer a) (zipped (take stored at) (take stored value) ++ drop n list))
    (sym (zipped-length at value stored (omega (arith, it.in_arrays, ap length ea, na)) (omega (arith, it.in_arrays, ap length ev, nv))))
    ∙ ap (λ (r : LogListResult). log_list_end r.answer (r.list ++ drop (length r.list) list)) it.left
    ∙ filled fault number ss list
