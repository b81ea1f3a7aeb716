-- The set's calls on an image of another layout. Assumes nothing.
use mathlib.Core.Path.{◌≡◌, refl, sym, ap, ◌∙◌, subst, ap₂}
use mathlib.Core.List.{List, []}
use Prim.Native.Nat.{ℕ, ◌+◌}
use native.Mathlib.Omega.{arith}
use lib.ListN.{length}
use Rattle.prelude.specs.Answer.{Answer, refused}
use Rattle.prelude.specs.Refusal.{or_else, unless_refused}
use Rattle.prelude.proofs.Refusals.{or_else_first, or_else_later, or_else_zero, refused_keeps}
use Rattle.layout.specs.Size.{slots_in}
use Rattle.layout.specs.Header.{HeaderOf, lent_fault}
use Rattle.layout.proofs.Headers.{other_lent, image_header}
use Rattle.index.specs.declared.Mode.{Mode}
use Rattle.index.specs.declared.Found.{Found}
use Rattle.recovery.specs.Invalidation.{invalidations_of}
use Rattle.recovery.specs.Recover.{recover_fault, recover_slot, refused_result, recover_result}
use Rattle.slot_counts.specs.Count.{CountResult, count_says, count_result}
use Rattle.cut_counts.specs.CutCount.{acceptance_fault, cut_count_fault, cut_count_result}
use Rattle.calls.specs.Compared.{compared_after, key_compared}
use Rattle.allocation.specs.Allocation.{allocation_chosen_by, allocation_by}
use Rattle.calls.specs.Change.{write_lent_fault, write_fault, write_unless, write_result, write_compared, remove_fault, remove_unless, remove_result}
use Rattle.calls.specs.Change.{remove_fault_by}
use Rattle.calls.specs.Change.{remove_result_by, write_fault_by, write_result_by}
use Rattle.calls.specs.Result.{CallResult, unchanged}
use Rattle.calls.specs.BasketItems.{KeyChange}
use Rattle.calls.specs.BasketRefusals.{given_fault, basket_lent_fault, basket_fault, basket_fault_by}
use Rattle.calls.specs.BasketBuffers.{eight_slots, at_front}
use Rattle.calls.specs.BasketList.{left_with, buffers_after_list}
use Rattle.calls.specs.Basket.{basket_unless, basket_result, basket_result_by}
use Rattle.calls.specs.Get.{get_fault, get_result}
use Rattle.calls.specs.Locate.{locate_fault, locate_result, locate_answer}
use Rattle.plainmap.specs.Accepted.{Accepted}
use Rattle.plainmap.specs.World.{World, Call, write, remove, get, locate, out_of, call_result, reads_only}
use Rattle.plainmap.specs.Claims.{Unchanged}
use Rattle.plainmap.specs.Baskets.{Basket, basket_call_result}
use Rattle.interface.specs.OtherLayout.{CallsGive3}

-- ---- 3 is the first refusal

first_3 : (a later : ℕ) → a ≡ 3 → or_else a later ≡ 3
first_3 a later e = or_else_first a later (λ z. omega arith) ∙ e

-- what a call leaves that 3 refuses
left_3 : {A : Type 0} (new : A) (refusing : ℕ → A) (fault : ℕ) → fault ≡ 3 → unless_refused fault new (refusing fault) ≡ refusing 3
left_3 new refusing fault e = refused_keeps new (refusing fault) fault (λ z. omega arith) ∙ ap refusing e

module _ (l other : ℕ) (apart : other ≡ l → ⊥) (w : World) (h : HeaderOf other w.image) where
  lent_3 : (heads next : ℕ) → lent_fault l w.image heads next ≡ 3
  lent_3 = other_lent l other w.image apart h

  recover_3 : (heads next : ℕ) → recover_fault l w.image heads next ≡ 3
  unfolding recover_fault
  recover_3 heads next = first_3 _ _ (lent_3 heads next)

  -- 1 to 4 name no slot
  slot_3 : (heads next : ℕ) → recover_slot l w.image heads next ≡ 0
  unfolding recover_slot
  slot_3 heads next = refused_keeps _ 0 (lent_fault l w.image heads next) (λ z. let e = lent_3 heads next in omega arith)

  recovery : recover_result l w.image w.index.heads w.index.next ≡ refused_result 3 0 (invalidations_of []) w.index.heads w.index.next
  unfolding recover_result
  recovery =
      left_3 _ (λ k. refused_result k (recover_slot l w.image (length w.index.heads) (length w.index.next)) (invalidations_of []) w.index.heads
      w.index.next) _ (recover_3 _ _)
      ∙ ap (λ (s : ℕ). refused_result 3 s (invalidations_of []) w.index.heads w.index.next) (slot_3 _ _)

  -- ---- single calls

  -- a call that writes, refused
  abbrev refused_change : CallResult
  refused_change = unchanged (refused 3) w.index 0

  compared_0 : (lent : ℕ) → lent ≡ 3 → (found : Found) → compared_after lent found ≡ 0
  unfolding compared_after
  compared_0 lent e found = refused_keeps _ 0 lent (λ z. omega arith)

  write_3 : (mode : Mode) (key : ℕ) (value : List ℕ) → write_result l w.image w.index mode key value ≡ refused_change
  unfolding write_result_by write_unless write_fault_by allocation_by write_lent_fault write_compared
  write_3 mode key value =
      left_3 _ (λ k. unchanged (refused k) w.index (write_compared l w.image w.index key (length value))) _ (first_3 _ _ (first_3 _ _ (lent_3 _ _)))
      ∙ ap (unchanged (refused 3) w.index) (compared_0 _ (first_3 _ _ (lent_3 _ _)) _)

  remove_3 : (key : ℕ) → remove_result l w.image w.index key ≡ refused_change
  unfolding remove_result_by remove_unless remove_fault_by allocation_by key_compared
  remove_3 key =
      left_3 _ (λ k. unchanged (refused k) w.index (key_compared l w.image w.index.heads w.index.next key)) _ (first_3 _ _ (lent_3 _ _))
      ∙ ap (unchanged (refused 3) w.index) (compared_0 _ (lent_3 _ _) _)

  get_3 : (key : ℕ) (out : List ℕ) → get_result l w.image w.index.heads w.index.next key out ≡ record { answer = refused 3; out = out; compared = 0 }
  unfolding get_result get_fault key_compared
  get_3 key out =
      left_3 _ (λ k. record { answer = refused k; out = out; compared = key_compared l w.image w.index.heads w.index.next key }) _
      (first_3 _ _ (lent_3 _ _))
      ∙ ap (λ (k : ℕ). record { answer = refused 3; out = out; compared = k }) (compared_0 _ (lent_3 _ _) _)

  locate_3 : (key : ℕ) → locate_result l w.image w.index.heads w.index.next key ≡ record { answer = refused 3; out = []; compared = 0 }
  unfolding locate_answer locate_fault key_compared
  locate_3 key =
      ap₂ (λ (a : Answer) (k : ℕ). record { answer = a; out = []; compared = k }) (left_3 _ (λ k. refused k) _ (first_3 _ _ (lent_3 _ _)))
      (compared_0 _ (lent_3 _ _) _)

  -- what a refused call answers and leaves
  abbrev refused_call : (out : List ℕ) → CallResult
  refused_call out = record { answer = refused 3; out = out; stores = []; index = w.index; compared = 0 }

  the_call : (c : Call) → call_result l w c ≡ refused_call (out_of c)
  unfolding call_result reads_only out_of unchanged
  the_call (write mode key value) = write_3 mode key value
  the_call (remove key) = remove_3 key
  the_call (get key out) = ap (reads_only w) (get_3 key out)
  the_call (locate key) = ap (reads_only w) (locate_3 key)

  still : (c : Call) → Unchanged w (out_of c) (call_result l w c)
  still c = subst (Unchanged w (out_of c)) (sym (the_call c)) (record { out_kept = refl; no_stores = refl; index_kept = refl })

  -- ---- baskets

  basket_3 : (changes : List KeyChange) (at words : ℕ) → given_fault changes at words ≡ 0
      → basket_result l w.image w.index changes at words ≡ refused_change
  unfolding basket_result_by allocation_chosen_by basket_unless basket_fault_by allocation_by basket_lent_fault
  basket_3 changes at words z =
      left_3 _ (λ k. unchanged (refused k) w.index 0) _ (or_else_later _ _ z ∙ first_3 _ _ (first_3 _ _ (lent_3 _ _)))

  the_basket : (b : Basket) → given_fault b.changes b.at b.words ≡ 0 → basket_call_result l w b ≡ refused_call []
  unfolding basket_call_result unchanged
  the_basket b z = basket_3 b.changes b.at b.words z

  -- THE SET'S CALLS
  pub calls_give_3 : CallsGive3 l w
  unfolding count_result count_says cut_count_result cut_count_fault acceptance_fault buffers_after_list left_with eight_slots at_front unchanged
  calls_give_3 =
      record {
        recover = recovery;
        call = λ c. ap (λ (r : CallResult). r.answer) (the_call c);
        call_still = still;
        call_compares = λ c. ap (λ (r : CallResult). r.compared) (the_call c);
        basket = λ b z. ap (λ (r : CallResult). r.answer) (the_basket b z);
        basket_still = λ b z. subst (Unchanged w []) (sym (the_basket b z)) (record { out_kept = refl; no_stores = refl; index_kept = refl });
        basket_list = λ changes list z. ap (buffers_after_list list) (basket_3 changes (length list) (length list) z);
        count_slots = counted (left_3 _ (λ k. refused k) _ (recover_3 _ _)) recovery;
        count_cuts = λ at value copy later.
            left_3 _ (λ k. record { answer = refused k; copy = copy; later = later }) _ (first_3 _ _ (recover_3 1 (slots_in w.image + 1)));
      }
    where
      counted : {a : Answer} → a ≡ refused 3 → recover_result l w.image w.index.heads w.index.next
          ≡ refused_result 3 0 (invalidations_of []) w.index.heads w.index.next
          → ◌≡◌ {A = CountResult}
          (record {
            answer = a;
            slot = (recover_result l w.image w.index.heads w.index.next).slot;
            lists = record {
              heads = (recover_result l w.image w.index.heads w.index.next).index.heads;
              next = (recover_result l w.image
                  w.index.heads w.index.next).index.next;
            };
          })
          (record { answer = refused 3; slot = 0; lists = record { heads = w.index.heads; next = w.index.next } })
      counted p q = rw (p, q) refl

-- an image that recovery accepts has the header of its layout
pub accepted_header : (l : ℕ) (image : List ℕ) → Accepted l image → HeaderOf l image
accepted_header l image a = image_header l image a.header
