-- The numbers with which each call is refused, whatever it is given. Assumes nothing.
use mathlib.Core.Path.{◌≡◌, refl, sym, ap, ◌∙◌, subst}
use mathlib.Core.Bool.{Bool, true, false, cond, not}
use mathlib.Core.Logic.{◌⊎◌, inl, inr}
use mathlib.Core.List.{List, [], ◌∷◌}
use Prim.Native.Nat.{ℕ, zero, suc, ◌≤◌}
use native.Mathlib.Omega.{arith}
use lib.Dec.{eqb, ltb}
use lib.ListN.{length}
use borrow.Author.Tests.{ne_eqb, le-ltb, ltb-false}
use Rattle.words.specs.Word.{word}
use Rattle.prelude.specs.Members.{In}
use Rattle.prelude.specs.Range.{any_of, lowest, at_lowest}
use Rattle.prelude.specs.Refusal.{refuse_if, or_else, unless_refused}
use Rattle.prelude.specs.Answer.{Answer, gives, refused}
use Rattle.prelude.proofs.defs.Among.{is_one, are_among}
use Rattle.prelude.specs.Numbers.{Numbered, ZeroOrOneOf}
use Rattle.prelude.proofs.Among.{one_of}
use Rattle.prelude.proofs.Numbers.{none_due, refuse_if_due, one_due, else_due, due_among, numbered}
use Rattle.prelude.proofs.Lowest.{Lowest, nowhere, there, lowest_is}
use Rattle.prelude.proofs.Refusals.{refuse_if-false, or_else_first}
use Rattle.layout.specs.Size.{slots_in}
use Rattle.layout.specs.Slot.{line_verdict, is_valid}
use Rattle.layout.specs.Content.{content, size_field_in}
use Rattle.table.specs.Complete.{settled, table_of}
use Rattle.table.specs.Shared.{sharers_fault}
use Rattle.stores.specs.Invalidation.{invalidating_stores}
use Rattle.stores.specs.Play.{halves_fault, play_fault, play_result, list_fault, play_list_result}
use Rattle.slot_counts.specs.Count.{count_says, count_result}
use Rattle.cut_counts.specs.CutCount.{acceptance_fault, arguments_fault, cut_count_fault, CutCountResult, cut_count_result}
use Rattle.cut_counts.proofs.Indexes.{index_fine}
use Rattle.recovery.specs.Invalidation.{void_slots, invalidations_of}
use Rattle.layout.specs.Fault.{mark_fault, word_fault, fault_of, record_fault}
use Rattle.layout.specs.Record.{limit}
use Rattle.layout.specs.Line.{line_a, line_b, version_fault}
use Rattle.layout.specs.Header.{header_fault, image_fault, index_fault, lent_fault}
use Rattle.index.specs.Index.{Index}
use Rattle.index.specs.Walk.{search, chain_fault}
use Rattle.index.specs.Change.{key_fault, is_found}
use Rattle.index.specs.Allocation.{Allocation, taken, too_few, bad_link, ends_fault, link_fault, few_fault, reuse_fault, room_fault}
use Rattle.index.specs.declared.Action.{Action}
use Rattle.index.specs.declared.Action.TheVariants.{Write, Remove}
use Rattle.index.specs.declared.Mode.{Mode}
use Rattle.index.specs.declared.Mode.TheVariants.{Insert, Replace}
use Rattle.index.specs.declared.State.{State}
use Rattle.index.specs.declared.Found.{Found}
use Rattle.index.specs.declared.Found.TheVariants.{At, Missing, BadChain}
use Rattle.allocation.specs.Allocation.{allocation_chosen, allocation_chosen_by, allocation_by}
use Rattle.recovery.specs.Recover.{Recovery, settled_fault, slots_fault, slots_named, recovered, recover_fault, recover_slot, refused_result, recover_result}
use Rattle.calls.specs.Format.{FormatResult, layout_fault, format_fault, format_result}
use Rattle.calls.specs.Compared.{key_compared}
use Rattle.calls.specs.Change.{write_compared, changed, write_lent_fault, write_later_fault, write_fault, write_done, write_unless, write_result, store_fault}
use Rattle.calls.specs.Change.{remove_later_fault, remove_done, remove_unless, remove_result, remove_fault_by, remove_result_by, write_fault_by}
use Rattle.calls.specs.Change.{write_result_by}
use Rattle.calls.specs.Result.{CallResult, unchanged, ReadOnlyResult}
use Rattle.calls.specs.BasketItems.{KeyChange}
use Rattle.calls.specs.BasketRefusals.{key_count_fault, lists_fault, given_fault, first_fault, value_fault, action_fault, basket_lent_fault, keys_fault}
use Rattle.calls.specs.BasketRefusals.{basket_fault}
use Rattle.calls.specs.BasketRefusals.{basket_fault_by}
use Rattle.calls.specs.Basket.{basket_made, basket_done, basket_unless, basket_result, basket_result_by}
use Rattle.calls.specs.Get.{length_fault, get_later_fault, get_fault, get_done, get_result}
use Rattle.interface.specs.Numbers.{AnswersAsAsked, format_refusals, no_slot_refusals, slot_refusals, recover_refusals, Names, a_slot, no_slot}
use Rattle.interface.specs.Numbers.{write_refusals, storing_refusals, basket_refusals, get_refusals, roomy_get_refusals, locate_refusals, cut_count_refusals}
use Rattle.interface.specs.Numbers.{play_refusals, play_list_refusals, CallNumbers}
use Rattle.calls.specs.Locate.{locate_fault, locate_done, locate_result, locate_answer}

-- ---- the refusals of document 01

module _ (ks : List ℕ) (one : is_one 1 ks ≡ true) (two : is_one 2 ks ≡ true) (three : is_one 3 ks ≡ true) where
  image_due : (l : ℕ) (image : List ℕ) → ZeroOrOneOf ks (image_fault l image)
  unfolding image_fault header_fault
  image_due l image = one_due ks _ 1 _ one (one_due ks _ 2 _ two (one_due ks _ 3 0 three (none_due ks)))

  lent_due : is_one 4 ks ≡ true → (l : ℕ) (image : List ℕ) (heads next : ℕ) → ZeroOrOneOf ks (lent_fault l image heads next)
  unfolding lent_fault index_fault
  lent_due four l image heads next =
      else_due ks _ _ (image_due l image) (one_due ks _ 4 _ four (one_due ks _ 4 _ four (one_due ks _ 4 0 four (none_due ks))))

module _ (ks : List ℕ) (eleven : is_one 11 ks ≡ true) where
  chain_due : (found : Found) → ZeroOrOneOf ks (chain_fault found)
  unfolding chain_fault
  chain_due (At slot prev compared) = none_due ks
  chain_due (Missing prev compared) = none_due ks
  chain_due BadChain = inr (one_of 11 ks eleven)

version_due : (ks : List ℕ) → is_one 9 ks ≡ true → (version : ℕ) → ZeroOrOneOf ks (version_fault version)
unfolding version_fault
version_due ks nine version = refuse_if_due ks _ 9 0 (one_of 9 ks nine) (none_due ks)

-- 11 (reuse), 28 and 9
store_due : (ks : List ℕ) → is_one 11 ks ≡ true → is_one 28 ks ≡ true → is_one 9 ks ≡ true → (taking : Allocation) (n : ℕ) (s : State) (inserts removes : ℕ)
    → ZeroOrOneOf ks (store_fault taking n s inserts removes)
unfolding store_fault reuse_fault ends_fault link_fault room_fault few_fault
store_due ks eleven room nine taking n s inserts removes =
    else_due ks _ _ (else_due ks _ _ ends (else_due ks _ _ (refuse_if_due ks _ 11 0 i (none_due ks)) (links taking)))
    (else_due ks _ _ (else_due ks _ _ (few taking) (refuse_if_due ks _ 28 0 (one_of 28 ks room) (none_due ks))) (version_due ks nine s.version))
  where
    i : In 11 ks
    i = one_of 11 ks eleven

    ends : ZeroOrOneOf ks (ends_fault n s.first s.last)
    ends = refuse_if_due ks _ 11 _ i (refuse_if_due ks _ 11 _ i (refuse_if_due ks _ 11 _ i (refuse_if_due ks _ 11 0 i (none_due ks))))

    links : (t : Allocation) → ZeroOrOneOf ks (link_fault t)
    links (taken ts) = none_due ks
    links too_few = none_due ks
    links bad_link = inr i

    few : (t : Allocation) → ZeroOrOneOf ks (few_fault t)
    few (taken ts) = none_due ks
    few too_few = inr (one_of 28 ks room)
    few bad_link = none_due ks

-- 20 or 21
abbrev key_refusal : Mode → ℕ
key_refusal Insert = 20
key_refusal Replace = 21

key_due : (ks : List ℕ) (mode : Mode) → is_one (key_refusal mode) ks ≡ true → (held : Bool) → ZeroOrOneOf ks (key_fault mode held)
unfolding key_fault
key_due ks Insert a held = refuse_if_due ks held 20 0 (one_of 20 ks a) (none_due ks)
key_due ks Replace a held = refuse_if_due ks (not held) 21 0 (one_of 21 ks a) (none_due ks)

-- ---- what a call answers

gives-refused : (values : List ℕ) (k : ℕ) → gives values ≡ refused k → ⊥
gives-refused values k e = let z : ◌≡◌ {A = ℕ} 0 1 = cc in omega arith

same_number : (i k : ℕ) → refused i ≡ refused k → i ≡ k
same_number i k e = cc

-- FORMAT: 1, 32
pub format_numbered : (l : ℕ) (image : List ℕ) → Numbered format_refusals (format_result l image).answer
unfolding format_result format_fault layout_fault
format_numbered l image =
    numbered format_refusals (λ (r : FormatResult). r.answer) (λ fault. record { answer = refused fault; bytes = image }) (λ k. refl) _
    (refuse_if_due format_refusals _ 1 _ (one_of 1 format_refusals refl)
    (refuse_if_due format_refusals _ 32 _ (one_of 32 format_refusals refl)
    (refuse_if_due format_refusals _ 32 0 (one_of 32 format_refusals refl) (none_due format_refusals)))) _ tt

-- ---- recover

-- 0, or a refusal with the slot that it names
abbrev DueAt : (n k slot : ℕ) → Type 0
DueAt n k slot = (k ≡ 0) ⊎ Names n k slot

no_slot_due : (n k : ℕ) → ZeroOrOneOf no_slot_refusals k → DueAt n k 0
no_slot_due n k (inl e) = inl e
no_slot_due n k (inr i) = inr (no_slot i refl)

-- the fault of a record: 6, 22, 23, 24
record_due : (l : ℕ) (m : ℕ → ℕ) (s : ℕ) → ZeroOrOneOf slot_refusals (record_fault l m s)
unfolding record_fault fault_of word_fault
record_due l m s = go (is_valid (line_verdict (line_a m s) (line_b m s)))
  where
    ks : List ℕ
    ks = slot_refusals

    go : (b : Bool) → ZeroOrOneOf slot_refusals (cond b (fault_of l (line_a m s) (line_b m s)) 0)
    go true =
        else_due ks _ _
        (refuse_if_due ks _ 6 _ (one_of 6 ks refl) (refuse_if_due ks _ 22 _ (one_of 22 ks refl) (refuse_if_due ks _ 23 0 (one_of 23 ks refl) (none_due ks))))
        (refuse_if_due ks _ 24 0 (one_of 24 ks refl) (none_due ks))
    go false = none_due ks

zero_due : (ks : List ℕ) (t : Bool) (later : ℕ) → ZeroOrOneOf ks later → ZeroOrOneOf ks (refuse_if t 0 later)
unfolding refuse_if
zero_due ks true later d = none_due ks
zero_due ks false later d = d

module _ (l : ℕ) (m : ℕ → ℕ) (n : ℕ) where
  late : ℕ
  late = refuse_if (sharers_fault (content l m) (size_field_in l m) n) 7 (settled_fault (settled (content l m) (size_field_in l m) n) n)

  late_due : (ks : List ℕ) → is_one 7 ks ≡ true → is_one 25 ks ≡ true → is_one 8 ks ≡ true → ZeroOrOneOf ks late
  unfolding late settled_fault
  late_due ks seven many eight = one_due ks _ 7 _ seven (one_due ks _ 25 _ many (one_due ks _ 8 0 eight (none_due ks)))

  lowest_names : (s : ℕ) → Lowest (record_fault l m) n s → DueAt n (or_else (refuse_if (eqb s 0) 0 (record_fault l m s)) late) s
  unfolding refuse_if or_else
  lowest_names s (nowhere e z) =
      subst (λ (t : ℕ). DueAt n (or_else (refuse_if (eqb t 0) 0 (record_fault l m t)) late) t) (sym e)
      (no_slot_due n late (late_due no_slot_refusals refl refl refl))
  lowest_names s (there i p b) =
      subst (λ (k : ℕ). DueAt n k s)
      (sym (ap (λ (k : ℕ). or_else k late) (refuse_if-false (eqb s 0) 0 _ (ne_eqb s 0 (λ e. omega arith))) ∙ or_else_first (record_fault l m s) late p))
      (at (record_due l m s))
    where
      at : ZeroOrOneOf slot_refusals (record_fault l m s) → DueAt n (record_fault l m s) s
      at (inl e) = inl e
      at (inr j) = inr (a_slot j i)

  slots_names : DueAt n (slots_fault l m n) (slots_named l m n)
  unfolding slots_fault slots_named at_lowest refuse_if late
  slots_names = go (any_of (mark_fault m) 1 n)
    where
      go : (b : Bool) → DueAt n (refuse_if b 5 (or_else (at_lowest (record_fault l m) n) late)) (refuse_if b 0 (lowest (record_fault l m) n))
      go true = inr (no_slot (one_of 5 no_slot_refusals refl) refl)
      go false = lowest_names (lowest (record_fault l m) n) (lowest_is (record_fault l m) n)

  -- the same without the slot, in a list that has these numbers and may lack 1 to 4
  slots_due : (ks : List ℕ) → are_among slot_refusals ks ≡ true → is_one 5 ks ≡ true → is_one 7 ks ≡ true → is_one 25 ks ≡ true → is_one 8 ks ≡ true
      → ZeroOrOneOf ks (slots_fault l m n)
  unfolding slots_fault at_lowest late
  slots_due ks records five seven many eight =
      one_due ks _ 5 _ five
      (else_due ks _ _ (zero_due ks _ _ (due_among slot_refusals ks records _ (record_due l m (lowest (record_fault l m) n)))) (late_due ks seven many eight))

module _ (l : ℕ) (image heads next : List ℕ) where
  fault_names : DueAt (slots_in image) (recover_fault l image (length heads) (length next)) (recover_slot l image (length heads) (length next))
  unfolding recover_fault recover_slot or_else unless_refused
  fault_names = go (lent_fault l image (length heads) (length next)) (lent_due no_slot_refusals refl refl refl refl l image (length heads) (length next))
    where
      go : (k : ℕ) → ZeroOrOneOf no_slot_refusals k
          → DueAt (slots_in image) (or_else k (slots_fault l (word image) (slots_in image))) (unless_refused k (slots_named l (word image) (slots_in image)) 0)
      go zero d = slots_names l (word image) (slots_in image)
      go (suc k) d = no_slot_due (slots_in image) (suc k) d

  fault_due : ZeroOrOneOf recover_refusals (recover_fault l image (length heads) (length next))
  unfolding recover_fault
  fault_due =
      else_due recover_refusals _ _ (lent_due recover_refusals refl refl refl refl l image (length heads) (length next))
      (slots_due l (word image) (slots_in image) recover_refusals refl refl refl refl refl)

  -- RECOVER'S SLOT: 6, 22, 23 and 24 name a slot of the image, the other refusals none
  pub recover_names : (k : ℕ) → (recover_result l image heads next).answer ≡ refused k → Names (slots_in image) k (recover_result l image heads next).slot
  unfolding recover_result recovered unless_refused
  recover_names k = go _ _ fault_names
    where
      left : (fault slot : ℕ) → Recovery
      left fault slot =
          unless_refused fault (recovered (table_of l image) (slots_in image) (length heads)
          (invalidating_stores (word image) (void_slots l (word image) (slots_in image)))) (refused_result fault slot (invalidations_of []) heads next)

      go : (fault slot : ℕ) → DueAt (slots_in image) fault slot → (left fault slot).answer ≡ refused k → Names (slots_in image) k (left fault slot).slot
      go zero slot d e = absurd (gives-refused _ k e)
      go (suc fault) slot (inl z) e = absurd (omega arith)
      go (suc fault) slot (inr d) e = subst (λ (x : ℕ). Names (slots_in image) x slot) (same_number (suc fault) k e) d

  -- RECOVER: these numbers
  pub recover_numbered : Numbered recover_refusals (recover_result l image heads next).answer
  unfolding recover_result recovered
  recover_numbered =
      numbered recover_refusals (λ (r : Recovery). r.answer)
      (λ fault. refused_result fault (recover_slot l image (length heads) (length next)) (invalidations_of []) heads next) (λ k. refl) _ fault_due _ tt

-- ---- what a locate or a get says of the key

located_asked : (image : List ℕ) (k : ℕ) (found : Found) → AnswersAsAsked Insert (unless_refused k (locate_done image found) (refused k))
    → key_fault Insert (is_found found) ≡ 0
unfolding unless_refused locate_done key_fault is_found refuse_if
located_asked image zero (At slot prev compared) e = absurd e
located_asked image zero (Missing prev compared) e = refl
located_asked image zero BadChain e = refl
located_asked image (suc k) found e = absurd e

got_asked : (l : ℕ) (image out : List ℕ) (count k : ℕ) (found : Found)
    → AnswersAsAsked Replace (unless_refused k (get_done l image out count found) (record { answer = refused k; out = out; compared = count })).answer
    → key_fault Replace (is_found found) ≡ 0
unfolding unless_refused get_done key_fault is_found refuse_if
got_asked l image out count zero (At slot prev compared) e = refl
got_asked l image out count zero (Missing prev compared) e = absurd e
got_asked l image out count zero BadChain e = absurd e
got_asked l image out count (suc k) found e = absurd e

module _ (l : ℕ) (image : List ℕ) (i : Index) (key : ℕ) where
  write-done : (ks : List ℕ) → is_one 11 ks ≡ true → (value : List ℕ) (t : ℕ) (rest : Index) (count : ℕ) (found : Found)
      → Numbered ks (write_done l image i key value t rest count found).answer
  unfolding write_done changed unchanged
  write-done ks e value t rest count (At old prev compared) = tt
  write-done ks e value t rest count (Missing prev compared) = tt
  write-done ks e value t rest count BadChain = one_of 11 ks e

  write_due : (ks : List ℕ) → is_one 1 ks ≡ true → is_one 2 ks ≡ true → is_one 3 ks ≡ true → is_one 4 ks ≡ true → is_one 11 ks ≡ true
      → is_one 28 ks ≡ true → is_one 9 ks ≡ true → (mode : Mode) (size : ℕ) → ZeroOrOneOf ks (refuse_if (ltb (limit l) size) 10 0)
      → ZeroOrOneOf ks (key_fault mode (is_found (search l image i.heads i.next key))) → ZeroOrOneOf ks (write_fault l image i mode key size)
  unfolding write_fault_by allocation_by write_lent_fault write_later_fault
  write_due ks a b c d e r g mode size ten asked =
      else_due ks _ _ (else_due ks _ _ (lent_due ks a b c d l image (length i.heads) (length i.next)) ten)
      (else_due ks _ _ (chain_due ks e _) (else_due ks _ _ asked (store_due ks e r g _ _ i.state _ _)))

  write_by : (ks : List ℕ) → is_one 11 ks ≡ true → (mode : Mode) (value : List ℕ) → ZeroOrOneOf ks (write_fault l image i mode key (length value))
      → Numbered ks (write_result l image i mode key value).answer
  unfolding write_result_by write_unless unchanged
  write_by ks e mode value d =
      numbered ks (λ (r : CallResult). r.answer) (λ fault. unchanged (refused fault) i (write_compared l image i key (length value))) (λ k. refl) _ d _
      (write-done ks e value _ _ _ _)

  -- INSERT AND REPLACE: 1, 2, 3, 4, 10, 11, 20 or 21, 28, 9
  pub write_numbered : (mode : Mode) (value : List ℕ) → Numbered (write_refusals mode) (write_result l image i mode key value).answer
  write_numbered Insert value =
      write_by (write_refusals Insert) refl Insert value
      (write_due (write_refusals Insert) refl refl refl refl refl refl refl Insert (length value)
      (refuse_if_due (write_refusals Insert) _ 10 0 (one_of 10 (write_refusals Insert) refl) (none_due (write_refusals Insert)))
      (key_due (write_refusals Insert) Insert refl _))
  write_numbered Replace value =
      write_by (write_refusals Replace) refl Replace value
      (write_due (write_refusals Replace) refl refl refl refl refl refl refl Replace (length value)
      (refuse_if_due (write_refusals Replace) _ 10 0 (one_of 10 (write_refusals Replace) refl) (none_due (write_refusals Replace)))
      (key_due (write_refusals Replace) Replace refl _))

  -- without 10 where the value is short enough, and without 20 or 21 where the key is as the call asks
  asked_by : (mode : Mode) (value : List ℕ) → length value ≤ limit l → key_fault mode (is_found (search l image i.heads i.next key)) ≡ 0
      → Numbered storing_refusals (write_result l image i mode key value).answer
  asked_by mode value h z =
      write_by storing_refusals refl mode value
      (write_due storing_refusals refl refl refl refl refl refl refl mode (length value) (inl (refuse_if-false _ 10 0 (le-ltb (limit l) (length value) h)))
      (inl z))

  -- by a locate that finds the key absent, for an insert, or by a get that finds it held, for a replace
  pub locate_asked : (value : List ℕ) → length value ≤ limit l → AnswersAsAsked Insert (locate_result l image i.heads i.next key).answer
      → Numbered storing_refusals (write_result l image i Insert key value).answer
  unfolding locate_answer
  locate_asked value h e =
      asked_by Insert value h (located_asked image (locate_fault l image i.heads i.next key) (search l image i.heads i.next key) e)

  pub get_asked : (value out : List ℕ) → length value ≤ limit l → AnswersAsAsked Replace (get_result l image i.heads i.next key out).answer
      → Numbered storing_refusals (write_result l image i Replace key value).answer
  unfolding get_result
  get_asked value out h e =
      asked_by Replace value h (got_asked l image out _ (get_fault l image i.heads i.next key (length out)) (search l image i.heads i.next key) e)

  remove-done : (ks : List ℕ) → is_one 11 ks ≡ true → (t : ℕ) (rest : Index) (count : ℕ) (found : Found)
      → Numbered ks (remove_done l image i key t rest count found).answer
  unfolding remove_done changed unchanged
  remove-done ks e t rest count (At old prev compared) = tt
  remove-done ks e t rest count (Missing prev compared) = tt
  remove-done ks e t rest count BadChain = one_of 11 ks e

  remove_due : (ks : List ℕ) → is_one 11 ks ≡ true → is_one 28 ks ≡ true → is_one 9 ks ≡ true → (found : Found) (taking : Allocation) (n : ℕ)
      → ZeroOrOneOf ks (remove_later_fault found taking n i.state)
  unfolding remove_later_fault
  remove_due ks e r g (At old prev compared) taking n = store_due ks e r g taking n i.state 0 1
  remove_due ks e r g (Missing prev compared) taking n = none_due ks
  remove_due ks e r g BadChain taking n = inr (one_of 11 ks e)

  -- REMOVE: 1, 2, 3, 4, 11, 28, 9
  pub remove_numbered : Numbered storing_refusals (remove_result l image i key).answer
  unfolding remove_result_by remove_unless remove_fault_by allocation_by unchanged
  remove_numbered =
      numbered storing_refusals (λ (r : CallResult). r.answer) (λ fault. unchanged (refused fault) i (key_compared l image i.heads i.next key)) (λ k. refl)
      _
      (else_due storing_refusals _ _ (lent_due storing_refusals refl refl refl refl l image (length i.heads) (length i.next))
      (remove_due storing_refusals refl refl refl _ _ _)) _ (remove-done storing_refusals refl _ _ _ _)

module _ (l : ℕ) (image heads next : List ℕ) (key : ℕ) where
  get-done : (ks : List ℕ) → is_one 11 ks ≡ true → (out : List ℕ) (count : ℕ) (found : Found) → Numbered ks (get_done l image out count found).answer
  unfolding get_done
  get-done ks e out count (At slot prev compared) = tt
  get-done ks e out count (Missing prev compared) = tt
  get-done ks e out count BadChain = one_of 11 ks e

  later_due : (ks : List ℕ) → is_one 11 ks ≡ true → (size : ℕ) → ((n : ℕ) → ZeroOrOneOf ks (length_fault l n size)) → (found : Found)
      → ZeroOrOneOf ks (get_later_fault l image size found)
  unfolding get_later_fault
  later_due ks e size h (At slot prev compared) = h _
  later_due ks e size h (Missing prev compared) = none_due ks
  later_due ks e size h BadChain = inr (one_of 11 ks e)

  get_by : (ks : List ℕ) → is_one 1 ks ≡ true → is_one 2 ks ≡ true → is_one 3 ks ≡ true → is_one 4 ks ≡ true → is_one 11 ks ≡ true → (out : List ℕ)
      → ((n : ℕ) → ZeroOrOneOf ks (length_fault l n (length out))) → Numbered ks (get_result l image heads next key out).answer
  unfolding get_result get_fault
  get_by ks a b c d e out h =
      numbered ks (λ (r : ReadOnlyResult). r.answer) (λ fault. record { answer = refused fault; out = out; compared = key_compared l image heads next key })
      (λ k. refl) _
      (else_due ks _ _ (lent_due ks a b c d l image (length heads) (length next)) (later_due ks e (length out) h _)) _ (get-done ks e out _ _)

  -- GET: 1, 2, 3, 4, 11, 23, 13; without 13 where the output has room for any value
  pub get_numbered : (out : List ℕ) → Numbered get_refusals (get_result l image heads next key out).answer
  unfolding length_fault
  get_numbered out =
      get_by get_refusals refl refl refl refl refl out
      (λ n. refuse_if_due get_refusals _ 23 _ (one_of 23 get_refusals refl)
      (refuse_if_due get_refusals _ 13 0 (one_of 13 get_refusals refl) (none_due get_refusals)))

  roomy_due : (ks : List ℕ) → is_one 23 ks ≡ true → (n size : ℕ) → limit l ≤ size → ZeroOrOneOf ks (length_fault l n size)
  unfolding length_fault refuse_if
  roomy_due ks long n size h = go (ltb (limit l) n) refl
    where
      go : (b : Bool) → ltb (limit l) n ≡ b → ZeroOrOneOf ks (refuse_if b 23 (refuse_if (ltb size n) 13 0))
      go true t = inr (one_of 23 ks long)
      go false t = inl (refuse_if-false _ 13 0 (le-ltb size n (omega (arith, ltb-false (limit l) n t))))

  pub roomy_get_numbered : (out : List ℕ) → limit l ≤ length out → Numbered roomy_get_refusals (get_result l image heads next key out).answer
  roomy_get_numbered out h = get_by roomy_get_refusals refl refl refl refl refl out (λ n. roomy_due roomy_get_refusals refl n (length out) h)

  locate-done : (ks : List ℕ) → is_one 11 ks ≡ true → (found : Found) → Numbered ks (locate_done image found)
  unfolding locate_done
  locate-done ks e (At slot prev compared) = tt
  locate-done ks e (Missing prev compared) = tt
  locate-done ks e BadChain = one_of 11 ks e

  -- LOCATE: 1, 2, 3, 4, 11
  pub locate_numbered : Numbered locate_refusals (locate_result l image heads next key).answer
  unfolding locate_answer locate_fault
  locate_numbered =
      numbered locate_refusals (λ (a : Answer). a) (λ fault. refused fault) (λ k. refl) _
      (else_due locate_refusals _ _ (lent_due locate_refusals refl refl refl refl l image (length heads) (length next)) (chain_due locate_refusals refl _)) _
      (locate-done locate_refusals refl _)

-- ---- a basket

each_due : (ks : List ℕ) (fault : KeyChange → ℕ) → ((c : KeyChange) → ZeroOrOneOf ks (fault c)) → (changes : List KeyChange)
    → ZeroOrOneOf ks (first_fault fault changes)
unfolding first_fault
each_due ks fault h [] = none_due ks
each_due ks fault h (c ∷ cs) = else_due ks _ _ (h c) (each_due ks fault h cs)

given_due : (changes : List KeyChange) (at words : ℕ) → ZeroOrOneOf basket_refusals (given_fault changes at words)
unfolding given_fault key_count_fault lists_fault
given_due changes at words =
    else_due basket_refusals _ _
    (refuse_if_due basket_refusals _ 26 _ (one_of 26 basket_refusals refl)
    (refuse_if_due basket_refusals _ 26 0 (one_of 26 basket_refusals refl) (none_due basket_refusals)))
    (refuse_if_due basket_refusals _ 27 _ (one_of 27 basket_refusals refl)
    (refuse_if_due basket_refusals _ 13 _ (one_of 13 basket_refusals refl)
    (refuse_if_due basket_refusals _ 13 0 (one_of 13 basket_refusals refl) (none_due basket_refusals))))

value_due : (l : ℕ) (a : Action) (size : ℕ) → ZeroOrOneOf basket_refusals (value_fault l a size)
unfolding value_fault
value_due l (Write mode) size = refuse_if_due basket_refusals _ 10 0 (one_of 10 basket_refusals refl) (none_due basket_refusals)
value_due l Remove size = none_due basket_refusals

action_due : (a : Action) (held : Bool) → ZeroOrOneOf basket_refusals (action_fault a held)
unfolding action_fault key_fault
action_due (Write Insert) held = refuse_if_due basket_refusals _ 20 0 (one_of 20 basket_refusals refl) (none_due basket_refusals)
action_due (Write Replace) held = refuse_if_due basket_refusals _ 21 0 (one_of 21 basket_refusals refl) (none_due basket_refusals)
action_due Remove held = refuse_if_due basket_refusals _ 21 0 (one_of 21 basket_refusals refl) (none_due basket_refusals)

module _ (l : ℕ) (image : List ℕ) (i : Index) (changes : List KeyChange) (at words : ℕ) where
  basket_due : ZeroOrOneOf basket_refusals (basket_fault l image i changes at words)
  unfolding basket_fault_by allocation_by basket_lent_fault keys_fault
  basket_due =
      else_due basket_refusals _ _ (given_due changes at words)
      (else_due basket_refusals _ _
      (else_due basket_refusals _ _ (lent_due basket_refusals refl refl refl refl l image (length i.heads) (length i.next))
      (each_due basket_refusals _ (λ c. value_due l c.action (length c.value)) changes))
      (else_due basket_refusals _ _
      (else_due basket_refusals _ _ (each_due basket_refusals _ (λ c. chain_due basket_refusals refl (search l image i.heads i.next c.key)) changes)
      (each_due basket_refusals _ (λ c. action_due c.action (is_found (search l image i.heads i.next c.key))) changes))
      (store_due basket_refusals refl refl refl _ _ i.state _ _)))

  -- A BASKET: 26, 27, 13, 1, 2, 3, 4, 10, 11, 20 or 21, 28, 9
  pub basket_numbered : Numbered basket_refusals (basket_result l image i changes at words).answer
  unfolding basket_result_by allocation_chosen_by basket_unless basket_done basket_made unchanged
  basket_numbered =
      numbered basket_refusals (λ (r : CallResult). r.answer) (λ fault. unchanged (refused fault) i 0) (λ k. refl) _ basket_due _
      (done (allocation_chosen l image i.next (slots_in image) i.state.first (length changes)))
    where
      done : (t : Allocation) → Numbered basket_refusals (basket_done l image i changes t).answer
      done (taken ts) = tt
      done too_few = one_of 28 basket_refusals refl
      done bad_link = one_of 11 basket_refusals refl

-- ---- counting

-- COUNT_SLOTS: recovery's
pub count_numbered : (l : ℕ) (image heads next : List ℕ) → Numbered recover_refusals (count_result l image heads next).answer
unfolding count_result count_says
count_numbered l image heads next =
    numbered recover_refusals (λ (a : Answer). a) (λ fault. refused fault) (λ k. refl) _ (fault_due l image heads next) _ tt

-- the stores of play
halves_due : (ks : List ℕ) → is_one 15 ks ≡ true → (len : ℕ) (at : List ℕ) → ZeroOrOneOf ks (halves_fault len at)
unfolding halves_fault
halves_due ks fifteen len at = one_due ks _ 15 _ fifteen (one_due ks _ 15 _ fifteen (one_due ks _ 15 0 fifteen (none_due ks)))

-- COUNT_CUTS: recovery's but 4, and 15
pub cuts_numbered : (l : ℕ) (image at value copy later : List ℕ) → Numbered cut_count_refusals (cut_count_result l image at value copy later).answer
unfolding cut_count_result cut_count_fault acceptance_fault recover_fault lent_fault arguments_fault play_fault
cuts_numbered l image at value copy later =
    numbered ks (λ (r : CutCountResult). r.answer) (λ fault. record { answer = refused fault; copy = copy; later = later }) (λ k. refl) _
    (else_due ks _ _
    (else_due ks _ _ (else_due ks _ _ (image_due ks refl refl refl l image) (inl (index_fine (slots_in image))))
    (slots_due l (word image) (slots_in image) ks refl refl refl refl refl))
    (else_due ks _ _
    (one_due ks _ 1 _ refl
    (subst (ZeroOrOneOf ks) (sym (refuse_if-false _ 14 _ (le-ltb 8 8 (omega arith)) ∙ refuse_if-false _ 14 _ (le-ltb 8 8 (omega arith))))
    (halves_due ks refl (length image) at)))
    (one_due ks _ 1 _ refl (one_due ks _ 1 0 refl (none_due ks))))) _ tt
  where
    ks : List ℕ
    ks = cut_count_refusals

-- ---- play

-- PLAY: 1, 14, 15
pub play_numbered : (image at value : List ℕ) (a b : ℕ) → ZeroOrOneOf play_refusals (play_result image at value a b).answer
unfolding play_result play_fault
play_numbered image at value a b =
    one_due play_refusals _ 1 _ refl
    (one_due play_refusals _ 14 _ refl (one_due play_refusals _ 14 _ refl (halves_due play_refusals refl (length image) at)))

-- PLAY OF A LIST: 15
pub play_list_numbered : (image at value : List ℕ) → ZeroOrOneOf play_list_refusals (play_list_result image at value).answer
unfolding play_list_result list_fault
play_list_numbered image at value = one_due play_list_refusals _ 15 _ refl (one_due play_list_refusals _ 15 0 refl (none_due play_list_refusals))

-- THE NUMBERS of every call
pub call_numbers : (l : ℕ) → CallNumbers l
call_numbers l =
    record {
      format = format_numbered l;
      recover = recover_numbered l;
      recover-slot = recover_names l;
      write = write_numbered l;
      remove = remove_numbered l;
      get = get_numbered l;
      locate = locate_numbered l;
      basket = basket_numbered l;
      count_slots = count_numbered l;
      count_cuts = cuts_numbered l;
      play = play_numbered;
      play_list = play_list_numbered;
    }
