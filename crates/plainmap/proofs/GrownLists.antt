-- Where 28 is due on a set with room, and every list of calls on a set grown from a formatted image. Assumes nothing.
use mathlib.Core.Path.{◌≡◌, refl, sym, ap, ◌∙◌, subst}
use mathlib.Core.Bool.{Bool, true, false, cond}
use mathlib.Core.Option.{none}
use mathlib.Core.List.{List}
use Prim.Native.Nat.{ℕ, ◌+◌, ◌^◌, ◌≤◌, ◌<◌}
use native.Mathlib.Omega.{arith}
use lib.Dec.{ltb, leb}
use lib.ListN.{length}
use borrow.Author.Tests.{le-ltb, le-leb, lt-leb, ltb-false, leb-true}
use Rattle.prelude.specs.Members.{All}
use Rattle.prelude.specs.Answer.{refusal_in}
use Rattle.prelude.specs.Refusal.{refuse_if, or_else}
use Rattle.prelude.proofs.Histories.{throughout}
use Rattle.prelude.proofs.Refusals.{refuse_if-true, refuse_if-false, or_else_later}
use Rattle.layout.specs.Size.{slots_of, slots_in}
use Rattle.layout.specs.Record.{Layout, limit}
use Rattle.layout.specs.Line.{version_fault}
use Rattle.table.specs.Complete.{table_of}
use Rattle.table.specs.Table.{is_held, live_count}
use Rattle.index.specs.Change.{inserts_of, key_fault}
use Rattle.index.specs.declared.Mode.TheVariants.{Insert, Replace}
use Rattle.calls.specs.Format.{formatted}
use Rattle.calls.proofs.Formats.{formatted-length}
use Rattle.plainmap.specs.World.{World, Call, write, remove, get, locate, call_result, finished, Restart, restarted}
use Rattle.plainmap.specs.Plain.{PlainMap, updates, room_rule, rule_fault}
use Rattle.plainmap.specs.Accepted.{Accepted, RestartFits}
use Rattle.plainmap.specs.Consistency.{Refines}
use Rattle.plainmap.specs.Claims.{Typed, slots_map, room_of, expected_refusal, CallCorrect, map_after_call}
use Rattle.plainmap.specs.Room.{SomeTakeable, InsertsNew, RoomCorrect}
use Rattle.plainmap.specs.Map.{PlainRule, GrownRule}
use Rattle.plainmap.proofs.AcceptedImages.{accepted_room}
use Rattle.plainmap.proofs.CallLists.{agrees_right, agrees_reads, agrees_with, agrees_stepped, agrees_next, plain_rule, restarted_agrees}
use Rattle.plainmap.proofs.CallLists.{formatted_empty, formatted_fine}
use Rattle.plainmap.proofs.Room.{HasRoom, formatted_room, done_room, restarted_room, room_takeable}

-- ---- 28 by the plain map

-- 9 is the only refusal for the version
not_28 : (version : ℕ) → version_fault version ≡ 28 → ⊥
unfolding version_fault refuse_if
not_28 version e = go (leb (2 ^ 63) version) e
  where
    go : (b : Bool) → refuse_if b 9 0 ≡ 28 → ⊥
    go true e = omega arith
    go false e = omega arith

-- a row of 10, 20 or 21, and of what is left of 28
insert_met : (long held full : Bool) (later : ℕ) → long ≡ false → held ≡ false → full ≡ true
    → refuse_if long 10 (or_else (key_fault Insert held) (refuse_if full 28 later)) ≡ 28
unfolding key_fault
insert_met long held full later a b c = refuse_if-false long 10 _ a ∙ or_else_later _ _ (refuse_if-false held 20 0 b) ∙ refuse_if-true full 28 later c

insert_only : (long held full : Bool) (later : ℕ) → (later ≡ 28 → ⊥) → refuse_if long 10 (or_else (key_fault Insert held) (refuse_if full 28 later)) ≡ 28
    → (long ≡ false) × (held ≡ false) × (full ≡ true)
unfolding refuse_if or_else key_fault
insert_only true held full later ne e = absurd (omega arith)
insert_only false true full later ne e = absurd (omega arith)
insert_only false false true later ne e = (refl, refl, refl)
insert_only false false false later ne e = absurd (ne e)

replace_never : (long held : Bool) (later : ℕ) → (later ≡ 28 → ⊥) → refuse_if long 10 (or_else (key_fault Replace held) later) ≡ 28 → ⊥
unfolding refuse_if or_else key_fault
replace_never true held later ne e = omega arith
replace_never false true later ne e = ne e
replace_never false false later ne e = omega arith

remove_never : (held : Bool) (later : ℕ) → (later ≡ 28 → ⊥) → cond held later 0 ≡ 28 → ⊥
remove_never true later ne e = ne e
remove_never false later ne e = omega arith

get_never : (short : Bool) → refuse_if short 13 0 ≡ 28 → ⊥
unfolding refuse_if
get_never true e = omega arith
get_never false e = omega arith

-- a call that inserts no key and is never refused for room
never : {l : ℕ} {w : World} {fault : ℕ} → (fault ≡ 28 → ⊥) → RoomCorrect l w ⊥ fault
never h = record { met = λ new one. absurd new; only_new = h; only_left = λ e. absurd (h e) }

module _ (l : ℕ) (w : World) (m : PlainMap) (some : SomeTakeable l w)
    (left : live_count (table_of l w.image) (slots_in w.image) < slots_in w.image) where
  abbrev n : ℕ
  n = slots_in w.image

  abbrev live : ℕ
  live = live_count (table_of l w.image) n

  -- the refusals for room of a call that wants one slot: only the live count is left of 28
  one_row : (inserts removes : ℕ)
      → room_rule (room_of l w.image) 1 inserts removes ≡ refuse_if (leb (n + removes) (live + inserts)) 28 (version_fault (room_of l w.image).version)
  unfolding room_rule
  one_row inserts removes = refuse_if-false _ 28 _ (le-ltb (room_of l w.image).takeable 1 some)

  -- a call that inserts no key is never refused for room
  no_28 : (inserts removes : ℕ) → inserts ≤ removes → room_rule (room_of l w.image) 1 inserts removes ≡ 28 → ⊥
  no_28 inserts removes h e =
      not_28 (room_of l w.image).version (sym (one_row inserts removes ∙ refuse_if-false _ 28 _ (lt-leb (n + removes) (live + inserts) (omega arith))) ∙ e)

  insert_row : (key : ℕ) (value : List ℕ) → expected_refusal l w m (write Insert key value) ≡
      refuse_if (ltb (limit l) (length value)) 10
      (or_else (key_fault Insert (is_held (m key))) (refuse_if (leb (n + 0) (live + 1)) 28 (version_fault (room_of l w.image).version)))
  unfolding rule_fault inserts_of
  insert_row key value = ap (λ (k : ℕ). refuse_if (ltb (limit l) (length value)) 10 (or_else (key_fault Insert (is_held (m key))) k)) (one_row 1 0)

  insert_due : (key : ℕ) (value : List ℕ) → expected_refusal l w m (write Insert key value) ≡ 28
      → (ltb (limit l) (length value) ≡ false) × (is_held (m key) ≡ false) × (leb (n + 0) (live + 1) ≡ true)
  insert_due key value e = insert_only _ _ _ _ (not_28 _) (sym (insert_row key value) ∙ e)

  -- 28 EXACTLY where an insert of a new key finds one slot left
  pub call_room : (call : Call) → RoomCorrect l w (InsertsNew l m call) (expected_refusal l w m call)
  unfolding rule_fault inserts_of
  call_room (write Insert key value) =
      record {
        met = λ new one.
            insert_row key value
            ∙ insert_met _ _ _ _ (le-ltb (limit l) (length value) new.0) new.1 (le-leb (n + 0) (live + 1) (omega arith));
        only_new = λ e. let t = insert_due key value e in (ltb-false (limit l) (length value) t.0, t.1);
        only_left = λ e. let t = leb-true (n + 0) (live + 1) (insert_due key value e).2 in omega (arith, t);
      }
  call_room (write Replace key value) = never (replace_never _ _ _ (no_28 0 0 (omega arith)))
  call_room (remove key) = never (remove_never (is_held (m key)) _ (no_28 0 1 (omega arith)))
  call_room (get key out) = never (get_never _)
  call_room (locate key) = never (λ e. omega arith)

-- ---- every list

module _ (l : ℕ) (lay : Layout l) where
  pub agrees_room : (w : World) (m : PlainMap) → Refines l w m → HasRoom l w.image → (call : Call)
      → RoomCorrect l w (InsertsNew l m call) (expected_refusal l w m call)
  agrees_room w m g room call =
      call_room l w m (room_takeable l w g.chains g.consistent g.none_void room) (accepted_room l w.image g.accepted) call

  -- EVERY LIST OF CALLS from an accepted image
  pub accepted_rule : (image : List ℕ) (start : Restart) → Accepted l image → RestartFits (slots_in image) start
      → (calls : List Call) → All (Typed l) calls → PlainRule l (restarted l image start) (slots_map l image) calls
  accepted_rule image start a fits calls typed =
      plain_rule l lay _ _ calls (restarted_agrees l lay image a start fits.rounds fits.size) typed

  -- the answer's number in the place of the rules'
  answered_room : (w : World) (m : PlainMap) → Refines l w m → HasRoom l w.image → (call : Call) → Typed l call
      → CallCorrect l w m call × RoomCorrect l w (InsertsNew l m call) (refusal_in (call_result l w call).answer)
  answered_room w m g room call t =
      let right = agrees_right l lay w m g call t in
      (right, subst (RoomCorrect l w (InsertsNew l m call)) (sym right.refusal) (agrees_room w m g room call))

  keeps : (w : World) (m : PlainMap) → Refines l w m × HasRoom l w.image → (call : Call) → Typed l call
      → Refines l (finished l w call) (map_after_call l w m call) × HasRoom l (finished l w call).image
  unfolding finished
  keeps w m g call t = (
    agrees_next l lay w m g.0 call t,
    done_room l w (updates call) (call_result l w call) g.0.accepted g.0.none_void g.1 (agrees_stepped l lay w m g.0 call t),
  )

  -- EVERY LIST OF CALLS from a formatted image, on which 28 is due to an insert that finds one slot left
  pub grown_rule : (len : ℕ) (start : Restart) → (slots_of len ≡ 0 → ⊥) → RestartFits (slots_of len) start
      → (calls : List Call) → All (Typed l) calls → GrownRule l (restarted l (formatted l len) start) (λ k. none) calls
  grown_rule len start some restart calls typed =
      throughout _ _ _ _ (λ w m. Refines l w m × HasRoom l w.image) (Typed l)
      (λ w m g. (g.0, agrees_reads l w m g.0))
      (λ w m g call t. answered_room w m g.0 g.1 call t)
      keeps
      (restarted l (formatted l len) start) (λ k. none) calls (
        agrees_with l _ _ (λ k. none) (restarted_agrees l lay (formatted l len) fine start fits.rounds fits.size) (formatted_empty l len some small),
        restarted_room l lay (formatted l len) fine start fits.rounds fits.size (formatted_room l len some small),
      ) typed
    where
      small : l < 2 ^ 64
      small = omega (arith, lay.high)

      fine : Accepted l (formatted l len)
      fine = formatted_fine l len some small

      same : slots_in (formatted l len) ≡ slots_of len
      same = ap slots_of (formatted-length l len)

      fits : RestartFits (slots_in (formatted l len)) start
      fits = subst (λ (n : ℕ). RestartFits n start) (sym same) restart
