-- THE LAWS OF THE SET, proved. Assumes nothing.
use mathlib.Core.Path.{◌≡◌, refl, sym, ap, ◌∙◌, subst}
use mathlib.Core.Bool.{false}
use mathlib.Core.Option.{none}
use mathlib.Core.List.{List, []}
use Prim.Native.Nat.{ℕ, ◌+◌, ◌*◌, ◌^◌, ◌≤◌, ◌<◌}
use native.Mathlib.Omega.{arith}
use lib.ListN.{length}
use Rattle.words.specs.Word.{word}
use Rattle.layout.specs.Size.{slots_of, slots_in}
use Rattle.layout.specs.Record.{Layout}
use Rattle.layout.specs.Header.{index_fault}
use Rattle.layout.proofs.Size.{sized}
use Rattle.layout.proofs.Lents.{index_sized}
use Rattle.prelude.specs.Members.{Slot}
use Rattle.stores.specs.Store.{Store, played, standing}
use Rattle.stores.specs.Play.{word_numbers, values, play_end, play_fault, play_result, playing, half_counts}
use Rattle.stores.proofs.Bytes.{played-length}
use Rattle.calls.specs.Format.{formatted}
use Rattle.calls.proofs.SingleRefusal.{write_refusal, remove_refusal}
use Rattle.calls.proofs.BasketRefusal.{basket_refusal}
use Rattle.calls.proofs.Formats.{formatted-length}
use Rattle.plainmap.specs.World.{World, Call, call_result, finished, invalidated_world}
use Rattle.plainmap.specs.Plain.{PlainMap}
use Rattle.plainmap.specs.Accepted.{Accepted, RightSize}
use Rattle.plainmap.specs.Claims.{Typed, slots_map}
use Rattle.plainmap.specs.Consistency.{Refines}
use Rattle.plainmap.proofs.AcceptedImages.{accepted_recovers, recovers_accepted, recovers_index, accepted_slots, accepted_long}
use Rattle.plainmap.proofs.BasketItems.{changes_typed}
use Rattle.plainmap.proofs.CallLists.{agrees_right, agrees_reads, agrees_with, agrees_list, opened_agrees, restarted_agrees, formatted_empty, formatted_fine}
use Rattle.plainmap.proofs.Singles.{call_by_rule}
use Rattle.plainmap.proofs.OwnCalls.{either_called, either_basket_called}
use Rattle.plainmap.proofs.BasketRights.{basket-by-rule}
use Rattle.plainmap.proofs.Playing.{record_passes, record_cut, record_counted, record_whole, playing_none}
use Rattle.interface.specs.Event.{Cut, Event, done, struck, effects_of, image_cut, step_by, Fits, done_fits, struck_fits}
use Rattle.interface.specs.Plays.{ListPlayLeaves, play_count, PlaysSingle}
use Rattle.interface.specs.Laws.{Lengths, CallLaws, SetLaws}
use Rattle.interface.proofs.Images.{accepted_gives, state_answered}
use Rattle.interface.proofs.Events.{gives_always, restarted_slots, event_agrees, event_always, event_slots, basket_answers, basket_agrees}
use Rattle.interface.proofs.Events.{basket_always, basket_keeps_slots, basket_plays}
use Rattle.interface.proofs.Stored.{few_given, hands_out, OneStored, none_stored, one_stored, stored_one, some_stores}
use Rattle.interface.proofs.Heads.{called_heads, recovered_heads}
pub use Rattle.layout.proofs.Layouts.{layout_numbered}
pub use Rattle.calls.proofs.Changes.{key_alone}

module _ (l : ℕ) (lay : Layout l) where
  small : l < 2 ^ 64
  small = omega (arith, lay.high)

  -- a formatted image
  module _ (len : ℕ) (heads next : List ℕ) (some : slots_of len ≡ 0 → ⊥) (size : index_fault (slots_of len) (length heads) (length next) ≡ 0) where
    right_size : RightSize (formatted l len) heads next
    right_size = ap (λ (k : ℕ). index_fault (slots_of k) (length heads) (length next)) (formatted-length l len) ∙ size

    fine : Accepted l (formatted l len)
    fine = formatted_fine l len some small

    new_agrees : Refines l (invalidated_world l (formatted l len) heads next) (λ k. none)
    new_agrees = agrees_with l _ _ (λ k. none) (opened_agrees l lay (formatted l len) heads next fine right_size) (formatted_empty l len some small)

  module _ (w : World) (m : PlainMap) (g : Refines l w m) where
    the_lengths : Lengths w
    the_lengths =
        record {
          image-size = (accepted_long l w.image g.accepted).size;
          index = g.consistent.size;
          next_size = (index_sized (slots_in w.image) (length w.index.heads) (length w.index.next) g.consistent.size).2;
        }

    module _ (call : Call) (typed : Typed l call) where
      room : (s : ℕ) → Slot (slots_in w.image) s → 128 * (s + 1) ≤ length w.image
      room s i = omega (arith, i.1, (accepted_long l w.image g.accepted).size)

      -- PLAY of a call's stores, if it has any, refuses no counts up to 8
      the_plays : ((call_result l w call).stores ≡ [] → ⊥) → (a b : ℕ) → a ≤ 8 → b ≤ 8
          → play_fault (length w.image) (word_numbers (call_result l w call).stores) a b ≡ 0
      the_plays some a b p q = go (stored_one l w m g call)
        where
          go : OneStored l w (call_result l w call).stores → play_fault (length w.image) (word_numbers (call_result l w call).stores) a b ≡ 0
          go (none_stored e) = absurd (some e)
          go (one_stored key kind value e i) =
              ap (λ (ss : List Store). play_fault (length w.image) (word_numbers ss) a b) e
              ∙ record_passes l (length w.image) (word w.image) w.index.state.first key kind 0 value w.index.state.version a b
              (accepted_slots l w.image g.accepted) (room w.index.state.first i) p q

      -- and leaves what a cut with these counts leaves
      the_cut : (a b : ℕ) → a ≤ 8 → b ≤ 8 → playing w.image (call_result l w call).stores a b ≡
          played (standing (half_counts (call_result l w call).stores a b) (call_result l w call).stores) w.image
      unfolding standing played
      the_cut a b p q = go (stored_one l w m g call)
        where
          go : OneStored l w (call_result l w call).stores
              → playing w.image (call_result l w call).stores a b ≡
              played (standing (half_counts (call_result l w call).stores a b) (call_result l w call).stores) w.image
          go (none_stored e) =
              subst (λ (ss : List Store). playing w.image ss a b ≡ played (standing (half_counts ss a b) ss) w.image) (sym e) (playing_none w.image a b)
          go (one_stored key kind value e i) =
              record_cut l w.image (word w.image) w.index.state.first key kind 0 value w.index.state.version a b
              (accepted_slots l w.image g.accepted) (room w.index.state.first i) p q _ e

      -- PLAY OF ALL ITS STORES, as a list and with 8 and 8, leaves the image that the next call gets
      the_whole : PlaysSingle l (λ v request. effects_of (call_result l v request)) w (done call)
      unfolding step_by finished played
      the_whole = (
        all,
        record {
          played_by_counts = λ ne. go ne (stored_one l w m g call);
          unchanged_without_stores = λ e. ap
              (λ (ss : List Store). played ss w.image) e;
        },
      )
        where
          all : ListPlayLeaves w.image (call_result l w call).stores (played (call_result l w call).stores w.image)
          all = agrees_list l lay w m g call typed

          go : ((call_result l w call).stores ≡ [] → ⊥) → OneStored l w (call_result l w call).stores
              → play_result w.image (word_numbers (call_result l w call).stores) (values (call_result l w call).stores) 8 8 ≡
              play_end 0 (played (call_result l w call).stores w.image)
          go ne (none_stored e) = absurd (ne e)
          go ne (one_stored key kind value e i) =
              record_whole l w.image (word w.image) w.index.state.first key kind 0 value w.index.state.version
              (accepted_slots l w.image g.accepted)
              (room w.index.state.first i) (call_result l w call).stores e
              ∙ all

      -- PLAY OF THE COUNTED ONES leaves the image that recovery gets
      the_struck : (cut : Cut) → PlaysSingle l (λ v request. effects_of (call_result l v request)) w (struck call cut)
      unfolding image_cut play_count played standing
      the_struck cut =
          record {
            played_by_counts = λ ne. go ne (stored_one l w m g call);
            unchanged_without_stores = λ e. ap (λ (ss : List Store). played (standing cut.counts ss) w.image) e;
          }
        where
          go : ((call_result l w call).stores ≡ [] → ⊥) → OneStored l w (call_result l w call).stores
              → play_result w.image (word_numbers (call_result l w call).stores) (values (call_result l w call).stores)
              (play_count cut.counts (call_result l w call).stores 0) (play_count cut.counts (call_result l w call).stores 8) ≡
              play_end 0 (played (standing cut.counts (call_result l w call).stores) w.image)
          go ne (none_stored e) = absurd (ne e)
          go ne (one_stored key kind value e i) =
              record_counted l w.image (word w.image) w.index.state.first key kind 0 value w.index.state.version cut.counts
              (accepted_slots l w.image g.accepted) (room w.index.state.first i) (call_result l w call).stores e

    event_plays : (event : Event Call) → Fits l (slots_in w.image) event → PlaysSingle l (λ v call. effects_of (call_result l v call)) w event
    event_plays (done call) (done_fits t) = the_whole call t
    event_plays (struck call cut) (struck_fits t c) = the_struck call t cut

  none_played : (image : List ℕ) → played [] image ≡ image
  unfolding played
  none_played image = refl

  -- WHAT HOLDS OF THE CALLS whatever the set
  pub call_laws : CallLaws l
  call_laws =
      record {
        answers_state = state_answered l;
        few_values = few_given l;
        write_refusal = write_refusal false l;
        remove_refusal = remove_refusal false l;
        basket_refusal = λ image i. basket_refusal false l image i.heads i.next i.state;
        changes_typed = changes_typed l lay;
        hands_out = λ w call writes given e lent. hands_out l w lent call writes given e;
        accepted = recovers_accepted l;
        accepts_with = accepted_recovers l;
        accepted_index = recovers_index l;
        call-heads = called_heads l;
        recovery_heads = recovered_heads l;
        restart_slots = restarted_slots l;
        plays_length = played-length;
        plays_nothing = none_played;
        slots-of = sized;
        formatted-length = formatted-length l;
      }

  -- THE LAWS OF THE SET
  pub set_laws : SetLaws l (Refines l)
  set_laws =
      record {
        after-recovery = λ image r a fits. restarted_agrees l lay image a r fits.rounds fits.size;
        always = λ image a. gives_always l lay (slots_in image) image (slots_map l image) refl a (λ k. refl);
        fresh = λ len heads next some size. (fine len heads next some size, new_agrees len heads next some size);
        keeps = event_agrees l lay;
        keeps_always = event_always l lay;
        recovers = λ w m g. accepted_gives l lay w.image m g.accepted g.map;
        reads = agrees_reads l;
        lengths = the_lengths;
        answers = agrees_right l lay;
        some_stores = λ w m g call typed. some_stores l w call;
        plays = the_plays;
        plays_cut = the_cut;
        plays_event = event_plays;
        accepts = λ w m g. g.accepted;
        keeps_slots = event_slots l lay;
        call_by_rule = λ w m g. call_by_rule l lay w g.chains g.accepted g.consistent g.none_void;
        basket-by-rule = λ w m g. basket-by-rule l lay w g.chains g.accepted g.consistent g.none_void;
        either_call = either_called l lay;
        either_basket = either_basket_called l lay;
        answers_basket = basket_answers l lay;
        keeps_basket = basket_agrees l lay;
        keeps_basket_always = basket_always l lay;
        keeps_basket_slots = basket_keeps_slots l lay;
        plays_basket = basket_plays l lay;
      }

-- the layout of document 01
pub layout_1 : Layout 1
layout_1 = record { low = omega arith; high = omega arith }

-- and of document 02, A.11
pub layout_2 : Layout 2
layout_2 = record { low = omega arith; high = omega arith }
