-- What the calls write to the index, and the refusals for the key. Document 01, "The index": "The index is written in
-- this order."
use Rattle.std.specs.Prelude.{Bool, true, false, cond, not, ℕ, eqb, get_or}
use Rattle.prelude.specs.Refusal.{refuse_if}
use Rattle.index.specs.Index.{Index, Chain, reuse, head, set_next, set_start, set_last, link}
use Rattle.index.specs.declared.Mode.{Mode}
use Rattle.index.specs.declared.Mode.TheVariants.{Insert, Replace}
use Rattle.index.specs.declared.Found.{Found}
use Rattle.index.specs.declared.Found.TheVariants.{At, Missing, BadChain}

-- "Taking makes the first reuse slot's next the new first; if that is zero, the last is zero too"
unfoldable pub take_first : Index → Index
take_first i =
    set_last (set_start i reuse (get_or i.next i.state.first 0)) (cond (eqb (get_or i.next i.state.first 0) 0) 0 i.state.last)

-- "Then the taken slot's next, where it is linked, and after it the link to it": slot s, whose next becomes v, after
-- prev
unfoldable pub link_new : Index → Chain → (prev s v : ℕ) → Index
link_new i c prev s v = link (set_next i s v) c prev s

-- "Then each slot appended: its next becomes zero, it becomes the next of the last slot, or the first if there is none,
-- and then the last"
unfoldable pub append : Index → ℕ → Index
append i s = set_last (link (set_next i s 0) reuse i.state.last s) s

-- an insert of a key whose record goes to slot s, already taken: it is linked at the end of its head's chain, whose
-- last slot is prev
unfoldable pub insert_at : Index → (h prev s : ℕ) → Index
insert_at i h prev s = link_new i (head h) prev s 0

-- a replace: slot s "replaces the old slot in its chain; the old slot joins the end of the reuse chain"
unfoldable pub replace_at : Index → (h prev old s : ℕ) → Index
replace_at i h prev old s = append (link_new i (head h) prev s (get_or i.next old 0)) old

-- a remove: it "unlinks the old slot, and appends to the reuse chain the old slot and then the slot just taken"
unfoldable pub remove_at : Index → (h prev old s : ℕ) → Index
remove_at i h prev old s = append (append (link i (head h) prev (get_or i.next old 0)) old) s

-- document 02, A.2: "20 when insert meets a held key and 21 when replace meets an unheld one"
unfoldable pub key_fault : Mode → (held : Bool) → ℕ
key_fault Insert held = refuse_if held 20 0
key_fault Replace held = refuse_if (not held) 21 0

-- how many keys a write inserts
unfoldable pub inserts_of : Mode → ℕ
inserts_of Insert = 1
inserts_of Replace = 0

-- is the key there, by what following its chain found?
unfoldable pub is_found : Found → Bool
is_found (At slot prev compared) = true
is_found (Missing prev compared) = false
is_found BadChain = false
