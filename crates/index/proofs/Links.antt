-- What each raw write does to what follows a slot. Assumes nothing.
use mathlib.Core.Path.{◌≡◌, refl, ap}
use mathlib.Core.List.{List}
use Prim.Native.Nat.{ℕ, zero, suc, ◌<◌}
use native.Mathlib.Omega.{arith}
use lib.ListN.{length, get_or, length-set}
use lib.Seq.{get_or-set_same, get_or-set_other}
use Rattle.index.specs.Index.{Chain, reuse, head, Index, start, ahead, set_next, set_start, set_last, link}
use Rattle.index.specs.Linked.{Entry}
use Rattle.index.proofs.defs.Linked.{Room}

pub set_here : (i : Index) (s v : ℕ) (c : Chain) → Entry i s → ahead (set_next i s v) c s ≡ v
unfolding ahead set_next
set_here i zero v c h = absurd (omega (arith, h.low))
set_here i (suc s) v c h = get_or-set_same i.next (suc s) v 0 h.high

pub start_set : (i : Index) (s v : ℕ) (c : Chain) → start (set_next i s v) c ≡ start i c
unfolding start set_next
start_set i s v reuse = refl
start_set i s v (head h) = refl

pub set_else : (i : Index) (s v : ℕ) (c : Chain) (x : ℕ) → (x ≡ s → ⊥) → ahead (set_next i s v) c x ≡ ahead i c x
unfolding ahead
set_else i s v c zero n = start_set i s v c
set_else i s v c (suc x) n = unfold set_next in get_or-set_other i.next s (suc x) v 0 n

pub link_here : (i : Index) (c : Chain) (p v : ℕ) → Room i c → (0 < p → p < length i.next) → ahead (link i c p v) c p ≡ v
unfolding ahead link start set_start set_next
link_here i reuse zero v m h = refl
link_here i (head k) zero v m h = get_or-set_same i.heads k v 0 m
link_here i c (suc p) v m h = get_or-set_same i.next (suc p) v 0 (h (omega arith))

start_next : (i : Index) (c : Chain) (v : ℕ) → (set_start i c v).next ≡ i.next
unfolding set_start
start_next i reuse v = refl
start_next i (head h) v = refl

pub link_else : (i : Index) (c : Chain) (p v : ℕ) (k : Chain) (x : ℕ) → (x ≡ p → ⊥) → ahead (link i c p v) k x ≡ ahead i k x
unfolding link
link_else i c zero v k zero n = absurd (n refl)
link_else i c zero v k (suc x) n = unfold ahead in ap (λ (l : List ℕ). get_or l (suc x) 0) (start_next i c v)
link_else i c (suc p) v k x n = set_else i (suc p) v k x n

start_other : (i : Index) (c : Chain) (v : ℕ) (k : Chain) → (k ≡ c → ⊥) → start (set_start i c v) k ≡ start i k
unfolding start set_start
start_other i reuse v reuse n = absurd (n refl)
start_other i reuse v (head k) n = refl
start_other i (head h) v reuse n = refl
start_other i (head h) v (head k) n = get_or-set_other i.heads h k v 0 (λ e. n (ap head e))

-- the other chains start as they did
pub link_start : (i : Index) (c : Chain) (p v : ℕ) (k : Chain) → (k ≡ c → ⊥) → ahead (link i c p v) k 0 ≡ ahead i k 0
unfolding ahead link
link_start i c zero v k n = start_other i c v k n
link_start i c (suc p) v k n = start_set i (suc p) v k

pub last_same : (i : Index) (v : ℕ) (c : Chain) (x : ℕ) → ahead (set_last i v) c x ≡ ahead i c x
unfolding ahead start set_last
last_same i v reuse zero = refl
last_same i v (head h) zero = refl
last_same i v c (suc x) = refl

-- a slot's next is the same in every chain
pub ahead-next : (i : Index) (c : Chain) (x : ℕ) → 0 < x → ahead i c x ≡ get_or i.next x 0
unfolding ahead
ahead-next i c zero h = absurd (omega arith)
ahead-next i c (suc x) h = refl

-- sizes and the last slot stay
pub link_size : (i : Index) (c : Chain) (p v : ℕ) → length (link i c p v).next ≡ length i.next
unfolding link set_next
link_size i c zero v = ap length (start_next i c v)
link_size i c (suc p) v = length-set i.next (suc p) v

pub set_size : (i : Index) (s v : ℕ) → length (set_next i s v).next ≡ length i.next
unfolding set_next
set_size i s v = length-set i.next s v

start_heads : (i : Index) (c : Chain) (v : ℕ) → length (set_start i c v).heads ≡ length i.heads
unfolding set_start
start_heads i reuse v = refl
start_heads i (head h) v = length-set i.heads h v

pub link-heads : (i : Index) (c : Chain) (p v : ℕ) → length (link i c p v).heads ≡ length i.heads
unfolding link set_next
link-heads i c zero v = start_heads i c v
link-heads i c (suc p) v = refl

start_last : (i : Index) (c : Chain) (v : ℕ) → (set_start i c v).state.last ≡ i.state.last
unfolding set_start
start_last i reuse v = refl
start_last i (head h) v = refl

pub link-last : (i : Index) (c : Chain) (p v : ℕ) → (link i c p v).state.last ≡ i.state.last
unfolding link set_next
link-last i c zero v = start_last i c v
link-last i c (suc p) v = refl

-- a chain can be written as long as there are as many heads
pub room_size : (i j : Index) (c : Chain) → length j.heads ≡ length i.heads → Room i c → Room j c
room_size i j reuse e m = m
room_size i j (head h) e m = omega arith

pub slot_size : (i j : Index) (x : ℕ) → length j.next ≡ length i.next → Entry i x → Entry j x
slot_size i j x e h = record { low = h.low; high = omega (arith, h.high) }

pub set_heads : (i : Index) (s v : ℕ) → length (set_next i s v).heads ≡ length i.heads
unfolding set_next
set_heads i s v = refl

pub set-last : (i : Index) (s v : ℕ) → (set_next i s v).state.last ≡ i.state.last
unfolding set_next
set-last i s v = refl
