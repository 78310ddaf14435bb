-- The packets that a queue's held bytes are: what stands in front of bytes, how far the walk goes, that it decides exactly which bytes
-- packets are, and that bytes are the packets of one list only.
use Rattle.std.specs.Prelude.{Option, Some, None}
use Prim.Native.Nat.{ℕ, zero, suc, ◌+◌, ◌-◌, ◌/◌, ◌%◌, ◌≤◌, ◌<◌}
use native.Mathlib.Omega.{arith}
use mathlib.Core.Path.{◌≡◌, refl, sym, ◌∙◌, ap}
use mathlib.Core.Bool.{Bool, true, false, cond, ◌&&◌, ◌||◌, and-eq-true_iff}
use mathlib.Core.List.{List, [], ◌∷◌, ◌++◌, append_assoc}
use lib.Dec.{eqb, leb, ltb, lit<}
use lib.ListN.{length, take, drop, length-append, length-drop, take-append-drop}
use lib.Seq.{length-take-le, take-add, take_at, drop_at, get_or-drop}
use Rattle.octets.proofs.Laws.Tests.{clash}
use Rattle.octets.proofs.Laws.Digits.{below_part}
use borrow.Author.Tests.{le-leb, leb-true, eqb-true, eq-eqb}
use Rattle.std.proofs.lemmas.Option.{none-some, some_pair_parts}
use Rattle.numbers.specs.Numbers.{groups, number_bytes, read_number}
use Rattle.numbers.proofs.Laws.Written.{written-reads, reads-written, read_length}
use Rattle.queues.specs.Packets.{packed, queued, Short, Holds, Left, whole, front, is_good, bytes_of, walks, good, Bytes, DecidesExactly, OneMeaning}

-- Lists of packets

pub length-packed : (p : List ℕ) → length (packed p) ≡ length (number_bytes (length p)) + length p
unfolding packed
length-packed p = length-append (number_bytes (length p)) p

-- a packet takes a byte at least, its length
pub packed_some : (p : List ℕ) → 0 < length (packed p)
unfolding groups
packed_some p = rw length-packed (go (length p % 128 + 128) (groups 9 (length p / 128)) (ltb (length p) 128))
  where
    go : (m : ℕ) (g : List ℕ) (t : Bool) → 0 < length (cond t (length p ∷ []) (m ∷ g)) + length p
    go m g true = omega arith
    go m g false = omega arith

pub queued-append : (ps qs : List (List ℕ)) → queued (ps ++ qs) ≡ queued ps ++ queued qs
unfolding queued
queued-append [] qs = refl
queued-append (p ∷ ps) qs = rw (queued-append ps qs) (sym (append_assoc (packed p) (queued ps) (queued qs)))

pub short-append : (ps qs : List (List ℕ)) → Short ps → Short qs → Short (ps ++ qs)
short-append [] qs h k = k
short-append (p ∷ ps) qs h k = (h.0, short-append ps qs h.1 k)

-- The packet in front

whole-good : (l : List ℕ) (r : Option (ℕ × ℕ)) (n k : ℕ) → whole l r ≡ Some (n, k) → (r ≡ Some (n, k)) × (k + n ≤ length l) × (n ≤ 1280)
whole-good l None n k e = absurd (none-some (n, k) e)
whole-good l (Some (m, j)) n k e = go (leb m 1280) refl (leb (j + m) (length l)) refl e
  where
    go : (s : Bool) → leb m 1280 ≡ s → (t : Bool) → leb (j + m) (length l) ≡ t → cond {A = Option (ℕ × ℕ)} (s && t) (Some (m, j)) None ≡ Some (n, k)
        → (◌≡◌ {A = Option (ℕ × ℕ)} (Some (m, j)) (Some (n, k))) × (k + n ≤ length l) × (n ≤ 1280)
    go true p true q e =
        let same = some_pair_parts m n j k e in
        (e, omega (arith, leb-true (j + m) (length l) q), omega (arith, leb-true m 1280 p))
    go true p false q e = absurd (none-some (n, k) e)
    go false p t q e = absurd (none-some (n, k) e)

-- it takes at least one byte, and no more than there are
pub front-within : (l : List ℕ) (n k : ℕ) → front l ≡ Some (n, k) → (0 < k) × (k + n ≤ length l) × (n ≤ 1280)
unfolding front
front-within l n k e =
    let w = whole-good l (read_number l) n k e in
    ((read_length l n k w.0).0, w.1, w.2)

-- a packet with its length in front is read back, with any bytes behind it
pub front-packed : (p rest : List ℕ) → length p ≤ 1280 → front (packed p ++ rest) ≡ Some (length p, length (number_bytes (length p)))
unfolding front packed
front-packed p rest h =
    let k = length (number_bytes (length p)) in
    let fits : k + length p ≤ length (number_bytes (length p) ++ (p ++ rest)) = simp length-append (omega arith) in
    rw (append_assoc (number_bytes (length p)) p rest, written-reads (length p) (p ++ rest) (omega arith), le-leb (length p) 1280 h, le-leb (k + length p) _ fits)

-- and what is read in front is a packet with its length
pub front_splits : (l : List ℕ) (n k : ℕ) → Bytes l → front l ≡ Some (n, k) → (l ≡ packed (take n (drop k l)) ++ drop (k + n) l) × (length (take n (drop k l)) ≡ n)
unfolding front packed
front_splits l n k b e =
    let w = whole-good l (read_number l) n k e in
    let long : length (take n (drop k l)) ≡ n = length-take-le n (drop k l) (simp length-drop (omega arith)) in
    (rw (long, ← (reads-written l n k b w.0).0, ← take-add k n l) (sym (take-append-drop (k + n) l)), long)

-- The walk

walks-alike : (f g : ℕ) (l : List ℕ) → length l ≤ f → length l ≤ g → walks f l ≡ walks g l
unfolding walks
walks-alike zero zero l h k = refl
walks-alike zero (suc g) l h k = rw (eq-eqb (length l) 0 (omega arith))
walks-alike (suc f) zero l h k = rw (eq-eqb (length l) 0 (omega arith))
walks-alike (suc f) (suc g) l h k = go (eqb (length l) 0) (front l) refl (walks-alike f g (drop (bytes_of (front l)) l))
  where
    go : (t : Bool) (r : Option (ℕ × ℕ)) → front l ≡ r → (length (drop (bytes_of (front l)) l) ≤ f → length (drop (bytes_of (front l)) l) ≤ g → walks f (drop (bytes_of (front l)) l) ≡ walks g (drop (bytes_of (front l)) l))
        → (t || is_good (front l) && walks f (drop (bytes_of (front l)) l)) ≡ (t || is_good (front l) && walks g (drop (bytes_of (front l)) l))
    go true r e ih = refl
    go false None e ih = rw e
    go false (Some (n, m)) e ih =
        let some = (front-within l n m e).0 in
        let less : length (drop (bytes_of (front l)) l) ≡ length l - (m + n) = rw e (length-drop (m + n) l) in
        ap (λ (w : Bool). is_good (front l) && w) (ih (omega arith) (omega arith))

-- more steps than bytes change nothing
pub walks-enough : (f : ℕ) (l : List ℕ) → length l ≤ f → walks f l ≡ walks (length l) l
walks-enough f l h = walks-alike f (length l) l h (omega arith)

none_hold : (l : List ℕ) → length l ≡ 0 → Holds l []
unfolding queued
none_hold [] e = record { are = refl; short = tt }
none_hold (x ∷ l) e = absurd (omega arith)

walks-holds : (f : ℕ) (l : List ℕ) → Bytes l → walks f l ≡ true → (ps : List (List ℕ)) × Holds l ps
unfolding walks queued
walks-holds zero l b e = ([], none_hold l (eqb-true (length l) 0 e))
walks-holds (suc f) l b e =
    go (eqb (length l) 0) refl (front l) refl e
    (λ h. walks-holds f (drop (bytes_of (front l)) l) (λ i. rw get_or-drop (b (bytes_of (front l) + i))) h)
  where
    go : (t : Bool) → eqb (length l) 0 ≡ t → (r : Option (ℕ × ℕ)) → front l ≡ r → (t || is_good (front l) && walks f (drop (bytes_of (front l)) l)) ≡ true
        → (walks f (drop (bytes_of (front l)) l) ≡ true → (ps : List (List ℕ)) × Holds (drop (bytes_of (front l)) l) ps)
        → (ps : List (List ℕ)) × Holds l ps
    go true t r p e ih = ([], none_hold l (eqb-true (length l) 0 t))
    go false t None p e ih = clash ((and-eq-true_iff _ _).0 e).0 (ap is_good p)
    go false t (Some (n, k)) p e ih =
        let behind = ih ((and-eq-true_iff (is_good (front l)) (walks f (drop (bytes_of (front l)) l))).0 e).1 in
        let parts = front_splits l n k b p in
        let rest : drop (k + n) l ≡ queued behind.0 = ap (λ (r : Option (ℕ × ℕ)). drop (bytes_of r) l) (sym p) ∙ behind.1.are in
        let few = (front-within l n k p).2 in
        (take n (drop k l) ∷ behind.0, record { are = parts.0 ∙ rw rest; short = (omega (arith, parts.1), behind.1.short) })

holds-walks : (ps : List (List ℕ)) (f : ℕ) → Short ps → length (queued ps) ≤ f → walks f (queued ps) ≡ true
unfolding walks queued
holds-walks [] zero h k = refl
holds-walks [] (suc f) h k = refl
holds-walks (p ∷ ps) zero h k = absurd (omega (arith, length-append (packed p) (queued ps), packed_some p))
holds-walks (p ∷ ps) (suc f) h k =
    let is = front-packed p (queued ps) h.0 in
    let behind : drop (bytes_of (front (packed p ++ queued ps))) (packed p ++ queued ps) ≡ queued ps = rw is (drop_at (packed p) (queued ps) _ (length-packed p)) in
    let rest = holds-walks ps f h.1 (omega (arith, length-append (packed p) (queued ps), packed_some p)) in
    either (eqb (length (packed p ++ queued ps)) 0) ((and-eq-true_iff _ _).1 (ap is_good is, rw behind rest))
  where
    either : {t : Bool} (s : Bool) → t ≡ true → (s || t) ≡ true
    either true e = refl
    either false e = e

-- packets that wait pass the tests, whatever their bytes are
pub left_good : {held : ℕ} {queue : List ℕ} {ps : List (List ℕ)} → Left held queue ps → good held queue ≡ true
unfolding good
left_good {held} {queue} {ps} h =
    let long : length (take held queue) ≡ held = length-take-le held queue (omega arith) in
    let walked = holds-walks ps held h.holds.short (omega (arith, ap length h.holds.are)) in
    simp and-eq-true_iff ((omega (arith, eq-eqb, le-leb), omega (arith, eq-eqb, le-leb)), rw h.holds.are walked)

pub decides_exactly : DecidesExactly
unfolding DecidesExactly good
decides_exactly held queue b = (there, λ h. left_good h.1)
  where
    there : good held queue ≡ true → (ps : List (List ℕ)) × Left held queue ps
    there e =
        let h = simp and-eq-true_iff at e in
        let w = walks-holds held (take held queue) (below_part 256 queue 0 held (lit< tt) b) h.1 in
        (w.0, record { size = omega (arith, eqb-true, leb-true); within = omega (arith, eqb-true, leb-true); holds = w.1 })

-- where the packet itself begins
pub behind-length : (p rest : List ℕ) → drop (length (number_bytes (length p))) (packed p ++ rest) ≡ p ++ rest
unfolding packed
behind-length p rest = rw (append_assoc (number_bytes (length p)) p rest) (drop_at (number_bytes (length p)) (p ++ rest) _ refl)

-- two packets in front of the same bytes are one, and so is what is behind them
packed_alike : (p q r s : List ℕ) → length p ≤ 1280 → length q ≤ 1280 → packed p ++ r ≡ packed q ++ s → (p ≡ q) × (r ≡ s)
packed_alike p q r s h k e =
    let one = front-packed p r h in
    let other = front-packed q s k in
    let long = (some_pair_parts (length p) (length q) _ _ (sym one ∙ ap front e ∙ other)).0 in
    let same : p ++ r ≡ q ++ s = sym (behind-length p r) ∙ ap (drop (length (number_bytes (length p)))) e ∙ rw long (behind-length q s) in
    (sym (take_at p r _ refl) ∙ ap (take (length p)) same ∙ take_at q s _ (sym long), sym (drop_at p r _ refl) ∙ ap (drop (length p)) same ∙ drop_at q s _ (sym long))

pub one_meaning : OneMeaning
unfolding OneMeaning queued
one_meaning bytes ps qs h k = go ps qs h.short k.short (sym h.are ∙ k.are)
  where
    go : (ps qs : List (List ℕ)) → Short ps → Short qs → queued ps ≡ queued qs → ps ≡ qs
    go [] [] h k e = refl
    go [] (q ∷ qs) h k e = absurd (omega (arith, ap length e, length-append (packed q) (queued qs), packed_some q))
    go (p ∷ ps) [] h k e = absurd (omega (arith, ap length e, length-append (packed p) (queued ps), packed_some p))
    go (p ∷ ps) (q ∷ qs) h k e =
        let parts = packed_alike p q (queued ps) (queued qs) h.0 k.0 e in
        λ i. parts.0 i ∷ go ps qs h.1 k.1 parts.1 i
