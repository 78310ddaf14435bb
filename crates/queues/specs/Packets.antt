-- RULES, Two queues (queue-packet, queue-held): the packets that a queue's held bytes are, and the walk that decides whether they are
-- any.
use Rattle.std.specs.Prelude.{ℕ, zero, suc, ◌+◌, ◌≤◌, ◌<◌, ◌≡◌, ◌↔◌, Bool, true, false, cond, ◌&&◌, ◌||◌, List, [], ◌∷◌, ◌++◌, eqb, leb, length, get_or, take, drop, Option, Some, None}
use Rattle.numbers.specs.Numbers.{number_bytes, read_number}

-- a packet as it stands in a queue, preceded by its length
unfoldable pub packed : List ℕ → List ℕ
packed p = number_bytes (length p) ++ p

-- packets one behind the other, the first to go in front
unfoldable pub queued : List (List ℕ) → List ℕ
queued [] = []
queued (p ∷ ps) = packed p ++ queued ps

-- each of 0 to 1,280 bytes
abbrev pub Short : List (List ℕ) → Type 0
Short [] = Unit {0}
Short (p ∷ ps) = (length p ≤ 1280) × Short ps

-- the meaning of held bytes
pub record Holds (bytes : List ℕ) (ps : List (List ℕ)) : Type 0 where
  pub are : bytes ≡ queued ps
  pub short : Short ps

-- a queue, with so many bytes held, that adding can leave: its size, and the packets that it holds
pub record Left (held : ℕ) (queue : List ℕ) (ps : List (List ℕ)) : Type 0 where
  pub size : length queue ≡ 4096
  pub within : held ≤ 4096
  pub holds : Holds (take held queue) ps

-- The walk

-- a packet in front of bytes, given its length n and how many bytes this takes: not too long, and not cut
abbrev pub whole : List ℕ → Option (ℕ × ℕ) → Option (ℕ × ℕ)
whole l (Some (n, k)) = cond (leb n 1280 && leb (k + n) (length l)) (Some (n, k)) None
whole l None = None

unfoldable pub front : List ℕ → Option (ℕ × ℕ)
front l = whole l (read_number l)

abbrev pub is_good : Option (ℕ × ℕ) → Bool
is_good (Some (n, k)) = true
is_good None = false

-- how many bytes it takes, with its length
abbrev pub bytes_of : Option (ℕ × ℕ) → ℕ
bytes_of (Some (n, k)) = k + n
bytes_of None = 0

-- from each packet to the one behind it, at most f of them
unfoldable pub walks : ℕ → List ℕ → Bool
walks zero l = eqb (length l) 0
walks (suc f) l = eqb (length l) 0 || is_good (front l) && walks f (drop (bytes_of (front l)) l)

unfoldable pub good : ℕ → List ℕ → Bool
good held queue = eqb (length queue) 4096 && leb held 4096 && walks held (take held queue)

abbrev pub Bytes : List ℕ → Type 0
Bytes l = (i : ℕ) → get_or l i 0 < 256

-- the walk decides exactly whether adding can leave the queue
unfoldable pub DecidesExactly : Type 0
DecidesExactly = (held : ℕ) (queue : List ℕ) → Bytes queue → (good held queue ≡ true) ↔ ((ps : List (List ℕ)) × Left held queue ps)

-- held bytes have one meaning
unfoldable pub OneMeaning : Type 0
OneMeaning = (bytes : List ℕ) (ps qs : List (List ℕ)) → Holds bytes ps → Holds bytes qs → ps ≡ qs
