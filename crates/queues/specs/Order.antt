-- RULES, Two queues (queue-next to queue-control-waits): in which order packets go, said of the lists of packets that wait, and what
-- holds of every sequence of calls.
use Rattle.std.specs.Prelude.{ℕ, zero, suc, ◌+◌, ◌≤◌, ◌<◌, ◌≡◌, ◌⊎◌, ◌↔◌, ◌≢◌, List, [], ◌∷◌, ◌++◌, map, length, drop}
use Rattle.queues.specs.Channel.{Channel, Call, Take, Show, AddToControl, AddToFilm, Sent, FromControl, FromFilm, number, after, shown, sends, adds_control, adds_film, played, each, from_control, from_film, Waiting}

-- a memory past so many bytes is as it was
abbrev pub StaysPast : ℕ → List ℕ → List ℕ → Type 0
StaysPast held old new = drop held new ≡ drop held old

-- queue-add: the packet goes to the end of its queue, and what is past it stays; so do the other queue and the count
pub record AddsLast (c : Channel) (cs fs : List (List ℕ)) (p : List ℕ) : Type 0 where
  pub control : number c (AddToControl p) ≡ 0 → Waiting (after c (AddToControl p)) (cs ++ p ∷ []) fs
  pub film : number c (AddToFilm p) ≡ 0 → Waiting (after c (AddToFilm p)) cs (fs ++ p ∷ [])
  pub past_control : StaysPast (after c (AddToControl p)).state.control c.control (after c (AddToControl p)).control
  pub past_film : StaysPast (after c (AddToFilm p)).state.film c.film (after c (AddToFilm p)).film
  pub control_row : (after c (AddToControl p)).state.row ≡ c.state.row
  pub film_row : (after c (AddToFilm p)).state.row ≡ c.state.row

-- queue-next, queue-row: with packets cs and fs waiting and a row of n, this packet goes, and these and this row are left
pub data Goes : (cs fs : List (List ℕ)) (n : ℕ) → Sent → (cs' fs' : List (List ℕ)) (n' : ℕ) → Type 0 where
  -- control goes first
  control-first : {p f : List ℕ} {cs fs : List (List ℕ)} {n : ℕ} → n < 4 → Goes (p ∷ cs) (f ∷ fs) n (FromControl p) cs (f ∷ fs) (n + 1)
  -- but after four in a row a waiting film packet goes
  film-after_four : {p f : List ℕ} {cs fs : List (List ℕ)} {n : ℕ} → 4 ≤ n → Goes (p ∷ cs) (f ∷ fs) n (FromFilm f) (p ∷ cs) fs 0
  -- and while one queue is empty the other goes
  control-alone : {p : List ℕ} {cs : List (List ℕ)} {n : ℕ} → Goes (p ∷ cs) [] n (FromControl p) cs [] 0
  film-alone : {f : List ℕ} {fs : List (List ℕ)} {n : ℕ} → Goes [] (f ∷ fs) n (FromFilm f) [] fs 0

-- a queue that nothing was taken from
abbrev pub Untouched : Sent → Channel → Channel → Type 0
Untouched (FromControl p) c d = (d.film ≡ c.film) × (d.state.film ≡ c.state.film)
Untouched (FromFilm p) c d = (d.control ≡ c.control) × (d.state.control ≡ c.state.control)

-- queue-take: what is shown goes, from the front of its queue; the bytes past those then held stay, and so does the other queue
pub record TakesNext (c : Channel) (cs fs : List (List ℕ)) : Type 0 where
  pub cs' : List (List ℕ)
  pub fs' : List (List ℕ)
  pub goes : Goes cs fs c.state.row (shown c) cs' fs' (after c Take).state.row
  pub waiting : Waiting (after c Take) cs' fs'
  pub past_control : StaysPast (after c Take).state.control c.control (after c Take).control
  pub past_film : StaysPast (after c Take).state.film c.film (after c Take).film
  pub untouched : Untouched (shown c) c (after c Take)

-- what holds of a channel in which packets cs and fs wait
pub record InOrder (c : Channel) (cs fs : List (List ℕ)) : Type 0 where
  pub adds : (p : List ℕ) → AddsLast c cs fs p
  pub shows : after c Show ≡ c
  pub refuses : (x : Call) → number c x ≢ 0 → (after c x ≡ c) × (sends c x ≡ [])
  -- taking is refused exactly where nothing waits
  pub none : (number c Take ≡ 25) ↔ ((cs ≡ []) × (fs ≡ []))
  pub takes : (cs ≢ []) ⊎ (fs ≢ []) → (number c Take ≡ 0) × TakesNext c cs fs

unfoldable pub QueuesInOrder : Type 0
QueuesInOrder = (c : Channel) (cs fs : List (List ℕ)) → Waiting c cs fs → InOrder c cs fs

-- queue-in-order: whatever calls are made, the packets at first and those added since are those sent and those left, in order
pub record EachOnce (c : Channel) (cs fs : List (List ℕ)) (xs : List Call) : Type 0 where
  pub left_control : List (List ℕ)
  pub left_film : List (List ℕ)
  pub waiting : Waiting (played c xs) left_control left_film
  pub control : cs ++ each adds_control c xs ≡ from_control (each sends c xs) ++ left_control
  pub film : fs ++ each adds_film c xs ≡ from_film (each sends c xs) ++ left_film

unfoldable pub FirstInFirstOut : Type 0
FirstInFirstOut = (c : Channel) (cs fs : List (List ℕ)) → Waiting c cs fs → (xs : List Call) → EachOnce c cs fs xs

-- so many times taking
unfoldable pub taking : ℕ → List Call
taking zero = []
taking (suc n) = Take ∷ taking n

-- taking until 25 gives every packet that was there, each once, in the order of its queue
pub record Drained (c : Channel) (cs fs : List (List ℕ)) (xs : List Call) : Type 0 where
  pub control : from_control (each sends c xs) ≡ cs
  pub film : from_film (each sends c xs) ≡ fs
  pub refused : number (played c xs) Take ≡ 25

unfoldable pub TakenUntilEmpty : Type 0
TakenUntilEmpty = (c : Channel) (cs fs : List (List ℕ)) → Waiting c cs fs → Drained c cs fs (taking (length cs + length fs))

-- of what is sent, p comes behind at most n of others, all of them from the other queue; or fewer than n + 1 are sent at all
pub data Within (n : ℕ) (other : List ℕ → Sent) (p : Sent) : List Sent → Type 0 where
  soon : (before : List (List ℕ)) (behind : List Sent) → length before ≤ n → Within n other p (map other before ++ p ∷ behind)
  not_yet : (before : List (List ℕ)) → length before ≤ n → Within n other p (map other before)

-- queue-film-waits: at the front of film, among the next five taken, whatever is added and shown
unfoldable pub FilmWaits : Type 0
FilmWaits = (c : Channel) (cs fs : List (List ℕ)) (p : List ℕ) → Waiting c cs (p ∷ fs) → (xs : List Call) → Within 4 FromControl (FromFilm p) (each sends c xs)

-- queue-control-waits: at the front of control, behind one film packet at most
unfoldable pub ControlWaits : Type 0
ControlWaits = (c : Channel) (cs fs : List (List ℕ)) (p : List ℕ) → Waiting c (p ∷ cs) fs → (xs : List Call) → Within 1 FromFilm (FromControl p) (each sends c xs)
