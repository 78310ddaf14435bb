-- RULES, Two queues: a channel is the state with its two queues. Calls on it one after the other: what they leave, what they add and
-- what they send.
use Rattle.std.specs.Prelude.{ℕ, ◌≡◌, cond, List, [], ◌∷◌, ◌++◌, eqb, length}
use Rattle.queues.specs.declared.State.{State}
use Rattle.queues.specs.Packets.{Left}
use Rattle.queues.specs.Calls.{empty, add, add_to_control, add_to_film, show, part_of, take_next}

pub record Channel : Type 0 where
  pub state : State
  pub control : List ℕ
  pub film : List ℕ

pub data Call : Type 0 where
  AddToControl : List ℕ → Call
  AddToFilm : List ℕ → Call
  Show : Call
  Take : Call

unfoldable pub number : Channel → Call → ℕ
number c (AddToControl p) = (add_to_control c.state c.control p).number
number c (AddToFilm p) = (add_to_film c.state c.film p).number
number c Show = (show c.state c.control c.film).number
number c Take = (take_next c.state c.control c.film).reply.number

unfoldable pub after : Channel → Call → Channel
after c (AddToControl p) = record { state = (add_to_control c.state c.control p).state; control = (add c.state.control c.control p).bytes; film = c.film }
after c (AddToFilm p) = record { state = (add_to_film c.state c.film p).state; control = c.control; film = (add c.state.film c.film p).bytes }
after c Show = c
after c Take = record {
  state = (take_next c.state c.control c.film).reply.state;
  control = (take_next c.state c.control c.film).control;
  film = (take_next c.state c.control c.film).film;
}

-- a packet that was taken, and the queue that it was in
pub data Sent : Type 0 where
  FromControl : List ℕ → Sent
  FromFilm : List ℕ → Sent

-- what showing shows
unfoldable pub shown : Channel → Sent
shown c =
    let d = show c.state c.control c.film in
    let part = part_of d c.control c.film in
    cond d.film (FromFilm part) (FromControl part)

-- a call that takes sends what showing shows
abbrev pub sends : Channel → Call → List Sent
sends c Take = cond (eqb (number c Take) 0) (shown c ∷ []) []
sends c Show = []
sends c (AddToControl p) = []
sends c (AddToFilm p) = []

abbrev pub adds_control : Channel → Call → List (List ℕ)
adds_control c (AddToControl p) = cond (eqb (number c (AddToControl p)) 0) (p ∷ []) []
adds_control c (AddToFilm p) = []
adds_control c Show = []
adds_control c Take = []

abbrev pub adds_film : Channel → Call → List (List ℕ)
adds_film c (AddToFilm p) = cond (eqb (number c (AddToFilm p)) 0) (p ∷ []) []
adds_film c (AddToControl p) = []
adds_film c Show = []
adds_film c Take = []

-- Calls one after the other

unfoldable pub played : Channel → List Call → Channel
played c [] = c
played c (x ∷ xs) = played (after c x) xs

-- what of each call, in order
unfoldable pub each : {A : Type 0} → (Channel → Call → List A) → Channel → List Call → List A
each f c [] = []
each f c (x ∷ xs) = f c x ++ each f (after c x) xs

abbrev pub from_control : List Sent → List (List ℕ)
from_control [] = []
from_control (FromControl p ∷ l) = p ∷ from_control l
from_control (FromFilm p ∷ l) = from_control l

abbrev pub from_film : List Sent → List (List ℕ)
from_film [] = []
from_film (FromControl p ∷ l) = from_film l
from_film (FromFilm p ∷ l) = p ∷ from_film l

-- The channels that calls reach

-- these packets wait, the first to go in front
pub record Waiting (c : Channel) (cs fs : List (List ℕ)) : Type 0 where
  pub control : Left c.state.control c.control cs
  pub film : Left c.state.film c.film fs

-- two queues of the right size and the empty state, whatever stands in them; then calls, refused or not
pub data Reached : Channel → Type 0 where
  begun : (control film : List ℕ) → length control ≡ 4096 → length film ≡ 4096 → Reached (record { state = empty; control = control; film = film })
  called : {c : Channel} → Reached c → (x : Call) → Reached (after c x)

-- in each of them packets wait, so that whatever is proved where packets wait holds of each
unfoldable pub ReachedWaits : Type 0
ReachedWaits = (c : Channel) → Reached c → (cs fs : List (List ℕ)) × Waiting c cs fs

-- and adding leaves all that it can leave: packets that fit, added one after the other, stand in the queue
unfoldable pub AddingLeaves : Type 0
AddingLeaves =
    (held : ℕ) (queue : List ℕ) (ps : List (List ℕ)) → Left held queue ps →
    (control film : List ℕ) → length control ≡ 4096 → length film ≡ 4096 →
    (xs : List Call) × Waiting (played (record { state = empty; control = control; film = film }) xs) ps []
