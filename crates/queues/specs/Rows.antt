-- RULES, Two queues (queue-film-waits, queue-control-waits): how long a packet waits at any place of its queue.
use Rattle.std.specs.Prelude.{ℕ, suc, ◌+◌, ◌*◌, ◌/◌, List, [], ◌∷◌, ◌++◌, length}
use Rattle.queues.specs.Channel.{Channel, Call, Sent, FromControl, FromFilm, sends, each, Waiting}

-- of what is sent, p comes behind exactly these of its own queue, in order, and at most n of the other; or is yet to come
pub data Behind (own other : List ℕ → Sent) (p : List ℕ) : (ahead : List (List ℕ)) (n : ℕ) → List Sent → Type 0 where
  yet_to_come : {ahead : List (List ℕ)} {n : ℕ} → Behind own other p ahead n []
  comes : {n : ℕ} {sent : List Sent} → Behind own other p [] n (own p ∷ sent)
  own_first : {q : List ℕ} {ahead : List (List ℕ)} {n : ℕ} {sent : List Sent} → Behind own other p ahead n sent → Behind own other p (q ∷ ahead) n (own q ∷ sent)
  other-first : {q : List ℕ} {ahead : List (List ℕ)} {n : ℕ} {sent : List Sent} → Behind own other p ahead n sent → Behind own other p ahead (suc n) (other q ∷ sent)

-- behind one film packet at most, and one more for each four that are before it in control, whatever is added and shown
unfoldable pub ControlGoesBehind : Type 0
ControlGoesBehind =
    (c : Channel) (ahead cs fs : List (List ℕ)) (p : List ℕ) → Waiting c (ahead ++ p ∷ cs) fs →
    (xs : List Call) → Behind FromControl FromFilm p ahead (1 + length ahead / 4) (each sends c xs)

-- behind four control packets at most, and four more for each that is before it in film
unfoldable pub FilmGoesBehind : Type 0
FilmGoesBehind =
    (c : Channel) (ahead cs fs : List (List ℕ)) (p : List ℕ) → Waiting c cs (ahead ++ p ∷ fs) →
    (xs : List Call) → Behind FromFilm FromControl p ahead (4 * (1 + length ahead)) (each sends c xs)
